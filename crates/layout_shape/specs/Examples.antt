-- Computed examples of the layout.
use Rattle.std.specs.Prelude.{ℕ, ◌≡◌, refl, List, [], ◌∷◌, ◌++◌, replicate}
use Rattle.echo_spec.specs.Input.{word32}
use Rattle.lent.specs.Lent.{problem_of}
use Rattle.input_parts.specs.Parts.{sizes, size_of, word64}
use Rattle.layout_shape.specs.Layout.{early, too_large, left_over, given, inputs, input_at, place_of, bytes_of, numbers_of, problem_in, inputs_from, layout}

-- a count or a number below 65,536
abbrev number : ℕ → ℕ → List ℕ
number low high = low ∷ high ∷ replicate 6 0

-- eighteen counts of 0 are the problem of nothing; a byte less, or one more; no byte at all
all-empty : layout (replicate 144 0) ≡ given (problem_of [] [] [] [] [] [] [] [] [] [] [] [] [] [] [] [] [] [])
unfolding inputs input_at sizes size_of word32 word64 place_of bytes_of numbers_of problem_in inputs_from layout
all-empty = refl

last-cut : layout (replicate 143 0) ≡ early 17
unfolding inputs input_at sizes size_of word32 word64 place_of inputs_from layout
last-cut = refl

one_more : layout (replicate 145 0) ≡ left_over
unfolding inputs input_at sizes size_of word32 word64 place_of inputs_from layout
one_more = refl

no_bytes : layout [] ≡ early 0
unfolding inputs input_at sizes size_of word32 word64 place_of inputs_from layout
no_bytes = refl

-- 257 roots are too many, whether they are there or not; 256 are not, but have to be there
too-many-roots : layout (replicate 24 0 ++ number 1 1) ≡ too_large 3
unfolding inputs input_at sizes size_of word32 word64 place_of inputs_from layout
too-many-roots = refl

roots-missing : layout (replicate 24 0 ++ number 0 1) ≡ early 3
unfolding inputs input_at sizes size_of word32 word64 place_of inputs_from layout
roots-missing = refl

-- two node bytes, and the root 258: an element of the nodes has one byte and one of the roots eight, the lowest first
two-inputs : layout (number 2 0 ++ (7 ∷ 9 ∷ (replicate 16 0 ++ (number 1 0 ++ (number 2 1 ++ replicate 112 0)))))
    ≡ given (problem_of (7 ∷ 9 ∷ []) [] [] (258 ∷ []) [] [] [] [] [] [] [] [] [] [] [] [] [] [])
unfolding inputs input_at sizes size_of word32 word64 place_of bytes_of numbers_of problem_in inputs_from layout
two-inputs = refl
