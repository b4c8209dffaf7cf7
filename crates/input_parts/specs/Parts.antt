-- The printer's eighteen inputs as parts of one byte string: for each input, where its elements begin and how many there are.
use Rattle.std.specs.Prelude.{ℕ, ◌+◌, ◌*◌, List, [], ◌∷◌, take, drop, get_or}
use Rattle.lists.specs.Build.{tabulate}
use Rattle.echo_spec.specs.Input.{Problem, word32}
use Rattle.lent.specs.Lent.{problem_of}
use Rattle.input_parts.specs.declared.Part.{Part}

-- the bytes of one element of each input
unfoldable pub sizes : List ℕ
sizes = 1 ∷ 1 ∷ 8 ∷ 8 ∷ 1 ∷ 8 ∷ 8 ∷ 8 ∷ 8 ∷ 1 ∷ 8 ∷ 8 ∷ 8 ∷ 8 ∷ 1 ∷ 8 ∷ 8 ∷ 8 ∷ []

unfoldable pub size_of : ℕ → ℕ
size_of k = get_or sizes k 0

-- how many elements there is room for: of numbers the columns' room, of bytes any count of 32 bits
unfoldable pub rooms : List ℕ
rooms =
    4294967295 ∷ 4294967295 ∷ 8200 ∷ 264 ∷ 4294967295 ∷ 520 ∷ 520 ∷ 520 ∷ 520 ∷ 4294967295 ∷ 520 ∷ 520 ∷ 520 ∷ 520 ∷ 4294967295 ∷ 520 ∷ 520 ∷ 520 ∷ []

unfoldable pub room_of : ℕ → ℕ
room_of k = get_or rooms k 0

-- 64 bits from place i on, least significant byte first
unfoldable pub word64 : List ℕ → ℕ → ℕ
word64 s i = word32 s i + 4294967296 * word32 s (i + 4)

-- n bytes, and n numbers, from place i on
abbrev pub bytes_at : List ℕ → ℕ → ℕ → List ℕ
bytes_at s i n = take n (drop i s)

abbrev pub numbers_at : List ℕ → ℕ → ℕ → List ℕ
numbers_at s i n = tabulate n (λ j. word64 s (i + 8 * j))

-- the part of input k, and its elements
abbrev pub part_at : List Part → ℕ → Part
part_at at k = get_or at k (record { start = 0; count = 0 })

abbrev pub bytes_part : List ℕ → List Part → ℕ → List ℕ
bytes_part s at k = bytes_at s (part_at at k).start (part_at at k).count

abbrev pub numbers_part : List ℕ → List Part → ℕ → List ℕ
numbers_part s at k = numbers_at s (part_at at k).start (part_at at k).count

unfoldable pub problem_from : List ℕ → List Part → Problem
problem_from s at =
    let b : ℕ → List ℕ = bytes_part s at in
    let n : ℕ → List ℕ = numbers_part s at in
    problem_of (b 0) (b 1) (n 2) (n 3) (b 4) (n 5) (n 6) (n 7) (n 8) (b 9) (n 10) (n 11) (n 12) (n 13) (b 14) (n 15) (n 16) (n 17)
