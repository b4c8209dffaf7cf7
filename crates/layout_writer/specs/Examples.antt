-- Computed examples of the layout, and of what is not read.
use Rattle.std.specs.Prelude.{ℕ, false, List, [], ◌∷◌, ◌++◌, ◌≡◌, refl, replicate}
use Rattle.lists.specs.Bytes.{bytes as text}
use Rattle.echo_spec.specs.Input.{Problem, nodes_within, column_within, arena_within, within_limits}
use Rattle.readback.specs.Records.{record_bytes, records_bytes, inputs}
use Rattle.readback.specs.ReadAnswers.{limits_passed}
use Rattle.readback.specs.Examples.{all_read}
use Rattle.lent.specs.Lent.{problem_of}
use Rattle.layout_bytes.specs.Encoding.{le64, numbers_bytes, input_bytes, inputs_bytes, bytes_of_layout}
use Rattle.script_depth.specs.Nesting.{deep_from, too_deep}
use Rattle.layout_writer.specs.Telling.{given, no_script, script}

-- the lowest byte first; the largest number of 64 bits
two_bytes : le64 258 ≡ 2 ∷ 1 ∷ replicate 6 0
unfolding le64
two_bytes = refl

largest : le64 18446744073709551615 ≡ replicate 8 255
unfolding le64
largest = refl

-- the problem of nothing is eighteen counts of 0
all-empty : bytes_of_layout (problem_of [] [] [] [] [] [] [] [] [] [] [] [] [] [] [] [] [] []) ≡ replicate 144 0
unfolding le64 numbers_bytes input_bytes inputs_bytes bytes_of_layout
all-empty = refl

-- two node bytes, and the root 258: an element of the nodes has one byte and one of the roots eight, and counts are of elements
two-inputs : bytes_of_layout (problem_of (7 ∷ 9 ∷ []) [] [] (258 ∷ []) [] [] [] [] [] [] [] [] [] [] [] [] [] [])
    ≡ le64 2 ++ (7 ∷ 9 ∷ (replicate 16 0 ++ (le64 1 ++ (le64 258 ++ replicate 112 0))))
unfolding le64 numbers_bytes input_bytes inputs_bytes bytes_of_layout
two-inputs = refl

-- the file `stdin` of `print_problem`
abbrev m2_bytes : List ℕ
m2_bytes =
    (68 ∷ []) ++ (replicate 8 0 ++ ((8 ∷ []) ++ (replicate 15 0 ++ ((1 ∷ []) ++ (replicate 4 0 ++ ((8 ∷ []) ++ (replicate 11 0 ++ ((2 ∷ []) ++
    (replicate 4 0 ++ ((1 ∷ []) ++ (replicate 11 0 ++ ((19 ∷ 2 ∷ []) ++ (replicate 15 0 ++ ((8 ∷ []) ++ (replicate 7 0 ++ ((1 ∷ 0 ∷ 1 ∷ []) ++
    (replicate 13 0 ++ ((1 ∷ []) ++ (replicate 7 0 ++ ((3 ∷ []) ++ (replicate 7 0 ++ ((1 ∷ []) ++ (replicate 7 0 ++ ((120 ∷ 1 ∷ []) ++
    (replicate 15 0 ++ ((1 ∷ []) ++ (replicate 7 0 ++ ((1 ∷ []) ++ (replicate 7 0 ++ ((1 ∷ []) ++ (replicate 15 0 ++ ((1 ∷ []) ++ (replicate 7 0
    ++ ((8 ∷ []) ++ (replicate 79 0)))))))))))))))))))))))))))))))))))

-- M2: a variable x of width 8, the constant 5, their sum, and that it equals x
abbrev m2 : Problem
m2 =
    problem_of (0 ∷ 8 ∷ (replicate 15 0 ++ (1 ∷ (replicate 4 0 ++ (8 ∷ (replicate 11 0 ++ (2 ∷ (replicate 4 0 ++ (1 ∷ (replicate 11 0 ++ (19 ∷ 2 ∷ replicate 15 0)))))))))))
    (1 ∷ 0 ∷ 1 ∷ replicate 5 0) [] (3 ∷ []) (120 ∷ []) (0 ∷ []) (1 ∷ []) (0 ∷ []) (8 ∷ []) [] [] [] [] [] [] [] [] []

m2-layout : bytes_of_layout m2 ≡ m2_bytes
unfolding le64 numbers_bytes input_bytes inputs_bytes bytes_of_layout
m2-layout = refl

-- its script, and one with a blank more
m2-read :
    script (text "(set-logic QF_BV)\n(declare-const |x| (_ BitVec 8))\n(assert (= (bvadd |x| #b00000101) |x|))\n(check-sat)\n") ≡ given m2
unfolding all_read nodes_within column_within arena_within within_limits record_bytes records_bytes inputs limits_passed deep_from too_deep script
m2-read = refl

m2-blank :
    script (text "(set-logic QF_BV)\n(declare-const |x| (_ BitVec 8))\n(assert (= (bvadd |x| #b00000101)  |x|))\n(check-sat)\n") ≡ no_script
unfolding all_read nodes_within column_within arena_within within_limits record_bytes records_bytes inputs limits_passed deep_from too_deep script
m2-blank = refl

-- brackets in a name are none
not-deep : too_deep (text "(a |(((|)") ≡ false
unfolding text deep_from too_deep
not-deep = refl
