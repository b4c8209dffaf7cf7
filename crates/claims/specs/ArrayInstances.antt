-- The claims on array widths at problems: each speaks of something. The problems have the arrays m and k, with a store into each.
use Rattle.std.specs.Prelude.{ℕ, ◌≡◌, refl, not, T, length, get_or, Ok, Err}
use Rattle.std.proofs.Common.{sym, arith}
use Rattle.std.proofs.Math.Path.{ap}
use mathlib.Core.List.{List, [], ◌∷◌, ◌++◌}
use Rattle.reading.specs.Kinds.{Var, Select}
use Rattle.reading.specs.Trees.{Array}
use Rattle.echo_spec.specs.Input.{Problem, array_columns, array_widths, nodes_of}
use Rattle.echo_spec.specs.Widths.{array_widths_ok}
use Rattle.echo_spec.specs.Answers.{Answer, reading, ext_wf_answer, echo_ext_answer}
use Rattle.echo_spec.specs.Examples.{node, problem_with, lent, all_meet}
use Rattle.echo_spec.specs.ArrayExamples.{two_arrays}
use Rattle.smtlib.specs.Readings.{Reads}
use Rattle.smtlib.specs.Sorts.{WellSorted}
use Rattle.smtlib.specs.Grammar.{Script}
use Rattle.sliver_kernel.specs.declared.WidthError.TheVariants.{Malformed, ArrayWidth}
use Rattle.theorems.specs.Answered.{printed}
use Rattle.claims.specs.Claims.{Accepts, WidthContract, well-sorted, one-reading, widths-uneven}
use Rattle.claims.specs.ArrayClaims.{array-widths-refused, pass-widths-refused, declared-widths, other-arrays}

-- ---------------------------------------------------------------- the printer

-- a 24-bit address part with 16-bit words, and flags by a bit
mapped : Problem
mapped = two_arrays (array_columns (24 ∷ 1 ∷ []) (16 ∷ 1 ∷ []))

accepted : Accepts mapped (lent 342)
unfolding all_meet mapped
accepted = refl

-- its script is well sorted, and reads as the problem
sorted : (s : Script) × WellSorted s
sorted = let w = well-sorted mapped (lent 342) accepted in (w.0, w.2)

read : Reads (printed mapped) (reading mapped)
read = (one-reading mapped (lent 342) accepted (reading mapped)).1 refl

-- array 0 is declared with 24 and 16
abbrev none : Array
none = record { name = []; index = 0; value = 0 }

declared : get_or (reading mapped).declarations.arrays 0 none ≡ record { name = 109 ∷ []; index = 24; value = 16 }
unfolding all_meet mapped
declared = (declared-widths mapped (lent 342) accepted 0 (omega arith) none).0

-- the same with k's values of width 0, which is 12
zero-width : Problem
zero-width = two_arrays (array_columns (24 ∷ 1 ∷ []) (16 ∷ 0 ∷ []))

refused : (echo_ext_answer zero-width (lent 0)).number ≡ 12
unfolding all_meet zero-width
refused = (array-widths-refused zero-width (lent 0)).1 (tt, tt, tt, tt)

not-allowed : T (not (array_widths_ok (array_widths zero-width)))
unfolding zero-width
not-allowed = ((array-widths-refused zero-width (lent 0)).0 refused).3

-- ---------------------------------------------------------------- two problems that differ in one width

-- nothing but an array of this name and of these widths
alone : ℕ → ℕ → Problem
alone index value = problem_with [] [] [] [] [] ("m" ∷ []) (array_columns (index ∷ []) (value ∷ [])) []

accepted-alone : Accepts (alone 24 16) (lent 87) × Accepts (alone 24 8) (lent 87) × Accepts (alone 16 16) (lent 87)
unfolding all_meet alone
accepted-alone = (refl, refl, refl)

other-value : printed (alone 24 16) ≡ printed (alone 24 8) → ⊥
other-value =
    other-arrays (alone 24 16) (alone 24 8) (lent 87) (lent 87) accepted-alone.0 accepted-alone.1
    (λ e. let q : ◌≡◌ {A = ℕ} 16 8 = unfold all_meet alone in ap (λ (arrays : List Array). (get_or arrays 0 none).value) e in absurd (omega arith))

other-index : printed (alone 24 16) ≡ printed (alone 16 16) → ⊥
other-index =
    other-arrays (alone 24 16) (alone 16 16) (lent 87) (lent 87) accepted-alone.0 accepted-alone.2
    (λ e. let q : ◌≡◌ {A = ℕ} 24 16 = unfold all_meet alone in ap (λ (arrays : List Array). (get_or arrays 0 none).index) e in absurd (omega arith))

-- ---------------------------------------------------------------- calls of the width pass

-- a variable of 24 bits and a select by it from array 0
selected : List ℕ
selected = node Var 24 0 0 0 ++ node Select 0 0 0 0

passed : WidthContract (Ok 2) selected [] [] (array_columns (24 ∷ []) (16 ∷ [])) (lent 3) (24 ∷ 16 ∷ 170 ∷ [])
unfolding all_meet selected
passed = refl

-- the columns differ in length: the node count is told
uneven : WidthContract (Err (Malformed 2)) selected [] [] (array_columns (24 ∷ []) []) (lent 2) (0 ∷ 0 ∷ [])
unfolding all_meet selected
uneven = refl

node-count : 2 ≡ length (nodes_of selected)
node-count = widths-uneven selected [] [] (array_columns (24 ∷ []) []) (lent 2) (0 ∷ 0 ∷ []) 2 uneven (λ e. omega arith)

-- a width that is too large
too_wide : WidthContract (Err ArrayWidth) selected [] [] (array_columns (65537 ∷ []) (16 ∷ [])) (lent 2) (0 ∷ 0 ∷ [])
unfolding all_meet selected
too_wide = refl

too-wide-pass : T (not (array_widths_ok (array_columns (65537 ∷ []) (16 ∷ []))))
unfolding ext_wf_answer
too-wide-pass = ((pass-widths-refused selected [] [] (array_columns (65537 ∷ []) (16 ∷ [])) (lent 2)).0 (ap (λ (x : Answer). x.number) (sym too_wide))).3
