-- Brackets counted, a byte a turn. Assumes nothing.
use Prim.Native.Nat.{ℕ, suc, ◌+◌, ◌-◌, ◌≤◌, ◌<◌}
use mathlib.Core.Bool.{Bool, true, false, ◌||◌}
use mathlib.Core.List.{List, [], ◌∷◌}
use mathlib.Core.Path.{◌≡◌, ap, sym, ◌∙◌}
use native.Mathlib.Numerals.{add-one}
use native.Mathlib.Omega.{arith}
use borrow.Author.Tests.{lt-ltb, le-ltb}
use lib.Dec.{eqb, ltb}
use lib.ListN.{length, drop, get_or, drop_of_length-le}
use lib.Seq.{drop-cons}
use Rattle.script_depth.specs.Nesting.{deepest, turns, opens, deep_from}

-- ---------------------------------------------------------------- one byte

pub one_more : (named : Bool) (depth b : ℕ) → opens named depth b ≤ depth + 1
one_more true depth b = omega arith
one_more false depth b = by_tests (eqb b 40) (eqb b 41)
  where
    by_tests : (o c : Bool) → elim o [ true ↦ depth + 1 | false ↦ elim c [ true ↦ depth - 1 | false ↦ depth ] ] ≤ depth + 1
    by_tests true c = omega arith
    by_tests false true = omega arith
    by_tests false false = omega arith

-- ---------------------------------------------------------------- the rest of the bytes

pub deep-over : (named : Bool) (depth : ℕ) (s : List ℕ) → deepest < depth → deep_from named depth s ≡ true
unfolding deep_from
deep-over named depth [] l = lt-ltb deepest depth l
deep-over named depth (b ∷ s) l = ap (λ (t : Bool). t || deep_from (turns named b) (opens named depth b) s) (lt-ltb deepest depth l)

deep-under : (named : Bool) (depth b : ℕ) (s : List ℕ) → depth ≤ deepest → deep_from named depth (b ∷ s) ≡ deep_from (turns named b) (opens named depth b) s
unfolding deep_from
deep-under named depth b s l = ap (λ (t : Bool). t || deep_from (turns named b) (opens named depth b) s) (le-ltb deepest depth l)

module _ (s : List ℕ) (named : Bool) (depth i : ℕ) where
  pub deep_step : i < length s → depth ≤ deepest → deep_from named depth (drop i s) ≡ deep_from (turns named (get_or s i 0)) (opens named depth (get_or s i 0)) (drop (i + 1) s)
  deep_step l d =
      ap (deep_from named depth) (drop-cons s i 0 l) ∙ deep-under named depth (get_or s i 0) (drop (suc i) s) d
      ∙ ap (λ (n : ℕ). deep_from (turns named (get_or s i 0)) (opens named depth (get_or s i 0)) (drop n s)) (sym (add-one i))

  pub deep-end : length s ≤ i → deep_from named depth (drop i s) ≡ ltb deepest depth
  unfolding deep_from
  deep-end l = ap (deep_from named depth) (drop_of_length-le s l)
