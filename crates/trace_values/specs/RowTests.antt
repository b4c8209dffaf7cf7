-- Laws of the test of values: columns one after the other, and what the test says of a row.
use Prim.Native.Nat.{ℕ, zero, suc, ◌+◌, ◌*◌, ◌/◌, ◌%◌, ◌^◌, ◌≤◌, ◌<◌}
use Rattle.std.specs.Prelude.{◌≡◌, Bool, true, false, ◌&&◌, length, get_or, Option, Some, None}
use Rattle.std.specs.Option.{SomeIff, unwrap_or}
use Rattle.std.proofs.Math.Path.{refl, sym, subst}
use Rattle.std.specs.Prelude.{◌↔◌}
use Rattle.std.proofs.Common.{◌∙◌, mod-lt, div-add-mod', zero-mul, arith, pow_pos}
use mathlib.Core.List.{List}
use Rattle.std.proofs.Math.Nat.{div-eq_of_lt}
use borrow.Author.Tests.{lt-ltb, le-ltb, le-leb, lt-leb, eq-eqb, ne_eqb}
use lib.Dec.{T, ltb, eqb}
use Rattle.lists.specs.Tests.{every_from, every-at, every-from, and-1, and_T, T→true, true→T, no→false}
use Rattle.traces.specs.Trace.{fits, whole_rows, values_fit, row_count}

-- a shift by the width
pub fits-narrow : (w x : ℕ) → w < 64 → eqb (x / 2 ^ w) 0 ≡ fits w x
unfolding fits
fits-narrow w x h = rw (lt-leb 64 w h) (by_size (ltb x (2 ^ w)) refl)
  where
    by_size : (b : Bool) → ltb x (2 ^ w) ≡ b → eqb (x / 2 ^ w) 0 ≡ b
    by_size true e = rw (div-eq_of_lt (borrow.Author.Tests.ltb-true x (2 ^ w) e)) refl
    by_size false e =
        let l : 2 ^ w ≤ x = borrow.Author.Tests.ltb-false x (2 ^ w) e in
        ne_eqb (x / 2 ^ w) 0 (λ z.
        let q : x / 2 ^ w * 2 ^ w + x % 2 ^ w ≡ x = div-add-mod' x (2 ^ w) in
        let m : x % 2 ^ w < 2 ^ w = mod-lt x (pow_pos w) in
        let y : 0 * 2 ^ w + x % 2 ^ w ≡ x = rw z at q in
        let o : 0 * 2 ^ w ≡ 0 = zero-mul (2 ^ w) in
        omega arith)

pub fits-wide : (w x : ℕ) → 64 ≤ w → true ≡ fits w x
unfolding fits
fits-wide w x h = rw (le-leb 64 w h) refl

-- the quotient, where there is one
pub rows-by : (v len : ℕ) (q : Option ℕ) → SomeIff q (0 < v) (len / v) → unwrap_or q 1 ≡ row_count v len
unfolding row_count
rows-by zero len None h = refl
rows-by zero len (Some x) h = absurd (let l : 0 < 0 = h.0 in omega arith)
rows-by (suc v) len None h = absurd (h (omega arith))
rows-by (suc v) len (Some x) h = h.1

-- ---------------------------------------------------------------- the test

module _ (widths values : List ℕ) where
  abbrev fitting : ℕ → Bool
  fitting k = fits (get_or widths (k % length widths) 0) (get_or values k 0)

  whole_is : (v len : ℕ) → whole_rows v len ≡ eqb (len % v) 0
  unfolding whole_rows
  whole_is zero len = let e : len % 0 ≡ len = omega arith in rw e refl
  whole_is (suc v) len = refl

  pub part-row : {b : Bool} → (b ≡ true) ↔ (length values % length widths ≡ 0) → b ≡ false → false ≡ values_fit widths values
  unfolding values_fit
  part-row t f = rw (whole_is (length widths) (length values), ne_eqb _ _ (λ e. let q : ◌≡◌ {A = Bool} false true = sym f ∙ t.1 e in cc)) refl

  -- the first k values fit
  pub record FitTo (k : ℕ) : Type 0 where
    pub at : (j : ℕ) → j < k → T (fitting j)

  pub fit_next : (c k : ℕ) → c ≡ k % length widths → {b : Bool} → b ≡ fits (get_or widths c 0) (get_or values k 0) → b ≡ true → FitTo k → FitTo (k + 1)
  fit_next c k e {b} q t f = record { at = λ j h. by_place j (eqb j k) refl h }
    where
      by_place : (j : ℕ) (d : Bool) → eqb j k ≡ d → j < k + 1 → T (fitting j)
      by_place j true p h = rw (borrow.Author.Tests.eqb-true j k p, ← e) (true→T (sym q ∙ t))
      by_place j false p h = let n : j ≡ k → ⊥ = borrow.Author.Tests.eqb-false j k p in f.at j (omega arith)

  pub fit-fails : (c k : ℕ) → c ≡ k % length widths → k < length values → {b : Bool} → b ≡ fits (get_or widths c 0) (get_or values k 0) → b ≡ false → false ≡ values_fit widths values
  unfolding values_fit
  fit-fails c k e h q t =
      sym (no→false (whole_rows (length widths) (length values) && every_from fitting 0 (length values))
      (λ y. let z : T (fitting k) = every-at fitting 0 (length values) (and-1 (whole_rows (length widths) (length values)) _ y) k (omega arith) (omega arith) in
      subst T (sym q ∙ t) (rw e z)))

  pub fit-whole : length values % length widths ≡ 0 → (k : ℕ) → length values ≤ k → FitTo k → true ≡ values_fit widths values
  unfolding values_fit
  fit-whole w k l f =
      sym (T→true (whole_rows (length widths) (length values) && every_from fitting 0 (length values))
      (and_T (whole_rows (length widths) (length values)) _ (rw (whole_is (length widths) (length values), w) tt)
      (every-from fitting 0 (length values) (λ j a b. f.at j (omega arith)))))
