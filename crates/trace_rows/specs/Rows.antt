-- Rows of a trace, each with its mask and count at its place.
use Rattle.std.specs.Prelude.{ℕ, ◌+◌, ◌-◌, ◌*◌, ◌≤◌, ◌<◌, ◌≡◌, refl, List, Bool, true, false, T, eqb, length, take, drop, get_or, set, Option}
use Rattle.std.proofs.Common.{ap, sym, ◌∙◌, subst, arith, eqb→eq, le_trans, le_of_eq, suc-mul, mul-le-mul_right, length-set, get_or-set_same, get_or-set_other}
use Rattle.std.specs.Int.Count.{ones}
use Rattle.std.proofs.Math.Dec.{eqb_refl}
use Rattle.lists.specs.Tests.{true→T}
use Rattle.trace_terms.specs.declared.Evaluation.{Evaluation}
use Rattle.trace_rows.specs.Masks.{Roots, Masked}

abbrev pub row_at : List ℕ → List ℕ → ℕ → List ℕ
row_at vw values j = take (length vw) (drop (j * length vw) values)

-- n rows that can be evaluated
pub record Trace (nodes ws vw : List ℕ) (entry : List (Option ℕ)) (values roots : List ℕ) (n : ℕ) : Type 0 where
  pub inside : n * length vw ≤ length values
  pub at : (j : ℕ) → j < n → Roots nodes ws vw entry (row_at vw values j) roots

-- the first n places have the rows' masks and counts; the others are as they were
pub record Done (nodes bits ws vw : List ℕ) (entry : List (Option ℕ)) (values roots masks₀ counts₀ : List ℕ) (n : ℕ) (masks counts : List ℕ) : Type 0 where
  pub masked : (j : ℕ) → j < n → Masked nodes bits ws vw entry (row_at vw values j) roots (get_or masks j 0)
  pub counted : (j : ℕ) → j < n → get_or counts j 0 ≡ ones (get_or masks j 0)
  pub masks_rest : (j : ℕ) → n ≤ j → get_or masks j 0 ≡ get_or masks₀ j 0
  pub counts_rest : (j : ℕ) → n ≤ j → get_or counts j 0 ≡ get_or counts₀ j 0
  pub masks_length : length masks ≡ length masks₀
  pub counts_length : length counts ≡ length counts₀

-- the same of an evaluation
abbrev pub TraceOf : Evaluation → List ℕ → List ℕ → ℕ → Type 0
TraceOf e values roots n = Trace e.terms.problem.nodes.now e.terms.widths.now e.terms.problem.var_width.now e.entries.now values roots n

abbrev pub DoneOf : Evaluation → List ℕ → List ℕ → List ℕ → List ℕ → ℕ → List ℕ → List ℕ → Type 0
DoneOf e values roots masks₀ counts₀ n masks counts =
    Done e.terms.problem.nodes.now e.terms.problem.bits.now e.terms.widths.now e.terms.problem.var_width.now e.entries.now values roots masks₀ counts₀ n masks counts

module _ (nodes bits ws vw : List ℕ) (entry : List (Option ℕ)) (values roots masks₀ counts₀ : List ℕ) where
  abbrev Upto : ℕ → List ℕ → List ℕ → Type 0
  Upto n masks counts = Done nodes bits ws vw entry values roots masks₀ counts₀ n masks counts

  pub rows_next : (j m c : ℕ) (masks counts : List ℕ) → j < length masks → j < length counts
      → Masked nodes bits ws vw entry (row_at vw values j) roots m → c ≡ ones m → Upto j masks counts → Upto (j + 1) (set masks j m) (set counts j c)
  rows_next j m c masks counts h k p q u = record {
    masked = λ i l. mask-place i (eqb i j) refl l;
    counted = λ i l. count-place i (eqb i j) refl l;
    masks_rest = λ i l. get_or-set_other masks j i m 0 (λ e. omega arith) ∙ u.masks_rest i (omega arith);
    counts_rest = λ i l. get_or-set_other counts j i c 0 (λ e. omega arith) ∙ u.counts_rest i (omega arith);
    masks_length = length-set masks j m ∙ u.masks_length;
    counts_length = length-set counts j c ∙ u.counts_length;
  }
    where
      far : (i : ℕ) → eqb i j ≡ false → (i ≡ j → ⊥)
      far i e q = subst T e (rw q (eqb_refl j))

      mask-place : (i : ℕ) (b : Bool) → eqb i j ≡ b → i < j + 1 → Masked nodes bits ws vw entry (row_at vw values i) roots (get_or (set masks j m) i 0)
      mask-place i true e l =
          subst (λ (a : ℕ). Masked nodes bits ws vw entry (row_at vw values a) roots (get_or (set masks j m) a 0)) (sym (eqb→eq i j (true→T e)))
          (subst (λ (a : ℕ). Masked nodes bits ws vw entry (row_at vw values j) roots a) (sym (get_or-set_same masks j m 0 h)) p)
      mask-place i false e l =
          let f : i ≡ j → ⊥ = far i e in
          subst (λ (a : ℕ). Masked nodes bits ws vw entry (row_at vw values i) roots a) (sym (get_or-set_other masks j i m 0 f)) (u.masked i (omega arith))

      count-place : (i : ℕ) (b : Bool) → eqb i j ≡ b → i < j + 1 → get_or (set counts j c) i 0 ≡ ones (get_or (set masks j m) i 0)
      count-place i true e l =
          subst (λ (a : ℕ). get_or (set counts j c) a 0 ≡ ones (get_or (set masks j m) a 0)) (sym (eqb→eq i j (true→T e)))
          (get_or-set_same counts j c 0 k ∙ q ∙ ap ones (sym (get_or-set_same masks j m 0 h)))
      count-place i false e l =
          let f : i ≡ j → ⊥ = far i e in
          get_or-set_other counts j i c 0 f ∙ u.counted i (omega arith) ∙ ap ones (sym (get_or-set_other masks j i m 0 f))

module _ (vw values : List ℕ) where
  -- a row of v values, as it was taken out
  pub row_is : (j : ℕ) → take (j * length vw + length vw - j * length vw) (drop (j * length vw) values) ≡ row_at vw values j
  row_is j = let z : j * length vw + length vw - j * length vw ≡ length vw = omega arith in rw z refl

  -- where it ends
  pub row-end : (j n : ℕ) → j < n → n * length vw ≤ length values → j * length vw + length vw ≤ length values
  row-end j n l h = le_trans (le_of_eq (sym (suc-mul j (length vw)))) (le_trans (mul-le-mul_right (length vw) l) h)
