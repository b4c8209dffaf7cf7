-- A row's mask: bit k is 1 where assertion k holds; and how many of its bits are ones.
use Prim.Native.Nat.{ℕ, suc, ◌+◌, ◌-◌, ◌*◌, ◌/◌, ◌%◌, ◌^◌, ◌≤◌, ◌<◌}
use Rattle.std.specs.Prelude.{◌≡◌, reverse, Bool, true, false, T, eqb, Option}
use Rattle.std.proofs.Math.Path.{refl, ap}
use Rattle.std.proofs.Common.{sym, ◌∙◌, subst, pow_mono, drop-cons}
use mathlib.Core.List.{List, [], ◌∷◌, map}
use Rattle.std.proofs.Math.Bool.{cond}
use native.Mathlib.Nat.{pow-suc, lt_of_lt_of_le}
use native.Mathlib.Omega.{arith}
use Rattle.std.specs.Int.Count.{ones, ones_step}
use lib.ListN.{length, drop, get_or, length-drop, drop_of_length-le}
use Rattle.echo_spec.specs.Shapes.{Shape, var, const, binary, rotation, extraction, concat, extension, ite, comparison, negation, connective, unary, select, call, unknown, is_bool}
use Rattle.echo_spec.specs.Input.{Node, shape, no_node, nodes_of, ArrayWidths}
use Rattle.echo_spec.specs.Widths.{width_at, width_as}
use Rattle.vectors.specs.Values.{Value, truth, holds, mask, count}
use Rattle.values.specs.NodeValues.{value_at}
use Rattle.vectors.specs.VectorLaws.{by_two}
use Rattle.trace_terms.specs.Ready.{bool_at, ready, held, Agree, ValuedOn}
use Rattle.trace_tables.specs.Fixed.{Usable}
use Rattle.trace_tables.specs.Digits.{from-back}
use Rattle.trace_terms.specs.Arms.{whole}
use Rattle.trace_terms.specs.declared.Evaluation.{Evaluation}

-- an assertion that can be evaluated
pub record Root (nodes ws vw : List ℕ) (entry : List (Option ℕ)) (row : List ℕ) (i : ℕ) : Type 0 where
  pub good : T (ready (nodes_of nodes) ws vw entry row i)
  pub sort : bool_at (nodes_of nodes) i ≡ true

pub record Roots (nodes ws vw : List ℕ) (entry : List (Option ℕ)) (row roots : List ℕ) : Type 0 where
  pub few : length roots ≤ 64
  pub at : (k : ℕ) → k < length roots → Root nodes ws vw entry row (get_or roots k 0)

-- which assertions hold
abbrev pub holding : List ℕ → List ℕ → List ℕ → (ℕ → Value) → List ℕ → List Bool
holding nodes bits ws vars roots = map (λ i. holds (value_at (nodes_of nodes) ws bits vars i)) roots

pub record Masked (nodes bits ws vw : List ℕ) (entry : List (Option ℕ)) (row roots : List ℕ) (m : ℕ) : Type 0 where
  pub value : (vars : ℕ → Value) → Agree nodes ws vw entry row vars → m ≡ mask (holding nodes bits ws vars roots)
  pub below : m < 2 ^ length roots

-- the same of an evaluation
abbrev pub RootsOf : Evaluation → List ℕ → List ℕ → Type 0
RootsOf e row roots = Roots e.terms.problem.nodes.now e.terms.widths.now e.terms.problem.var_width.now e.entries.now row roots

abbrev pub MaskOf : Evaluation → List ℕ → List ℕ → ℕ → Type 0
MaskOf e row roots m = Masked e.terms.problem.nodes.now e.terms.problem.bits.now e.terms.widths.now e.terms.problem.var_width.now e.entries.now row roots m

-- ---------------------------------------------------------------- the count

-- as many ones as assertions that hold
pub ones-mask : (bs : List Bool) → ones (mask bs) ≡ count bs
unfolding mask count ones
ones-mask [] = refl
ones-mask (b ∷ bs) = by_first b (ones-mask bs)
  where
    by_first : (b : Bool) → ones (mask bs) ≡ count bs → ones (cond b 1 0 + 2 * mask bs) ≡ cond b 1 0 + count bs
    by_first true rest =
        let h : (1 + 2 * mask bs) / 2 ≡ mask bs = omega arith in
        let r : (1 + 2 * mask bs) % 2 ≡ 1 = omega arith in
        ones_step (1 + 2 * mask bs) ∙ rw (h, r) (ap (λ (k : ℕ). 1 + k) rest)
    by_first false rest =
        let h : (0 + 2 * mask bs) / 2 ≡ mask bs = omega arith in
        let r : (0 + 2 * mask bs) % 2 ≡ 0 = omega arith in
        ones_step (0 + 2 * mask bs) ∙ rw (h, r) (ap (λ (k : ℕ). 0 + k) rest)

-- ---------------------------------------------------------------- the mask, from the last assertion to the first

one-wide : (arrays : ArrayWidths) (tws : List ℕ) (n : Node) (s : Shape) → is_bool s ≡ true → width_as arrays tws n s ≡ 1
unfolding width_as is_bool
one-wide arrays tws n var e = absurd (subst T (sym e) tt)
one-wide arrays tws n const e = absurd (subst T (sym e) tt)
one-wide arrays tws n binary e = absurd (subst T (sym e) tt)
one-wide arrays tws n rotation e = absurd (subst T (sym e) tt)
one-wide arrays tws n extraction e = absurd (subst T (sym e) tt)
one-wide arrays tws n concat e = absurd (subst T (sym e) tt)
one-wide arrays tws n extension e = absurd (subst T (sym e) tt)
one-wide arrays tws n ite e = absurd (subst T (sym e) tt)
one-wide arrays tws n comparison e = refl
one-wide arrays tws n negation e = refl
one-wide arrays tws n connective e = refl
one-wide arrays tws n unary e = absurd (subst T (sym e) tt)
one-wide arrays tws n select e = absurd (subst T (sym e) tt)
one-wide arrays tws n call e = absurd (subst T (sym e) tt)
one-wide arrays tws n unknown e = absurd (subst T (sym e) tt)

module _ {nodes bits ws vw : List ℕ} {entry : List (Option ℕ)} {row roots : List ℕ} (l : Usable nodes bits ws) (rs : Roots nodes ws vw entry row roots) where
  pub root-bit : (i x : ℕ) → Root nodes ws vw entry row i → ValuedOn nodes bits ws vw entry row i x → x < 2
  root-bit i x r v =
      let w : width_at ws i ≡ 1 =
      (whole nodes bits ws vw entry row l i r.good (get_or (nodes_of nodes) i no_node) refl).width
      ∙ one-wide _ (lib.ListN.take i ws) (get_or (nodes_of nodes) i no_node) (shape (get_or (nodes_of nodes) i no_node)) r.sort in
      rw w at v.below

  abbrev From : ℕ → ℕ → Type 0
  From k m = Masked nodes bits ws vw entry row (drop k roots) m

  pub mask_start : From (length roots) 0
  unfolding mask
  mask_start =
      let e : drop (length roots) roots ≡ [] = drop_of_length-le roots (native.Mathlib.Nat.le_refl (length roots)) in
      rw e (record { value = λ vars ag. refl; below = omega arith })

  pub mask_fits : (k m : ℕ) → 0 < k → From k m → m < 2 ^ 63
  mask_fits k m p u =
      let few : length roots ≤ 64 = rs.few in
      let d : length (drop k roots) ≡ length roots - k = length-drop k roots in
      let h : length (drop k roots) ≤ 63 = omega arith in
      lt_of_lt_of_le u.below (pow_mono h)

  pub mask_next : (k m x : ℕ) → 0 < k → k ≤ length roots → ValuedOn nodes bits ws vw entry row (get_or roots (k - 1) 0) x → From k m → From (k - 1) (2 * m + x)
  unfolding mask holds
  mask_next k m x p h v u =
      let r : Root nodes ws vw entry row (get_or roots (k - 1) 0) = rs.at (k - 1) (omega arith) in
      let b : x < 2 = root-bit (get_or roots (k - 1) 0) x r v in
      let s : suc (k - 1) ≡ k = omega arith in
      let e : drop (k - 1) roots ≡ get_or roots (k - 1) 0 ∷ drop k roots = rw s at (drop-cons roots (k - 1) 0 (omega arith)) in
      let digit : cond (eqb x 1) 1 0 ≡ x = by_two (λ (a : ℕ). cond (eqb a 1) 1 0 ≡ a) refl refl x b in
      let m< : m < 2 ^ length (drop k roots) = u.below in
      rw e (record {
        value = λ vars ag.
            let t : value_at (nodes_of nodes) ws bits vars (get_or roots (k - 1) 0) ≡ truth (eqb x 1) =
            v.value vars ag ∙ ap (λ (c : Bool). held c (width_at ws (get_or roots (k - 1) 0)) x) r.sort in
            let q : cond (holds (value_at (nodes_of nodes) ws bits vars (get_or roots (k - 1) 0))) 1 0 ≡ x = ap (λ (z : Value). cond (holds z) 1 0) t ∙ digit in
            let o : m ≡ mask (holding nodes bits ws vars (drop k roots)) = u.value vars ag in
            omega (arith, q, o);
        below = rw (pow-suc 2 (length (drop k roots))) (omega arith);
      })

  -- the root that a walk from the last one back comes to, after n
  module _ (n i : ℕ) (t : (n < length (reverse roots)) × (i ≡ get_or (reverse roots) n i)) where
    pub root-turn : Root nodes ws vw entry row i
    root-turn =
        let f = from-back roots n i t in
        let l : n < length roots = f.0 in
        rw f.1 (rs.at (length roots - n - 1) (omega arith))

    pub mask-turn : (m x : ℕ) → ValuedOn nodes bits ws vw entry row i x → From (length roots - n) m → From (length roots - (n + 1)) (2 * m + x)
    mask-turn m x v u =
        let f = from-back roots n i t in
        let l : n < length roots = f.0 in
        let z : length roots - (n + 1) ≡ length roots - n - 1 = omega arith in
        let v' : ValuedOn nodes bits ws vw entry row (get_or roots (length roots - n - 1) 0) x = subst (λ (k : ℕ). ValuedOn nodes bits ws vw entry row k x) f.1 v in
        rw z (mask_next (length roots - n) m x (omega arith) (omega arith) v' u)

  pub mask-whole : (k m : ℕ) → k ≡ 0 → From k m → Masked nodes bits ws vw entry row roots m
  mask-whole k m e u = subst (λ (j : ℕ). From j m) e u
