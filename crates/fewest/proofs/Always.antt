-- Every refusal from 1 to 7 has its list, of two positions at most.
use Rattle.std.specs.Prelude.{ℕ, zero, suc, ◌≤◌, ◌<◌, ◌≡◌, Bool, true, false, ◌⊎◌, eqb, length, get_or}
use Rattle.std.proofs.Math.Path.{refl, sym, subst}
use Rattle.std.proofs.Common.{◌∙◌, inl, inr, arith}
use mathlib.Core.List.{List, [], ◌∷◌}
use borrow.Author.Tests.{eqb-false, le-leb}
use Rattle.lists.specs.Tests.{true→T}
use Rattle.echo_spec.specs.Refusals.{unless}
use Rattle.echo_spec.specs.Input.{Problem, Dag, array_widths, within_limits, encoded, nodes_of, dag_of}
use Rattle.echo_spec.specs.Widths.{array_widths_ok, ext_wf_of}
use Rattle.echo_spec.specs.Names.{names_ok}
use Rattle.echo_spec.specs.Sharing.{unshared}
use Rattle.echo_spec.specs.Tables.{columns_ok, decl_vars_ok, decl_funcs_ok}
use Rattle.echo_spec.specs.Walk.{walk_roots, checks, refusal_with}
use Rattle.echo_spec.specs.Answers.{endless_with, endless_refusal}
use Rattle.fewest.specs.Fewest.{with_roots, roots_at, same_number, fewest}
use Rattle.fewest.specs.Least.{LeastList, least-exists}
use Rattle.fewest.proofs.Least.{first-is}
use Rattle.fewest.specs.Uses.{Operator, two-shared, pair_of}
use Rattle.fewest.specs.Refused.{roots_few, within-with, checked-with, declared, Numbered, walk_none, walk_first}
use Rattle.fewest.proofs.Refused.{number, six, apart_none, apart-one}

-- the widths of the nodes
abbrev widths_of : Problem → List ℕ
widths_of p = ext_wf_of (length p.bits) (array_widths p) p.side (nodes_of p.nodes)

-- ---------------------------------------------------------------- refused before the names, or by the tables

abbrev Before : Problem → Type 0
Before p = (r : ℕ) × ((s t : ℕ) → endless_with p (checks (dag_of p) (widths_of p) s t) ≡ r)

stages : (p : Problem) → Before p ⊎ Numbered p (widths_of p)
unfolding endless_with endless_refusal refusal_with dag_of
stages p = by-limits (within_limits p) refl
  where
    by-widths : within_limits p ≡ true → encoded p.nodes p.bits ≡ true → columns_ok (dag_of p) ≡ true → array_widths_ok (array_widths p) ≡ true
        → (b : Bool) → eqb (length (widths_of p)) (length (nodes_of p.nodes)) ≡ b → Before p ⊎ Numbered p (widths_of p)
    by-widths w e c a false q = inl (1, λ s t. rw (w, e, c, a, q) refl)
    by-widths w e c a true q = inr (record { few = roots_few p (true→T w); with = λ rs l. rw (within-with p rs l w, e, c, a, q) refl })

    by-arrays : within_limits p ≡ true → encoded p.nodes p.bits ≡ true → columns_ok (dag_of p) ≡ true → (b : Bool) → array_widths_ok (array_widths p) ≡ b → Before p ⊎ Numbered p (widths_of p)
    by-arrays w e c false a = inl (12, λ s t. rw (w, e, c, a) refl)
    by-arrays w e c true a = by-widths w e c a (eqb (length (widths_of p)) (length (nodes_of p.nodes))) refl

    by-columns : within_limits p ≡ true → encoded p.nodes p.bits ≡ true → (b : Bool) → columns_ok (dag_of p) ≡ b → Before p ⊎ Numbered p (widths_of p)
    by-columns w e false c = inl (1, λ s t. rw (w, e, c) refl)
    by-columns w e true c = by-arrays w e c (array_widths_ok (array_widths p)) refl

    by-encoding : within_limits p ≡ true → (b : Bool) → encoded p.nodes p.bits ≡ b → Before p ⊎ Numbered p (widths_of p)
    by-encoding w false e = inl (8, λ s t. rw (w, e) refl)
    by-encoding w true e = by-columns w e (columns_ok (dag_of p)) refl

    by-limits : (b : Bool) → within_limits p ≡ b → Before p ⊎ Numbered p (widths_of p)
    by-limits false w = inl (9, λ s t. rw w refl)
    by-limits true w = by-encoding w (encoded p.nodes p.bits) refl

-- ---------------------------------------------------------------- not all short lists fail

-- a root that is refused as all are
walk-some : (d : Dag) (ws roots : List ℕ) → 1 ≤ walk_roots d ws roots → (k : ℕ) × ((k < length roots) × (walk_roots d ws (get_or roots k 0 ∷ []) ≡ walk_roots d ws roots))
walk-some d ws [] h = absurd (omega (arith, walk_none d ws))
walk-some d ws (x ∷ xs) h = go (walk_roots d ws (x ∷ [])) refl (λ l. walk-some d ws xs l)
  where
    go : (m : ℕ) → walk_roots d ws (x ∷ []) ≡ m → (1 ≤ walk_roots d ws xs → (k : ℕ) × ((k < length xs) × (walk_roots d ws (get_or xs k 0 ∷ []) ≡ walk_roots d ws xs)))
        → (k : ℕ) × ((k < length (x ∷ xs)) × (walk_roots d ws (get_or (x ∷ xs) k 0 ∷ []) ≡ walk_roots d ws (x ∷ xs)))
    go zero e rest =
        let q : walk_roots d ws (x ∷ xs) ≡ walk_roots d ws xs = walk_first d ws x xs ∙ rw e refl in
        let (k, (l, f)) = rest (omega arith) in
        (suc k, (omega arith, f ∙ sym q))
    go (suc m) e rest = (0, (omega arith, e ∙ sym (walk_first d ws x xs ∙ rw e refl)))

module _ (p : Problem) (low : 1 ≤ endless_refusal p) (high : endless_refusal p ≤ 7) where
  -- a list that fails has another number
  other : (ks : List ℕ) → same_number p ks ≡ false → endless_refusal (with_roots p (roots_at p ks)) ≡ endless_refusal p → ⊥
  unfolding same_number
  other ks e q = eqb-false (endless_refusal (with_roots p (roots_at p ks))) (endless_refusal p) e q

  module _ (none : same_number p [] ≡ false) (alone : (i : ℕ) → i < length p.roots → same_number p (i ∷ []) ≡ false)
      (pairs : (a b : ℕ) → a < b → b < length p.roots → same_number p (a ∷ b ∷ []) ≡ false) where
    before-fails : Before p → ⊥
    unfolding endless_refusal refusal_with dag_of
    before-fails (r, h) =
        let is : endless_refusal p ≡ r = h (unless (unshared (nodes_of p.nodes) p.side p.roots) 6) (walk_roots (dag_of p) (widths_of p) p.roots) in
        let also : endless_refusal (with_roots p []) ≡ r =
        checked-with p [] (omega arith) _ (h (unless (unshared (nodes_of p.nodes) p.side []) 6) (walk_roots (dag_of p) (widths_of p) [])) (omega (arith, is, high)) in
        other [] none (also ∙ sym is)

    module _ (n : Numbered p (widths_of p)) where
      shared-fails : names_ok (dag_of p) ≡ true → unshared (nodes_of p.nodes) p.side p.roots ≡ false → ⊥
      shared-fails named shared =
          let ns = nodes_of p.nodes in
          let is : endless_refusal p ≡ 6 = six p (widths_of p) n named shared in
          let (i, (o, (j, (k, z)))) =
          pair_of ns p.side p.roots shared (apart [] (omega arith) none is) (λ k l. apart (k ∷ []) (omega arith) (alone k l) is) in
          let u : k < length p.roots = z.second.inside in
          let same : get_or p.roots j 0 ≡ get_or p.roots k 0 = z.first.is ∙ sym z.second.is in
          let f = two-shared ns p.side (get_or p.roots j 0) (get_or p.roots k 0) same (subst (λ (y : ℕ). Operator ns y) (sym z.first.is) o) in
          other (j ∷ k ∷ []) (pairs j k z.rises u) (number p (widths_of p) n named (get_or p.roots j 0 ∷ get_or p.roots k 0 ∷ []) (omega arith) f ∙ sym is)
        where
          -- a list that fails shares no operator
          apart : (ks : List ℕ) → length (roots_at p ks) ≤ 256 → same_number p ks ≡ false → endless_refusal p ≡ 6 → unshared (nodes_of p.nodes) p.side (roots_at p ks) ≡ true
          apart ks l e is = go (unshared (nodes_of p.nodes) p.side (roots_at p ks)) refl
            where
              go : (b : Bool) → unshared (nodes_of p.nodes) p.side (roots_at p ks) ≡ b → b ≡ true
              go true q = refl
              go false q = absurd (other ks e (number p (widths_of p) n named (roots_at p ks) l q ∙ sym is))

      passed-fails : names_ok (dag_of p) ≡ true → unshared (nodes_of p.nodes) p.side p.roots ≡ true → ⊥
      passed-fails named clear = by-variables (decl_vars_ok (dag_of p)) refl
        where
          -- the number stays the same with no root
          fixed : {r : ℕ} → ((w : ℕ) → declared (dag_of p) (widths_of p) w ≡ r) → ⊥
          fixed h =
              other [] none
              (number p (widths_of p) n named [] (omega arith) (apart_none p (widths_of p) n named clear) ∙ h (walk_roots (dag_of p) (widths_of p) [])
              ∙ sym (number p (widths_of p) n named p.roots n.few clear ∙ h (walk_roots (dag_of p) (widths_of p) p.roots)))

          walk-fails : ((w : ℕ) → declared (dag_of p) (widths_of p) w ≡ w) → ⊥
          walk-fails h =
              let is : endless_refusal p ≡ walk_roots (dag_of p) (widths_of p) p.roots = number p (widths_of p) n named p.roots n.few clear ∙ h (walk_roots (dag_of p) (widths_of p) p.roots) in
              let (k, (l, e)) = walk-some (dag_of p) (widths_of p) p.roots (omega (arith, is, low)) in
              let at : endless_refusal (with_roots p (get_or p.roots k 0 ∷ [])) ≡ walk_roots (dag_of p) (widths_of p) (get_or p.roots k 0 ∷ []) =
              number p (widths_of p) n named (get_or p.roots k 0 ∷ []) (omega arith) (apart-one p (widths_of p) n named clear k l) ∙ h (walk_roots (dag_of p) (widths_of p) (get_or p.roots k 0 ∷ [])) in
              other (k ∷ []) (alone k l) (at ∙ e ∙ sym is)

          by-functions : decl_vars_ok (dag_of p) ≡ true → (b : Bool) → decl_funcs_ok (dag_of p) (widths_of p) ≡ b → ⊥
          by-functions v false f = fixed {r = 7} (λ w. rw (v, f) refl)
          by-functions v true f = walk-fails (λ w. rw (v, f) refl)

          by-variables : (b : Bool) → decl_vars_ok (dag_of p) ≡ b → ⊥
          by-variables false v = fixed {r = 4} (λ w. rw v refl)
          by-variables true v = by-functions v (decl_funcs_ok (dag_of p) (widths_of p)) refl

      numbered-fails : ⊥
      numbered-fails = by_names (names_ok (dag_of p)) refl
        where
          by-sharing : names_ok (dag_of p) ≡ true → (b : Bool) → unshared (nodes_of p.nodes) p.side p.roots ≡ b → ⊥
          by-sharing named false s = shared-fails named s
          by-sharing named true s = passed-fails named s

          by_names : (b : Bool) → names_ok (dag_of p) ≡ b → ⊥
          by_names false e =
              let two : (rs : List ℕ) → length rs ≤ 256 → endless_refusal (with_roots p rs) ≡ 2 = λ rs l. n.with rs l ∙ rw e refl in
              other [] none (two [] (omega arith) ∙ sym (two p.roots n.few))
          by_names true e = by-sharing e (unshared (nodes_of p.nodes) p.side p.roots) refl

  always : (ks : List ℕ) × LeastList (same_number p) (length p.roots) ks
  always = least-exists (same_number p) (length p.roots) (λ e f g. by-stage e f g (stages p))
    where
      by-stage : same_number p [] ≡ false → ((i : ℕ) → i < length p.roots → same_number p (i ∷ []) ≡ false)
          → ((a b : ℕ) → a < b → b < length p.roots → same_number p (a ∷ b ∷ []) ≡ false) → Before p ⊎ Numbered p (widths_of p) → ⊥
      by-stage e f g (inl h) = before-fails e f g h
      by-stage e f g (inr h) = numbered-fails e f g h

  -- the list of the definition is the first that passes
  pub fewest-least : LeastList (same_number p) (length p.roots) (fewest p)
  unfolding fewest
  fewest-least =
      let (ks, h) = always in
      let e : fewest p ≡ ks = rw (le-leb 1 (endless_refusal p) low, le-leb (endless_refusal p) 7 high, first-is h) refl in
      subst (λ (z : List ℕ). LeastList (same_number p) (length p.roots) z) (sym e) h
