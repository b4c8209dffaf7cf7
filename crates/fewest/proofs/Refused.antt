-- The fewest roots by the check that refuses: laws of the answer.
use Prim.Native.Nat.{ℕ, ◌≤◌, ◌<◌}
use Rattle.std.specs.Prelude.{◌≡◌, Bool, ◌&&◌, not, T, eqb, length, get_or}
use Rattle.std.proofs.Math.Path.{refl}
use Rattle.std.proofs.Common.{sym, ap, ◌∙◌, subst, arith, leb→le}
use mathlib.Core.List.{List, [], ◌∷◌, map}
use Rattle.std.proofs.Math.Bool.{true, false}
use Rattle.std.proofs.Math.Option.{some}
use Rattle.std.proofs.Math.Dec.{leb}
use borrow.Author.Tests.{eq-eqb, ne_eqb, le-leb, leb-true}
use Rattle.lists.specs.Tests.{among-every, not→false}
use Rattle.lists.specs.Build.{find, upto_all}
use Rattle.echo_spec.specs.Refusals.{unless, ◌or_else◌}
use Rattle.echo_spec.specs.Input.{Problem, Dag, array_widths, nodes_of, dag_of}
use Rattle.echo_spec.specs.Widths.{ext_wf_of}
use Rattle.echo_spec.specs.Names.{names_ok}
use Rattle.echo_spec.specs.Sharing.{count, unshared}
use Rattle.echo_spec.specs.Tables.{decl_vars_ok, decl_funcs_ok}
use Rattle.echo_spec.specs.Walk.{formula, step_of_walk, walks_below, walk, walk_roots, checks, refusal_with}
use Rattle.echo_spec.specs.Answers.{endless_with, endless_refusal}
use Rattle.echo_spec.specs.Accepted.{in-or_else, in-unless, walk_number, WalkNumbers, all-number, step-number}
use Rattle.fewest.specs.Fewest.{with_roots, roots_at, same_number, all_rising, fewest, fewest_roots_answer}
use Rattle.fewest.specs.Least.{LeastOne, LeastTwo, one-as, two-as}
use Rattle.fewest.proofs.Least.{first-empty, first_one, first_two}
use Rattle.fewest.specs.Uses.{count_none, count_same, count-other, by-same, count-place, fewer-unshared}
use Rattle.fewest.specs.Refused.{told, checked-with, walk_none, FirstRefused, walk_refused, walk-passes, declared, Numbered}

-- ---------------------------------------------------------------- the answer by its list

module _ (p : Problem) {r : ℕ} (is : endless_refusal p ≡ r) where
  same-as : (ks : List ℕ) → eqb (endless_refusal (with_roots p (roots_at p ks))) r ≡ same_number p ks
  unfolding same_number
  same-as ks = rw is refl

  listed-as : 1 ≤ r → r ≤ 7 → {ks : List ℕ} → find (same_number p) (all_rising (length p.roots)) ≡ some ks → told r ks ≡ fewest_roots_answer p
  unfolding fewest fewest_roots_answer
  listed-as a b e = rw (is, le-leb 1 r a, le-leb r 7 b, e) refl

  -- no root, where the number stays the same without roots or has no list
  pub answer-none : (1 ≤ r → r ≤ 7 → endless_refusal (with_roots p []) ≡ r) → told r [] ≡ fewest_roots_answer p
  unfolding fewest fewest_roots_answer
  answer-none h = go (leb 1 r) (leb r 7) refl refl
    where
      go : (a b : Bool) → leb 1 r ≡ a → leb r 7 ≡ b → told r [] ≡ fewest_roots_answer p
      go true true u v =
          let x : 1 ≤ r = leb-true 1 r u in
          let y : r ≤ 7 = leb-true r 7 v in
          listed-as x y (first-empty (same_number p) (length p.roots) (sym (same-as []) ∙ eq-eqb (endless_refusal (with_roots p [])) r (h x y)))
      go true false u v = rw (is, u, v) refl
      go false b u v = rw (is, u) refl

  module _ (low : 1 ≤ r) (high : r ≤ 7) where
    pub answer-one : {k : ℕ} → LeastOne (λ ks. eqb (endless_refusal (with_roots p (roots_at p ks))) r) (length p.roots) k → told r (k ∷ []) ≡ fewest_roots_answer p
    answer-one {k} h = listed-as low high (first_one (same_number p) (length p.roots) k (one-as (λ ks l. same-as ks) h))

    pub answer-two : {j k : ℕ} → LeastTwo (λ ks. eqb (endless_refusal (with_roots p (roots_at p ks))) r) (length p.roots) j k
        → told r (j ∷ k ∷ []) ≡ fewest_roots_answer p
    answer-two {j} {k} h = listed-as low high (first_two (same_number p) (length p.roots) j k (two-as (λ ks l. same-as ks) h))

-- ---------------------------------------------------------------- other roots

-- what the checks before the names are refused with, whatever the others are
pub refused-before : (p : Problem) {r : ℕ}
    → ((s t : ℕ) → endless_with p (checks (dag_of p) (ext_wf_of (length p.bits) (array_widths p) p.side (nodes_of p.nodes)) s t) ≡ r) → told r [] ≡ fewest_roots_answer p
unfolding endless_refusal refusal_with dag_of
refused-before p {r} h =
    let ws : List ℕ = ext_wf_of (length p.bits) (array_widths p) p.side (nodes_of p.nodes) in
    answer-none p (h (unless (unshared (nodes_of p.nodes) p.side p.roots) 6) (walk_roots (dag_of p) ws p.roots))
    (λ a b. checked-with p [] (omega arith) _ (h (unless (unshared (nodes_of p.nodes) p.side []) 6) (walk_roots (dag_of p) ws [])) b)

-- ---------------------------------------------------------------- the walk of the roots

walk-number : (d : Dag) (ws : List ℕ) → WalkNumbers (walk d ws)
unfolding walk walk_number
walk-number d ws i =
    step-number d ws (walks_below d ws i)
    (upto_all (λ (f : Bool → ℕ). (b : Bool) → T (walk_number (f b))) (step_of_walk d ws) (λ _. 1) (λ b. tt) (λ below h k. step-number d ws below h k) i) i

-- a test that each number of the walk passes
walk-tells : (t : ℕ → Bool) → T (t 0 && (t 1 && (t 3 && (t 4 && (t 5 && (t 7 && true)))))) → (d : Dag) (ws roots : List ℕ) → T (t (walk_roots d ws roots))
unfolding walk_number walk_roots
walk-tells t h d ws roots = among-every t (0 ∷ 1 ∷ 3 ∷ 4 ∷ 5 ∷ 7 ∷ []) h (walk_roots d ws roots) (all-number (walk d ws) (walk-number d ws) (map formula roots))

-- ---------------------------------------------------------------- from the names on

module _ (p : Problem) (ws : List ℕ) (n : Numbered p ws) where
  pub bad-names : names_ok (dag_of p) ≡ false → told 2 [] ≡ fewest_roots_answer p
  bad-names e = answer-none p (n.with p.roots n.few ∙ rw e refl) (λ a b. n.with [] (omega arith) ∙ rw e refl)

  module _ (named : names_ok (dag_of p) ≡ true) where
    pub number : (rs : List ℕ) → length rs ≤ 256 → {b : Bool} → unshared (nodes_of p.nodes) p.side rs ≡ b
        → endless_refusal (with_roots p rs) ≡ (unless b 6 or_else declared (dag_of p) ws (walk_roots (dag_of p) ws rs))
    number rs l e = n.with rs l ∙ rw (named, e) refl

    not-six : (rs : List ℕ) → T (not (eqb (declared (dag_of p) ws (walk_roots (dag_of p) ws rs)) 6))
    not-six rs =
        let t : ℕ → Bool = λ m. not (eqb m 6) in
        in-or_else t (unless (decl_vars_ok (dag_of p)) 4) _ (in-unless t (decl_vars_ok (dag_of p)) 4 tt tt)
        (in-or_else t (unless (decl_funcs_ok (dag_of p) ws) 7) _ (in-unless t (decl_funcs_ok (dag_of p) ws) 7 tt tt)
        (walk-tells t tt (dag_of p) ws rs))

    pub six-is : (rs : List ℕ) → length rs ≤ 256 → not (unshared (nodes_of p.nodes) p.side rs) ≡ eqb (endless_refusal (with_roots p rs)) 6
    six-is rs l = go (unshared (nodes_of p.nodes) p.side rs) refl
      where
        go : (b : Bool) → unshared (nodes_of p.nodes) p.side rs ≡ b → not b ≡ eqb (endless_refusal (with_roots p rs)) 6
        go true e = sym (ap (λ (m : ℕ). eqb m 6) (number rs l e) ∙ not→false (eqb (declared (dag_of p) ws (walk_roots (dag_of p) ws rs)) 6) (not-six rs))
        go false e = sym (ap (λ (m : ℕ). eqb m 6) (number rs l e))

    -- an operator is shared, with all roots
    module _ (shared : unshared (nodes_of p.nodes) p.side p.roots ≡ false) where
      pub six : endless_refusal p ≡ 6
      six = number p.roots n.few shared

      short : (ks : List ℕ) → length ks ≤ 2 → not (unshared (nodes_of p.nodes) p.side (roots_at p ks)) ≡ eqb (endless_refusal (with_roots p (roots_at p ks))) 6
      short [] l = six-is [] (omega arith)
      short (k ∷ []) l = six-is (get_or p.roots k 0 ∷ []) (omega arith)
      short (j ∷ k ∷ []) l = six-is (get_or p.roots j 0 ∷ get_or p.roots k 0 ∷ []) (omega arith)
      short (i ∷ j ∷ k ∷ ks) l = absurd (omega arith)

      pub shared-operands : unshared (nodes_of p.nodes) p.side [] ≡ false → told 6 [] ≡ fewest_roots_answer p
      shared-operands e = answer-none p six (λ a b. number [] (omega arith) e)

      pub shared-one : {k : ℕ} → LeastOne (λ ks. not (unshared (nodes_of p.nodes) p.side (roots_at p ks))) (length p.roots) k → told 6 (k ∷ []) ≡ fewest_roots_answer p
      shared-one h = answer-one p six (omega arith) (omega arith) (one-as short h)

      pub shared-two : {j k : ℕ} → LeastTwo (λ ks. not (unshared (nodes_of p.nodes) p.side (roots_at p ks))) (length p.roots) j k
          → told 6 (j ∷ k ∷ []) ≡ fewest_roots_answer p
      shared-two h = answer-two p six (omega arith) (omega arith) (two-as short h)

    -- none is, with all roots
    module _ (apart : unshared (nodes_of p.nodes) p.side p.roots ≡ true) where
      pub apart_none : unshared (nodes_of p.nodes) p.side [] ≡ true
      apart_none = fewer-unshared (nodes_of p.nodes) p.side p.roots [] apart (λ i. omega (arith, count_none i))

      pub apart-one : (k : ℕ) → k < length p.roots → unshared (nodes_of p.nodes) p.side (get_or p.roots k 0 ∷ []) ≡ true
      apart-one k l =
          let c = count-place p.roots k l in
          fewer-unshared (nodes_of p.nodes) p.side p.roots (get_or p.roots k 0 ∷ []) apart λ i.
          by-same (get_or p.roots k 0) i (λ e. omega (arith, count_same [] e, count_none i, subst (λ (z : ℕ). 1 ≤ count z p.roots) e c))
          (λ e. omega (arith, count-other [] e, count_none i))

      pub bad-declaration : {r : ℕ} → ((walked : ℕ) → declared (dag_of p) ws walked ≡ r) → told r [] ≡ fewest_roots_answer p
      bad-declaration h =
          answer-none p (number p.roots n.few apart ∙ h (walk_roots (dag_of p) ws p.roots))
          (λ a b. number [] (omega arith) apart_none ∙ h (walk_roots (dag_of p) ws []))

      module _ (passed : (walked : ℕ) → declared (dag_of p) ws walked ≡ walked) where
        walked-with : (rs : List ℕ) → length rs ≤ 256 → unshared (nodes_of p.nodes) p.side rs ≡ true → endless_refusal (with_roots p rs) ≡ walk_roots (dag_of p) ws rs
        walked-with rs l e = number rs l e ∙ passed (walk_roots (dag_of p) ws rs)

        pub accepted : ((j : ℕ) → j < length p.roots → walk_roots (dag_of p) ws (get_or p.roots j 0 ∷ []) ≡ 0) → told 0 [] ≡ fewest_roots_answer p
        accepted h = answer-none p (walked-with p.roots n.few apart ∙ walk-passes (dag_of p) ws p.roots h) (λ a b. absurd (omega arith))

        pub refused-root : {r k : ℕ} → FirstRefused (dag_of p) ws p.roots r k → told r (k ∷ []) ≡ fewest_roots_answer p
        refused-root {r} {k} h =
            let is : endless_refusal p ≡ r = walked-with p.roots n.few apart ∙ walk_refused (dag_of p) ws p.roots h in
            let at : T (leb (walk_roots (dag_of p) ws p.roots) 7) = walk-tells (λ m. leb m 7) tt (dag_of p) ws p.roots in
            let high = leb→le (walk_roots (dag_of p) ws p.roots) 7 at in
            let low = h.refused in
            let l = h.inside in
            answer-one p is (omega arith) (omega (arith, walk_refused (dag_of p) ws p.roots h))
            (record {
              without = let e = walked-with [] (omega arith) apart_none ∙ walk_none (dag_of p) ws in ne_eqb (endless_refusal (with_roots p [])) r (λ q. omega arith);
              inside = l;
              before = λ j u.
                  let e = walked-with (get_or p.roots j 0 ∷ []) (omega arith) (apart-one j (omega arith)) ∙ h.before j u in
                  ne_eqb (endless_refusal (with_roots p (get_or p.roots j 0 ∷ []))) r (λ q. omega arith);
              here = eq-eqb (endless_refusal (with_roots p (get_or p.roots k 0 ∷ []))) r (walked-with (get_or p.roots k 0 ∷ []) (omega arith) (apart-one k l) ∙ h.here);
            })
