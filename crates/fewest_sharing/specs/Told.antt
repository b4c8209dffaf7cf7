-- What is found among the roots says which are the fewest that share an operator.
use Rattle.std.specs.Prelude.{ℕ, ◌+◌, ◌≤◌, ◌<◌, min, ◌≡◌, refl, List, [], ◌∷◌, ◌++◌, Bool, true, false, ◌&&◌, not, ltb, length, get_or, replicate, Some, None}
use Rattle.std.proofs.Common.{sym, ap, ◌∙◌, subst, arith, append-nil, lt-ltb, ltb-true, ltb-false}
use Rattle.lists.specs.Tests.{every_from}
use Rattle.echo_spec.specs.Input.{Node, nodes_of}
use Rattle.echo_spec.specs.Sharing.{count, uses_of_all, used_once, unshared}
use Rattle.lent.specs.Records.{nodes-length}
use Rattle.echo_sharing.specs.Counts.{counted, counted_zeros, once_in, guard}
use Rattle.echo_sharing.specs.Flags.{Flags, shared_of}
use Rattle.fewest.specs.Uses.{Operator, uses, count-place, count-places, flag-set, flag-clear, one-shared, two-shared, one-unshared, two-unshared, pair_of}
use Rattle.fewest_sharing.specs.declared.FewestRoots.TheVariants.{One, Two}
use Rattle.fewest_sharing.specs.Found.{flagged, used_too, FirstAt, First, Single, FirstPair, PairOf, Shares}

both : (a b : Bool) → (a && b) ≡ true → (a ≡ true) × (b ≡ true)
both true b e = (refl, e)
both false b e = let z : ◌≡◌ {A = ℕ} 0 1 = cc in absurd (omega arith)

clash : {C : Type 0} (a : Bool) → a ≡ true → a ≡ false → C
clash true p q = let z : ◌≡◌ {A = ℕ} 0 1 = cc in absurd (omega arith)
clash false p q = let z : ◌≡◌ {A = ℕ} 0 1 = cc in absurd (omega arith)

-- the table has how often the operands use each node, as far as two
pub record Counts (ns : List Node) (side used : List ℕ) : Type 0 where
  pub at : (i : ℕ) → i < length ns → get_or used i 0 ≡ min (uses ns side i) 2

-- the flags of the operators that are shared, and the counts of the operands' uses
module _ (ns : List Node) (side roots : List ℕ) (flags : List Bool) {used : List ℕ}
    (set : Flags (shared_of ns side roots) flags)
    (counts : Counts ns side used)
    (some : unshared ns side roots ≡ false) (none : unshared ns side [] ≡ true) where
  -- a flag, by the test of the node
  flag_is : (x : ℕ) → x < length ns → flagged flags x ≡ not (used_once ns (uses_of_all side ns ++ roots) x)
  flag_is x l = set.at x ∙ rw (lt-ltb x (length ns) l) refl

  flag_true : (x : ℕ) → flagged flags x ≡ true → Operator ns x × (2 ≤ uses ns side x + count x roots)
  flag_true x h =
      let (l, e) = both (ltb x (length ns)) (not (used_once ns (uses_of_all side ns ++ roots) x)) (sym (set.at x) ∙ h) in
      flag-set ns side roots x (ltb-true x (length ns) l) e

  flag-false : (x : ℕ) → flagged flags x ≡ false → Operator ns x → uses ns side x + count x roots ≤ 1
  flag-false x h o = flag-clear ns side roots x (sym (flag_is x o.inside) ∙ h) o

  -- a shared root that is flagged
  flag-twice : (x : ℕ) → Operator ns x → 2 ≤ count x roots → flagged flags x ≡ true
  flag-twice x o m = go (flagged flags x) refl
    where
      go : (b : Bool) → flagged flags x ≡ b → b ≡ true
      go true e = refl
      go false e = let f = flag-false x e o in absurd (omega arith)

  used-true : (x : ℕ) → used_too flags used x ≡ true → Operator ns x × (1 ≤ uses ns side x)
  used-true x h =
      let (f, u) = both (flagged flags x) (ltb 0 (get_or used x 0)) h in
      let o = (flag_true x f).0 in
      let c = counts.at x o.inside in
      let g = ltb-true 0 (get_or used x 0) u in
      (o, omega arith)

  used-false : (k : ℕ) → k < length roots → used_too flags used (get_or roots k 0) ≡ false → Operator ns (get_or roots k 0) → uses ns side (get_or roots k 0) ≤ 0
  used-false k l h o = go (flagged flags (get_or roots k 0)) refl h
    where
      go : (b : Bool) → flagged flags (get_or roots k 0) ≡ b → (b && ltb 0 (get_or used (get_or roots k 0) 0)) ≡ false → uses ns side (get_or roots k 0) ≤ 0
      go true f u =
          let c = counts.at (get_or roots k 0) o.inside in
          let g = ltb-false 0 (get_or used (get_or roots k 0) 0) u in
          omega arith
      go false f u =
          let c = count-place roots k l in
          let s = flag-false (get_or roots k 0) f o in
          omega arith

  alone : (k : ℕ) → k < length roots → used_too flags used (get_or roots k 0) ≡ false → unshared ns side (get_or roots k 0 ∷ []) ≡ true
  alone k l h = one-unshared ns side none (get_or roots k 0) (used-false k l h)

  pub one_told : {k : ℕ} → FirstAt (used_too flags used) roots k → Shares ns side roots (Some (One k))
  one_told {k} h =
      let l = h.inside in
      let (o, m) = used-true (get_or roots k 0) h.here in (
        some,
        record {
          without = rw none refl;
          inside = l;
          before = λ j u. rw (alone j (omega arith) (h.before j u)) refl;
          here = rw (one-shared ns side (get_or roots k 0) o m) refl;
        },
      )

  module _ (h : First (used_too flags used) roots None) where
    single : (k : ℕ) → k < length roots → unshared ns side (get_or roots k 0 ∷ []) ≡ true
    single k l = alone k l (h k l)

    apart : (a b : ℕ) → a < b → b < length roots → Single flags roots a → unshared ns side (get_or roots a 0 ∷ get_or roots b 0 ∷ []) ≡ true
    apart a b l u s =
        two-unshared ns side (single a (omega arith)) (single b u)
        (λ e o. s b l u (flag-twice (get_or roots a 0) o (count-places roots a b l u e)) e)

    -- some two positions share one
    pub none_told : PairOf flags roots None → Shares ns side roots None
    none_told q =
        let (i, (o, (j, (k, z)))) = pair_of ns side roots some none single in
        let u = z.second.inside in
        let same : get_or roots j 0 ≡ get_or roots k 0 = z.first.is ∙ sym z.second.is in
        let f = two-shared ns side (get_or roots j 0) (get_or roots k 0) same (subst (λ (y : ℕ). Operator ns y) (sym z.first.is) o) in
        clash (unshared ns side (get_or roots j 0 ∷ get_or roots k 0 ∷ [])) (apart j k z.rises u (q j (omega (arith, z.rises)))) f

    pub two_told : {j k : ℕ} → FirstPair flags roots j k → Shares ns side roots (Some (Two j k))
    two_told {j} {k} q =
        let p = q.at in
        let u = p.inside in
        let v = p.rises in (
          some,
          record {
            without = rw none refl;
            alone = λ i l. rw (single i l) refl;
            rises = v;
            inside = u;
            before = λ a b x y z. rw (apart a b y z (q.before a x)) refl;
            between = λ b x y.
                let w : unshared ns side (get_or roots j 0 ∷ get_or roots b 0 ∷ []) ≡ true =
                two-unshared ns side (single j (omega arith)) (single b (omega arith)) (λ e o. p.between b x y e) in
                rw w refl;
            here = let w = two-shared ns side (get_or roots j 0) (get_or roots k 0) p.same (flag_true (get_or roots j 0) p.flag).0 in rw w refl;
          },
        )

-- ---------------------------------------------------------------- the tables

-- the counts that `count_operands` leaves in a table of zeros, and the test of them
module _ (s side : List ℕ) (small : length s ≤ 34816) {used : List ℕ} (e : used ≡ counted (replicate 2048 0) (uses_of_all side (nodes_of s))) where
  pub counts_of : Counts (nodes_of s) side used
  counts_of = record { at = λ i l. rw e (counted_zeros 2048 (uses_of_all side (nodes_of s)) i (omega (arith, nodes-length s))) }

  pub none_is : {r : Bool} → r ≡ every_from (once_in used (nodes_of s)) 0 (length (nodes_of s)) → r ≡ unshared (nodes_of s) side []
  none_is q = guard s side [] small (e ∙ ap (counted (replicate 2048 0)) (sym (append-nil (uses_of_all side (nodes_of s))))) q
