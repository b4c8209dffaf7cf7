-- Without shared operators the text with `let` and its refusals are the plain ones.
use Rattle.std.specs.Prelude.{ℕ, zero, suc, ◌<◌, ◌≡◌, Bool, true, false, ◌&&◌, not, T, ltb, length}
use Rattle.std.proofs.Math.Path.{refl}
use Rattle.std.proofs.Common.{ap, arith, ltb→lt, T_not}
use mathlib.Core.List.{List, [], ◌∷◌, ◌++◌}
use Rattle.lists.specs.Tests.{among, in_list, every_from, every-at, and_0, and-1, no→false}
use Rattle.echo_spec.specs.Input.{Dag, name_table, aname_table, fname_table}
use Rattle.echo_spec.specs.Sharing.{uses_of_all, used_once, unshared}
use Rattle.echo_spec.specs.Trees.{trees_over, tree_of}
use Rattle.echo_spec.specs.Walk.{walk_all, walk, walk_roots}
use Rattle.echo_spec.specs.Render.{term, assertions_text}
use Rattle.lets.specs.Lets.{uses_in, shared, reached, binds, rising, let_name, named, named_step, named_of, assertion_of, assertions_of, let_text, let_assertions_text, used_as, let_step, let_walk, assertion_refusal, let_roots, names_clear}

-- ---------------------------------------------------------------- without shared operators

shared-none : (d : Dag) (roots : List ℕ) → T (unshared d.nodes d.side roots) → (i : ℕ) → shared d (uses_in d roots) i ≡ false
unfolding shared uses_in unshared
shared-none d roots h i =
    no→false (shared d (uses_in d roots) i) λ t.
    let us : List ℕ = uses_of_all d.side d.nodes ++ roots in
    let l : i < length d.nodes = ltb→lt i (length d.nodes) (and_0 (ltb i (length d.nodes)) (not (used_once d.nodes us i)) t) in
    T_not (used_once d.nodes us i) (and-1 (ltb i (length d.nodes)) (not (used_once d.nodes us i)) t)
    (every-at (used_once d.nodes us) 0 (length d.nodes) h i (omega arith) (omega arith))

pub binds-none : (d : Dag) (roots : List ℕ) → T (unshared d.nodes d.side roots) → (r : ℕ) → binds d (uses_in d roots) r ≡ (λ _. false)
unfolding binds
binds-none d roots h r = λ k i. (ap (λ (b : Bool). b && among (reached d r) i) (shared-none d roots h i)) k

rising_none : (a n : ℕ) → rising (λ _. false) a n ≡ []
unfolding rising
rising_none a zero = refl
rising_none a (suc n) = rising_none (suc a) n

module _ (d : Dag) (bits ws : List ℕ) where
  body-plain : (r : ℕ) → named (λ _. false) (named_of d ws bits (λ _. false)) r ≡ tree_of d ws bits r
  unfolding named named_of named_step tree_of
  body-plain r = refl

  assertion-plain : (r : ℕ) → let_text (assertion_of d ws bits (λ _. false) r).bindings (term (assertion_of d ws bits (λ _. false) r).body) ≡ term (tree_of d ws bits r)
  unfolding assertion_of let_text
  assertion-plain r = rw (rising_none 0 (length d.nodes), let_text) (ap term (body-plain r))

  walk-plain : (r : ℕ) → assertion_refusal d ws (λ _. false) r ≡ walk d ws r true
  unfolding assertion_refusal used_as let_walk let_step walk walk_all
  walk-plain r = rw (rising_none 0 (length d.nodes), walk_all) refl

  module _ (us : List ℕ) (nothing_bound : (r : ℕ) → binds d us r ≡ (λ _. false)) where
    pub text-plain : (roots : List ℕ) → let_assertions_text (assertions_of d ws bits us roots) ≡ assertions_text (trees_over (tree_of d ws bits) roots)
    unfolding let_assertions_text assertions_of assertions_text trees_over
    text-plain [] = refl
    text-plain (r ∷ rs) = rw (nothing_bound r, assertion-plain r, text-plain rs)

    pub roots-plain : (roots : List ℕ) → let_roots d ws us roots ≡ walk_roots d ws roots
    unfolding let_roots walk_roots walk_all
    roots-plain [] = refl
    roots-plain (r ∷ rs) = rw (nothing_bound r, walk-plain r, roots-plain rs)

pub clear-unshared : (d : Dag) (roots : List ℕ) → T (unshared d.nodes d.side roots) → T (names_clear d (uses_in d roots))
unfolding names_clear
clear-unshared d roots h = all-clear 0 (length d.nodes)
  where
    all-clear : (a n : ℕ) → T (every_from (λ i. not (shared d (uses_in d roots) i && in_list (let_name i) (name_table d ++ (aname_table d ++ fname_table d)))) a n)
    all-clear a zero = tt
    all-clear a (suc n) = rw (shared-none d roots h a) (all-clear (suc a) n)
