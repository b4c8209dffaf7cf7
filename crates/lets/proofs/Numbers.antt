-- Laws of the numbers that the printer with `let` refuses a problem with.
use Rattle.std.specs.Prelude.{ℕ, List, [], ◌∷◌, true, false, cond, length}
use Rattle.std.proofs.Math.Bool.{Bool}
use Rattle.std.proofs.Math.Dec.{T}
use Rattle.lists.specs.Tests.{among-every}
use Rattle.lists.specs.Build.{upto_all}
use Rattle.echo_spec.specs.Refusals.{unless}
use Rattle.echo_spec.specs.Input.{Problem, within_limits, encoded, Dag, dag_of}
use Rattle.echo_spec.specs.Walk.{sort_ok}
use Rattle.echo_spec.specs.Accepted.{in-or_else, in-unless, walk_number, WalkNumbers, all-number, step-number}
use Rattle.echo_spec.proofs.Accepted.{checks-number}
use Rattle.echo_spec.specs.Answers.{endless_with}
use Rattle.lets.specs.Lets.{uses_in, binds, bool_at, used_as, let_step, let_walks_below, let_walk, assertion_refusal, let_roots, names_clear, let_refusal_with, let_refusal, endless_let}
use Rattle.lets.specs.Numbers.{query_number, endless_number}

-- ---------------------------------------------------------------- the numbers

used-number : (d : Dag) (bound : ℕ → Bool) (below : ℕ → Bool → ℕ) → WalkNumbers below → WalkNumbers (used_as d bound below)
unfolding used_as walk_number
used-number d bound below h j b = by-bound (bound j)
  where
    by-bound : (t : Bool) → T (walk_number (cond t (unless (sort_ok b (bool_at d j)) 3) (below j b)))
    by-bound true = in-unless walk_number (sort_ok b (bool_at d j)) 3 tt tt
    by-bound false = h j b

module _ (d : Dag) (ws : List ℕ) (bound : ℕ → Bool) where
  let-step-number : (below : ℕ → Bool → ℕ) → WalkNumbers below → WalkNumbers (let_step d ws bound below)
  unfolding let_step
  let-step-number below h = step-number d ws (used_as d bound below) (used-number d bound below h)

  walk-number : WalkNumbers (let_walk d ws bound)
  unfolding let_walk walk_number
  walk-number i =
      let-step-number (let_walks_below d ws bound i)
      (upto_all (λ (f : Bool → ℕ). (b : Bool) → T (walk_number (f b))) (let_step d ws bound) (λ _. 1) (λ b. tt) let-step-number i) i

  assertion-number : (root : ℕ) → T (walk_number (assertion_refusal d ws bound root))
  unfolding assertion_refusal
  assertion-number root =
      in-or_else walk_number _ _ (all-number (let_walk d ws bound) walk-number _) (used-number d bound (let_walk d ws bound) walk-number root true)

pub roots-number : (d : Dag) (ws us roots : List ℕ) → T (walk_number (let_roots d ws us roots))
unfolding let_roots walk_number
roots-number d ws us [] = tt
roots-number d ws us (r ∷ rs) =
    in-or_else walk_number (assertion_refusal d ws (binds d us r) r) (let_roots d ws us rs) (assertion-number d ws (binds d us r) r) (roots-number d ws us rs)

widen : (n : ℕ) → T (walk_number n) → T (query_number n)
unfolding walk_number
widen n h = among-every query_number (0 ∷ 1 ∷ 3 ∷ 4 ∷ 5 ∷ 7 ∷ []) tt n h

pub query-number : (d : Dag) (ws roots : List ℕ) → T (query_number (let_refusal_with d ws roots))
unfolding let_refusal_with
query-number d ws roots =
    checks-number query_number d ws (unless (names_clear d (uses_in d roots)) 11) (let_roots d ws (uses_in d roots) roots) tt
    (in-unless query_number (names_clear d (uses_in d roots)) 11 tt tt) (widen _ (roots-number d ws (uses_in d roots) roots))

pub endless-let-number : (p : Problem) → T (endless_number (endless_let p))
unfolding endless_let endless_with
endless-let-number p =
    let r : ℕ = let_refusal (dag_of p) (length p.bits) p.roots in
    in-or_else endless_number (unless (within_limits p) 9) _ (in-unless endless_number (within_limits p) 9 tt tt)
    (in-or_else endless_number (unless (encoded p.nodes p.bits) 8) _ (in-unless endless_number (encoded p.nodes p.bits) 8 tt tt)
    (among-every endless_number (0 ∷ 1 ∷ 2 ∷ 3 ∷ 4 ∷ 5 ∷ 7 ∷ 11 ∷ 12 ∷ []) tt r (query-number (dag_of p) _ p.roots)))
