-- Laws of the table of the terms: it has the terms of the trees, and the roots' terms are the sum of their counts.
use Prim.Native.Nat.{ℕ, zero, suc, ◌+◌}
use Rattle.std.specs.Prelude.{◌≡◌, List, Bool, ltb, length}
use Rattle.std.proofs.Math.Path.{refl, ap}
use Rattle.std.proofs.Common.{sym, ◌∙◌, arith}
use Rattle.std.proofs.Math.Bool.{true, false}
use Rattle.std.proofs.Math.Dec.{eqb}
use Rattle.std.proofs.Math.ListN.{get_or}
use Rattle.lists.specs.Tests.{All}
use Rattle.lists.specs.Build.{upto}
use Rattle.echo_spec.specs.Input.{Node, shape, no_node, Dag}
use Rattle.echo_spec.specs.Trees.{trees_over, tree_step, trees_below, tree_of}
use Rattle.echo_spec.specs.Walk.{Operand, operands_as}
use Rattle.sizes.specs.Size.{weigh, weigh_all}
use Rattle.sizes.specs.Sums.{sum_over}
use Rattle.sizes.proofs.Operands.{trees-sum, tree-sum}
use Rattle.sizes.proofs.Operators.{trees-below}
use Rattle.sizes.proofs.Terms.{own-one}
use Rattle.sizes.specs.Count.{count_step, counts_below}

module _ (d : Dag) (ws bits : List ℕ) where
  abbrev counts : ℕ → ℕ → ℕ
  counts = counts_below d.side d.nodes

  count-step : (n : ℕ) → ((x : ℕ) → counts n x ≡ weigh 1 1 (trees_below d ws bits n x))
      → count_step d.side d.nodes (counts n) n ≡ weigh 1 1 (tree_step d ws bits (trees_below d ws bits n) n)
  unfolding count_step tree_step
  count-step n h =
      let m : Node = get_or d.nodes n no_node in
      let f : counts n ≡ (λ x. weigh 1 1 (trees_below d ws bits n x)) = λ i x. h x i in
      ap (λ (g : ℕ → ℕ). 1 + sum_over (λ (o : Operand). g o.node) (operands_as d.side m (shape m))) f
      ∙ omega (arith, tree-sum 1 1 (trees_below d ws bits n) d ws bits n m (shape m), own-one (shape m))

  -- the table has the terms of the trees
  pub counts-are : (n j : ℕ) → counts n j ≡ weigh 1 1 (trees_below d ws bits n j)
  unfolding upto
  counts-are zero j = (unfold weigh in refl)
  counts-are (suc n) j = by_place (eqb j n) refl (counts-are n j) (λ x. counts-are n x)
    where
      by_place : (b : Bool) → eqb j n ≡ b → counts n j ≡ weigh 1 1 (trees_below d ws bits n j)
          → ((x : ℕ) → counts n x ≡ weigh 1 1 (trees_below d ws bits n x))
          → counts (suc n) j ≡ weigh 1 1 (trees_below d ws bits (suc n) j)
      by_place true e p h = rw (e, upto) (count-step n h)
      by_place false e p h = rw (e, upto) p

  -- the roots' terms are the sum of their counts
  pub roots-count : (roots : List ℕ) → All (λ r. ltb r (length d.nodes)) roots
      → weigh_all 1 1 (trees_over (tree_of d ws bits) roots) ≡ sum_over (counts (length d.nodes)) roots
  roots-count roots h =
      let n : ℕ = length d.nodes in
      let f : (λ x. weigh 1 1 (trees_below d ws bits n x)) ≡ counts n = λ i x. sym (counts-are n x) i in
      ap (weigh_all 1 1) (trees-below d ws bits roots h) ∙ trees-sum 1 1 (trees_below d ws bits n) roots ∙ ap (λ (g : ℕ → ℕ). sum_over g roots) f
