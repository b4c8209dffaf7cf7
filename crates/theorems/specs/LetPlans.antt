-- A node's term and its walk depend on what is bound below the node alone. So a program may mark the bound nodes one by one,
-- each once it is written: when node i is written, the marks are the bound nodes below i.
use Prim.Native.Nat.{ℕ, zero, suc, ◌<◌}
use Rattle.std.specs.Prelude.{◌≡◌, ltb, length}
use Rattle.std.proofs.Math.Path.{refl, sym}
use Rattle.std.proofs.Common.{◌∙◌, arith, ltb→lt}
use mathlib.Core.List.{List, [], ◌∷◌}
use Rattle.std.proofs.Math.Bool.{Bool, cond}
use Rattle.std.proofs.Math.ListN.{get_or}
use Rattle.lists.specs.Tests.{All}
use Rattle.lists.specs.Build.{upto-below}
use Rattle.reading.specs.Trees.{Tree, variable, constant}
use Rattle.echo_spec.specs.Refusals.{unless, ◌or_else◌}
use Rattle.echo_spec.specs.Shapes.{is_bool}
use Rattle.echo_spec.specs.Input.{Node, shape, no_node, Dag, Query}
use Rattle.echo_spec.specs.Widths.{widths_of}
use Rattle.echo_spec.proofs.NodeLaws.{facts}
use Rattle.echo_spec.specs.Trees.{tree_as, tree_step}
use Rattle.echo_spec.specs.Walk.{Operand, operands_as, walk_all, sort_ok, asked, step_of_walk}
use Rattle.lets.specs.Lets.{let_name, named, named_step, named_below, named_of, bool_at, used_as, let_step, let_walks_below, let_walk}
use Rattle.theorems.specs.Unfolding.{unfolded-none}
use Rattle.theorems.specs.LetUnfolding.{unfold-as}

walk-agrees : (f g : ℕ → Bool → ℕ) (i : ℕ) → ((j : ℕ) → j < i → f j ≡ g j) → (os : List Operand) → All (λ (o : Operand). ltb o.node i) os → walk_all f os ≡ walk_all g os
unfolding walk_all
walk-agrees f g i h [] l = refl
walk-agrees f g i h (o ∷ os) l =
    let p = h o.node (ltb→lt o.node i l.0) in
    let q = walk-agrees f g i h os l.1 in
    λ k. p k o.bool or_else q k

module _ (q : Query) (bound bound' : ℕ → Bool) where
  abbrev d : Dag
  d = q.dag

  abbrev bits : List ℕ
  bits = q.bits

  abbrev ws : List ℕ
  ws = widths_of q

  named-agrees : (f g : ℕ → Tree) (j : ℕ) → bound j ≡ bound' j → f j ≡ g j → named bound f j ≡ named bound' g j
  unfolding named
  named-agrees f g j p q = λ k. cond (p k) (variable (let_name j)) (q k)

  used-agrees : (f g : ℕ → Bool → ℕ) (j : ℕ) → bound j ≡ bound' j → f j ≡ g j → used_as d bound f j ≡ used_as d bound' g j
  unfolding used_as
  used-agrees f g j p q = λ k b. cond (p k) (unless (sort_ok b (bool_at d j)) 3) (q k b)

  pub plan-tree : (n i : ℕ) → i < n → i < length ws → ((j : ℕ) → j < i → bound j ≡ bound' j) → named_of d ws bits bound i ≡ named_of d ws bits bound' i
  unfolding named_of named_step tree_step
  plan-tree zero i l here h = absurd (omega arith)
  plan-tree (suc n) i l here h =
      let node : Node = get_or d.nodes i no_node in
      let f : (ℕ → Tree) = named bound (named_below d ws bits bound i) in
      let g : (ℕ → Tree) = named bound' (named_below d ws bits bound' i) in
      let agree : ((j : ℕ) → j < i → f j ≡ g j) = λ j m.
      let p : named_below d ws bits bound i j ≡ named_of d ws bits bound j = upto-below (named_step d ws bits bound) (constant []) i j m in
      let q : named_below d ws bits bound' i j ≡ named_of d ws bits bound' j = upto-below (named_step d ws bits bound') (constant []) i j m in
      named-agrees (named_below d ws bits bound i) (named_below d ws bits bound' i) j (h j m)
      (p ∙ plan-tree n j (omega arith) (omega arith) (λ k o. h k (omega arith)) ∙ sym q) in
      sym (unfolded-none (tree_as d ws bits f i node (shape node)))
      ∙ unfold-as d bits ws [] i f g (λ j m. unfolded-none (f j) ∙ agree j m) refl node (shape node) (facts (length bits) d.array-widths d.side d.nodes i here).low

  pub plan-walk : (n i : ℕ) → i < n → i < length ws → ((j : ℕ) → j < i → bound j ≡ bound' j) → let_walk d ws bound i ≡ let_walk d ws bound' i
  unfolding let_walk let_step step_of_walk
  plan-walk zero i l here h = absurd (omega arith)
  plan-walk (suc n) i l here h =
      let node : Node = get_or d.nodes i no_node in
      let f : (ℕ → Bool → ℕ) = used_as d bound (let_walks_below d ws bound i) in
      let g : (ℕ → Bool → ℕ) = used_as d bound' (let_walks_below d ws bound' i) in
      let agree : ((j : ℕ) → j < i → f j ≡ g j) = λ j m.
      let p : let_walks_below d ws bound i j ≡ let_walk d ws bound j = upto-below (let_step d ws bound) (λ _. 1) i j m in
      let q : let_walks_below d ws bound' i j ≡ let_walk d ws bound' j = upto-below (let_step d ws bound') (λ _. 1) i j m in
      used-agrees (let_walks_below d ws bound i) (let_walks_below d ws bound' i) j (h j m)
      (p ∙ plan-walk n j (omega arith) (omega arith) (λ k o. h k (omega arith)) ∙ sym q) in
      let e : walk_all f (operands_as d.side node (shape node)) ≡ walk_all g (operands_as d.side node (shape node)) =
      walk-agrees f g i agree (operands_as d.side node (shape node))
      (facts (length bits) d.array-widths d.side d.nodes i here).low in
      λ k w. unless (ltb i (length d.nodes)) 1 or_else unless (sort_ok w (is_bool (shape node))) 3 or_else asked d ws i or_else e k
