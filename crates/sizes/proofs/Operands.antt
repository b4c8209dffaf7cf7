-- The terms of a node's tree are the node and the terms of the operands that the walk enters: what is counted from trees is counted by
-- the walk.
use Prim.Native.Nat.{ℕ, zero, suc, ◌+◌, ◌*◌, ◌≤◌}
use Rattle.std.specs.Prelude.{◌≡◌, true, false, length, take, drop}
use Rattle.std.proofs.Math.Path.{refl, ap}
use mathlib.Core.List.{List, [], ◌∷◌}
use native.Mathlib.Omega.{arith}
use Rattle.std.proofs.Common.{length-append, length-take, length-drop}
use Rattle.std.proofs.lemmas.List.{length-map}
use Rattle.reading.specs.Trees.{Tree}
use Rattle.echo_spec.specs.Shapes.{
  Shape,
  var,
  const,
  binary,
  rotation,
  extraction,
  concat,
  extension,
  ite,
  comparison,
  negation,
  connective,
  unary,
  select,
  call,
  unknown,
  is_leaf,
}
use Rattle.echo_spec.specs.Input.{Node, Dag}
use Rattle.echo_spec.specs.Sharing.{uses_as}
use Rattle.echo_spec.specs.Trees.{trees_over, stores_over, tree_as}
use Rattle.echo_spec.specs.Walk.{Operand, vector, levels, operands_as}
use Rattle.sizes.specs.Size.{weigh, weigh_all, weigh_stores}
use Rattle.sizes.specs.Sums.{sum_over, sum-append, sum-map}

-- what a node adds by itself, by its shape
abbrev pub own : ℕ → ℕ → Shape → ℕ
own leaf operator s = elim (is_leaf s) [ true ↦ leaf | false ↦ operator ]

module _ (leaf operator : ℕ) (below : ℕ → Tree) where
  -- an operand, over the trees of the nodes below
  abbrev pub entered : Operand → ℕ
  entered o = weigh leaf operator (below o.node)

  pub trees-sum : (xs : List ℕ) → weigh_all leaf operator (trees_over below xs) ≡ sum_over (λ x. weigh leaf operator (below x)) xs
  unfolding weigh_all trees_over sum_over
  trees-sum [] = refl
  trees-sum (x ∷ xs) = ap (λ (k : ℕ). weigh leaf operator (below x) + k) (trees-sum xs)

  stores-sum : (n : ℕ) (side : List ℕ) → weigh_stores leaf operator (stores_over below n side) ≡ sum_over entered (levels n side)
  unfolding weigh_stores stores_over levels sum_over
  stores-sum zero side = refl
  stores-sum (suc n) [] = refl
  stores-sum (suc n) (x ∷ []) = refl
  stores-sum (suc n) (x ∷ v ∷ side) =
      let a = stores-sum n side in
      let b = sum-append entered (levels n side) (vector x ∷ vector v ∷ []) in
      omega arith

  pub tree-sum : (d : Dag) (ws bits : List ℕ) (i : ℕ) (n : Node) (s : Shape)
      → weigh leaf operator (tree_as d ws bits below i n s) ≡ own leaf operator s + sum_over entered (operands_as d.side n s)
  unfolding weigh weigh_all trees_over tree_as operands_as is_leaf sum_over
  tree-sum d ws bits i n var = omega arith
  tree-sum d ws bits i n const = omega arith
  tree-sum d ws bits i n binary = omega arith
  tree-sum d ws bits i n rotation = omega arith
  tree-sum d ws bits i n extraction = omega arith
  tree-sum d ws bits i n concat = omega arith
  tree-sum d ws bits i n extension = omega arith
  tree-sum d ws bits i n ite = omega arith
  tree-sum d ws bits i n comparison = omega arith
  tree-sum d ws bits i n negation = omega arith
  tree-sum d ws bits i n connective = omega arith
  tree-sum d ws bits i n unary = omega arith
  tree-sum d ws bits i n select =
      let a = stores-sum n.d (drop n.c d.side) in
      let b = sum-append entered (levels n.d (drop n.c d.side)) (vector n.b ∷ []) in
      omega arith
  tree-sum d ws bits i n call =
      let a = trees-sum (take n.d (drop n.c d.side)) in
      let b = sum-map entered vector (take n.d (drop n.c d.side)) in
      omega arith
  tree-sum d ws bits i n unknown = omega arith

-- ---------------------------------------------------------------- operands and uses

module _ (f : ℕ → ℕ) where
  levels-used : (n : ℕ) (side : List ℕ) → sum_over (λ (o : Operand). f o.node) (levels n side) ≤ sum_over f (take (2 * n) side)
  unfolding levels sum_over
  levels-used zero side = omega arith
  levels-used (suc n) [] = omega arith
  levels-used (suc n) (x ∷ []) = omega arith
  levels-used (suc n) (x ∷ v ∷ side) =
      let a = levels-used n side in
      let b = sum-append (λ (o : Operand). f o.node) (levels n side) (vector x ∷ vector v ∷ []) in
      let e : 2 * suc n ≡ suc (suc (2 * n)) = omega arith in
      rw e (omega arith)

  -- what the walk enters is used; a rotation's amount is used besides
  pub operands-used : (side : List ℕ) (n : Node) (s : Shape) → sum_over (λ (o : Operand). f o.node) (operands_as side n s) ≤ sum_over f (uses_as side n s)
  unfolding operands_as uses_as sum_over
  operands-used side n var = omega arith
  operands-used side n const = omega arith
  operands-used side n binary = omega arith
  operands-used side n rotation = omega arith
  operands-used side n extraction = omega arith
  operands-used side n concat = omega arith
  operands-used side n extension = omega arith
  operands-used side n ite = omega arith
  operands-used side n comparison = omega arith
  operands-used side n negation = omega arith
  operands-used side n connective = omega arith
  operands-used side n unary = omega arith
  operands-used side n select =
      let a = levels-used n.d (drop n.c side) in
      let b = sum-append (λ (o : Operand). f o.node) (levels n.d (drop n.c side)) (vector n.b ∷ []) in
      omega arith
  operands-used side n call = let a = sum-map (λ (o : Operand). f o.node) vector (take n.d (drop n.c side)) in omega arith
  operands-used side n unknown = omega arith

-- ---------------------------------------------------------------- how many operands there are

levels-few : (n : ℕ) (side : List ℕ) → length (levels n side) ≤ length side
unfolding levels
levels-few zero side = omega arith
levels-few (suc n) [] = omega arith
levels-few (suc n) (x ∷ []) = omega arith
levels-few (suc n) (x ∷ v ∷ side) =
    let a = levels-few n side in
    let b = length-append (levels n side) (vector x ∷ vector v ∷ []) in
    omega arith

-- a leaf has none, and another node three or as many as there are side entries, and one
pub operands-few : (m : ℕ) (side : List ℕ) → 3 + length side ≤ m → (n : Node) (s : Shape) → length (operands_as side n s) ≤ own 0 m s
unfolding operands_as is_leaf
operands-few m side l n var = omega arith
operands-few m side l n const = omega arith
operands-few m side l n binary = omega arith
operands-few m side l n rotation = omega arith
operands-few m side l n extraction = omega arith
operands-few m side l n concat = omega arith
operands-few m side l n extension = omega arith
operands-few m side l n ite = omega arith
operands-few m side l n comparison = omega arith
operands-few m side l n negation = omega arith
operands-few m side l n connective = omega arith
operands-few m side l n unary = omega arith
operands-few m side l n select =
    let a = levels-few n.d (drop n.c side) in
    let b = length-append (levels n.d (drop n.c side)) (vector n.b ∷ []) in
    let c = length-drop n.c side in
    omega arith
operands-few m side l n call =
    let a = length-map (take n.d (drop n.c side)) vector in
    let b = length-take n.d (drop n.c side) in
    let c = length-drop n.c side in
    omega arith
operands-few m side l n unknown = omega arith
