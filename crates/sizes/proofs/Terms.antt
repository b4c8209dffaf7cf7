-- The terms in the roots' trees: each root is one, and each operator adds its operands.
use Prim.Native.Nat.{ℕ, suc, ◌+◌, ◌*◌, ◌≤◌}
use Rattle.std.specs.Prelude.{◌≡◌, refl, Bool, true, false, length}
use mathlib.Core.List.{List, []}
use Rattle.std.proofs.Common.{mul-add, mul-one, mul-le-mul_left}
use native.Mathlib.Omega.{arith}
use Rattle.std.proofs.Math.ListN.{get_or}
use Rattle.lists.specs.Build.{upto_all}
use Rattle.reading.specs.Trees.{Tree, variable, constant, apply, select, call, Trees, none, more, Stores, base, store}
use Rattle.echo_spec.specs.Shapes.{Shape, is_leaf}
use Rattle.echo_spec.specs.Input.{Node, shape, no_node, Dag}
use Rattle.echo_spec.specs.Trees.{trees_over, tree_step, trees_below, tree_of}
use Rattle.echo_spec.specs.Walk.{Operand, operands_as}
use Rattle.echo_spec.specs.Accepted.{Accepted}
use Rattle.sizes.specs.Size.{weigh, weigh_all, weigh_stores}
use Rattle.sizes.specs.Sums.{sum-le, sum-suc}
use Rattle.sizes.proofs.Operands.{own, entered, trees-sum, tree-sum, operands-few}
use Rattle.sizes.proofs.Operators.{operators-bound}

-- weights k times as large
module _ (k l o : ℕ) {l' o' : ℕ} (p : l' ≡ k * l) (q : o' ≡ k * o) where
  mutual
    unfolding weigh weigh_all weigh_stores

    pub scaled : (t : Tree) → weigh l' o' t ≡ k * weigh l o t
    scaled (variable n) = p
    scaled (constant bs) = p
    scaled (apply kind ks ts) =
        let a = scaled-all ts in
        let b = mul-add k o (weigh_all l o ts) in
        omega arith
    scaled (select a j ss) =
        let b = scaled-stores ss in
        let c = scaled j in
        let e = mul-add k (weigh_stores l o ss) (weigh l o j) in
        let f = mul-add k o (weigh_stores l o ss + weigh l o j) in
        omega arith
    scaled (call n ts) =
        let a = scaled-all ts in
        let b = mul-add k o (weigh_all l o ts) in
        omega arith

    pub scaled-all : (ts : Trees) → weigh_all l' o' ts ≡ k * weigh_all l o ts
    scaled-all none = omega arith
    scaled-all (more t ts) =
        let a = scaled t in
        let b = scaled-all ts in
        let c = mul-add k (weigh l o t) (weigh_all l o ts) in
        omega arith

    scaled-stores : (ss : Stores) → weigh_stores l' o' ss ≡ k * weigh_stores l o ss
    scaled-stores base = omega arith
    scaled-stores (store i v ss) =
        let a = scaled i in
        let b = scaled v in
        let c = scaled-stores ss in
        let e = mul-add k (weigh l o i) (weigh l o v) in
        let f = mul-add k (weigh_stores l o ss) (weigh l o i + weigh l o v) in
        omega arith

pub own-one : (s : Shape) → own 1 1 s ≡ 1
own-one s = by-leaf (is_leaf s)
  where
    by-leaf : (b : Bool) → ◌≡◌ {A = ℕ} (elim b [ true ↦ 1 | false ↦ 1 ]) 1
    by-leaf true = refl
    by-leaf false = refl

-- m is the largest number of operands
module _ (d : Dag) (ws bits : List ℕ) (m : ℕ) (most : 3 + length d.side ≤ m) where
  abbrev Few : Tree → Type 0
  Few t = weigh 1 1 t ≤ suc (weigh 0 m t)

  step-few : (below : ℕ → Tree) → ((j : ℕ) → Few (below j)) → (i : ℕ) → Few (tree_step d ws bits below i)
  unfolding tree_step
  step-few below few i =
      let n : Node = get_or d.nodes i no_node in
      let os : List Operand = operands_as d.side n (shape n) in
      let a = tree-sum 1 1 below d ws bits i n (shape n) in
      let b = tree-sum 0 m below d ws bits i n (shape n) in
      let c = sum-le (entered 1 1 below) (λ o. suc (entered 0 m below o)) (λ o. few o.node) os in
      let e = sum-suc (entered 0 m below) os in
      let f = operands-few m d.side most n (shape n) in
      let g = own-one (shape n) in
      omega arith

  tree-few : (i : ℕ) → Few (tree_of d ws bits i)
  unfolding tree_of
  tree-few i = step-few (trees_below d ws bits i) (upto_all Few (tree_step d ws bits) (constant []) (unfold weigh in omega arith) step-few i) i

  terms-few : (roots : List ℕ) → weigh_all 1 1 (trees_over (tree_of d ws bits) roots) ≤ length roots + weigh_all 0 m (trees_over (tree_of d ws bits) roots)
  terms-few roots =
      let t : (ℕ → Tree) = tree_of d ws bits in
      let a = trees-sum 1 1 t roots in
      let b = trees-sum 0 m t roots in
      let c = sum-le (λ x. weigh 1 1 (t x)) (λ x. suc (weigh 0 m (t x))) tree-few roots in
      let e = sum-suc (λ x. weigh 0 m (t x)) roots in
      omega arith

-- how many terms are entered, at most
pub terms-bound : (d : Dag) (ws bits roots : List ℕ) → Accepted d ws roots
    → weigh_all 1 1 (trees_over (tree_of d ws bits) roots) ≤ length roots + (3 + length d.side) * length d.nodes
terms-bound d ws bits roots a =
    let m : ℕ = 3 + length d.side in
    let p = terms-few d ws bits m (omega arith) roots in
    let s = scaled-all m 0 1 {l' = 0} {o' = m} (omega arith) (omega (arith, mul-one m)) (trees_over (tree_of d ws bits) roots) in
    let q = mul-le-mul_left m (operators-bound d ws bits roots a) in
    omega arith
