-- The operators in the roots' trees are no more than the nodes, where no operator is used twice.
--
-- Give node i the weight of its tree's operators, and add up the weights of all uses, by operands, side entries and roots. Each operator
-- is used once at most and a leaf weighs nothing, so the sum is at most that of all nodes' weights. An operator weighs one more than its
-- operands, so all nodes' weights are at most the number of nodes and the uses by operands and side entries. What is left of the first
-- sum are the roots.
use Prim.Native.Nat.{ℕ, zero, suc, ◌+◌, ◌≤◌, ◌<◌}
use Rattle.std.specs.Prelude.{◌≡◌, Bool, true, false, ◌||◌, ltb, eqb, length, get_or}
use Rattle.std.proofs.Math.Path.{refl, ap}
use Rattle.std.proofs.Common.{◌∙◌, eqb→eq, leb→le, ltb→lt, lt→ltb}
use mathlib.Core.List.{List, [], ◌∷◌, ◌++◌, map}
use Rattle.std.proofs.Math.Logic.{inl, inr}
use Rattle.std.proofs.Math.Decide.{dec_lt}
use native.Mathlib.Omega.{arith}
use Rattle.std.proofs.Math.Dec.{T, leb}
use Rattle.lists.specs.Tests.{All, every-at, or_elim, true→T, T→true}
use Rattle.lists.specs.Build.{upto, upto-below}
use Rattle.reading.specs.Trees.{constant}
use Rattle.echo_spec.specs.Shapes.{Shape, is_leaf}
use Rattle.echo_spec.specs.Input.{Node, shape, no_node, Dag}
use Rattle.echo_spec.specs.Sharing.{uses_as, uses_of_all, count, used_once, unshared}
use Rattle.echo_spec.specs.Trees.{trees_over, tree_step, trees_below, tree_of}
use Rattle.echo_spec.specs.Walk.{formula, walk_all, walks_below, walk, walk_roots, Operand, operands_as}
use Rattle.echo_spec.specs.Accepted.{or_else-passed, Accepted, walk-passed}
use Rattle.sizes.specs.Size.{weigh, weigh_all}
use Rattle.sizes.specs.Sums.{sum_over, sum_from, sum_at, sum-append, sum-le, sum-from-le, sum-by-number, at_most}
use Rattle.sizes.proofs.Operands.{own, entered, trees-sum, tree-sum, operands-used, operands-few}

-- from n on the table has its default
pub upto-past : {A : Type 0} (step : (ℕ → A) → ℕ → A) (d : A) (n j : ℕ) → n ≤ j → upto step d n j ≡ d
unfolding upto
upto-past step d zero j h = refl
upto-past {A} step d (suc n) j h = by_place (eqb j n) refl (upto-past step d n j (omega arith))
  where
    by_place : (b : Bool) → eqb j n ≡ b → upto step d n j ≡ d → upto step d (suc n) j ≡ d
    by_place true e r = absurd (let q : j ≡ n = eqb→eq j n (true→T e) in omega arith)
    by_place false e r = rw (e, upto) r

own-small : (s : Shape) → own 0 1 s ≤ 1
own-small s = by-leaf (is_leaf s)
  where
    by-leaf : (b : Bool) → elim b [ true ↦ 0 | false ↦ 1 ] ≤ 1
    by-leaf true = omega arith
    by-leaf false = omega arith

sum-none : {A : Type 0} (f : A → ℕ) (xs : List A) → length xs ≤ 0 → sum_over f xs ≡ 0
unfolding sum_over
sum-none f [] h = refl
sum-none f (x ∷ xs) h = absurd (omega arith)

module _ (d : Dag) (ws bits : List ℕ) where
  abbrev N : ℕ
  N = length d.nodes

  abbrev node : ℕ → Node
  node i = get_or d.nodes i no_node

  abbrev uses : ℕ → List ℕ
  uses i = uses_as d.side (node i) (shape (node i))

  -- the operators of node i's tree; nothing past the nodes
  abbrev weight : ℕ → ℕ
  weight i = weigh 0 1 (trees_below d ws bits N i)

  none-weighs : weigh 0 1 (constant []) ≡ 0
  unfolding weigh
  none-weighs = refl

  past : (x : ℕ) → N ≤ x → weight x ≡ 0
  past x h = ap (weigh 0 1) (upto-past (tree_step d ws bits) (constant []) N x h) ∙ none-weighs

  weight_is : (n i : ℕ) → i < n → weigh 0 1 (trees_below d ws bits n i)
      ≡ own 0 1 (shape (node i)) + sum_over (entered 0 1 (trees_below d ws bits i)) (operands_as d.side (node i) (shape (node i)))
  unfolding tree_step
  weight_is n i h =
      ap (weigh 0 1) (upto-below (tree_step d ws bits) (constant []) n i h) ∙ tree-sum 0 1 (trees_below d ws bits i) d ws bits i (node i) (shape (node i))

  leaf-weighs : (i : ℕ) → i < N → T (is_leaf (shape (node i))) → weight i ≡ 0
  leaf-weighs i h t =
      let os : List Operand = operands_as d.side (node i) (shape (node i)) in
      let z : is_leaf (shape (node i)) ≡ true = T→true (is_leaf (shape (node i))) t in
      let few : length os ≤ 0 = rw (z, own) at (operands-few (3 + length d.side) d.side (omega arith) (node i) (shape (node i))) in
      let none : own 0 1 (shape (node i)) ≡ 0 = rw (z, own) in
      omega (arith, weight_is N i h, sum-none (entered 0 1 (trees_below d ws bits i)) os few)

  -- what stands below node i weighs no more
  lower : (i : ℕ) → i < N → (x : ℕ) → weigh 0 1 (trees_below d ws bits i x) ≤ weight x
  lower i h x = by_place (dec_lt x i)
    where
      by_place : Dec (x < i) → weigh 0 1 (trees_below d ws bits i x) ≤ weight x
      by_place (yes l) =
          let a = weight_is i x l in
          let b = weight_is N x (omega arith) in
          omega arith
      by_place (no l) =
          let a : weigh 0 1 (trees_below d ws bits i x) ≡ 0 =
          ap (weigh 0 1) (upto-past (tree_step d ws bits) (constant []) i x (omega arith)) ∙ none-weighs in
          omega arith

  weight-step : (i : ℕ) → i < N → weight i ≤ 1 + sum_over weight (uses i)
  weight-step i h =
      let a = weight_is N i h in
      let b = own-small (shape (node i)) in
      let c = operands-used (λ x. weigh 0 1 (trees_below d ws bits i x)) d.side (node i) (shape (node i)) in
      let e = sum-le (λ x. weigh 0 1 (trees_below d ws bits i x)) weight (lower i h) (uses i) in
      omega arith

  -- all nodes' weights
  nodes-weigh : (ns : List Node) (a : ℕ)
      → ((j : ℕ) → j < length ns → weight (a + j) ≤ 1 + sum_over weight (uses_as d.side (get_or ns j no_node) (shape (get_or ns j no_node))))
      → sum_from weight a (length ns) ≤ length ns + sum_over weight (uses_of_all d.side ns)
  unfolding sum_from uses_of_all
  nodes-weigh [] a h = omega arith
  nodes-weigh (n ∷ ns) a h =
      let z : a + 0 ≡ a = omega arith in
      let p : weight a ≤ 1 + sum_over weight (uses_as d.side n (shape n)) = rw z at (h 0 (omega arith)) in
      let q = nodes-weigh ns (suc a) (λ j l. let e : suc a + j ≡ a + suc j = omega arith in rw e (h (suc j) (omega arith))) in
      let r = sum-append weight (uses_as d.side n (shape n)) (uses_of_all d.side ns) in
      omega arith

  -- a node's weight, as often as it is used
  uses-weigh : (roots : List ℕ) → T (unshared d.nodes d.side roots) → (i : ℕ) → i < N
      → sum_at weight (uses_of_all d.side d.nodes ++ roots) i ≤ weight i
  unfolding unshared used_once
  uses-weigh roots t i h =
      let us : List ℕ = uses_of_all d.side d.nodes ++ roots in
      let u : T (is_leaf (shape (node i)) || leb (count i us) 1) = every-at (used_once d.nodes us) 0 N t i (omega arith) (omega arith) in
      at_most weight i us
      (or_elim (is_leaf (shape (node i))) (leb (count i us) 1) u (λ l. inl (leaf-weighs i h l)) (λ c. inr (leb→le (count i us) 1 c)))

  roots-weigh : (roots : List ℕ) → T (unshared d.nodes d.side roots) → sum_over weight roots ≤ N
  roots-weigh roots t =
      let us : List ℕ = uses_of_all d.side d.nodes in
      let a = sum-append weight us roots in
      let b = sum-by-number weight N past (us ++ roots) in
      let c = sum-from-le (sum_at weight (us ++ roots)) weight 0 N (λ i l m. uses-weigh roots t i (omega arith)) in
      let e = nodes-weigh d.nodes 0 (λ j l. let z : 0 + j ≡ j = omega arith in rw z (weight-step j l)) in
      omega arith

-- ---------------------------------------------------------------- accepted queries

-- the roots of a walk that passes are nodes
pub roots-exist : (d : Dag) (ws roots : List ℕ) → walk_all (walk d ws) (map formula roots) ≡ 0 → All (λ r. ltb r (length d.nodes)) roots
unfolding walk_all walk
roots-exist d ws [] e = tt
roots-exist d ws (r ∷ roots) e =
    let a = or_else-passed (walk d ws r true) _ e in
    (lt→ltb r (length d.nodes) (walk-passed d ws (walks_below d ws r) r true a.0).exists, roots-exist d ws roots a.1)

-- the trees of nodes are those of the table of all nodes
pub trees-below : (d : Dag) (ws bits : List ℕ) (xs : List ℕ) → All (λ x. ltb x (length d.nodes)) xs
    → trees_over (tree_of d ws bits) xs ≡ trees_over (trees_below d ws bits (length d.nodes)) xs
unfolding trees_over tree_of
trees-below d ws bits [] h = refl
trees-below d ws bits (x ∷ xs) h =
    let a : trees_below d ws bits (length d.nodes) x ≡ tree_of d ws bits x =
    upto-below (tree_step d ws bits) (constant []) (length d.nodes) x (ltb→lt x (length d.nodes) h.0) in
    let b = trees-below d ws bits xs h.1 in
    cc

-- operators are entered no more often than there are nodes
pub operators-bound : (d : Dag) (ws bits roots : List ℕ) → Accepted d ws roots → weigh_all 0 1 (trees_over (tree_of d ws bits) roots) ≤ length d.nodes
operators-bound d ws bits roots a =
    let e = trees-below d ws bits roots (roots-exist d ws roots (unfold walk_roots in a.walked)) in
    let f = trees-sum 0 1 (trees_below d ws bits (length d.nodes)) roots in
    let b = roots-weigh d ws bits roots a.sharing in
    rw e (omega arith)
