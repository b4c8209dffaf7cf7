-- The value of a node from its operands' values, and that it is the value of the node's tree.
use Prim.Native.Nat.{ℕ, zero, suc, ◌%◌, ◌<◌}
use Rattle.std.specs.Prelude.{◌≡◌, List, [], ◌∷◌, Bool, eqb, length, drop, take, get_or}
use Rattle.std.proofs.Math.Path.{refl}
use Rattle.std.proofs.Common.{ap, sym, ◌∙◌}
use Rattle.std.proofs.Math.Bool.{true, false}
use Rattle.lists.specs.Build.{upto, upto-below}
use Rattle.reading.specs.Trees.{Name, Tree, constant, Trees}
use Rattle.echo_spec.specs.Shapes.{Shape, var, const, binary, rotation, extraction, concat, extension, ite, comparison, negation, connective, unary, select, call, unknown}
use Rattle.echo_spec.specs.Input.{Node, shape, no_node, Dag}
use Rattle.echo_spec.specs.Widths.{width_at}
use Rattle.echo_spec.specs.Trees.{constant_bits, bits_value, amount_of, variable_name, trees_over, stores_over, tree_as, tree_step, trees_below, tree_of}
use Rattle.vectors.specs.Values.{Value, undefined, applied, meaning, number, value_of, values_of}
use Rattle.vectors.specs.Values as values

-- a rotation's amount, as `amount_of` has it
abbrev pub amount_in : List Node → List ℕ → List ℕ → ℕ → Node → ℕ
amount_in ns ws bits i n = bits_value (constant_bits bits (get_or ns n.b no_node)) % width_at ws i

-- node i of this shape, over the values of variables and of the nodes below it
unfoldable pub value_as : List Node → List ℕ → List ℕ → (ℕ → Value) → (ℕ → Value) → ℕ → Node → Shape → Value
value_as ns ws bits vars below i n var = vars i
value_as ns ws bits vars below i n const = values.vector (length (constant_bits bits n)) (number (constant_bits bits n))
value_as ns ws bits vars below i n binary = applied (meaning n.kind) [] (below n.a ∷ below n.b ∷ [])
value_as ns ws bits vars below i n rotation = applied (meaning n.kind) (amount_in ns ws bits i n ∷ []) (below n.a ∷ [])
value_as ns ws bits vars below i n extraction = applied (meaning n.kind) (n.a ∷ n.b ∷ []) (below n.c ∷ [])
value_as ns ws bits vars below i n concat = applied (meaning n.kind) [] (below n.a ∷ below n.b ∷ [])
value_as ns ws bits vars below i n extension = applied (meaning n.kind) (n.b ∷ []) (below n.a ∷ [])
value_as ns ws bits vars below i n ite = applied (meaning n.kind) [] (below n.a ∷ below n.b ∷ below n.c ∷ [])
value_as ns ws bits vars below i n comparison = applied (meaning n.kind) [] (below n.a ∷ below n.b ∷ [])
value_as ns ws bits vars below i n negation = applied (meaning n.kind) [] (below n.a ∷ [])
value_as ns ws bits vars below i n connective = applied (meaning n.kind) [] (below n.a ∷ below n.b ∷ [])
value_as ns ws bits vars below i n unary = applied (meaning n.kind) [] (below n.a ∷ [])
value_as ns ws bits vars below i n select = undefined
value_as ns ws bits vars below i n call = undefined
value_as ns ws bits vars below i n unknown = undefined

unfoldable pub value_step : List Node → List ℕ → List ℕ → (ℕ → Value) → (ℕ → Value) → ℕ → Value
value_step ns ws bits vars below i = value_as ns ws bits vars below i (get_or ns i no_node) (shape (get_or ns i no_node))

abbrev pub values_below : List Node → List ℕ → List ℕ → (ℕ → Value) → ℕ → ℕ → Value
values_below ns ws bits vars n = upto (value_step ns ws bits vars) (values.vector 0 0) n

unfoldable pub value_at : List Node → List ℕ → List ℕ → (ℕ → Value) → ℕ → Value
value_at ns ws bits vars i = value_step ns ws bits vars (values_below ns ws bits vars i) i

-- ---------------------------------------------------------------- laws

pub value-below : (ns : List Node) (ws bits : List ℕ) (vars : ℕ → Value) (i j : ℕ) → j < i → values_below ns ws bits vars i j ≡ value_at ns ws bits vars j
unfolding value_at
value-below ns ws bits vars i j h = upto-below (value_step ns ws bits vars) (values.vector 0 0) i j h

module _ (d : Dag) (ws bits : List ℕ) (env : Name → Value) (vars : ℕ → Value) (named : (i : ℕ) → env (variable_name d i) ≡ vars i) where
  tree-as : (below : ℕ → Tree) (i : ℕ) (n : Node) (s : Shape)
      → value_of env (tree_as d ws bits below i n s) ≡ value_as d.nodes ws bits vars (λ j. value_of env (below j)) i n s
  unfolding value_of tree_as value_as trees_over applied amount_of
  tree-as below i n var = named i
  tree-as below i n const = refl
  tree-as below i n binary = refl
  tree-as below i n rotation = refl
  tree-as below i n extraction = refl
  tree-as below i n concat = refl
  tree-as below i n extension = refl
  tree-as below i n ite = refl
  tree-as below i n comparison = refl
  tree-as below i n negation = refl
  tree-as below i n connective = refl
  tree-as below i n unary = refl
  tree-as below i n select = refl
  tree-as below i n call = refl
  tree-as below i n unknown = refl

  tree-step : (below : ℕ → Tree) (vs : ℕ → Value) → ((j : ℕ) → value_of env (below j) ≡ vs j) → (i : ℕ)
      → value_of env (tree_step d ws bits below i) ≡ value_step d.nodes ws bits vars vs i
  unfolding tree_step value_step
  tree-step below vs h i =
      tree-as below i (get_or d.nodes i no_node) (shape (get_or d.nodes i no_node))
      ∙ (λ k. value_as d.nodes ws bits vars (λ j. h j k) i (get_or d.nodes i no_node) (shape (get_or d.nodes i no_node)))

  trees-below : (n j : ℕ) → value_of env (trees_below d ws bits n j) ≡ values_below d.nodes ws bits vars n j
  unfolding upto value_of number
  trees-below zero j = refl
  trees-below (suc n) j = by_place (eqb j n) (λ k. trees-below n k)
    where
      by_place : (b : Bool) → ((k : ℕ) → value_of env (trees_below d ws bits n k) ≡ values_below d.nodes ws bits vars n k)
          → value_of env (elim b [ true ↦ tree_step d ws bits (trees_below d ws bits n) n | false ↦ trees_below d ws bits n j ])
          ≡ elim b [ true ↦ value_step d.nodes ws bits vars (values_below d.nodes ws bits vars n) n | false ↦ values_below d.nodes ws bits vars n j ]
      by_place true h = tree-step (trees_below d ws bits n) (values_below d.nodes ws bits vars n) h n
      by_place false h = h j

  -- the value of a node is that of its tree
  pub tree-value : (i : ℕ) → value_of env (tree_of d ws bits i) ≡ value_at d.nodes ws bits vars i
  unfolding tree_of value_at
  tree-value i = tree-step (trees_below d ws bits i) (values_below d.nodes ws bits vars i) (trees-below i) i
