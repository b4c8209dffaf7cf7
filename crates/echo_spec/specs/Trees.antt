-- Trees: a node as a term, from the input alone and with no check in it (document 01, "Trees and readings").
use Rattle.std.specs.Prelude.{ℕ, zero, suc, ◌+◌, ◌*◌, ◌%◌, List, [], ◌∷◌, take, drop, get_or}
use Rattle.std.proofs.Math.Option.{Option, some}  -- `none` is a tree's here
use Rattle.lists.specs.Build.{upto}
use Rattle.reading.specs.Trees.{Name, Tree, variable, constant, apply, select, call, Trees, none, more, Stores, base, store, Reading}
use Rattle.echo_spec.specs.Shapes.{Shape, var, const, binary, rotation, extraction, concat, extension, ite, comparison, negation, connective, unary, unknown}
use Rattle.echo_spec.specs.Input.{Node, shape, no_node, Dag, Query, name_table, aname_table, fname_table}
use Rattle.echo_spec.specs.Widths.{width_at, widths_of}
use Rattle.echo_spec.specs.Tables.{find_node, declarations_of}

-- the bits of a constant, the lowest first
unfoldable pub constant_bits : List ℕ → Node → List ℕ
constant_bits bits n = take n.b (drop n.a bits)

-- the number that bits stand for
unfoldable pub bits_value : List ℕ → ℕ
bits_value [] = 0
bits_value (b ∷ bs) = b + 2 * bits_value bs

-- the amount of a rotation: what its constant stands for, modulo the rotation's width
unfoldable pub amount_of : Dag → List ℕ → List ℕ → ℕ → Node → ℕ
amount_of d ws bits i n = bits_value (constant_bits bits (get_or d.nodes n.b no_node)) % width_at ws i

-- a variable's name is that of the first entry that has its node
unfoldable pub variable_name : Dag → ℕ → Name
variable_name d i = elim (find_node d.var_node i) [ Option.none ↦ [] | some k ↦ get_or (name_table d) k [] ]

unfoldable pub trees_over : (ℕ → Tree) → List ℕ → Trees
trees_over below [] = none
trees_over below (x ∷ xs) = more (below x) (trees_over below xs)

-- n pairs of an index and a value
unfoldable pub stores_over : (ℕ → Tree) → ℕ → List ℕ → Stores
stores_over below zero side = base
stores_over below (suc n) [] = base
stores_over below (suc n) (x ∷ []) = base
stores_over below (suc n) (x ∷ v ∷ side) = store (below x) (below v) (stores_over below n side)

-- node i of this shape, over the trees of the nodes below it
unfoldable pub tree_as : Dag → List ℕ → List ℕ → (ℕ → Tree) → ℕ → Node → Shape → Tree
tree_as d ws bits below i n var = variable (variable_name d i)
tree_as d ws bits below i n const = constant (constant_bits bits n)
tree_as d ws bits below i n binary = apply n.kind [] (trees_over below (n.a ∷ n.b ∷ []))
tree_as d ws bits below i n rotation = apply n.kind (amount_of d ws bits i n ∷ []) (trees_over below (n.a ∷ []))
tree_as d ws bits below i n extraction = apply n.kind (n.a ∷ n.b ∷ []) (trees_over below (n.c ∷ []))
tree_as d ws bits below i n concat = apply n.kind [] (trees_over below (n.a ∷ n.b ∷ []))
tree_as d ws bits below i n extension = apply n.kind (n.b ∷ []) (trees_over below (n.a ∷ []))
tree_as d ws bits below i n ite = apply n.kind [] (trees_over below (n.a ∷ n.b ∷ n.c ∷ []))
tree_as d ws bits below i n comparison = apply n.kind [] (trees_over below (n.a ∷ n.b ∷ []))
tree_as d ws bits below i n negation = apply n.kind [] (trees_over below (n.a ∷ []))
tree_as d ws bits below i n connective = apply n.kind [] (trees_over below (n.a ∷ n.b ∷ []))
tree_as d ws bits below i n unary = apply n.kind [] (trees_over below (n.a ∷ []))
tree_as d ws bits below i n Shape.select = select (get_or (aname_table d) n.a []) (below n.b) (stores_over below n.d (drop n.c d.side))
tree_as d ws bits below i n Shape.call = call (get_or (fname_table d) n.a []) (trees_over below (take n.d (drop n.c d.side)))
tree_as d ws bits below i n unknown = apply n.kind [] none

unfoldable pub tree_step : Dag → List ℕ → List ℕ → (ℕ → Tree) → ℕ → Tree
tree_step d ws bits below i = tree_as d ws bits below i (get_or d.nodes i no_node) (shape (get_or d.nodes i no_node))

-- the trees of the nodes below n; ws are the nodes' widths
abbrev pub trees_below : Dag → List ℕ → List ℕ → ℕ → ℕ → Tree
trees_below d ws bits n = upto (tree_step d ws bits) (constant []) n

unfoldable pub tree_of : Dag → List ℕ → List ℕ → ℕ → Tree
tree_of d ws bits i = tree_step d ws bits (trees_below d ws bits i) i

-- a query's reading: its declarations and its roots' trees ("reading" is document 01's term)
unfoldable pub reading_of : Query → Reading
reading_of q = record {
  declarations = declarations_of q.dag (widths_of q);
  assertions = trees_over (tree_of q.dag (widths_of q) q.bits) q.roots;
}
