-- Which nodes can be evaluated on a row, and what an evaluation answers.
use Rattle.std.specs.Prelude.{ℕ, ◌<◌, ◌^◌, ◌≡◌, List, [], Bool, true, false, ◌&&◌, T, leb, ltb, eqb, length, get_or, Option, None}
use Rattle.std.specs.Option.{is_some}
use Rattle.lists.specs.Tests.{every}
use Rattle.lists.specs.Build.{upto}
use Rattle.reading.specs.Kinds.{Const}
use Rattle.echo_spec.specs.Shapes.{Shape, var, const, binary, rotation, extraction, concat, extension, ite, comparison, negation, connective, unary, select, call, unknown, is_bool}
use Rattle.echo_spec.specs.Input.{Node, shape, no_node, nodes_of}
use Rattle.echo_spec.specs.Widths.{width_at}
use Rattle.echo_spec.specs.Walk.{Operand, operands_as, sort_ok}
use Rattle.vectors.specs.Values.{Value, truth, vector}
use Rattle.values.specs.NodeValues.{value_at}
use Rattle.trace_tables.specs.Fixed.{place_in}

-- the variable has an entry, of its width (`vw` has the entries' widths), and the row's value fits it
unfoldable pub variable_ready : List ℕ → List ℕ → List (Option ℕ) → List ℕ → ℕ → Bool
variable_ready ws vw entry row i =
    eqb (get_or vw (place_in entry i) 0) (width_at ws i)
    && (is_some (get_or entry i None) && (ltb (place_in entry i) (length row) && ltb (get_or row (place_in entry i) 0) (2 ^ width_at ws i)))

-- what is asked of a node by itself
unfoldable pub own_as : List Node → List ℕ → List ℕ → List (Option ℕ) → List ℕ → ℕ → Node → Shape → Bool
own_as ns ws vw entry row i n var = variable_ready ws vw entry row i
own_as ns ws vw entry row i n const = true
own_as ns ws vw entry row i n binary = true
own_as ns ws vw entry row i n rotation = eqb (get_or ns n.b no_node).kind Const
own_as ns ws vw entry row i n extraction = true
own_as ns ws vw entry row i n concat = true
own_as ns ws vw entry row i n extension = true
own_as ns ws vw entry row i n ite = true
own_as ns ws vw entry row i n comparison = true
own_as ns ws vw entry row i n negation = true
own_as ns ws vw entry row i n connective = true
own_as ns ws vw entry row i n unary = true
own_as ns ws vw entry row i n select = false
own_as ns ws vw entry row i n call = false
own_as ns ws vw entry row i n unknown = false

abbrev pub bool_at : List Node → ℕ → Bool
bool_at ns i = is_bool (shape (get_or ns i no_node))

-- an operand has the wanted sort and can be evaluated
unfoldable pub operand_ready : List Node → (ℕ → Bool) → Operand → Bool
operand_ready ns below o = sort_ok o.bool (bool_at ns o.node) && below o.node

unfoldable pub ready_step : List Node → List ℕ → List ℕ → List (Option ℕ) → List ℕ → (ℕ → Bool) → ℕ → Bool
ready_step ns ws vw entry row below i =
    ltb i (length ns)
    && (leb (width_at ws i) 64
    && (own_as ns ws vw entry row i (get_or ns i no_node) (shape (get_or ns i no_node))
    && every (operand_ready ns below) (operands_as [] (get_or ns i no_node) (shape (get_or ns i no_node)))))

abbrev pub ready_below : List Node → List ℕ → List ℕ → List (Option ℕ) → List ℕ → ℕ → ℕ → Bool
ready_below ns ws vw entry row n = upto (ready_step ns ws vw entry row) false n

unfoldable pub ready : List Node → List ℕ → List ℕ → List (Option ℕ) → List ℕ → ℕ → Bool
ready ns ws vw entry row i = ready_step ns ws vw entry row (ready_below ns ws vw entry row i) i

-- a value as a number: a Bool is 0 or 1
abbrev pub held : Bool → ℕ → ℕ → Value
held true w r = truth (eqb r 1)
held false w r = vector w r

-- values for the nodes that are variables, as the row gives them wherever the node can be evaluated: `entry` has a variable's place in the
-- table
pub record Agree (nodes ws vw : List ℕ) (entry : List (Option ℕ)) (row : List ℕ) (vars : ℕ → Value) : Type 0 where
  pub at : (i : ℕ) → T (ready (nodes_of nodes) ws vw entry row i) → shape (get_or (nodes_of nodes) i no_node) ≡ var
      → vars i ≡ vector (width_at ws i) (get_or row (place_in entry i) 0)

-- r is the value of node i, whatever the values of variables that agree with the row
pub record ValuedOn (nodes bits ws vw : List ℕ) (entry : List (Option ℕ)) (row : List ℕ) (i r : ℕ) : Type 0 where
  pub value : (vars : ℕ → Value) → Agree nodes ws vw entry row vars → value_at (nodes_of nodes) ws bits vars i ≡ held (bool_at (nodes_of nodes) i) (width_at ws i) r
  pub below : r < 2 ^ width_at ws i
