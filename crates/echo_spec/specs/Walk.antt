-- Refusals 1 to 7 and 12 of a query. They take the number of bits, not the bits, and the roots by themselves.
use Rattle.std.specs.Prelude.{ℕ, zero, suc, List, [], ◌∷◌, ◌++◌, map, Bool, true, false, ◌&&◌, not, leb, ltb, eqb, length, take, drop, get_or}
use Rattle.std.proofs.Math.Option.{none, some}
use Rattle.lists.specs.Tests.{same}
use Rattle.lists.specs.Build.{upto}
use Rattle.reading.specs.Kinds.{Const}
use Rattle.echo_spec.specs.Refusals.{unless, ◌or_else◌}
use Rattle.echo_spec.specs.Shapes.{
  Shape,
  var,
  const,
  binary,
  rotation,
  extraction,
  concat,
  extension,
  ite,
  comparison,
  negation,
  connective,
  unary,
  select,
  call,
  unknown,
  is_bool,
}
use Rattle.echo_spec.specs.Input.{Node, shape, no_node, Dag, aname_table, fname_table}
use Rattle.echo_spec.specs.Widths.{width_at, array_widths_ok, ext_wf_of}
use Rattle.echo_spec.specs.Names.{names_ok}
use Rattle.echo_spec.specs.Sharing.{unshared}
use Rattle.echo_spec.specs.Tables.{columns_ok, find_node, find_call, arguments_inside, argument_widths, decl_vars_ok, decl_funcs_ok}

-- ---------------------------------------------------------------- what the tables ask of a term itself

-- 4: the first entry that has the node has its width
unfoldable pub variable_ok : Dag → ℕ → Node → Bool
variable_ok d i n = elim (find_node d.var_node i) [ none ↦ false | some k ↦ eqb (get_or d.var_width k 0) n.a ]

-- 5: the width is from 1 to 65,536 and the amount is a constant
unfoldable pub rotation_ok : Dag → List ℕ → ℕ → Node → Bool
rotation_ok d ws i n = ltb 0 (width_at ws i) && (leb (width_at ws i) 65536 && eqb (get_or d.nodes n.b no_node).kind Const)

-- `args_match`: two calls have as many arguments, inside the side entries, of the same widths
unfoldable pub args_match : List ℕ → List ℕ → Node → Node → Bool
args_match ws side n f =
    eqb f.d n.d
    && (arguments_inside side n && (arguments_inside side f && same (argument_widths ws side n) (argument_widths ws side f)))

-- 7: the call agrees with its function's declared width and with the function's first call
unfoldable pub call_ok : Dag → List ℕ → Node → Bool
call_ok d ws n =
    eqb (get_or d.func_width n.a 0) n.b
    && elim (find_call d.nodes n.a) [ none ↦ false | some c ↦ args_match ws d.side n (get_or d.nodes c no_node) ]

unfoldable pub asked_as : Dag → List ℕ → ℕ → Node → Shape → ℕ
asked_as d ws i n var = unless (variable_ok d i n) 4
asked_as d ws i n const = 0
asked_as d ws i n binary = 0
asked_as d ws i n rotation = unless (rotation_ok d ws i n) 5
asked_as d ws i n extraction = 0
asked_as d ws i n concat = 0
asked_as d ws i n extension = 0
asked_as d ws i n ite = 0
asked_as d ws i n comparison = 0
asked_as d ws i n negation = 0
asked_as d ws i n connective = 0
asked_as d ws i n unary = 0
asked_as d ws i n select = unless (ltb n.a (length (aname_table d))) 1
asked_as d ws i n call = unless (ltb n.a (length (fname_table d))) 1 or_else unless (call_ok d ws n) 7
asked_as d ws i n unknown = 0

-- what node i by itself is refused with, whatever path leads to it
unfoldable pub asked : Dag → List ℕ → ℕ → ℕ
asked d ws i = asked_as d ws i (get_or d.nodes i no_node) (shape (get_or d.nodes i no_node))

-- ---------------------------------------------------------------- the walk

-- an operand, and whether a Bool is wanted there
pub record Operand : Type 0 where
  pub node : ℕ
  pub bool : Bool

abbrev pub vector : ℕ → Operand
vector x = record { node = x; bool = false }

abbrev pub formula : ℕ → Operand
formula x = record { node = x; bool = true }

-- n pairs, the last first, an index before its value
unfoldable pub levels : ℕ → List ℕ → List Operand
levels zero side = []
levels (suc n) [] = []
levels (suc n) (x ∷ []) = []
levels (suc n) (x ∷ v ∷ side) = levels n side ++ (vector x ∷ vector v ∷ [])

-- the operands that are walked, in printing order: a rotation's amount is not
unfoldable pub operands_as : List ℕ → Node → Shape → List Operand
operands_as side n var = []
operands_as side n const = []
operands_as side n binary = vector n.a ∷ vector n.b ∷ []
operands_as side n rotation = vector n.a ∷ []
operands_as side n extraction = vector n.c ∷ []
operands_as side n concat = vector n.a ∷ vector n.b ∷ []
operands_as side n extension = vector n.a ∷ []
operands_as side n ite = formula n.a ∷ vector n.b ∷ vector n.c ∷ []
operands_as side n comparison = vector n.a ∷ vector n.b ∷ []
operands_as side n negation = formula n.a ∷ []
operands_as side n connective = formula n.a ∷ formula n.b ∷ []
operands_as side n unary = vector n.a ∷ []
operands_as side n select = levels n.d (drop n.c side) ++ (vector n.b ∷ [])
operands_as side n call = map vector (take n.d (drop n.c side))
operands_as side n unknown = []

-- the first refusal among operands
unfoldable pub walk_all : (ℕ → Bool → ℕ) → List Operand → ℕ
walk_all below [] = 0
walk_all below (o ∷ os) = below o.node o.bool or_else walk_all below os

-- the sort that is wanted is the one that the node has
abbrev pub sort_ok : Bool → Bool → Bool
sort_ok true has = has
sort_ok false has = not has

-- Node i where a Bool is wanted, or a bit-vector: it exists, it has the wanted sort, the tables take it, and its operands
-- pass in printing order, each by the answer for the nodes below.
unfoldable pub step_of_walk : Dag → List ℕ → (ℕ → Bool → ℕ) → ℕ → Bool → ℕ
step_of_walk d ws below i wanted =
    unless (ltb i (length d.nodes)) 1
    or_else unless (sort_ok wanted (is_bool (shape (get_or d.nodes i no_node)))) 3
    or_else asked d ws i
    or_else walk_all below (operands_as d.side (get_or d.nodes i no_node) (shape (get_or d.nodes i no_node)))

-- the answers for the nodes below n
abbrev pub walks_below : Dag → List ℕ → ℕ → ℕ → Bool → ℕ
walks_below d ws n = upto (step_of_walk d ws) (λ _. 1) n

unfoldable pub walk : Dag → List ℕ → ℕ → Bool → ℕ
walk d ws i = step_of_walk d ws (walks_below d ws i) i

-- the roots in order, a Bool wanted of each
unfoldable pub walk_roots : Dag → List ℕ → List ℕ → ℕ
walk_roots d ws roots = walk_all (walk d ws) (map formula roots)

-- ---------------------------------------------------------------- refusals 1 to 7 and 12, in their order: document 01's, changed by document 02 (L5)

-- The order that every way to print has: `sharing` is its check of sharing, `walked` its walk of the roots; ws are the widths of
-- the nodes, as far as they are well formed.
abbrev pub table_checks : Dag → List ℕ → ℕ → ℕ → ℕ
table_checks d ws sharing walked =
    unless (names_ok d) 2
    or_else sharing
    or_else unless (decl_vars_ok d) 4
    or_else unless (decl_funcs_ok d ws) 7
    or_else walked

abbrev pub checks : Dag → List ℕ → ℕ → ℕ → ℕ
checks d ws sharing walked =
    unless (columns_ok d) 1
    or_else unless (array_widths_ok d.array-widths) 12
    or_else unless (eqb (length ws) (length d.nodes)) 1
    or_else table_checks d ws sharing walked

unfoldable pub refusal_with : Dag → List ℕ → List ℕ → ℕ
refusal_with d ws roots = checks d ws (unless (unshared d.nodes d.side roots) 6) (walk_roots d ws roots)

-- with so many bits
abbrev pub refusal : Dag → ℕ → List ℕ → ℕ
refusal d nbits roots = refusal_with d (ext_wf_of nbits d.array-widths d.side d.nodes) roots
