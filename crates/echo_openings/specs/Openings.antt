-- What is written of a node before its first operand.
use Rattle.std.specs.Prelude.{ℕ, zero, suc, true, false, List, [], ◌∷◌, ◌++◌, ltb, get_or}
use Rattle.lists.specs.Bytes.{bytes}
use Rattle.echo_spec.specs.Shapes.{
  Shape,
  var,
  const,
  binary,
  rotation,
  extraction,
  concat,
  extension,
  ite,
  comparison,
  negation,
  connective,
  unary,
  select,
  call,
  unknown,
}
use Rattle.echo_spec.specs.Input.{Node, Dag, aname_table, fname_table}
use Rattle.echo_spec.specs.Trees.{constant_bits, amount_of, variable_name}
use Rattle.echo_spec.specs.Render.{decimal, binary_digits, quoted}
use Rattle.echo_lines.specs.Heads.{repeated}
use Rattle.echo_pieces.specs.Signs.{sign_of, level_of}

-- nothing before the first operand of an operator that stands between two
unfoldable pub plain_opening : ℕ → List ℕ
plain_opening k = elim (ltb (level_of k) 10) [ true ↦ [] | false ↦ sign_of k ]

-- each numeral before a comma
unfoldable pub numbered : List ℕ → List ℕ
numbered [] = []
numbered (k ∷ ks) = decimal k ++ (bytes ", " ++ numbered ks)

-- by the number of arguments
unfoldable pub call_opening : ℕ → List ℕ → List ℕ
call_opening zero name = name
call_opening (suc n) name = name ++ bytes "("

unfoldable pub opening_as : Dag → List ℕ → List ℕ → ℕ → Node → Shape → List ℕ
opening_as d ws bits i n var = quoted (variable_name d i)
opening_as d ws bits i n const = bytes "#b" ++ binary_digits (constant_bits bits n)
opening_as d ws bits i n binary = plain_opening n.kind
opening_as d ws bits i n rotation = sign_of n.kind ++ numbered (amount_of d ws bits i n ∷ [])
opening_as d ws bits i n extraction = sign_of n.kind ++ numbered (n.a ∷ n.b ∷ [])
opening_as d ws bits i n concat = plain_opening n.kind
opening_as d ws bits i n extension = sign_of n.kind ++ numbered (n.b ∷ [])
opening_as d ws bits i n ite = plain_opening n.kind
opening_as d ws bits i n comparison = plain_opening n.kind
opening_as d ws bits i n negation = plain_opening n.kind
opening_as d ws bits i n connective = plain_opening n.kind
opening_as d ws bits i n unary = plain_opening n.kind
opening_as d ws bits i n select = bytes "select(" ++ (repeated n.d (bytes "store(") ++ (quoted (get_or (aname_table d) n.a []) ++ bytes ", "))
opening_as d ws bits i n call = call_opening n.d (quoted (get_or (fname_table d) n.a []))
opening_as d ws bits i n unknown = []
