-- What the walk writes of a node. The head of a term is all its text before its operands, and its form says what operands follow.
use Rattle.std.specs.Prelude.{ℕ, zero, suc, ◌+◌, Bool, true, false, List, [], ◌∷◌, ◌++◌, get_or}
use Rattle.lists.specs.Bytes.{bytes}
use Rattle.lists.specs.Build.{upto}
use Rattle.echo_spec.specs.Shapes.{
  Shape,
  var,
  const,
  binary,
  rotation,
  extraction,
  concat,
  extension,
  ite,
  comparison,
  negation,
  connective,
  unary,
  select,
  call,
  unknown,
}
use Rattle.echo_spec.specs.Input.{Node, shape, no_node, Dag, aname_table, fname_table}
use Rattle.echo_spec.specs.Trees.{constant_bits, amount_of, variable_name}
use Rattle.echo_spec.specs.Render.{decimal, symbol_of, binary_digits, quoted, operator_text}
use Rattle.echo_lines.specs.Heads.{repeated, call_head}
use Rattle.echo_tables.specs.declared.Form.{Form}
use Rattle.echo_tables.specs.declared.Form.TheVariants.{Leaf, One, Two, Choice, Chain, Arguments}
use Rattle.echo_tables.specs.Forms.{form_as}

-- ---------------------------------------------------------------- heads

unfoldable pub head_as : Dag → List ℕ → List ℕ → ℕ → Node → Shape → List ℕ
head_as d ws bits i n var = quoted (variable_name d i)
head_as d ws bits i n const = bytes "#b" ++ binary_digits (constant_bits bits n)
head_as d ws bits i n binary = bytes "(" ++ symbol_of n.kind
head_as d ws bits i n rotation =
    bytes "(" ++ operator_text (symbol_of n.kind) (amount_of d ws bits i n ∷ [])
head_as d ws bits i n extraction = bytes "(" ++ operator_text (symbol_of n.kind) (n.a ∷ n.b ∷ [])
head_as d ws bits i n concat = bytes "(" ++ symbol_of n.kind
head_as d ws bits i n extension = bytes "(" ++ operator_text (symbol_of n.kind) (n.b ∷ [])
head_as d ws bits i n ite = bytes "(" ++ symbol_of n.kind
head_as d ws bits i n comparison = bytes "(" ++ symbol_of n.kind
head_as d ws bits i n negation = bytes "(" ++ symbol_of n.kind
head_as d ws bits i n connective = bytes "(" ++ symbol_of n.kind
head_as d ws bits i n unary = bytes "(" ++ symbol_of n.kind
head_as d ws bits i n select = bytes "(select " ++ (repeated n.d (bytes "(store ") ++ quoted (get_or (aname_table d) n.a []))
head_as d ws bits i n call = call_head n.d (quoted (get_or (fname_table d) n.a []))
head_as d ws bits i n unknown = []

unfoldable pub head_of : Dag → List ℕ → List ℕ → ℕ → List ℕ
head_of d ws bits i = head_as d ws bits i (get_or d.nodes i no_node) (shape (get_or d.nodes i no_node))

-- ---------------------------------------------------------------- forms

-- what stands behind the head, over the texts g of the nodes below: each operand after a blank, and the closing bracket

-- ` A)`
unfoldable pub one_text : (ℕ → List ℕ) → ℕ → List ℕ
one_text g a = 32 ∷ (g a ++ (41 ∷ []))

-- ` A B)`
unfoldable pub two_text : (ℕ → List ℕ) → ℕ → ℕ → List ℕ
two_text g a b = 32 ∷ (g a ++ one_text g b)

-- ` A B C)`
unfoldable pub choice_text : (ℕ → List ℕ) → ℕ → ℕ → ℕ → List ℕ
choice_text g a b c = 32 ∷ (g a ++ two_text g b c)

-- ` I V)` for each of n pairs of side entries from place s on, the last pair first
unfoldable pub levels_text : (ℕ → List ℕ) → List ℕ → ℕ → ℕ → List ℕ
levels_text g side s zero = []
levels_text g side s (suc n) = two_text g (get_or side (s + (n + n)) 0) (get_or side (s + (n + n + 1)) 0) ++ levels_text g side s n

-- n side entries from place s on
unfoldable pub args_text : (ℕ → List ℕ) → List ℕ → ℕ → ℕ → List ℕ
args_text g side s zero = 41 ∷ []
args_text g side s (suc n) = 32 ∷ (g (get_or side s 0) ++ args_text g side (s + 1) n)

unfoldable pub form_text : (ℕ → List ℕ) → List ℕ → Form → List ℕ
form_text g side Leaf = []
form_text g side (One a w) = one_text g a
form_text g side (Two a b w) = two_text g a b
form_text g side (Choice a b c) = choice_text g a b c
form_text g side (Chain j s n) = levels_text g side s n ++ one_text g j
form_text g side (Arguments s n) = args_text g side s n

-- ---------------------------------------------------------------- styles

-- Which text the walk writes: over which side entries, and for each node its head and the form of its operands.
pub record Style : Type 0 where
  pub side : List ℕ
  pub head : ℕ → List ℕ
  pub form : ℕ → Form

-- node i, over the texts g of the nodes below
unfoldable pub text_step : Style → (ℕ → List ℕ) → ℕ → List ℕ
text_step s g i = s.head i ++ form_text g s.side (s.form i)

abbrev pub texts_below : Style → ℕ → ℕ → List ℕ
texts_below s n = upto (text_step s) [] n

unfoldable pub text_in : Style → ℕ → List ℕ
text_in s i = text_step s (texts_below s i) i

-- the plain script
unfoldable pub plain : Dag → List ℕ → List ℕ → Style
plain d ws bits = record {
  side = d.side;
  head = head_of d ws bits;
  form = λ i. form_as (get_or d.nodes i no_node) (shape (get_or d.nodes i no_node));
}

-- `|d2|` for node 2
unfoldable pub named : ℕ → List ℕ
named i = bytes "|d" ++ (decimal i ++ bytes "|")

-- a node that has a name is that
unfoldable pub planned : (ℕ → Bool) → Style → Style
planned plan s = record {
  side = s.side;
  head = λ i. elim (plan i) [ true ↦ named i | false ↦ s.head i ];
  form = λ i. elim (plan i) [ true ↦ Leaf | false ↦ s.form i ];
}
