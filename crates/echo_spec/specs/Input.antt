-- What is lent to the printer, its limits, and the query that it encodes.
use Rattle.std.specs.Prelude.{ℕ, ◌+◌, ◌*◌, ◌/◌, ◌%◌, List, [], ◌∷◌, Bool, true, false, ◌&&◌, leb, ltb, eqb, length, take, drop, get_or}
use Rattle.lists.specs.Tests.{every}
use Rattle.lists.specs.Build.{tabulate}
use Rattle.reading.specs.Trees.{Name}
use Rattle.echo_spec.specs.Shapes.{Shape, shape_of, operand_count}

-- ---------------------------------------------------------------- what is lent

-- the eighteen inputs of `echo_ext`: the Rust's in its order, and after the columns of the array table's names its two columns of widths
pub record Problem : Type 0 where
  pub nodes : List ℕ
  pub bits : List ℕ
  pub side : List ℕ
  pub roots : List ℕ
  pub names : List ℕ
  pub name_start : List ℕ
  pub name_len : List ℕ
  pub var_node : List ℕ
  pub var_width : List ℕ
  pub anames : List ℕ
  pub aname_start : List ℕ
  pub aname_len : List ℕ
  pub index_width : List ℕ
  pub value_width : List ℕ
  pub fnames : List ℕ
  pub fname_start : List ℕ
  pub fname_len : List ℕ
  pub func_width : List ℕ

-- the two columns of widths in the array table: of the index and of the value, by the array's number
pub record ArrayWidths : Type 0 where
  pub index : List ℕ
  pub value : List ℕ

abbrev pub array_columns : List ℕ → List ℕ → ArrayWidths
array_columns index value = record { index = index; value = value }

abbrev pub array_widths : Problem → ArrayWidths
array_widths p = array_columns p.index_width p.value_width

-- ---------------------------------------------------------------- 9: limits

-- the bytes of a node's record
abbrev pub record_bytes : ℕ
record_bytes = 17

-- the most that is taken of each input
abbrev pub node_limit : ℕ
node_limit = 2048

abbrev pub node_bytes_limit : ℕ
node_bytes_limit = record_bytes * node_limit

abbrev pub bit_limit : ℕ
bit_limit = 131072

abbrev pub side_limit : ℕ
side_limit = 8192

abbrev pub root_limit : ℕ
root_limit = 256

abbrev pub column_limit : ℕ
column_limit = 512

abbrev pub arena_limit : ℕ
arena_limit = 16384

unfoldable pub nodes_within : List ℕ → List ℕ → List ℕ → Bool
nodes_within nodes bits side = leb (length nodes) node_bytes_limit && (leb (length bits) bit_limit && leb (length side) side_limit)

unfoldable pub column_within : List ℕ → Bool
column_within c = leb (length c) column_limit

-- what is lent to the width pass
unfoldable pub pass_within : List ℕ → List ℕ → List ℕ → ArrayWidths → Bool
pass_within nodes bits side arrays = nodes_within nodes bits side && (column_within arrays.index && column_within arrays.value)

unfoldable pub arena_within : List ℕ → Bool
arena_within a = leb (length a) arena_limit

unfoldable pub within_limits : Problem → Bool
within_limits p =
    nodes_within p.nodes p.bits p.side
    && (leb (length p.roots) root_limit
    && (every column_within (p.name_start ∷ p.name_len ∷ p.var_node ∷ p.var_width ∷ p.aname_start ∷ p.aname_len ∷ p.index_width ∷ p.value_width ∷ p.fname_start ∷ p.fname_len ∷ p.func_width ∷ [])
    && every arena_within (p.names ∷ p.anames ∷ p.fnames ∷ [])))

-- ---------------------------------------------------------------- node records

pub record Node : Type 0 where
  pub kind : ℕ
  pub a : ℕ
  pub b : ℕ
  pub c : ℕ
  pub d : ℕ

abbrev pub shape : Node → Shape
shape n = shape_of n.kind

-- what stands past the last node
abbrev pub no_node : Node
no_node = record { kind = 255; a = 0; b = 0; c = 0; d = 0 }

-- 32 bits from place i on, least significant byte first
unfoldable pub word32 : List ℕ → ℕ → ℕ
word32 s i = get_or s i 0 + 256 * get_or s (i + 1) 0 + 65536 * get_or s (i + 2) 0 + 16777216 * get_or s (i + 3) 0

-- record i
unfoldable pub node_at : List ℕ → ℕ → Node
node_at s i = record {
  kind = get_or s (record_bytes * i) 0;
  a = word32 s (record_bytes * i + 1);
  b = word32 s (record_bytes * i + 5);
  c = word32 s (record_bytes * i + 9);
  d = word32 s (record_bytes * i + 13);
}

unfoldable pub nodes_of : List ℕ → List Node
nodes_of s = tabulate (length s / record_bytes) (node_at s)

-- ---------------------------------------------------------------- 8: encoding

-- the kind is known and the operands that it does not have are 0
unfoldable pub node_encoded : Node → Bool
node_encoded n = ltb n.kind 39 && every (λ x. eqb x 0) (drop (operand_count (shape n)) (n.a ∷ n.b ∷ n.c ∷ n.d ∷ []))

unfoldable pub encoded : List ℕ → List ℕ → Bool
encoded nodes bits = eqb (length nodes % record_bytes) 0 && (every node_encoded (nodes_of nodes) && every (λ b. leb b 1) bits)

-- ---------------------------------------------------------------- the query

-- entry's part of its arena; none of it where it does not lie inside
unfoldable pub part : List ℕ → ℕ → ℕ → Name
part arena start len = elim (leb (start + len) (length arena)) [ true ↦ take len (drop start arena) | false ↦ [] ]

unfoldable pub names_of : List ℕ → List ℕ → List ℕ → List Name
names_of arena starts lens = tabulate (length starts) (λ k. part arena (get_or starts k 0) (get_or lens k 0))

-- the nodes decoded, with the side entries and the three tables as they are lent; no limit on anything: not on a length and not on a
-- number
pub record Dag : Type 0 where
  pub nodes : List Node
  pub side : List ℕ
  pub names : List ℕ
  pub name_start : List ℕ
  pub name_len : List ℕ
  pub var_node : List ℕ
  pub var_width : List ℕ
  pub anames : List ℕ
  pub aname_start : List ℕ
  pub aname_len : List ℕ
  pub array-widths : ArrayWidths
  pub fnames : List ℕ
  pub fname_start : List ℕ
  pub fname_len : List ℕ
  pub func_width : List ℕ

-- a problem with its nodes decoded, and nothing else changed
pub record Query : Type 0 where
  pub dag : Dag
  pub bits : List ℕ
  pub roots : List ℕ

unfoldable pub dag_of : Problem → Dag
dag_of p = record {
  nodes = nodes_of p.nodes;
  side = p.side;
  names = p.names;
  name_start = p.name_start;
  name_len = p.name_len;
  var_node = p.var_node;
  var_width = p.var_width;
  anames = p.anames;
  aname_start = p.aname_start;
  aname_len = p.aname_len;
  array-widths = array_widths p;
  fnames = p.fnames;
  fname_start = p.fname_start;
  fname_len = p.fname_len;
  func_width = p.func_width;
}

abbrev pub query_of : Problem → Query
query_of p = record { dag = dag_of p; bits = p.bits; roots = p.roots }

-- the names of each table, in table order
abbrev pub name_table : Dag → List Name
name_table d = names_of d.names d.name_start d.name_len

abbrev pub aname_table : Dag → List Name
aname_table d = names_of d.anames d.aname_start d.aname_len

abbrev pub fname_table : Dag → List Name
fname_table d = names_of d.fnames d.fname_start d.fname_len

-- ---------------------------------------------------------------- which queries a problem could encode

-- the largest number of 64 bits
abbrev pub largest : ℕ
largest = 18446744073709551615

abbrev pub fits64 : ℕ → Bool
fits64 w = leb w largest

-- The limits of 9 and the 32 bits of operands left aside: each record is encoded, bits are bits, and the widths in the columns have
-- 64 bits. (Those of the nodes are bounded where they are worked out, in `wf_as`.)
unfoldable pub encodable : Query → Bool
encodable q =
    every node_encoded q.dag.nodes
    && (every (λ b. leb b 1) q.bits
    && (every fits64 q.dag.var_width
    && (every fits64 q.dag.func_width
    && (every fits64 q.dag.array-widths.index && every fits64 q.dag.array-widths.value))))
