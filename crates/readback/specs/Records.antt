-- A problem whose nodes are decoded, as the eighteen inputs of the printer: records of 17 bytes, each operand in 32 bits.
use Rattle.std.specs.Prelude.{ℕ, ◌/◌, ◌%◌, List, [], ◌∷◌, ◌++◌, Bool, ◌&&◌, leb}
use Rattle.echo_spec.specs.Input.{Problem, Node, Query}

-- 32 bits, least significant byte first
abbrev pub le32 : ℕ → List ℕ
le32 n = n % 256 ∷ n / 256 % 256 ∷ n / 65536 % 256 ∷ n / 16777216 ∷ []

unfoldable pub record_bytes : Node → List ℕ
record_bytes n = n.kind ∷ (le32 n.a ++ (le32 n.b ++ (le32 n.c ++ le32 n.d)))

unfoldable pub records_bytes : List Node → List ℕ
records_bytes [] = []
records_bytes (n ∷ ns) = record_bytes n ++ records_bytes ns

abbrev pub fits32 : ℕ → Bool
fits32 n = leb n 4294967295

-- a record can hold the node
abbrev pub holdable : Node → Bool
holdable n = fits32 n.a && (fits32 n.b && (fits32 n.c && fits32 n.d))

unfoldable pub inputs : Query → Problem
inputs q = record {
  nodes = records_bytes q.dag.nodes;
  bits = q.bits;
  side = q.dag.side;
  roots = q.roots;
  names = q.dag.names;
  name_start = q.dag.name_start;
  name_len = q.dag.name_len;
  var_node = q.dag.var_node;
  var_width = q.dag.var_width;
  anames = q.dag.anames;
  aname_start = q.dag.aname_start;
  aname_len = q.dag.aname_len;
  index_width = q.dag.array-widths.index;
  value_width = q.dag.array-widths.value;
  fnames = q.dag.fnames;
  fname_start = q.dag.fname_start;
  fname_len = q.dag.fname_len;
  func_width = q.dag.func_width;
}
