-- The outputs of `read_script` as a problem: what lies at their front.
use Rattle.std.specs.Prelude.{ℕ, ◌≤◌, List, [], ◌∷◌, Result, Err, length, take}
use Rattle.echo_spec.specs.Input.{Problem}
use Rattle.script_rebuild.specs.declared.Sizes.{Sizes}
use Rattle.script_rebuild.specs.declared.ReadError.{ReadError}
use Rattle.layout_writer.specs.declared.Unwritten.{Unwritten}
use Rattle.layout_writer.specs.declared.Unwritten.TheVariants.{Refused}

-- as many elements of each as are told
abbrev pub first_of : Sizes → Problem → Problem
first_of z o = record {
  nodes = take z.nodes o.nodes;
  bits = take z.bits o.bits;
  side = take z.side o.side;
  roots = take z.roots o.roots;
  names = take z.names o.names;
  name_start = take z.variables o.name_start;
  name_len = take z.variables o.name_len;
  var_node = take z.variables o.var_node;
  var_width = take z.variables o.var_width;
  anames = take z.anames o.anames;
  aname_start = take z.arrays o.aname_start;
  aname_len = take z.arrays o.aname_len;
  index_width = take z.arrays o.index_width;
  value_width = take z.arrays o.value_width;
  fnames = take z.fnames o.fnames;
  fname_start = take z.functions o.fname_start;
  fname_len = take z.functions o.fname_len;
  func_width = take z.functions o.func_width;
}

-- so many are there
pub record Lies (z : Sizes) (o : Problem) : Type 0 where
  pub nodes : z.nodes ≤ length o.nodes
  pub bits : z.bits ≤ length o.bits
  pub side : z.side ≤ length o.side
  pub roots : z.roots ≤ length o.roots
  pub names : z.names ≤ length o.names
  pub name_start : z.variables ≤ length o.name_start
  pub name_len : z.variables ≤ length o.name_len
  pub var_node : z.variables ≤ length o.var_node
  pub var_width : z.variables ≤ length o.var_width
  pub anames : z.anames ≤ length o.anames
  pub aname_start : z.arrays ≤ length o.aname_start
  pub aname_len : z.arrays ≤ length o.aname_len
  pub index_width : z.arrays ≤ length o.index_width
  pub value_width : z.arrays ≤ length o.value_width
  pub fnames : z.fnames ≤ length o.fnames
  pub fname_start : z.functions ≤ length o.fname_start
  pub fname_len : z.functions ≤ length o.fname_len
  pub func_width : z.functions ≤ length o.func_width

-- how many elements the arrays have: the limits
abbrev pub rooms : List ℕ
rooms = 34816 ∷ 131072 ∷ 8192 ∷ 256 ∷ 16384 ∷ 512 ∷ 512 ∷ 512 ∷ 512 ∷ 16384 ∷ 512 ∷ 512 ∷ 512 ∷ 512 ∷ 16384 ∷ 512 ∷ 512 ∷ 512 ∷ []

abbrev pub said_by : ReadError → Result ℕ Unwritten
said_by e = Err (Refused e)
