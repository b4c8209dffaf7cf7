-- The problem behind the slices that are lent to be written.
use Rattle.std.specs.Prelude.{◌≡◌}
use Rattle.echo_spec.specs.Input.{Problem}
use Rattle.script_fill.specs.declared.Outputs.{Outputs}

-- what the slices hold
abbrev pub problem_in : Outputs → Problem
problem_in o = record {
  nodes = o.nodes.now;
  bits = o.bits.now;
  side = o.side.now;
  roots = o.roots.now;
  names = o.names.now;
  name_start = o.name_start.now;
  name_len = o.name_len.now;
  var_node = o.var_node.now;
  var_width = o.var_width.now;
  anames = o.anames.now;
  aname_start = o.aname_start.now;
  aname_len = o.aname_len.now;
  index_width = o.index_width.now;
  value_width = o.value_width.now;
  fnames = o.fnames.now;
  fname_start = o.fname_start.now;
  fname_len = o.fname_len.now;
  func_width = o.func_width.now;
}

-- they are the same slices: who lends them has in them what the struct has at the end
pub record SameSlices (o n : Outputs) : Type 0 where
  pub nodes : n.nodes.ghost_name ≡ o.nodes.ghost_name
  pub bits : n.bits.ghost_name ≡ o.bits.ghost_name
  pub side : n.side.ghost_name ≡ o.side.ghost_name
  pub roots : n.roots.ghost_name ≡ o.roots.ghost_name
  pub names : n.names.ghost_name ≡ o.names.ghost_name
  pub name_start : n.name_start.ghost_name ≡ o.name_start.ghost_name
  pub name_len : n.name_len.ghost_name ≡ o.name_len.ghost_name
  pub var_node : n.var_node.ghost_name ≡ o.var_node.ghost_name
  pub var_width : n.var_width.ghost_name ≡ o.var_width.ghost_name
  pub anames : n.anames.ghost_name ≡ o.anames.ghost_name
  pub aname_start : n.aname_start.ghost_name ≡ o.aname_start.ghost_name
  pub aname_len : n.aname_len.ghost_name ≡ o.aname_len.ghost_name
  pub index_width : n.index_width.ghost_name ≡ o.index_width.ghost_name
  pub value_width : n.value_width.ghost_name ≡ o.value_width.ghost_name
  pub fnames : n.fnames.ghost_name ≡ o.fnames.ghost_name
  pub fname_start : n.fname_start.ghost_name ≡ o.fname_start.ghost_name
  pub fname_len : n.fname_len.ghost_name ≡ o.fname_len.ghost_name
  pub func_width : n.func_width.ghost_name ≡ o.func_width.ghost_name
