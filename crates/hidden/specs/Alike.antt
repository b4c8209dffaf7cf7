-- Problems that differ in the bits of constants alone, of which no rotation's amount has any. That they have one hidden form is in proofs/Alike.antt.
use Prim.Native.Nat.{ℕ, ◌+◌, ◌≤◌, ◌<◌}
use Rattle.std.specs.Prelude.{◌≡◌, T, length}
use mathlib.Core.List.{List}
use Rattle.std.proofs.Math.Dec.{leb}
use Rattle.std.proofs.Math.ListN.{get_or}
use Rattle.lists.specs.Tests.{every}
use Rattle.reading.specs.Kinds.{Const}
use Rattle.echo_spec.specs.Shapes.{rotation}
use Rattle.echo_spec.specs.Input.{Problem, Node, shape, no_node, nodes_of}

-- ---------------------------------------------------------------- alike in all but bits

-- the problem with these bits
abbrev pub with_bits : Problem → List ℕ → Problem
with_bits p bits = record {
  nodes = p.nodes;
  bits = bits;
  side = p.side;
  roots = p.roots;
  names = p.names;
  name_start = p.name_start;
  name_len = p.name_len;
  var_node = p.var_node;
  var_width = p.var_width;
  anames = p.anames;
  aname_start = p.aname_start;
  aname_len = p.aname_len;
  index_width = p.index_width;
  value_width = p.value_width;
  fnames = p.fnames;
  fname_start = p.fname_start;
  fname_len = p.fname_len;
  func_width = p.func_width;
}

-- bit k lies in the constant that is the amount of some rotation, whether or not a root reaches that rotation
pub record InAmount (nodes : List Node) (k : ℕ) : Type 0 where
  pub node : ℕ
  pub rotates : shape (get_or nodes node no_node) ≡ rotation
  pub amount : (get_or nodes (get_or nodes node no_node).b no_node).kind ≡ Const
  pub from : (get_or nodes (get_or nodes node no_node).b no_node).a ≤ k
  pub below : k < (get_or nodes (get_or nodes node no_node).b no_node).a + (get_or nodes (get_or nodes node no_node).b no_node).b

-- the problem with its own bits, and with these: as many, each 0 or 1, and the same where an amount has them
pub record Alike (p : Problem) (bits : List ℕ) : Type 0 where
  pub counted : length bits ≡ length p.bits
  pub binary : T (every (λ b. leb b 1) p.bits)
  pub binary_too : T (every (λ b. leb b 1) bits)
  pub amounts : (k : ℕ) → InAmount (nodes_of p.nodes) k → get_or bits k 0 ≡ get_or p.bits k 0
