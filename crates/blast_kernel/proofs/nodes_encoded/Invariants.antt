-- `blast_kernel::nodes_encoded` meets its contract: the whole list passes where what is left of it does. Assumes nothing.
use Rattle.std.proofs.Common.{◌≡◌, drop}
use Rattle.lists.specs.Tests.{every}
use Rattle.echo_spec.specs.Input.{nodes_of, node_encoded}
use Rattle.blast_kernel.proofs.nodes_encoded.Given as goal

abbrev pub invariant-loop-i : goal.invariant-loop-i
invariant-loop-i l = every node_encoded (nodes_of l.nodes) ≡ every node_encoded (drop l.i (nodes_of l.nodes))
