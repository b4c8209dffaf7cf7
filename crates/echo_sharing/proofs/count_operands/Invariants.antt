-- `count_operands` meets its contract: the uses of the nodes from i on, counted from here, are the whole.
use Rattle.std.proofs.Common.{◌≡◌}
use Rattle.echo_spec.specs.Input.{nodes_of}
use Rattle.echo_spec.specs.Sharing.{uses_of_all}
use Rattle.echo_sharing.specs.Counts.{counted, counted_from}
use Rattle.echo_sharing.proofs.count_operands.Given as goal

abbrev pub invariant-loop-i : goal.invariant-loop-i
invariant-loop-i l = counted_from l.uses l.side l.nodes l.i ≡ counted l.initial.uses (uses_of_all l.side (nodes_of l.nodes))
