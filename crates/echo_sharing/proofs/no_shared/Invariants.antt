-- `no_shared` meets its contract: the nodes from i on decide the answer.
use Rattle.std.proofs.Common.{◌≡◌, length}
use Rattle.lists.specs.Tests.{every_from}
use Rattle.echo_spec.specs.Input.{nodes_of}
use Rattle.echo_sharing.specs.Counts.{once_in, once_from}
use Rattle.echo_sharing.proofs.no_shared.Given as goal

abbrev pub invariant-loop-i : goal.invariant-loop-i
invariant-loop-i l = once_from l.uses l.nodes l.i ≡ every_from (once_in l.uses (nodes_of l.nodes)) 0 (length (nodes_of l.nodes))
