-- `shared_table` meets its contract: the first nodes have their flags, and no other has.
use Rattle.std.proofs.Common.{◌≡◌, ◌&&◌, not, ltb, length}
use Rattle.echo_spec.specs.Input.{nodes_of}
use Rattle.echo_sharing.specs.Counts.{once_in}
use Rattle.echo_sharing.specs.Flags.{Flags}
use Rattle.echo_sharing.proofs.shared_table.Given as goal

abbrev pub invariant-loop-i : goal.invariant-loop-i
invariant-loop-i l = (length l.shared ≡ 2048) × Flags (λ j. ltb j l.i && not (once_in l.uses (nodes_of l.nodes) j)) l.shared
