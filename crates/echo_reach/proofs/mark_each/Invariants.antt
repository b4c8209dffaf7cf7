-- `mark_each` meets its contract: the first nodes of the list are marked.
use Rattle.std.proofs.Common.{take}
use Rattle.lists.specs.Tests.{among}
use Rattle.echo_reach.specs.Marks.{Adds}
use Rattle.echo_reach.proofs.mark_each.Given as goal

abbrev pub invariant-loop-x : goal.invariant-loop-x
invariant-loop-x l = Adds (among (take l.x-index l.xs)) l.initial.marks l.marks
