-- `bump_each` meets its contract: what is left to count, counted from here, is the whole.
use Rattle.std.proofs.Common.{◌≡◌, drop}
use Rattle.echo_sharing.specs.Counts.{counted}
use Rattle.echo_sharing.proofs.bump_each.Given as goal

abbrev pub invariant-loop-i : goal.invariant-loop-i
invariant-loop-i l = counted l.uses (drop l.i-index l.us) ≡ counted l.initial.uses l.us
