-- At each turn nothing so far ended the stretch.
use Rattle.std.proofs.Common.{◌-◌, length}
use Rattle.script_tokens.specs.Stretches.{Within}
use Rattle.script_tokens.proofs.past_blocks.Given as goal

abbrev pub invariant-loop-e : goal.invariant-loop-e
invariant-loop-e g l = Within g.E.Ending.ends l.s l.at l.e

abbrev pub decreases-loop-e : goal.decreases-loop-e
decreases-loop-e g l = length l.s - l.e
