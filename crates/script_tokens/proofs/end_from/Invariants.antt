-- At each turn nothing so far ended the stretch.
use Rattle.script_tokens.specs.Stretches.{Within}
use Rattle.script_tokens.proofs.end_from.Given as goal

abbrev pub invariant-loop-e : goal.invariant-loop-e
invariant-loop-e g l = Within g.E.Ending.ends l.s l.at l.e
