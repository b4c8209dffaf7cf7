-- At each turn nothing so far ended the stretch.
use Rattle.script_tokens.specs.Reached.{ends_name}
use Rattle.script_tokens.specs.Stretches.{Within}
use Rattle.script_tokens.proofs.bar_at.Given as goal

abbrev pub invariant-loop-e : goal.invariant-loop-e
invariant-loop-e l = Within ends_name l.s l.at l.e
