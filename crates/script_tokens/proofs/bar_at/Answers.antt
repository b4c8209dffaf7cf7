-- `bar_at` meets its contract: at each turn nothing so far ended the stretch.
use Rattle.std.proofs.Common.{sym, ◌∙◌, arith}
use Rattle.script_tokens.specs.Stretches.{within_on, within-ends}
use Rattle.script_tokens.proofs.bar_at.Goals as goal

pub returns-then-ends : goal.returns-then-ends
returns-then-ends c = within-ends c.loop-e.invariant (omega arith) (sym c.ends.ensures ∙ c.if-ends.true)

pub loop-e-preserved : goal.loop-e-preserved
loop-e-preserved c = within_on c.loop-e.invariant (omega arith) (sym c.ends.ensures ∙ c.if-ends.false)
