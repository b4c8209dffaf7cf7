-- `end_from` meets its contract: at each turn nothing so far ended the stretch.
use Rattle.std.proofs.Common.{sym, ◌∙◌}
use Rattle.script_tokens.specs.Stretches.{within_on, within-ends, within-whole}
use Rattle.script_tokens.proofs.end_from.Goals as goal

pub returns-then-ends : goal.returns-then-ends
returns-then-ends g c = within-ends c.loop-e.invariant c.loop-e-test.true (sym c.ends.ensures ∙ c.if-ends.true)

pub loop-e-preserved : goal.loop-e-preserved
loop-e-preserved g c = within_on c.loop-e.invariant c.loop-e-test.true (sym c.ends.ensures ∙ c.if-ends.false)

pub returns : goal.returns
returns g c = within-whole c.loop-e.invariant c.loop-e-test.false
