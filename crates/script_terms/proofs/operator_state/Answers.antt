-- `operator_state` meets its contract: as many numerals as the shape has, or not.
use Rattle.script_terms.specs.OpenLaws.{state-unfit, state_fits}
use Rattle.script_terms.proofs.operator_state.Goals as goal

pub returns-then-m-numerals : goal.returns-then-m-numerals
returns-then-m-numerals c = state-unfit c.args.kind c.args.m c.args.i c.args.j c.from-s.result c.from-s.ensures.shape c.numerals.ensures c.if-m-numerals.true

pub returns : goal.returns
returns c = state_fits c.args.kind c.args.m c.args.i c.args.j c.from-s.result c.from-s.ensures.shape c.numerals.ensures c.if-m-numerals.false c.state_from.ensures
