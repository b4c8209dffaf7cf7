-- `digits_to` meets its contract: past the end there is no digit.
use Rattle.script_heap.specs.Constants.{digits-past}
use Rattle.script_heap.proofs.digits_to.Goals as goal

pub returns-then-p-s : goal.returns-then-p-s
returns-then-p-s c = digits-past c.args.s.now c.args.p c.if-p-s.true
