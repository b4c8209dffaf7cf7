-- `needed` meets its contract.
use Rattle.std.proofs.Common.{arith}
use Rattle.script_rebuild.specs.Steps.{counts}
use Rattle.script_rebuild.specs.Deciding.{nodes-few, need-is}
use Rattle.script_rebuild.proofs.needed.Goals as goal

pub overflow_mul-result : goal.overflow_mul-result
overflow_mul-result c = let (_, _, _, (w, _)) = c.requires in omega (arith, nodes-few w.held)

pub returns : goal.returns
returns c = λ s t roots (w, a). need-is w (counts s t c.args.x.now.header w.declarations w.known) a
