-- `push_constant` meets its contract: the operand stands for the constant.
use Rattle.std.proofs.Common.{subst}
use Rattle.readback.specs.Rebuild.{Ref}
use Rattle.script_heap.specs.Told.{Pushed}
use Rattle.script_heap.proofs.push_constant.Goals as goal

pub returns-clause-pushed : goal.returns-clause-pushed
returns-clause-pushed c = λ records bits t refs h w. subst (λ (x : Ref). Pushed c.args.s.now c.push.new.heap refs x c.push.result) c.constant_operand.ensures (c.push.ensures.pushed c.args.s.now records bits t refs h w)
