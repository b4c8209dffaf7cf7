-- `operand` meets its contract: the node is half of what stands there.
use Rattle.readback.specs.Rebuild.{here}
use Rattle.heap_laws.specs.Stacks.{ref-half, stacked-at}
use Rattle.script_heap.proofs.operand.Goals as goal

pub returns-clause-waits : goal.returns-clause-waits
returns-clause-waits c = λ script refs x w e. ref-half script _ x (stacked-at script w c.args.i (here x) e)
