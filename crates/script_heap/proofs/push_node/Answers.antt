-- `push_node` meets its contract: twice its number stands for the node.
use Rattle.std.proofs.Common.{subst}
use Rattle.readback.specs.Rebuild.{Ref}
use Rattle.heap_laws.specs.Stacks.{ref-node}
use Rattle.script_heap.specs.Told.{Pushed}
use Rattle.script_heap.proofs.push_node.Goals as goal

pub returns-clause-pushed : goal.returns-clause-pushed
returns-clause-pushed c = λ script records bits s refs h w. subst (λ (x : Ref). Pushed script c.push.new.heap refs x c.push.result) (ref-node script c.args.i c.requires) (c.push.ensures.pushed script records bits s refs h w)
