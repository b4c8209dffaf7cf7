-- `copy_pairs` meets its contract: at each turn the last i pairs are side entries.
use Rattle.std.proofs.Common.{arith}
use Rattle.heap_laws.specs.Pairs.{pairing-none, pairing-turn, pairing-all}
use Rattle.script_heap.proofs.copy_pairs.Goals as goal

pub loop-i-init : goal.loop-i-init
loop-i-init c = pairing-none c.args.side.now c.args.stack.now c.args.from c.args.base c.args.n

pub loop-i-preserved : goal.loop-i-preserved
loop-i-preserved c = pairing-turn c.args.side.now c.args.stack.now c.args.from c.args.base c.args.n c.requires.side_room c.loop-i.i (omega arith) c.loop-i.invariant

pub returns : goal.returns
returns c = pairing-all c.args.side.now c.args.stack.now c.args.from c.args.base c.args.n c.requires.side_room _ _ (omega arith) c.loop-i.invariant
