-- `digits_in` meets its contract: at each turn the last i digits are stored as bits.
use Rattle.std.proofs.Common.{◌+◌, ap, ◌∙◌, arith, set}
use Rattle.heap_laws.specs.Candidates.{digits-none, digits_more}
use Rattle.script_heap.proofs.digits_in.Goals as goal

pub loop-i-init : goal.loop-i-init
loop-i-init c = digits-none c.args.s.now c.args.bits.now c.args.at c.args.e

pub loop-i-preserved : goal.loop-i-preserved
loop-i-preserved c =
    ap (set c.loop-i.bits (c.args.at + c.loop-i.i)) c.saturating_sub.ensures ∙ digits_more c.args.s.now c.args.bits.now c.args.at c.args.p c.args.e c.requires.low (c.requires.inside (omega arith)) c.requires.room c.loop-i.i (omega arith) c.loop-i.invariant
