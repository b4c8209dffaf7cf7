-- `copy` meets its contract: the first i elements are copied.
use Rattle.std.proofs.Common.{◌∙◌, sym, arith}
use Rattle.std.proofs.lemmas.List.{length-set, take-set, take_all, take_more_same, get_or-set_same}
use Rattle.script_fill.proofs.copy.Goals as goal

pub loop-i-preserved : goal.loop-i-preserved
loop-i-preserved g c =
    let y = c.index-from-i.result in
    take_more_same _ _ c.loop-i.i y (omega (arith, length-set c.loop-i.to c.loop-i.i y)) (omega arith) (take-set c.loop-i.to c.loop-i.i y ∙ c.loop-i.invariant)
    (get_or-set_same c.loop-i.to c.loop-i.i y y (omega arith) ∙ c.index-from-i.is)

pub returns : goal.returns
returns g c = sym (take_all c.loop-i.i c.loop-i.to (omega arith)) ∙ c.loop-i.invariant ∙ take_all c.loop-i.i c.args.from.now (omega arith)
