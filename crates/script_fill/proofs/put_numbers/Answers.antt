-- `put_numbers` meets its contract: the first i numbers are written.
use Rattle.std.proofs.Common.{arith, ◌∙◌}
use lib.ListN.{length-set}
use Rattle.script_fill.specs.Laws.{going_next}
use Rattle.script_fill.proofs.put_numbers.Goals as goal

pub loop-i-preserved : goal.loop-i-preserved
loop-i-preserved g c = (
  length-set c.loop-i.out c.loop-i.i c.number.result ∙ c.loop-i.invariant.0,
  λ m e f. going_next (c.loop-i.invariant.1 m e f) (f _ _ c.loop-i-test.true c.number.ensures) (omega arith) (omega (arith, c.requires.room)),
)
