-- `rotated` meets its contract: the amount is below the width, and the width within the limit.
use Rattle.std.proofs.Common.{arith}
use Rattle.script_terms.specs.OperandLaws.{rotation-far, rotation-wide, rotation-in}
use Rattle.script_terms.proofs.rotated.Goals as goal
use Rattle.script_terms.proofs.rotated.Goals.{then-i-m-via-then-i-m, then-i-m-via-else-i-m+then-m-gt-MAX_ROTATED}

pub returns-then-i-m : goal.returns-then-i-m
returns-then-i-m c = elim c.then-i-m.branch [ then-i-m-via-then-i-m w ↦ rotation-far c.args.m c.args.i w.if-i-m.true | then-i-m-via-else-i-m+then-m-gt-MAX_ROTATED w ↦ rotation-wide c.args.m c.args.i w.if-m-gt-MAX_ROTATED.true ]

pub returns : goal.returns
returns c = rotation-in c.args.m c.args.i (omega (arith, c.if-i-m.false)) (omega (arith, c.if-m-gt-MAX_ROTATED.false))
