-- `extracted` meets its contract: the bits are there.
use Rattle.std.proofs.Common.{arith}
use Rattle.script_terms.specs.OperandLaws.{extraction-back, extraction-far, extraction-in}
use Rattle.script_terms.proofs.extracted.Goals as goal
use Rattle.script_terms.proofs.extracted.Goals.{then-j-i-via-then-j-i, then-j-i-via-else-j-i+then-i-m}

pub returns-then-j-i : goal.returns-then-j-i
returns-then-j-i c = elim c.then-j-i.branch [ then-j-i-via-then-j-i w ↦ extraction-back c.args.m c.args.i c.args.j w.if-j-i.true | then-j-i-via-else-j-i+then-i-m w ↦ extraction-far c.args.m c.args.i c.args.j w.if-i-m.true ]

pub returns : goal.returns
returns c = extraction-in c.args.m c.args.i c.args.j (omega (arith, c.if-j-i.false)) (omega (arith, c.if-i-m.false)) (omega arith)
