use Prim.Native.Nat.{◌+◌, ◌-◌}
use mathlib.Core.Path.{refl}
use lib.Dec.{leb}
use Rattle.echo_bytes.specs.Laws.{every-part}
use Rattle.echo_walk.proofs.Heads.{bits-of}
use Rattle.echo_walk.proofs.Walk.constant.Goals as goal

pub returns-clause-part : goal.returns-clause-part
returns-clause-part c = bits-of _ c.node-n.ensures refl

pub returns-clause-binary : goal.returns-clause-binary
returns-clause-binary c =
    every-part (λ b. leb b 1) c.args.self.now.problem.now.bits.now c.node-n.result.a (c.node-n.result.a + c.node-n.result.b - c.node-n.result.a) c.requires.binary
