-- `head_at` meets its contract, by the first byte.
use native.Mathlib.Omega.{arith}
use Rattle.script_heads.specs.HeadLaws.{other-head}
use Rattle.script_heads.proofs.head_at.Goals as goal

pub returns-in-35 : goal.returns-in-35
returns-in-35 c = λ D κ. c.constant_head.ensures D

pub returns-in_default : goal.returns-in_default
returns-in_default c = λ D κ. other-head c.args.script.now.text.now c.args.at (λ q. omega (arith, q)) (λ q. omega (arith, q)) (λ q. omega (arith, q)) D
