-- `inner_end` meets its contract: a comparison or a connective has a second operand.
use Rattle.std.proofs.Common.{arith, inl, inr}
use Rattle.script_terms.specs.Lengths.{before-comparison, before-connective, before-any}
use Rattle.script_terms.proofs.inner_end.Goals as goal

pub returns-in-Comparison : goal.returns-in-Comparison
returns-in-Comparison c = elim c.in-Comparison.is [ inl e ↦ before-comparison e (omega arith) | inr e ↦ before-connective e (omega arith) ]

pub returns-in_default : goal.returns-in_default
returns-in_default c = before-any c.args.w (omega arith)
