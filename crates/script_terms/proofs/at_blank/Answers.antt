-- `at_blank` meets its contract, by the state.
use Rattle.std.proofs.Common.{refl, inl, inr}
use Rattle.script_terms.specs.TurnLaws.{next-own, next-unclosed, next-operand}
use Rattle.script_terms.proofs.at_blank.Goals as goal

pub returns-in-Stored : goal.returns-in-Stored
returns-in-Stored c = (
  elim c.in-Stored.is [ inl e ↦ next-unclosed c.args.s.now c.args.p c.requires.1 e.1 | inr e ↦ next-own c.args.s.now c.args.p c.requires.1 e.1 ],
  tt,
)

pub returns-in_default : goal.returns-in_default
returns-in_default c = (next-operand c.args.s.now c.args.p c.requires.1 c.requires.2 c.in_default.not-Stored c.in_default.not-Own, inl (c.requires.1, refl))
