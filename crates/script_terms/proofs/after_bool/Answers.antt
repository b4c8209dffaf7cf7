-- `after_bool` meets its contract: one law for each state.
use Rattle.std.proofs.Common.{inl, inr}
use Rattle.script_terms.specs.declared.TermState.TheVariants.{Ite, Negation, Connective, Truth}
use Rattle.script_terms.specs.OperandLaws.{at-state, bool-ite, bool-negation, bool-connective, bool-truth, bool-else}
use Rattle.script_terms.proofs.after_bool.Goals as goal

pub returns-in-Ite : goal.returns-in-Ite
returns-in-Ite c = at-state Ite c.in-Ite.is bool-ite

pub returns-in-Negation : goal.returns-in-Negation
returns-in-Negation c = elim c.in-Negation.is [ inl e ↦ at-state Negation e bool-negation | inr e ↦ at-state Truth e bool-truth ]

pub returns-in-Connective : goal.returns-in-Connective
returns-in-Connective c = at-state Connective c.in-Connective.is bool-connective

pub returns-in_default : goal.returns-in_default
returns-in_default c = bool-else c.in_default.not-Ite c.in_default.not-Negation c.in_default.not-Connective c.in_default.not-Truth
