-- `head_state` meets its contract: one law for each head.
use mathlib.Core.Path.{ap, sym}
use Rattle.script_terms.specs.Turns.{head_end}
use Rattle.script_terms.specs.OpenLaws.{constant-going, variable-going, nullary-going, operator-going, call-going, select-going, head-constant, head-variable, head-nullary, head-operator, head-call, head-select}
use Rattle.script_terms.proofs.head_state.Goals as goal

pub returns-in-Constant : goal.returns-in-Constant
returns-in-Constant c = ((λ s D h. constant-going (head-constant s D c.args.at h c.in-Constant.is)), sym (ap head_end c.in-Constant.is))

pub returns-in-Variable : goal.returns-in-Variable
returns-in-Variable c = ((λ s D h. variable-going (head-variable s D c.args.at h c.in-Variable.is)), sym (ap head_end c.in-Variable.is))

pub returns-in-Nullary : goal.returns-in-Nullary
returns-in-Nullary c = ((λ s D h. nullary-going (head-nullary s D c.args.at h c.in-Nullary.is)), sym (ap head_end c.in-Nullary.is))

pub returns-in-Operator : goal.returns-in-Operator
returns-in-Operator c = ((λ s D h. operator-going (head-operator s D c.args.at h c.in-Operator.is) c.operator_state.ensures), sym (ap head_end c.in-Operator.is))

pub returns-in-Call : goal.returns-in-Call
returns-in-Call c = ((λ s D h. call-going (head-call s D c.args.at h c.in-Call.is)), sym (ap head_end c.in-Call.is))

pub returns-in-Select : goal.returns-in-Select
returns-in-Select c = ((λ s D h. select-going (head-select s D c.args.at h c.in-Select.is)), sym (ap head_end c.in-Select.is))
