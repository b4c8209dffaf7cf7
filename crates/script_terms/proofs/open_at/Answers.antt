-- `open_at` meets its contract: no head, or its state.
use Rattle.script_terms.specs.OpenLaws.{nothing-open}
use Rattle.script_terms.proofs.open_at.Goals as goal

pub returns-in_err-x : goal.returns-in_err-x
returns-in_err-x c = rw c.from_residual.ensures (λ D κ. nothing-open (c.in_err-x.ensures D κ))

pub head_state-requires : goal.head_state-requires
head_state-requires c = (c.args.script.now.text.now, c.requires.0, c.in_ok-x.ensures c.requires.0 c.requires.1)

pub returns : goal.returns
returns c = λ D κ. c.head_state.ensures.0 c.args.script.now.text.now D (c.in_ok-x.ensures D κ)
