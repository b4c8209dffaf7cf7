-- `sort_at` meets its contract: no term ends after the end of the script.
use Rattle.script_terms.specs.Lengths.{none-whole}
use Rattle.script_terms.proofs.sort_at.Goals as goal

pub returns-in_err-sort : goal.returns-in_err-sort
returns-in_err-sort c = λ D κ. rw c.from_residual.ensures (none-whole c.args.script.now.text.now D c.args.at (c.in_err-sort.ensures D κ))
