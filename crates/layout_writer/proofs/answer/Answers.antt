-- `layout_writer::answer` meets its contract: by what is not read. Assumes nothing.
use mathlib.Core.Path.{sym, ◌∙◌}
use native.Mathlib.Omega.{arith}
use Rattle.layout_writer.proofs.Saying.{says-too-large, says-too-deep, says-read}
use Rattle.layout_writer.proofs.answer.Goals as goal

pub returns-then-input-gt-LONGEST_SCRIPT : goal.returns-then-input-gt-LONGEST_SCRIPT
returns-then-input-gt-LONGEST_SCRIPT c = says-too-large _ _ (omega (arith, c.if-input-gt-LONGEST_SCRIPT.true))

pub returns-then-too_deep : goal.returns-then-too_deep
returns-then-too_deep c = says-too-deep _ _ (omega (arith, c.if-input-gt-LONGEST_SCRIPT.false)) (sym c.too_deep.ensures ∙ c.if-too_deep.true)

pub returns : goal.returns
returns c = says-read _ (omega (arith, c.if-input-gt-LONGEST_SCRIPT.false)) (sym c.too_deep.ensures ∙ c.if-too_deep.false) c.read_back.ensures
