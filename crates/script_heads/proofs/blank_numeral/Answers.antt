-- `blank_numeral` meets its contract.
use mathlib.Core.Path.{sym, ◌∙◌}
use Rattle.script_heads.specs.HeadLaws.{no-blank-there, blank-there}
use Rattle.script_heads.proofs.blank_numeral.Goals as goal

pub returns-then-byte_at-ne32 : goal.returns-then-byte_at-ne32
returns-then-byte_at-ne32 c = no-blank-there c.args.s.now c.args.at (λ q. c.if-byte_at-ne32.true (c.byte_at.ensures ∙ q))

pub returns : goal.returns
returns c = blank-there c.args.s.now c.args.at c.numeral.result (sym c.byte_at.ensures ∙ c.if-byte_at-ne32.false) c.numeral.ensures
