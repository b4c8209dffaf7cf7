use mathlib.Core.Path.{sym}
use native.Mathlib.Omega.{arith}
use Rattle.echo_bytes.specs.Laws.{written-nil}
use Rattle.echo_formula.specs.Texts.{bracket_text}
use Rattle.echo_formula.proofs.push_bracket.Goals as goal

pub returns : goal.returns
unfolding bracket_text
returns c = rw c.if-there.false (sym (written-nil _ (omega arith)))
