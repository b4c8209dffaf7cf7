use mathlib.Core.Path.{sym, ap, ◌∙◌}
use native.Mathlib.Omega.{arith}
use Rattle.echo_bytes.specs.Page.{written}
use Rattle.echo_bytes.specs.Laws.{written-nil}
use Rattle.echo_pieces.proofs.Notations.{not-between}
use Rattle.echo_openings.proofs.Opening.{plain-none, plain-sign}
use Rattle.echo_openings.proofs.open_plain.Goals as goal

pub returns-in-Between : goal.returns-in-Between
returns-in-Between c = sym (written-nil _ (omega arith)) ∙ ap (written _) (plain-none c.args.kind c.in-Between.ensures.between)

pub returns-in-Before : goal.returns-in-Before
returns-in-Before c = c.push_sign.ensures ∙ ap (written _) (plain-sign c.args.kind (not-between c.from.ensures c.in-Before.is))
