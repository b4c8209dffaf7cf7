-- `Notation::from` meets its contract: one computed test of the table, kind by kind. Assumes nothing.
use mathlib.Core.Path.{refl}
use Rattle.lists.specs.Bytes.{bytes}
use Rattle.lists.specs.Tests.{same}
use Rattle.echo_spec.specs.Render.{symbols, symbol_of}
use Rattle.formula_text.specs.Notation.{notations}
use Rattle.echo_pieces.specs.Signs.{sign_text, sign_of}
use Rattle.echo_pieces.proofs.Notations.{entry-in, notated-at}
use Rattle.echo_pieces.proofs.NotationFromU8.from.Goals as goal

pub returns : goal.returns
unfolding bytes same symbols symbol_of notations sign_text sign_of
returns c = rw (c.at.ensures, entry-in) (notated-at _ refl tt c.args.kind)
