-- `echo_bytes::Place::number` meets its contract: a digit, a piece, or the pieces above the last eight digits and those. Assumes nothing.
use Prim.Native.Nat.{◌/◌, ◌%◌}
use mathlib.Core.Path.{sym, ap, ◌∙◌}
use Rattle.echo_spec.specs.Render.{decimal}
use Rattle.echo_bytes.specs.Page.{written}
use Rattle.echo_bytes.specs.Laws.{written_then}
use Rattle.echo_bytes.specs.Numerals.{padded}
use Rattle.echo_bytes.proofs.Digits.{decimal_digit}
use Rattle.echo_bytes.proofs.Numerals.{decimal-split, decimal-padded}
use Rattle.echo_bytes.proofs.Place.number.Goals as goal

pub returns-then-n-lt10 : goal.returns-then-n-lt10
returns-then-n-lt10 c = c.byte.ensures ∙ ap (written _) (sym (decimal_digit _ c.if-n-lt10.true))

pub returns-then-n-lt-PIECE : goal.returns-then-n-lt-PIECE
returns-then-n-lt-PIECE c = c.piece.ensures ∙ ap (written _) (decimal-padded _ _ c.digit_count.ensures)

pub returns : goal.returns
returns c =
    let n = c.args.n in
    written_then _ (decimal (n / 100000000)) (padded 8 (n % 100000000)) c.numeral.ensures c.piece-2.ensures ∙ ap (written _) (sym (decimal-split 8 n c.if-n-lt-PIECE.false))
