-- `echo_lines::open_indexed` meets its contract: after each turn one numeral more is written. Assumes nothing.
use mathlib.Core.Path.{sym, ap, ◌∙◌}
use mathlib.Core.List.{◌++◌, append-nil}
use native.Mathlib.Omega.{arith}
use Rattle.lists.specs.Bytes.{bytes}
use Rattle.echo_spec.specs.Render.{symbol_of, numerals_text}
use Rattle.echo_bytes.specs.Laws.{written_then}
use Rattle.echo_bytes.specs.Page.{written}
use Rattle.echo_lines.proofs.Texts.{numerals-more, operator-closed}
use Rattle.echo_lines.proofs.open_indexed.Goals as goal

pub loop-k-init : goal.loop-k-init
unfolding bytes numerals_text
loop-k-init c = written_then _ _ _ c.word.ensures (c.word-q.ensures ∙ ap (written _) c.symbol.ensures) ∙ ap (written _) (sym (append-nil _))

pub loop-k-preserved : goal.loop-k-preserved
unfolding bytes
loop-k-preserved c =
    written_then _ _ _ c.loop-k.invariant (written_then _ _ _ c.byte.ensures c.number-q.ensures)
    ∙ ap (written _) (numerals-more (bytes "((_ " ++ symbol_of c.args.kind) c.args.numerals.now c.loop-k.k-index (omega arith))

pub returns : goal.returns
unfolding bytes
returns c = written_then _ _ _ c.loop-k.invariant c.byte-2.ensures ∙ ap (written _) (operator-closed _ c.args.numerals.now c.loop-k.k-index c.requires (omega arith))
