-- `echo_openings::open_numbered` meets its contract: after each turn one numeral more is written. Assumes nothing.
use mathlib.Core.Path.{sym, ap, ◌∙◌}
use mathlib.Core.List.{append-nil}
use native.Mathlib.Omega.{arith}
use Rattle.lists.specs.Bytes.{bytes}
use Rattle.echo_bytes.specs.Laws.{written_then}
use Rattle.echo_bytes.specs.Page.{written}
use Rattle.echo_openings.specs.Openings.{numbered}
use Rattle.echo_openings.proofs.Opening.{numbered-more, numbered-all}
use Rattle.echo_openings.proofs.open_numbered.Goals as goal

pub loop-k-init : goal.loop-k-init
unfolding numbered
loop-k-init c = c.push_sign-q.ensures ∙ ap (written _) (sym (append-nil _))

pub loop-k-preserved : goal.loop-k-preserved
unfolding bytes
loop-k-preserved c =
    written_then _ _ _ c.loop-k.invariant (written_then _ _ _ c.number.ensures c.word-q.ensures)
    ∙ ap (written _) (numbered-more _ _ _ (omega arith))

pub returns : goal.returns
returns c = c.loop-k.invariant ∙ ap (written _) (numbered-all _ _ _ (omega arith))
