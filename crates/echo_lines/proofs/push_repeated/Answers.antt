-- `echo_lines::push_repeated` meets its contract: after each turn one more is written. Assumes nothing.
use mathlib.Core.Path.{sym, ap, ◌∙◌}
use native.Mathlib.Omega.{arith}
use Rattle.echo_bytes.specs.Laws.{written-nil, written_then}
use Rattle.echo_bytes.specs.Page.{written}
use Rattle.echo_lines.specs.Heads.{repeated, repeated-more}
use Rattle.echo_lines.proofs.push_repeated.Goals as goal

pub loop-word-init : goal.loop-word-init
unfolding repeated
loop-word-init c = sym (written-nil _ (omega arith))

pub loop-word-preserved : goal.loop-word-preserved
loop-word-preserved c =
    written_then _ _ _ c.loop-word.invariant c.word-q.ensures
    ∙ ap (written _) (repeated-more _ _)
