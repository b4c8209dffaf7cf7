-- `echo_lines::push_arg_sorts` meets its contract: the first argument's sort, and those of the others so far. Assumes nothing.
use mathlib.Core.Path.{sym, ap, ◌∙◌}
use native.Mathlib.Omega.{arith}
use Rattle.lists.specs.Bytes.{bytes}
use Rattle.echo_spec.specs.Render.{sort_text, sorts_text}
use Rattle.echo_bytes.specs.Laws.{written-nil, written_then}
use Rattle.echo_bytes.specs.Page.{written}
use Rattle.echo_lines.proofs.Texts.{argument-more, arguments-all, no-others}
use Rattle.echo_lines.proofs.push_arg_sorts.Goals as goal

pub returns-in_default : goal.returns-in_default
unfolding sorts_text
returns-in_default c = rw (no-others c.args.arguments.now c.in_default.len_below) (sym (written-nil _ (omega arith)))

pub loop-x-init : goal.loop-x-init
unfolding sorts_text
loop-x-init c = c.push_sort-q.ensures ∙ ap (written _) (ap sort_text c.get.ensures)

pub loop-x-preserved : goal.loop-x-preserved
unfolding bytes
loop-x-preserved c =
    written_then _ _ _ c.loop-x.invariant (written_then _ _ _ c.byte.ensures c.push_sort-q-in-loop-x.ensures)
    ∙ ap (written _) (argument-more c.args.ws.now _ _ c.loop-x.x-index c.loop-x-test.true _ c.get-in-loop-x.ensures)

pub returns : goal.returns
returns c =
    c.loop-x.invariant
    ∙ ap (written _) (arguments-all c.args.ws.now c.args.arguments.now c.loop-x.x-index c.in-len1-up.len_at_least (omega arith))
