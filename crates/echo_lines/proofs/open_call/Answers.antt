-- `echo_lines::open_call` meets its contract: by whether there are arguments. Assumes nothing.
use mathlib.Core.Path.{ap, ◌∙◌}
use Rattle.lists.specs.Bytes.{bytes}
use Rattle.echo_bytes.specs.Laws.{written_then}
use Rattle.echo_bytes.specs.Page.{written}
use Rattle.echo_lines.proofs.Texts.{call-bare, call-opened}
use Rattle.echo_lines.proofs.open_call.Goals as goal

pub returns-then-n-eq0 : goal.returns-then-n-eq0
returns-then-n-eq0 c = c.name.ensures ∙ ap (written _) (call-bare _ _ c.if-n-eq0.true)

pub returns : goal.returns
unfolding bytes
returns c =
    written_then _ _ _ c.byte.ensures c.name-2.ensures
    ∙ ap (written _) (call-opened _ _ c.if-n-eq0.false)
