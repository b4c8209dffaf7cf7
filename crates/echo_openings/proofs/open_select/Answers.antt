use mathlib.Core.Path.{ap, ◌∙◌}
use Rattle.lists.specs.Bytes.{bytes}
use Rattle.echo_bytes.specs.Laws.{written_then}
use Rattle.echo_bytes.specs.Page.{written}
use Rattle.echo_openings.proofs.Opening.{quoted-comma}
use Rattle.echo_openings.proofs.open_select.Goals as goal

pub returns : goal.returns
unfolding bytes
returns c =
    written_then _ _ _ c.word-opened.ensures
    (written_then _ _ _ c.push_repeated.ensures (c.push_enclosed.ensures ∙ ap (written _) (quoted-comma c.args.name.now)))
