-- `echo_lines::push_arg_sorts` meets its contract: the first argument's sort, and those of the others so far. Assumes nothing.
use mathlib.Core.Path.{◌≡◌}
use mathlib.Core.List.{◌∷◌, map}
use lib.ListN.{take, get_or}
use Rattle.echo_spec.specs.Render.{sorts_text}
use Rattle.echo_spec.specs.Widths.{width_at}
use Rattle.echo_bytes.specs.Page.{page, written}
use Rattle.echo_lines.proofs.push_arg_sorts.Given as goal

abbrev pub invariant-loop-x : goal.invariant-loop-x
invariant-loop-x l =
    page l.q l.out ≡ written (page l.fn.p l.fn.out) (sorts_text (map (width_at l.ws) (get_or l.arguments 0 0 ∷ take l.x-index l.others)))
