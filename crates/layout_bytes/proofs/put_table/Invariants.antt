-- `layout_bytes::put_table` meets its contract: the arena and the columns before the index are written. Assumes nothing.
use mathlib.Core.Path.{◌≡◌}
use mathlib.Core.List.{◌∷◌, map}
use lib.ListN.{take}
use Rattle.echo_bytes.specs.Page.{page, written}
use Rattle.layout_bytes.specs.Encoding.{bytes, numbers, inputs_bytes}
use Rattle.layout_bytes.proofs.put_table.Given as goal

abbrev pub invariant-loop-column : goal.invariant-loop-column
invariant-loop-column l =
    page l.q l.out ≡ written (page l.fn.p l.fn.out) (inputs_bytes (bytes l.arena ∷ map (λ c. numbers c.now) (take l.column-index l.columns)))
