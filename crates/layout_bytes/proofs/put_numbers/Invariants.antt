-- `layout_bytes::put_numbers` meets its contract: the count and the numbers before the index are written. Assumes nothing.
use mathlib.Core.Path.{◌≡◌}
use lib.ListN.{take}
use Rattle.echo_bytes.specs.Page.{page, written}
use Rattle.layout_bytes.specs.Encoding.{numbers_bytes}
use Rattle.layout_bytes.proofs.put_numbers.Given as goal

abbrev pub invariant-loop-x : goal.invariant-loop-x
invariant-loop-x l = page l.q l.out ≡ written (page l.initial.q l.initial.out) (numbers_bytes (take l.x-index l.xs))
