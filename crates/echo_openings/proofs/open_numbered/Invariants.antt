-- `echo_openings::open_numbered` meets its contract: after each turn one numeral more is written. Assumes nothing.
use mathlib.Core.Path.{◌≡◌}
use mathlib.Core.List.{◌++◌}
use lib.ListN.{take}
use Rattle.echo_bytes.specs.Page.{page, written}
use Rattle.echo_pieces.specs.Signs.{sign_of}
use Rattle.echo_openings.specs.Openings.{numbered}
use Rattle.echo_openings.proofs.open_numbered.Given as goal

abbrev pub invariant-loop-k : goal.invariant-loop-k
invariant-loop-k l = page l.q l.out ≡ written (page l.fn.p l.fn.out) (sign_of l.kind ++ numbered (take l.k-index l.numerals))
