-- `echo_lines::open_indexed` meets its contract: after each turn one numeral more is written. Assumes nothing.
use mathlib.Core.Path.{◌≡◌}
use mathlib.Core.List.{◌++◌}
use lib.ListN.{take}
use Rattle.lists.specs.Bytes.{bytes}
use Rattle.echo_spec.specs.Render.{symbol_of, numerals_text}
use Rattle.echo_bytes.specs.Page.{page, written}
use Rattle.echo_lines.proofs.open_indexed.Given as goal

abbrev pub invariant-loop-k : goal.invariant-loop-k
invariant-loop-k l = page l.q l.out ≡ written (page l.fn.p l.fn.out) ((bytes "((_ " ++ symbol_of l.kind) ++ numerals_text (take l.k-index l.numerals))
