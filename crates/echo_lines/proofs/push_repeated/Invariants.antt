-- `echo_lines::push_repeated` meets its contract: after each turn one more is written. Assumes nothing.
use mathlib.Core.Path.{◌≡◌}
use Rattle.echo_bytes.specs.Page.{page, written}
use Rattle.echo_lines.specs.Heads.{repeated}
use Rattle.echo_lines.proofs.push_repeated.Given as goal

abbrev pub invariant-loop-word : goal.invariant-loop-word
invariant-loop-word l = page l.q l.out ≡ written (page l.initial.q l.initial.out) (repeated l._word l.word)
