-- At each turn the digits so far are the decimal of the number so far.
use Rattle.std.proofs.Common.{◌≤◌}
use Rattle.echo_spec.specs.Input.{largest}
use Rattle.script_tokens.specs.Numerals.{Digits}
use Rattle.script_tokens.proofs.more_digits.Given as goal

abbrev pub invariant-loop-e : goal.invariant-loop-e
invariant-loop-e l = (l.n ≤ largest) × Digits l.s l.at l.e l.n
