-- The number, length and count of what `echo_size` answers, and what is known of the columns of widths that are lent.
use Rattle.std.specs.Prelude.{ℕ, T, Result, Ok, Err}
use Rattle.lists.specs.Tests.{every}
use Rattle.echo_spec.specs.Input.{Problem, fits64}
use Rattle.refusals.specs.declared.EchoError.{EchoError}
use Rattle.refusals.specs.Numbers.{error_number}
use Rattle.sizes.specs.Size.{SizeAnswer}
use Rattle.echo_size.specs.declared.Size.{Size}

abbrev pub number : Result Size EchoError → ℕ
number (Ok s) = 0
number (Err e) = error_number e

abbrev pub length : Result Size EchoError → ℕ
length (Ok s) = s.length
length (Err e) = 0

abbrev pub terms : Result Size EchoError → ℕ
terms (Ok s) = s.terms
terms (Err e) = 0

abbrev pub answered : Result Size EchoError → SizeAnswer
answered r = record { number = number r; length = length r; terms = terms r }

-- the declared widths have 64 bits, as they have in every slice of such numbers
pub record FullWidths (p : Problem) : Type 0 where
  pub variables : T (every fits64 p.var_width)
  pub functions : T (every fits64 p.func_width)
