-- The number and length of what `echo_ext` answers, with the buffer as it is then.
use Rattle.std.specs.Prelude.{ℕ, List, Result, Ok, Err}
use Rattle.echo_spec.specs.Answers.{Answer}
use Rattle.refusals.specs.declared.EchoError.{EchoError}
use Rattle.refusals.specs.Numbers.{error_number}

abbrev pub number : Result ℕ EchoError → ℕ
number (Ok n) = 0
number (Err e) = error_number e

abbrev pub count : Result ℕ EchoError → ℕ
count (Ok n) = n
count (Err e) = 0

abbrev pub answered : Result ℕ EchoError → List ℕ → Answer
answered r out = record { number = number r; count = count r; output = out }
