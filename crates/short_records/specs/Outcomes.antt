-- The number and length of what a conversion answers, with the buffer as it is then; what counting the records of a new form tells.
use Rattle.std.specs.Prelude.{Result, Ok, Err, ℕ, ◌*◌, ◌≤◌, ◌≡◌, List, length}
use Rattle.echo_spec.specs.Answers.{Answer}
use Rattle.refusals.specs.declared.EchoError.{EchoError}
use Rattle.refusals.specs.Numbers.{error_number}
use Rattle.short_records.specs.Short.{new_refusal, lengthened}

abbrev pub number : Result ℕ EchoError → ℕ
number (Ok n) = 0
number (Err e) = error_number e

abbrev pub count : Result ℕ EchoError → ℕ
count (Ok n) = n
count (Err e) = 0

abbrev pub answered : Result ℕ EchoError → List ℕ → Answer
answered r out = record { number = number r; count = count r; output = out }

-- ---------------------------------------------------------------- the records of a new form

abbrev pub Tells : List ℕ → Result ℕ EchoError → Type 0
Tells new (Ok n) = (new_refusal new ≡ 0) × (length (lengthened new) ≡ 17 * n) × (n ≤ 2048)
Tells new (Err e) = new_refusal new ≡ error_number e

pub record Told (new : List ℕ) (r : Result ℕ EchoError) : Type 0 where
  pub told : Tells new r
