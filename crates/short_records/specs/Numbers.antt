-- What a conversion answers in two numbers, with the buffer as it is then.
use Rattle.std.specs.Prelude.{ℕ, List}
use Rattle.echo_spec.specs.Answers.{Answer}
use Rattle.short_records.specs.declared.numbers.RecordAnswer.{RecordAnswer}

abbrev pub converted : RecordAnswer → List ℕ → Answer
converted r out = record { number = r.number; count = r.length; output = out }
