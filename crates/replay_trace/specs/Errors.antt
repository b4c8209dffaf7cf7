-- The number of a refusal.
use Rattle.std.specs.Prelude.{ℕ}
use Rattle.refusals.specs.Numbers.{error_number}
use Rattle.refusals.specs.declared.EchoError.{EchoError}
use Rattle.replay_trace.specs.declared.TraceError as errors
use Rattle.replay_trace.specs.declared.TraceError.TheVariants as error

abbrev pub Refused : EchoError → errors.TraceError
Refused e = error.Refused e

abbrev pub trace_number : errors.TraceError → ℕ
trace_number (error.Refused e) = error_number e
trace_number error.Wide = 14
trace_number error.Values = 15
