-- The struct's numbers with the outputs as they are then, as the definitions have an answer.
use Rattle.std.specs.Prelude.{ℕ, List}
use Rattle.traces.specs.Trace as traces
use Rattle.trace_answers.specs.declared.TraceAnswer.{TraceAnswer}

abbrev pub replayed : TraceAnswer → List ℕ → List ℕ → traces.TraceAnswer
replayed r masks counts = record { number = r.number; rows = r.rows; masks = masks; counts = counts }
