-- The first script of a file in two numbers: was one found, and its length.
use Rattle.std.specs.Prelude.{ℕ}
use Rattle.std.proofs.Math.Option.{Option, none, some}
use Rattle.script_lines.specs.declared.numbers.ScriptAnswer.{ScriptAnswer}

pub record FirstScript : Type 0 where
  pub found : ℕ
  pub length : ℕ

abbrev pub script_answer : Option ℕ → FirstScript
script_answer none = record { found = 0; length = 0 }
script_answer (some n) = record { found = 1; length = n }

abbrev pub cut_at : ScriptAnswer → FirstScript
cut_at r = record { found = r.found; length = r.length }
