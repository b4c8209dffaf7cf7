-- What `read_problem` answers to every input, and what it leaves in the buffer.
use Rattle.std.specs.Prelude.{ℕ, ◌≤◌, Bool, true, false, not, List, Result, Ok, Err, ◌≡◌, leb, length}
use Rattle.std.proofs.Math.Option.{Option, none, some}
use Rattle.reading.specs.Trees.{Reading}
use Rattle.echo_spec.specs.Input.{Problem}
use Rattle.readback.specs.Rebuild.{rebuild}
use Rattle.readback.specs.Records.{inputs}
use Rattle.readback.specs.ScriptReader.{reading_in}
use Rattle.readback.specs.ReadAnswers.{limits_passed}
use Rattle.problem_layout.specs.Telling.{line_in, shown, Known}
use Rattle.problem_layout.specs.declared.Told.{Told}
use Rattle.script_rebuild.specs.declared.ReadError.TheVariants.{NoScript, Limit, Room}
use Rattle.layout_writer.specs.declared.Unwritten.{Unwritten}
use Rattle.layout_writer.specs.declared.Unwritten.TheVariants.{Refused, TooLarge, TooDeep}
use Rattle.layout_bytes.specs.Encoding.{bytes_of_layout}
use Rattle.script_depth.specs.Nesting.{too_deep}
use Rattle.layout_writer.specs.Lines.{no_script_line, limit_line, room_line, too_large_line, too_deep_line}

-- ---------------------------------------------------------------- what the bytes are

-- a problem's script, or why they are not read as one
pub data Script : Type 0 where
  too_large : Script
  nested : Script
  no_script : Script
  over_limit : Script
  given : Problem → Script

abbrev pub unless : Bool → Script → Script → Script
unless true fault rest = rest
unless false fault rest = fault

-- the longest script that is read, and the longest that `print_problem` writes
abbrev pub longest : ℕ
longest = 2097152

-- 13, and then 9, as `read_script` has them
abbrev pub rebuilt : Option Reading → Script
rebuilt none = no_script
rebuilt (some r) = unless (limits_passed (rebuild r)) over_limit (given (inputs (rebuild r)))

unfoldable pub script : List ℕ → Script
script b = unless (leb (length b) longest) too_large (unless (not (too_deep b)) nested (rebuilt (reading_in b)))

-- ---------------------------------------------------------------- what is said

-- `lent` is the buffer before: the layout goes to its front, as far as it fits
abbrev pub said_of : Script → List ℕ → Result ℕ Unwritten
said_of too_large lent = Err TooLarge
said_of nested lent = Err TooDeep
said_of no_script lent = Err (Refused NoScript)
said_of over_limit lent = Err (Refused Limit)
said_of (given p) lent = elim (leb (length (bytes_of_layout p)) (length lent)) [ true ↦ Ok (length (bytes_of_layout p)) | false ↦ Err (Refused Room) ]

abbrev pub written_to : Script → List ℕ → List ℕ
written_to too_large lent = lent
written_to nested lent = lent
written_to no_script lent = lent
written_to over_limit lent = lent
written_to (given p) lent = (line_in (bytes_of_layout p) lent).bytes

-- ---------------------------------------------------------------- what is shown

-- the line where there is no layout
abbrev pub line_of : Unwritten → List ℕ
line_of (Refused NoScript) = no_script_line
line_of (Refused Limit) = limit_line
line_of (Refused Room) = room_line
line_of TooLarge = too_large_line
line_of TooDeep = too_deep_line

-- each has one
abbrev pub Always : Unwritten → Type 0
Always u = Unit

-- ---------------------------------------------------------------- the contracts

-- THE COMMAND's: what it says, the bytes to be shown and the whole buffer are those of the definitions
pub record Tells (input lent : List ℕ) (r : Told Unwritten) (out : List ℕ) : Type 0 where
  pub said : r.said ≡ said_of (script input) lent
  pub front : record { count = r.length; bytes = out } ≡ shown line_of (said_of (script input) lent) (written_to (script input) lent)
  pub inside : r.length ≤ length out

-- before the line
pub record Answers (s : Script) (lent : List ℕ) (r : Result ℕ Unwritten) (out : List ℕ) : Type 0 where
  pub said : r ≡ said_of s lent
  pub output : out ≡ written_to s lent
  pub known : Known Always r (length out)
