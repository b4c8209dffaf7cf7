-- What `print_problem` answers to every input, and what it leaves in the buffer.
use Rattle.std.specs.Prelude.{ℕ, zero, suc, ◌≤◌, ◌<◌, min, ◌≡◌, List, ◌++◌, Result, Ok, Err, length, take, drop}
use Rattle.echo_spec.specs.Answers.{echo_ext_answer}
use Rattle.refusals.specs.Numbers.{error_of}
use Rattle.layout_shape.specs.declared.ShapeFault.TheVariants.{Early, TooLarge, LeftOver}
use Rattle.problem_layout.specs.declared.Unprinted.{Unprinted}
use Rattle.problem_layout.specs.declared.Unprinted.TheVariants.{Refused, Input}
use Rattle.problem_layout.specs.declared.Told.{Told}
use Rattle.layout_shape.specs.Layout.{Layout, early, too_large, left_over, given, layout}
use Rattle.problem_layout.specs.Lines.{refused_line, early_line, too_large_line, left_over_line}

-- ---------------------------------------------------------------- what is said

-- by the printer's number and length
abbrev pub said_by : ℕ → ℕ → Result ℕ Unprinted
said_by zero length = Ok length
said_by (suc n) length = Err (Refused (error_of (suc n)))

-- `lent` is the buffer before
abbrev pub said_of : Layout → List ℕ → Result ℕ Unprinted
said_of (early k) lent = Err (Input (Early k))
said_of (too_large k) lent = Err (Input (TooLarge k))
said_of left_over lent = Err (Input LeftOver)
said_of (given p) lent = said_by (echo_ext_answer p lent).number (echo_ext_answer p lent).count

-- what the printer leaves in the buffer
abbrev pub printed_to : Layout → List ℕ → List ℕ
printed_to (early k) lent = lent
printed_to (too_large k) lent = lent
printed_to left_over lent = lent
printed_to (given p) lent = (echo_ext_answer p lent).output

-- ---------------------------------------------------------------- what is shown

-- how many bytes at the front of the buffer are to be shown, and the buffer
pub record Front : Type 0 where
  pub count : ℕ
  pub bytes : List ℕ

-- a line at the front of the buffer, cut at its end
unfoldable pub line_in : List ℕ → List ℕ → Front
line_in line out =
    let k : ℕ = min (length line) (length out) in
    record { count = k; bytes = take k line ++ drop k out }

-- what was written, or a line: `text` has what is told in its place
abbrev pub shown : {E : Type 0} → (E → List ℕ) → Result ℕ E → List ℕ → Front
shown text (Ok n) out = record { count = n; bytes = out }
shown text (Err e) out = line_in (text e) out

-- the line where there is no script
abbrev pub line_of : Unprinted → List ℕ
line_of (Refused e) = refused_line e
line_of (Input (Early k)) = early_line k
line_of (Input (TooLarge k)) = too_large_line k
line_of (Input LeftOver) = left_over_line

-- ---------------------------------------------------------------- the contracts

-- THE COMMAND's: what it says, the bytes to be shown and the whole buffer are those of the definitions
pub record Tells (input lent : List ℕ) (r : Told Unprinted) (out : List ℕ) : Type 0 where
  pub said : r.said ≡ said_of (layout input) lent
  pub front : record { count = r.length; bytes = out } ≡ shown line_of (said_of (layout input) lent) (printed_to (layout input) lent)
  pub inside : r.length ≤ length out

-- a fault is in one of the eighteen inputs
abbrev pub InInput : Unprinted → Type 0
InInput (Refused e) = Unit
InInput (Input (Early k)) = k < 18
InInput (Input (TooLarge k)) = k < 18
InInput (Input LeftOver) = Unit

-- what was written lies within the buffer, and what is told in its place has a line
abbrev pub Known : {E : Type 0} → (E → Type 0) → Result ℕ E → ℕ → Type 0
Known known (Ok n) room = n ≤ room
Known known (Err e) room = known e

-- before the line
pub record Answers (input lent : List ℕ) (r : Result ℕ Unprinted) (out : List ℕ) : Type 0 where
  pub said : r ≡ said_of (layout input) lent
  pub output : out ≡ printed_to (layout input) lent
  pub known : Known InInput r (length out)

-- the line itself
pub record Shown {E : Type 0} (text : E → List ℕ) (said : Result ℕ E) (lent : List ℕ) (n : ℕ) (out : List ℕ) : Type 0 where
  pub front : record { count = n; bytes = out } ≡ shown text said lent
  pub inside : n ≤ length out
