-- The number and count of what `ext_wf` answers, with the slice that was lent as it is then; and what the pass over a table of its own
-- finds, before the lent slice is looked at.
use Rattle.std.specs.Prelude.{ℕ, ◌≡◌, List, [], ◌∷◌, length, Result, Ok, Err, true}
use Rattle.echo_spec.specs.Input.{ArrayWidths, nodes_of, pass_within, encoded}
use Rattle.echo_spec.specs.Widths.{array_widths_ok}
use Rattle.echo_spec.specs.Tables.{one_length}
use Rattle.echo_spec.specs.Answers as answers
use Rattle.sliver_kernel.specs.declared.WidthError.{WidthError}
use Rattle.sliver_kernel.specs.declared.WidthError.TheVariants.{Malformed, Encoding, Limit, Room, ArrayWidth}
use Rattle.sliver_kernel.specs.Pass.{Passed}

abbrev pub error_number : WidthError → ℕ
error_number (Malformed n) = 1
error_number Encoding = 8
error_number Limit = 9
error_number Room = 10
error_number ArrayWidth = 12

abbrev pub error_node : WidthError → ℕ
error_node (Malformed n) = n
error_node Encoding = 0
error_node Limit = 0
error_node Room = 0
error_node ArrayWidth = 0

abbrev pub number : Result ℕ WidthError → ℕ
number (Ok n) = 0
number (Err e) = error_number e

abbrev pub count : Result ℕ WidthError → ℕ
count (Ok n) = n
count (Err e) = error_node e

abbrev pub answered : Result ℕ WidthError → List ℕ → answers.Answer
answered r out = record { number = number r; count = count r; output = out }

-- ---------------------------------------------------------------- the pass over a table of its own

-- the tests before the pass are passed
pub record Ready (nodes bits side : List ℕ) (arrays : ArrayWidths) : Type 0 where
  pub within : pass_within nodes bits side arrays ≡ true
  pub well : encoded nodes bits ≡ true
  pub even : one_length (arrays.index ∷ arrays.value ∷ []) ≡ true
  pub allowed : array_widths_ok arrays ≡ true

-- every node is well formed, and ws has their widths
pub record AllFormed (nodes bits side : List ℕ) (arrays : ArrayWidths) (n : ℕ) (ws : List ℕ) : Type 0 where
  pub ready : Ready nodes bits side arrays
  pub passed : Passed (length bits) arrays side (nodes_of nodes) n ws
  pub all : n ≡ length (nodes_of nodes)

-- or it is refused, whatever slice was lent
abbrev pub Measured : List ℕ → List ℕ → List ℕ → ArrayWidths → List ℕ → Result ℕ WidthError → Type 0
Measured nodes bits side arrays ws (Ok n) = AllFormed nodes bits side arrays n ws
Measured nodes bits side arrays ws (Err e) = (lent : List ℕ) → answered (Err e) (answers.zeroed lent) ≡ answers.ext_wf_answer nodes bits side arrays lent
