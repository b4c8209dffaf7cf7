-- The number and rows of what `replay_trace` answers, with the outputs as they are then.
use Rattle.std.specs.Prelude.{ℕ, ◌^◌, ◌≤◌, ◌<◌, ◌≡◌, List, ◌&&◌, T, leb, length, get_or, Result, Ok, Err, ⊤}
use Rattle.lists.specs.Build.{tabulate}
use Rattle.echo_spec.specs.Input.{Problem, query_of}
use Rattle.echo_spec.specs.Widths.{widths_of}
use Rattle.echo_spec.specs.Refusals.{unless, ◌or_else◌}
use Rattle.echo_spec.specs.Answers.{endless_refusal, at_front}
use Rattle.vectors.specs.Values.{mask, count}
use Rattle.traces.specs.Trace.{TraceAnswer, mask_limit, narrow_roots, values_fit, rows_of, holding_in, trace_refusal}
use Rattle.replay_trace.specs.declared.TraceError.{TraceError}
use Rattle.replay_trace.specs.Errors.{trace_number}

abbrev pub number : {A : Type 0} → Result A TraceError → ℕ
number (Ok n) = 0
number (Err e) = trace_number e

abbrev pub rows : Result ℕ TraceError → ℕ
rows (Ok n) = n
rows (Err e) = 0

abbrev pub answered : Result ℕ TraceError → List ℕ → List ℕ → TraceAnswer
answered r masks counts = record { number = number r; rows = rows r; masks = masks; counts = counts }

-- what a check answers as a number: 0 where it passes
abbrev pub told : Result ⊤ TraceError → ℕ
told (Ok x) = 0
told (Err e) = trace_number e

-- ---------------------------------------------------------------- the order of the checks, in two parts

-- 9 for the roots, and printing's own
unfoldable pub first_refusal : Problem → ℕ
first_refusal p = unless (leb (length p.roots) mask_limit) 9 or_else endless_refusal p

-- 14, 15 and 10, of n rows
unfoldable pub later_refusal : Problem → List ℕ → ℕ → ℕ → ℕ → ℕ
later_refusal p values n masks counts =
    unless (narrow_roots p) 14 or_else unless (values_fit p.var_width values) 15 or_else unless (leb n masks && leb n counts) 10

-- ---------------------------------------------------------------- what the rows ask

-- a problem that printing passes, with its widths
pub record Widths (p : Problem) (ws : List ℕ) : Type 0 where
  pub passed : endless_refusal p ≡ 0
  pub are : ws ≡ widths_of (query_of p)

-- the values have 64 bits, as they have in every slice of such numbers
pub record Full (values : List ℕ) : Type 0 where
  pub at : (k : ℕ) → get_or values k 0 < 2 ^ 64

-- the roots are no more than the bits of a mask
pub record Words (p : Problem) (values : List ℕ) : Type 0 where
  pub roots : length p.roots ≤ 64
  pub words : Full values

-- every check is passed, with outputs of these lengths
pub record Traceable (p : Problem) (values : List ℕ) (n m c : ℕ) : Type 0 where
  pub words : Words p values
  pub narrow : T (narrow_roots p)
  pub fit : T (values_fit p.var_width values)
  pub rows : n ≡ rows_of p values
  pub masks_room : n ≤ m
  pub counts_room : n ≤ c

-- the outputs have the masks and counts of n rows at the front
pub record Written (p : Problem) (values : List ℕ) (n : ℕ) (masks counts masks' counts' : List ℕ) : Type 0 where
  pub masks_are : masks' ≡ at_front (tabulate n (λ j. mask (holding_in p values j))) masks
  pub counts-are : counts' ≡ at_front (tabulate n (λ j. count (holding_in p values j))) counts

-- what the replay answers: so many rows with the outputs written, or the first refusal
abbrev pub Ran : Problem → List ℕ → List ℕ → List ℕ → Result ℕ TraceError → List ℕ → List ℕ → Type 0
Ran p values masks counts (Ok n) masks' counts' =
    (trace_refusal p values (length masks) (length counts) ≡ 0) × (n ≡ rows_of p values) × Written p values n masks counts masks' counts'
Ran p values masks counts (Err e) masks' counts' = trace_refusal p values (length masks) (length counts) ≡ trace_number e
