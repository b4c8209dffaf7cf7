-- What is known of bytes that were read, and the cases of the reader as cases of the layout.
use Rattle.std.specs.Prelude.{ℕ, suc, ◌+◌, ◌≤◌, ◌<◌, ◌≡◌, List, Result, Ok, Err, length}
use Rattle.input_parts.specs.declared.Part.{Part}
use Rattle.input_parts.specs.declared.Parts.{Parts}
use Rattle.input_parts.specs.Parts.{part_at}
use Rattle.layout_shape.specs.declared.ShapeFault.{ShapeFault}
use Rattle.layout_shape.specs.declared.ShapeFault.TheVariants.{Early, TooLarge, LeftOver}
use Rattle.layout_shape.specs.Layout.{Layout, early, too_large, left_over, given, input_at, place_of, count_of, problem_in, layout}

-- input k is within its limit and ends within the bytes
pub record Fits (s : List ℕ) (k : ℕ) : Type 0 where
  pub counted : count_of s k ≤ (input_at k).limit
  pub inside : place_of s (suc k) ≤ length s

-- and its part is where its elements begin, and their count
pub record Found (s : List ℕ) (at : List Part) (k : ℕ) : Type 0 where
  pub fits : Fits s k
  pub begins : (part_at at k).start ≡ place_of s k + 8
  pub many : (part_at at k).count ≡ count_of s k

-- the first n inputs
abbrev pub Read : List ℕ → List Part → ℕ → Type 0
Read s at n = (k : ℕ) → k < n → Found s at k

abbrev pub layout_of : Result Parts ShapeFault → List ℕ → Layout
layout_of (Err (Early k)) s = early k
layout_of (Err (TooLarge k)) s = too_large k
layout_of (Err LeftOver) s = left_over
layout_of (Ok p) s = given (problem_in s)

-- what was read: all, or a fault in one of the eighteen
abbrev pub ReadIf : Result Parts ShapeFault → List ℕ → Type 0
ReadIf (Err (Early k)) s = k < 18
ReadIf (Err (TooLarge k)) s = k < 18
ReadIf (Err LeftOver) s = Unit
ReadIf (Ok p) s = (p.bytes.now ≡ s) × Read s p.at 18

pub record Shaped (s : List ℕ) (r : Result Parts ShapeFault) : Type 0 where
  pub same : layout s ≡ layout_of r s
  pub read : ReadIf r s
