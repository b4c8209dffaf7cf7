-- The table of operand counts. Assumes nothing.
use Prim.Native.Nat.{ℕ, zero-le, ◌≤◌, ◌<◌}
use native.Mathlib.Omega.{arith}
use lib.Dec.{leb, leb→le}
use Rattle.lists.specs.Tests.{every-at}
use Rattle.echo_spec.specs.Shapes.{shapes, shape_of, operand_count}

-- every kind has an operand
pub has_one : (kind : ℕ) → kind < 39 → 1 ≤ operand_count (shape_of kind)
unfolding shapes operand_count
has_one kind h = leb→le 1 (operand_count (shape_of kind)) (every-at (λ k. leb 1 (operand_count (shape_of k))) 0 39 tt kind zero-le (omega arith))
