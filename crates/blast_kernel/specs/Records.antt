-- The tests of a record and of a bit, and what the limit on nodes says.
use Rattle.std.specs.Prelude.{ℕ, ◌≤◌, ◌≡◌, List, Bool, true, ◌&&◌, leb, eqb, length}
use Rattle.std.proofs.Common.{leb→le}
use Rattle.lists.specs.Tests.{and_0, true→T}
use Rattle.echo_spec.specs.Input.{nodes_within}

-- an operand that its kind does not have
abbrev pub unused : ℕ → Bool
unused x = eqb x 0

abbrev pub bit : ℕ → Bool
bit x = leb x 1

-- ---------------------------------------------------------------- laws

-- what the limit on the nodes says of their bytes
pub within-bytes : (nodes bits side : List ℕ) → nodes_within nodes bits side ≡ true → length nodes ≤ 34816
unfolding nodes_within
within-bytes nodes bits side h =
    leb→le (length nodes) 34816 (and_0 (leb (length nodes) 34816) (leb (length bits) 131072 && leb (length side) 8192) (true→T h))
