-- A refusal is its number, and 0 is none.
--
--   1  Malformed   2  Name   3  Sort   4  Var   5  Rotate   6  Shared   7  Signature
--   8  the encoding of the nodes or bits   9  an input over a limit   10  a result longer than its buffer
--   11  a declared name that a `let` would bind   12  a width in the array table that is 0 or too large
use Rattle.std.specs.Prelude.{ℕ, zero, suc, Bool, true, false}

-- the refusal, unless the test passes
abbrev pub unless : Bool → ℕ → ℕ
unless true n = 0
unless false n = n

infixr 30 ◌or_else◌
-- the first refusal, or else the second
abbrev pub ◌or_else◌ : ℕ → ℕ → ℕ
zero or_else n = n
suc m or_else n = suc m
