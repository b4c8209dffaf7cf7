-- Which numbers the printer with `let` refuses a problem with; that there are no others is in proofs/Numbers.antt.
use Rattle.std.specs.Prelude.{ℕ, [], ◌∷◌}
use Rattle.std.proofs.Math.Bool.{Bool}
use Rattle.lists.specs.Tests.{among}

-- what the query can be refused with
abbrev pub query_number : ℕ → Bool
query_number n = among (0 ∷ 1 ∷ 2 ∷ 3 ∷ 4 ∷ 5 ∷ 7 ∷ 11 ∷ 12 ∷ []) n

-- what the problem can be refused with, given endless room
abbrev pub endless_number : ℕ → Bool
endless_number n = among (0 ∷ 1 ∷ 2 ∷ 3 ∷ 4 ∷ 5 ∷ 7 ∷ 8 ∷ 9 ∷ 11 ∷ 12 ∷ []) n
