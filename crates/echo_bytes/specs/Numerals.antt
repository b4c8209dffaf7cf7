-- Numerals with a given number of digits, and the fixed-point numbers that their digits are taken from.
use Rattle.std.specs.Prelude.{ℕ, zero, suc, ◌+◌, ◌-◌, ◌*◌, ◌/◌, ◌%◌, ◌^◌, ◌≤◌, ◌<◌, List, [], ◌∷◌}

-- the numeral of n with l digits, zeros at its front; for n of at most l digits
unfoldable pub padded : ℕ → ℕ → List ℕ
padded zero n = []
padded (suc l) n = (48 + n / 10 ^ l) ∷ padded l (n % 10 ^ l)

-- the numeral of n has l digits, at most eight
pub record DigitCount (n l : ℕ) : Type 0 where
  pub some : 1 ≤ l
  pub few : l ≤ 8
  pub below : n < 10 ^ l
  pub above : 2 ≤ l → 10 ^ (l - 1) ≤ n

-- s is 2 ^ 56 by 10 ^ (l - 1), rounded up
pub record Share (l s : ℕ) : Type 0 where
  pub enough : 2 ^ 56 ≤ s * 10 ^ (l - 1)
  pub least : s * 10 ^ (l - 1) < 2 ^ 56 + 10 ^ (l - 1)
