-- `refusals::error_of` meets its contract: past the eleven cases only 12 is left. Assumes nothing.
use Prim.Native.Nat.{ℕ, zero, suc, ◌<◌}
use mathlib.Core.Path.{◌≡◌, sym}
use native.Mathlib.Omega.{arith}
use lib.Arith.{lt_of_le-ne}
use Rattle.refusals.specs.Numbers.{Numbered}
use Rattle.refusals.proofs.error_of.Goals as goal

-- x is none of the numbers 1 to n, as the last arm of a match is told
abbrev Past : ℕ → ℕ → Type 0
Past zero x = Unit {0}
Past (suc n) x = Past n x × (x ≡ suc n → ⊥)

past-above : (n x : ℕ) → 0 < x → Past n x → n < x
past-above zero x l t = l
past-above (suc n) x l t = let h : n < x = past-above n x l t.0 in lt_of_le-ne h (λ e. t.1 (sym e))

last : (x : ℕ) → Numbered x → Past 11 x → 12 ≡ x
last x (l, m) t = let h : 11 < x = past-above 11 x l t in omega arith

pub returns-in_default : goal.returns-in_default
returns-in_default c = last _ c.requires c.in_default.in_default-own.rest
