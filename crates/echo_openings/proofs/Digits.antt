-- The digits of bits stored one at a time. Assumes nothing.
use Prim.Native.Nat.{ℕ, ◌+◌, ◌-◌, ◌<◌}
use mathlib.Core.Path.{◌≡◌, sym, ap, ◌∙◌}
use mathlib.Core.List.{List}
use native.Mathlib.Omega.{arith}
use lib.ListN.{length, get_or, set}
use Rattle.echo_spec.specs.Render.{binary_digits}
use Rattle.echo_bytes.proofs.Digits.{digit_at, length_digits}
use Rattle.echo_openings.proofs.Storing.{Stored, stored_more}

-- digit j, which is the next
pub digit-stored : (bits : List ℕ) (j m : ℕ) → m ≡ j + 1 → {out : List ℕ} → Stored (binary_digits bits) j out → j < length bits → {i : ℕ} → i ≡ j → {k : ℕ} → k ≡ length bits - 1 - j
    → {v : ℕ} → v ≡ 48 + get_or bits k 0 → Stored (binary_digits bits) m (set out i v)
digit-stored bits j m g h l {i} e {k} d {v} f =
    stored_more h m (omega arith) (omega (arith, length_digits bits)) (omega arith)
    (f ∙ ap (λ (z : ℕ). 48 + get_or bits z 0) d ∙ sym (digit_at bits j l) ∙ ap (λ (z : ℕ). get_or (binary_digits bits) z 0) (sym e))
