-- The elements of a list stored one at a time, by what stands at each place. Assumes nothing.
use Prim.Native.Nat.{ℕ, ◌+◌, ◌≤◌, ◌<◌, max}
use mathlib.Core.Path.{◌≡◌, sym, ap, ◌∙◌}
use mathlib.Core.List.{List}
use native.Mathlib.Decide.{dec_lt}
use native.Mathlib.Omega.{arith}
use lib.ListN.{length, get_or, set, length-set}
use Rattle.std.proofs.lemmas.List.{ext_get_or, get_or-set_other}
use Rattle.std.proofs.lemmas.Grind.{get_or-set_at}

-- the first j elements of s are stored
pub record Stored (s : List ℕ) (j : ℕ) (out : List ℕ) : Type 0 where
  pub long : length out ≡ length s
  pub same : (k : ℕ) → k < j → get_or out k 0 ≡ get_or s k 0

pub stored_none : (s : List ℕ) {out : List ℕ} → length out ≡ length s → Stored s 0 out
stored_none s h = record { long = h; same = λ k l. absurd (omega arith) }

-- element i, which is the next or one before it
pub stored_more : {s out : List ℕ} {j : ℕ} → Stored s j out → (m : ℕ) {i : ℕ} → i ≤ j → i < length s → m ≤ max j (i + 1) → {v : ℕ} → v ≡ get_or s i 0 → Stored s m (set out i v)
stored_more {s} {out} {j} h m {i} e l n {v} f = record {
  long = length-set out i v ∙ h.long;
  same = λ k b. go k b (dec_lt k i) (dec_lt i k);
}
  where
    other : (k : ℕ) → k < j → (k ≡ i → ⊥) → get_or (set out i v) k 0 ≡ get_or s k 0
    other k b q = get_or-set_other out i k v 0 q ∙ h.same k b

    go : (k : ℕ) → k < m → Dec (k < i) → Dec (i < k) → get_or (set out i v) k 0 ≡ get_or s k 0
    go k b (yes q) r = other k (omega arith) (λ z. absurd (omega arith))
    go k b (no q) (yes r) = other k (omega arith) (λ z. absurd (omega arith))
    go k b (no q) (no r) =
        let z : k ≡ i = omega arith in
        get_or-set_at out i k v 0 z (omega (arith, h.long)) ∙ f ∙ ap (λ (z : ℕ). get_or s z 0) (sym z)

pub stored_all : {s out : List ℕ} {j : ℕ} → Stored s j out → length s ≤ j → out ≡ s
stored_all {s} {out} h l = ext_get_or 0 out s h.long (λ k m. h.same k (omega (arith, h.long)))
