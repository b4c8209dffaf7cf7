-- A loop that clears a lent slice, one place a turn, and what was cleared. Assumes nothing.
use Rattle.std.specs.Prelude.{ℕ, zero, suc, ◌+◌, ◌<◌, ◌≡◌, refl, List, [], ◌∷◌, ◌++◌, length, get_or, drop, set, replicate, Result, Ok, Err}
use Rattle.std.proofs.Common.{ap, ◌∙◌, add-one, append-nil, arith}
use Rattle.std.proofs.Math.Seq.{drop-length}
use Rattle.echo_spec.specs.Answers.{zeroed}

-- a lent slice behind an answer: as it is, or behind a refusal z at each place
abbrev pub left : {T V E : Type 0} → T → Result V E → List T → List T
left z (Ok v) out = out
left z (Err e) out = replicate (length out) z

-- ---------------------------------------------------------------- laws

-- one place more has the value v, and the places after it are as they were
pub fill_next : {X : Type 0} (v : X) (lent : List X) (i : ℕ) → i < length lent
    → set (replicate i v ++ drop i lent) i v ≡ replicate (i + 1) v ++ drop (i + 1) lent
fill_next {X = X} v lent i h = rw add-one (next lent i h)
  where
    next : (xs : List X) (k : ℕ) → k < length xs → set (replicate k v ++ drop k xs) k v ≡ replicate (suc k) v ++ drop (suc k) xs
    next [] k l = absurd (omega arith)
    next (x ∷ xs) zero l = refl
    next (x ∷ xs) (suc k) l = ap (λ (t : List X). v ∷ t) (next xs k (omega arith))

-- all places have it
pub fill-ends : {X : Type 0} (v : X) (lent : List X) → replicate (length lent) v ++ drop (length lent) lent ≡ replicate (length lent) v
fill-ends v lent = rw drop-length (append-nil (replicate (length lent) v))

-- a table that is 0 at each place, and past its end
pub record Zeros (t : List ℕ) : Type 0 where
  pub at : (i : ℕ) → get_or t i 0 ≡ 0

pub replicate-zeros : (n : ℕ) → Zeros (replicate n 0)
replicate-zeros n = record { at = zeros n }
  where
    zeros : (n i : ℕ) → get_or {A = ℕ} (replicate n 0) i 0 ≡ 0
    zeros zero i = refl
    zeros (suc n) zero = refl
    zeros (suc n) (suc i) = zeros n i

-- what was cleared is 0 at each place, and past its end
pub zero-at : (lent : List ℕ) {out : List ℕ} → out ≡ zeroed lent → (i : ℕ) → get_or out i 0 ≡ 0
zero-at lent e i = rw e ((replicate-zeros (length lent)).at i)
