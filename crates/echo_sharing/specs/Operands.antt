-- Side entries: a stretch that is cut at the table's end.
use Rattle.std.specs.Prelude.{ℕ, ◌-◌, ◌*◌, ◌<◌, min, ◌≡◌, refl, List, length, take, drop}
use Rattle.std.proofs.Common.{arith, length-drop, take_all}
use Rattle.std.proofs.Math.Decide.{dec_lt}

-- m stores, where more stores than entries have all that there is
pub stores-all : (n s : ℕ) (side : List ℕ) {m : ℕ} → m ≡ min n (length side) → take (2 * m) (drop s side) ≡ take (2 * n) (drop s side)
stores-all n s side {m} e = go (dec_lt n (length side))
  where
    go : Dec (n < length side) → take (2 * m) (drop s side) ≡ take (2 * n) (drop s side)
    go (yes h) = let f : m ≡ n = omega arith in rw f refl
    go (no h) =
        let l : length (drop s side) ≡ length side - s = length-drop s side in
        rw (take_all (2 * m) (drop s side) (omega arith), take_all (2 * n) (drop s side) (omega arith)) refl
