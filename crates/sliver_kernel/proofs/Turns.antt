-- One pair more of the side entries that are left, and the arguments among them. Assumes nothing.
use Rattle.std.proofs.Common.{ℕ, zero, suc, ◌≤◌, ◌<◌, ◌≡◌, List, [], ◌∷◌, false, ◌&&◌, ◌-◌, length, take, drop, get_or, refl, arith}
use Rattle.std.proofs.Math.Bool.{and-false}
use Rattle.std.proofs.Math.Seq.{take-length}
use Rattle.lists.specs.Tests.{every}
use Rattle.echo_spec.specs.Widths.{earlier, earlier_of, chain_wf, args_wf}

module _ (index value : ℕ) (ws : List ℕ) where
  pub chain-short : {m k : ℕ} → m ≡ suc k → (l : List ℕ) → length l < 2 → chain_wf index value ws m l ≡ false
  unfolding chain_wf
  chain-short e [] h = rw e refl
  chain-short e (x ∷ []) h = rw e refl
  chain-short e (x ∷ v ∷ l) h = absurd (omega arith)

  pub chain-pair : {m k : ℕ} → m ≡ suc k → (l : List ℕ) → 2 ≤ length l
      → chain_wf index value ws m l ≡ (earlier_of ws index (get_or l 0 0) && (earlier_of ws value (get_or l 1 0) && chain_wf index value ws k (take (length l - 2) (drop 2 l))))
  unfolding chain_wf
  chain-pair e [] h = absurd (omega arith)
  chain-pair e (x ∷ []) h = absurd (omega arith)
  chain-pair e (x ∷ v ∷ l) h =
      let n : length (x ∷ v ∷ l) - 2 ≡ length l = omega arith in
      rw (e, n, take-length) refl

module _ (ws : List ℕ) where
  pub args-short : (n : ℕ) (l : List ℕ) → length l < n → args_wf ws n l ≡ false
  unfolding args_wf
  args-short zero l h = absurd (omega arith)
  args-short (suc n) [] h = refl
  args-short (suc n) (x ∷ l) h = rw (args-short n l (omega arith)) (and-false (earlier ws x))

  pub args-every : (n : ℕ) (l : List ℕ) → n ≤ length l → args_wf ws n l ≡ every (earlier ws) (take n l)
  unfolding args_wf
  args-every zero l h = refl
  args-every (suc n) [] h = absurd (omega arith)
  args-every (suc n) (x ∷ l) h = rw (args-every n l (omega arith)) refl
