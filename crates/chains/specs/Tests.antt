-- A chain that ends in `all` answers `every`. The two premises are found by `search rules` from what `all` tells, and for a range by
-- `search (rules, ranges)`.
use Rattle.std.specs.Prelude.{ℕ, zero, suc, ◌+◌, ◌<◌, ◌≡◌, refl, List, [], ◌∷◌, Bool, true, false, ◌&&◌, length, slice_index_or}
use Rattle.std.proofs.Common.{sym, arith}
use Rattle.lists.specs.Tests.{every}

module _ {A : Type 0} (p : A → Bool) where
  -- every element passes
  pub every-true : (xs : List A) → ((k : ℕ) → k < length xs → (d : A) → p (slice_index_or xs k d) ≡ true) → every p xs ≡ true
  every-true [] h = refl
  every-true (x ∷ xs) h = rw (h 0 (omega arith) x) (every-true xs (λ k l d. h (suc k) (omega (arith, l)) d))

  -- one fails
  pub every-false : (xs : List A) (k : ℕ) → k < length xs → ((d : A) → p (slice_index_or xs k d) ≡ false) → every p xs ≡ false
  every-false [] k l h = absurd (omega (arith, l))
  every-false (x ∷ xs) zero l h = rw (h x) refl
  every-false (x ∷ xs) (suc k) l h = rw (every-false xs k (omega (arith, l)) h) (and-none (p x))
    where
      and-none : (b : Bool) → (b && false) ≡ false
      and-none true = refl
      and-none false = refl

  -- the answer b is true only where every element passes, and false only where one fails
  pub every-told : (xs : List A) (b : Bool) → (b ≡ true → (k : ℕ) → k < length xs → (d : A) → p (slice_index_or xs k d) ≡ true)
      → (b ≡ false → (k : ℕ) × (k < length xs) × ((d : A) → p (slice_index_or xs k d) ≡ false)) → b ≡ every p xs
  every-told xs true h g = sym (every-true xs (h refl))
  every-told xs false h g = sym (every-false xs (g refl).0 (g refl).1 (g refl).2)
