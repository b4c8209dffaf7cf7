-- Sums over lists, and how a sum over a list of numbers is one over the numbers themselves.
use Prim.Native.Nat.{ℕ, zero, suc, ◌+◌, ◌≤◌, ◌<◌}
use Rattle.std.specs.Prelude.{◌≡◌, Bool, ◌⊎◌, length}
use Rattle.std.proofs.Math.Path.{refl, ap, subst}
use mathlib.Core.List.{List, [], ◌∷◌, ◌++◌, map}
use Rattle.std.proofs.Math.Bool.{true, false}
use Rattle.std.proofs.Common.{inl, inr, eqb→eq}
use Rattle.std.proofs.Math.Decide.{dec_lt}
use native.Mathlib.Omega.{arith}
use Rattle.std.proofs.Math.Dec.{T, eqb, eqb_refl}
use Rattle.lists.specs.Tests.{true→T}
use Rattle.echo_spec.specs.Sharing.{count}

-- f of each element, together
unfoldable pub sum_over : {A : Type 0} → (A → ℕ) → List A → ℕ
sum_over f [] = 0
sum_over f (x ∷ xs) = f x + sum_over f xs

-- f at each number from a on, n of them, together
unfoldable pub sum_from : (ℕ → ℕ) → ℕ → ℕ → ℕ
sum_from f a zero = 0
sum_from f a (suc n) = f a + sum_from f (suc a) n

-- f i, as often as i occurs
unfoldable pub sum_at : (ℕ → ℕ) → List ℕ → ℕ → ℕ
sum_at f [] i = 0
sum_at f (x ∷ xs) i = elim (eqb x i) [ true ↦ f i + sum_at f xs i | false ↦ sum_at f xs i ]

-- ---------------------------------------------------------------- laws

pub sum-append : {A : Type 0} (f : A → ℕ) (xs ys : List A) → sum_over f (xs ++ ys) ≡ sum_over f xs + sum_over f ys
unfolding sum_over
sum-append f [] ys = omega arith
sum-append f (x ∷ xs) ys = let a = sum-append f xs ys in omega arith

pub sum-map : {A B : Type 0} (f : B → ℕ) (g : A → B) (xs : List A) → sum_over f (map g xs) ≡ sum_over (λ x. f (g x)) xs
unfolding sum_over
sum-map f g [] = refl
sum-map f g (x ∷ xs) = ap (λ (k : ℕ). f (g x) + k) (sum-map f g xs)

pub sum-le : {A : Type 0} (f g : A → ℕ) → ((x : A) → f x ≤ g x) → (xs : List A) → sum_over f xs ≤ sum_over g xs
unfolding sum_over
sum-le f g h [] = omega arith
sum-le f g h (x ∷ xs) =
    let a = sum-le f g h xs in
    let b = h x in
    omega arith

-- one more for each element
pub sum-suc : {A : Type 0} (f : A → ℕ) (xs : List A) → sum_over (λ x. suc (f x)) xs ≡ length xs + sum_over f xs
unfolding sum_over
sum-suc f [] = refl
sum-suc f (x ∷ xs) = let a = sum-suc f xs in omega arith

pub sum-from-le : (f g : ℕ → ℕ) (a n : ℕ) → ((i : ℕ) → a ≤ i → i < a + n → f i ≤ g i) → sum_from f a n ≤ sum_from g a n
unfolding sum_from
sum-from-le f g a zero h = omega arith
sum-from-le f g a (suc n) h =
    let p = h a (omega arith) (omega arith) in
    let q = sum-from-le f g (suc a) n (λ i l m. h i (omega arith) (omega arith)) in
    omega arith

module _ (f : ℕ → ℕ) where
  -- one more element adds its own value at its own number
  more-at : (x : ℕ) (xs : List ℕ) (a n : ℕ)
      → (sum_from (sum_at f xs) a n ≤ sum_from (sum_at f (x ∷ xs)) a n)
      × (a ≤ x → x < a + n → f x + sum_from (sum_at f xs) a n ≤ sum_from (sum_at f (x ∷ xs)) a n)
  unfolding sum_from
  more-at x xs a zero = (omega arith, λ l m. absurd (omega arith))
  more-at x xs a (suc n) = by_place (eqb x a) refl (more-at x xs (suc a) n)
    where
      by_place : (b : Bool) → eqb x a ≡ b
          → (sum_from (sum_at f xs) (suc a) n ≤ sum_from (sum_at f (x ∷ xs)) (suc a) n)
          × (suc a ≤ x → x < suc a + n → f x + sum_from (sum_at f xs) (suc a) n ≤ sum_from (sum_at f (x ∷ xs)) (suc a) n)
          → (sum_at f xs a + sum_from (sum_at f xs) (suc a) n ≤ sum_at f (x ∷ xs) a + sum_from (sum_at f (x ∷ xs)) (suc a) n)
          × (a ≤ x → x < a + suc n → f x + (sum_at f xs a + sum_from (sum_at f xs) (suc a) n) ≤ sum_at f (x ∷ xs) a + sum_from (sum_at f (x ∷ xs)) (suc a) n)
      by_place true e (r, s) =
          let here : sum_at f (x ∷ xs) a ≡ f a + sum_at f xs a = (unfold sum_at in rw (e, sum_at)) in
          let q : f x ≡ f a = ap f (eqb→eq x a (true→T e)) in
          (omega arith, λ l m. omega arith)
      by_place false e (r, s) =
          let here : sum_at f (x ∷ xs) a ≡ sum_at f xs a = (unfold sum_at in rw (e, sum_at)) in (
            omega arith,
            λ l m.
                let far : (x ≡ a → ⊥) = λ q. subst T e (subst (λ (y : ℕ). T (eqb x y)) q (eqb_refl x)) in
                let t = s (omega arith) (omega arith) in
                omega arith,
          )

  -- a sum over a list, number by number, where f is 0 from n on
  pub sum-by-number : (n : ℕ) → ((x : ℕ) → n ≤ x → f x ≡ 0) → (xs : List ℕ) → sum_over f xs ≤ sum_from (sum_at f xs) 0 n
  unfolding sum_over
  sum-by-number n h [] = omega arith
  sum-by-number n h (x ∷ xs) = by_place (more-at x xs 0 n) (sum-by-number n h xs) (dec_lt x n)
    where
      by_place : (sum_from (sum_at f xs) 0 n ≤ sum_from (sum_at f (x ∷ xs)) 0 n)
          × (0 ≤ x → x < 0 + n → f x + sum_from (sum_at f xs) 0 n ≤ sum_from (sum_at f (x ∷ xs)) 0 n)
          → sum_over f xs ≤ sum_from (sum_at f xs) 0 n → Dec (x < n) → f x + sum_over f xs ≤ sum_from (sum_at f (x ∷ xs)) 0 n
      by_place (r, s) q (yes l) = let t = s (omega arith) (omega arith) in omega arith
      by_place (r, s) q (no l) = let z = h x (omega arith) in omega arith

  at_none : (i : ℕ) → f i ≡ 0 → (xs : List ℕ) → sum_at f xs i ≡ 0
  unfolding sum_at
  at_none i z [] = refl
  at_none i z (x ∷ xs) = by_first (eqb x i) refl (at_none i z xs)
    where
      by_first : (b : Bool) → eqb x i ≡ b → sum_at f xs i ≡ 0 → sum_at f (x ∷ xs) i ≡ 0
      by_first true e r = rw (e, sum_at) (omega arith)
      by_first false e r = rw (e, sum_at) r

  absent-at : (i : ℕ) (xs : List ℕ) → count i xs ≡ 0 → sum_at f xs i ≡ 0
  unfolding sum_at count
  absent-at i [] c = refl
  absent-at i (x ∷ xs) c = by_first (eqb x i) refl c (λ z. absent-at i xs z)
    where
      by_first : (b : Bool) → eqb x i ≡ b → count i (x ∷ xs) ≡ 0 → (count i xs ≡ 0 → sum_at f xs i ≡ 0) → sum_at f (x ∷ xs) i ≡ 0
      by_first true e c r = absurd (let z : suc (count i xs) ≡ 0 = rw (e, count) at c in omega arith)
      by_first false e c r = rw (e, sum_at) (r (rw (e, count) at c))

  once-at : (i : ℕ) (xs : List ℕ) → count i xs ≤ 1 → sum_at f xs i ≤ f i
  unfolding sum_at count
  once-at i [] c = omega arith
  once-at i (x ∷ xs) c = by_first (eqb x i) refl c (λ z. once-at i xs z)
    where
      by_first : (b : Bool) → eqb x i ≡ b → count i (x ∷ xs) ≤ 1 → (count i xs ≤ 1 → sum_at f xs i ≤ f i) → sum_at f (x ∷ xs) i ≤ f i
      by_first true e c r =
          let z : suc (count i xs) ≤ 1 = rw (e, count) at c in
          let a = absent-at i xs (omega arith) in
          rw (e, sum_at) (omega arith)
      by_first false e c r = rw (e, sum_at) (r (rw (e, count) at c))

  -- what is 0, or occurs once at most, adds no more than its own value
  pub at_most : (i : ℕ) (xs : List ℕ) → (f i ≡ 0) ⊎ (count i xs ≤ 1) → sum_at f xs i ≤ f i
  at_most i xs (inl z) = let a = at_none i z xs in omega arith
  at_most i xs (inr c) = once-at i xs c
