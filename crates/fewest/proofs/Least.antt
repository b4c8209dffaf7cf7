-- Which list is the first that passes a test, where one or two positions suffice: laws of the lists in their order.
use Rattle.std.specs.Prelude.{ℕ, zero, suc, ◌+◌, ◌≤◌, ◌<◌, Bool, eqb}
use Rattle.std.proofs.Math.Path.{◌≡◌, refl}
use Rattle.std.proofs.Common.{◌∙◌, arith, eqb-true}
use mathlib.Core.List.{List, [], ◌∷◌, ◌++◌, map}
use Rattle.std.proofs.Math.Bool.{true, false}
use Rattle.std.proofs.Math.Option.{Option, none, some}
use Rattle.std.proofs.lemmas.Bool.{eqb-false}
use Rattle.lists.specs.Build.{find}
use Rattle.fewest.specs.Fewest.{rising, by_length, all_rising}
use Rattle.fewest.specs.Least.{LeastOne, LeastTwo, LeastList, empty, one, two}

-- ---------------------------------------------------------------- the first of a list

module _ {A : Type 0} (p : A → Bool) where
  find-here : (xs ys : List A) {a : A} → find p xs ≡ some a → find p (xs ++ ys) ≡ some a
  unfolding find
  find-here [] ys e = let z : ◌≡◌ {A = ℕ} 0 1 = cc in absurd (omega arith)
  find-here (x ∷ xs) ys {a} e = go (p x) e (λ h. find-here xs ys h)
    where
      go : (b : Bool) → (elim b [ true ↦ some x | false ↦ find p xs ]) ≡ some a → (find p xs ≡ some a → find p (xs ++ ys) ≡ some a)
          → (elim b [ true ↦ some x | false ↦ find p (xs ++ ys) ]) ≡ some a
      go true h rest = h
      go false h rest = rest h

  find_past : (xs ys : List A) → find p xs ≡ none → find p (xs ++ ys) ≡ find p ys
  unfolding find
  find_past [] ys e = refl
  find_past (x ∷ xs) ys e = go (p x) e (λ h. find_past xs ys h)
    where
      go : (b : Bool) → ◌≡◌ {A = Option A} (elim b [ true ↦ some x | false ↦ find p xs ]) none → (find p xs ≡ none → find p (xs ++ ys) ≡ find p ys)
          → (elim b [ true ↦ some x | false ↦ find p (xs ++ ys) ]) ≡ find p ys
      go true h rest = let z : ◌≡◌ {A = ℕ} 0 1 = cc in absurd (omega arith)
      go false h rest = rest h

-- lists that begin with position i
module _ (P : List ℕ → Bool) (i : ℕ) where
  map-none : (xs : List (List ℕ)) → find (λ ks. P (i ∷ ks)) xs ≡ none → find P (map (λ ks. i ∷ ks) xs) ≡ none
  unfolding find
  map-none [] e = refl
  map-none (x ∷ xs) e = go (P (i ∷ x)) e (λ h. map-none xs h)
    where
      go : (b : Bool) → ◌≡◌ {A = Option (List ℕ)} (elim b [ true ↦ some x | false ↦ find (λ ks. P (i ∷ ks)) xs ]) none
          → (find (λ ks. P (i ∷ ks)) xs ≡ none → find P (map (λ ks. i ∷ ks) xs) ≡ none)
          → ◌≡◌ {A = Option (List ℕ)} (elim b [ true ↦ some (i ∷ x) | false ↦ find P (map (λ ks. i ∷ ks) xs) ]) none
      go true h rest = let z : ◌≡◌ {A = ℕ} 0 1 = cc in absurd (omega arith)
      go false h rest = rest h

  map-some : (xs : List (List ℕ)) {ks : List ℕ} → find (λ ks. P (i ∷ ks)) xs ≡ some ks → find P (map (λ ks. i ∷ ks) xs) ≡ some (i ∷ ks)
  unfolding find
  map-some [] e = let z : ◌≡◌ {A = ℕ} 0 1 = cc in absurd (omega arith)
  map-some (x ∷ xs) {ks} e = go (P (i ∷ x)) e (λ h. map-some xs h)
    where
      go : (b : Bool) → (elim b [ true ↦ some x | false ↦ find (λ ks. P (i ∷ ks)) xs ]) ≡ some ks
          → (find (λ ks. P (i ∷ ks)) xs ≡ some ks → find P (map (λ ks. i ∷ ks) xs) ≡ some (i ∷ ks))
          → (elim b [ true ↦ some (i ∷ x) | false ↦ find P (map (λ ks. i ∷ ks) xs) ]) ≡ some (i ∷ ks)
      go true h rest = let z : x ≡ ks = cc in rw z refl
      go false h rest = rest h

  step_past : (k m : ℕ) → find (λ ks. P (i ∷ ks)) (rising k (suc i) m) ≡ none → find P (rising (suc k) i (suc m)) ≡ find P (rising (suc k) (suc i) m)
  unfolding rising
  step_past k m e = find_past P (map (λ ks. i ∷ ks) (rising k (suc i) m)) (rising (suc k) (suc i) m) (map-none (rising k (suc i) m) e)

  step-here : (k m : ℕ) {ks : List ℕ} → find (λ ks. P (i ∷ ks)) (rising k (suc i) m) ≡ some ks → find P (rising (suc k) i (suc m)) ≡ some (i ∷ ks)
  unfolding rising
  step-here k m e = find-here P (map (λ ks. i ∷ ks) (rising k (suc i) m)) (rising (suc k) (suc i) m) (map-some (rising k (suc i) m) e)

-- ---------------------------------------------------------------- no position, one, two

empty-none : (P : List ℕ → Bool) (i m : ℕ) → P [] ≡ false → find P (rising 0 i m) ≡ none
unfolding find rising
empty-none P i m e = rw e refl

empty-some : (P : List ℕ → Bool) (i m : ℕ) → P [] ≡ true → find P (rising 0 i m) ≡ some []
unfolding find rising
empty-some P i m e = rw e refl

one_none : (P : List ℕ → Bool) (i m : ℕ) → ((j : ℕ) → i ≤ j → j < i + m → P (j ∷ []) ≡ false) → find P (rising 1 i m) ≡ none
unfolding find rising
one_none P i zero h = refl
one_none P i (suc m) h =
    step_past P i 0 m (empty-none (λ ks. P (i ∷ ks)) (suc i) m (h i (omega arith) (omega arith)))
    ∙ one_none P (suc i) m (λ j a b. h j (omega arith) (omega arith))

one-some : (P : List ℕ → Bool) (i m k : ℕ) → i ≤ k → k < i + m → ((j : ℕ) → i ≤ j → j < k → P (j ∷ []) ≡ false) → P (k ∷ []) ≡ true
    → find P (rising 1 i m) ≡ some (k ∷ [])
one-some P i zero k l u h e = absurd (omega arith)
one-some P i (suc m) k l u h e = go (eqb i k) refl (λ s. one-some P (suc i) m k s (omega arith) (λ j a b. h j (omega arith) b) e)
  where
    go : (b : Bool) → eqb i k ≡ b → (suc i ≤ k → find P (rising 1 (suc i) m) ≡ some (k ∷ [])) → find P (rising 1 i (suc m)) ≡ some (k ∷ [])
    go true q rest =
        let z : i ≡ k = eqb-true i k q in
        rw z (step-here P k 0 m (empty-some (λ ks. P (k ∷ ks)) (suc k) m e))
    go false q rest =
        let z = eqb-false i k q in
        let y : i < k = omega arith in
        step_past P i 0 m (empty-none (λ ks. P (i ∷ ks)) (suc i) m (h i (omega arith) y)) ∙ rest (omega arith)

two-some : (P : List ℕ → Bool) (i m j k : ℕ) → i ≤ j → j < k → k < i + m → ((a b : ℕ) → i ≤ a → a < j → a < b → b < i + m → P (a ∷ b ∷ []) ≡ false)
    → ((b : ℕ) → j < b → b < k → P (j ∷ b ∷ []) ≡ false) → P (j ∷ k ∷ []) ≡ true → find P (rising 2 i m) ≡ some (j ∷ k ∷ [])
two-some P i zero j k l r u h g e = absurd (omega arith)
two-some P i (suc m) j k l r u h g e = go (eqb i j) refl (λ s. two-some P (suc i) m j k s r (omega arith) (λ a b x y z w. h a b (omega arith) y z (omega arith)) g e)
  where
    go : (b : Bool) → eqb i j ≡ b → (suc i ≤ j → find P (rising 2 (suc i) m) ≡ some (j ∷ k ∷ [])) → find P (rising 2 i (suc m)) ≡ some (j ∷ k ∷ [])
    go true q rest =
        let z : i ≡ j = eqb-true i j q in
        rw z (step-here P j 1 m (one-some (λ ks. P (j ∷ ks)) (suc j) m k (omega arith) (omega arith) (λ b x y. g b (omega arith) y) e))
    go false q rest =
        let z = eqb-false i j q in
        let y : i < j = omega arith in
        step_past P i 1 m (one_none (λ ks. P (i ∷ ks)) (suc i) m (λ b x w. h i b (omega arith) y (omega arith) (omega arith))) ∙ rest (omega arith)

-- ---------------------------------------------------------------- of all lists

module _ (P : List ℕ → Bool) (n : ℕ) where
  pub first-empty : P [] ≡ true → find P (all_rising n) ≡ some []
  unfolding by_length
  first-empty e = find-here P (rising 0 0 n) (by_length n 1 n) (empty-some P 0 n e)

  past-empty : P [] ≡ false → find P (all_rising n) ≡ find P (by_length n 1 n)
  unfolding by_length
  past-empty e = find_past P (rising 0 0 n) (by_length n 1 n) (empty-none P 0 n e)

pub first_one : (P : List ℕ → Bool) (n k : ℕ) → LeastOne P n k → find P (all_rising n) ≡ some (k ∷ [])
unfolding by_length
first_one P zero k h = let u = h.inside in absurd (omega arith)
first_one P (suc n) k h =
    let u = h.inside in
    past-empty P (suc n) h.without
    ∙ find-here P (rising 1 0 (suc n)) (by_length (suc n) 2 n) (one-some P 0 (suc n) k (omega arith) (omega arith) (λ j a b. h.before j b) h.here)

pub first_two : (P : List ℕ → Bool) (n j k : ℕ) → LeastTwo P n j k → find P (all_rising n) ≡ some (j ∷ k ∷ [])
unfolding by_length
first_two P zero j k h = let u = h.inside in absurd (omega arith)
first_two P (suc zero) j k h = let u = h.inside in let r = h.rises in absurd (omega arith)
first_two P (suc (suc n)) j k h =
    let u = h.inside in
    past-empty P (suc (suc n)) h.without
    ∙ find_past P (rising 1 0 (suc (suc n))) (by_length (suc (suc n)) 2 (suc n)) (one_none P 0 (suc (suc n)) (λ i a b. h.alone i (omega arith)))
    ∙ find-here P (rising 2 0 (suc (suc n))) (by_length (suc (suc n)) 3 n)
    (two-some P 0 (suc (suc n)) j k (omega arith) h.rises (omega arith) (λ a b x y z w. h.before a b y z (omega arith)) h.between h.here)

-- ---------------------------------------------------------------- the first list that passes

pub first-is : {P : List ℕ → Bool} {n : ℕ} {ks : List ℕ} → LeastList P n ks → find P (all_rising n) ≡ some ks
first-is {P} {n} (empty e) = first-empty P n e
first-is {P} {n} (one {k} h) = first_one P n k h
first-is {P} {n} (two {j} {k} h) = first_two P n j k h
