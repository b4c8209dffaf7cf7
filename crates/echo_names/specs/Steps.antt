-- The tests of `lists`, one element further along a list: what a loop that counts up needs.
use Rattle.std.specs.Prelude.{ℕ, ◌+◌, ◌≤◌, ◌<◌, ◌≡◌, refl, List, [], ◌∷◌, ◌++◌, Bool, true, false, ◌&&◌, ◌||◌, eqb, length, get_or, take, drop}
use Rattle.std.specs.Cmp.Lexicographic.{pointwise}
use Rattle.std.proofs.Common.{ap, add-one, drop_of_length-le, drop-cons, take-suc}
use Rattle.lists.specs.Tests.{same, in_list, every, same→eq, true→T}

pub drop-step : {A : Type 0} (d : A) (xs : List A) (i : ℕ) → i < length xs → drop i xs ≡ get_or xs i d ∷ drop (i + 1) xs
drop-step d xs i h = rw (add-one, drop-cons xs i d)

pub take_step : {A : Type 0} (d : A) (xs : List A) (i : ℕ) → i < length xs → take (i + 1) xs ≡ take i xs ++ (get_or xs i d ∷ [])
take_step d xs i h = rw (add-one, take-suc xs i d)

-- ---------------------------------------------------------------- every

module _ {A : Type 0} (p : A → Bool) (d : A) (xs : List A) (i : ℕ) (whole : Bool) (e : every p (drop i xs) ≡ whole) where
  pub every-pass : i < length xs → p (get_or xs i d) ≡ true → every p (drop (i + 1) xs) ≡ whole
  every-pass h q = rw q at (rw (drop-step d xs i h) at e)

  pub every-fail : i < length xs → p (get_or xs i d) ≡ false → false ≡ whole
  every-fail h q = rw q at (rw (drop-step d xs i h) at e)

  pub every-end : length xs ≤ i → true ≡ whole
  every-end h = rw (drop_of_length-le xs h) at e

-- ---------------------------------------------------------------- same

-- lists that differ are not the same
pub same_not : (xs ys : List ℕ) → (xs ≡ ys → ⊥) → same xs ys ≡ false
same_not xs ys f = go (same xs ys) refl
  where
    go : (b : Bool) → same xs ys ≡ b → b ≡ false
    go true e = absurd (f (same→eq xs ys (true→T e)))
    go false e = refl

-- what `==` of two slices of bytes gives
pub pointwise_same : (xs ys : List ℕ) → pointwise eqb xs ys ≡ same xs ys
unfolding same
pointwise_same [] [] = refl
pointwise_same [] (y ∷ ys) = refl
pointwise_same (x ∷ xs) [] = refl
pointwise_same (x ∷ xs) (y ∷ ys) = ap (λ (b : Bool). eqb x y && b) (pointwise_same xs ys)

-- ---------------------------------------------------------------- inList

pub in_list-append : (n : List ℕ) (xs ys : List (List ℕ)) → in_list n (xs ++ ys) ≡ in_list n xs || in_list n ys
in_list-append n [] ys = refl
in_list-append n (x ∷ xs) ys = go (same n x) (in_list-append n xs ys)
  where
    go : (b : Bool) → in_list n (xs ++ ys) ≡ in_list n xs || in_list n ys → b || in_list n (xs ++ ys) ≡ (b || in_list n xs) || in_list n ys
    go true e = refl
    go false e = e
