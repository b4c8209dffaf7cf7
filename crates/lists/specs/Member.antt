-- Membership in a list, as a type.
use Rattle.std.specs.Prelude.{ℕ, zero, suc, ◌<◌, ◌≡◌, refl, List, [], ◌∷◌, ◌++◌, map, Bool, true, false, not, ◌⊎◌, T}
use Rattle.std.proofs.Common.{ap, subst, inl, inr, arith, T_not}
use Rattle.std.proofs.Math.Option.{some}
use Rattle.lists.specs.Tests.{same, in_list, distinct, or_l, or_r, and_0, and-1, same→eq, same_refl, true→T, T→true, no→false}
use Rattle.lists.specs.Build.{tabulate, find}

abbrev pub Member : {A : Type 0} → A → List A → Type 0
Member x [] = ⊥
Member x (y ∷ ys) = (x ≡ y) ⊎ Member x ys

-- ---------------------------------------------------------------- laws

pub member-left : {A : Type 0} (x : A) (xs ys : List A) → Member x xs → Member x (xs ++ ys)
member-left x [] ys h = absurd h
member-left x (y ∷ xs) ys (inl e) = inl e
member-left x (y ∷ xs) ys (inr h) = inr (member-left x xs ys h)

pub member_right : {A : Type 0} (x : A) (xs ys : List A) → Member x ys → Member x (xs ++ ys)
member_right x [] ys h = h
member_right x (y ∷ xs) ys h = inr (member_right x xs ys h)

pub member-map : {A B : Type 0} (f : A → B) (x : A) (xs : List A) → Member x xs → Member (f x) (map f xs)
member-map f x [] h = absurd h
member-map f x (y ∷ xs) (inl e) = inl (ap f e)
member-map f x (y ∷ xs) (inr h) = inr (member-map f x xs h)

pub member-tabulate : {A : Type 0} (n : ℕ) (f : ℕ → A) (k : ℕ) → k < n → Member (f k) (tabulate n f)
member-tabulate zero f k h = absurd (omega arith)
member-tabulate (suc n) f zero h = inl refl
member-tabulate (suc n) f (suc k) h = inr (member-tabulate n (λ i. f (suc i)) k (omega arith))

-- a member passes the test by Boolean search too
pub member-in : (n : List ℕ) (ns : List (List ℕ)) → Member n ns → T (in_list n ns)
member-in n [] h = absurd h
member-in n (m ∷ ns) (inl e) = or_l (same n m) (in_list n ns) (rw e (same_refl m))
member-in n (m ∷ ns) (inr h) = or_r (same n m) (in_list n ns) (member-in n ns h)

-- ---------------------------------------------------------------- the first element that passes a test

-- what is found is of the list and passes the test
pub find-member : {A : Type 0} (p : A → Bool) (xs : List A) (x : A) → find p xs ≡ some x → Member x xs × T (p x)
unfolding find
find-member p [] x e = absurd (let z : ◌≡◌ {A = ℕ} 0 1 = cc in omega arith)
find-member {A} p (y ∷ xs) x e = by_first (p y) refl e (λ q. find-member p xs x q)
  where
    by_first : (b : Bool) → p y ≡ b → elim b [ true ↦ some y | false ↦ find p xs ] ≡ some x → (find p xs ≡ some x → Member x xs × T (p x)) → Member x (y ∷ xs) × T (p x)
    by_first true q e rest =
        let f : x ≡ y = cc in
        (inl f, rw f (true→T q))
    by_first false q e rest = let (m, t) = rest e in (inr m, t)

-- of elements with distinct names, each is found by its own
pub find-named : {A : Type 0} (name : A → List ℕ) (xs : List A) → T (distinct (map name xs)) → (x : A) → Member x xs → find (λ y. same (name x) (name y)) xs ≡ some x
unfolding find
find-named name [] h x m = absurd m
find-named name (y ∷ xs) h x (inl e) = rw (e, T→true (same (name y) (name y)) (same_refl (name y)), find)
find-named name (y ∷ xs) h x (inr m) =
    let apart : (T (same (name x) (name y)) → ⊥) = λ q.
    T_not (in_list (name y) (map name xs)) (and_0 (not (in_list (name y) (map name xs))) (distinct (map name xs)) h)
    (subst (λ (n : List ℕ). T (in_list n (map name xs))) (same→eq (name x) (name y) q) (member-in (name x) (map name xs) (member-map name x xs m))) in
    rw (no→false (same (name x) (name y)) apart, find) (find-named name xs (and-1 (not (in_list (name y) (map name xs))) (distinct (map name xs)) h) x m)
