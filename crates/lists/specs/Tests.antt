-- Boolean tests over lists of numbers, and what a passed test says.
use Rattle.std.specs.Prelude.{ℕ, zero, suc, ◌+◌, ◌≤◌, ◌<◌, ◌≡◌, refl, List, [], ◌∷◌, ◌++◌, map, Bool, true, false, ◌&&◌, ◌||◌, not, ◌≢◌, T, eqb, length, take, drop, get_or}
use Rattle.std.proofs.Common.{ap, sym, ◌∙◌, subst, arith, eqb→eq, T_not}
use Rattle.std.proofs.Math.Dec.{eqb_refl, not_T}

-- ---------------------------------------------------------------- definitions

-- are the two lists equal, element by element
unfoldable pub same : List ℕ → List ℕ → Bool
same [] [] = true
same [] (y ∷ ys) = false
same (x ∷ xs) [] = false
same (x ∷ xs) (y ∷ ys) = eqb x y && same xs ys

-- is the list n one of the lists
abbrev pub in_list : List ℕ → List (List ℕ) → Bool
in_list n [] = false
in_list n (m ∷ ms) = same n m || in_list n ms

-- is the number c one of the numbers
abbrev pub among : List ℕ → ℕ → Bool
among [] c = false
among (x ∷ s) c = eqb c x || among s c

-- does every element pass the test
abbrev pub every : {A : Type 0} → (A → Bool) → List A → Bool
every p [] = true
every p (x ∷ xs) = p x && every p xs

-- every element passes the test, as a type
abbrev pub All : {A : Type 0} → (A → Bool) → List A → Type 0
All p [] = Unit
All p (x ∷ xs) = T (p x) × All p xs

-- ---------------------------------------------------------------- laws

pub true→T : {b : Bool} → b ≡ true → T b
true→T e = subst T (sym e) tt

pub and_T : (a b : Bool) → T a → T b → T (a && b)
and_T true b p q = q
and_T false b p q = p

pub and_0 : (a b : Bool) → T (a && b) → T a
and_0 true b p = tt
and_0 false b p = p

pub and-1 : (a b : Bool) → T (a && b) → T b
and-1 true b p = p
and-1 false b p = absurd p

pub and-true : (a : Bool) → (a && true) ≡ a
and-true true = refl
and-true false = refl

pub and_assoc : (a b c : Bool) → ((a && b) && c) ≡ (a && (b && c))
and_assoc true b c = refl
and_assoc false b c = refl

-- two tests made as one, and a third
pub both-and : (a b : Bool) {h c : Bool} → h ≡ (a && b) → h ≡ true → c ≡ (a && (b && c))
both-and true true e t = refl
both-and true false e t = absurd (true→T (sym e ∙ t))
both-and false b e t = absurd (true→T (sym e ∙ t))

pub none-and : (a b : Bool) {h : Bool} (c : Bool) → h ≡ (a && b) → h ≡ false → false ≡ (a && (b && c))
none-and true true c e t = absurd (subst T (sym e ∙ t) tt)
none-and true false c e t = refl
none-and false b c e t = refl

pub or_l : (a b : Bool) → T a → T (a || b)
or_l true b h = tt
or_l false b h = absurd h

pub or_r : (a b : Bool) → T b → T (a || b)
or_r true b h = tt
or_r false b h = h

pub or-not : (a b : Bool) → T (a || b) → T (not a) → T b
or-not true b h k = absurd k
or-not false b h k = h

-- case analysis on a passed disjunction
pub or_elim : {C : Type 0} (a b : Bool) → T (a || b) → (T a → C) → (T b → C) → C
or_elim true b h f g = f tt
or_elim false b h f g = g h

pub T→true : (b : Bool) → T b → b ≡ true
T→true true h = refl
T→true false h = absurd h

pub not→false : (b : Bool) → T (not b) → b ≡ false
not→false true h = absurd h
not→false false h = refl

pub no→false : (b : Bool) → (T b → ⊥) → b ≡ false
no→false true h = absurd (h tt)
no→false false h = refl

pub not-not : (b : Bool) → T (not (not b)) → T b
not-not true h = tt
not-not false h = absurd h

pub differs : (c x : ℕ) → T (not (eqb c x)) → c ≢ x
differs c x t e = T_not (eqb c x) t (subst (λ (z : ℕ). T (eqb c z)) e (eqb_refl c))

-- for a list that is written out: `by-test p xs tt`
pub by-test : {A : Type 0} (p : A → Bool) (xs : List A) → T (every p xs) → All p xs
by-test p [] h = tt
by-test p (x ∷ xs) h = (and_0 (p x) (every p xs) h, by-test p xs (and-1 (p x) (every p xs) h))

pub every-all : {A : Type 0} (p : A → Bool) (xs : List A) → All p xs → T (every p xs)
every-all p [] h = tt
every-all p (x ∷ xs) h = and_T (p x) (every p xs) h.0 (every-all p xs h.1)

pub every_append : {A : Type 0} (p : A → Bool) (xs ys : List A) → every p (xs ++ ys) ≡ (every p xs && every p ys)
every_append p [] ys = refl
every_append p (x ∷ xs) ys = ap (λ (b : Bool). p x && b) (every_append p xs ys) ∙ sym (and_assoc (p x) (every p xs) (every p ys))

pub every_map : {A B : Type 0} (p : B → Bool) (f : A → B) (xs : List A) → every p (map f xs) ≡ every (λ x. p (f x)) xs
every_map p f [] = refl
every_map p f (x ∷ xs) = ap (λ (b : Bool). p (f x) && b) (every_map p f xs)

pub every-place : {A : Type 0} (p : A → Bool) (d : A) (xs : List A) → T (every p xs) → (i : ℕ) → i < length xs → T (p (get_or xs i d))
every-place p d [] h i l = absurd (omega arith)
every-place p d (x ∷ xs) h zero l = and_0 (p x) (every p xs) h
every-place p d (x ∷ xs) h (suc i) l = every-place p d xs (and-1 (p x) (every p xs) h) i (omega arith)

pub places-every : {A : Type 0} (p : A → Bool) (d : A) (xs : List A) → ((i : ℕ) → i < length xs → T (p (get_or xs i d))) → T (every p xs)
places-every p d [] h = tt
places-every p d (x ∷ xs) h = and_T (p x) (every p xs) (h 0 (omega arith)) (places-every p d xs (λ i l. h (suc i) (omega arith)))

-- what is found at a place, or 0 past the list
pub place-bound : (xs : List ℕ) (i m : ℕ) → (i < length xs → get_or xs i 0 ≤ m) → get_or xs i 0 ≤ m
place-bound [] i m h = omega arith
place-bound (x ∷ xs) zero m h = h (omega arith)
place-bound (x ∷ xs) (suc i) m h = place-bound xs i m (λ l. h (omega arith))

pub all_append : {A : Type 0} (p : A → Bool) (xs ys : List A) → All p xs → All p ys → All p (xs ++ ys)
all_append p [] ys h k = k
all_append p (x ∷ xs) ys h k = (h.0, all_append p xs ys h.1 k)

pub all-weaken : {A : Type 0} (p q : A → Bool) → ((x : A) → T (p x) → T (q x)) → (xs : List A) → All p xs → All q xs
all-weaken p q f [] h = tt
all-weaken p q f (x ∷ xs) h = (f x h.0, all-weaken p q f xs h.1)

pub all_right : {A : Type 0} (p : A → Bool) (xs ys : List A) → All p (xs ++ ys) → All p ys
all_right p [] ys h = h
all_right p (x ∷ xs) ys h = all_right p xs ys h.1

pub all_left : {A : Type 0} (p : A → Bool) (xs ys : List A) → All p (xs ++ ys) → All p xs
all_left p [] ys h = tt
all_left p (x ∷ xs) ys h = (h.0, all_left p xs ys h.1)

pub all_take : {A : Type 0} (p : A → Bool) (n : ℕ) (xs : List A) → All p xs → All p (take n xs)
all_take p zero xs h = tt
all_take p (suc n) [] h = tt
all_take p (suc n) (x ∷ xs) h = (h.0, all_take p n xs h.1)

pub all_drop : {A : Type 0} (p : A → Bool) (n : ℕ) (xs : List A) → All p xs → All p (drop n xs)
all_drop p zero xs h = h
all_drop p (suc n) [] h = tt
all_drop p (suc n) (x ∷ xs) h = all_drop p n xs h.1

pub all_map : {A B : Type 0} (p : B → Bool) (f : A → B) (xs : List A) → All (λ x. p (f x)) xs → All p (map f xs)
all_map p f [] h = tt
all_map p f (x ∷ xs) h = (h.0, all_map p f xs h.1)

pub all-always : {A : Type 0} (p : A → Bool) → ((x : A) → T (p x)) → (xs : List A) → All p xs
all-always p h [] = tt
all-always p h (x ∷ xs) = (h x, all-always p h xs)

-- for numbers that are written out: `among-every q s tt`
pub among-every : (q : ℕ → Bool) (s : List ℕ) → T (every q s) → (c : ℕ) → T (among s c) → T (q c)
among-every q [] t c h = absurd h
among-every q (x ∷ s) t c h = by_first (eqb c x) refl h (λ k. among-every q s (and-1 (q x) (every q s) t) c k)
  where
    by_first : (b : Bool) → eqb c x ≡ b → T (b || among s c) → (T (among s c) → T (q c)) → T (q c)
    by_first true e h later = subst (λ (z : ℕ). T (q z)) (sym (eqb→eq c x (true→T e))) (and_0 (q x) (every q s) t)
    by_first false e h later = later h

pub among-left : (xs ys : List ℕ) (j : ℕ) → T (among xs j) → T (among (xs ++ ys) j)
among-left [] ys j h = absurd h
among-left (x ∷ xs) ys j h =
    or_elim (eqb j x) (among xs j) h (or_l (eqb j x) (among (xs ++ ys) j)) (λ q. or_r (eqb j x) (among (xs ++ ys) j) (among-left xs ys j q))

pub among-right : (xs ys : List ℕ) (j : ℕ) → T (among ys j) → T (among (xs ++ ys) j)
among-right [] ys j h = h
among-right (x ∷ xs) ys j h = or_r (eqb j x) (among (xs ++ ys) j) (among-right xs ys j h)

pub among-append : {C : Type 0} (xs ys : List ℕ) (j : ℕ) → T (among (xs ++ ys) j) → (T (among xs j) → C) → (T (among ys j) → C) → C
among-append [] ys j h f g = g h
among-append (x ∷ xs) ys j h f g =
    or_elim (eqb j x) (among (xs ++ ys) j) h (λ q. f (or_l (eqb j x) (among xs j) q)) (λ q. among-append xs ys j q (λ r. f (or_r (eqb j x) (among xs j) r)) g)

-- what passes a test that x fails is not x
pub apart_by : (p : ℕ → Bool) (x : ℕ) → T (not (p x)) → (c : ℕ) → T (p c) → T (not (eqb c x))
apart_by p x t c h = not_T (eqb c x) λ k. T_not (p x) t (subst (λ (z : ℕ). T (p z)) (eqb→eq c x k) h)

pub same→eq : (s t : List ℕ) → T (same s t) → s ≡ t
unfolding same
same→eq [] [] h = refl
same→eq [] (y ∷ ys) h = absurd h
same→eq (x ∷ xs) [] h = absurd h
same→eq (x ∷ xs) (y ∷ ys) h =
    let p : x ≡ y = eqb→eq x y (and_0 (eqb x y) (same xs ys) h) in
    let q : xs ≡ ys = same→eq xs ys (and-1 (eqb x y) (same xs ys) h) in
    cc

pub same_refl : (s : List ℕ) → T (same s s)
unfolding same
same_refl [] = tt
same_refl (x ∷ s) = and_T (eqb x x) (same s s) (eqb_refl x) (same_refl s)

-- a test at each number from a on, n of them
abbrev pub every_from : (ℕ → Bool) → ℕ → ℕ → Bool
every_from p a zero = true
every_from p a (suc n) = p a && every_from p (suc a) n

pub every-at : (p : ℕ → Bool) (a n : ℕ) → T (every_from p a n) → (k : ℕ) → a ≤ k → k < a + n → T (p k)
every-at p a zero h k l m = absurd (omega arith)
every-at p a (suc n) h k l m = go (eqb a k) refl (λ q. every-at p (suc a) n (and-1 (p a) (every_from p (suc a) n) h) k q (omega arith))
  where
    go : (b : Bool) → eqb a k ≡ b → (suc a ≤ k → T (p k)) → T (p k)
    go true e rest = subst (λ (x : ℕ). T (p x)) (eqb→eq a k (true→T e)) (and_0 (p a) (every_from p (suc a) n) h)
    go false e rest =
        let far : a ≢ k = λ q. subst T e (subst (λ (x : ℕ). T (eqb a x)) q (eqb_refl a)) in
        rest (omega arith)

pub every-from : (p : ℕ → Bool) (a n : ℕ) → ((k : ℕ) → a ≤ k → k < a + n → T (p k)) → T (every_from p a n)
every-from p a zero h = tt
every-from p a (suc n) h = and_T (p a) (every_from p (suc a) n) (h a (omega arith) (omega arith)) (every-from p (suc a) n (λ k l m. h k (omega arith) (omega arith)))

pub not-every : (q : ℕ → Bool) (a n : ℕ) → T (not (every_from q a n)) → (k : ℕ) × T (not (q k))
not-every q a zero h = absurd h
not-every q a (suc n) h = by_first (q a) refl h (λ k. not-every q (suc a) n k)
  where
    by_first : (b : Bool) → q a ≡ b → T (not (b && every_from q (suc a) n)) → (T (not (every_from q (suc a) n)) → (k : ℕ) × T (not (q k))) → (k : ℕ) × T (not (q k))
    by_first true e h rest = rest h
    by_first false e h rest = (a, rw e tt)

-- ---------------------------------------------------------------- names that are apart

-- is no list among those after it
abbrev pub distinct : List (List ℕ) → Bool
distinct [] = true
distinct (n ∷ ns) = not (in_list n ns) && distinct ns

pub in_left : (n : List ℕ) (a b : List (List ℕ)) → T (in_list n a) → T (in_list n (a ++ b))
in_left n [] b h = absurd h
in_left n (m ∷ a) b h = or_elim (same n m) (in_list n a) h (or_l (same n m) (in_list n (a ++ b))) (λ k. or_r (same n m) (in_list n (a ++ b)) (in_left n a b k))

pub in_right : (n : List ℕ) (a b : List (List ℕ)) → T (in_list n b) → T (in_list n (a ++ b))
in_right n [] b h = h
in_right n (m ∷ a) b h = or_r (same n m) (in_list n (a ++ b)) (in_right n a b h)

pub in-append : (n : List ℕ) (a b : List (List ℕ)) → T (in_list n (a ++ b)) → (T (in_list n a) → ⊥) → T (in_list n b)
in-append n [] b h k = h
in-append n (m ∷ a) b h k =
    or_elim (same n m) (in_list n (a ++ b)) h (λ e. absurd (k (or_l (same n m) (in_list n a) e)))
    (λ q. in-append n a b q (λ l. k (or_r (same n m) (in_list n a) l)))

pub in_place : (ns : List (List ℕ)) (k : ℕ) → k < length ns → T (in_list (get_or ns k []) ns)
in_place [] k l = absurd (omega arith)
in_place (n ∷ ns) zero l = or_l (same n n) (in_list n ns) (same_refl n)
in_place (n ∷ ns) (suc k) l = or_r (same (get_or ns k []) n) (in_list (get_or ns k []) ns) (in_place ns k (omega arith))

-- one of the lists, or the empty one
pub place-or-none : (ns : List (List ℕ)) (k : ℕ) → (T (in_list (get_or ns k []) ns) → ⊥) → get_or ns k [] ≡ []
place-or-none [] k h = refl
place-or-none (n ∷ ns) zero h = absurd (h (or_l (same n n) (in_list n ns) (same_refl n)))
place-or-none (n ∷ ns) (suc k) h = place-or-none ns k (λ q. h (or_r (same (get_or ns k []) n) (in_list (get_or ns k []) ns) q))

pub distinct-left : (a b : List (List ℕ)) → T (distinct (a ++ b)) → T (distinct a)
distinct-left [] b h = tt
distinct-left (m ∷ a) b h =
    and_T (not (in_list m a)) (distinct a)
    (not_T (in_list m a) (λ q. T_not (in_list m (a ++ b)) (and_0 (not (in_list m (a ++ b))) (distinct (a ++ b)) h) (in_left m a b q)))
    (distinct-left a b (and-1 (not (in_list m (a ++ b))) (distinct (a ++ b)) h))

pub distinct-right : (a b : List (List ℕ)) → T (distinct (a ++ b)) → T (distinct b)
distinct-right [] b h = h
distinct-right (m ∷ a) b h = distinct-right a b (and-1 (not (in_list m (a ++ b))) (distinct (a ++ b)) h)

pub distinct_snoc : (before : List (List ℕ)) (n : List ℕ) → T (distinct before) → T (not (in_list n before)) → T (distinct (before ++ (n ∷ [])))
distinct_snoc [] n d t = tt
distinct_snoc (m ∷ before) n d t =
    let fresh : (T (in_list m (before ++ (n ∷ []))) → ⊥) = λ q.
    let last : T (in_list m (n ∷ [])) = in-append m before (n ∷ []) q (T_not (in_list m before) (and_0 (not (in_list m before)) (distinct before) d)) in
    let e : m ≡ n = or_elim (same m n) false last (same→eq m n) (λ z. absurd z) in
    T_not (in_list n (m ∷ before)) t (or_l (same n m) (in_list n before) (rw e (same_refl n))) in
    let later : (T (in_list n before) → ⊥) = λ q. T_not (in_list n (m ∷ before)) t (or_r (same n m) (in_list n before) q) in
    and_T (not (in_list m (before ++ (n ∷ [])))) (distinct (before ++ (n ∷ []))) (not_T (in_list m (before ++ (n ∷ []))) fresh)
    (distinct_snoc before n (and-1 (not (in_list m before)) (distinct before) d) (not_T (in_list n before) later))

-- of distinct lists, none is in both parts
pub distinct_apart : (a b : List (List ℕ)) (n : List ℕ) → T (distinct (a ++ b)) → T (in_list n a) → T (in_list n b) → ⊥
distinct_apart [] b n h k l = k
distinct_apart (m ∷ a) b n h k l =
    or_elim (same n m) (in_list n a) k
    (λ e. T_not (in_list m (a ++ b)) (and_0 (not (in_list m (a ++ b))) (distinct (a ++ b)) h) (in_right m a b (subst (λ (x : List ℕ). T (in_list x b)) (same→eq n m e) l)))
    (λ q. distinct_apart a b n (and-1 (not (in_list m (a ++ b))) (distinct (a ++ b)) h) q l)

pub every_in : (p : List ℕ → Bool) (ns : List (List ℕ)) (n : List ℕ) → T (every p ns) → T (in_list n ns) → T (p n)
every_in p [] n h k = absurd k
every_in p (m ∷ ns) n h k =
    or_elim (same n m) (in_list n ns) k
    (λ e. subst (λ (x : List ℕ). T (p x)) (sym (same→eq n m e)) (and_0 (p m) (every p ns) h))
    (λ q. every_in p ns n (and-1 (p m) (every p ns) h) q)
