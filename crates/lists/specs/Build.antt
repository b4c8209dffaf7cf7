-- Lists by their places: made from a function of the place, searched for the first place that passes a test.
use Rattle.std.specs.Prelude.{ℕ, zero, suc, ◌+◌, ◌≤◌, ◌<◌, ◌≡◌, refl, List, [], ◌∷◌, map, Bool, true, false, ◌≢◌, T, eqb, length, get_or}
use Rattle.std.proofs.Common.{ap, sym, subst, arith, eqb→eq}
use Rattle.std.proofs.Math.Option.{Option, none, some}
use Rattle.std.proofs.Math.Dec.{eqb_refl}
use Rattle.lists.specs.Tests.{All, true→T}

-- f 0, f 1, .. f (n - 1)
abbrev pub tabulate : {A : Type 0} → ℕ → (ℕ → A) → List A
tabulate zero f = []
tabulate (suc n) f = f 0 ∷ tabulate n (λ i. f (suc i))

-- the place, counted on from k, of the first element that passes the test
unfoldable pub find_from : {A : Type 0} → (A → Bool) → ℕ → List A → Option ℕ
find_from p k [] = none
find_from p k (x ∷ xs) = elim (p x) [ true ↦ some k | false ↦ find_from p (suc k) xs ]

-- the first element that passes the test
unfoldable pub find : {A : Type 0} → (A → Bool) → List A → Option A
find p [] = none
find p (x ∷ xs) = elim (p x) [ true ↦ some x | false ↦ find p xs ]

-- the value of each number below n by its own step over the values of those below it; `d` from n on
unfoldable pub upto : {A : Type 0} → ((ℕ → A) → ℕ → A) → A → ℕ → ℕ → A
upto step d zero j = d
upto step d (suc n) j = elim (eqb j n) [ true ↦ step (upto step d n) n | false ↦ upto step d n j ]

-- ---------------------------------------------------------------- laws

pub length-tabulate : {A : Type 0} (n : ℕ) (f : ℕ → A) → length (tabulate n f) ≡ n
length-tabulate zero f = refl
length-tabulate (suc n) f = ap suc (length-tabulate n (λ i. f (suc i)))

pub get_or-tabulate : {A : Type 0} (n : ℕ) (f : ℕ → A) (d : A) (i : ℕ) → i < n → get_or (tabulate n f) i d ≡ f i
get_or-tabulate zero f d i h = absurd (omega arith)
get_or-tabulate (suc n) f d zero h = refl
get_or-tabulate (suc n) f d (suc i) h = get_or-tabulate n (λ j. f (suc j)) d i (omega arith)

pub map-tabulate : {A B : Type 0} (f : A → B) (n : ℕ) (g : ℕ → A) → map f (tabulate n g) ≡ tabulate n (λ i. f (g i))
map-tabulate f zero g = refl
map-tabulate f (suc n) g = ap (λ (xs : List _). f (g 0) ∷ xs) (map-tabulate f n (λ i. g (suc i)))

pub tabulate-places : {A : Type 0} (d : A) (xs : List A) → tabulate (length xs) (λ i. get_or xs i d) ≡ xs
tabulate-places d [] = refl
tabulate-places d (x ∷ xs) = ap (λ (ys : List _). x ∷ ys) (tabulate-places d xs)

pub all-tabulate : {A : Type 0} (p : A → Bool) (n : ℕ) (f : ℕ → A) → ((i : ℕ) → i < n → T (p (f i))) → All p (tabulate n f)
all-tabulate p zero f h = tt
all-tabulate p (suc n) f h = (h 0 (omega arith), all-tabulate p n (λ i. f (suc i)) (λ i l. h (suc i) (omega arith)))

-- a number's value does not depend on how far up the table goes
pub upto-below : {A : Type 0} (step : (ℕ → A) → ℕ → A) (d : A) (n j : ℕ) → j < n → upto step d n j ≡ step (upto step d j) j
unfolding upto
upto-below step d zero j h = absurd (omega arith)
upto-below {A} step d (suc n) j h = go (eqb j n) refl (λ l. upto-below step d n j l)
  where
    go : (b : Bool) → eqb j n ≡ b → (j < n → upto step d n j ≡ step (upto step d j) j) → upto step d (suc n) j ≡ step (upto step d j) j
    go true e rest =
        let q : j ≡ n = eqb→eq j n (true→T e) in
        rw (e, upto) (ap (λ (k : ℕ). step (upto step d k) k) (sym q))
    go false e rest =
        let far : j ≢ n = λ q. subst T e (subst (λ (x : ℕ). T (eqb j x)) q (eqb_refl j)) in
        rw (e, upto) (rest (omega arith))

-- what every step keeps holds throughout
pub upto_all : {A : Type 0} (P : A → Type 0) (step : (ℕ → A) → ℕ → A) (d : A) → P d → ((below : ℕ → A) → ((j : ℕ) → P (below j)) → (i : ℕ) → P (step below i))
    → (n j : ℕ) → P (upto step d n j)
unfolding upto
upto_all P step d z s zero j = z
upto_all {A} P step d z s (suc n) j = by_place (eqb j n) refl (s (upto step d n) (λ k. upto_all P step d z s n k) n) (upto_all P step d z s n j)
  where
    by_place : (b : Bool) → eqb j n ≡ b → P (step (upto step d n) n) → P (upto step d n j) → P (upto step d (suc n) j)
    by_place true e here below = rw (e, upto) here
    by_place false e here below = rw (e, upto) below

-- the place found is one of the list's
pub find-bound : {A : Type 0} (p : A → Bool) (k : ℕ) (xs : List A) (j : ℕ) → find_from p k xs ≡ some j → (k ≤ j) × (j < k + length xs)
unfolding find_from
find-bound p k [] j e = absurd (let z : ◌≡◌ {A = ℕ} 0 1 = cc in omega arith)
find-bound {A} p k (x ∷ xs) j e = by_first (p x) refl e (λ q. find-bound p (suc k) xs j q)
  where
    by_first : (b : Bool) → p x ≡ b → find_from p k (x ∷ xs) ≡ some j → (find_from p (suc k) xs ≡ some j → (suc k ≤ j) × (j < suc k + length xs))
        → (k ≤ j) × (j < k + suc (length xs))
    by_first true q e rest =
        let e' : some k ≡ some j = rw (q, find_from) at e in
        let f : k ≡ j = cc in
        (omega arith, omega arith)
    by_first false q e rest =
        let r = rest (rw (q, find_from) at e) in
        let l : suc k ≤ j = r.0 in
        let m : j < suc k + length xs = r.1 in
        (omega arith, omega arith)
