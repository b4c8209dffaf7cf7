-- Which list is the least that passes a test, where one or two positions suffice. That it is the first in the order of the lists is in proofs/Least.antt.
use Rattle.std.specs.Prelude.{ℕ, zero, suc, ◌≤◌, ◌<◌, ◌⊎◌, Bool, eqb, ltb, length}
use Rattle.std.proofs.Math.Path.{◌≡◌, refl}
use Rattle.std.proofs.Common.{sym, ◌∙◌, subst, inl, inr, arith, eqb-true, ltb-true, ltb-false}
use mathlib.Core.List.{List, [], ◌∷◌}
use Rattle.std.proofs.Math.Bool.{true, false}
use Rattle.std.proofs.lemmas.Bool.{eqb-false}

-- ---------------------------------------------------------------- definitions

-- one position passes, and no list before it
pub record LeastOne (P : List ℕ → Bool) (n k : ℕ) : Type 0 where
  pub without : P [] ≡ false
  pub inside : k < n
  pub before : (j : ℕ) → j < k → P (j ∷ []) ≡ false
  pub here : P (k ∷ []) ≡ true

-- two positions pass, and no list before them
pub record LeastTwo (P : List ℕ → Bool) (n j k : ℕ) : Type 0 where
  pub without : P [] ≡ false
  pub alone : (i : ℕ) → i < n → P (i ∷ []) ≡ false
  pub rises : j < k
  pub inside : k < n
  pub before : (a b : ℕ) → a < j → a < b → b < n → P (a ∷ b ∷ []) ≡ false
  pub between : (b : ℕ) → j < b → b < k → P (j ∷ b ∷ []) ≡ false
  pub here : P (j ∷ k ∷ []) ≡ true

-- ---------------------------------------------------------------- two tests that agree on short lists

module _ {P Q : List ℕ → Bool} (same : (ks : List ℕ) → length ks ≤ 2 → P ks ≡ Q ks) {n : ℕ} where
  pub one-as : {k : ℕ} → LeastOne P n k → LeastOne Q n k
  one-as {k} h = record {
    without = sym (same [] (omega arith)) ∙ h.without;
    inside = h.inside;
    before = λ j l. sym (same (j ∷ []) (omega arith)) ∙ h.before j l;
    here = sym (same (k ∷ []) (omega arith)) ∙ h.here;
  }

  pub two-as : {j k : ℕ} → LeastTwo P n j k → LeastTwo Q n j k
  two-as {j} {k} h = record {
    without = sym (same [] (omega arith)) ∙ h.without;
    alone = λ i l. sym (same (i ∷ []) (omega arith)) ∙ h.alone i l;
    rises = h.rises;
    inside = h.inside;
    before = λ a b x y z. sym (same (a ∷ b ∷ []) (omega arith)) ∙ h.before a b x y z;
    between = λ b x y. sym (same (j ∷ b ∷ []) (omega arith)) ∙ h.between b x y;
    here = sym (same (j ∷ k ∷ []) (omega arith)) ∙ h.here;
  }

-- ---------------------------------------------------------------- the first list that passes

pub data LeastList (P : List ℕ → Bool) (n : ℕ) : List ℕ → Type 0 where
  empty : P [] ≡ true → LeastList P n []
  one : {k : ℕ} → LeastOne P n k → LeastList P n (k ∷ [])
  two : {j k : ℕ} → LeastTwo P n j k → LeastList P n (j ∷ k ∷ [])

pub least-passes : {P : List ℕ → Bool} {n : ℕ} {ks : List ℕ} → LeastList P n ks → P ks ≡ true
least-passes (empty e) = e
least-passes (one h) = h.here
least-passes (two h) = h.here

pub least-short : {P : List ℕ → Bool} {n : ℕ} {ks : List ℕ} → LeastList P n ks → length ks ≤ 2
least-short (empty e) = omega arith
least-short (one h) = omega arith
least-short (two h) = omega arith

-- a rising list of positions below n, of which the first is i at least
abbrev pub RisingFrom : ℕ → ℕ → List ℕ → Type 0
RisingFrom n i [] = Unit
RisingFrom n i (k ∷ ks) = (i ≤ k) × ((k < n) × RisingFrom n (suc k) ks)

-- of two lists of one length: by the first position, and then by the next
abbrev pub Earlier : List ℕ → List ℕ → Type 0
Earlier [] ks = ⊥
Earlier (j ∷ js) [] = ⊥
Earlier (j ∷ js) (k ∷ ks) = (j < k) ⊎ ((j ≡ k) × Earlier js ks)

-- no shorter list passes
pub none-shorter : {P : List ℕ → Bool} {n : ℕ} {ks : List ℕ} → LeastList P n ks → (js : List ℕ) → RisingFrom n 0 js → length js < length ks → P js ≡ false
none-shorter (empty e) js r l = absurd (omega arith)
none-shorter (one h) [] r l = h.without
none-shorter (one h) (i ∷ js) r l = absurd (omega arith)
none-shorter (two h) [] r l = h.without
none-shorter (two h) (i ∷ []) r l = h.alone i r.1.0
none-shorter (two h) (i ∷ j ∷ js) r l = absurd (omega arith)

-- and none as short that comes before it
pub none-earlier : {P : List ℕ → Bool} {n : ℕ} {ks : List ℕ} → LeastList P n ks → (js : List ℕ) → RisingFrom n 0 js → length js ≡ length ks → Earlier js ks → P js ≡ false
none-earlier (empty e) [] r l b = absurd b
none-earlier (empty e) (j ∷ js) r l b = absurd b
none-earlier (one h) [] r l b = absurd b
none-earlier (one h) (j ∷ []) r l (inl b) = h.before j b
none-earlier (one h) (j ∷ []) r l (inr b) = absurd b.1
none-earlier (one h) (i ∷ j ∷ js) r l b = absurd (omega arith)
none-earlier (two h) [] r l b = absurd b
none-earlier (two h) (a ∷ []) r l b = absurd (omega arith)
none-earlier (two h) (a ∷ b ∷ []) r l (inl u) = h.before a b u r.1.1.0 r.1.1.1.0
none-earlier {P} (two h) (a ∷ b ∷ []) r l (inr (e, inl u)) = subst (λ (z : ℕ). P (z ∷ b ∷ []) ≡ false) (sym e) (h.between b (let v = r.1.1.0 in omega arith) u)
none-earlier (two h) (a ∷ b ∷ []) r l (inr (e, inr u)) = absurd u.1
none-earlier (two h) (a ∷ b ∷ c ∷ js) r l u = absurd (omega arith)

-- ---------------------------------------------------------------- there is one

-- the first number below n of the first kind, where each is of one of two kinds
first_of : {A B : ℕ → Type 0} (n : ℕ) → ((k : ℕ) → k < n → A k ⊎ B k) → ((k : ℕ) × ((k < n) × (A k × ((j : ℕ) → j < k → B j)))) ⊎ ((j : ℕ) → j < n → B j)
first_of zero h = inr (λ j l. absurd (omega arith))
first_of {A} {B} (suc n) h = go (first_of n (λ k l. h k (omega arith)))
  where
    last : ((j : ℕ) → j < n → B j) → A n ⊎ B n → ((k : ℕ) × ((k < suc n) × (A k × ((j : ℕ) → j < k → B j)))) ⊎ ((j : ℕ) → j < suc n → B j)
    last f (inl a) = inl (n, (omega arith, (a, f)))
    last f (inr b) = inr λ j l. by_last j l (eqb j n) refl
      where
        by_last : (j : ℕ) → j < suc n → (c : Bool) → eqb j n ≡ c → B j
        by_last j l true e = subst B (sym (eqb-true j n e)) b
        by_last j l false e = let z = eqb-false j n e in f j (omega arith)

    go : ((k : ℕ) × ((k < n) × (A k × ((j : ℕ) → j < k → B j)))) ⊎ ((j : ℕ) → j < n → B j) → ((k : ℕ) × ((k < suc n) × (A k × ((j : ℕ) → j < k → B j)))) ⊎ ((j : ℕ) → j < suc n → B j)
    go (inl (k, (l, r))) = inl (k, (omega arith, r))
    go (inr f) = last f (h n (omega arith))

by_bool : (b : Bool) → (b ≡ true) ⊎ (b ≡ false)
by_bool true = inl refl
by_bool false = inr refl

-- where not every list of two positions or fewer fails
pub least-exists : (P : List ℕ → Bool) (n : ℕ)
    → (P [] ≡ false → ((i : ℕ) → i < n → P (i ∷ []) ≡ false) → ((a b : ℕ) → a < b → b < n → P (a ∷ b ∷ []) ≡ false) → ⊥) → (ks : List ℕ) × LeastList P n ks
least-exists P n fails = by-none (by_bool (P []))
  where
    -- the first partner of position j
    Pair : ℕ → Type 0
    Pair j = (k : ℕ) × ((k < n) × (((j < k) × (P (j ∷ k ∷ []) ≡ true)) × ((b : ℕ) → b < k → j < b → P (j ∷ b ∷ []) ≡ false)))

    Alone : ℕ → Type 0
    Alone j = (b : ℕ) → b < n → j < b → P (j ∷ b ∷ []) ≡ false

    at_place : (j k : ℕ) → k < n → ((j < k) × (P (j ∷ k ∷ []) ≡ true)) ⊎ (j < k → P (j ∷ k ∷ []) ≡ false)
    at_place j k l = go (ltb j k) refl (by_bool (P (j ∷ k ∷ [])))
      where
        go : (b : Bool) → ltb j k ≡ b → (P (j ∷ k ∷ []) ≡ true) ⊎ (P (j ∷ k ∷ []) ≡ false) → ((j < k) × (P (j ∷ k ∷ []) ≡ true)) ⊎ (j < k → P (j ∷ k ∷ []) ≡ false)
        go true e (inl t) = inl (ltb-true j k e, t)
        go true e (inr f) = inr (λ u. f)
        go false e q = inr (λ u. let v = ltb-false j k e in absurd (omega arith))

    partner : (j : ℕ) → j < n → Pair j ⊎ Alone j
    partner j l = first_of {A = λ k. (j < k) × (P (j ∷ k ∷ []) ≡ true)} {B = λ k. j < k → P (j ∷ k ∷ []) ≡ false} n (at_place j)

    by_two : P [] ≡ false → ((i : ℕ) → i < n → P (i ∷ []) ≡ false) → ((j : ℕ) × ((j < n) × (Pair j × ((a : ℕ) → a < j → Alone a)))) ⊎ ((j : ℕ) → j < n → Alone j) → (ks : List ℕ) × LeastList P n ks
    by_two e f (inl (j, (l, ((k, (m, ((u, t), g))), h)))) =
        (j ∷ k ∷ [], two (record { without = e; alone = f; rises = u; inside = m; before = λ a b x y z. h a x b z y; between = λ b x y. g b y x; here = t }))
    by_two e f (inr g) = absurd (fails e f (λ a b l m. g a (omega arith) b m l))

    by_one : P [] ≡ false → ((k : ℕ) × ((k < n) × ((P (k ∷ []) ≡ true) × ((j : ℕ) → j < k → P (j ∷ []) ≡ false)))) ⊎ ((j : ℕ) → j < n → P (j ∷ []) ≡ false) → (ks : List ℕ) × LeastList P n ks
    by_one e (inl (k, (l, (t, f)))) = (k ∷ [], one (record { without = e; inside = l; before = f; here = t }))
    by_one e (inr f) = by_two e f (first_of {A = Pair} {B = Alone} n partner)

    by-none : (P [] ≡ true) ⊎ (P [] ≡ false) → (ks : List ℕ) × LeastList P n ks
    by-none (inl e) = ([], empty e)
    by-none (inr e) = by_one e (first_of {A = λ k. P (k ∷ []) ≡ true} {B = λ k. P (k ∷ []) ≡ false} n (λ k l. by_bool (P (k ∷ []))))

pub least-rises : {P : List ℕ → Bool} {n : ℕ} {ks : List ℕ} → LeastList P n ks → RisingFrom n 0 ks
least-rises (empty e) = tt
least-rises (one h) = (omega arith, (h.inside, tt))
least-rises (two h) = let r = h.rises in let l = h.inside in (omega arith, (omega arith, (omega arith, (l, tt))))
