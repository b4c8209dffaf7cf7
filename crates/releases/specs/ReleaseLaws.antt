-- What an answer on a release says: scripts that agree, and the earliest that does not. Its laws are in proofs/ReleaseLaws.antt.
use Rattle.std.specs.Prelude.{ℕ, zero, suc, ◌<◌, ◌≡◌, refl, List, [], ◌∷◌, ◌++◌, Bool, true, false, ◌||◌, length}
use Rattle.std.proofs.Common.{sym, subst, arith}
use Rattle.std.proofs.Math.Option.{some}
use Rattle.std.proofs.Math.ListN.{get_elem?}
use Rattle.lists.specs.Tests.{true→T}
use Rattle.releases.specs.Release.{Declared, any_of, all_declared}
use Rattle.reading.specs.Trees.{Declarations}

-- ---------------------------------------------------------------- some element

module _ {A : Type 0} (p : A → Bool) where
  pub none_of : (xs : List A) → any_of p xs ≡ false → (i : ℕ) (x : A) → get_elem? xs i ≡ some x → p x ≡ false
  none_of [] e i x g = absurd (let z : ◌≡◌ {A = ℕ} 0 1 = cc in omega arith)
  none_of (y ∷ xs) e zero x g = let q : y ≡ x = cc in subst (λ (z : A). p z ≡ false) q (first (p y) e)
    where
      first : (b : Bool) → (b || any_of p xs) ≡ false → b ≡ false
      first true e = e
      first false e = refl
  none_of (y ∷ xs) e (suc i) x g = none_of xs (later (p y) e) i x g
    where
      later : (b : Bool) → (b || any_of p xs) ≡ false → any_of p xs ≡ false
      later true e = absurd (true→T (sym e))
      later false e = e

  pub one_of : (xs : List A) → any_of p xs ≡ true → (i : ℕ) × (x : A) × (get_elem? xs i ≡ some x) × (p x ≡ true)
  one_of [] e = absurd (true→T e)
  one_of (y ∷ xs) e = by_first (p y) refl e (λ f. one_of xs f)
    where
      by_first : (b : Bool) → p y ≡ b → (b || any_of p xs) ≡ true → (any_of p xs ≡ true → (i : ℕ) × (x : A) × (get_elem? xs i ≡ some x) × (p x ≡ true))
          → (i : ℕ) × (x : A) × (get_elem? (y ∷ xs) i ≡ some x) × (p x ≡ true)
      by_first true q e rest = (0, y, refl, q)
      by_first false q e rest = let (i, x, g, h) = rest e in (suc i, x, g, h)

-- ---------------------------------------------------------------- scripts that disagree

-- a script has this declaration
abbrev pub Declares : Declarations → Declared → Type 0
Declares D x = (i : ℕ) × (get_elem? (all_declared D) i ≡ some x)

-- a name that both declare means the same in both
abbrev pub Agree : Declarations → Declarations → Type 0
Agree D E = (x y : Declared) → Declares D x → Declares E y → x.name ≡ y.name → x.meaning ≡ y.meaning

pub agree-turned : (D E : Declarations) → Agree D E → Agree E D
agree-turned D E h x y d e n = sym (h y x e d (sym n))

-- two declarations of one name, one in each script, that differ
pub record Differing (D E : Declarations) : Type 0 where
  pub here : Declared
  pub there : Declared
  pub in_this : Declares D here
  pub in_that : Declares E there
  pub name : here.name ≡ there.name
  pub apart : here.meaning ≡ there.meaning → ⊥

-- ---------------------------------------------------------------- the earliest

abbrev pub At : List Declarations → ℕ → Declarations → Type 0
At Ds i D = get_elem? Ds i ≡ some D

-- what stands in the first of two lists
pub at_left : {A : Type 0} (xs ys : List A) (i : ℕ) (x : A) → i < length xs → get_elem? (xs ++ ys) i ≡ some x → get_elem? xs i ≡ some x
at_left [] ys i x l h = absurd (omega arith)
at_left (y ∷ xs) ys zero x l h = h
at_left (y ∷ xs) ys (suc i) x l h = at_left xs ys i x (omega arith) h

-- every script up to this one agrees with each before it
abbrev pub AgreeTo : List Declarations → ℕ → Type 0
AgreeTo Ds n = (i j : ℕ) (D E : Declarations) → i < n → j < i → At Ds i D → At Ds j E → Agree D E

-- the script disagrees with one before it, and none before it does
pub record Earliest (Ds : List Declarations) (k : ℕ) : Type 0 where
  pub other : ℕ
  pub before : other < k
  pub this : Declarations
  pub that : Declarations
  pub this_at : At Ds k this
  pub that_at : At Ds other that
  pub differing : Differing this that
  pub others : AgreeTo Ds k
