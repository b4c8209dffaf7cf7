-- Two lists of bytes compared stretch by stretch.
use Rattle.std.specs.Prelude.{ℕ, suc, ◌+◌, ◌≤◌, ◌<◌, ◌≡◌, refl, List, [], ◌∷◌, Bool, true, false, T, ltb, length, get_or}
use Rattle.std.proofs.Common.{sym, ap, subst, arith, ltb-true, ltb-false}
use Rattle.lists.specs.Tests.{same, same_refl, T→true}
use Rattle.echo_names.specs.Steps.{same_not}

-- the two agree from place i up to place m
abbrev pub Agree : List ℕ → List ℕ → ℕ → ℕ → Type 0
Agree a b i m = (j : ℕ) → i ≤ j → j < m → get_or a j 0 ≡ get_or b j 0

-- what is known once the stretch from i to m was compared: where it differs the lists do
pub record Compared (a b : List ℕ) (i m : ℕ) (ok : Bool) : Type 0 where
  pub apart : ok ≡ false → a ≡ b → ⊥
  pub alike : ok ≡ true → Agree a b i m

pub not-both : true ≡ false → ⊥
not-both e = subst T e tt

pub agree-join : (a b : List ℕ) (i k m : ℕ) → Agree a b i k → Agree a b k m → Agree a b i m
agree-join a b i k m f g j l h = go (ltb j k) refl
  where
    go : (t : Bool) → ltb j k ≡ t → get_or a j 0 ≡ get_or b j 0
    go true e = f j l (ltb-true j k e)
    go false e = g j (ltb-false j k e) h

agree-one : (a b : List ℕ) (k : ℕ) → get_or a k 0 ≡ get_or b k 0 → Agree a b k (k + 1)
agree-one a b k e j l h =
    let q : k ≡ j = omega arith in
    subst (λ (z : ℕ). get_or a z 0 ≡ get_or b z 0) q e

pub compared-start : {a b : List ℕ} {i : ℕ} → Compared a b i i true
compared-start = record { apart = λ e. absurd (not-both e); alike = λ e j l h. absurd (omega arith) }

module _ {a b : List ℕ} {i k : ℕ} {ok : Bool} (h : Compared a b i k ok) where
  pub compared_same : get_or a k 0 ≡ get_or b k 0 → Compared a b i (k + 1) ok
  compared_same e = record { apart = h.apart; alike = λ q. agree-join a b i k (k + 1) (h.alike q) (agree-one a b k e) }

  pub compared-apart : (get_or a k 0 ≡ get_or b k 0 → ⊥) → Compared a b i (k + 1) false
  compared-apart f = record { apart = λ q e. f (ap (λ (z : List ℕ). get_or z k 0) e); alike = λ q. absurd (not-both (sym q)) }

pub compared_at : {a b : List ℕ} {i k m : ℕ} {ok : Bool} → Compared a b i k ok → k ≡ m → Compared a b i m ok
compared_at {a} {b} {i} {ok = ok} h e = subst (λ (z : ℕ). Compared a b i z ok) e h

-- where a stretch differs, so does any other
pub compared-past : {a b : List ℕ} {i k m : ℕ} → Compared a b i k false → Compared a b i m false
compared-past h = record { apart = h.apart; alike = λ q. absurd (not-both (sym q)) }

-- lists of one length that agree everywhere
all-agree : (a b : List ℕ) → length a ≡ length b → Agree a b 0 (length a) → a ≡ b
all-agree [] [] e f = refl
all-agree [] (y ∷ ys) e f = absurd (omega arith)
all-agree (x ∷ xs) [] e f = absurd (omega arith)
all-agree (x ∷ xs) (y ∷ ys) e f =
    let h : x ≡ y = f 0 (omega arith) (omega arith) in
    let t : xs ≡ ys = all-agree xs ys (omega arith) (λ j l q. f (suc j) (omega arith) (omega arith)) in
    λ i. h i ∷ t i

pub compared-end : {a b : List ℕ} {i : ℕ} {ok : Bool} → length a ≡ length b → Agree a b 0 i → Compared a b i (length a) ok → ok ≡ same a b
compared-end {a} {b} {i} {ok} e f h = go ok refl
  where
    go : (t : Bool) → ok ≡ t → t ≡ same a b
    go true q = sym (T→true (same a b) (subst (λ (z : List ℕ). T (same a z)) (all-agree a b e (agree-join a b 0 i (length a) f (h.alike q))) (same_refl a)))
    go false q = sym (same_not a b (h.apart q))
