-- Laws of lists by their places, and of lists that only grow at the end.
use Prim.Native.Nat.{ℕ, zero, suc, ◌+◌, ◌≤◌, ◌<◌}
use Rattle.std.proofs.Math.Path.{◌≡◌, refl, ap}
use Rattle.std.proofs.Common.{sym, ◌∙◌, inl, inr, length-append}
use mathlib.Core.List.{List, [], ◌∷◌, ◌++◌, append_assoc, append-nil}
use Rattle.std.specs.Prelude.{Bool, ◌⊎◌, get_or}
use Rattle.std.proofs.Math.Bool.{true, false}
use Rattle.std.proofs.Math.Option.{none, some}
use native.Mathlib.Omega.{arith}
use Rattle.std.proofs.Math.Dec.{T}
use Rattle.std.proofs.Math.ListN.{length, get_elem?, get_or-append}
use Rattle.lists.specs.Tests.{true→T, T→true}
use Rattle.lists.specs.Build.{find_from, find, find-bound}

-- ---------------------------------------------------------------- places

module _ {A : Type 0} where
  pub at_less : (s : List A) (i : ℕ) (x : A) → get_elem? s i ≡ some x → i < length s
  at_less [] i x e = absurd (let z : ◌≡◌ {A = ℕ} 0 1 = cc in omega arith)
  at_less (y ∷ s) zero x e = omega arith
  at_less (y ∷ s) (suc i) x e = let l = at_less s i x e in omega arith

  pub at-exists : (s : List A) (i : ℕ) → i < length s → (x : A) × (get_elem? s i ≡ some x)
  at-exists [] i h = absurd (omega arith)
  at-exists (y ∷ s) zero h = (y, refl)
  at-exists (y ∷ s) (suc i) h = at-exists s i (omega arith)

  pub at-append : (s t : List A) (i : ℕ) (x : A) → get_elem? s i ≡ some x → get_elem? (s ++ t) i ≡ some x
  at-append [] t i x e = absurd (let z : ◌≡◌ {A = ℕ} 0 1 = cc in omega arith)
  at-append (y ∷ s) t zero x e = e
  at-append (y ∷ s) t (suc i) x e = at-append s t i x e

  pub at-seam : (s : List A) (x : A) (t : List A) → get_elem? (s ++ x ∷ t) (length s) ≡ some x
  at-seam [] x t = refl
  at-seam (y ∷ s) x t = at-seam s x t

  pub at-get_or : (s : List A) (i : ℕ) (x d : A) → get_elem? s i ≡ some x → get_or s i d ≡ x
  at-get_or [] i x d e = absurd (let z : ◌≡◌ {A = ℕ} 0 1 = cc in omega arith)
  at-get_or (y ∷ s) zero x d e = cc
  at-get_or (y ∷ s) (suc i) x d e = at-get_or s i x d e

  pub get_or-at : (s : List A) (i : ℕ) (d : A) → i < length s → get_elem? s i ≡ some (get_or s i d)
  get_or-at [] i d h = absurd (omega arith)
  get_or-at (y ∷ s) zero d h = refl
  get_or-at (y ∷ s) (suc i) d h = get_or-at s i d (omega arith)

  -- of a list with one more element
  pub at_snoc : (s : List A) (x : A) (i : ℕ) (y : A) → get_elem? (s ++ (x ∷ [])) i ≡ some y → (get_elem? s i ≡ some y) ⊎ ((i ≡ length s) × (x ≡ y))
  at_snoc [] x zero y e = inr (refl, cc)
  at_snoc [] x (suc i) y e = absurd (let z : ◌≡◌ {A = ℕ} 0 1 = cc in omega arith)
  at_snoc (z ∷ s) x zero y e = inl e
  at_snoc (z ∷ s) x (suc i) y e = by-rest (at_snoc s x i y e)
    where
      by-rest : (get_elem? s i ≡ some y) ⊎ ((i ≡ length s) × (x ≡ y)) → (get_elem? s i ≡ some y) ⊎ ((suc i ≡ suc (length s)) × (x ≡ y))
      by-rest (inl q) = inl q
      by-rest (inr (q, r)) = inr (ap suc q, r)

  pub one_place : (s : List A) (i : ℕ) (x y : A) → get_elem? s i ≡ some x → get_elem? s i ≡ some y → x ≡ y
  one_place s i x y e f = let q : some x ≡ some y = sym e ∙ f in cc

-- ---------------------------------------------------------------- growing

-- the second list begins with the first
abbrev pub Grows : {A : Type 0} → List A → List A → Type 0
Grows {A} s t = (r : List A) × (t ≡ s ++ r)

module _ {A : Type 0} where
  pub grows-refl : (s : List A) → Grows s s
  grows-refl s = ([], sym (append-nil s))

  pub grows-snoc : (s : List A) (x : A) → Grows s (s ++ (x ∷ []))
  grows-snoc s x = (x ∷ [], refl)

  pub grows-trans : (s t u : List A) → Grows s t → Grows t u → Grows s u
  grows-trans s t u (r, e) (q, f) = (r ++ q, f ∙ ap (λ (l : List A). l ++ q) e ∙ append_assoc s r q)

  pub grows_at : (s t : List A) → Grows s t → (i : ℕ) (x : A) → get_elem? s i ≡ some x → get_elem? t i ≡ some x
  grows_at s t (r, e) i x h = rw e (at-append s r i x h)

  pub grows-get_or : (s t : List A) → Grows s t → (i : ℕ) (d : A) → i < length s → get_or t i d ≡ get_or s i d
  grows-get_or s t (r, e) i d h = rw e (get_or-append s r d i h)

  pub grows-length : (s t : List A) → Grows s t → length s ≤ length t
  grows-length s t (r, e) =
      let l : length t ≡ length s + length r = ap length e ∙ length-append s r in
      omega arith

-- ---------------------------------------------------------------- the first place that passes a test

module _ {A : Type 0} (p : A → Bool) where
  pub find_at : (k : ℕ) (xs : List A) (j : ℕ) → find_from p k xs ≡ some j → (i : ℕ) × (x : A) × (j ≡ k + i) × (get_elem? xs i ≡ some x) × T (p x)
  unfolding find_from
  find_at k [] j e = absurd (let z : ◌≡◌ {A = ℕ} 0 1 = cc in omega arith)
  find_at k (x ∷ xs) j e = by_first (p x) refl e (λ q. find_at (suc k) xs j q)
    where
      by_first : (b : Bool) → p x ≡ b → find_from p k (x ∷ xs) ≡ some j
          → (find_from p (suc k) xs ≡ some j → (i : ℕ) × (y : A) × (j ≡ suc k + i) × (get_elem? xs i ≡ some y) × T (p y))
          → (i : ℕ) × (y : A) × (j ≡ k + i) × (get_elem? (x ∷ xs) i ≡ some y) × T (p y)
      by_first true q e rest =
          let e' : some k ≡ some j = rw (q, find_from) at e in
          let f : k ≡ j = cc in
          (0, x, omega arith, refl, true→T q)
      by_first false q e rest =
          let (i, y, f, g, h) = rest (rw (q, find_from) at e) in
          (suc i, y, omega arith, g, h)

  pub find-append : (k : ℕ) (xs ys : List A) (j : ℕ) → find_from p k xs ≡ some j → find_from p k (xs ++ ys) ≡ some j
  unfolding find_from
  find-append k [] ys j e = absurd (let z : ◌≡◌ {A = ℕ} 0 1 = cc in omega arith)
  find-append k (x ∷ xs) ys j e = by_first (p x) refl e (λ q. find-append (suc k) xs ys j q)
    where
      by_first : (b : Bool) → p x ≡ b → find_from p k (x ∷ xs) ≡ some j → (find_from p (suc k) xs ≡ some j → find_from p (suc k) (xs ++ ys) ≡ some j)
          → find_from p k (x ∷ (xs ++ ys)) ≡ some j
      by_first true q e rest = rw (q, find_from) (rw (q, find_from) at e)
      by_first false q e rest = rw (q, find_from) (rest (rw (q, find_from) at e))

  -- a list in which none passes, and then one that does
  pub find-snoc : (k : ℕ) (xs : List A) (x : A) → find_from p k xs ≡ none → T (p x) → find_from p k (xs ++ (x ∷ [])) ≡ some (k + length xs)
  unfolding find_from
  find-snoc k [] x e h =
      let z : k + 0 ≡ k = omega arith in
      rw (T→true (p x) h, z)
  find-snoc k (y ∷ xs) x e h = by_first (p y) refl e (λ q. find-snoc (suc k) xs x q h)
    where
      by_first : (b : Bool) → p y ≡ b → find_from p k (y ∷ xs) ≡ none → (find_from p (suc k) xs ≡ none → find_from p (suc k) (xs ++ (x ∷ [])) ≡ some (suc k + length xs))
          → find_from p k (y ∷ (xs ++ (x ∷ []))) ≡ some (k + suc (length xs))
      by_first true q e rest =
          let e' : some k ≡ none = rw (q, find_from) at e in
          absurd (let z : ◌≡◌ {A = ℕ} 0 1 = cc in omega arith)
      by_first false q e rest =
          let z : suc k + length xs ≡ k + suc (length xs) = omega arith in
          rw (q, find_from) (rest (rw (q, find_from) at e) ∙ ap (λ (n : ℕ). some n) z)

  -- if some element passes, one is found
  pub find-some : (k : ℕ) (xs : List A) (i : ℕ) (x : A) → get_elem? xs i ≡ some x → T (p x) → (j : ℕ) × (find_from p k xs ≡ some j)
  unfolding find_from
  find-some k [] i x e h = absurd (let z : ◌≡◌ {A = ℕ} 0 1 = cc in omega arith)
  find-some k (y ∷ xs) zero x e h =
      let f : y ≡ x = cc in
      (k, rw (T→true (p y) (rw f h), find_from))
  find-some k (y ∷ xs) (suc i) x e h = by_first (p y) refl (find-some (suc k) xs i x e h)
    where
      by_first : (b : Bool) → p y ≡ b → (j : ℕ) × (find_from p (suc k) xs ≡ some j) → (j : ℕ) × (find_from p k (y ∷ xs) ≡ some j)
      by_first true q rest = (k, rw (q, find_from))
      by_first false q (j, r) = (j, rw (q, find_from) r)

  -- the element found is the one at the place found
  pub find-place : (d : A) (k : ℕ) (xs : List A) (i : ℕ) → find_from p k xs ≡ some (k + i) → find p xs ≡ some (get_or xs i d)
  unfolding find_from find
  find-place d k [] i e = absurd (let z : ◌≡◌ {A = ℕ} 0 1 = cc in omega arith)
  find-place d k (x ∷ xs) i e = by_first (p x) refl e (λ j q. find-place d (suc k) xs j q)
    where
      by_first : (b : Bool) → p x ≡ b → find_from p k (x ∷ xs) ≡ some (k + i) → ((j : ℕ) → find_from p (suc k) xs ≡ some (suc k + j) → find p xs ≡ some (get_or xs j d))
          → find p (x ∷ xs) ≡ some (get_or (x ∷ xs) i d)
      by_first true q e rest =
          let e' : some k ≡ some (k + i) = rw (q, find_from) at e in
          let f : k ≡ k + i = cc in
          let z : i ≡ 0 = omega arith in
          rw (q, find, z)
      by_first false q e rest = rw (q, find) (later i (rw (q, find_from) at e))
        where
          later : (i : ℕ) → find_from p (suc k) xs ≡ some (k + i) → find p xs ≡ some (get_or (x ∷ xs) i d)
          later zero e = absurd (let (l, m) = find-bound p (suc k) xs (k + 0) e in omega arith)
          later (suc i) e =
              let z : k + suc i ≡ suc k + i = omega arith in
              rest i (rw z at e)
