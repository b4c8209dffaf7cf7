-- Operands that become side entries: one after the other, and by pairs with the last pair first. Assumes nothing.
use Prim.Native.Nat.{ℕ, zero, suc, ◌+◌, ◌*◌, ◌-◌, ◌/◌, ◌≤◌, ◌<◌}
use Rattle.std.specs.Prelude.{◌≡◌, refl, take, drop}
use Rattle.std.proofs.Math.Path.{ap, sym}
use Rattle.std.proofs.Common.{◌∙◌, subst, add-one, length-drop, length-take-le, take-suc, get_or-take, get_or-drop}
use mathlib.Core.List.{List, [], ◌∷◌, ◌++◌, map-append, append_assoc, append-nil}
use native.Mathlib.Omega.{arith}
use Rattle.std.proofs.Math.ListN.{length, get_or, set, length-append, get_or-map}
use Rattle.std.proofs.lemmas.List.{length-map}
use Rattle.readback.specs.Rebuild.{Pair, flat}
use Rattle.heap_laws.specs.Heap.{halves, pairs_back}
use Rattle.heap_laws.specs.Filled.{filled, filled_none, filled_more}

-- a side entry more
pub side-more : (side : List ℕ) {side' : List ℕ} (from : ℕ) (xs : List ℕ) → side' ≡ filled side from xs → (at v : ℕ) → at ≡ from + length xs → at < length side
    → set side' at v ≡ filled side from (xs ++ (v ∷ []))
side-more side from xs e at v z l = (λ i. set (e i) (z i) v) ∙ filled_more side from xs v (omega arith)

-- ---------------------------------------------------------------- one after the other

module _ (side stack : List ℕ) (from base count : ℕ) (low : from + count ≤ length side) (high : base + count ≤ length stack) where
  -- those copied so far
  abbrev copied : ℕ → List ℕ
  copied i = halves (take i (drop base stack))

  copied-long : (i : ℕ) → i ≤ count → length (copied i) ≡ i
  copied-long i l = length-map (take i (drop base stack)) (λ c. c / 2) ∙ length-take-le i (drop base stack) (omega (arith, length-drop base stack))

  pub copied_none : side ≡ filled side from (copied 0)
  copied_none = sym (filled_none side from)

  pub copied_more : (i : ℕ) {side' : List ℕ} → i < count → side' ≡ filled side from (copied i) → set side' (from + i) (get_or stack (base + i) 0 / 2) ≡ filled side from (copied (i + 1))
  copied_more i {side'} l e =
      let wait : List ℕ = drop base stack in
      let n : length (copied i) ≡ i = copied-long i (omega arith) in
      let v : get_or stack (base + i) 0 ≡ get_or wait i 0 = sym (get_or-drop base stack i 0) in
      let m : take (i + 1) wait ≡ take i wait ++ (get_or wait i 0 ∷ []) = ap (λ (k : ℕ). take k wait) (add-one i) ∙ take-suc wait i 0 (omega (arith, length-drop base stack)) in
      let more : copied (i + 1) ≡ copied i ++ (get_or wait i 0 / 2 ∷ []) = ap halves m ∙ map-append (λ c. c / 2) (take i wait) (get_or wait i 0 ∷ []) in
      ap (λ (k : ℕ). set side' (from + i) (k / 2)) v ∙ side-more side from (copied i) e (from + i) (get_or wait i 0 / 2) (omega arith) (omega arith)
      ∙ ap (filled side from) (sym more)

-- ---------------------------------------------------------------- by pairs

pub length_pairs : (n : ℕ) (l : List ℕ) → length (pairs_back n l) ≡ n
unfolding pairs_back
length_pairs zero l = refl
length_pairs (suc n) l = ap suc (length_pairs n l)

pub length-flat : (ps : List (Pair ℕ)) → length (flat ps) ≡ 2 * length ps
unfolding flat
length-flat [] = refl
length-flat (p ∷ ps) = let a = length-flat ps in omega arith

-- the pairs are of the first elements alone
pub pairs-same : (n : ℕ) (l m : List ℕ) → ((j : ℕ) → j < 2 * n → get_or l j 0 ≡ get_or m j 0) → pairs_back n l ≡ pairs_back n m
unfolding pairs_back
pairs-same zero l m f = refl
pairs-same (suc n) l m f =
    let a = f (2 * n) (omega arith) in
    let b = f (2 * n + 1) (omega arith) in
    let c = pairs-same n l m (λ j h. f j (omega arith)) in
    λ i. record { index = a i; value = b i } ∷ c i

-- the numbers at the front, of those that wait
pub halves-front : (k : ℕ) (l : List ℕ) (j : ℕ) → j < k → get_or (halves l) j 0 ≡ get_or (halves (take k l)) j 0
halves-front k l j h =
    get_or-map (λ c. c / 2) l j 0 ∙ ap (λ (c : ℕ). c / 2) (sym (get_or-take k l j 0 h)) ∙ sym (get_or-map (λ c. c / 2) (take k l) j 0)

-- all but m pairs are copied
pub record Pairing (side side' stack : List ℕ) (from base n m at : ℕ) : Type 0 where
  pub done : List ℕ
  pub side_is : side' ≡ filled side from done
  pub both : done ++ flat (pairs_back m (halves (drop base stack))) ≡ flat (pairs_back n (halves (drop base stack)))
  pub place : at ≡ from + length done

pub pairing-none : (side stack : List ℕ) (from base n : ℕ) → Pairing side side stack from base n (n - 0) (from + 2 * 0)
pairing-none side stack from base n =
    let z : n - 0 ≡ n = omega arith in
    record {
      done = [];
      side_is = sym (filled_none side from);
      both = ap (λ (m : ℕ). flat (pairs_back m (halves (drop base stack)))) z;
      place = omega arith;
    }

module _ (side stack : List ℕ) (from base n : ℕ) (low : from + 2 * n ≤ length side) where
  -- the last two operands of the first k + 1 pairs, behind what is copied
  pairing-more : (k m at : ℕ) {side' : List ℕ} → m ≡ suc k → at + 2 * m ≡ from + 2 * n → Pairing side side' stack from base n m at
      → Pairing side (set (set side' at (get_or stack (base + 2 * k) 0 / 2)) (at + 1) (get_or stack (base + 2 * k + 1) 0 / 2)) stack from base n k (at + 2)
  unfolding flat pairs_back
  pairing-more k m at {side'} z r w =
      let l : List ℕ = halves (drop base stack) in
      let d : List ℕ = w.done in
      let a : ℕ = get_or stack (base + 2 * k) 0 / 2 in
      let b : ℕ = get_or stack (base + 2 * k + 1) 0 / 2 in
      let p : at ≡ from + length d = w.place in
      let e₁ : set side' at a ≡ filled side from (d ++ (a ∷ [])) = side-more side from d w.side_is at a p (omega arith) in
      let n₁ : length (d ++ (a ∷ [])) ≡ length d + 1 = length-append d (a ∷ []) in
      let e₂ : set (set side' at a) (at + 1) b ≡ filled side from ((d ++ (a ∷ [])) ++ (b ∷ [])) =
      side-more side from (d ++ (a ∷ [])) e₁ (at + 1) b (omega arith) (omega arith) in
      let jb : base + 2 * k + 1 ≡ base + (2 * k + 1) = omega arith in
      let fa : a ≡ get_or l (2 * k) 0 = ap (λ (j : ℕ). j / 2) (sym (get_or-drop base stack (2 * k) 0)) ∙ sym (get_or-map (λ c. c / 2) (drop base stack) (2 * k) 0) in
      let fb : b ≡ get_or l (2 * k + 1) 0 =
      ap (λ (j : ℕ). j / 2) (ap (λ (j : ℕ). get_or stack j 0) jb ∙ sym (get_or-drop base stack (2 * k + 1) 0)) ∙ sym (get_or-map (λ c. c / 2) (drop base stack) (2 * k + 1) 0) in
      let rest : List ℕ = flat (pairs_back k l) in
      record {
        done = (d ++ (a ∷ [])) ++ (b ∷ []);
        side_is = e₂;
        both = append_assoc (d ++ (a ∷ [])) (b ∷ []) rest ∙ append_assoc d (a ∷ []) (b ∷ rest) ∙ (λ i. d ++ (fa i ∷ fb i ∷ rest))
            ∙ ap (λ (j : ℕ). d ++ flat (pairs_back j l)) (sym z) ∙ w.both;
        place = omega (arith, length-append (d ++ (a ∷ [])) (b ∷ []));
      }

  -- turn i copies the last pair of those left
  pub pairing-turn : (i : ℕ) {side' : List ℕ} → i < n → Pairing side side' stack from base n (n - i) (from + 2 * i)
      → Pairing side
      (set (set side' (from + 2 * i) (get_or stack (base + 2 * (n - 1 - i)) 0 / 2)) (from + 2 * i + 1) (get_or stack (base + 2 * (n - 1 - i) + 1) 0 / 2))
      stack from base n (n - (i + 1)) (from + 2 * (i + 1))
  pairing-turn i {side'} l w =
      let a : n - i ≡ suc (n - 1 - i) = omega arith in
      let b : n - 1 - i ≡ n - (i + 1) = omega arith in
      let c : from + 2 * i + 2 ≡ from + 2 * (i + 1) = omega arith in
      let new : List ℕ = set (set side' (from + 2 * i) (get_or stack (base + 2 * (n - 1 - i)) 0 / 2)) (from + 2 * i + 1) (get_or stack (base + 2 * (n - 1 - i) + 1) 0 / 2) in
      subst (Pairing side new stack from base n (n - (i + 1))) c
      (subst (λ (m : ℕ). Pairing side new stack from base n m (from + 2 * i + 2)) b (pairing-more (n - 1 - i) (n - i) (from + 2 * i) a (omega arith) w))

  pub pairing-all : {side' : List ℕ} (m at : ℕ) → m ≡ 0 → Pairing side side' stack from base n m at → side' ≡ filled side from (flat (pairs_back n (halves (drop base stack))))
  unfolding flat pairs_back
  pairing-all m at z w =
      let l : List ℕ = halves (drop base stack) in
      w.side_is ∙ ap (filled side from) (sym (append-nil w.done) ∙ ap (λ (j : ℕ). w.done ++ flat (pairs_back j l)) (sym z) ∙ w.both)
