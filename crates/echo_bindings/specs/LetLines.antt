-- The text of an assertion with `let` as it is written: what opens each binding, the root, what closes them.
use Prim.Native.Nat.{ℕ, zero, suc, ◌+◌, ◌-◌, ◌^◌, ◌≤◌, ◌<◌}
use Rattle.std.specs.Prelude.{◌≡◌, refl, Bool, cond, length}
use Rattle.std.proofs.Math.Path.{sym, ap}
use Rattle.std.proofs.Common.{◌∙◌}
use mathlib.Core.List.{List, [], ◌∷◌, ◌++◌, map, append_assoc, append-nil}
use Rattle.std.proofs.Math.Bool.{true, false}
use native.Mathlib.Omega.{arith}
use Rattle.std.proofs.Math.Numerals.{add-one}
use Rattle.lists.specs.Bytes.{bytes}
use Rattle.echo_spec.specs.Input.{Dag}
use Rattle.echo_spec.specs.Render.{quoted, term}
use Rattle.lets.specs.Lets.{let_name, named_of, rising, binding_of, let_text}
use Rattle.echo_bytes.specs.Page.{Page, written}
use Rattle.echo_bytes.specs.Laws.{written_then, written-nil, length-written}
use Rattle.echo_walk.specs.Texts as texts

-- ` (let ((|d2| T))`, over the texts of the bound nodes
unfoldable pub open_text : (ℕ → List ℕ) → ℕ → List ℕ
open_text g i = (bytes " (let ((" ++ texts.named i) ++ ((32 ∷ g i) ++ bytes "))")

-- the pieces of the m numbers from a on, one after the other
unfoldable pub pieces_from : (ℕ → List ℕ) → ℕ → ℕ → List ℕ
pieces_from f a zero = []
pieces_from f a (suc m) = f a ++ pieces_from f (suc a) m

-- what opens the binding of node i if it is bound, and a bracket that closes it
abbrev pub opening : (ℕ → List ℕ) → (ℕ → Bool) → ℕ → List ℕ
opening g bound i = cond (bound i) (open_text g i) []

abbrev pub closing : (ℕ → Bool) → ℕ → List ℕ
closing bound i = cond (bound i) (41 ∷ []) []

abbrev pub opens_from : (ℕ → List ℕ) → (ℕ → Bool) → ℕ → ℕ → List ℕ
opens_from g bound = pieces_from (opening g bound)

abbrev pub closes_from : (ℕ → Bool) → ℕ → ℕ → List ℕ
closes_from bound = pieces_from (closing bound)

-- the pieces of the first i of n numbers are written
pub record SoFar (f : ℕ → List ℕ) (n : ℕ) (p : Page) (i : ℕ) (q : Page) : Type 0 where
  pub text : List ℕ
  pub rest : pieces_from f 0 n ≡ text ++ pieces_from f i (n - i)
  pub stands : q ≡ written p text
  pub counted : i ≤ n

-- ---------------------------------------------------------------- laws

closes-last : (bound : ℕ → Bool) (a m : ℕ) → closes_from bound a m ++ (41 ∷ []) ≡ 41 ∷ closes_from bound a m
unfolding pieces_from
closes-last bound a zero = refl
closes-last bound a (suc m) = by-bound (bound a) (closes-last bound (suc a) m)
  where
    by-bound : (b : Bool) → closes_from bound (suc a) m ++ (41 ∷ []) ≡ 41 ∷ closes_from bound (suc a) m
        → (cond b (41 ∷ []) [] ++ closes_from bound (suc a) m) ++ (41 ∷ []) ≡ 41 ∷ (cond b (41 ∷ []) [] ++ closes_from bound (suc a) m)
    by-bound true e = ap (λ (l : List ℕ). 41 ∷ l) e
    by-bound false e = e

opened : (T L : List ℕ) (a : ℕ)
    → 32 ∷ (bytes "(let ((" ++ (quoted (let_name a) ++ (bytes " " ++ (T ++ (bytes "))" ++ (L ++ bytes ")"))))))
    ≡ ((bytes " (let ((" ++ texts.named a) ++ ((32 ∷ T) ++ bytes "))")) ++ (L ++ (41 ∷ []))
unfolding bytes quoted let_name texts.named
opened T L a = simp append_assoc

rest : (X O S C : List ℕ) → C ++ (41 ∷ []) ≡ 41 ∷ C → X ++ ((O ++ (S ++ C)) ++ (41 ∷ [])) ≡ (X ++ O) ++ (S ++ (41 ∷ C))
rest X O S C q = rw (append_assoc O (S ++ C) (41 ∷ []), append_assoc S C (41 ∷ []), q) (sym (append_assoc X O (S ++ (41 ∷ C))))

opened-line : (d : Dag) (ws bits : List ℕ) (bound : ℕ → Bool) (body : List ℕ) (a m : ℕ)
    → 32 ∷ let_text (map (binding_of d ws bits bound) (rising bound (suc a) m)) body ≡ opens_from (λ i. term (named_of d ws bits bound i)) bound (suc a) m ++ ((32 ∷ body) ++ closes_from bound (suc a) m)
    → 32 ∷ let_text (binding_of d ws bits bound a ∷ map (binding_of d ws bits bound) (rising bound (suc a) m)) body
    ≡ (open_text (λ i. term (named_of d ws bits bound i)) a ++ opens_from (λ i. term (named_of d ws bits bound i)) bound (suc a) m) ++ ((32 ∷ body) ++ (41 ∷ closes_from bound (suc a) m))
unfolding let_text binding_of open_text bytes
opened-line d ws bits bound body a m e =
    let T : List ℕ = term (named_of d ws bits bound a) in
    let L : List ℕ = let_text (map (binding_of d ws bits bound) (rising bound (suc a) m)) body in
    let O : List ℕ = opens_from (λ i. term (named_of d ws bits bound i)) bound (suc a) m in
    let C : List ℕ = closes_from bound (suc a) m in
    opened T (32 ∷ L) a
    ∙ ap (λ (x : List ℕ). ((bytes " (let ((" ++ texts.named a) ++ ((32 ∷ T) ++ bytes "))")) ++ (x ++ (41 ∷ []))) e
    ∙ rest ((bytes " (let ((" ++ texts.named a) ++ ((32 ∷ T) ++ bytes "))")) O (32 ∷ body) C (closes-last bound (suc a) m)

module _ (d : Dag) (ws bits : List ℕ) (bound : ℕ → Bool) where
  pub let-lines : (body : List ℕ) (a m : ℕ) → 32 ∷ let_text (map (binding_of d ws bits bound) (rising bound a m)) body ≡ opens_from (λ i. term (named_of d ws bits bound i)) bound a m ++ ((32 ∷ body) ++ closes_from bound a m)
  unfolding let_text rising pieces_from
  let-lines body a zero = ap (λ (l : List ℕ). 32 ∷ l) (sym (append-nil body))
  let-lines body a (suc m) = by-bound (bound a) (let-lines body (suc a) m)
    where
      by-bound : (b : Bool) → 32 ∷ let_text (map (binding_of d ws bits bound) (rising bound (suc a) m)) body ≡ opens_from (λ i. term (named_of d ws bits bound i)) bound (suc a) m ++ ((32 ∷ body) ++ closes_from bound (suc a) m)
          → 32 ∷ let_text (map (binding_of d ws bits bound) (cond b (a ∷ rising bound (suc a) m) (rising bound (suc a) m))) body
          ≡ (cond b (open_text (λ i. term (named_of d ws bits bound i)) a) [] ++ opens_from (λ i. term (named_of d ws bits bound i)) bound (suc a) m) ++ ((32 ∷ body) ++ (cond b (41 ∷ []) [] ++ closes_from bound (suc a) m))
      by-bound false e = e
      by-bound true e = opened-line d ws bits bound body a m e

-- ---------------------------------------------------------------- piece after piece

module _ (f : ℕ → List ℕ) (n : ℕ) where
  pub none_yet : (p : Page) → p.place.need < 2 ^ 64 → SoFar f n p 0 p
  none_yet p h = record { text = []; rest = let z : n - 0 ≡ n = omega arith in rw z refl; stands = sym (written-nil p h); counted = omega arith }

module _ {f : ℕ → List ℕ} {n : ℕ} {p q : Page} {i : ℕ} (h : SoFar f n p i q) where
  pub same_size : length q.bytes ≡ length p.bytes
  same_size = ap (λ (z : Page). length z.bytes) h.stands ∙ length-written p h.text

  pub one_more : i < n → {r : Page} → r ≡ written q (f i) → SoFar f n p (i + 1) r
  unfolding pieces_from
  one_more l e = record {
    text = h.text ++ f i;
    rest =
        let z : n - i ≡ suc (n - (i + 1)) = omega arith in
        h.rest ∙ ap (λ (m : ℕ). h.text ++ pieces_from f i m) z ∙ sym (append_assoc h.text (f i) (pieces_from f (suc i) (n - (i + 1)))) ∙ rw add-one refl;
    stands = written_then p h.text (f i) h.stands e;
    counted = omega arith;
  }

  -- where the next piece is nothing
  pub none_more : i < n → f i ≡ [] → SoFar f n p (i + 1) q
  unfolding pieces_from
  none_more l e = record {
    text = h.text;
    rest =
        let z : n - i ≡ suc (n - (i + 1)) = omega arith in
        h.rest ∙ ap (λ (m : ℕ). h.text ++ pieces_from f i m) z ∙ rw (e, add-one) refl;
    stands = h.stands;
    counted = omega arith;
  }

  pub all-pieces : n ≤ i → q ≡ written p (pieces_from f 0 n)
  unfolding pieces_from
  all-pieces l =
      let z : n - i ≡ 0 = omega arith in
      h.stands ∙ ap (written p) (sym (h.rest ∙ ap (λ (m : ℕ). h.text ++ pieces_from f i m) z ∙ append-nil h.text))
