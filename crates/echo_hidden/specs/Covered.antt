-- A script whose constants are covered: what stands between bars is a name, and outside of names `#` begins a constant.
use Rattle.std.specs.Prelude.{ℕ, suc, ◌+◌, ◌≤◌, ◌<◌, ◌≡◌, List, [], ◌∷◌, ◌++◌, cond, ◌≢◌, leb, eqb, length, get_or, take, drop, set}
use Rattle.std.proofs.Math.Path.{refl, ap}
use Rattle.std.proofs.Common.{sym, ◌∙◌, append_assoc, append-nil, add-one, arith, drop-cons, take-suc-set, drop-set-lt, take_all}
use borrow.Author.Tests.{ne_eqb, le-leb, lt-leb}
use Rattle.std.proofs.lemmas.List.{set-get_or}
use Rattle.std.proofs.Math.Seq.{drop-nil}

-- where a byte stands
pub data Where : Type 0 where
  outside inName inConstant : Where

-- the byte that is left there: a digit of a constant is 0
unfoldable pub shown : Where → ℕ → ℕ
shown outside b = b
shown inName b = b
shown inConstant b = cond (eqb b 49) 48 b

-- where the next byte stands: a name ends with its second bar, and a constant before the blank or the bracket behind it
unfoldable pub after : Where → ℕ → Where
after outside b = cond (eqb b 124) inName (cond (eqb b 35) inConstant outside)
after inName b = cond (eqb b 124) outside inName
after inConstant b = cond (leb 48 b) inConstant outside

unfoldable pub covered : Where → List ℕ → List ℕ
covered w [] = []
covered w (b ∷ bs) = shown w b ∷ covered (after w b) bs

pub covered-length : (w : Where) (bs : List ℕ) → length (covered w bs) ≡ length bs
unfolding covered
covered-length w [] = refl
covered-length w (b ∷ bs) = ap suc (covered-length (after w b) bs)

-- ---------------------------------------------------------------- byte by byte

-- a list of which the bytes from i on, where they stand so, are still to be covered
unfoldable pub from : Where → ℕ → List ℕ → List ℕ
from w i l = take i l ++ covered w (drop i l)

pub from_start : (w : Where) (l : List ℕ) → from w 0 l ≡ covered w l
unfolding from
from_start w l = refl

-- one byte further
pub from_next : (w : Where) (l : List ℕ) (i : ℕ) → i < length l → from (after w (get_or l i 0)) (i + 1) (set l i (shown w (get_or l i 0))) ≡ from w i l
unfolding from covered
from_next w l i h =
    let b : ℕ = get_or l i 0 in
    rw (add-one i, take-suc-set l i (shown w b) h, drop-set-lt (suc i) l i (shown w b) (omega arith), drop-cons l i 0 h, append_assoc) refl

-- past a byte that stays as it is
pub from-kept : (w : Where) (l : List ℕ) (i : ℕ) → i < length l → shown w (get_or l i 0) ≡ get_or l i 0 → from (after w (get_or l i 0)) (i + 1) l ≡ from w i l
from-kept w l i h e =
    let s : set l i (shown w (get_or l i 0)) ≡ l = ap (set l i) e ∙ set-get_or l i 0 in
    ap (from (after w (get_or l i 0)) (i + 1)) (sym s) ∙ from_next w l i h

-- nothing is left
pub from_end : (w : Where) (l : List ℕ) (i : ℕ) → length l ≤ i → from w i l ≡ l
unfolding from covered
from_end w l i h = rw (take_all i l h, drop_past l i h) (append-nil l)
  where
    drop_past : (l : List ℕ) (i : ℕ) → length l ≤ i → drop i l ≡ []
    drop_past [] i h = drop-nil i
    drop_past (b ∷ l) ℕ.zero h = absurd (omega arith)
    drop_past (b ∷ l) (suc i) h = drop_past l i (omega arith)

-- ---------------------------------------------------------------- by the byte that stands there

module _ (l : List ℕ) (i : ℕ) (h : i < length l) where
  abbrev here : ℕ
  here = get_or l i 0

  pub name-ends : here ≡ 124 → from outside (i + 1) l ≡ from inName i l
  unfolding after shown
  name-ends e =
      let a : after inName here ≡ outside = ap (after inName) e in
      ap (λ (w : Where). from w (i + 1) l) (sym a) ∙ from-kept inName l i h refl

  pub name-goes-on : here ≢ 124 → from inName (i + 1) l ≡ from inName i l
  unfolding after shown
  name-goes-on e =
      let a : after inName here ≡ inName = rw (ne_eqb here 124 e) refl in
      ap (λ (w : Where). from w (i + 1) l) (sym a) ∙ from-kept inName l i h refl

  pub constant-ends : here < 48 → from outside (i + 1) l ≡ from inConstant i l
  unfolding after shown
  constant-ends e =
      let a : after inConstant here ≡ outside = rw (lt-leb 48 here e) refl in
      let s : shown inConstant here ≡ here = rw (ne_eqb here 49 (λ z. omega arith)) refl in
      ap (λ (w : Where). from w (i + 1) l) (sym a) ∙ from-kept inConstant l i h s

  pub constant-goes-on : 48 ≤ here → {c : ℕ} → c ≡ shown inConstant here → from inConstant (i + 1) (set l i c) ≡ from inConstant i l
  unfolding after
  constant-goes-on e {c} f =
      let a : after inConstant here ≡ inConstant = rw (le-leb 48 here e) refl in
      ap (λ (w : Where). from w (i + 1) (set l i c)) (sym a) ∙ ap (λ (b : ℕ). from (after inConstant here) (i + 1) (set l i b)) f ∙ from_next inConstant l i h

  pub name-begins : here ≡ 124 → from inName (i + 1) l ≡ from outside i l
  unfolding after shown
  name-begins e =
      let a : after outside here ≡ inName = ap (after outside) e in
      ap (λ (w : Where). from w (i + 1) l) (sym a) ∙ from-kept outside l i h refl

  pub constant-begins : here ≡ 35 → from inConstant (i + 1) l ≡ from outside i l
  unfolding after shown
  constant-begins e =
      let a : after outside here ≡ inConstant = ap (after outside) e in
      ap (λ (w : Where). from w (i + 1) l) (sym a) ∙ from-kept outside l i h refl

  pub outside-goes-on : here ≢ 124 → here ≢ 35 → from outside (i + 1) l ≡ from outside i l
  unfolding after shown
  outside-goes-on e f =
      let a : after outside here ≡ outside = rw (ne_eqb here 124 e, ne_eqb here 35 f) refl in
      ap (λ (w : Where). from w (i + 1) l) (sym a) ∙ from-kept outside l i h refl

-- ---------------------------------------------------------------- so far

-- from place i of a list, where bytes stand so, the covering came to place k, where they stand so
pub record Came (w : Where) (i : ℕ) (l : List ℕ) (v : Where) (k : ℕ) (m : List ℕ) : Type 0 where
  pub left : from v k m ≡ from w i l
  pub onward : i ≤ k
  pub inside : k ≤ length m
  pub size : length m ≡ length l

pub came-start : (w : Where) (i : ℕ) (l : List ℕ) → i ≤ length l → Came w i l w i l
came-start w i l h = record { left = refl; onward = omega arith; inside = h; size = refl }

module _ {w : Where} {i : ℕ} {l : List ℕ} {v : Where} {k : ℕ} {m : List ℕ} (h : Came w i l v k m) where
  -- one byte further
  pub came-next : {u : Where} {n : List ℕ} → k < length m → length n ≡ length m → from u (k + 1) n ≡ from v k m → Came w i l u (k + 1) n
  came-next {u} {n} b s e = record { left = e ∙ h.left; onward = omega (arith, h.onward); inside = omega arith; size = s ∙ h.size }

  -- some way further
  pub came-further : {u : Where} {j : ℕ} {n : List ℕ} → Came v k m u j n → Came w i l u j n
  came-further g = record { left = g.left ∙ h.left; onward = omega (arith, h.onward, g.onward); inside = g.inside; size = g.size ∙ h.size }

  -- at the end of the list it makes no difference how bytes would stand
  pub came-end : (u : Where) → length m ≤ k → Came w i l u k m
  came-end u b = record { left = from_end u m k b ∙ sym (from_end v m k b) ∙ h.left; onward = h.onward; inside = h.inside; size = h.size }

  pub came-through : length m ≤ k → m ≡ from w i l
  came-through b = sym (from_end v m k b) ∙ h.left
