-- A loop that tests each element in turn: the whole list passes where what is left of it does.
use Rattle.std.specs.Prelude.{ℕ, ◌+◌, ◌≤◌, ◌<◌, ◌≡◌, refl, List, Bool, true, false, ◌&&◌, length, drop, get_or}
use Rattle.std.proofs.Common.{sym, ap, ◌∙◌, add-one, drop_of_length-le, drop-cons}
use Rattle.std.proofs.Math.Bool.{and-false}
use Rattle.lists.specs.Tests.{every, and-true}

-- the loop's invariant at place i
pub record Left {A : Type 0} (p : A → Bool) (s : List A) (i : ℕ) : Type 0 where
  pub rest : every p s ≡ every p (drop i s)

pub left-start : {A : Type 0} (p : A → Bool) (s : List A) → Left p s 0
left-start p s = record { rest = refl }

module _ {A : Type 0} (p : A → Bool) {s : List A} {i : ℕ} (d : A) (h : Left p s i) where
  pub left-next : i < length s → p (get_or s i d) ≡ true → Left p s (i + 1)
  left-next l e = record { rest = h.rest ∙ rw (drop-cons s i d l, e, add-one) refl }

  pub left-fails : i < length s → p (get_or s i d) ≡ false → every p s ≡ false
  left-fails l e = h.rest ∙ rw (drop-cons s i d l, e) refl

  pub left-ends : length s ≤ i → every p s ≡ true
  left-ends l = h.rest ∙ rw (drop_of_length-le s l) refl

-- ---------------------------------------------------------------- a loop that looks at every element

-- so far is `ok`, and what is left decides the rest
pub record Seen {A : Type 0} (p : A → Bool) (s : List A) (ok : Bool) (i : ℕ) : Type 0 where
  pub rest : (ok && every p (drop i s)) ≡ every p s

pub seen_start : {A : Type 0} (p : A → Bool) (s : List A) → Seen p s true 0
seen_start p s = record { rest = refl }

module _ {A : Type 0} (p : A → Bool) {s : List A} {ok : Bool} {i : ℕ} (d : A) (h : Seen p s ok i) where
  pub seen-pass : i < length s → p (get_or s i d) ≡ true → Seen p s ok (i + 1)
  seen-pass l e =
      let q : every p (drop i s) ≡ every p (drop (i + 1) s) = rw (drop-cons s i d l, e, add-one) refl in
      record { rest = ap (λ (b : Bool). ok && b) (sym q) ∙ h.rest }

  pub seen-fail : i < length s → p (get_or s i d) ≡ false → Seen p s false (i + 1)
  seen-fail l e =
      let q : every p (drop i s) ≡ false = rw (drop-cons s i d l, e) refl in
      record { rest = sym (and-false ok) ∙ ap (λ (b : Bool). ok && b) (sym q) ∙ h.rest }

  pub seen-ends : length s ≤ i → ok ≡ every p s
  seen-ends l =
      let q : every p (drop i s) ≡ true = rw (drop_of_length-le s l) refl in
      sym (and-true ok) ∙ ap (λ (b : Bool). ok && b) (sym q) ∙ h.rest
