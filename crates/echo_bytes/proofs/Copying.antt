-- A loop that stores a list's first k elements into a buffer, one a turn. Assumes nothing.
use Prim.Native.Nat.{ℕ, suc, ◌+◌, ◌-◌, ◌<◌, ◌≤◌, min}
use mathlib.Core.Path.{◌≡◌, refl, sym, ap, ◌∙◌}
use mathlib.Core.List.{List, [], ◌∷◌, ◌++◌}
use native.Mathlib.Numerals.{add-one}
use native.Mathlib.Omega.{arith}
use lib.ListN.{length, get_or, set, take, drop, length-set}
use lib.Seq.{paste, paste-zero, paste-suc, set_split, append_snoc}
use borrow.Rule.Slice.PartMut.{put_mid}
use Rattle.std.proofs.Common.{length-take-le, take-take}
use Rattle.std.proofs.lemmas.Slice.{put_mid-paste}
use Rattle.echo_bytes.specs.declared.Place.{Place}
use Rattle.echo_bytes.specs.Laws.{written_then}
use Rattle.echo_bytes.specs.Page.{page, saturated, written}

-- j of the k elements of s are stored into o from `at` on, which makes it out
pub record Copied (o : List ℕ) (at : ℕ) (s : List ℕ) (k j : ℕ) (out : List ℕ) : Type 0 where
  pub within : j ≤ k
  pub long : length out ≡ length o
  pub same : out ≡ paste o at s j

pub copied_none : (o : List ℕ) (at : ℕ) (s : List ℕ) (k : ℕ) → Copied o at s k 0 o
copied_none o at s k = record { within = omega arith; long = refl; same = paste-zero o at s }

pub copied_more : {o : List ℕ} {at : ℕ} {s : List ℕ} {k j : ℕ} {out : List ℕ} (v : ℕ) → Copied o at s k j out → j < k → k ≤ length s
    → k ≤ length o - at → v ≡ get_or s j 0 → Copied o at s k (j + 1) (set out (at + j) v)
copied_more {o} {at} {s} {k} {j} {out} v c h l r e = record {
  within = omega arith;
  long = length-set out (at + j) v ∙ c.long;
  same = rw (c.same, e, add-one) (paste-suc o at s j 0 (omega arith) (omega arith));
}

pub copied_all : {o : List ℕ} {at : ℕ} {s : List ℕ} {k j : ℕ} {out : List ℕ} → Copied o at s k j out → k ≤ j → out ≡ paste o at s k
copied_all {o} {at} {s} {k} {j} c h =
    let e : j ≡ k = omega arith in
    c.same ∙ ap (λ (n : ℕ). paste o at s n) e

-- ---------------------------------------------------------------- what that is of a page

-- k bytes of the piece fit and are stored, and the place moves on by them and by the piece's n bytes
pub written-moved : (p : Place) (o bs l : List ℕ) (k n : ℕ) {q : Place} → k ≡ min (length bs) (length o - p.at) → n ≡ length bs
    → l ≡ paste o p.at bs k → q ≡ record { at = p.at + k; need = saturated p.need n } → page q l ≡ written (page p o) bs
unfolding written
written-moved p o bs l k n e f g q = rw (q, g, e, f) refl

-- past the end of the buffer
pub written_none : (p : Place) (o bs : List ℕ) (n : ℕ) {q : Place} → length o ≤ p.at → n ≡ length bs
    → q ≡ record { at = p.at + 0; need = saturated p.need n } → page q o ≡ written (page p o) bs
written_none p o bs n h f q = written-moved p o bs o 0 n (omega arith) f (paste-zero o p.at bs) q

pub written_byte : (p : Place) (o : List ℕ) (b : ℕ) {q : Place} → p.at < length o → q ≡ record { at = p.at + 1; need = saturated p.need 1 }
    → page q (set o p.at b) ≡ written (page p o) (b ∷ [])
written_byte p o b h q =
    written-moved p o (b ∷ []) (set o p.at b) 1 1 (omega arith) refl
    (rw add-one (set_split o p.at b h ∙ sym (append_snoc (take p.at o) b (drop (suc p.at) o)))) q

-- a part of the buffer from the place on is overwritten: `&mut out[at..e]`, which held e - at bytes and has ys now
pub over-part : (o bs ys : List ℕ) (at e k : ℕ) → e ≡ at + k → k ≤ length bs → ys ≡ take k bs → put_mid at (e - at) o ys ≡ paste o at bs k
over-part o bs ys at e k f h g =
    put_mid-paste at (e - at) o ys (take k bs) k g (omega arith) (sym (length-take-le k bs h))
    ∙ ap (λ (x : List ℕ). take at o ++ x ++ drop (at + k) o) (take-take k k bs (omega arith))

over-whole : (o bs ys : List ℕ) (at e k : ℕ) → e ≡ at + k → k ≡ length bs → ys ≡ bs → put_mid at (e - at) o ys ≡ paste o at bs k
over-whole o bs ys at e k f h g = put_mid-paste at (e - at) o ys bs k g (omega arith) h

-- a piece that fits
pub written-whole : (p : Place) (o bs ys : List ℕ) (e : ℕ) {q : Place} → e ≡ p.at + length bs → length bs ≤ length o - p.at → ys ≡ bs
    → q ≡ record { at = p.at + length bs; need = saturated p.need (length bs) } → page q (put_mid p.at (e - p.at) o ys) ≡ written (page p o) bs
written-whole p o bs ys e f h g q =
    written-moved p o bs _ (length bs) (length bs) (omega arith) refl (over-whole o bs ys p.at e (length bs) f refl g) q

-- ---------------------------------------------------------------- two bytes, and a word behind them

place-is : {a b m n : ℕ} → a ≡ b → m ≡ n → let x : Place = record { at = a; need = m } in let y : Place = record { at = b; need = n } in x ≡ y
place-is p q = λ i. record { at = p i; need = q i }

module _ (p : Place) (o w : List ℕ) (a b : ℕ) (room : length w + 2 ≤ length o - p.at) where
  led-long : length (set (set o p.at a) (p.at + 1) b) ≡ length o
  led-long = length-set (set o p.at a) (p.at + 1) b ∙ length-set o p.at a

  pub written-led : (ys : List ℕ) (e : ℕ) {q : Place} → e ≡ p.at + (length w + 2) → ys ≡ w
      → q ≡ record { at = p.at + (length w + 2); need = saturated p.need (length w + 2) }
      → page q (put_mid (p.at + 2) (e - (p.at + 2)) (set (set o p.at a) (p.at + 1) b) ys) ≡ written (page p o) (a ∷ b ∷ w)
  written-led ys e f g q =
      let x : Place = record { at = p.at + 1; need = saturated p.need 1 } in
      let y : Place = record { at = p.at + 2; need = saturated p.need 2 } in
      let s : length (set o p.at a) ≡ length o = length-set o p.at a in
      written_then (page p o) (a ∷ []) (b ∷ w) (written_byte p o a (omega arith) refl)
      (written_then (page x (set o p.at a)) (b ∷ []) w (written_byte x (set o p.at a) b (omega arith) (place-is (omega arith) (omega arith)))
      (written-whole y (set (set o p.at a) (p.at + 1) b) w ys e (omega arith) (omega (arith, led-long)) g (q ∙ place-is (omega arith) (omega arith))))
