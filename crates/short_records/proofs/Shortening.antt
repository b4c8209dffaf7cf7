-- The loops over the records of an old form, one record a turn. Assumes nothing.
use Prim.Native.Nat.{ℕ, suc, ◌+◌, ◌*◌, ◌-◌, ◌≤◌, ◌<◌}
use mathlib.Core.Path.{◌≡◌, refl, ap, sym, ◌∙◌}
use mathlib.Core.List.{List, [], ◌++◌, append_assoc, append-nil}
use native.Mathlib.Omega.{arith}
use lib.ListN.{length, take, drop, get_or, length-append, length-drop}
use lib.Seq.{paste, length-paste, length-take-le, drop-drop, get_or-drop, take_at, drop-append-add}
use borrow.Rule.Slice.PartMut.{put_mid}
use Rattle.echo_spec.specs.Answers.{at_front}
use Rattle.echo_bytes.proofs.Copying.{over-part}
use Rattle.short_records.specs.Short.{short_size, short_form}
use Rattle.short_records.specs.RecordLaws.{operand-bytes}

-- what is to come after i of n records
abbrev pub coming : List ℕ → ℕ → ℕ → List ℕ
coming s n i = short_form (n - i) (drop (17 * i) s)

-- `done` is the new form of the first i of n records, and has `at` bytes
pub record Begun (s : List ℕ) (n i at : ℕ) : Type 0 where
  pub within : i ≤ n
  pub done : List ℕ
  pub size : length done ≡ at
  pub both : done ++ coming s n i ≡ short_form n s

pub begun-none : (s : List ℕ) (n : ℕ) → Begun s n 0 0
begun-none s n =
    let e : n - 0 ≡ n = omega arith in
    record { within = omega arith; done = []; size = refl; both = rw e refl }

coming-next : (s : List ℕ) (n i : ℕ) → i < n → coming s n i ≡ take (short_size (get_or s (17 * i) 0)) (drop (17 * i) s) ++ coming s n (i + 1)
unfolding short_form
coming-next s n i l =
    let e : n - i ≡ suc (n - (i + 1)) = omega arith in
    let f : 17 * i + 17 ≡ 17 * (i + 1) = omega arith in
    let g : 17 * i + 0 ≡ 17 * i = omega arith in
    rw (e, short_form, drop-drop 17 (17 * i) s, f, get_or-drop (17 * i) s 0 0, g) refl

module _ {s : List ℕ} {n i at : ℕ} (h : Begun s n i at) where
  module _ (l : i < n) (m : 17 * n ≤ length s) (z : ℕ) (e : z ≡ short_size (get_or s (17 * i) 0)) where
    -- the record lies within the bytes
    pub within-bytes : z ≤ length s - 17 * i
    within-bytes = omega (arith, operand-bytes (get_or s (17 * i) 0))

    pub begun_more : Begun s n (i + 1) (at + z)
    begun_more =
        let x : List ℕ = take z (drop (17 * i) s) in
        let k : length x ≡ z = length-take-le z (drop (17 * i) s) (omega (arith, within-bytes, length-drop (17 * i) s)) in
        let c : coming s n i ≡ x ++ coming s n (i + 1) = coming-next s n i l ∙ ap (λ (y : ℕ). take y (drop (17 * i) s) ++ coming s n (i + 1)) (sym e) in
        record {
          within = omega arith;
          done = h.done ++ x;
          size = omega (arith, length-append h.done x, h.size);
          both = append_assoc h.done x (coming s n (i + 1)) ∙ ap (λ (y : List ℕ). h.done ++ y) (sym c) ∙ h.both;
        }

    -- and within the new form
    pub within-form : at + z ≤ length (short_form n s)
    within-form =
        let g = begun_more in
        let b : length (g.done ++ coming s n (i + 1)) ≡ length (short_form n s) = ap length g.both in
        omega (arith, length-append g.done (coming s n (i + 1)), g.size, b)

  pub begun_all : n ≤ i → h.done ≡ short_form n s
  unfolding short_form
  begun_all l =
      let e : n - i ≡ 0 = omega arith in
      let f : coming s n i ≡ [] = rw e refl in
      sym (append-nil h.done) ∙ ap (λ (y : List ℕ). h.done ++ y) (sym f) ∙ h.both

  -- so that a count of the bytes is the length of the form
  pub counted-all : n ≤ i → at ≡ length (short_form n s)
  counted-all l = sym h.size ∙ ap length (begun_all l)

-- ---------------------------------------------------------------- what is written

-- a piece behind what is written already
pub written_next : (done lent out : List ℕ) (at z : ℕ) (w : List ℕ) → length done ≡ at → out ≡ done ++ drop at lent
    → paste out at w z ≡ (done ++ take z w) ++ drop (at + z) lent
written_next done lent out at z w e f =
    rw (f, take_at done (drop at lent) at e) (ap (λ (y : List ℕ). (done ++ take z w) ++ y) rest)
  where
    rest : drop (at + z) (done ++ drop at lent) ≡ drop (at + z) lent
    rest = rw (← e) (drop-append-add done (drop (length done) lent) z ∙ drop-drop z (length done) lent)

pub record Writing (s lent out : List ℕ) (n i at : ℕ) : Type 0 where
  pub begun : Begun s n i at
  pub long : length out ≡ length lent
  pub now : out ≡ begun.done ++ drop at lent

pub writing-none : (s lent : List ℕ) (n : ℕ) → Writing s lent lent n 0 0
unfolding begun-none
writing-none s lent n = record { begun = begun-none s n; long = refl; now = refl }

-- bytes of s from `from` on are copied to a part of the buffer, as slices have the two
pub part-copied : (s out ys : List ℕ) (at from z : ℕ) → z ≤ length s - from → ys ≡ take (from + z - from) (drop from s)
    → put_mid at (at + z - at) out ys ≡ paste out at (drop from s) z
part-copied s out ys at from z h e =
    let f : from + z - from ≡ z = omega arith in
    over-part out (drop from s) ys at (at + z) z refl (omega (arith, length-drop from s)) (rw f at e)

module _ {s lent out : List ℕ} {n i at : ℕ} (h : Writing s lent out n i at) where
  module _ (l : i < n) (m : 17 * n ≤ length s) (room : length (short_form n s) ≤ length lent) (z : ℕ) (e : z ≡ short_size (get_or s (17 * i) 0)) where
    pub copy-fits : at + z ≤ length out
    copy-fits = omega (arith, within-form h.begun l m z e, h.long)

    pub writing_more : {ys : List ℕ} → ys ≡ take (17 * i + z - 17 * i) (drop (17 * i) s) → Writing s lent (put_mid at (at + z - at) out ys) n (i + 1) (at + z)
    unfolding begun_more
    writing_more {ys} p =
        let q : put_mid at (at + z - at) out ys ≡ paste out at (drop (17 * i) s) z = part-copied s out ys at (17 * i) z (within-bytes h.begun l m z e) p in
        let b : z ≤ length (drop (17 * i) s) = omega (arith, within-bytes h.begun l m z e, length-drop (17 * i) s) in
        record {
          begun = begun_more h.begun l m z e;
          long = ap length q ∙ length-paste out at (drop (17 * i) s) z copy-fits b ∙ h.long;
          now = q ∙ written_next h.begun.done lent out at z (drop (17 * i) s) h.begun.size h.now;
        }

  pub writing-all : n ≤ i → out ≡ at_front (short_form n s) lent
  writing-all l = h.now ∙ rw (begun_all h.begun l, counted-all h.begun l) refl
