-- The loops over the records of a new form, one record a turn. Assumes nothing.
use Prim.Native.Nat.{ℕ, zero, suc, ◌+◌, ◌*◌, ◌-◌, ◌≤◌, ◌<◌}
use mathlib.Core.Path.{◌≡◌, refl, ap, sym, ◌∙◌}
use mathlib.Core.List.{List, [], ◌∷◌, ◌++◌, append_assoc, append-nil}
use mathlib.Core.Bool.{Bool, true, false, and-false}
use native.Mathlib.Omega.{arith}
use borrow.Author.Tests.{lt-ltb, le-ltb, le-leb, lt-leb}
use lib.Dec.{ltb, leb→le}
use lib.ListN.{length, take, drop, get_or, replicate, length-append, length-drop, length-replicate, drop_of_length-le}
use lib.Seq.{paste, length-paste, length-take-le, drop-drop, drop-cons}
use borrow.Rule.Slice.PartMut.{put_mid}
use Rattle.std.proofs.lemmas.Slice.{put_mid-paste}
use Rattle.lists.specs.Tests.{and-1, true→T}
use Rattle.echo_spec.specs.Answers.{at_front}
use Rattle.short_records.specs.Short.{operand_bytes, short_size, whole, short_refusal, filled, long_form}
use Rattle.short_records.specs.RecordLaws.{operand-bytes}
use Rattle.short_records.proofs.Shortening.{written_next, part-copied}

-- n records are taken, up to the byte `from`, and at most `more` may follow; `done` is their old form
pub record Taken (s : List ℕ) (limit n from : ℕ) : Type 0 where
  pub more : ℕ
  pub together : more + n ≡ limit
  pub same : short_refusal limit s ≡ short_refusal more (drop from s)
  pub done : List ℕ
  pub size : length done ≡ 17 * n
  pub both : done ++ long_form more (drop from s) ≡ long_form limit s

pub taken_none : (s : List ℕ) (limit : ℕ) → Taken s limit 0 0
taken_none s limit = record { more = limit; together = omega arith; same = refl; done = []; size = refl; both = refl }

-- ---------------------------------------------------------------- one record at the front

front-whole : (k : ℕ) (s : List ℕ) → k < 39 → operand_bytes k ≤ length s → whole k s ≡ true
front-whole k s a b = rw (lt-ltb k 39 a, le-leb (operand_bytes k) (length s) b) refl

-- of the record at a place
pub whole_here : (s : List ℕ) (from z : ℕ) → from < length s → z ≡ short_size (get_or s from 0) → get_or s from 0 < 39 → z ≤ length s - from
    → whole (get_or s from 0) (drop (suc from) s) ≡ true
whole_here s from z l e a b = front-whole (get_or s from 0) (drop (suc from) s) a (omega (arith, length-drop (suc from) s))

-- bytes that pass, and do not end here, go on with a whole record
pub record Next (more k : ℕ) (s : List ℕ) : Type 0 where
  pub less : ℕ
  pub is : more ≡ suc less
  pub good : whole k s ≡ true

next-whole : (more k : ℕ) (s : List ℕ) → short_refusal more (k ∷ s) ≡ 0 → Next more k s
unfolding short_refusal
next-whole zero k s e = absurd (omega arith)
next-whole (suc more) k s e = by_whole (whole k s) refl e
  where
    by_whole : (b : Bool) → whole k s ≡ b → ◌≡◌ {A = ℕ} (elim b [ true ↦ short_refusal more (drop (operand_bytes k) s) | false ↦ 16 ]) 0 → Next (suc more) k s
    by_whole true w e = record { less = more; is = refl; good = w }
    by_whole false w e = absurd (omega arith)

whole-refusal : (more k : ℕ) (s : List ℕ) → whole k s ≡ true → short_refusal (suc more) (k ∷ s) ≡ short_refusal more (drop (operand_bytes k) s)
unfolding short_refusal
whole-refusal more k s w = rw (w, short_refusal) refl

broken-refusal : (more k : ℕ) (s : List ℕ) → whole k s ≡ false → short_refusal (suc more) (k ∷ s) ≡ 16
unfolding short_refusal
broken-refusal more k s w = rw (w, short_refusal) refl

-- ---------------------------------------------------------------- turns

module _ {s : List ℕ} {limit n from : ℕ} (h : Taken s limit n from) where
  module _ (l : from < length s) where
    -- the kind of the record that comes next, and the bytes behind it
    abbrev kind : ℕ
    kind = get_or s from 0

    abbrev behind : List ℕ
    behind = drop (suc from) s

    opened : drop from s ≡ kind ∷ behind
    opened = drop-cons s from 0 l

    refusal-here : short_refusal limit s ≡ short_refusal h.more (kind ∷ behind)
    refusal-here = h.same ∙ ap (short_refusal h.more) opened

    pub goes_on : limit ≤ n → short_refusal limit s ≡ 9
    unfolding short_refusal
    goes_on m =
        let e : h.more ≡ 0 = omega (arith, h.together) in
        refusal-here ∙ rw e refl

    module _ (few : n < limit) where
      abbrev less : ℕ
      less = h.more - 1

      more-is : h.more ≡ suc less
      more-is = omega (arith, h.together)

      refusal-next : short_refusal limit s ≡ short_refusal (suc less) (kind ∷ behind)
      refusal-next = refusal-here ∙ ap (λ (m : ℕ). short_refusal m (kind ∷ behind)) more-is

      pub kind-unknown : 39 ≤ kind → short_refusal limit s ≡ 16
      kind-unknown m = refusal-next ∙ broken-refusal less kind behind (rw (le-ltb kind 39 m) refl)

      pub record-cut : (z : ℕ) → z ≡ short_size kind → length s - from < z → short_refusal limit s ≡ 16
      record-cut z e m =
          let c : length behind < operand_bytes kind = omega (arith, length-drop (suc from) s) in
          refusal-next ∙ broken-refusal less kind behind (rw (lt-leb (operand_bytes kind) (length behind) c) (and-false (ltb kind 39)))

      module _ (z : ℕ) (e : z ≡ short_size kind) (w : whole kind behind ≡ true) where
        onward : drop (operand_bytes kind) behind ≡ drop (from + z) s
        onward =
            let f : suc from + operand_bytes kind ≡ from + z = omega arith in
            drop-drop (operand_bytes kind) (suc from) s ∙ ap (λ (m : ℕ). drop m s) f

        -- the bytes of the record, and what fills it up
        abbrev record_bytes : List ℕ
        record_bytes = take z (drop from s)

        front-is : kind ∷ take (operand_bytes kind) behind ≡ record_bytes
        front-is = rw (e, opened) refl

        within : operand_bytes kind ≤ length behind
        within = leb→le (operand_bytes kind) (length behind) (and-1 (ltb kind 39) _ (true→T w))

        pub record-within : z ≤ length s - from
        record-within = omega (arith, within, length-drop (suc from) s)

        record-size : length record_bytes ≡ z
        record-size = length-take-le z (drop from s) (omega (arith, record-within, length-drop from s))

        pub size_small : z ≤ 17
        size_small = omega (arith, operand-bytes kind)

        filled_is : filled record_bytes ≡ record_bytes ++ replicate (17 - z) 0
        filled_is = ap (λ (m : ℕ). record_bytes ++ replicate (17 - m) 0) record-size

        form-next : long_form h.more (drop from s) ≡ (record_bytes ++ replicate (17 - z) 0) ++ long_form less (drop (from + z) s)
        unfolding long_form
        form-next =
            (λ i. long_form (more-is i) (opened i))
            ∙ (λ i. filled (front-is i) ++ long_form less (onward i))
            ∙ ap (λ (y : List ℕ). y ++ long_form less (drop (from + z) s)) filled_is

        pub taken_more : Taken s limit (n + 1) (from + z)
        taken_more =
            let x : List ℕ = record_bytes ++ replicate (17 - z) 0 in
            let k : length x ≡ 17 = omega (arith, length-append record_bytes (replicate (17 - z) 0), length-replicate {A = ℕ} (17 - z) 0, record-size, size_small) in
            record {
              more = less;
              together = omega (arith, h.together);
              same = refusal-next ∙ whole-refusal less kind behind w ∙ ap (short_refusal less) onward;
              done = h.done ++ x;
              size = omega (arith, length-append h.done x, h.size);
              both = append_assoc h.done x (long_form less (drop (from + z) s)) ∙ ap (λ (y : List ℕ). h.done ++ y) (sym form-next) ∙ h.both;
            }

        -- the old form has it too
        pub form-within : 17 * n + 17 ≤ length (long_form limit s)
        form-within =
            let g = taken_more in
            let b : length (g.done ++ long_form g.more (drop (from + z) s)) ≡ length (long_form limit s) = ap length g.both in
            omega (arith, length-append g.done (long_form g.more (drop (from + z) s)), g.size, b)

    -- the record that comes next in bytes that pass
    pub next-good : short_refusal limit s ≡ 0 → (n < limit) × (whole kind behind ≡ true)
    next-good e =
        let g = next-whole h.more kind behind (sym refusal-here ∙ e) in
        (omega (arith, h.together, g.is), g.good)

  module _ (l : length s ≤ from) where
    all-taken : drop from s ≡ []
    all-taken = drop_of_length-le s l

    nothing : (m : ℕ) → (short_refusal m [] ≡ 0) × (long_form m [] ≡ [])
    unfolding short_refusal long_form
    nothing zero = (refl, refl)
    nothing (suc m) = (refl, refl)

    pub passes : short_refusal limit s ≡ 0
    passes = h.same ∙ ap (short_refusal h.more) all-taken ∙ (nothing h.more).0

    pub form-done : h.done ≡ long_form limit s
    form-done =
        sym (append-nil h.done) ∙ ap (λ (y : List ℕ). h.done ++ y) (sym (ap (long_form h.more) all-taken ∙ (nothing h.more).1)) ∙ h.both

    pub form-size : length (long_form limit s) ≡ 17 * n
    form-size = sym (ap length form-done) ∙ h.size

-- ---------------------------------------------------------------- what is written

take-zeros : (n m : ℕ) → n ≤ m → take n (replicate {A = ℕ} m 0) ≡ replicate n 0
take-zeros zero m h = refl
take-zeros (suc n) zero h = absurd (omega arith)
take-zeros (suc n) (suc m) h = ap (λ (l : List ℕ). 0 ∷ l) (take-zeros n m (omega arith))

-- a part of the buffer behind z bytes of a record is filled with zeros
zeros-filled : (mid ys : List ℕ) (at z : ℕ) → z ≤ 17 → at + 17 ≤ length mid
    → ys ≡ replicate (length (take (at + 17 - (at + z)) (drop (at + z) mid))) 0
    → put_mid (at + z) (at + 17 - (at + z)) mid ys ≡ paste mid (at + z) (replicate (17 - z) 0) (17 - z)
zeros-filled mid ys at z s h e =
    let f : at + 17 - (at + z) ≡ 17 - z = omega arith in
    let l : length (take (17 - z) (drop (at + z) mid)) ≡ 17 - z = length-take-le (17 - z) (drop (at + z) mid) (omega (arith, length-drop (at + z) mid)) in
    put_mid-paste (at + z) (at + 17 - (at + z)) mid ys (replicate (17 - z) 0) (17 - z) (rw (f, l) at e) (sym f) (sym (length-replicate (17 - z) 0))

-- the old form of n records is written, and they are those up to the byte `from`
pub record Filling (s lent out : List ℕ) (limit from at : ℕ) : Type 0 where
  pub n : ℕ
  pub taken : Taken s limit n from
  pub place : at ≡ 17 * n
  pub within : from ≤ length s
  pub long : length out ≡ length lent
  pub now : out ≡ taken.done ++ drop at lent

pub filling-none : (s lent : List ℕ) (limit : ℕ) → Filling s lent lent limit 0 0
unfolding taken_none
filling-none s lent limit = record { n = 0; taken = taken_none s limit; place = refl; within = omega arith; long = refl; now = refl }

module _ {s lent out : List ℕ} {limit from at : ℕ} (h : Filling s lent out limit from at) where
  module _ (l : from < length s) (pass : short_refusal limit s ≡ 0) (room : length (long_form limit s) ≤ length lent)
      (z : ℕ) (e : z ≡ short_size (get_or s from 0)) where
    few : h.n < limit
    few = (next-good h.taken l pass).0

    good : whole (get_or s from 0) (drop (suc from) s) ≡ true
    good = (next-good h.taken l pass).1

    pub small : z ≤ 17
    small = size_small h.taken l few z e good

    pub inside : z ≤ length s - from
    inside = record-within h.taken l few z e good

    pub fits : at + 17 ≤ length out
    fits = omega (arith, form-within h.taken l few z e good, h.place, h.long)

    -- what the copy of the record asks
    pub record-fits : at + z ≤ length out
    record-fits = omega (arith, fits, small)

    module _ {xs : List ℕ} (p : xs ≡ take (from + z - from) (drop from s)) where
      abbrev mid : List ℕ
      mid = put_mid at (at + z - at) out xs

      copied : mid ≡ paste out at (drop from s) z
      copied = part-copied s out xs at from z inside p

      mid-long : length mid ≡ length out
      mid-long = ap length copied ∙ length-paste out at (drop from s) z record-fits (omega (arith, inside, length-drop from s))

      -- and that of the zeros
      pub zeros-fit : at + 17 ≤ length mid
      zeros-fit = omega (arith, fits, mid-long)

      module _ {ys : List ℕ} (q : ys ≡ replicate (length (take (at + 17 - (at + z)) (drop (at + z) mid))) 0) where
        abbrev end : List ℕ
        end = put_mid (at + z) (at + 17 - (at + z)) mid ys

        end-zeros : end ≡ paste mid (at + z) (replicate (17 - z) 0) (17 - z)
        end-zeros = zeros-filled mid ys at z small zeros-fit q

        end-long : length end ≡ length lent
        end-long =
            ap length end-zeros
            ∙ length-paste mid (at + z) (replicate (17 - z) 0) (17 - z) (omega (arith, fits, small, mid-long)) (omega (arith, length-replicate {A = ℕ} (17 - z) 0))
            ∙ mid-long ∙ h.long

        end_is : end ≡ (h.taken.done ++ (take z (drop from s) ++ replicate (17 - z) 0)) ++ drop (at + 17) lent
        end_is =
            let x : List ℕ = take z (drop from s) in
            let a : length h.taken.done ≡ at = h.taken.size ∙ sym h.place in
            let b : mid ≡ (h.taken.done ++ x) ++ drop (at + z) lent = copied ∙ written_next h.taken.done lent out at z (drop from s) a h.now in
            let c : length x ≡ z = length-take-le z (drop from s) (omega (arith, inside, length-drop from s)) in
            let d : length (h.taken.done ++ x) ≡ at + z = omega (arith, length-append h.taken.done x, a) in
            let f : at + z + (17 - z) ≡ at + 17 = omega (arith, small) in
            end-zeros ∙ written_next (h.taken.done ++ x) lent mid (at + z) (17 - z) (replicate (17 - z) 0) d b
            ∙ (λ i. (append_assoc h.taken.done x (take-zeros (17 - z) (17 - z) (omega arith) i) i) ++ drop (f i) lent)

        pub filling-more : Filling s lent end limit (from + z) (at + 17)
        unfolding taken_more
        filling-more =
            record {
              n = h.n + 1;
              taken = taken_more h.taken l few z e good;
              place = omega (arith, h.place);
              within = omega (arith, inside);
              long = end-long;
              now = end_is;
            }

  pub filling-all : length s ≤ from → out ≡ at_front (long_form limit s) lent
  filling-all l =
      let d : h.taken.done ≡ long_form limit s = form-done h.taken l in
      let a : at ≡ length (long_form limit s) = h.place ∙ sym (form-size h.taken l) in
      h.now ∙ rw (d, a) refl
