-- The reader's loop, one input a turn: where it stands, which fault it meets, and what the parts are at the end. Assumes nothing.
use Rattle.std.proofs.Common.{◌≡◌, ℕ, suc, ◌+◌, ◌-◌, ◌*◌, ◌≤◌, ◌<◌, List, length, set, refl, ap, sym, subst, ◌∙◌, add-one, arith, length-set, get_or-set_same, get_or-set_other, below_more}
use Rattle.std.specs.Prelude.{Ok, Err}
use borrow.Author.Tests.{le-leb, lt-leb}
use Rattle.lent.specs.Lent.{problem_of}
use Rattle.input_parts.specs.declared.Part.{Part}
use Rattle.input_parts.specs.declared.Parts.{Parts}
use Rattle.input_parts.specs.Parts.{size_of, word64, bytes_at, numbers_at, part_at, bytes_part, numbers_part, problem_from}
use Rattle.input_parts.specs.Lying.{Inside}
use Rattle.layout_shape.specs.declared.ShapeFault.TheVariants.{Early, TooLarge, LeftOver}
use Rattle.layout_shape.specs.Layout.{input_at, place_of, count_of, bytes_of, numbers_of, problem_in, inputs_from, layout}
use Rattle.layout_shape.specs.Reading.{Found, Read, Shaped}
use Rattle.layout_shape.specs.LayoutLaws.{no-count, over-limit, no-elements, one_input, next_place}
use Rattle.layout_shape.proofs.Limits.{limit-room}

-- ---------------------------------------------------------------- the loop

-- the first k inputs are there and end at `at`, and what is said of the bytes is what is said of the other inputs
pub record Upto (s : List ℕ) (parts : List Part) (at k : ℕ) : Type 0 where
  pub place : at ≡ place_of s k
  pub inside : at ≤ length s
  pub few : k ≤ 18
  pub all : length parts ≡ 18
  pub read : Read s parts k
  pub rest : layout s ≡ inputs_from s k (18 - k)

pub upto-start : (s : List ℕ) {parts : List Part} → length parts ≡ 18 → Upto s parts 0 0
unfolding place_of layout
upto-start s a = record { place = refl; inside = omega arith; few = omega arith; all = a; read = λ j l. absurd (omega arith); rest = refl }

module _ {s : List ℕ} {parts : List Part} {at k : ℕ} (h : Upto s parts at k) (l : k < 18) where
  rest-one : layout s ≡ inputs_from s k (suc (17 - k))
  rest-one = h.rest ∙ ap (inputs_from s k) (omega arith)

  pub count-missing : length s - at < 8 → Shaped s (Err (Early k))
  count-missing a = record { same = rest-one ∙ no-count s k (17 - k) (omega (arith, h.place, h.inside)); read = l }

  module _ {n : ℕ} (a : 8 ≤ length s - at) (e : n ≡ word64 s at) where
    there : place_of s k + 8 ≤ length s
    there = omega (arith, h.place, h.inside)

    count-is : n ≡ count_of s k
    count-is = e ∙ ap (word64 s) h.place

    pub count-over : {most : ℕ} → most ≡ (input_at k).limit → most < n → Shaped s (Err (TooLarge k))
    count-over f b = record { same = rest-one ∙ over-limit s k (17 - k) there (omega (arith, f, b, count-is)); read = l }

    module _ {most m : ℕ} (f : most ≡ (input_at k).limit) (b : n ≤ most) (g : m ≡ size_of k * n) where
      within : count_of s k ≤ (input_at k).limit
      within = omega (arith, f, b, count-is)

      next-is : place_of s (suc k) ≡ at + 8 + m
      next-is =
          let p : m ≡ size_of k * word64 s (place_of s k) = g ∙ ap (λ (z : ℕ). size_of k * z) count-is in
          next_place s k ∙ (λ i. sym h.place i + 8 + sym p i)

      pub elements-missing : length s - at - 8 < m → Shaped s (Err (Early k))
      elements-missing d = record { same = rest-one ∙ no-elements s k (17 - k) there within (omega (arith, next-is, h.inside)); read = l }

      pub upto_next : m ≤ length s - at - 8 → Upto s (set parts k (record { start = at + 8; count = n })) (at + (8 + m)) (k + 1)
      upto_next d =
          record {
            place = let q : place_of s (suc k) ≡ at + 8 + m = next-is in rw add-one (omega arith);
            inside = omega arith;
            few = omega arith;
            all = length-set parts k part ∙ h.all;
            read = below_more (Found s (set parts k part)) k so_far own;
            rest = rest-one ∙ one_input s k (17 - k) there within inner ∙ (λ i. inputs_from s (sym (add-one k) i) (fewer i));
          }
        where
          part : Part
          part = record { start = at + 8; count = n }

          inner : place_of s (suc k) ≤ length s
          inner = omega (arith, next-is, h.inside)

          fewer : 17 - k ≡ 18 - (k + 1)
          fewer = omega arith

          own : Found s (set parts k part) k
          own =
              let p : part_at (set parts k part) k ≡ part = get_or-set_same parts k part _ (omega (arith, h.all)) in
              record {
                fits = record { counted = within; inside = inner };
                begins = ap (λ (x : Part). x.start) p ∙ ap (λ (z : ℕ). z + 8) h.place;
                many = ap (λ (x : Part). x.count) p ∙ count-is;
              }

          so_far : (j : ℕ) → j < k → Found s (set parts k part) j
          so_far j o =
              let f : Found s parts j = h.read j o in
              let p : part_at (set parts k part) j ≡ part_at parts j = get_or-set_other parts k j part _ (λ q. let z : j ≡ k = q in omega arith) in
              record {
                fits = f.fits;
                begins = ap (λ (x : Part). x.start) p ∙ f.begins;
                many = ap (λ (x : Part). x.count) p ∙ f.many;
              }

-- ---------------------------------------------------------------- behind the last input

-- what was read lies within the bytes
pub inside-read : {s : List ℕ} {at : List Part} → Read s at 18 → Inside s at
inside-read {s} {at} r k l =
    let f : Found s at k = r k l in
    let p : size_of k * (part_at at k).count ≡ size_of k * count_of s k = ap (λ (z : ℕ). size_of k * z) f.many in
    record { inside = omega (arith, f.begins, f.fits.inside, next_place s k); fits = omega (arith, f.many, f.fits.counted, limit-room k l) }

module _ {s : List ℕ} {parts : List Part} {at k : ℕ} (h : Upto s parts at k) (l : 18 ≤ k) where
  all : k ≡ 18
  all = omega (arith, h.few)

  at-end : layout s ≡ inputs_from s k 0
  at-end = h.rest ∙ ap (inputs_from s k) (omega arith)

  pub bytes_left : at < length s → Shaped s (Err LeftOver)
  unfolding inputs_from
  bytes_left a =
      let b : place_of s k < length s = omega (arith, h.place) in
      record { same = at-end ∙ rw (lt-leb _ _ b) refl; read = tt }

  pub read-whole : Read s parts 18
  read-whole = subst (λ (z : ℕ). Read s parts z) all h.read

  pub all_read : length s ≤ at → {p : Parts} → p.bytes.now ≡ s → p.at ≡ parts → Shaped s (Ok p)
  unfolding inputs_from
  all_read a e f =
      let b : length s ≤ place_of s k = omega (arith, h.place) in
      record { same = at-end ∙ rw (le-leb _ _ b) refl; read = (e, subst (λ (z : List Part). Read s z 18) (sym f) read-whole) }

-- ---------------------------------------------------------------- the parts

-- what was read is the layout's problem
module _ {s : List ℕ} {at : List Part} (r : Read s at 18) where
  bytes_same : (k : ℕ) → k < 18 → bytes_part s at k ≡ bytes_of s k
  unfolding bytes_of
  bytes_same k l = λ i. bytes_at s ((r k l).begins i) ((r k l).many i)

  numbers-same : (k : ℕ) → k < 18 → numbers_part s at k ≡ numbers_of s k
  unfolding numbers_of
  numbers-same k l = λ i. numbers_at s ((r k l).begins i) ((r k l).many i)

  pub problem-read : problem_from s at ≡ problem_in s
  unfolding problem_from problem_in
  problem-read = λ i.
      problem_of (bytes_same 0 (omega arith) i) (bytes_same 1 (omega arith) i) (numbers-same 2 (omega arith) i) (numbers-same 3 (omega arith) i)
      (bytes_same 4 (omega arith) i) (numbers-same 5 (omega arith) i) (numbers-same 6 (omega arith) i) (numbers-same 7 (omega arith) i) (numbers-same 8 (omega arith) i)
      (bytes_same 9 (omega arith) i) (numbers-same 10 (omega arith) i) (numbers-same 11 (omega arith) i) (numbers-same 12 (omega arith) i) (numbers-same 13 (omega arith) i)
      (bytes_same 14 (omega arith) i) (numbers-same 15 (omega arith) i) (numbers-same 16 (omega arith) i) (numbers-same 17 (omega arith) i)
