-- Laws of the layout: what is said of one input, that the first 327,825 bytes decide, and that a problem that is read is within the limits.
-- Assumes nothing.
use Prim.Native.Nat.{ℕ, zero, suc, ◌+◌, ◌*◌, ◌≤◌, ◌<◌}
use Rattle.std.specs.Prelude.{◌≡◌, Bool, true, ◌&&◌, List, T, leb, length, take, drop}
use Rattle.std.proofs.Math.Path.{refl}
use Rattle.std.proofs.Common.{ap, sym, subst, ◌∙◌, mul-le-mul_left, arith, leb→le, take_all, length-take-le, get_or-take}
use Rattle.std.proofs.Math.Decide.{dec_le}
use borrow.Author.Tests.{le-leb, lt-leb}
use Rattle.std.proofs.Math.ListN.{get_or, length-take}
use Rattle.lists.specs.Tests.{every-at}
use Rattle.lists.specs.Build.{length-tabulate}
use Rattle.echo_spec.specs.Input.{Problem, nodes_within, column_within, arena_within, within_limits, word32}
use Rattle.layout_shape.specs.Layout.{
  early,
  too_large,
  left_over,
  given,
  inputs,
  input_at,
  place_of,
  count_of,
  bytes_of,
  numbers_of,
  problem_in,
  inputs_from,
  layout,
}
use Rattle.input_parts.specs.Parts.{sizes, size_of, word64, numbers_at}
use Rattle.layout_shape.specs.Reading.{Fits}

-- ---------------------------------------------------------------- what the definition says of one input

module _ (s : List ℕ) (k n : ℕ) where
  pub no-count : length s < place_of s k + 8 → inputs_from s k (suc n) ≡ early k
  unfolding inputs_from
  no-count a = rw (lt-leb _ _ a) refl

  pub over-limit : place_of s k + 8 ≤ length s → (input_at k).limit < count_of s k → inputs_from s k (suc n) ≡ too_large k
  unfolding inputs_from
  over-limit a b = rw (le-leb _ _ a, lt-leb _ _ b) refl

  pub no-elements : place_of s k + 8 ≤ length s → count_of s k ≤ (input_at k).limit → length s < place_of s (suc k) → inputs_from s k (suc n) ≡ early k
  unfolding inputs_from
  no-elements a b c = simp (le-leb _ _ a, le-leb _ _ b, lt-leb _ _ c)

  pub one_input : place_of s k + 8 ≤ length s → count_of s k ≤ (input_at k).limit → place_of s (suc k) ≤ length s → inputs_from s k (suc n) ≡ inputs_from s (suc k) n
  unfolding inputs_from
  one_input a b c = simp (le-leb _ _ a, le-leb _ _ b, le-leb _ _ c)

pub next_place : (s : List ℕ) (k : ℕ) → place_of s (suc k) ≡ place_of s k + 8 + size_of k * word64 s (place_of s k)
unfolding place_of
next_place s k = refl

-- ---------------------------------------------------------------- the front decides

-- the bytes of the inputs before k, if each is as long as it may be
unfoldable pub longest : ℕ → ℕ
longest zero = 0
longest (suc k) = longest k + 8 + size_of k * (input_at k).limit

pub longest-problem : longest 18 ≡ 327824
unfolding inputs input_at sizes size_of longest
longest-problem = refl

longest-tested : (k : ℕ) → k ≤ 18 → T (leb (longest k) 327824)
unfolding inputs input_at sizes size_of longest
longest-tested k h = every-at (λ j. leb (longest j) 327824) 0 19 tt k (omega arith) (omega arith)

longest-bound : (k : ℕ) → k ≤ 18 → longest k ≤ 327824
longest-bound k h = leb→le (longest k) 327824 (longest-tested k h)

next-longest : (k : ℕ) → longest (suc k) ≡ longest k + 8 + size_of k * (input_at k).limit
unfolding longest
next-longest k = refl

-- the first n bytes of more than n, where n is above what a problem may have
module _ (s : List ℕ) (n : ℕ) (large : 327824 < n) (long : n < length s) where
  front_length : length (take n s) ≡ n
  front_length = length-take-le n s (omega arith)

  byte-same : (i : ℕ) → i < n → get_or (take n s) i 0 ≡ get_or s i 0
  byte-same i h = get_or-take n s i 0 h

  word32-same : (i : ℕ) → i + 4 ≤ n → word32 (take n s) i ≡ word32 s i
  unfolding word32
  word32-same i h =
      let a : get_or (take n s) i 0 ≡ get_or s i 0 = byte-same i (omega arith) in
      let b : get_or (take n s) (i + 1) 0 ≡ get_or s (i + 1) 0 = byte-same (i + 1) (omega arith) in
      let c : get_or (take n s) (i + 2) 0 ≡ get_or s (i + 2) 0 = byte-same (i + 2) (omega arith) in
      let d : get_or (take n s) (i + 3) 0 ≡ get_or s (i + 3) 0 = byte-same (i + 3) (omega arith) in
      λ j. a j + 256 * b j + 65536 * c j + 16777216 * d j

  word64-same : (i : ℕ) → i + 8 ≤ n → word64 (take n s) i ≡ word64 s i
  unfolding word64
  word64-same i h =
      let a : word32 (take n s) i ≡ word32 s i = word32-same i (omega arith) in
      let b : word32 (take n s) (i + 4) ≡ word32 s (i + 4) = word32-same (i + 4) (omega arith) in
      λ j. a j + 4294967296 * b j

  -- m inputs from k on, which begin at the same place
  same_from : (m k : ℕ) → k + m ≡ 18 → place_of (take n s) k ≡ place_of s k → place_of s k ≤ longest k → inputs_from (take n s) k m ≡ inputs_from s k m
  unfolding inputs_from
  same_from zero k e p b =
      let c : longest k ≤ 327824 = longest-bound k (omega arith) in
      rw (lt-leb (length (take n s)) (place_of (take n s) k) (omega (arith, front_length)), lt-leb (length s) (place_of s k) (omega arith)) refl
  same_from (suc m) k e p b = go (dec_le (count_of s k) (input_at k).limit) (λ q l. same_from m (suc k) (omega arith) q l)
    where
      below : longest (suc k) ≤ 327824
      below = longest-bound (suc k) (omega arith)

      room : place_of s k + 8 ≤ n
      room = omega (arith, next-longest k, below)

      count_same : count_of (take n s) k ≡ count_of s k
      count_same = ap (word64 (take n s)) p ∙ word64-same (place_of s k) room

      go : Dec (count_of s k ≤ (input_at k).limit)
          → (place_of (take n s) (suc k) ≡ place_of s (suc k) → place_of s (suc k) ≤ longest (suc k) → inputs_from (take n s) (suc k) m ≡ inputs_from s (suc k) m)
          → inputs_from (take n s) k (suc m) ≡ inputs_from s k (suc m)
      go (no h) rest =
          over-limit (take n s) k m (omega (arith, room, p, front_length)) (omega (arith, count_same))
          ∙ sym (over-limit s k m (omega (arith, room)) (omega arith))
      go (yes h) rest =
          let q : place_of (take n s) (suc k) ≡ place_of s (suc k) = next_place (take n s) k ∙ (λ i. p i + 8 + size_of k * count_same i) ∙ sym (next_place s k) in
          let l : place_of s (suc k) ≤ longest (suc k) = omega (arith, next_place s k, next-longest k, mul-le-mul_left (size_of k) h) in
          one_input (take n s) k m (omega (arith, room, p, front_length)) (omega (arith, count_same)) (omega (arith, q, l, below, front_length))
          ∙ rest q l
          ∙ sym (one_input s k m (omega (arith, room)) h (omega (arith, l, below)))

  same_layout : layout (take n s) ≡ layout s
  unfolding layout place_of longest
  same_layout = same_from 18 0 refl refl (omega arith)

-- so a reader may stop behind 327,825 bytes
pub layout-front : (n : ℕ) → 327824 < n → (s : List ℕ) → layout (take n s) ≡ layout s
layout-front n large s = go (dec_le (length s) n)
  where
    go : Dec (length s ≤ n) → layout (take n s) ≡ layout s
    go (yes h) = ap layout (take_all n s h)
    go (no h) = same_layout s n large (omega arith)

-- ---------------------------------------------------------------- a problem that is read

-- what stands behind `given`: the problem of the bytes, each input within its limit and within the bytes
pub record GivenBy (s : List ℕ) (k n : ℕ) (p : Problem) : Type 0 where
  pub problem : p ≡ problem_in s
  pub fits : (j : ℕ) → k ≤ j → j < k + n → Fits s j

given-from : (s : List ℕ) (n k : ℕ) (p : Problem) → inputs_from s k n ≡ given p → GivenBy s k n p
unfolding inputs_from
given-from s zero k p e = go (dec_le (length s) (place_of s k))
  where
    go : Dec (length s ≤ place_of s k) → GivenBy s k 0 p
    go (yes h) =
        let f : given (problem_in s) ≡ given p = rw (le-leb (length s) (place_of s k) h) at e in
        record { problem = cc; fits = λ j a b. absurd (omega arith) }
    go (no h) =
        let f : left_over ≡ given p = rw (lt-leb (length s) (place_of s k) (omega arith)) at e in
        absurd (let z : ◌≡◌ {A = ℕ} 0 1 = cc in omega arith)
given-from s (suc n) k p e =
    go (dec_le (place_of s k + 8) (length s)) (dec_le (count_of s k) (input_at k).limit) (dec_le (place_of s (suc k)) (length s)) (λ f. given-from s n (suc k) p f)
  where
    go : Dec (place_of s k + 8 ≤ length s) → Dec (count_of s k ≤ (input_at k).limit) → Dec (place_of s (suc k) ≤ length s)
        → (inputs_from s (suc k) n ≡ given p → GivenBy s (suc k) n p) → GivenBy s k (suc n) p
    go (no a) b c rest = absurd (let f : inputs_from s k (suc n) ≡ early k = no-count s k n (omega arith) in let z : ◌≡◌ {A = ℕ} 0 1 = cc in omega arith)
    go (yes a) (no b) c rest = absurd (let f : inputs_from s k (suc n) ≡ too_large k = over-limit s k n a (omega arith) in let z : ◌≡◌ {A = ℕ} 0 1 = cc in omega arith)
    go (yes a) (yes b) (no c) rest =
        absurd (let f : inputs_from s k (suc n) ≡ early k = no-elements s k n a b (omega arith) in let z : ◌≡◌ {A = ℕ} 0 1 = cc in omega arith)
    go (yes a) (yes b) (yes c) rest =
        let g : GivenBy s (suc k) n p = rest (sym (one_input s k n a b c) ∙ e) in
        record { problem = g.problem; fits = λ j l m. by_place g j l m (dec_le (suc k) j) }
      where
        by_place : GivenBy s (suc k) n p → (j : ℕ) → k ≤ j → j < k + suc n → Dec (suc k ≤ j) → Fits s j
        by_place g j l m (yes x) = g.fits j x (omega arith)
        by_place g j l m (no x) =
            let q : k ≡ j = omega arith in
            subst (λ (i : ℕ). Fits s i) q (record { counted = b; inside = c })

and-true : {a b : Bool} → a ≡ true → b ≡ true → (a && b) ≡ true
and-true p q = λ i. p i && q i

module _ (s : List ℕ) (fits : (j : ℕ) → 0 ≤ j → j < 18 → Fits s j) where
  bytes-within : (k : ℕ) → k < 18 → {most : ℕ} → (input_at k).limit ≡ most → leb (length (bytes_of s k)) most ≡ true
  unfolding bytes_of
  bytes-within k l {most} e =
      le-leb (length (take (count_of s k) (drop (place_of s k + 8) s))) most
      (omega (arith, length-take (count_of s k) (drop (place_of s k + 8) s), (fits k (omega arith) l).counted))

  numbers-within : (k : ℕ) → k < 18 → {most : ℕ} → (input_at k).limit ≡ most → leb (length (numbers_of s k)) most ≡ true
  unfolding numbers_of
  numbers-within k l {most} e =
      le-leb (length (numbers_at s (place_of s k + 8) (count_of s k))) most
      (omega (arith, length-tabulate (count_of s k) (λ i. word64 s (place_of s k + 8 + 8 * i)), (fits k (omega arith) l).counted))

  all-within : within_limits (problem_in s) ≡ true
  unfolding within_limits nodes_within column_within arena_within problem_in inputs input_at
  all-within =
      and-true
      (and-true (bytes-within 0 (omega arith) refl) (and-true (bytes-within 1 (omega arith) refl) (numbers-within 2 (omega arith) refl)))
      (and-true (numbers-within 3 (omega arith) refl)
      (and-true
      (and-true (numbers-within 5 (omega arith) refl)
      (and-true (numbers-within 6 (omega arith) refl)
      (and-true (numbers-within 7 (omega arith) refl)
      (and-true (numbers-within 8 (omega arith) refl)
      (and-true (numbers-within 10 (omega arith) refl)
      (and-true (numbers-within 11 (omega arith) refl)
      (and-true (numbers-within 12 (omega arith) refl)
      (and-true (numbers-within 13 (omega arith) refl)
      (and-true (numbers-within 15 (omega arith) refl) (and-true (numbers-within 16 (omega arith) refl) (and-true (numbers-within 17 (omega arith) refl) refl)))))))))))
      (and-true (bytes-within 4 (omega arith) refl) (and-true (bytes-within 9 (omega arith) refl) (and-true (bytes-within 14 (omega arith) refl) refl)))))

-- so no problem that is read is refused with 9
pub read-within : (s : List ℕ) (p : Problem) → layout s ≡ given p → within_limits p ≡ true
unfolding layout
read-within s p e =
    let g : GivenBy s 0 18 p = given-from s 18 0 p e in
    ap within_limits g.problem ∙ all-within s g.fits
