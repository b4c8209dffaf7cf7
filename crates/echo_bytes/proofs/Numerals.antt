-- Numerals by pieces: a numeral is the numeral of what stands above its last l digits, and those; and the digits of a piece are taken,
-- highest first, from a number with 56 bits behind the point. Assumes nothing.
use Prim.Native.Nat.{ℕ, zero, suc, ◌+◌, ◌-◌, ◌*◌, ◌/◌, ◌%◌, ◌^◌, ◌<◌, ◌≤◌, max}
use native.Mathlib.Decide.{dec_le}
use mathlib.Core.Path.{◌≡◌, refl, sym, ap, ◌∙◌}
use mathlib.Core.List.{List, [], ◌∷◌, ◌++◌, append_assoc, append-nil}
use native.Mathlib.Nat.{
  pow-suc,
  one-le-pow,
  zero-lt-suc,
  le_antisymm,
  mod-lt,
  div-one,
  div-add-mod',
  div-div-eq-div-mul,
  div-lt_iff_lt-mul,
  le-div_iff_mul-le,
  pow-le-pow_right,
  add-mul,
  mul_comm,
  mul_assoc,
  mul_right_comm,
  mul-le-mul,
  mul-le-mul_left,
  mul-le-mul_right,
  mul-lt-mul_of_pos_right,
}
use native.Mathlib.Numerals.{add-one}
use native.Mathlib.Omega.{arith}
use lib.Arith.{digits_div, digits_mod, mod-mul}
use mathlib.Core.Bool.{◌&&◌}
use lib.Dec.{T, leb, ltb, leb→le, ltb→lt}
use lib.ListN.{length, get_or, drop}
use lib.Seq.{drop-cons}
use Rattle.lists.specs.Tests.{and_0, and-1}
use Rattle.echo_spec.specs.Render.{decimal}
use Rattle.echo_bytes.specs.Numerals.{padded, DigitCount, Share}
use Rattle.echo_bytes.proofs.Digits.{decimal_digit, decimal-more}

power_pos : (l : ℕ) → 0 < 10 ^ l
power_pos l = one-le-pow l 10 (zero-lt-suc 9)

pub length-padded : (l n : ℕ) → length (padded l n) ≡ l
unfolding padded
length-padded zero n = refl
length-padded (suc l) n = ap suc (length-padded l (n % 10 ^ l))

-- ---------------------------------------------------------------- a numeral by pieces

-- a numeral is that of what stands above its last l digits, and those
pub decimal-split : (l n : ℕ) → 10 ^ l ≤ n → decimal n ≡ decimal (n / 10 ^ l) ++ padded l (n % 10 ^ l)
unfolding padded
decimal-split zero n h = sym (append-nil (decimal (n / 1)) ∙ ap decimal (div-one n))
decimal-split (suc l) n h =
    let q : ℕ = 10 ^ l in
    let m : ℕ = n / q in
    let power : 10 ^ suc l ≡ q * 10 = pow-suc 10 l in
    let pos : 0 < q = power_pos l in
    let ten : 10 ≤ m = (le-div_iff_mul-le pos).1 (omega arith) in
    let above : n / 10 ^ suc l ≡ m / 10 = ap (λ (x : ℕ). n / x) power ∙ sym (div-div-eq-div-mul n q 10) in
    let below : n % 10 ^ suc l ≡ m % 10 * q + n % q = ap (λ (x : ℕ). n % x) (power ∙ mul_comm q 10) ∙ mod-mul n (zero-lt-suc 9) pos in
    let first : n % 10 ^ suc l / q ≡ m % 10 = ap (λ (x : ℕ). x / q) below ∙ digits_div (m % 10) (mod-lt n pos) in
    let others : n % 10 ^ suc l % q ≡ n % q = ap (λ (x : ℕ). x % q) below ∙ digits_mod (m % 10) (mod-lt n pos) in
    rw (above, first, others)
    (decimal-split l n (omega arith) ∙ ap (λ (s : List ℕ). s ++ padded l (n % q)) (decimal-more m ten) ∙ append_assoc (decimal (m / 10)) ((48 + m % 10) ∷ []) (padded l (n % q)))

-- with as many digits as it has, a numeral is itself
pub decimal-padded : (n l : ℕ) → DigitCount n l → padded l n ≡ decimal n
unfolding padded
decimal-padded n zero c = absurd (omega (arith, c.some))
decimal-padded n (suc zero) c = rw (div-one n) (sym (decimal_digit n c.below))
decimal-padded n (suc (suc k)) c =
    let q : ℕ = 10 ^ suc k in
    let power : 10 ^ suc (suc k) ≡ q * 10 = pow-suc 10 (suc k) in
    let pos : 0 < q = power_pos (suc k) in
    let e : suc (suc k) - 1 ≡ suc k = omega arith in
    let high : q ≤ n = rw e at (c.above (omega arith)) in
    let one : n / q < 10 = (div-lt_iff_lt-mul pos).1 (omega (arith, c.below)) in
    sym (decimal-split (suc k) n high ∙ ap (λ (s : List ℕ). s ++ padded (suc k) (n % q)) (decimal_digit (n / q) one))

-- m is n, or 1 for 0; k is the highest power of ten that it reaches
pub counted-digits : (n m k : ℕ) → m ≡ max n 1 → 10 ^ k ≤ m → m < 10 * 10 ^ k → n < 10 ^ 8 → DigitCount n (k + 1)
counted-digits n m k e low high small =
    let power : 10 ^ (k + 1) ≡ 10 ^ k * 10 = rw add-one (pow-suc 10 k) in
    let pos : 0 < 10 ^ k = power_pos k in
    record {
      some = omega arith;
      few = go (dec_le 8 k);
      below = omega (arith, power);
      above = λ two.
          let ten : 10 ^ 1 ≤ 10 ^ k = pow-le-pow_right {n = 10} (zero-lt-suc 9) {i = 1} {j = k} (omega arith) in
          let back : k + 1 - 1 ≡ k = omega arith in
          rw back (omega arith);
    }
  where
    go : Dec (8 ≤ k) → k + 1 ≤ 8
    go (yes h) =
        let big : 10 ^ 8 ≤ 10 ^ k = pow-le-pow_right {n = 10} (zero-lt-suc 9) {i = 8} {j = k} h in
        absurd (omega arith)
    go (no h) = omega arith

-- ---------------------------------------------------------------- digits from behind the point

-- a share that is written out, by a computed test
pub share-at : {len : ℕ} (l s : ℕ) → len ≡ l → T (leb (2 ^ 56) (s * 10 ^ (l - 1)) && ltb (s * 10 ^ (l - 1)) (2 ^ 56 + 10 ^ (l - 1))) → Share len s
share-at l s e t = rw e (record {
  enough = leb→le _ _ (and_0 (leb (2 ^ 56) (s * 10 ^ (l - 1))) _ t);
  least = ltb→lt _ _ (and-1 (leb (2 ^ 56) (s * 10 ^ (l - 1))) _ t);
})

one_up : (len k : ℕ) → k ≤ len → (len ≡ k → ⊥) → k + 1 ≤ len
one_up len k h f = omega arith

-- the last number of the table
pub eighth : (len : ℕ) → 1 ≤ len → len ≤ 8 → (len ≡ 1 → ⊥) → (len ≡ 2 → ⊥) → (len ≡ 3 → ⊥) → (len ≡ 4 → ⊥) → (len ≡ 5 → ⊥) → (len ≡ 6 → ⊥) → (len ≡ 7 → ⊥)
    → len ≡ 8
eighth len a b n1 n2 n3 n4 n5 n6 n7 =
    le_antisymm b
    (one_up len 7 (one_up len 6 (one_up len 5 (one_up len 4 (one_up len 3 (one_up len 2 (one_up len 1 a n1) n2) n3) n4) n5) n6) n7)

-- f is r by q, with 56 bits behind the point: its whole part is the quotient, and what is behind the point is the remainder by q
taken : (r e t q fq : ℕ) → fq ≡ e * 72057594037927936 + t → t < 72057594037927936 * q → r * 72057594037927936 ≤ fq
    → fq < (r + 1) * 72057594037927936
    → (e ≤ r) × (r < e + q) × ((r - e) * 72057594037927936 ≤ t) × (t < (r - e + 1) * 72057594037927936)
taken r e t q fq s b low high = (omega arith, omega arith, omega arith, omega arith)

take-digit : (q r f : ℕ) → 0 < q → r * 72057594037927936 ≤ f * q → f * q < (r + 1) * 72057594037927936
    → (r / q ≡ f / 72057594037927936) × (r % q * 72057594037927936 ≤ f % 72057594037927936 * q)
    × (f % 72057594037927936 * q < (r % q + 1) * 72057594037927936)
take-digit q r f pos low high =
    let d : ℕ = f / 72057594037927936 in
    let g : ℕ = f % 72057594037927936 in
    let split : f * q ≡ d * q * 72057594037927936 + g * q =
    ap (λ (x : ℕ). x * q) (sym (div-add-mod' f 72057594037927936)) ∙ add-mul (d * 72057594037927936) g q
    ∙ ap (λ (x : ℕ). x + g * q) (mul_right_comm d 72057594037927936 q) in
    let small : g * q < 72057594037927936 * q = mul-lt-mul_of_pos_right (mod-lt f (omega arith)) pos in
    let (le, lt, more, less) = taken r (d * q) (g * q) q (f * q) split small low high in
    let whole : d * q + (r - d * q) ≡ r = back r (d * q) le in
    let rest : r - d * q < q = short r (d * q) q lt pos in
    let quotient : r / q ≡ d = ap (λ (x : ℕ). x / q) (sym whole) ∙ digits_div d rest in
    let remainder : r % q ≡ r - d * q = ap (λ (x : ℕ). x % q) (sym whole) ∙ digits_mod d rest in
    (quotient, rw remainder more, rw remainder less)
  where
    back : (r e : ℕ) → e ≤ r → e + (r - e) ≡ r
    back r e h = omega arith

    short : (r e q : ℕ) → r < e + q → 0 < q → r - e < q
    short r e q h p = omega arith

-- `left` has the digits of s from place j on, `len - j` of them: those of r, which is left by 10 ^ (len - j) with one place before the point
pub record Behind (s : List ℕ) (len j left : ℕ) : Type 0 where
  pub r : ℕ
  pub digit : left < 720575940379279360
  pub others : drop j s ≡ padded (len - j) r
  pub low : r * 720575940379279360 ≤ left * 10 ^ (len - j)
  pub high : left * 10 ^ (len - j) < (r + 1) * 720575940379279360

-- a number of at most eight digits, times one by the value of its highest digit
module _ (n len s : ℕ) (some : 1 ≤ len) (few : len ≤ 8) (below : n < 10 ^ len) (share : Share len s) where
  q : ℕ
  q = 10 ^ (len - 1)

  power : 10 ^ len ≡ q * 10
  unfolding q
  power =
      let e : len ≡ suc (len - 1) = omega arith in
      ap (λ (x : ℕ). 10 ^ x) e ∙ pow-suc 10 (len - 1)

  most : q ≤ 10000000
  unfolding q
  most = pow-le-pow_right {n = 10} (zero-lt-suc 9) {i = len - 1} {j = 7} (omega arith)

  below-ten : n < q * 10
  below-ten = rw power at below

  -- the rounding is less than one in the last digit
  rounding : n * q ≤ 999999990000000
  rounding = let h : n ≤ 99999999 = go q most below-ten in mul-le-mul h most
    where
      go : (q : ℕ) → q ≤ 10000000 → n < q * 10 → n ≤ 99999999
      go q h l = omega arith

  product : n * s * q ≡ n * (s * q)
  product = mul_assoc n s q

  least : n * 72057594037927936 ≤ n * s * q
  unfolding q
  least = rw product (mul-le-mul_left n share.enough)

  largest : n * s * q < (n + 1) * 72057594037927936
  unfolding q
  largest =
      let a : n * (s * q) ≤ n * (72057594037927936 + q) = mul-le-mul_left n (go (s * q) q share.least) in
      let b : n * (72057594037927936 + q) ≡ n * 72057594037927936 + n * q = native.Mathlib.Nat.mul-add n 72057594037927936 q in
      last (n * s * q) (n * (s * q)) (n * (72057594037927936 + q)) (n * q) product a b rounding
    where
      go : (x q : ℕ) → x < 72057594037927936 + q → x ≤ 72057594037927936 + q
      go x q h = omega arith

      last : (x y z w : ℕ) → x ≡ y → y ≤ z → z ≡ n * 72057594037927936 + w → w ≤ 999999990000000 → x < (n + 1) * 72057594037927936
      last x y z w a b c d = omega arith

  pub product-fits : n * s < 720575940379279360
  product-fits = native.Mathlib.Nat.lt_of_mul-lt-mul_right q (go (n * s * q) q largest below-ten)
    where
      go : (x q : ℕ) → x < (n + 1) * 72057594037927936 → n < q * 10 → x < 720575940379279360 * q
      go x q h l = omega arith

  pub behind-all : Behind (padded len n) len 0 (n * s)
  behind-all =
      let e : len - 0 ≡ len = omega arith in
      let p : n * s * 10 ^ (len - 0) ≡ n * s * q * 10 = ap (λ (x : ℕ). n * s * 10 ^ x) e ∙ ap (λ (x : ℕ). n * s * x) power ∙ sym (mul_assoc (n * s) q 10) in
      record {
        r = n;
        digit = product-fits;
        others = ap (λ (l : ℕ). padded l n) (sym e);
        low = from (n * s * q) _ p least;
        high = to (n * s * q) _ p largest;
      }
    where
      from : (x y : ℕ) → y ≡ x * 10 → n * 72057594037927936 ≤ x → n * 720575940379279360 ≤ y
      from x y e h = omega arith

      to : (x y : ℕ) → y ≡ x * 10 → x < (n + 1) * 72057594037927936 → y < (n + 1) * 720575940379279360
      to x y e h = omega arith

-- the next digit is the whole part, and ten times what is behind the point has the others
module _ (n len j left : ℕ) (c : Behind (padded len n) len j left) (h : j < len) where
  l : ℕ
  l = len - (j + 1)

  one_less : len - j ≡ suc l
  unfolding l
  one_less = omega arith

  step : (c.r / 10 ^ l ≡ left / 72057594037927936) × (c.r % 10 ^ l * 72057594037927936 ≤ left % 72057594037927936 * 10 ^ l)
      × (left % 72057594037927936 * 10 ^ l < (c.r % 10 ^ l + 1) * 72057594037927936)
  step =
      let p : left * 10 ^ (len - j) ≡ left * 10 ^ l * 10 =
      ap (λ (x : ℕ). left * 10 ^ x) one_less ∙ ap (λ (x : ℕ). left * x) (pow-suc 10 l) ∙ sym (mul_assoc left (10 ^ l) 10) in
      take-digit (10 ^ l) c.r left (power_pos l) (from c.r (left * 10 ^ l) _ p c.low) (to c.r (left * 10 ^ l) _ p c.high)
    where
      from : (r x y : ℕ) → y ≡ x * 10 → r * 720575940379279360 ≤ y → r * 72057594037927936 ≤ x
      from r x y e h = omega arith

      to : (r x y : ℕ) → y ≡ x * 10 → y < (r + 1) * 720575940379279360 → x < (r + 1) * 72057594037927936
      to r x y e h = omega arith

  next : get_or (padded len n) j 0 ∷ drop (j + 1) (padded len n) ≡ (48 + c.r / 10 ^ l) ∷ padded l (c.r % 10 ^ l)
  unfolding padded
  next =
      let inside : j < length (padded len n) = rw (length-padded len n) h in
      let here : drop j (padded len n) ≡ get_or (padded len n) j 0 ∷ drop (j + 1) (padded len n) = rw (add-one, drop-cons (padded len n) j 0) refl in
      sym here ∙ c.others ∙ ap (λ (x : ℕ). padded x c.r) one_less

  pub behind-digit : 48 + left / 72057594037927936 ≡ get_or (padded len n) j 0
  behind-digit = sym (ap (λ (s : List ℕ). get_or s 0 0) next ∙ ap (λ (x : ℕ). 48 + x) step.0)

  pub behind-next : Behind (padded len n) len (j + 1) (left % 72057594037927936 * 10)
  unfolding l
  behind-next =
      let g : ℕ = left % 72057594037927936 in
      let p : g * 10 * 10 ^ l ≡ g * 10 ^ l * 10 = mul_right_comm g 10 (10 ^ l) in
      record {
        r = c.r % 10 ^ l;
        digit = omega (arith, mod-lt left {m = 72057594037927936} (omega arith));
        others = ap (drop 1) next;
        low = from (c.r % 10 ^ l) (g * 10 ^ l) _ p step.1;
        high = to (c.r % 10 ^ l) (g * 10 ^ l) _ p step.2;
      }
    where
      from : (r x y : ℕ) → y ≡ x * 10 → r * 72057594037927936 ≤ x → r * 720575940379279360 ≤ y
      from r x y e h = omega arith

      to : (r x y : ℕ) → y ≡ x * 10 → x < (r + 1) * 72057594037927936 → y < (r + 1) * 720575940379279360
      to r x y e h = omega arith
