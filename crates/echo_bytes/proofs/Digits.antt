-- Digits: those of a decimal numeral, and those of a list that holds them lowest first, for which `binary_digits` serves at any base: it is
-- the list from the last to the first, each number as its digit. Assumes nothing.
use Prim.Native.Nat.{ℕ, zero, suc, ◌+◌, ◌-◌, ◌/◌, ◌%◌, ◌<◌, ◌≤◌}
use mathlib.Core.Path.{◌≡◌, refl, sym, ◌∙◌}
use mathlib.Core.List.{List, [], ◌∷◌, ◌++◌}
use native.Mathlib.Decide.{dec_lt}
use native.Mathlib.Numerals.{add-one}
use native.Mathlib.Omega.{arith}
use borrow.Author.Tests.{lt-ltb, le-ltb}
use mir.Syntax.{w8}
use mir.Val.{Fits}
use lib.Dec.{T, leb, leb→le, le→leb}
use lib.ListN.{length, get_or, length-append, get_or-append}
use lib.Seq.{get_or_at}
use Rattle.lists.specs.Tests.{every, and_T, and_0, and-1}
use Rattle.echo_spec.specs.Render.{decimal, decimal_digits, binary_digits}

-- ---------------------------------------------------------------- decimal numerals

few : (f n : ℕ) → n < 10 → decimal_digits (suc f) n ≡ (48 + n) ∷ []
unfolding decimal_digits
few f n h = rw (lt-ltb n 10 h, decimal_digits) refl

many : (f n : ℕ) → 10 ≤ n → decimal_digits (suc f) n ≡ decimal_digits f (n / 10) ++ ((48 + n % 10) ∷ [])
unfolding decimal_digits
many f n h = rw (le-ltb n 10 h, decimal_digits) refl

-- a numeral does not depend on how many digits are allowed, once there are enough
enough : (f g n : ℕ) → n < f → n < g → decimal_digits f n ≡ decimal_digits g n
enough zero g n p q = absurd (omega arith)
enough (suc f) zero n p q = absurd (omega arith)
enough (suc f) (suc g) n p q = go (dec_lt n 10) (λ h. enough f g (n / 10) (omega arith) (omega arith))
  where
    go : Dec (n < 10) → (10 ≤ n → decimal_digits f (n / 10) ≡ decimal_digits g (n / 10)) → decimal_digits (suc f) n ≡ decimal_digits (suc g) n
    go (yes h) rest = few f n h ∙ sym (few g n h)
    go (no h) rest =
        let l : 10 ≤ n = omega arith in
        rw (many f n l, many g n l, rest l) refl

pub decimal_digit : (n : ℕ) → n < 10 → decimal n ≡ (48 + n) ∷ []
unfolding decimal
decimal_digit n h = few n n h

pub decimal-more : (n : ℕ) → 10 ≤ n → decimal n ≡ decimal (n / 10) ++ ((48 + n % 10) ∷ [])
unfolding decimal
decimal-more n h = rw (many n n h, enough n (suc (n / 10)) (n / 10) (omega arith) (omega arith)) refl

-- ---------------------------------------------------------------- digits that are held lowest first

pub length_digits : (ds : List ℕ) → length (binary_digits ds) ≡ length ds
unfolding binary_digits
length_digits [] = refl
length_digits (d ∷ ds) = length-append (binary_digits ds) ((48 + d) ∷ []) ∙ rw (length_digits ds) (add-one (length ds))

-- the digit at j, counted from the highest
pub digit_at : (ds : List ℕ) (j : ℕ) → j < length ds → get_or (binary_digits ds) j 0 ≡ 48 + get_or ds (length ds - 1 - j) 0
unfolding binary_digits
digit_at [] j h = absurd (omega arith)
digit_at (d ∷ ds) j h = go (dec_lt j (length ds)) (λ l. digit_at ds j l)
  where
    go : Dec (j < length ds) → (j < length ds → get_or (binary_digits ds) j 0 ≡ 48 + get_or ds (length ds - 1 - j) 0)
        → get_or (binary_digits ds ++ ((48 + d) ∷ [])) j 0 ≡ 48 + get_or (d ∷ ds) (suc (length ds) - 1 - j) 0
    go (yes l) rest =
        let e : suc (length ds) - 1 - j ≡ suc (length ds - 1 - j) = omega arith in
        let k : j < length (binary_digits ds) = omega (arith, length_digits ds) in
        rw (get_or-append (binary_digits ds) ((48 + d) ∷ []) 0 j k, e) (rest l)
    go (no l) rest =
        let e : suc (length ds) - 1 - j ≡ 0 = omega arith in
        let k : length (binary_digits ds) ≡ j = omega (arith, length_digits ds) in
        rw (get_or_at (binary_digits ds) (48 + d) [] 0 j k, e) refl

-- ---------------------------------------------------------------- tests over digits

digit-small : (ds : List ℕ) (i : ℕ) → T (every (λ d. leb d 9) ds) → get_or ds i 0 ≤ 9
digit-small [] i h = omega arith
digit-small (d ∷ ds) zero h = leb→le d 9 (and_0 (leb d 9) (every (λ d. leb d 9) ds) h)
digit-small (d ∷ ds) (suc i) h = digit-small ds i (and-1 (leb d 9) (every (λ d. leb d 9) ds) h)

-- the byte of a digit is a byte
pub digit-fits : (ds : List ℕ) (i : ℕ) → T (every (λ d. leb d 9) ds) → Fits w8 (48 + get_or ds i 0)
digit-fits ds i h = omega (arith, digit-small ds i h)

pub bits-digits : (xs : List ℕ) → T (every (λ b. leb b 1) xs) → T (every (λ d. leb d 9) xs)
bits-digits [] h = tt
bits-digits (x ∷ xs) h =
    let b : x ≤ 1 = leb→le x 1 (and_0 (leb x 1) (every (λ b. leb b 1) xs) h) in
    and_T (leb x 9) (every (λ d. leb d 9) xs) (le→leb x 9 (omega arith)) (bits-digits xs (and-1 (leb x 1) (every (λ b. leb b 1) xs) h))
