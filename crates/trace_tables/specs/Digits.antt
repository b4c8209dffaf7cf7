-- A constant's number, from its highest bit down.
use Rattle.std.specs.Prelude.{ℕ, zero, suc, ◌+◌, ◌-◌, ◌*◌, ◌^◌, ◌≤◌, ◌<◌, ◌≡◌, refl, List, [], ◌∷◌, length, take, drop, get_or, reverse}
use Rattle.std.proofs.Common.{ap, ◌∙◌, pow-suc, lt_of_lt_of_le, pow_pos, pow_mono, arith, drop-cons, drop_of_length-le}
use Rattle.std.proofs.lemmas.List.{length-reverse, get_or-reverse, get_or_default, get_or-drop}
use Rattle.echo_spec.specs.Trees.{bits_value}
use Rattle.vectors.specs.Values.{number}

-- (the port's side has the same number under another name)
pub number_is : (bs : List ℕ) → number bs ≡ bits_value bs
unfolding number bits_value
number_is [] = refl
number_is (b ∷ bs) = ap (λ (k : ℕ). b + 2 * k) (number_is bs)

-- r has the bits from place k up
pub record Upper (bits : List ℕ) (k r : ℕ) : Type 0 where
  pub room : k ≤ length bits
  pub value : r ≡ number (drop k bits)
  pub below : r < 2 ^ (length bits - k)

pub upper-start : (bits : List ℕ) → Upper bits (length bits) 0
unfolding number
upper-start bits =
    let e : length bits - length bits ≡ 0 = omega arith in
    let n : drop (length bits) bits ≡ [] = drop_of_length-le bits (omega arith) in
    record { room = omega arith; value = rw n refl; below = rw e (omega arith) }

pub upper-next : (bits : List ℕ) (k r : ℕ) → get_or bits (k - 1) 0 ≤ 1 → 0 < k → Upper bits k r → Upper bits (k - 1) (2 * r + get_or bits (k - 1) 0)
unfolding number
upper-next bits k r d p u =
    let room : k ≤ length bits = u.room in
    let e : length bits - (k - 1) ≡ suc (length bits - k) = omega arith in
    let q : suc (k - 1) ≡ k = omega arith in
    let m : drop (k - 1) bits ≡ get_or bits (k - 1) 0 ∷ drop k bits = rw q at (drop-cons bits (k - 1) 0 (omega arith)) in
    let v : r ≡ number (drop k bits) = u.value in
    let b : r < 2 ^ (length bits - k) = u.below in
    record { room = omega arith; value = rw m (omega arith); below = rw (e, pow-suc 2 (length bits - k)) (omega arith) }

-- the element that a walk from the last one back comes to, after n
pub from-back : (xs : List ℕ) (n x : ℕ) → (n < length (reverse xs)) × (x ≡ get_or (reverse xs) n x) → (n < length xs) × (x ≡ get_or xs (length xs - n - 1) 0)
from-back xs n x t =
    let l : n < length xs = omega (arith, t.0, length-reverse xs) in
    let y : length xs - 1 - n ≡ length xs - n - 1 = omega arith in
    (l, t.1 ∙ get_or-reverse xs n x l ∙ get_or_default xs (length xs - 1 - n) x 0 (omega arith) ∙ ap (λ (k : ℕ). get_or xs k 0) y)

pub upper-turn : (bits : List ℕ) (n b r : ℕ) → (n < length (reverse bits)) × (b ≡ get_or (reverse bits) n b) → ((k : ℕ) → get_or bits k 0 ≤ 1) → Upper bits (length bits - n) r
    → Upper bits (length bits - (n + 1)) (2 * r + b)
upper-turn bits n b r t d u =
    let f = from-back bits n b t in
    let l : n < length bits = f.0 in
    let z : length bits - (n + 1) ≡ length bits - n - 1 = omega arith in
    rw (z, f.1) (upper-next bits (length bits - n) r (d (length bits - n - 1)) (omega arith) u)

pub upper-whole : (bits : List ℕ) (r : ℕ) → Upper bits 0 r → (r ≡ number bits) × (r < 2 ^ length bits)
upper-whole bits r u = let p : length bits - 0 ≡ length bits = omega arith in (u.value, rw p at u.below)

-- there is room for one bit more
pub upper_fits : (bits : List ℕ) (k r : ℕ) → length bits ≤ 64 → 0 < k → Upper bits k r → r < 2 ^ 63
upper_fits bits k r h p u = let l : length bits - k ≤ 63 = omega arith in lt_of_lt_of_le u.below (pow_mono l)

-- a part of a list of digits
take-digits : (xs : List ℕ) → ((k : ℕ) → get_or xs k 0 ≤ 1) → (n k : ℕ) → get_or (take n xs) k 0 ≤ 1
take-digits [] d zero k = omega arith
take-digits [] d (suc n) k = omega arith
take-digits (x ∷ xs) d zero k = omega arith
take-digits (x ∷ xs) d (suc n) zero = d 0
take-digits (x ∷ xs) d (suc n) (suc k) = take-digits xs (λ j. d (suc j)) n k

pub part-digits : (bits : List ℕ) → ((k : ℕ) → get_or bits k 0 ≤ 1) → (start w k : ℕ) → get_or (take w (drop start bits)) k 0 ≤ 1
part-digits bits d start w k = take-digits (drop start bits) (λ j. rw (get_or-drop start bits j 0) (d (start + j))) w k

-- the same as a number
pub number_lt : (bits : List ℕ) (start w : ℕ) → ((k : ℕ) → get_or bits k 0 ≤ 1) → number (take w (drop start bits)) < 2 ^ w
unfolding number
number_lt [] zero zero h = omega arith
number_lt [] zero (suc w) h = pow_pos (suc w)
number_lt [] (suc start) zero h = omega arith
number_lt [] (suc start) (suc w) h = pow_pos (suc w)
number_lt (b ∷ bits) (suc start) w h = number_lt bits start w (λ k. h (suc k))
number_lt (b ∷ bits) zero zero h = omega arith
number_lt (b ∷ bits) zero (suc w) h =
    let r : number (take w (drop 0 bits)) < 2 ^ w = number_lt bits 0 w (λ k. h (suc k)) in
    let d : b ≤ 1 = h 0 in
    rw (pow-suc 2 w) (omega arith)
