-- Laws: each operator of `Vectors` as the arithmetic that a machine does, and that its result is a vector of its width.
use Rattle.std.specs.Prelude.{ℕ, zero, suc, ◌+◌, ◌-◌, ◌*◌, ◌/◌, ◌%◌, ◌^◌, ◌≤◌, ◌<◌, min, max, ◌≡◌, refl, Bool, true, false, ◌||◌, not, cond}
use Rattle.std.proofs.Common.{ap, ap₂, sym, ◌∙◌, subst, add-one, one-add, arith, pow_pos, pow_mono, pow-add, shr-shr, shr_lt}
use native.Mathlib.Nat.{add_comm, add_assoc, mul_comm, mul_assoc, mul-one, zero-mul, mul-add, add-mul, mod-lt, mod-eq_of_lt, div-one, div-le_self, lt_of_le_of_lt, lt_of_lt_of_le, mul-mod_left, div-eq_of_lt, pow-suc, zero-add, add-zero, one-mul, mod-le, le_refl, sub-add_cancel}
use lib.Dec.{T, ltb, leb, eqb, eqb→eq, ltb→lt, leb→le, lt→ltb, le→leb, nltb→le, eqb_refl}
use Rattle.std.proofs.Math.Pow.{split, high, low}
use Rattle.std.proofs.lemmas.Nat.{mod-pow-add}
use Rattle.std.specs.Int.Bits.{bit_and, bit_or, bit_xor, and_step, or_step, xor_step, differ}
use Rattle.lists.specs.Tests.{T→true, true→T, not→false}
use Rattle.vectors.specs.Vectors.{bit, vector, nat2bv, concat, extract, bvnot, bvand, bvor, bvneg, bvadd, bvudiv, bvurem, bvshl, bvlshr, bvult, bvxor, bvsub, msb, negative, repeat, zero_extend, sign_extend, left_once, right_once, rotate_left, rotate_right, bvule, bvuge}
use Rattle.vectors.specs.BitLaws.{bit-add, bit-lt, vector-ext, vector-lt, vector-bits, bit-vector, vector-split, vector-complement, vector-ones, vector-op}

-- ---------------------------------------------------------------- digits

pub by_two : (P : ℕ → Type 0) → P 0 → P 1 → (a : ℕ) → a < 2 → P a
by_two P p q zero h = p
by_two P p q (suc zero) h = q
by_two P p q (suc (suc a)) h = absurd (omega arith)

abbrev and_digit : ℕ → ℕ → ℕ
and_digit a b = cond (eqb a 0) 0 b

abbrev or_digit : ℕ → ℕ → ℕ
or_digit a b = cond (eqb a 1) 1 b

abbrev not_digit : ℕ → ℕ
not_digit a = cond (eqb a 0) 1 0

and-digit-is : (a b : ℕ) → a < 2 → b < 2 → and_digit a b ≡ min a b
and-digit-is a b ha hb =
    by_two (λ (x : ℕ). and_digit x b ≡ min x b)
    (by_two (λ (y : ℕ). and_digit 0 y ≡ min 0 y) refl refl b hb)
    (by_two (λ (y : ℕ). and_digit 1 y ≡ min 1 y) refl refl b hb) a ha

or-digit-is : (a b : ℕ) → a < 2 → b < 2 → or_digit a b ≡ max a b
or-digit-is a b ha hb =
    by_two (λ (x : ℕ). or_digit x b ≡ max x b)
    (by_two (λ (y : ℕ). or_digit 0 y ≡ max 0 y) refl refl b hb)
    (by_two (λ (y : ℕ). or_digit 1 y ≡ max 1 y) refl refl b hb) a ha

xor-digit-is : (a b : ℕ) → a < 2 → b < 2 → or_digit (and_digit a (not_digit b)) (and_digit (not_digit a) b) ≡ differ a b
xor-digit-is a b ha hb =
    by_two (λ (x : ℕ). or_digit (and_digit x (not_digit b)) (and_digit (not_digit x) b) ≡ differ x b)
    (by_two (λ (y : ℕ). or_digit (and_digit 0 (not_digit y)) (and_digit (not_digit 0) y) ≡ differ 0 y) refl refl b hb)
    (by_two (λ (y : ℕ). or_digit (and_digit 1 (not_digit y)) (and_digit (not_digit 1) y) ≡ differ 1 y) refl refl b hb) a ha

cond-lt : (b : Bool) (x y m : ℕ) → x < m → y < m → cond b x y < m
cond-lt true x y m p q = p
cond-lt false x y m p q = q

not-digit-lt : (a : ℕ) → not_digit a < 2
not-digit-lt a = cond-lt (eqb a 0) 1 0 2 (omega arith) (omega arith)

and-digit-lt : (a b : ℕ) → b < 2 → and_digit a b < 2
and-digit-lt a b h = cond-lt (eqb a 0) 0 b 2 (omega arith) h

or-digit-lt : (a b : ℕ) → b < 2 → or_digit a b < 2
or-digit-lt a b h = cond-lt (eqb a 1) 1 b 2 (omega arith) h

not-digit-sum : (a : ℕ) → a < 2 → not_digit a + a ≡ 1
not-digit-sum a h = by_two (λ (x : ℕ). not_digit x + x ≡ 1) refl refl a h

-- ---------------------------------------------------------------- bit by bit

pub bvand-is : (m s t : ℕ) → s < 2 ^ m → t < 2 ^ m → bvand m s t ≡ bit_and s t
unfolding bvand
bvand-is = vector-op bit_and min and_digit refl and_step and-digit-is

pub bvor-is : (m s t : ℕ) → s < 2 ^ m → t < 2 ^ m → bvor m s t ≡ bit_or s t
unfolding bvor
bvor-is = vector-op bit_or max or_digit refl or_step or-digit-is

pub bvxor-is : (m s t : ℕ) → s < 2 ^ m → t < 2 ^ m → bvxor m s t ≡ bit_xor s t
unfolding bvxor bvor bvand bvnot
bvxor-is m s t hs ht =
    vector-ext m _ _
    (λ x l. ap₂ or_digit
    (bit-vector m (λ y. and_digit (bit s y) (bit (bvnot m t) y)) (λ y. and-digit-lt (bit s y) _ (bit-lt (bvnot m t) y)) x l
    ∙ ap (and_digit (bit s x)) (bit-vector m (λ y. not_digit (bit t y)) (λ y. not-digit-lt (bit t y)) x l))
    (bit-vector m (λ y. and_digit (bit (bvnot m s) y) (bit t y)) (λ y. and-digit-lt (bit (bvnot m s) y) _ (bit-lt t y)) x l
    ∙ ap (λ (k : ℕ). and_digit k (bit t x)) (bit-vector m (λ y. not_digit (bit s y)) (λ y. not-digit-lt (bit s y)) x l)))
    ∙ vector-op bit_xor differ (λ a b. or_digit (and_digit a (not_digit b)) (and_digit (not_digit a) b)) refl xor_step xor-digit-is m s t hs ht

pub bvnot-is : (m s : ℕ) → s < 2 ^ m → bvnot m s + s + 1 ≡ 2 ^ m
unfolding bvnot
bvnot-is m s h =
    let e : vector m (bit s) ≡ s = vector-bits m s ∙ mod-eq_of_lt h in
    rw e at (vector-complement m (λ x. not_digit (bit s x)) (bit s) (λ x l. not-digit-sum (bit s x) (bit-lt s x)))

-- ---------------------------------------------------------------- parts

pub extract-is : (i j s : ℕ) → extract i j s ≡ s / 2 ^ j % 2 ^ (i - j + 1)
unfolding extract
extract-is i j s = vector-ext (i - j + 1) _ _ (λ x l. bit-add s j x) ∙ vector-bits (i - j + 1) (s / 2 ^ j)

pub msb-is : (m s : ℕ) → 0 < m → s < 2 ^ m → msb m s ≡ s / 2 ^ (m - 1)
unfolding msb
msb-is m s p h =
    let e : (m - 1) - (m - 1) + 1 ≡ 1 = omega arith in
    let q : 1 + (m - 1) ≡ m = omega arith in
    let l : s / 2 ^ (m - 1) < 2 ^ 1 = shr_lt 1 (m - 1) (rw q h) in
    extract-is (m - 1) (m - 1) s ∙ rw e (mod-eq_of_lt l)

pub msb-lt : (m s : ℕ) → msb m s < 2
unfolding msb
msb-lt m s =
    let e : (m - 1) - (m - 1) + 1 ≡ 1 = omega arith in
    rw (extract-is (m - 1) (m - 1) s, e) (mod-lt (s / 2 ^ (m - 1)) {m = 2} (omega arith))

concat-low : (m : ℕ) (f g : ℕ → ℕ) (x : ℕ) → x < m → cond (ltb x m) (f x) (g (x - m)) ≡ f x
concat-low m f g x l = rw (T→true (ltb x m) (lt→ltb x m l)) refl

concat-high : (m : ℕ) (f g : ℕ → ℕ) (x : ℕ) → cond (ltb (m + x) m) (f (m + x)) (g ((m + x) - m)) ≡ g x
concat-high m f g x =
    let n : ltb (m + x) m ≡ false = not→false (ltb (m + x) m) (lib.Dec.not_T (ltb (m + x) m) (λ t. let l : m + x < m = ltb→lt (m + x) m t in omega arith)) in
    let e : (m + x) - m ≡ x = omega arith in
    rw (n, e) refl

pub concat-is : (n m s t : ℕ) → s < 2 ^ n → t < 2 ^ m → concat n m s t ≡ s * 2 ^ m + t
unfolding concat
concat-is n m s t hs ht =
    let f : ℕ → ℕ = λ x. cond (ltb x m) (bit t x) (bit s (x - m)) in
    let e : vector m f ≡ t = vector-ext m f (bit t) (λ x l. concat-low m (bit t) (bit s) x l) ∙ vector-bits m t ∙ mod-eq_of_lt ht in
    let h : vector n (λ x. f (m + x)) ≡ s = vector-ext n (λ x. f (m + x)) (bit s) (λ x l. concat-high m (bit t) (bit s) x) ∙ vector-bits n s ∙ mod-eq_of_lt hs in
    ap (λ (k : ℕ). vector k f) (add_comm n m) ∙ vector-split m n f ∙ ap₂ (λ (a b : ℕ). a + 2 ^ m * b) e h
    ∙ ap (λ (k : ℕ). t + k) (mul_comm (2 ^ m) s) ∙ add_comm t (s * 2 ^ m)

pub concat-lt : (n m s t : ℕ) → concat n m s t < 2 ^ (n + m)
unfolding concat
concat-lt n m s t = vector-lt (n + m) _ (λ x. cond-lt (ltb x m) (bit t x) (bit s (x - m)) 2 (bit-lt t x) (bit-lt s (x - m)))

pub repeat-zeros : (i : ℕ) → repeat i 0 ≡ 0
unfolding repeat
repeat-zeros zero = refl
repeat-zeros (suc i) = ap (concat 1 i 0) (repeat-zeros i) ∙ concat-is 1 i 0 0 (omega arith) (pow_pos i) ∙ rw (zero-mul (2 ^ i)) refl

pub repeat-ones : (i : ℕ) → repeat i 1 + 1 ≡ 2 ^ i
unfolding repeat
repeat-ones zero = refl
repeat-ones (suc i) =
    let e = repeat-ones i in
    let l : repeat i 1 < 2 ^ i = omega arith in
    let c : concat 1 i 1 (repeat i 1) ≡ 1 * 2 ^ i + repeat i 1 = concat-is 1 i 1 (repeat i 1) (omega arith) l in
    rw (pow-suc 2 i) (omega arith)

pub zero-extend-is : (i m s : ℕ) → s < 2 ^ m → zero_extend i m s ≡ s
unfolding zero_extend
zero-extend-is i m s h =
    ap (λ (k : ℕ). concat i m k s) (repeat-zeros i) ∙ concat-is i m 0 s (pow_pos i) h ∙ rw (zero-mul (2 ^ m)) (omega arith)

-- ---------------------------------------------------------------- arithmetic

pub nat2bv-lt : (m n : ℕ) → nat2bv m n < 2 ^ m
unfolding nat2bv
nat2bv-lt m n = mod-lt n (pow_pos m)

pub bvneg-zero : (m : ℕ) → bvneg m 0 ≡ 0
unfolding bvneg nat2bv
bvneg-zero m = rw (native.Mathlib.Nat.sub-zero (2 ^ m)) (native.Mathlib.Nat.mod_self (2 ^ m))

pub bvneg-is : (m s : ℕ) → 0 < s → s < 2 ^ m → bvneg m s + s ≡ 2 ^ m
unfolding bvneg nat2bv
bvneg-is m s p h = rw (mod-eq_of_lt {n = 2 ^ m - s} {m = 2 ^ m} (omega arith)) (sub-add_cancel (omega arith))

pub bvneg-lt : (m s : ℕ) → bvneg m s < 2 ^ m
unfolding bvneg
bvneg-lt m s = nat2bv-lt m (2 ^ m - s)

pub bvsub-no-borrow : (m s t : ℕ) → t ≤ s → s < 2 ^ m → bvsub m s t ≡ s - t
unfolding bvsub bvadd nat2bv
bvsub-no-borrow m s zero l h = rw (bvneg-zero m, add-zero s, native.Mathlib.Nat.sub-zero s) (mod-eq_of_lt h)
bvsub-no-borrow m s (suc t) l h =
    let e = bvneg-is m (suc t) (omega arith) (omega arith) in
    let q : s + bvneg m (suc t) ≡ (s - suc t) + 2 ^ m = omega arith in
    rw q (native.Mathlib.Nat.add-mod_right (s - suc t) (2 ^ m) ∙ mod-eq_of_lt (omega arith))

pub bvsub-borrow : (m s t : ℕ) → s < t → t < 2 ^ m → bvsub m s t + (t - s) ≡ 2 ^ m
unfolding bvsub bvadd nat2bv
bvsub-borrow m s t l h =
    let e = bvneg-is m t (omega arith) h in
    rw (mod-eq_of_lt {n = s + bvneg m t} {m = 2 ^ m} (omega arith)) (omega arith)

pub bvudiv-by-zero : (m s : ℕ) → bvudiv m s 0 + 1 ≡ 2 ^ m
unfolding bvudiv
bvudiv-by-zero m s = vector-ones m

eqb-pos : (t : ℕ) → 0 < t → eqb t 0 ≡ false
eqb-pos zero h = absurd (omega arith)
eqb-pos (suc t) h = lib.Dec.eqb-suc-zero t

pub bvudiv-is : (m s t : ℕ) → 0 < t → s < 2 ^ m → bvudiv m s t ≡ s / t
unfolding bvudiv nat2bv
bvudiv-is m s t p h = rw (eqb-pos t p) (mod-eq_of_lt (lt_of_le_of_lt (div-le_self s t) h))

pub bvurem-by-zero : (m s : ℕ) → bvurem m s 0 ≡ s
unfolding bvurem
bvurem-by-zero m s = refl

pub bvurem-is : (m s t : ℕ) → 0 < t → s < 2 ^ m → bvurem m s t ≡ s % t
unfolding bvurem nat2bv
bvurem-is m s t p h = rw (eqb-pos t p) (mod-eq_of_lt (lt_of_le_of_lt (mod-le s t) h))

-- ---------------------------------------------------------------- shifts

pub bvshl-far : (m s t : ℕ) → m ≤ t → bvshl m s t ≡ 0
unfolding bvshl nat2bv
bvshl-far m s t h =
    let e : t ≡ (t - m) + m = omega arith in
    ap (λ (k : ℕ). s * 2 ^ k % 2 ^ m) e ∙ ap (λ (k : ℕ). s * k % 2 ^ m) (pow-add 2 (t - m) m)
    ∙ ap (λ (k : ℕ). k % 2 ^ m) (sym (mul_assoc s (2 ^ (t - m)) (2 ^ m))) ∙ mul-mod_left (s * 2 ^ (t - m)) (2 ^ m)

pub bvlshr-far : (m s t : ℕ) → m ≤ t → s < 2 ^ m → bvlshr m s t ≡ 0
unfolding bvlshr nat2bv
bvlshr-far m s t h l = rw (div-eq_of_lt (lt_of_lt_of_le l (pow_mono h))) (mod-eq_of_lt (pow_pos m))

pub bvlshr-is : (m s t : ℕ) → s < 2 ^ m → bvlshr m s t ≡ s / 2 ^ t
unfolding bvlshr nat2bv
bvlshr-is m s t l = mod-eq_of_lt (lt_of_le_of_lt (div-le_self s (2 ^ t)) l)

-- ---------------------------------------------------------------- rotations

pub left-once-is : (k s : ℕ) → s < 2 ^ suc k → left_once (suc k) s ≡ (s % 2 ^ k) * 2 + s / 2 ^ k
unfolding left_once
left-once-is zero s h =
    let z : s % 1 ≡ 0 = native.Mathlib.Nat.mod-one s in
    let d : s / 1 ≡ s = div-one s in
    omega (arith, z, d)
left-once-is (suc k) s h =
    let e₁ : suc (suc k) - 1 ≡ suc k = omega arith in
    let e₂ : suc (suc k) - 2 ≡ k = omega arith in
    let e₃ : k - 0 + 1 ≡ suc k = omega arith in
    let f : eqb (suc (suc k)) 1 ≡ false = lib.Dec.eqb-suc-suc (suc k) 0 ∙ lib.Dec.eqb-suc-zero k in
    let x : extract k 0 s ≡ s % 2 ^ suc k = extract-is k 0 s ∙ rw (e₃, div-one s) refl in
    let y : msb (suc (suc k)) s ≡ s / 2 ^ suc k = msb-is (suc (suc k)) s (omega arith) h ∙ rw e₁ refl in
    let l : s / 2 ^ suc k < 2 ^ 1 = rw y at (msb-lt (suc (suc k)) s) in
    rw (f, e₁, e₂, x, y) (concat-is (suc k) 1 (s % 2 ^ suc k) (s / 2 ^ suc k) (mod-lt s (pow_pos (suc k))) l)

-- the a lowest places go up by i, the i highest come down
pub rotate-left-is : (i a s : ℕ) → s < 2 ^ (a + i) → rotate_left i (a + i) s ≡ (s % 2 ^ a) * 2 ^ i + s / 2 ^ a
unfolding rotate_left
rotate-left-is zero a s h =
    let h' : s < 2 ^ a = rw (add-zero a) at h in
    rw (mod-eq_of_lt h', div-eq_of_lt h') (omega arith)
rotate-left-is (suc i) a s h =
    let w : a + suc i ≡ suc (a + i) = native.Mathlib.Nat.add-suc a i in
    let w' : suc (a + i) ≡ suc a + i = sym (native.Mathlib.Nat.suc-add a i) in
    let h' : s < 2 ^ suc (a + i) = rw w at h in
    let lo : ℕ = s % 2 ^ a in
    let mid : ℕ = s / 2 ^ a % 2 ^ i in
    let hi : ℕ = s / 2 ^ (a + i) in
    let lo< : lo < 2 ^ a = mod-lt s (pow_pos a) in
    let hi< : hi < 2 ^ 1 = shr_lt 1 (a + i) (rw (one-add (a + i)) h') in
    -- the vector rotated once
    let t : ℕ = left_once (suc (a + i)) s in
    let lows : s % 2 ^ (a + i) ≡ mid * 2 ^ a + lo = ap (λ (k : ℕ). s % 2 ^ k) (add_comm a i) ∙ mod-pow-add s i a in
    let digit< : lo * 2 + hi < 2 ^ suc a = rw (pow-suc 2 a) (omega arith) in
    let e : t ≡ mid * 2 ^ suc a + (lo * 2 + hi) =
    left-once-is (a + i) s h' ∙ ap (λ (k : ℕ). k * 2 + hi) lows
    ∙ (let q : mid * 2 ^ suc a ≡ mid * 2 ^ a * 2 = ap (λ (k : ℕ). mid * k) (pow-suc 2 a) ∙ sym (mul_assoc mid (2 ^ a) 2) in omega (arith, q)) in
    let t< : t < 2 ^ (suc a + i) =
    rw e (lt_of_lt_of_le (lib.Arith.digits_lt {q = mid} {m = 2 ^ i} {r = lo * 2 + hi} {c = 2 ^ suc a} (mod-lt (s / 2 ^ a) (pow_pos i)) digit<)
    (native.Mathlib.Nat.le_of_eq (mul_comm (2 ^ i) (2 ^ suc a) ∙ sym (pow-add 2 (suc a) i)))) in
    let r : rotate_left i (suc a + i) t ≡ (t % 2 ^ suc a) * 2 ^ i + t / 2 ^ suc a = rotate-left-is i (suc a) t t< in
    let p : t % 2 ^ suc a ≡ lo * 2 + hi = rw e (low mid (suc a) digit<) in
    let q : t / 2 ^ suc a ≡ mid = rw e (high mid (suc a) digit<) in
    let u : s / 2 ^ a ≡ hi * 2 ^ i + mid = sym (split (s / 2 ^ a) i) ∙ ap (λ (k : ℕ). k * 2 ^ i + mid) (shr-shr s a i) in
    let v : (lo * 2 + hi) * 2 ^ i ≡ lo * 2 ^ suc i + hi * 2 ^ i =
    add-mul (lo * 2) hi (2 ^ i)
    ∙ ap (λ (k : ℕ). k + hi * 2 ^ i) (mul_assoc lo 2 (2 ^ i) ∙ ap (λ (k : ℕ). lo * k) (mul_comm 2 (2 ^ i) ∙ sym (pow-suc 2 i))) in
    ap (λ (k : ℕ). rotate_left i k (left_once k s)) w ∙ ap (λ (k : ℕ). rotate_left i k t) w' ∙ r
    ∙ ap₂ (λ (x y : ℕ). x * 2 ^ i + y) p q ∙ ap (λ (k : ℕ). k + mid) v
    ∙ add_assoc (lo * 2 ^ suc i) (hi * 2 ^ i) mid ∙ ap (λ (k : ℕ). lo * 2 ^ suc i + k) (sym u)

pub right-once-is : (k s : ℕ) → s < 2 ^ suc k → right_once (suc k) s ≡ (s % 2) * 2 ^ k + s / 2
unfolding right_once
right-once-is zero s h = let l : s < 2 = h in omega arith
right-once-is (suc k) s h =
    let e₁ : suc (suc k) - 1 ≡ suc k = omega arith in
    let e₂ : suc k - 1 + 1 ≡ suc k = omega arith in
    let f : eqb (suc (suc k)) 1 ≡ false = lib.Dec.eqb-suc-suc (suc k) 0 ∙ lib.Dec.eqb-suc-zero k in
    let l : s / 2 < 2 ^ suc k = shr_lt (suc k) 1 (rw (add-one (suc k)) h) in
    let x : extract 0 0 s ≡ s % 2 = extract-is 0 0 s ∙ ap (λ (n : ℕ). n % 2) (div-one s) in
    let y : extract (suc k) 1 s ≡ s / 2 = extract-is (suc k) 1 s ∙ rw e₂ (mod-eq_of_lt l) in
    rw (f, e₁, x, y) (concat-is 1 (suc k) (s % 2) (s / 2) (mod-lt s (pow_pos 1)) l)

-- the i lowest places go to the top, the a above them come down by i
pub rotate-right-is : (i a s : ℕ) → s < 2 ^ (a + i) → rotate_right i (a + i) s ≡ (s % 2 ^ i) * 2 ^ a + s / 2 ^ i
unfolding rotate_right
rotate-right-is zero a s h =
    let z : s % 1 ≡ 0 = native.Mathlib.Nat.mod-one s in
    let d : s / 1 ≡ s = div-one s in
    rw (z, d, zero-mul (2 ^ a)) (omega arith)
rotate-right-is (suc i) a s h =
    let w : a + suc i ≡ suc (a + i) = native.Mathlib.Nat.add-suc a i in
    let w' : suc (a + i) ≡ suc a + i = sym (native.Mathlib.Nat.suc-add a i) in
    let h' : s < 2 ^ suc (a + i) = rw w at h in
    let lo : ℕ = s % 2 in
    let mid : ℕ = s / 2 % 2 ^ i in
    let hi : ℕ = s / 2 / 2 ^ i in
    let mid< : mid < 2 ^ i = mod-lt (s / 2) (pow_pos i) in
    let t : ℕ = right_once (suc (a + i)) s in
    let half< : s / 2 < 2 ^ (a + i) = shr_lt (a + i) 1 (rw (add-one (a + i)) h') in
    let t₀ : t ≡ lo * 2 ^ (a + i) + s / 2 = right-once-is (a + i) s h' in
    let e : t ≡ (lo * 2 ^ a + hi) * 2 ^ i + mid =
    t₀ ∙ ap₂ (λ (x y : ℕ). x + y) (ap (λ (k : ℕ). lo * k) (pow-add 2 a i) ∙ sym (mul_assoc lo (2 ^ a) (2 ^ i))) (sym (split (s / 2) i))
    ∙ sym (add_assoc (lo * 2 ^ a * 2 ^ i) (hi * 2 ^ i) mid) ∙ ap (λ (k : ℕ). k + mid) (sym (add-mul (lo * 2 ^ a) hi (2 ^ i))) in
    let t< : t < 2 ^ (suc a + i) =
    rw (t₀, ← w', pow-suc 2 (a + i)) (
    let d : lo < 2 = mod-lt s (pow_pos 1) in
    let m : lo * 2 ^ (a + i) ≤ 1 * 2 ^ (a + i) = native.Mathlib.Nat.mul-le-mul_right (2 ^ (a + i)) (omega arith) in
    omega arith) in
    let r : rotate_right i (suc a + i) t ≡ (t % 2 ^ i) * 2 ^ suc a + t / 2 ^ i = rotate-right-is i (suc a) t t< in
    let p : t % 2 ^ i ≡ mid = rw e (low (lo * 2 ^ a + hi) i mid<) in
    let q : t / 2 ^ i ≡ lo * 2 ^ a + hi = rw e (high (lo * 2 ^ a + hi) i mid<) in
    let u : s % 2 ^ suc i ≡ mid * 2 + lo = ap (λ (k : ℕ). s % 2 ^ k) (sym (add-one i)) ∙ mod-pow-add s i 1 in
    let v : s / 2 ^ suc i ≡ hi = ap (λ (k : ℕ). s / 2 ^ k) (sym (one-add i)) ∙ sym (shr-shr s 1 i) in
    let x : mid * 2 ^ suc a ≡ mid * 2 * 2 ^ a = ap (λ (k : ℕ). mid * k) (pow-suc 2 a ∙ mul_comm (2 ^ a) 2) ∙ sym (mul_assoc mid 2 (2 ^ a)) in
    ap (λ (k : ℕ). rotate_right i k (right_once k s)) w ∙ ap (λ (k : ℕ). rotate_right i k t) w' ∙ r
    ∙ ap₂ (λ (x y : ℕ). x * 2 ^ suc a + y) p q ∙ ap (λ (k : ℕ). k + (lo * 2 ^ a + hi)) x
    ∙ sym (add_assoc (mid * 2 * 2 ^ a) (lo * 2 ^ a) hi) ∙ ap (λ (k : ℕ). k + hi) (sym (add-mul (mid * 2) lo (2 ^ a)))
    ∙ sym (ap₂ (λ (x y : ℕ). x * 2 ^ a + y) u v)

-- ---------------------------------------------------------------- the sign

pub sign-extend-plus : (i m s : ℕ) → s < 2 ^ m → negative m s ≡ false → sign_extend i m s ≡ s
unfolding sign_extend zero_extend
sign-extend-plus i m s h n =
    let z : msb m s ≡ 0 = by_two (λ (x : ℕ). eqb x 1 ≡ false → x ≡ 0) (λ e. refl) (λ e. absurd (subst T e tt)) (msb m s) (msb-lt m s) n in
    rw z (zero-extend-is i m s h)

pub sign-extend-minus : (i m s : ℕ) → s < 2 ^ m → negative m s ≡ true → sign_extend i m s ≡ (2 ^ i - 1) * 2 ^ m + s
unfolding sign_extend
sign-extend-minus i m s h n =
    let z : msb m s ≡ 1 = eqb→eq (msb m s) 1 (true→T n) in
    let e = repeat-ones i in
    let q : repeat i 1 ≡ 2 ^ i - 1 = omega arith in
    rw z (concat-is i m (repeat i 1) s (omega arith) h ∙ ap (λ (k : ℕ). k * 2 ^ m + s) q)

-- `negative` is the top place
pub negative-is : (m s : ℕ) → 0 < m → s < 2 ^ m → negative m s ≡ eqb (s / 2 ^ (m - 1)) 1
negative-is m s p h = ap (λ (k : ℕ). eqb k 1) (msb-is m s p h)

-- ---------------------------------------------------------------- comparisons

-- two tests that pass alike
pub alike : (a b : Bool) → (T a → T b) → (T b → T a) → a ≡ b
alike true true f g = refl
alike true false f g = absurd (f tt)
alike false true f g = absurd (g tt)
alike false false f g = refl

pub bvule-is : (s t : ℕ) → bvule s t ≡ leb s t
unfolding bvule bvult
bvule-is s t = alike (ltb s t || eqb s t) (leb s t) there back
  where
    there : T (ltb s t || eqb s t) → T (leb s t)
    there h = go (ltb s t) refl h
      where
        go : (b : Bool) → ltb s t ≡ b → T (b || eqb s t) → T (leb s t)
        go true e k = le→leb s t (let l : s < t = ltb→lt s t (true→T e) in omega arith)
        go false e k = le→leb s t (let q : s ≡ t = eqb→eq s t k in omega arith)

    back : T (leb s t) → T (ltb s t || eqb s t)
    back h = go (ltb s t) refl
      where
        go : (b : Bool) → ltb s t ≡ b → T (b || eqb s t)
        go true e = tt
        go false e =
            let far : t ≤ s = nltb→le s t (subst (λ (x : Bool). T (not x)) (sym e) tt) in
            let near : s ≤ t = leb→le s t h in
            let q : s ≡ t = omega arith in
            rw q (eqb_refl t)

eqb_comm : (s t : ℕ) → eqb s t ≡ eqb t s
eqb_comm s t = alike (eqb s t) (eqb t s) (λ h. rw (eqb→eq s t h) (eqb_refl t)) (λ h. rw (eqb→eq t s h) (eqb_refl s))

pub bvuge-is : (s t : ℕ) → bvule t s ≡ bvuge s t
unfolding bvule bvuge
bvuge-is s t = ap (λ (b : Bool). bvult t s || b) (eqb_comm t s)
