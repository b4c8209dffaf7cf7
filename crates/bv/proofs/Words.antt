-- What the machine's operations on words of 64 places give, as the definitions of `vectors` have it.
use Rattle.std.proofs.Common.{◌≡◌, ℕ, ◌+◌, ◌-◌, ◌*◌, ◌/◌, ◌%◌, ◌^◌, ◌<◌, ◌≤◌, ◌⊎◌, inl, inr, Bool, true, false, cond, eqb→eq, sym, refl, ap, ◌∙◌, ap₂, add-zero, mod-lt, mod-eq_of_lt, zero-add, zero-mul, arith, pow_pos, shl_exact, shr_lt}
use mathlib.Core.Bool.{beq}
use native.Mathlib.Nat.{mul-one, div-one, mod-one, div-eq_of_lt, add-mod_right}
use Rattle.std.proofs.Math.Nat.{mod-add-mod}
use lib.Pow.{high, mod-mod-pow, ones_split, ones_lt}
use lib.Bits.{bit_and, bit_or, and_mask, or_shifted}
use Rattle.lists.specs.Tests.{true→T}
use Rattle.vectors.specs.Vectors.{nat2bv, repeat, msb, bvnot, bvneg, bvudiv, bvurem, bvsdiv, bvsrem, bvlshr, bvashr, concat, sign_extend, rotate_left, rotate_right, negative}
use Rattle.vectors.specs.VectorLaws as laws

-- ---------------------------------------------------------------- widths below the word's

pub ones-law : (w : ℕ) → 0 < w → w ≤ 64 → 18446744073709551615 / 2 ^ (64 - w) + 1 ≡ 2 ^ w
ones-law w p h =
    let e : w + (64 - w) ≡ 64 = omega arith in
    let k : ℕ = 64 - w in
    let q : 2 ^ (w + k) - 1 ≡ (2 ^ w - 1) * 2 ^ k + (2 ^ k - 1) = ones_split w k in
    let q' : 18446744073709551615 ≡ (2 ^ w - 1) * 2 ^ k + (2 ^ k - 1) = rw e at q in
    let d : 18446744073709551615 / 2 ^ k ≡ 2 ^ w - 1 = ap (λ (x : ℕ). x / 2 ^ k) q' ∙ high (2 ^ w - 1) k (ones_lt k) in
    let z = pow_pos w in
    omega (arith, d, z)

pub low-law : (w x o : ℕ) → o + 1 ≡ 2 ^ w → bit_and x o ≡ x % 2 ^ w
low-law w x o e = let q : o ≡ 2 ^ w - 1 = omega arith in ap (bit_and x) q ∙ and_mask x w

-- the word's own overflow does not show below it
pub mod-word : (w x : ℕ) → w ≤ 64 → x % 2 ^ 64 % 2 ^ w ≡ x % 2 ^ w
mod-word w x h =
    let e : (64 - w) + w ≡ 64 = omega arith in
    let q : x % 2 ^ ((64 - w) + w) % 2 ^ w ≡ x % 2 ^ w = mod-mod-pow x (64 - w) w in
    rw e at q

-- the w lowest places of what the word had cut before
pub cut-law : (w x y r : ℕ) → w ≤ 64 → y ≡ x % 2 ^ 64 → r ≡ y % 2 ^ w → r ≡ x % 2 ^ w
cut-law w x y r h e q = q ∙ rw e (mod-word w x h)

-- ---------------------------------------------------------------- the operators

-- the word r is the negation of s in 64 places
pub bvneg-law : (w s r : ℕ) → w ≤ 64 → s < 2 ^ w → (r + s) % 2 ^ 64 ≡ 0 → r % 2 ^ w ≡ bvneg w s
unfolding bvneg nat2bv
bvneg-law w s r h l e =
    let z : (r + s) % 2 ^ w ≡ 0 = sym (mod-word w (r + s) h) ∙ ap (λ (x : ℕ). x % 2 ^ w) e ∙ native.Mathlib.Nat.zero-mod (2 ^ w) in
    let p : r + 2 ^ w ≡ (r + s) + (2 ^ w - s) = omega arith in
    sym (add-mod_right r (2 ^ w)) ∙ ap (λ (x : ℕ). x % 2 ^ w) p ∙ sym (mod-add-mod (r + s) (2 ^ w) (2 ^ w - s))
    ∙ ap (λ (x : ℕ). (x + (2 ^ w - s)) % 2 ^ w) z ∙ ap (λ (x : ℕ). x % 2 ^ w) (zero-add (2 ^ w - s))

pub bvudiv-zero-law : (w s t o : ℕ) → t ≡ 0 → o + 1 ≡ 2 ^ w → o ≡ bvudiv w s t
bvudiv-zero-law w s t o e q = rw e (let z = laws.bvudiv-by-zero w s in omega arith)

pub bvurem-zero-law : (w s t : ℕ) → t ≡ 0 → s ≡ bvurem w s t
bvurem-zero-law w s t e = rw e (sym (laws.bvurem-by-zero w s))

pub concat-law : (n m s t : ℕ) → n + m ≤ 64 → s < 2 ^ n → t < 2 ^ m → bit_or ((s * 2 ^ m) % 2 ^ 64) t ≡ concat n m s t
concat-law n m s t h hs ht = ap (λ (k : ℕ). bit_or k t) (shl_exact n m 64 hs h) ∙ or_shifted s m t ht ∙ sym (laws.concat-is n m s t hs ht)

-- ---------------------------------------------------------------- extensions

pub sign-minus-law : (i m s o : ℕ) → negative m s ≡ true → o + 1 ≡ 2 ^ i → concat i m o s ≡ sign_extend i m s
unfolding sign_extend
sign-minus-law i m s o n e =
    let b : msb m s ≡ 1 = eqb→eq (msb m s) 1 (true→T n) in
    let q : repeat i 1 + 1 ≡ 2 ^ i = laws.repeat-ones i in
    let z : o ≡ repeat i 1 = omega arith in
    ap (λ (k : ℕ). concat i m k s) z ∙ ap (λ (k : ℕ). concat i m (repeat i k) s) (sym b)

pub sign-none-law : (i m s : ℕ) → i ≡ 0 → s < 2 ^ m → s ≡ sign_extend i m s
sign-none-law i m s e h = by_sign (negative m s) refl
  where
    by_sign : (b : Bool) → negative m s ≡ b → s ≡ sign_extend i m s
    by_sign false n = sym (laws.sign-extend-plus i m s h n)
    by_sign true n = sym (rw e (laws.sign-extend-minus 0 m s h n ∙ rw (zero-mul (2 ^ m)) (zero-add s)))

-- ---------------------------------------------------------------- rotations

-- of a vector s of width w, the l lowest places before the others
abbrev exchanged : ℕ → ℕ → ℕ → ℕ
exchanged w l s = s % 2 ^ l * 2 ^ (w - l) + s / 2 ^ l

-- none of them, or all
pub exchanged-none : (w l s : ℕ) → s < 2 ^ w → (l ≡ 0) ⊎ ((l ≡ 0 → ⊥) × (l ≡ w)) → s ≡ exchanged w l s
exchanged-none w l s h (inl e) = rw (e, mod-one s, zero-mul (2 ^ (w - 0)), div-one s) (sym (zero-add s))
exchanged-none w l s h (inr e) =
    let z : w - w ≡ 0 = omega arith in
    rw (e.1, mod-eq_of_lt h, z, mul-one s, div-eq_of_lt h) (sym (add-zero s))

pub above_lt : (w l s : ℕ) → l ≤ w → s < 2 ^ w → s / 2 ^ l < 2 ^ (w - l)
above_lt w l s h k = let q : (w - l) + l ≡ w = omega arith in shr_lt (w - l) l (rw q k)

pub exchanged-law : (w l s : ℕ) → l ≤ w → s < 2 ^ w → concat l (w - l) (s % 2 ^ l) (s / 2 ^ l) ≡ exchanged w l s
exchanged-law w l s h k = laws.concat-is l (w - l) (s % 2 ^ l) (s / 2 ^ l) (mod-lt s (pow_pos l)) (above_lt w l s h k)

pub rotate-left-law : (w s k : ℕ) → k < w → s < 2 ^ w → exchanged w (w - k) s ≡ rotate_left k w s
rotate-left-law w s k h l =
    let q : (w - k) + k ≡ w = omega arith in
    let z : w - (w - k) ≡ k = omega arith in
    let r : rotate_left k w s ≡ s % 2 ^ (w - k) * 2 ^ k + s / 2 ^ (w - k) = rw q at (laws.rotate-left-is k (w - k) s (rw q l)) in
    rw z (sym r)

pub rotate-right-law : (w s k : ℕ) → k < w → s < 2 ^ w → exchanged w k s ≡ rotate_right k w s
rotate-right-law w s k h l = let q : (w - k) + k ≡ w = omega arith in sym (rw q at (laws.rotate-right-is k (w - k) s (rw q l)))

-- ---------------------------------------------------------------- by the definition's own cases

module _ (f : ℕ → ℕ → ℕ) (g : ℕ → ℕ) (s s' t t' : ℕ) where
  -- a quotient's sign, and a remainder's
  abbrev quotient : Bool → Bool → ℕ
  quotient m n = cond m (cond n (f s' t') (g (f s' t))) (cond n (g (f s t')) (f s t))

  abbrev remainder : Bool → Bool → ℕ
  remainder m n = cond m (cond n (g (f s' t')) (g (f s' t))) (cond n (f s t') (f s t))

  quotient-same : (m n : Bool) → beq m n ≡ true → f (cond m s' s) (cond n t' t) ≡ quotient m n
  quotient-same true true e = refl
  quotient-same true false e = cc
  quotient-same false true e = cc
  quotient-same false false e = refl

  quotient-other : (m n : Bool) → beq m n ≡ false → g (f (cond m s' s) (cond n t' t)) ≡ quotient m n
  quotient-other true true e = cc
  quotient-other true false e = refl
  quotient-other false true e = refl
  quotient-other false false e = cc

  remainder-minus : (m n : Bool) → m ≡ true → g (f (cond m s' s) (cond n t' t)) ≡ remainder m n
  remainder-minus true true e = refl
  remainder-minus true false e = refl
  remainder-minus false n e = cc

  remainder-plus : (m n : Bool) → m ≡ false → f (cond m s' s) (cond n t' t) ≡ remainder m n
  remainder-plus false true e = refl
  remainder-plus false false e = refl
  remainder-plus true n e = cc

module _ (w s t : ℕ) where
  abbrev positive : ℕ → ℕ
  positive x = cond (negative w x) (bvneg w x) x

  pub sdiv-same : {a b q : ℕ} → a ≡ positive s → b ≡ positive t → q ≡ bvudiv w a b → beq (negative w s) (negative w t) ≡ true → q ≡ bvsdiv w s t
  unfolding bvsdiv
  sdiv-same i j u e = u ∙ ap₂ (bvudiv w) i j ∙ quotient-same (bvudiv w) (bvneg w) s (bvneg w s) t (bvneg w t) (negative w s) (negative w t) e

  pub sdiv-other : {a b q r : ℕ} → a ≡ positive s → b ≡ positive t → q ≡ bvudiv w a b → r ≡ bvneg w q → beq (negative w s) (negative w t) ≡ false → r ≡ bvsdiv w s t
  unfolding bvsdiv
  sdiv-other i j u k e = k ∙ ap (bvneg w) (u ∙ ap₂ (bvudiv w) i j) ∙ quotient-other (bvudiv w) (bvneg w) s (bvneg w s) t (bvneg w t) (negative w s) (negative w t) e

  pub srem-minus : {a b q r : ℕ} → a ≡ positive s → b ≡ positive t → q ≡ bvurem w a b → r ≡ bvneg w q → negative w s ≡ true → r ≡ bvsrem w s t
  unfolding bvsrem
  srem-minus i j u k e = k ∙ ap (bvneg w) (u ∙ ap₂ (bvurem w) i j) ∙ remainder-minus (bvurem w) (bvneg w) s (bvneg w s) t (bvneg w t) (negative w s) (negative w t) e

  pub srem-plus : {a b q : ℕ} → a ≡ positive s → b ≡ positive t → q ≡ bvurem w a b → negative w s ≡ false → q ≡ bvsrem w s t
  unfolding bvsrem
  srem-plus i j u e = u ∙ ap₂ (bvurem w) i j ∙ remainder-plus (bvurem w) (bvneg w) s (bvneg w s) t (bvneg w t) (negative w s) (negative w t) e

  pub ashr-minus : {a q r : ℕ} → negative w s ≡ true → a ≡ bvnot w s → q ≡ bvlshr w a t → r ≡ bvnot w q → r ≡ bvashr w s t
  unfolding bvashr
  ashr-minus n i j k = k ∙ ap (bvnot w) (j ∙ ap (λ (x : ℕ). bvlshr w x t) i) ∙ rw n refl

  pub ashr-plus : {r : ℕ} → negative w s ≡ false → r ≡ bvlshr w s t → r ≡ bvashr w s t
  unfolding bvashr
  ashr-plus n i = i ∙ rw n refl
