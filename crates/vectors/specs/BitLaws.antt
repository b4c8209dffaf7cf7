-- Laws of `bit` and `vector`: they are inverse, and a vector is put together from two parts.
use Rattle.std.specs.Prelude.{ℕ, zero, suc, ◌+◌, ◌*◌, ◌/◌, ◌%◌, ◌^◌, ◌<◌, ◌≡◌, refl}
use Rattle.std.proofs.Common.{ap, ap₂, sym, ◌∙◌, add-one, one-add, arith, shr-shr, shr_lt}
use native.Mathlib.Nat.{add-zero, add_comm, add_assoc, mul_comm, mul-add, mul_assoc, mul-one, div-one, mod-lt, pow-suc, add-suc, suc-add, mod-eq_of_lt, add-mul-div_left, add-mul-mod_self_left, div-eq_of_lt, zero-add}
use Rattle.std.proofs.lemmas.Nat.{mod-pow-add}
use Rattle.vectors.specs.Vectors.{bit, vector}

two_pos : 0 < 2
two_pos = omega arith

pub bit-zero : (s : ℕ) → bit s 0 ≡ s % 2
unfolding bit
bit-zero s = rw div-one

pub bit-suc : (s x : ℕ) → bit s (suc x) ≡ bit (s / 2) x
unfolding bit
bit-suc s x = ap (λ (k : ℕ). s / 2 ^ k % 2) (sym (one-add x)) ∙ ap (λ (k : ℕ). k % 2) (sym (shr-shr s 1 x))

pub bit-add : (s j x : ℕ) → bit s (j + x) ≡ bit (s / 2 ^ j) x
unfolding bit
bit-add s j x = ap (λ (k : ℕ). k % 2) (sym (shr-shr s j x))

pub bit-lt : (s x : ℕ) → bit s x < 2
unfolding bit
bit-lt s x = mod-lt (s / 2 ^ x) two_pos

pub vector-ext : (m : ℕ) (f g : ℕ → ℕ) → ((x : ℕ) → x < m → f x ≡ g x) → vector m f ≡ vector m g
unfolding vector
vector-ext zero f g h = refl
vector-ext (suc m) f g h =
    ap₂ (λ (a b : ℕ). a + 2 * b) (h 0 (omega arith)) (vector-ext m (λ x. f (suc x)) (λ x. g (suc x)) (λ x l. h (suc x) (omega arith)))

pub vector-lt : (m : ℕ) (f : ℕ → ℕ) → ((x : ℕ) → f x < 2) → vector m f < 2 ^ m
unfolding vector
vector-lt zero f h = omega arith
vector-lt (suc m) f h =
    let l = vector-lt m (λ x. f (suc x)) (λ x. h (suc x)) in
    let d = h 0 in
    rw (pow-suc 2 m) (omega arith)

-- nat2bv of s, taken apart and put together again
pub vector-bits : (m s : ℕ) → vector m (bit s) ≡ s % 2 ^ m
unfolding vector
vector-bits zero s = sym (native.Mathlib.Nat.mod-one s)
vector-bits (suc m) s =
    let e : vector m (λ x. bit s (suc x)) ≡ s / 2 % 2 ^ m = vector-ext m (λ x. bit s (suc x)) (bit (s / 2)) (λ x l. bit-suc s x) ∙ vector-bits m (s / 2) in
    let p : s % 2 ^ (m + 1) ≡ (s / 2 % 2 ^ m) * 2 + s % 2 = mod-pow-add s m 1 in
    let q : m + 1 ≡ suc m = add-one m in
    let z : bit s 0 ≡ s % 2 = bit-zero s in
    let p' : s % 2 ^ suc m ≡ (s / 2 % 2 ^ m) * 2 + s % 2 = rw q at p in
    omega (arith, e, z, p')

pub vector-half : (m : ℕ) (f : ℕ → ℕ) → f 0 < 2 → vector (suc m) f / 2 ≡ vector m (λ x. f (suc x))
unfolding vector
vector-half m f h = omega arith

pub vector-odd : (m : ℕ) (f : ℕ → ℕ) → f 0 < 2 → vector (suc m) f % 2 ≡ f 0
unfolding vector
vector-odd m f h = omega arith

pub bit-vector : (m : ℕ) (f : ℕ → ℕ) → ((x : ℕ) → f x < 2) → (x : ℕ) → x < m → bit (vector m f) x ≡ f x
bit-vector zero f h x l = absurd (omega arith)
bit-vector (suc m) f h zero l = bit-zero (vector (suc m) f) ∙ vector-odd m f (h 0)
bit-vector (suc m) f h (suc x) l =
    bit-suc (vector (suc m) f) x ∙ ap (λ (n : ℕ). bit n x) (vector-half m f (h 0)) ∙ bit-vector m (λ y. f (suc y)) (λ y. h (suc y)) x (omega arith)

-- the lower n places, and the m above them
pub vector-split : (n m : ℕ) (f : ℕ → ℕ) → vector (n + m) f ≡ vector n f + 2 ^ n * vector m (λ x. f (n + x))
unfolding vector
vector-split zero m f =
    ap (λ (k : ℕ). vector k f) (zero-add m) ∙ vector-ext m f (λ x. f (0 + x)) (λ x l. ap f (sym (zero-add x)))
    ∙ (let z : vector m (λ x. f (0 + x)) ≡ 0 + 1 * vector m (λ x. f (0 + x)) = omega arith in z)
vector-split (suc n) m f =
    let e = vector-split n m (λ x. f (suc x)) in
    let g : vector m (λ x. f (suc (n + x))) ≡ vector m (λ x. f (suc n + x)) = vector-ext m _ _ (λ x l. ap f (sym (suc-add n x))) in
    let a : vector (suc n + m) f ≡ vector (suc (n + m)) f = ap (λ (k : ℕ). vector k f) (suc-add n m) in
    let q : 2 ^ suc n * vector m (λ x. f (suc n + x)) ≡ 2 * (2 ^ n * vector m (λ x. f (suc (n + x)))) =
    rw (← g, pow-suc 2 n, mul_comm (2 ^ n) 2) (mul_assoc 2 (2 ^ n) (vector m (λ x. f (suc (n + x))))) in
    a ∙ omega (arith, e, q)

-- two families whose digits add up to 1
pub vector-complement : (m : ℕ) (f g : ℕ → ℕ) → ((x : ℕ) → x < m → f x + g x ≡ 1) → vector m f + vector m g + 1 ≡ 2 ^ m
unfolding vector
vector-complement zero f g h = refl
vector-complement (suc m) f g h =
    let e = vector-complement m (λ x. f (suc x)) (λ x. g (suc x)) (λ x l. h (suc x) (omega arith)) in
    let d = h 0 (omega arith) in
    rw (pow-suc 2 m) (omega arith)

-- all ones
pub vector-ones : (m : ℕ) → vector m (λ x. 1) + 1 ≡ 2 ^ m
unfolding vector
vector-ones zero = refl
vector-ones (suc m) = let e = vector-ones m in rw (pow-suc 2 m) (omega arith)

pub vector-zeros : (m : ℕ) → vector m (λ x. 0) ≡ 0
unfolding vector
vector-zeros zero = refl
vector-zeros (suc m) = let e = vector-zeros m in omega arith

-- a digit-by-digit operation `op` of the machine is the vector of its digits
pub vector-op : (op : ℕ → ℕ → ℕ) (f g : ℕ → ℕ → ℕ)
    → op 0 0 ≡ 0
    → ((a b : ℕ) → op a b ≡ op (a / 2) (b / 2) * 2 + f (a % 2) (b % 2))
    → ((a b : ℕ) → a < 2 → b < 2 → g a b ≡ f a b)
    → (m s t : ℕ) → s < 2 ^ m → t < 2 ^ m → vector m (λ x. g (bit s x) (bit t x)) ≡ op s t
unfolding vector
vector-op op f g z step same zero s t hs ht =
    let a : s ≡ 0 = omega arith in
    let b : t ≡ 0 = omega arith in
    sym (rw (a, b) z)
vector-op op f g z step same (suc m) s t hs ht =
    let ls : s / 2 < 2 ^ m = shr_lt m 1 (rw (add-one m) hs) in
    let lt : t / 2 < 2 ^ m = shr_lt m 1 (rw (add-one m) ht) in
    let e : vector m (λ x. g (bit s (suc x)) (bit t (suc x))) ≡ op (s / 2) (t / 2) =
    vector-ext m _ _ (λ x l. ap₂ g (bit-suc s x) (bit-suc t x)) ∙ vector-op op f g z step same m (s / 2) (t / 2) ls lt in
    let d : g (bit s 0) (bit t 0) ≡ f (s % 2) (t % 2) =
    ap₂ g (bit-zero s) (bit-zero t) ∙ same (s % 2) (t % 2) (mod-lt s two_pos) (mod-lt t two_pos) in
    let p = step s t in
    omega (arith, e, d, p)
