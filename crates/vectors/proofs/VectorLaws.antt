-- Laws: the signed comparisons by the signs and the order of the numbers.
use Rattle.std.specs.Prelude.{ℕ, ◌<◌, ◌≡◌, refl, Bool, true, false, ◌&&◌, ◌||◌, cond}
use lib.Dec.{ltb, leb, eqb}
use Rattle.vectors.specs.Vectors.{bvult, msb, negative, bvslt, bvsle}
use Rattle.vectors.specs.VectorLaws.{by_two, msb-lt, bvule-is}

-- ---------------------------------------------------------------- comparisons

signed : (x y : ℕ) (u : Bool) → x < 2 → y < 2 → ((eqb x 1 && eqb y 0) || (eqb x y && u)) ≡ cond (eqb x 1) (cond (eqb y 1) u true) (cond (eqb y 1) false u)
signed x y u hx hy =
    by_two (λ (a : ℕ). ((eqb a 1 && eqb y 0) || (eqb a y && u)) ≡ cond (eqb a 1) (cond (eqb y 1) u true) (cond (eqb y 1) false u))
    (by_two (λ (b : ℕ). ((eqb 0 1 && eqb b 0) || (eqb 0 b && u)) ≡ cond (eqb 0 1) (cond (eqb b 1) u true) (cond (eqb b 1) false u)) refl refl y hy)
    (by_two (λ (b : ℕ). ((eqb 1 1 && eqb b 0) || (eqb 1 b && u)) ≡ cond (eqb 1 1) (cond (eqb b 1) u true) (cond (eqb b 1) false u)) refl refl y hy) x hx

pub bvslt-is : (m s t : ℕ) → bvslt m s t ≡ cond (negative m s) (cond (negative m t) (ltb s t) true) (cond (negative m t) false (ltb s t))
unfolding bvslt bvult
bvslt-is m s t = signed (msb m s) (msb m t) (ltb s t) (msb-lt m s) (msb-lt m t)

pub bvsle-is : (m s t : ℕ) → bvsle m s t ≡ cond (negative m s) (cond (negative m t) (leb s t) true) (cond (negative m t) false (leb s t))
unfolding bvsle
bvsle-is m s t = rw (bvule-is s t) (signed (msb m s) (msb m t) (leb s t) (msb-lt m s) (msb-lt m t))
