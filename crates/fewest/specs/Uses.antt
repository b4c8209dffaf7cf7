-- Which roots a problem shares an operator by: by none, by one beside the operands, or by two.
use Prim.Native.Nat.{ℕ, zero, suc, ◌+◌, ◌≤◌, ◌<◌}
use Rattle.std.specs.Prelude.{◌≡◌, Bool, ◌&&◌, ◌||◌, not, eqb, length, get_or}
use Rattle.std.proofs.Math.Path.{refl}
use Rattle.std.proofs.Common.{sym, ap, ◌∙◌, subst, arith}
use mathlib.Core.List.{List, [], ◌∷◌, ◌++◌}
use Rattle.std.proofs.Math.Bool.{true, false}
use Rattle.std.proofs.Math.Dec.{leb}
use borrow.Author.Tests.{eqb-true, eqb-false, eq-eqb, ne_eqb, le-leb, lt-leb, leb-true, leb-false}
use Rattle.lists.specs.Tests.{every_from, every-at, every-from, true→T, T→true}
use Rattle.echo_spec.specs.Shapes.{is_leaf}
use Rattle.echo_spec.specs.Input.{Node, shape, no_node}
use Rattle.echo_spec.specs.Sharing.{uses_of_all, count, used_once, unshared}

-- ---------------------------------------------------------------- definitions

-- node i is one, and neither a variable nor a constant
pub record Operator (ns : List Node) (i : ℕ) : Type 0 where
  pub inside : i < length ns
  pub inner : is_leaf (shape (get_or ns i no_node)) ≡ false

-- how often the operands use node i
abbrev pub uses : List Node → List ℕ → ℕ → ℕ
uses ns side i = count i (uses_of_all side ns)

-- ---------------------------------------------------------------- counts

pub count-append : (i : ℕ) (xs ys : List ℕ) → count i (xs ++ ys) ≡ count i xs + count i ys
unfolding count
count-append i [] ys = omega arith
count-append i (x ∷ xs) ys = go (eqb x i) (count-append i xs ys)
  where
    go : (b : Bool) → count i (xs ++ ys) ≡ count i xs + count i ys
        → (elim b [ true ↦ suc (count i (xs ++ ys)) | false ↦ count i (xs ++ ys) ]) ≡ (elim b [ true ↦ suc (count i xs) | false ↦ count i xs ]) + count i ys
    go true e = omega arith
    go false e = e

pub count_same : {i x : ℕ} (xs : List ℕ) → x ≡ i → count i (x ∷ xs) ≡ 1 + count i xs
unfolding count
count_same {i} {x} xs e = rw (eq-eqb x i e, count) (omega arith)

pub count-other : {i x : ℕ} (xs : List ℕ) → (x ≡ i → ⊥) → count i (x ∷ xs) ≡ count i xs
unfolding count
count-other {i} {x} xs e = rw (ne_eqb x i e, count) refl

pub count_none : (i : ℕ) → count i [] ≡ 0
unfolding count
count_none i = refl

-- by whether x is i
pub by-same : {C : Type 0} (x i : ℕ) → (x ≡ i → C) → ((x ≡ i → ⊥) → C) → C
by-same {C} x i f g = go (eqb x i) refl
  where
    go : (b : Bool) → eqb x i ≡ b → C
    go true e = f (eqb-true x i e)
    go false e = g (eqb-false x i e)

-- an element is there at least once
pub count-place : (xs : List ℕ) (k : ℕ) → k < length xs → 1 ≤ count (get_or xs k 0) xs
count-place [] k l = absurd (omega arith)
count-place (x ∷ xs) zero l = omega (arith, count_same {i = x} xs refl)
count-place (x ∷ xs) (suc k) l =
    let r = count-place xs k (omega arith) in
    by-same x (get_or xs k 0) (λ e. omega (arith, count_same xs e)) (λ e. omega (arith, count-other xs e))

-- and an element that is at two places is there twice
pub count-places : (xs : List ℕ) (j k : ℕ) → j < k → k < length xs → get_or xs j 0 ≡ get_or xs k 0 → 2 ≤ count (get_or xs j 0) xs
count-places [] j k u l e = absurd (omega arith)
count-places (x ∷ xs) zero zero u l e = absurd (omega arith)
count-places (x ∷ xs) zero (suc k) u l e =
    let r = count-place xs k (omega arith) in
    omega (arith, count_same {i = x} xs refl, subst (λ (z : ℕ). 1 ≤ count z xs) (sym e) r)
count-places (x ∷ xs) (suc j) zero u l e = absurd (omega arith)
count-places (x ∷ xs) (suc j) (suc k) u l e =
    let r = count-places xs j k (omega arith) (omega arith) e in
    by-same x (get_or xs j 0) (λ e. omega (arith, count_same xs e)) (λ e. omega (arith, count-other xs e))

-- a place that has i, the first
pub record Place (i : ℕ) (xs : List ℕ) (k : ℕ) : Type 0 where
  pub inside : k < length xs
  pub is : get_or xs k 0 ≡ i

pub place_of : (i : ℕ) (xs : List ℕ) → 1 ≤ count i xs → (k : ℕ) × Place i xs k
place_of i [] h = absurd (omega (arith, count_none i))
place_of i (x ∷ xs) h =
    by-same x i (λ e. (0, record { inside = omega arith; is = e }))
    (λ e. let (k, q) = place_of i xs (omega (arith, count-other xs e)) in (suc k, record { inside = let u = q.inside in omega arith; is = q.is }))

-- two places that have i
pub record Places (i : ℕ) (xs : List ℕ) (j k : ℕ) : Type 0 where
  pub rises : j < k
  pub first : Place i xs j
  pub second : Place i xs k

pub places_of : (i : ℕ) (xs : List ℕ) → 2 ≤ count i xs → (j : ℕ) × ((k : ℕ) × Places i xs j k)
places_of i [] h = absurd (omega (arith, count_none i))
places_of i (x ∷ xs) h =
    by-same x i
    (λ e.
    let (k, q) = place_of i xs (omega (arith, count_same xs e)) in
    (0, (suc k, record { rises = omega arith; first = record { inside = omega arith; is = e }; second = record { inside = let u = q.inside in omega arith; is = q.is } })))
    (λ e.
    let (j, (k, q)) = places_of i xs (omega (arith, count-other xs e)) in (
      suc j,
      (
        suc k,
        record {
          rises = let u = q.rises in omega arith;
          first = record { inside = let u = q.first.inside in omega arith; is = q.first.is };
          second = record { inside = let u = q.second.inside in omega arith; is = q.second.is };
        },
      ),
    ))

-- ---------------------------------------------------------------- what the check of sharing says

no-every : (q : ℕ → Bool) (a n : ℕ) → every_from q a n ≡ false → (k : ℕ) × ((a ≤ k) × ((k < a + n) × (q k ≡ false)))
no-every q a zero h = let z : ◌≡◌ {A = ℕ} 0 1 = cc in absurd (omega arith)
no-every q a (suc n) h = go (q a) refl h (λ e. no-every q (suc a) n e)
  where
    go : (b : Bool) → q a ≡ b → (b && every_from q (suc a) n) ≡ false → (every_from q (suc a) n ≡ false → (k : ℕ) × ((suc a ≤ k) × ((k < suc a + n) × (q k ≡ false))))
        → (k : ℕ) × ((a ≤ k) × ((k < a + suc n) × (q k ≡ false)))
    go true e f rest = let (k, (x, (y, z))) = rest f in (k, (omega arith, (omega arith, z)))
    go false e f rest = (a, (omega arith, (omega arith, e)))

or-false : (a b : Bool) → (a || b) ≡ false → (a ≡ false) × (b ≡ false)
or-false true b e = let z : ◌≡◌ {A = ℕ} 0 1 = cc in absurd (omega arith)
or-false false b e = (refl, e)

module _ (ns : List Node) (side : List ℕ) where
  -- one node
  once-few : (us : List ℕ) (i : ℕ) → used_once ns us i ≡ true → is_leaf (shape (get_or ns i no_node)) ≡ false → count i us ≤ 1
  unfolding used_once
  once-few us i h l = leb-true (count i us) 1 (rw l at h)

  once-many : (us : List ℕ) (i : ℕ) → used_once ns us i ≡ false → (is_leaf (shape (get_or ns i no_node)) ≡ false) × (1 < count i us)
  unfolding used_once
  once-many us i h =
      let (l, m) = or-false (is_leaf (shape (get_or ns i no_node))) (leb (count i us) 1) h in
      (l, leb-false (count i us) 1 m)

  few-once : (us : List ℕ) (i : ℕ) → (is_leaf (shape (get_or ns i no_node)) ≡ false → count i us ≤ 1) → used_once ns us i ≡ true
  unfolding used_once
  few-once us i h = go (is_leaf (shape (get_or ns i no_node))) h
    where
      go : (b : Bool) → (b ≡ false → count i us ≤ 1) → (b || leb (count i us) 1) ≡ true
      go true h = refl
      go false h = le-leb (count i us) 1 (h refl)

  many-once : (us : List ℕ) (i : ℕ) → is_leaf (shape (get_or ns i no_node)) ≡ false → 1 < count i us → used_once ns us i ≡ false
  unfolding used_once
  many-once us i l h = rw (l, lt-leb (count i us) 1 h) refl

  -- all nodes
  pub unshared-few : (rs : List ℕ) → unshared ns side rs ≡ true → (i : ℕ) → Operator ns i → uses ns side i + count i rs ≤ 1
  unfolding unshared
  unshared-few rs h i o =
      let us : List ℕ = uses_of_all side ns ++ rs in
      let t = T→true (used_once ns us i) (every-at (used_once ns us) 0 (length ns) (true→T h) i (omega arith) (omega (arith, o.inside))) in
      let f = once-few us i t o.inner in
      omega (arith, count-append i (uses_of_all side ns) rs)

  pub few-unshared : (rs : List ℕ) → ((i : ℕ) → Operator ns i → uses ns side i + count i rs ≤ 1) → unshared ns side rs ≡ true
  unfolding unshared
  few-unshared rs h =
      let us : List ℕ = uses_of_all side ns ++ rs in
      T→true (every_from (used_once ns us) 0 (length ns))
      (every-from (used_once ns us) 0 (length ns)
      λ i a l. true→T (few-once us i λ e. let f = h i (record { inside = omega arith; inner = e }) in omega (arith, count-append i (uses_of_all side ns) rs)))

  pub shared-many : (rs : List ℕ) → unshared ns side rs ≡ false → (i : ℕ) × (Operator ns i × (2 ≤ uses ns side i + count i rs))
  unfolding unshared
  shared-many rs h =
      let us : List ℕ = uses_of_all side ns ++ rs in
      let (i, (a, (l, e))) = no-every (used_once ns us) 0 (length ns) h in
      let (o, m) = once-many us i e in
      (i, (record { inside = omega arith; inner = o }, omega (arith, count-append i (uses_of_all side ns) rs)))

  pub many-shared : (rs : List ℕ) (i : ℕ) → Operator ns i → 2 ≤ uses ns side i + count i rs → unshared ns side rs ≡ false
  many-shared rs i o m = go (unshared ns side rs) refl
    where
      go : (b : Bool) → unshared ns side rs ≡ b → b ≡ false
      go true e = let f = unshared-few rs e i o in absurd (omega arith)
      go false e = refl

  -- a flag of the table of shared operators
  pub flag-set : (roots : List ℕ) (i : ℕ) → i < length ns → not (used_once ns (uses_of_all side ns ++ roots) i) ≡ true → Operator ns i × (2 ≤ uses ns side i + count i roots)
  flag-set roots i l h =
      let us : List ℕ = uses_of_all side ns ++ roots in
      let (o, m) = once-many us i (not-true (used_once ns us i) h) in
      (record { inside = l; inner = o }, omega (arith, count-append i (uses_of_all side ns) roots))
    where
      not-true : (b : Bool) → not b ≡ true → b ≡ false
      not-true true e = sym e
      not-true false e = refl

  pub flag-clear : (roots : List ℕ) (i : ℕ) → not (used_once ns (uses_of_all side ns ++ roots) i) ≡ false → Operator ns i → uses ns side i + count i roots ≤ 1
  flag-clear roots i h o =
      let us : List ℕ = uses_of_all side ns ++ roots in
      let f = once-few us i (not-false (used_once ns us i) h) o.inner in
      omega (arith, count-append i (uses_of_all side ns) roots)
    where
      not-false : (b : Bool) → not b ≡ false → b ≡ true
      not-false true e = refl
      not-false false e = sym e

  -- ---------------------------------------------------------------- no root, one, two

  pub one-shared : (x : ℕ) → Operator ns x → 1 ≤ uses ns side x → unshared ns side (x ∷ []) ≡ false
  one-shared x o h = many-shared (x ∷ []) x o (omega (arith, count_same {i = x} [] refl))

  pub two-shared : (x y : ℕ) → x ≡ y → Operator ns x → unshared ns side (x ∷ y ∷ []) ≡ false
  two-shared x y e o = many-shared (x ∷ y ∷ []) x o (omega (arith, count_same {i = x} (y ∷ []) refl, count_same {i = x} [] (sym e)))

  module _ (none : unshared ns side [] ≡ true) where
    pub one-unshared : (x : ℕ) → (Operator ns x → uses ns side x ≤ 0) → unshared ns side (x ∷ []) ≡ true
    one-unshared x h =
        few-unshared (x ∷ []) λ i o.
        let f = unshared-few [] none i o in
        by-same x i (λ e. let g = h (subst (λ (z : ℕ). Operator ns z) (sym e) o) in omega (arith, count_same [] e, count_none i, ap (uses ns side) e))
        (λ e. omega (arith, count-other [] e))

  module _ {x y : ℕ} (ux : unshared ns side (x ∷ []) ≡ true) (uy : unshared ns side (y ∷ []) ≡ true) where
    pub two-unshared : (x ≡ y → Operator ns x → ⊥) → unshared ns side (x ∷ y ∷ []) ≡ true
    two-unshared h =
        few-unshared (x ∷ y ∷ []) λ i o.
        let f = unshared-few (x ∷ []) ux i o in
        let g = unshared-few (y ∷ []) uy i o in
        by-same x i
        (λ e. by-same y i
        (λ k. absurd (h (e ∙ sym k) (subst (λ (z : ℕ). Operator ns z) (sym e) o)))
        (λ k. omega (arith, count_same (y ∷ []) e, count_same [] e, count-other [] k)))
        (λ e. omega (arith, count-other (y ∷ []) e))

  -- fewer roots share no more
  pub fewer-unshared : (roots rs : List ℕ) → unshared ns side roots ≡ true → ((i : ℕ) → count i rs ≤ count i roots) → unshared ns side rs ≡ true
  fewer-unshared roots rs h l = few-unshared rs λ i o. let f = unshared-few roots h i o in omega (arith, l i)

  -- the roots share an operator, and no root alone does: two do
  pub pair_of : (roots : List ℕ) → unshared ns side roots ≡ false → unshared ns side [] ≡ true → ((k : ℕ) → k < length roots → unshared ns side (get_or roots k 0 ∷ []) ≡ true)
      → (i : ℕ) × (Operator ns i × ((j : ℕ) × ((k : ℕ) × Places i roots j k)))
  pair_of roots h none alone =
      let (i, (o, m)) = shared-many roots h in
      let f = unshared-few [] none i o in
      let c : 1 ≤ count i roots = omega (arith, count_none i) in
      let (k, q) = place_of i roots c in
      let g = unshared-few (get_or roots k 0 ∷ []) (alone k q.inside) i o in
      (i, (o, places_of i roots (omega (arith, count_same [] q.is))))
