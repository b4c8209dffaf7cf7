-- Laws of scripts that agree, and of the earliest that does not.
use Rattle.std.specs.Prelude.{ℕ, suc, ◌<◌, ◌≡◌, refl, List, [], ◌∷◌, ◌++◌, Bool, true, false, ◌&&◌, not, T, eqb, length}
use Rattle.std.proofs.Common.{ap, sym, ◌∙◌, subst, append_assoc, arith, eqb→eq, length-append}
use Rattle.std.proofs.Math.Option.{Option, none, some}
use Rattle.std.proofs.Math.Dec.{eqb_refl}
use Rattle.std.proofs.Math.ListN.{get_elem?}
use Rattle.lists.specs.Tests.{same, same→eq, same_refl, and_T, and_0, and-1, true→T, T→true}
use Rattle.lists.specs.Places.{at_less, at-append, at-seam}
use Rattle.releases.specs.Release.{Meaning, a_variable, an_array, a_function, same_meaning, Declared, any_of, differ, disagree, earliest, all_declared}
use Rattle.reading.specs.Trees.{Declarations}
use Rattle.releases.specs.ReleaseLaws.{none_of, one_of, Agree, Differing, At, at_left, AgreeTo, Earliest}

-- ---------------------------------------------------------------- meanings

-- the test of meanings is equality
pub meaning-equal : (m m' : Meaning) → T (same_meaning m m') → m ≡ m'
unfolding same_meaning
meaning-equal (a_variable w) (a_variable w') h = ap a_variable (eqb→eq w w' h)
meaning-equal (a_variable w) (an_array i v) h = absurd h
meaning-equal (a_variable w) (a_function ws v) h = absurd h
meaning-equal (an_array i v) (a_variable w) h = absurd h
meaning-equal (an_array i v) (an_array i' v') h =
    let a : i ≡ i' = eqb→eq i i' (and_0 (eqb i i') (eqb v v') h) in
    let b : v ≡ v' = eqb→eq v v' (and-1 (eqb i i') (eqb v v') h) in
    rw (a, b) refl
meaning-equal (an_array i v) (a_function ws w) h = absurd h
meaning-equal (a_function ws w) (a_variable v) h = absurd h
meaning-equal (a_function ws w) (an_array i v) h = absurd h
meaning-equal (a_function ws w) (a_function ws' w') h =
    let a : ws ≡ ws' = same→eq ws ws' (and_0 (same ws ws') (eqb w w') h) in
    let b : w ≡ w' = eqb→eq w w' (and-1 (same ws ws') (eqb w w') h) in
    rw (a, b) refl

pub meaning-same : (m : Meaning) → T (same_meaning m m)
unfolding same_meaning
meaning-same (a_variable w) = eqb_refl w
meaning-same (an_array i v) = and_T (eqb i i) (eqb v v) (eqb_refl i) (eqb_refl v)
meaning-same (a_function ws w) = and_T (same ws ws) (eqb w w) (same_refl ws) (eqb_refl w)

-- two declarations differ exactly where they are of one name and do not mean the same
pub differ-not : (x y : Declared) → differ x y ≡ false → T (same x.name y.name) → x.meaning ≡ y.meaning
unfolding differ
differ-not x y e n = by-test (same_meaning x.meaning y.meaning) refl (rw (T→true (same x.name y.name) n) at e)
  where
    by-test : (b : Bool) → same_meaning x.meaning y.meaning ≡ b → not b ≡ false → x.meaning ≡ y.meaning
    by-test true q e = meaning-equal x.meaning y.meaning (true→T q)
    by-test false q e = absurd (true→T (sym e))

pub differ-so : (x y : Declared) → differ x y ≡ true → (x.name ≡ y.name) × (x.meaning ≡ y.meaning → ⊥)
unfolding differ
differ-so x y e =
    let t : T (same x.name y.name && not (same_meaning x.meaning y.meaning)) = true→T e in (
      same→eq x.name y.name (and_0 (same x.name y.name) (not (same_meaning x.meaning y.meaning)) t),
      λ q. not-both (same_meaning x.meaning y.meaning) (subst (λ (m : Meaning). T (same_meaning x.meaning m)) q (meaning-same x.meaning)) (and-1 (same x.name y.name) (not (same_meaning x.meaning y.meaning)) t),
    )
  where
    not-both : (b : Bool) → T b → T (not b) → ⊥
    not-both true h k = k
    not-both false h k = h

-- ---------------------------------------------------------------- scripts that disagree

pub agree-if-not : (D E : Declarations) → disagree D E ≡ false → Agree D E
unfolding disagree
agree-if-not D E e x y (i, d) (j, f) n =
    let a : any_of (differ x) (all_declared E) ≡ false = none_of (λ x. any_of (differ x) (all_declared E)) (all_declared D) e i x d in
    let b : differ x y ≡ false = none_of (differ x) (all_declared E) a j y f in
    differ-not x y b (subst (λ (m : List ℕ). T (same x.name m)) n (same_refl x.name))

pub differing : (D E : Declarations) → disagree D E ≡ true → Differing D E
unfolding disagree
differing D E e =
    let (i, x, d, a) = one_of (λ x. any_of (differ x) (all_declared E)) (all_declared D) e in
    let (j, y, f, b) = one_of (differ x) (all_declared E) a in
    let (n, m) = differ-so x y b in
    record { here = x; there = y; in_this = (i, d); in_that = (j, f); name = n; apart = m }

-- ---------------------------------------------------------------- the earliest

one : {A : Type 0} → (x y : A) → some x ≡ some y → x ≡ y
one x y e = cc

abbrev Answers : List Declarations → Option ℕ → Type 0
Answers Ds none = AgreeTo Ds (length Ds)
Answers Ds (some k) = Earliest Ds k

more-agree : (Ds : List Declarations) (n : ℕ) (D : Declarations) → At Ds n D → AgreeTo Ds n → ((j : ℕ) (E : Declarations) → j < n → At Ds j E → Agree D E) → AgreeTo Ds (suc n)
more-agree Ds n D a h new i j F E l m f e = by_last (eqb i n) refl
  where
    by_last : (b : Bool) → eqb i n ≡ b → Agree F E
    by_last true q =
        let p : i ≡ n = eqb→eq i n (true→T q) in
        let w : F ≡ D = one F D (sym f ∙ ap (get_elem? Ds) p ∙ a) in
        subst (λ (G : Declarations). Agree G E) (sym w) (new j E (omega arith) e)
    by_last false q = h i j F E (below q) m f e
      where
        below : eqb i n ≡ false → i < n
        below q = let p : i ≡ n → ⊥ = λ p. absurd (subst T q (subst (λ (k : ℕ). T (eqb i k)) p (eqb_refl i))) in omega arith

from : (before Ds : List Declarations) → AgreeTo (before ++ Ds) (length before) → Answers (before ++ Ds) (earliest (length before) before Ds)
unfolding earliest
from before [] h = subst (λ (n : ℕ). AgreeTo (before ++ []) n) (let e = length-append before [] in omega (arith, e)) h
from before (D ∷ Ds) h = by-test (any_of (disagree D) before) refl (λ k. from (before ++ (D ∷ [])) Ds k)
  where
    whole : (before ++ (D ∷ [])) ++ Ds ≡ before ++ (D ∷ Ds)
    whole = append_assoc before (D ∷ []) Ds

    longer : length (before ++ (D ∷ [])) ≡ suc (length before)
    longer = let e = length-append before (D ∷ []) in omega (arith, e)

    by-test : (b : Bool) → any_of (disagree D) before ≡ b
        → (AgreeTo ((before ++ (D ∷ [])) ++ Ds) (length (before ++ (D ∷ []))) → Answers ((before ++ (D ∷ [])) ++ Ds) (earliest (length (before ++ (D ∷ []))) (before ++ (D ∷ [])) Ds))
        → Answers (before ++ (D ∷ Ds)) (elim b as (λ _. Option ℕ) [ true ↦ some (length before) | false ↦ earliest (suc (length before)) (before ++ (D ∷ [])) Ds ])
    by-test true e rest =
        let (j, E, a, d) = one_of (disagree D) before e in
        record {
          other = j;
          before = at_less before j E a;
          this = D;
          that = E;
          this_at = at-seam before D Ds;
          that_at = at-append before (D ∷ Ds) j E a;
          differing = differing D E d;
          others = h;
        }
    by-test false e rest =
        let g : AgreeTo (before ++ (D ∷ Ds)) (suc (length before)) = more-agree (before ++ (D ∷ Ds)) (length before) D (at-seam before D Ds) h
        (λ j E l a. agree-if-not D E (none_of (disagree D) before e j E (at_left before (D ∷ Ds) j E l a))) in
        subst (λ (Es : List Declarations). Answers Es (earliest (suc (length before)) (before ++ (D ∷ [])) Ds)) whole
        (subst (λ (n : ℕ). Answers ((before ++ (D ∷ [])) ++ Ds) (earliest n (before ++ (D ∷ [])) Ds)) longer
        (rest (subst (λ (Es : List Declarations). AgreeTo Es (length (before ++ (D ∷ [])))) (sym whole) (subst (λ (n : ℕ). AgreeTo (before ++ (D ∷ Ds)) n) (sym longer) g))))

-- Where no script is told, each agrees with each before it; the script that is told is the earliest that does not.
pub earliest-none : (Ds : List Declarations) → earliest 0 [] Ds ≡ none → AgreeTo Ds (length Ds)
earliest-none Ds e = subst (Answers Ds) e (from [] Ds (λ i j D E l. absurd (omega arith)))

pub earliest-some : (Ds : List Declarations) (k : ℕ) → earliest 0 [] Ds ≡ some k → Earliest Ds k
earliest-some Ds k e = subst (Answers Ds) e (from [] Ds (λ i j D E l. absurd (omega arith)))
