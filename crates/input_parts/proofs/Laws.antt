-- The code's table is the definition's, and a column is filled from the front. Assumes nothing.
use Rattle.std.proofs.Common.{◌≡◌, ℕ, zero, suc, ◌+◌, ◌≤◌, ◌<◌, Bool, ◌&&◌, T, eqb, leb, eqb→eq, leb→le, List, [], ◌∷◌, ◌++◌, length, map, drop, get_or, set, refl, ap, sym, ◌∙◌, subst, add-one, arith, mul-le-mul_right}
use Rattle.std.proofs.Math.ListN.{get_or-map}
use native.Mathlib.Nat.{le_of_suc-le-suc, not-suc-le-zero}
use Rattle.lists.specs.Tests.{every-at, and_0, and-1}
use Rattle.lists.specs.Build.{tabulate}
use Rattle.input_parts.specs.declared.Elements.{Elements}
use Rattle.input_parts.specs.declared.Elements.TheVariants.{Bytes, Numbers}
use Rattle.input_parts.specs.declared.Input.{Input}
use Rattle.input_parts.specs.declared.Part.{Part}
use Rattle.input_parts.specs.Parts.{sizes, size_of, rooms, room_of, part_at}
use Rattle.input_parts.specs.Lying.{Lies}

-- ---------------------------------------------------------------- a column

fill_suc : (f : ℕ → ℕ) (n : ℕ) (d : List ℕ) → n < length d → set (tabulate n f ++ drop n d) n (f n) ≡ tabulate (suc n) f ++ drop (suc n) d
fill_suc f n [] l = absurd (not-suc-le-zero l)
fill_suc f zero (x ∷ d) l = refl
fill_suc f (suc n) (x ∷ d) l = ap (λ (t : List ℕ). f 0 ∷ t) (fill_suc (λ i. f (suc i)) n d (le_of_suc-le-suc l))

-- the first i places of `out` are those of f, and the rest is as it was
pub record Filling (f : ℕ → ℕ) (lent out : List ℕ) (i : ℕ) : Type 0 where
  pub within : i ≤ length lent
  pub now : out ≡ tabulate i f ++ drop i lent

module _ {f : ℕ → ℕ} {lent out : List ℕ} {i : ℕ} (h : Filling f lent out i) where
  pub fill-next : {v : ℕ} → i < length lent → v ≡ f i → Filling f lent (set out i v) (i + 1)
  fill-next {v} l e =
      record {
        within = omega arith;
        now = (λ j. set (h.now j) i (e j)) ∙ rw add-one (fill_suc f i lent l);
      }

-- ---------------------------------------------------------------- one input

-- what the code's table has of an input
pub elements-in : (table : List Input) (k : ℕ) (past : Input) → (get_or table k past).2 ≡ get_or (map (λ i. i.2) table) k past.2
elements-in table k past = sym (get_or-map (λ i. i.2) table k past)

pub limit-in : (table : List Input) (k : ℕ) (past : Input) → (get_or table k past).1 ≡ get_or (map (λ i. i.1) table) k past.1
limit-in table k past = sym (get_or-map (λ i. i.1) table k past)

abbrev elements : List Elements
elements =
    Bytes ∷ Bytes ∷ Numbers ∷ Numbers ∷ Bytes ∷ Numbers ∷ Numbers ∷ Numbers ∷ Numbers
    ∷ Bytes ∷ Numbers ∷ Numbers ∷ Numbers ∷ Numbers ∷ Bytes ∷ Numbers ∷ Numbers ∷ Numbers ∷ []

abbrev limits : List ℕ
limits = 34816 ∷ 131072 ∷ 8192 ∷ 256 ∷ 16384 ∷ 512 ∷ 512 ∷ 512 ∷ 512 ∷ 16384 ∷ 512 ∷ 512 ∷ 512 ∷ 512 ∷ 16384 ∷ 512 ∷ 512 ∷ 512 ∷ []

abbrev size_in : Elements → ℕ
size_in Bytes = 1
size_in Numbers = 8

abbrev room_in : Elements → ℕ → ℕ
room_in Bytes limit = 4294967295
room_in Numbers limit = limit + 8

abbrev as_defined : Elements → ℕ → Bool
as_defined e k = eqb (size_of k) (size_in e) && eqb (room_of k) (room_in e (get_or limits k 0))

module _ (k : ℕ) (h : k < 18) where
  -- one computed test for each input
  defined : T (as_defined (get_or elements k Bytes) k)
  unfolding sizes size_of rooms room_of
  defined = every-at (λ j. as_defined (get_or elements j Bytes) j) 0 18 tt k (omega arith) h

  pub size-is : {e : Elements} → get_or elements k Bytes ≡ e → size_of k ≡ size_in e
  size-is {e} p = eqb→eq (size_of k) (size_in e) (and_0 _ _ (subst (λ (x : Elements). T (as_defined x k)) p defined))

  pub room-is : {e : Elements} → get_or elements k Bytes ≡ e → room_in e (get_or limits k 0) ≡ room_of k
  room-is {e} p = sym (eqb→eq (room_of k) (room_in e (get_or limits k 0)) (and-1 (eqb (size_of k) (size_in e)) _ (subst (λ (x : Elements). T (as_defined x k)) p defined)))

  some-size : T (leb 1 (size_of k))
  unfolding sizes size_of
  some-size = every-at (λ j. leb 1 (size_of j)) 0 18 tt k (omega arith) h

  -- an element has a byte at least
  pub lies_within : {s : List ℕ} {at : List Part} → Lies s at k → (part_at at k).start + (part_at at k).count ≤ length s
  lies_within {s} {at} l =
      let p : Part = part_at at k in
      omega (arith, l.inside, mul-le-mul_right p.count (leb→le 1 (size_of k) some-size))
