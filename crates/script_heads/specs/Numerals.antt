-- Numerals of an operator's head as they are read one by one. What has more than 64 bits, and a third numeral, leave the operator without a sort.
use Prim.Native.Nat.{ℕ, zero, suc, ◌+◌, ◌≤◌, ◌<◌}
use Rattle.std.specs.Prelude.{◌≡◌, Bool, ◌&&◌, ◌⊎◌, T, leb, ltb, eqb}
use Rattle.std.proofs.Math.Path.{refl, ap}
use Rattle.std.proofs.Common.{sym, ◌∙◌, inl, inr, ⊎_elim, arith, leb-false, eqb→eq, leb→le, ltb→lt}
use mathlib.Core.List.{List, [], ◌∷◌}
use Rattle.std.proofs.Math.Bool.{true, false, cond}
use Rattle.std.proofs.Math.Option.{Option, none, some}
use Rattle.lists.specs.Bytes.{bytes}
use Rattle.lists.specs.Tests.{and_0, and-1, true→T, no→false}
use Rattle.reading.specs.Trees.{Declarations}
use Rattle.echo_spec.specs.Input.{largest, fits64}
use Rattle.echo_spec.specs.Shapes.{Shape, var, const, binary, rotation, extraction, concat, extension, ite, comparison, negation, connective, unary, unknown, shape_of}
use Rattle.echo_spec.specs.TreeSorts.{TreeSort, bool, bits, if_proper, tree_sorts}
use Rattle.readback.specs.Reader.{Took, took, and_then, expect, read_numeral, read_numerals, read_terms}
use Rattle.reader_laws.specs.TermsStrict.{impossible}
use Rattle.sort_reader.specs.Waits.{Wait, first, stuck, ends_with, after_vector, after_bool, step, close, finish}
use Rattle.sort_reader.specs.WaitLaws.{Proper, stuck-finish}
use Rattle.sort_reader.specs.Sorted.{of_sort, operands, trees-proper, headed}
use Rattle.sort_reader.specs.Selects.{and-nothing}
use Rattle.script_tokens.specs.Reached.{numeral64}

-- ---------------------------------------------------------------- definitions

-- a blank, and a numeral of 64 bits after it
unfoldable pub blank_numeral : List ℕ → Option (Took ℕ)
blank_numeral b = and_then (expect (bytes " ") b) (λ _ q. numeral64 q)

-- numerals that no operator has: the first or the second has more than 64 bits, or there is a third
abbrev pub Bad : List ℕ → Type 0
Bad [] = ⊥
Bad (i ∷ []) = largest < i
Bad (i ∷ j ∷ []) = (largest < i) ⊎ (largest < j)
Bad (i ∷ j ∷ k ∷ ks) = Unit

pub first-wide : (i : ℕ) (ks : List ℕ) → largest < i → Bad (i ∷ ks)
first-wide i [] l = l
first-wide i (j ∷ []) l = inl l
first-wide i (j ∷ k ∷ ks) l = tt

pub second-wide : (i j : ℕ) (ks : List ℕ) → largest < j → Bad (i ∷ j ∷ ks)
second-wide i j [] l = inr l
second-wide i j (k ∷ ks) l = tt

-- ---------------------------------------------------------------- no operator has them

cond-stuck : (b : Bool) (w : Wait) (os : List (Option TreeSort)) → b ≡ false → finish (cond b w stuck) os ≡ none
cond-stuck b w os e = rw e (stuck-finish os)

below : (i m : ℕ) → m ≤ largest → largest < i → ltb i m ≡ false
below i m h l = no→false (ltb i m) (λ q. let k = ltb→lt i m q in omega arith)

pub and_none : (a b : Bool) → b ≡ false → (a && b) ≡ false
and_none true b e = e
and_none false b e = refl

pub too_wide : (w : ℕ) → largest < w → if_proper (bits w) ≡ none
unfolding if_proper
too_wide w l = rw (and_none (ltb 0 w) (fits64 w) (no→false (fits64 w) (λ q. let k = leb→le w largest q in omega arith)))

wide-stuck : (w : ℕ) (os : List (Option TreeSort)) → largest < w → finish (ends_with (if_proper (bits w))) os ≡ none
unfolding ends_with
wide-stuck w os l = rw (too_wide w l) (stuck-finish os)

bad-vector : (h : Shape) (ks : List ℕ) → Bad ks → (m : ℕ) → m ≤ largest → (os : List (Option TreeSort)) → finish (after_vector h ks m) os ≡ none
unfolding after_vector
bad-vector var ks p m l os = stuck-finish os
bad-vector const ks p m l os = stuck-finish os
bad-vector binary [] p m l os = absurd p
bad-vector binary (i ∷ ks) p m l os = stuck-finish os
bad-vector rotation [] p m l os = stuck-finish os
bad-vector rotation (i ∷ []) p m l os = cond-stuck (ltb i m && leb m 65536) _ os (rw (below i m l p) refl)
bad-vector rotation (i ∷ j ∷ ks) p m l os = stuck-finish os
bad-vector extraction [] p m l os = stuck-finish os
bad-vector extraction (i ∷ []) p m l os = stuck-finish os
bad-vector extraction (i ∷ j ∷ []) p m l os = cond-stuck (leb j i && ltb i m) _ os (no→false (leb j i && ltb i m) (outside p))
  where
    outside : (largest < i) ⊎ (largest < j) → T (leb j i && ltb i m) → ⊥
    outside p t =
        let a = leb→le j i (and_0 (leb j i) (ltb i m) t) in
        let b = ltb→lt i m (and-1 (leb j i) (ltb i m) t) in
        ⊎_elim (λ q. omega arith) (λ q. omega arith) p
bad-vector extraction (i ∷ j ∷ k ∷ ks) p m l os = stuck-finish os
bad-vector concat [] p m l os = absurd p
bad-vector concat (i ∷ ks) p m l os = stuck-finish os
bad-vector extension [] p m l os = stuck-finish os
bad-vector extension (i ∷ []) p m l os = wide-stuck (m + i) os (omega arith)
bad-vector extension (i ∷ j ∷ ks) p m l os = stuck-finish os
bad-vector ite ks p m l os = stuck-finish os
bad-vector comparison [] p m l os = absurd p
bad-vector comparison (i ∷ ks) p m l os = stuck-finish os
bad-vector negation ks p m l os = stuck-finish os
bad-vector connective ks p m l os = stuck-finish os
bad-vector unary [] p m l os = absurd p
bad-vector unary (i ∷ ks) p m l os = stuck-finish os
bad-vector Shape.select ks p m l os = stuck-finish os
bad-vector Shape.call ks p m l os = stuck-finish os
bad-vector unknown ks p m l os = stuck-finish os

some_bool : (h : Shape) (i : ℕ) (ks : List ℕ) (os : List (Option TreeSort)) → finish (after_bool h (i ∷ ks)) os ≡ none
unfolding after_bool
some_bool var i ks os = stuck-finish os
some_bool const i ks os = stuck-finish os
some_bool binary i ks os = stuck-finish os
some_bool rotation i ks os = stuck-finish os
some_bool extraction i ks os = stuck-finish os
some_bool concat i ks os = stuck-finish os
some_bool extension i ks os = stuck-finish os
some_bool ite i ks os = stuck-finish os
some_bool comparison i ks os = stuck-finish os
some_bool negation i ks os = stuck-finish os
some_bool connective i ks os = stuck-finish os
some_bool unary i ks os = stuck-finish os
some_bool Shape.select i ks os = stuck-finish os
some_bool Shape.call i ks os = stuck-finish os
some_bool unknown i ks os = stuck-finish os

bad-bool : (h : Shape) (ks : List ℕ) → Bad ks → (os : List (Option TreeSort)) → finish (after_bool h ks) os ≡ none
bad-bool h [] p os = absurd p
bad-bool h (i ∷ ks) p os = some_bool h i ks os

bad-finish : (h : Shape) (ks : List ℕ) → Bad ks → (os : List (Option TreeSort)) → Proper os → finish (first h ks) os ≡ none
unfolding finish step close
bad-finish h ks p [] q = refl
bad-finish h ks p (none ∷ os) q = refl
bad-finish h ks p (some bool ∷ os) q = bad-bool h ks p os
bad-finish h ks p (some (bits m) ∷ os) q = bad-vector h ks p m (leb→le m largest (and-1 (ltb 0 m) (fits64 m) q.0)) os

module _ (D : Declarations) where
  bad-operands : (f : ℕ) (h : Shape) (ks r : List ℕ) → Bad ks → operands f D (first h ks) r ≡ none
  unfolding operands of_sort
  bad-operands f h ks r p = and-nothing (read_terms f D r) _ (λ ts z. ap (λ (o : Option TreeSort). of_sort o z) (bad-finish h ks p (tree_sorts D ts) (trees-proper D ts)))

  pub bad-headed : (f : ℕ) (k : Option ℕ) (ks r : List ℕ) → Bad ks → headed D f k ks r ≡ none
  bad-headed f none ks r p = refl
  bad-headed f (some k) ks r p = bad-operands f (shape_of k) ks r p

-- ---------------------------------------------------------------- one by one

module _ {A : Type 0} where
  pub numerals-end : (f : ℕ) (b : List ℕ) (P : List ℕ → List ℕ → Option (Took A)) → and_then (read_numerals (suc f) (41 ∷ b)) P ≡ P [] b
  unfolding read_numerals and_then
  numerals-end f b P = refl

  pub numerals-next : (f : ℕ) (b : List ℕ) (P : List ℕ → List ℕ → Option (Took A))
      → and_then (read_numerals (suc f) (32 ∷ b)) P ≡ and_then (read_numeral b) (λ i r. and_then (read_numerals f r) (λ js q. P (i ∷ js) q))
  unfolding read_numerals and_then
  numerals-next f b P = by-numeral (read_numeral b)
    where
      by-rest : (i : ℕ) (o : Option (Took (List ℕ))) → and_then (and_then o (λ ks q. took (i ∷ ks) q)) P ≡ and_then o (λ js q. P (i ∷ js) q)
      by-rest i none = refl
      by-rest i (some t) = refl

      by-numeral : (o : Option (Took ℕ)) → and_then (and_then o (λ k r. and_then (read_numerals f r) (λ ks q. took (k ∷ ks) q))) P ≡ and_then o (λ i r. and_then (read_numerals f r) (λ js q. P (i ∷ js) q))
      by-numeral none = refl
      by-numeral (some t) = by-rest t.value (read_numerals f t.rest)

  -- neither a bracket nor a blank
  numerals-other : (f c : ℕ) (b : List ℕ) (P : List ℕ → List ℕ → Option (Took A)) → eqb c 41 ≡ false → eqb c 32 ≡ false → and_then (read_numerals f (c ∷ b)) P ≡ none
  unfolding read_numerals and_then
  numerals-other zero c b P p q = refl
  numerals-other (suc f) c b P p q = rw (p, read_numerals, q)

  numerals-none : (f : ℕ) (P : List ℕ → List ℕ → Option (Took A)) → and_then (read_numerals f []) P ≡ none
  unfolding read_numerals and_then
  numerals-none zero P = refl
  numerals-none (suc f) P = refl

  numerals-zero : (x : List ℕ) (P : List ℕ → List ℕ → Option (Took A)) → and_then (read_numerals zero x) P ≡ none
  unfolding read_numerals and_then
  numerals-zero x P = refl

  -- what is no numeral of 64 bits is none, or a wide one
  wide-numeral : (b : List ℕ) → numeral64 b ≡ none → (Q : ℕ → List ℕ → Option (Took A)) → ((i : ℕ) (r : List ℕ) → largest < i → Q i r ≡ none) → and_then (read_numeral b) Q ≡ none
  unfolding numeral64 and_then
  wide-numeral b e Q w = by_read (read_numeral b) e
    where
      by_fits : (i : ℕ) (r : List ℕ) (t : Bool) → fits64 i ≡ t → cond t (took i r) none ≡ none → Q i r ≡ none
      by_fits i r true p g = absurd (impossible (sym g))
      by_fits i r false p g = w i r (leb-false i largest p)

      by_read : (o : Option (Took ℕ)) → and_then o (λ k r. cond (fits64 k) (took k r) none) ≡ none → and_then o Q ≡ none
      by_read none g = refl
      by_read (some t) g = by_fits t.value t.rest (fits64 t.value) refl g

  -- a numeral that is no numeral of 64 bits, where a bracket would not do either
  pub numeral-fails : (x : List ℕ) → blank_numeral x ≡ none → (P : List ℕ → List ℕ → Option (Took A)) → ((b : List ℕ) → x ≡ 41 ∷ b → P [] b ≡ none)
      → ((i : ℕ) (js r : List ℕ) → largest < i → P (i ∷ js) r ≡ none) → (f : ℕ) → and_then (read_numerals f x) P ≡ none
  unfolding blank_numeral and_then expect bytes
  numeral-fails x e P close wide zero = numerals-zero x P
  numeral-fails [] e P close wide (suc f) = numerals-none (suc f) P
  numeral-fails (c ∷ b) e P close wide (suc f) = by_byte (eqb c 41) refl (eqb c 32) refl
    where
      blank : c ≡ 32 → numeral64 b ≡ none
      blank z = rw z at e

      by_byte : (t : Bool) → eqb c 41 ≡ t → (u : Bool) → eqb c 32 ≡ u → and_then (read_numerals (suc f) (c ∷ b)) P ≡ none
      by_byte true p u q = let z : c ≡ 41 = eqb→eq c 41 (true→T p) in ap (λ (d : ℕ). and_then (read_numerals (suc f) (d ∷ b)) P) z ∙ numerals-end f b P ∙ close b (ap (λ (d : ℕ). d ∷ b) z)
      by_byte false p true q =
          let z : c ≡ 32 = eqb→eq c 32 (true→T q) in
          ap (λ (d : ℕ). and_then (read_numerals (suc f) (d ∷ b)) P) z ∙ numerals-next f b P ∙ wide-numeral b (blank z) _ (λ i r l. and-nothing (read_numerals f r) _ (λ js q. wide i js q l))
      by_byte false p false q = numerals-other (suc f) c b P p q

  -- no bracket, where no numeral would do
  pub numeral-many : (x : List ℕ) (P : List ℕ → List ℕ → Option (Took A)) → ((b : List ℕ) → x ≡ 41 ∷ b → ⊥) → ((i : ℕ) (js r : List ℕ) → P (i ∷ js) r ≡ none) → (f : ℕ)
      → and_then (read_numerals f x) P ≡ none
  numeral-many x P close all zero = numerals-zero x P
  numeral-many [] P close all (suc f) = numerals-none (suc f) P
  numeral-many (c ∷ b) P close all (suc f) = by_byte (eqb c 41) refl (eqb c 32) refl
    where
      by_byte : (t : Bool) → eqb c 41 ≡ t → (u : Bool) → eqb c 32 ≡ u → and_then (read_numerals (suc f) (c ∷ b)) P ≡ none
      by_byte true p u q = absurd (close b (ap (λ (d : ℕ). d ∷ b) (eqb→eq c 41 (true→T p))))
      by_byte false p true q =
          let z : c ≡ 32 = eqb→eq c 32 (true→T q) in
          ap (λ (d : ℕ). and_then (read_numerals (suc f) (d ∷ b)) P) z ∙ numerals-next f b P ∙ and-nothing (read_numeral b) _ (λ i r. and-nothing (read_numerals f r) _ (λ js q. all i js q))
      by_byte false p false q = numerals-other (suc f) c b P p q
