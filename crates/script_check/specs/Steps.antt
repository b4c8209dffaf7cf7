-- Laws of the assertions, one after the other: what each of them leaves to be read, and where there is no reading.
use Prim.Native.Nat.{ℕ, zero, suc, ◌+◌, ◌-◌, ◌≤◌, ◌<◌}
use Rattle.std.specs.Prelude.{◌≡◌, Bool, ◌&&◌, T, drop}
use Rattle.std.proofs.Math.Path.{refl, ap}
use Rattle.std.proofs.Common.{sym, ◌∙◌, subst, arith, length-append}
use mathlib.Core.List.{List, [], ◌∷◌, ◌++◌, append_assoc, append-nil}
use Rattle.std.proofs.Math.Bool.{true, false, cond}
use Rattle.std.proofs.Math.Option.{Option, none, some}
use Rattle.std.proofs.Math.ListN.{length, length-drop}
use Rattle.lists.specs.Bytes.{bytes}
use Rattle.lists.specs.Tests.{and_T, T→true, no→false}
use Rattle.reading.specs.Trees.{Tree, Declarations, Reading}
use Rattle.echo_spec.specs.TreeSorts.{bool, bits, same_sort, has_sort, sort_under, tree_sort, all_bool}
use Rattle.echo_spec.specs.TreeSortLaws.{has-eq}
use Rattle.readback.specs.Reader.{Took, took, and_then, expect}
use Rattle.readback.specs.ScriptReader.{many, term_steps, read_assertion, trees_from, is_empty}
use Rattle.reader_laws.specs.TermsStrict.{impossible, took-both, expected}
use Rattle.sort_reader.specs.Sorted.{sorted}
use Rattle.header_laws.specs.Body.{last_line, assertions_in, reading_of, if_bools, body_in, AssertionsAt}
use Rattle.header_laws.specs.Assertions.{Assertion, assertion-read, read-assertion}
use Rattle.script_terms.specs.SortLaws.{sorted-term, term-sorted}

-- ---------------------------------------------------------------- definitions

-- n assertions from place `from` on are read, each a Bool, and place p is after them
pub record Going (s : List ℕ) (D : Declarations) (from p n : ℕ) : Type 0 where
  pub place : p ≤ length s
  pub few : n ≤ p
  pub trees : List Tree
  pub counted : n ≡ length trees
  pub bools : T (all_bool D (trees_from trees))
  pub read : (f : ℕ) → length s < f → many (read_assertion D) f (drop from s) ≡ and_then (many (read_assertion D) (f - n) (drop p s)) (λ ys r. took (trees ++ ys) r)

-- ---------------------------------------------------------------- trees that are Bools

bools-append : (D : Declarations) (xs ys : List Tree) → all_bool D (trees_from (xs ++ ys)) ≡ (all_bool D (trees_from xs) && all_bool D (trees_from ys))
unfolding trees_from sort_under
bools-append D [] ys = refl
bools-append D (x ∷ xs) ys = by_first (has_sort (tree_sort D x) bool) (bools-append D xs ys)
  where
    by_first : (b : Bool) → all_bool D (trees_from (xs ++ ys)) ≡ (all_bool D (trees_from xs) && all_bool D (trees_from ys))
        → (b && all_bool D (trees_from (xs ++ ys))) ≡ ((b && all_bool D (trees_from xs)) && all_bool D (trees_from ys))
    by_first true e = e
    by_first false e = refl

bools-one : (D : Declarations) (t : Tree) → tree_sort D t ≡ some bool → T (all_bool D (trees_from (t ∷ [])))
unfolding trees_from sort_under has_sort same_sort
bools-one D t e = rw e tt

no_bools : (D : Declarations) (t : Tree) (ts : List Tree) → (tree_sort D t ≡ some bool → ⊥) → all_bool D (trees_from (t ∷ ts)) ≡ false
unfolding trees_from sort_under
no_bools D t ts h = rw (no→false (has_sort (tree_sort D t) bool) (λ q. h (has-eq (tree_sort D t) bool q))) refl

-- ---------------------------------------------------------------- many, a step at a time

module _ (D : Declarations) where
  many-none : (f : ℕ) (b : List ℕ) → 0 < f → read_assertion D b ≡ none → many (read_assertion D) f b ≡ took [] b
  unfolding many
  many-none zero b l e = absurd (omega arith)
  many-none (suc f) b l e = rw (e, many)

  many_more : (f : ℕ) (b : List ℕ) (t : Tree) (z : List ℕ) → read_assertion D b ≡ took t z → many (read_assertion D) (suc f) b ≡ and_then (many (read_assertion D) f z) (λ ts r. took (t ∷ ts) r)
  unfolding many
  many_more f b t z e = rw (e, many) refl

  pub no_word : (b : List ℕ) → expect (bytes "(assert ") b ≡ none → read_assertion D b ≡ none
  unfolding read_assertion and_then
  no_word b e = rw e

-- one reader, and what is put before what it read
put-before : (xs : List Tree) (t : Tree) (o : Option (Took (List Tree)))
    → and_then (and_then o (λ ts r. took (t ∷ ts) r)) (λ ys r. took (xs ++ ys) r) ≡ and_then o (λ ys r. took ((xs ++ (t ∷ [])) ++ ys) r)
unfolding and_then
put-before xs t none = refl
put-before xs t (some x) = ap (λ (ys : List Tree). took ys x.rest) (sym (append_assoc xs (t ∷ []) x.value))

put-none : (o : Option (Took (List Tree))) → o ≡ and_then o (λ ys r. took ([] ++ ys) r)
unfolding and_then
put-none none = refl
put-none (some x) = refl

-- ---------------------------------------------------------------- what is read

pub going_start : (s : List ℕ) (D : Declarations) (from : ℕ) → from ≤ length s → Going s D from from 0
unfolding trees_from sort_under
going_start s D from l = record {
  place = l;
  few = omega arith;
  trees = [];
  counted = refl;
  bools = tt;
  read = λ f m. (let z : f - 0 ≡ f = omega arith in rw z (put-none (many (read_assertion D) f (drop from s))));
}

module _ {s : List ℕ} {D : Declarations} {from p n : ℕ} (g : Going s D from p n) where
  fuel : (f : ℕ) → length s < f → f - n ≡ suc (f - (n + 1))
  fuel f l = omega (arith, g.place, g.few)

  pub going_next : (t : Tree) (e : ℕ) → Assertion D (drop p s) t (drop e s) → tree_sort D t ≡ some bool → p < e → e ≤ length s → Going s D from e (n + 1)
  going_next t e x q l m = record {
    place = m;
    few = omega (arith, g.few);
    trees = g.trees ++ (t ∷ []);
    counted = (let k = length-append g.trees (t ∷ []) in omega (arith, g.counted));
    bools = subst T (sym (bools-append D g.trees (t ∷ []))) (and_T (all_bool D (trees_from g.trees)) (all_bool D (trees_from (t ∷ []))) g.bools (bools-one D t q));
    read = λ f k.
        g.read f k ∙ ap (λ (i : ℕ). and_then (many (read_assertion D) i (drop p s)) (λ ys r. took (g.trees ++ ys) r)) (fuel f k)
        ∙ ap (λ (o : Option (Took (List Tree))). and_then o (λ ys r. took (g.trees ++ ys) r)) (many_more D (f - (n + 1)) (drop p s) t (drop e s) (read-assertion D (drop p s) t (drop e s) x))
        ∙ put-before g.trees t (many (read_assertion D) (f - (n + 1)) (drop e s));
  }

  -- no assertion is left
  many-end : read_assertion D (drop p s) ≡ none → (f : ℕ) → length s < f → many (read_assertion D) f (drop from s) ≡ took g.trees (drop p s)
  unfolding and_then
  many-end e f l =
      g.read f l ∙ ap (λ (o : Option (Took (List Tree))). and_then o (λ ys r. took (g.trees ++ ys) r)) (many-none D (f - n) (drop p s) (omega (arith, g.place, g.few)) e)
      ∙ ap (λ (ys : List Tree). took ys (drop p s)) (append-nil g.trees)

  body_end : read_assertion D (drop p s) ≡ none → (f : ℕ) → length s < f → body_in f D (drop from s) ≡ if_bools D (and_then (expect last_line (drop p s)) (λ _ z. took g.trees z))
  unfolding body_in assertions_in and_then
  body_end e f l = rw (many-end e f l) refl

  -- neither an assertion nor the last line
  pub going-none : read_assertion D (drop p s) ≡ none → expect last_line (drop p s) ≡ none → (f : ℕ) → length s < f → body_in f D (drop from s) ≡ none
  unfolding and_then if_bools
  going-none e q f l = body_end e f l ∙ rw q refl

  -- bytes after the last line
  pub going-past : read_assertion D (drop p s) ≡ none → (z : ℕ) → expect last_line (drop p s) ≡ took [] (drop z s) → z < length s → (f : ℕ) → length s < f → body_in f D (drop from s) ≡ none
  unfolding and_then if_bools
  going-past e z q m f l = body_end e f l ∙ rw q (by-rest (drop z s) (let k = length-drop z s in omega arith))
    where
      by-rest : (b : List ℕ) → 0 < length b → cond (is_empty b && all_bool D (trees_from g.trees)) (some (reading_of D g.trees)) none ≡ none
      by-rest [] k = absurd (omega arith)
      by-rest (c ∷ b) k = refl

  module _ (e : read_assertion D (drop p s) ≡ none) (z : ℕ) (q : expect last_line (drop p s) ≡ took [] (drop z s)) (m : length s ≤ z) where
    ends : drop z s ≡ []
    ends = by-rest (drop z s) (let k = length-drop z s in omega arith)
      where
        by-rest : (b : List ℕ) → length b ≡ 0 → b ≡ []
        by-rest [] k = refl
        by-rest (c ∷ b) k = absurd (omega arith)

    pub going-read : (f : ℕ) → length s < f → body_in f D (drop from s) ≡ some (reading_of D g.trees)
    unfolding and_then if_bools
    going-read f l = body_end e f l ∙ rw (q, ends, T→true (all_bool D (trees_from g.trees)) g.bools) refl

    pub going-last : from ≤ length s → AssertionsAt s D from g.trees
    going-last l = record {
      place = l;
      read = λ f k. many-end e f k ∙ ap (λ (x : List ℕ). took g.trees x) (expected last_line (drop p s) [] (drop z s) q ∙ ap (λ (x : List ℕ). last_line ++ x) ends ∙ append-nil last_line);
      bools = g.bools;
    }

  assert-last : (x : List ℕ) → expect last_line (bytes "(assert " ++ x) ≡ none
  unfolding expect bytes
  assert-last x = refl

  -- an assertion that is none of a Bool
  pub going-bad : (q : List ℕ) → expect (bytes "(assert ") (drop p s) ≡ took [] q → ((t : Tree) (z : List ℕ) → Assertion D (drop p s) t z → tree_sort D t ≡ some bool → ⊥)
      → (f : ℕ) → length s < f → body_in f D (drop from s) ≡ none
  unfolding body_in assertions_in if_bools and_then
  going-bad q e h f l = by_one (read_assertion D (drop p s)) refl
    where
      never : (t : Tree) (ys : List Tree) → (tree_sort D t ≡ some bool → ⊥) → all_bool D (trees_from (g.trees ++ (t ∷ ys))) ≡ false
      never t ys k = bools-append D g.trees (t ∷ ys) ∙ rw (no_bools D t ys k) (and-false (all_bool D (trees_from g.trees)))
        where
          and-false : (b : Bool) → (b && false) ≡ false
          and-false true = refl
          and-false false = refl

      and_none : (a : Bool) {b : Bool} (x : Reading) → b ≡ false → cond (a && b) (some x) none ≡ none
      and_none true x k = rw k refl
      and_none false x k = refl

      by_last : (t : Tree) (ys : List Tree) (r : List ℕ) → (tree_sort D t ≡ some bool → ⊥) → (o : Option (Took (List ℕ))) → if_bools D (and_then o (λ _ z. took (g.trees ++ (t ∷ ys)) z)) ≡ none
      by_last t ys r k none = refl
      by_last t ys r k (some x) = and_none (is_empty x.rest) (reading_of D (g.trees ++ (t ∷ ys))) (never t ys k)

      by-rest : (t : Tree) → (tree_sort D t ≡ some bool → ⊥) → (o : Option (Took (List Tree)))
          → if_bools D (and_then (and_then (and_then o (λ ts r. took (t ∷ ts) r)) (λ ys r. took (g.trees ++ ys) r)) (λ ts q. and_then (expect last_line q) (λ _ z. took ts z))) ≡ none
      by-rest t k none = refl
      by-rest t k (some x) = by_last t x.value x.rest k (expect last_line x.rest)

      by_one : (o : Option (Took Tree)) → read_assertion D (drop p s) ≡ o → body_in f D (drop from s) ≡ none
      by_one none u = going-none u (ap (expect last_line) (expected (bytes "(assert ") (drop p s) [] q e) ∙ assert-last q) f l
      by_one (some x) u =
          rw (g.read f l, fuel f l, many_more D (f - (n + 1)) (drop p s) x.value x.rest u)
          (by-rest x.value (h x.value x.rest (assertion-read D (drop p s) x.value x.rest u)) (many (read_assertion D) (f - (n + 1)) x.rest))

-- ---------------------------------------------------------------- the sort of an assertion

module _ (D : Declarations) (b q : List ℕ) (e : expect (bytes "(assert ") b ≡ took [] q) where
  -- the sort of what an assertion holds
  inside-sorted : (t : Tree) (z : List ℕ) (x : Assertion D b t z) → tree_sort D t ≡ some bool → sorted (term_steps q) D q ≡ took bool x.after
  inside-sorted t z x h =
      let i : x.inside ≡ q = (took-both {A = List ℕ} [] [] x.inside q (sym x.opens ∙ e)).1 in
      subst (λ (y : List ℕ). sorted (term_steps y) D y ≡ took bool x.after) i (term-sorted (term_steps x.inside) D x.inside t bool x.after x.term h)

  pub bad-none : sorted (term_steps q) D q ≡ none → (t : Tree) (z : List ℕ) → Assertion D b t z → tree_sort D t ≡ some bool → ⊥
  bad-none h t z x k = impossible (sym h ∙ inside-sorted t z x k)

  pub bad-sort : (w : ℕ) (r : List ℕ) → sorted (term_steps q) D q ≡ took (bits w) r → (t : Tree) (z : List ℕ) → Assertion D b t z → tree_sort D t ≡ some bool → ⊥
  bad-sort w r h t z x k = let (m, n) = took-both (bits w) bool r x.after (sym h ∙ inside-sorted t z x k) in let z : ◌≡◌ {A = ℕ} 0 1 = cc in omega arith

  pub bad-close : (r : List ℕ) → sorted (term_steps q) D q ≡ took bool r → expect (bytes ")\n") r ≡ none → (t : Tree) (z : List ℕ) → Assertion D b t z → tree_sort D t ≡ some bool → ⊥
  bad-close r h c t z x k =
      let (m, n) = took-both bool bool r x.after (sym h ∙ inside-sorted t z x k) in
      impossible (sym c ∙ ap (expect (bytes ")\n")) n ∙ x.closes)

  -- an assertion of a Bool
  pub good-assertion : (r z : List ℕ) → sorted (term_steps q) D q ≡ took bool r → expect (bytes ")\n") r ≡ took [] z → (t : Tree) × Assertion D b t z × (tree_sort D t ≡ some bool)
  good-assertion r z h c =
      let (t, u, k) = sorted-term (term_steps q) D q bool r h in
      (t, record { inside = q; after = r; opens = e; term = u; closes = c }, k)
