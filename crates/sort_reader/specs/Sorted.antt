-- The sort of the term that bytes begin with, as the reader of the specification has it, and what that comes to step by step.
use Prim.Native.Nat.{ℕ, zero, suc, ◌+◌, ◌-◌}
use Rattle.std.specs.Prelude.{◌≡◌, Bool, true, false, ◌&&◌, not, cond, T, leb, eqb, length}
use Rattle.std.proofs.Math.Path.{refl, ap}
use Rattle.std.proofs.Common.{sym, ◌∙◌, subst, arith, eqb→eq, length-append}
use mathlib.Core.List.{List, [], ◌∷◌, ◌++◌, map}
use Rattle.std.proofs.Math.Option.{Option, none, some}
use Rattle.lists.specs.Bytes.{bytes}
use Rattle.lists.specs.Tests.{same, every, every_append, All, among, and_0, and-1, or_elim, T→true, true→T}
use Rattle.lists.specs.Build.{find}
use Rattle.reading.specs.Trees.{Name, Tree, variable, constant, apply, select, call, Trees, none as noTrees, more, Stores, Variable, Array, Function, Declarations}
use Rattle.smtlib.specs.Lexicon.{binary_digit}
use Rattle.smtlib.specs.Readings.{bits_of}
use Rattle.echo_spec.specs.Shapes.{Shape, shape_of}
use Rattle.echo_spec.specs.TreeSorts.{TreeSort, bool, bits, proper, if_proper, operator_sort, variable_sort, call_sort, sort_under, none_bound, variable_named, function_named, tree_sort, tree_sorts}
use Rattle.echo_spec.specs.TreeSortLaws.{sorted-proper}
use Rattle.readback.specs.Rebuild.{variable_number}
use Rattle.readback.specs.Reader.{
  Took,
  took,
  and_then,
  expect,
  up_to,
  name_read,
  read_constant,
  read_numerals,
  kind_of,
  named_tree,
  applied,
  applied_indexed,
  called,
  word_end,
  read_term,
  read_open,
  read_terms,
  read_stored,
}
use Rattle.reader_laws.specs.TermsStrict.{up-to-fails}
use Rattle.sort_reader.specs.Waits.{Wait, first, arguments, stuck, step, close, finish}
use Rattle.sort_reader.specs.WaitLaws.{Proper, stuck-finish, operator-finish, call-finish}

-- ---------------------------------------------------------------- definitions

-- a sort and the bytes after it, where there is one
unfoldable pub of_sort : Option TreeSort → List ℕ → Option (Took TreeSort)
of_sort none r = none
of_sort (some σ) r = took σ r

-- the sort of the term that is read, f steps at most
unfoldable pub sorted : ℕ → Declarations → List ℕ → Option (Took TreeSort)
sorted f D b = and_then (read_term f D b) (λ t r. of_sort (tree_sort D t) r)

-- operands up to the closing bracket, of a term that waits for them, and its sort
unfoldable pub operands : ℕ → Declarations → Wait → List ℕ → Option (Took TreeSort)
operands f D w b = and_then (read_terms f D b) (λ ts r. of_sort (finish w (tree_sorts D ts)) r)

-- ---------------------------------------------------------------- the sorts of trees are proper

proper-cons : (o : Option TreeSort) (os : List (Option TreeSort)) → ((σ : TreeSort) → o ≡ some σ → T (proper σ)) → Proper os → Proper (o ∷ os)
proper-cons none os f p = p
proper-cons (some σ) os f p = (f σ refl, p)

pub trees-proper : (D : Declarations) (ts : Trees) → Proper (tree_sorts D ts)
unfolding sort_under
trees-proper D noTrees = tt
trees-proper D (more t ts) = proper-cons (tree_sort D t) (tree_sorts D ts) (λ σ e. sorted-proper D none_bound t σ e) (trees-proper D ts)

-- ---------------------------------------------------------------- operands

module _ (D : Declarations) where
  pub operands-none : (f : ℕ) (w : Wait) → operands f D w [] ≡ none
  unfolding operands read_term and_then
  operands-none zero w = refl
  operands-none (suc f) w = refl

  pub operands_end : (f : ℕ) (w : Wait) (b : List ℕ) → operands (suc f) D w (41 ∷ b) ≡ of_sort (close w) b
  unfolding operands read_term and_then finish sort_under
  operands_end f w b = refl

  take-operand : (w : Wait) (o : Option (Took Trees)) (s : Option TreeSort) (r : List ℕ)
      → and_then o (λ ts q. of_sort (finish w (s ∷ tree_sorts D ts)) q) ≡ and_then (of_sort s r) (λ σ _. and_then o (λ ts q. of_sort (finish (step w σ) (tree_sorts D ts)) q))
  unfolding and_then of_sort finish
  take-operand w none none r = refl
  take-operand w none (some σ) r = refl
  take-operand w (some t) none r = refl
  take-operand w (some t) (some σ) r = refl

  joined-terms : (w : Wait) (t : Tree) (o : Option (Took Trees))
      → and_then (and_then o (λ ts q. took (more t ts) q)) (λ ts q. of_sort (finish w (tree_sorts D ts)) q) ≡ and_then o (λ ts q. of_sort (finish w (tree_sort D t ∷ tree_sorts D ts)) q)
  unfolding and_then sort_under
  joined-terms w t none = refl
  joined-terms w t (some x) = refl

  sort-then : (w : Wait) (f : ℕ) (s : Option TreeSort) (r : List ℕ)
      → and_then (of_sort s r) (λ σ _. and_then (read_terms f D r) (λ ts q. of_sort (finish (step w σ) (tree_sorts D ts)) q)) ≡ and_then (of_sort s r) (λ σ q. operands f D (step w σ) q)
  unfolding and_then of_sort operands
  sort-then w f none r = refl
  sort-then w f (some σ) r = refl

  -- a blank, and the operand after it
  pub operands_next : (f : ℕ) (w : Wait) (b : List ℕ) → operands (suc f) D w (32 ∷ b) ≡ and_then (sorted f D b) (λ σ r. operands f D (step w σ) r)
  unfolding operands sorted read_term and_then
  operands_next f w b = by-term (read_term f D b)
    where
      by-term : (o : Option (Took Tree))
          → and_then (and_then o (λ t r. and_then (read_terms f D r) (λ ts q. took (more t ts) q))) (λ ts r. of_sort (finish w (tree_sorts D ts)) r)
          ≡ and_then (and_then o (λ t r. of_sort (tree_sort D t) r)) (λ σ r. operands f D (step w σ) r)
      by-term none = refl
      by-term (some t) = joined-terms w t.value (read_terms f D t.rest) ∙ take-operand w (read_terms f D t.rest) (tree_sort D t.value) t.rest ∙ sort-then w f (tree_sort D t.value) t.rest

  pub operands-other : (f : ℕ) (w : Wait) (c : ℕ) (b : List ℕ) → eqb c 41 ≡ false → eqb c 32 ≡ false → operands f D w (c ∷ b) ≡ none
  unfolding operands read_term and_then
  operands-other zero w c b p q = refl
  operands-other (suc f) w c b p q = rw (p, read_terms, q)

  -- ---------------------------------------------------------------- heads

  -- an operator of this kind, or none
  abbrev pub headed : ℕ → Option ℕ → List ℕ → List ℕ → Option (Took TreeSort)
  headed f none ks r = none
  headed f (some k) ks r = operands f D (first (shape_of k) ks) r

  pub operator-read : (k : Option ℕ) (ks : List ℕ) (o : Option (Took Trees)) → and_then (and_then o (λ ts z. applied k ks ts z)) (λ t r. of_sort (tree_sort D t) r)
      ≡ elim k as (λ _. Option (Took TreeSort)) [ none ↦ none | some k ↦ and_then o (λ ts r. of_sort (finish (first (shape_of k) ks) (tree_sorts D ts)) r) ]
  unfolding and_then applied sort_under
  operator-read none ks none = refl
  operator-read none ks (some t) = refl
  operator-read (some k) ks none = refl
  operator-read (some k) ks (some t) = ap (λ (s : Option TreeSort). of_sort s t.rest) (operator-finish (shape_of k) ks (tree_sorts D t.value) (trees-proper D t.value))

  headed-is : (f : ℕ) (k : Option ℕ) (ks r : List ℕ) → elim k as (λ _. Option (Took TreeSort)) [ none ↦ none | some k ↦ and_then (read_terms f D r) (λ ts z. of_sort (finish (first (shape_of k) ks) (tree_sorts D ts)) z) ] ≡ headed f k ks r
  unfolding operands
  headed-is f none ks r = refl
  headed-is f (some k) ks r = refl

  pub plain-open : (f c : ℕ) (b w r : List ℕ) → eqb c 40 ≡ false → eqb c 124 ≡ false → up_to word_end (c ∷ b) ≡ record { value = w; rest = r } → same w (bytes "select") ≡ false
      → read_open (suc f) D (c ∷ b) ≡ and_then (read_terms f D r) (λ ts z. applied (kind_of w) [] ts z)
  unfolding read_term
  plain-open f c b w r p q u n = rw (p, read_open, q, u, n, u)

  -- a plain operator after its bracket: its word ends where its operands begin
  pub plain-sorted : (f c : ℕ) (b w r : List ℕ) → eqb c 40 ≡ false → eqb c 124 ≡ false → up_to word_end (c ∷ b) ≡ record { value = w; rest = r } → same w (bytes "select") ≡ false
      → sorted (suc (suc f)) D (40 ∷ c ∷ b) ≡ headed f (kind_of w) [] r
  unfolding sorted read_term
  plain-sorted f c b w r p q u n =
      ap (λ (o : Option (Took Tree)). and_then o (λ t r. of_sort (tree_sort D t) r)) (plain-open f c b w r p q u n) ∙ operator-read (kind_of w) [] (read_terms f D r) ∙ headed-is f (kind_of w) [] r

  -- an operator with numerals, one or more
  indexed-read : (f : ℕ) (k : Option ℕ) (ks : List ℕ) (o : Option (Took Trees)) → and_then (and_then o (λ ts z. applied_indexed k ks ts z)) (λ t r. of_sort (tree_sort D t) r)
      ≡ elim ks as (λ _. Option (Took TreeSort)) [ [] ↦ none | i ∷ is ↦ and_then (and_then o (λ ts z. applied k (i ∷ is) ts z)) (λ t r. of_sort (tree_sort D t) r) ]
  unfolding and_then applied_indexed
  indexed-read f k [] none = refl
  indexed-read f k [] (some t) = refl
  indexed-read f k (i ∷ is) none = refl
  indexed-read f k (i ∷ is) (some t) = refl

  pub indexed-sorted : (f : ℕ) (b q w x r : List ℕ) (i : ℕ) (is : List ℕ) → expect (bytes "_ ") b ≡ took [] q → up_to word_end q ≡ record { value = w; rest = x } → read_numerals f x ≡ took (i ∷ is) r
      → sorted (suc (suc f)) D (40 ∷ 40 ∷ b) ≡ headed f (kind_of w) (i ∷ is) r
  unfolding sorted read_term and_then
  indexed-sorted f b q w x r i is e u n =
      rw (e, u, n) (indexed-read f (kind_of w) (i ∷ is) (read_terms f D r) ∙ operator-read (kind_of w) (i ∷ is) (read_terms f D r) ∙ headed-is f (kind_of w) (i ∷ is) r)

  pub indexed-none : (f : ℕ) (b : List ℕ) → expect (bytes "_ ") b ≡ none → sorted (suc (suc f)) D (40 ∷ 40 ∷ b) ≡ none
  unfolding sorted read_term and_then
  indexed-none f b e = rw e

  pub indexed-no-numerals : (f : ℕ) (b q : List ℕ) → expect (bytes "_ ") b ≡ took [] q → read_numerals f (up_to word_end q).rest ≡ none → sorted (suc (suc f)) D (40 ∷ 40 ∷ b) ≡ none
  unfolding sorted read_term and_then
  indexed-no-numerals f b q e n = rw (e, n)
