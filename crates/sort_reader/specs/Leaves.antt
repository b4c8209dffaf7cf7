-- The sorts of constants, names and calls as they are read.
use Prim.Native.Nat.{ℕ, zero, suc, ◌+◌, ◌-◌}
use Rattle.std.specs.Prelude.{◌≡◌, Bool, true, false, ◌&&◌, cond, T, eqb, length}
use Rattle.std.proofs.Math.Path.{refl, ap, subst}
use Rattle.std.proofs.Common.{sym, ◌∙◌, arith, eqb→eq, length-append}
use mathlib.Core.List.{List, [], ◌∷◌, ◌++◌}
use Rattle.std.proofs.Math.Bool.{not}
use Rattle.std.proofs.Math.Option.{Option, none, some}
use Rattle.std.proofs.Math.Dec.{leb}
use Rattle.lists.specs.Bytes.{bytes}
use Rattle.lists.specs.Tests.{every, every_append, All, among, and_T, or_elim, T→true, true→T}
use Rattle.reading.specs.Trees.{Name, Tree, constant, Trees, none as noTrees, more, Function, Declarations}
use Rattle.smtlib.specs.Lexicon.{binary_digit}
use Rattle.smtlib.specs.Readings.{bits_of}
use Rattle.echo_spec.specs.TreeSorts.{TreeSort, bits, if_proper, variable_sort, call_sort, sort_under, variable_named, function_named, tree_sort, tree_sorts}
use Rattle.readback.specs.Rebuild.{variable_number}
use Rattle.readback.specs.Reader.{Took, took, and_then, expect, up_to, name_read, read_constant, named_tree, called, read_term, read_open, read_terms}
use Rattle.reader_laws.specs.TermsStrict.{up-to-fails}
use Rattle.sort_reader.specs.Waits.{arguments, step, close, finish}
use Rattle.sort_reader.specs.WaitLaws.{stuck-finish, call-finish}
use Rattle.sort_reader.specs.Sorted.{of_sort, sorted, operands}

-- ---------------------------------------------------------------- no term

module _ (D : Declarations) where
  pub nothing-sorted : (f : ℕ) → sorted f D [] ≡ none
  unfolding sorted read_term and_then
  nothing-sorted zero = refl
  nothing-sorted (suc f) = refl

  pub other-sorted : (f c : ℕ) (b : List ℕ) → eqb c 35 ≡ false → eqb c 124 ≡ false → eqb c 40 ≡ false → sorted f D (c ∷ b) ≡ none
  unfolding sorted read_term and_then
  other-sorted zero c b p q r = refl
  other-sorted (suc f) c b p q r = rw (p, read_term, q, r)

  pub open-nothing : (f : ℕ) → sorted f D (40 ∷ []) ≡ none
  unfolding sorted read_term and_then
  open-nothing zero = refl
  open-nothing (suc zero) = refl
  open-nothing (suc (suc f)) = refl

  -- ---------------------------------------------------------------- constants

  bits-long : (ds : List ℕ) → length (bits_of ds) ≡ length ds
  bits-long [] = refl
  bits-long (c ∷ ds) =
      let a = bits-long ds in
      let b = length-append (bits_of ds) ((c - 48) ∷ []) in
      omega arith

  digit-bit : (c : ℕ) → T (not (not (binary_digit c))) → T (leb (c - 48) 1)
  digit-bit c h = by-digit (binary_digit c) refl h
    where
      by-digit : (t : Bool) → binary_digit c ≡ t → T (not (not t)) → T (leb (c - 48) 1)
      by-digit true e h = or_elim (eqb c 48) (among (49 ∷ []) c) (true→T e) (λ q. rw (eqb→eq c 48 q) tt) (λ q. or_elim (eqb c 49) false q (λ q. rw (eqb→eq c 49 q) tt) (λ z. absurd z))
      by-digit false e h = absurd h

  digits-binary : (ds : List ℕ) → All (λ c. not (not (binary_digit c))) ds → T (every (λ b. leb b 1) (bits_of ds))
  digits-binary [] h = tt
  digits-binary (c ∷ ds) (h, k) =
      rw (every_append (λ b. leb b 1) (bits_of ds) ((c - 48) ∷ []))
      (and_T (every (λ b. leb b 1) (bits_of ds)) _ (digits-binary ds k) (and_T (leb (c - 48) 1) true (digit-bit c h) tt))

  pub constant-sort : (ds : List ℕ) → All (λ c. not (not (binary_digit c))) ds → tree_sort D (constant (bits_of ds)) ≡ if_proper (bits (length ds))
  unfolding sort_under
  constant-sort ds h = rw (T→true (every (λ b. leb b 1) (bits_of ds)) (digits-binary ds h), bits-long ds)

  pub constant-sorted : (f : ℕ) (b q ds z : List ℕ) → expect (bytes "b") b ≡ took [] q → up_to (λ c. not (binary_digit c)) q ≡ record { value = ds; rest = z }
      → sorted (suc f) D (35 ∷ b) ≡ of_sort (if_proper (bits (length ds))) z
  unfolding sorted read_term read_constant and_then
  constant-sorted f b q ds z e u =
      let h : All (λ c. not (not (binary_digit c))) ds = subst (λ (t : Took (List ℕ)). All (λ c. not (not (binary_digit c))) t.value) u (up-to-fails (λ c. not (binary_digit c)) q) in
      rw (e, u) (ap (λ (s : Option TreeSort). of_sort s z) (constant-sort ds h))

  pub constant-none : (f : ℕ) (b : List ℕ) → expect (bytes "b") b ≡ none → sorted f D (35 ∷ b) ≡ none
  unfolding sorted read_term read_constant and_then
  constant-none zero b e = refl
  constant-none (suc f) b e = rw e

  -- ---------------------------------------------------------------- names

  pub name-sorted : (f : ℕ) (b : List ℕ) (n : Name) (r : List ℕ) → name_read b ≡ took n r → sorted (suc f) D (124 ∷ b) ≡ of_sort (tree_sort D (named_tree D n)) r
  unfolding sorted read_term and_then
  name-sorted f b n r e = rw e

  pub name-none : (f : ℕ) (b : List ℕ) → name_read b ≡ none → sorted f D (124 ∷ b) ≡ none
  unfolding sorted read_term and_then
  name-none zero b e = refl
  name-none (suc f) b e = rw e

  -- a name is a variable's, or else that of a function without arguments
  pub variable-sort : (n : Name) (k : ℕ) → variable_number D n ≡ some k → tree_sort D (named_tree D n) ≡ variable_sort none (variable_named D n)
  unfolding named_tree sort_under
  variable-sort n k e = rw (e, named_tree)

  pub function-sort : (n : Name) → variable_number D n ≡ none → tree_sort D (named_tree D n) ≡ call_sort (function_named D n) []
  unfolding named_tree sort_under
  function-sort n e = rw (e, named_tree)

  -- ---------------------------------------------------------------- calls

  -- a call in brackets: the function is declared, and has arguments
  unfoldable pub argued : ℕ → List ℕ → ℕ → List ℕ → Option (Took TreeSort)
  argued f [] w r = none
  argued f (v ∷ vs) w r = operands f D (arguments (v ∷ vs) w) r

  unfoldable pub called_by : ℕ → Option Function → List ℕ → Option (Took TreeSort)
  called_by f none r = none
  called_by f (some g) r = argued f g.arguments g.width r

  no_arguments : (w : ℕ) (o : Option TreeSort) (os : List (Option TreeSort)) → finish (arguments [] w) (o ∷ os) ≡ none
  unfolding finish step
  no_arguments w none os = refl
  no_arguments w (some σ) os = stuck-finish os

  none-called : (n : Name) → function_named D n ≡ none → (ts : Trees) (z : List ℕ) → and_then (called n ts z) (λ t r. of_sort (tree_sort D t) r) ≡ none
  unfolding and_then called sort_under call_sort of_sort
  none-called n e noTrees z = refl
  none-called n e (more t ts) z = ap (λ (o : Option Function). of_sort (call_sort o (tree_sorts D (more t ts))) z) e

  sort-called : (n : Name) (g : Function) → function_named D n ≡ some g → (t : Tree) (ts : Trees) (z : List ℕ)
      → and_then (called n (more t ts) z) (λ t r. of_sort (tree_sort D t) r) ≡ of_sort (finish (arguments g.arguments g.width) (tree_sorts D (more t ts))) z
  unfolding and_then called sort_under
  sort-called n g e t ts z = ap (λ (s : Option TreeSort). of_sort s z) (ap (λ (o : Option Function). call_sort o (tree_sorts D (more t ts))) e ∙ call-finish g (tree_sorts D (more t ts)))

  no-trees : (n : Name) (vs : List ℕ) (v w : ℕ) (z : List ℕ) → and_then (called n noTrees z) (λ t r. of_sort (tree_sort D t) r) ≡ of_sort (finish (arguments (v ∷ vs) w) (tree_sorts D noTrees)) z
  unfolding and_then called sort_under finish close of_sort
  no-trees n vs v w z = refl

  none-argued : (n : Name) (w : ℕ) (o : Option (Took Trees)) → ((t : Tree) (ts : Trees) (z : List ℕ) → and_then (called n (more t ts) z) (λ t r. of_sort (tree_sort D t) r) ≡ of_sort (finish (arguments [] w) (tree_sorts D (more t ts))) z)
      → and_then (and_then o (λ ts z. called n ts z)) (λ t r. of_sort (tree_sort D t) r) ≡ none
  unfolding and_then called sort_under of_sort
  none-argued n w none h = refl
  none-argued n w (some x) h = by-trees x.value x.rest
    where
      by-trees : (ts : Trees) (z : List ℕ) → and_then (called n ts z) (λ t r. of_sort (tree_sort D t) r) ≡ none
      by-trees noTrees z = refl
      by-trees (more t ts) z = h t ts z ∙ ap (λ (s : Option TreeSort). of_sort s z) (no_arguments w (tree_sort D t) (tree_sorts D ts))

  some-argued : (n : Name) (v : ℕ) (vs : List ℕ) (w : ℕ) (o : Option (Took Trees))
      → ((t : Tree) (ts : Trees) (z : List ℕ) → and_then (called n (more t ts) z) (λ t r. of_sort (tree_sort D t) r) ≡ of_sort (finish (arguments (v ∷ vs) w) (tree_sorts D (more t ts))) z)
      → and_then (and_then o (λ ts z. called n ts z)) (λ t r. of_sort (tree_sort D t) r) ≡ and_then o (λ ts r. of_sort (finish (arguments (v ∷ vs) w) (tree_sorts D ts)) r)
  unfolding and_then
  some-argued n v vs w none h = refl
  some-argued n v vs w (some x) h = by-trees x.value x.rest
    where
      by-trees : (ts : Trees) (z : List ℕ) → and_then (called n ts z) (λ t r. of_sort (tree_sort D t) r) ≡ of_sort (finish (arguments (v ∷ vs) w) (tree_sorts D ts)) z
      by-trees noTrees z = no-trees n vs v w z
      by-trees (more t ts) z = h t ts z

  pub call-read : (f : ℕ) (n : Name) (g : Option Function) → function_named D n ≡ g → (r : List ℕ)
      → and_then (and_then (read_terms f D r) (λ ts z. called n ts z)) (λ t r. of_sort (tree_sort D t) r) ≡ called_by f g r
  unfolding called_by argued operands and_then
  call-read f n none e r = by_read (read_terms f D r)
    where
      by_read : (o : Option (Took Trees)) → and_then (and_then o (λ ts z. called n ts z)) (λ t r. of_sort (tree_sort D t) r) ≡ none
      by_read none = refl
      by_read (some x) = none-called n e x.value x.rest
  call-read f n (some g) e r = by-arguments g.arguments (λ t ts z. sort-called n g e t ts z)
    where
      by-arguments : (vs : List ℕ) → ((t : Tree) (ts : Trees) (z : List ℕ) → and_then (called n (more t ts) z) (λ t r. of_sort (tree_sort D t) r) ≡ of_sort (finish (arguments vs g.width) (tree_sorts D (more t ts))) z)
          → and_then (and_then (read_terms f D r) (λ ts z. called n ts z)) (λ t r. of_sort (tree_sort D t) r) ≡ argued f vs g.width r
      by-arguments [] h = none-argued n g.width (read_terms f D r) h
      by-arguments (v ∷ vs) h = some-argued n v vs g.width (read_terms f D r) h

  pub call-sorted : (f : ℕ) (b : List ℕ) (n : Name) (r : List ℕ) → name_read b ≡ took n r → sorted (suc (suc f)) D (40 ∷ 124 ∷ b) ≡ called_by f (function_named D n) r
  unfolding sorted read_term and_then
  call-sorted f b n r e = rw e (call-read f n (function_named D n) refl r)

  pub call-no-name : (f : ℕ) (b : List ℕ) → name_read b ≡ none → sorted f D (40 ∷ 124 ∷ b) ≡ none
  unfolding sorted read_term and_then
  call-no-name zero b e = refl
  call-no-name (suc zero) b e = refl
  call-no-name (suc (suc f)) b e = rw e
