-- A tree as the term that its text is, and what is asked of a tree for its text to be read and sorted.
use Rattle.std.specs.Prelude.{ℕ, ◌<◌, ◌≡◌, List, [], ◌∷◌, ◌++◌, map, T, leb, length}
use Rattle.std.proofs.Common.{sym, subst}
use Rattle.std.proofs.Math.Option.{Option, none as nothing, some}
use Rattle.lists.specs.Bytes.{bytes}
use Rattle.lists.specs.Tests.{All, in_list, in_left, in_right}
use Rattle.lists.specs.Member.{Member, member-map, member-in}
use Rattle.reading.specs.Trees.{Name, Tree, variable, constant, apply, select, call, Trees, none, more, Stores, base, store, Variable, Array, Function, Declarations}
use Rattle.smtlib.specs.Grammar.{Operator, plain, indexed, Term, literal, identifier, application, Terms, none as no_terms, more as moreTerms}
use Rattle.smtlib.specs.Lexicon.{quotable}
use Rattle.smtlib.specs.Scopes.{Scope, bound_to}
use Rattle.smtlib.specs.Readings.{operators, listed, built_in, variable_names, array_names, function_names, declared_names}
use Rattle.smtlib.specs.LexText.{simple_test}
use Rattle.smtlib.specs.Sorts.{TermSort, bits, bits_array, sensible, rank}
use Rattle.echo_spec.specs.Render.{symbol_of, binary_digits}

-- ---------------------------------------------------------------- the term of a tree

unfoldable pub operator_of : Name → List ℕ → Operator
operator_of w [] = plain w
operator_of w (k ∷ ks) = indexed w k ks

-- the operator over the terms, or n where there are none
unfoldable pub applied : Name → Operator → Terms → Term
applied n o no_terms = identifier n
applied n o (moreTerms t ts) = application o t ts

unfoldable mutual
  pub term_of : Tree → Term
  term_of (variable n) = identifier n
  term_of (constant bs) = literal (binary_digits bs)
  term_of (apply k ks ts) = applied [] (operator_of (symbol_of k) ks) (terms_of ts)
  term_of (select a j ss) = application (plain (bytes "select")) (array_term a ss) (moreTerms (term_of j) no_terms)
  term_of (call n ts) = applied n (plain n) (terms_of ts)

  pub terms_of : Trees → Terms
  terms_of none = no_terms
  terms_of (more t ts) = moreTerms (term_of t) (terms_of ts)

  pub array_term : Name → Stores → Term
  array_term a base = identifier a
  array_term a (store i v ss) = application (plain (bytes "store")) (array_term a ss) (moreTerms (term_of i) (moreTerms (term_of v) no_terms))

-- ---------------------------------------------------------------- a tree of a sort

-- a declared variable
abbrev pub FitsVariable : Declarations → Name → TermSort → Type 0
FitsVariable D n s = (w : ℕ) × Member (record { name = n; width = w }) D.variables × (s ≡ bits w)

-- The tree fits the declarations and the bound names: what it names is declared or bound so, its operators have rows in the
-- standard's table, and it has the sort by the standard's ranks.
module _ (D : Declarations) (E : Scope TermSort) where
  abbrev mutual
    pub FitsIn : Tree → TermSort → Type 0
    FitsIn (variable n) s = elim (bound_to E n) as (λ _. Type 0) [ nothing ↦ FitsVariable D n s | some u ↦ s ≡ u ]
    FitsIn (constant bs) s = (0 < length bs) × All (λ b. leb b 1) bs × (s ≡ bits (length bs))
    FitsIn (apply k ks ts) s =
        (u : TermSort) × (us : List TermSort) × FitsAllIn ts (u ∷ us) × T (simple_test (symbol_of k))
        × T (listed (symbol_of k) k (length ks) (length (u ∷ us)) operators) × (rank (symbol_of k) ks (u ∷ us) ≡ some s)
    FitsIn (select a j ss) s =
        (i : ℕ) × (v : ℕ) × Member (record { name = a; index = i; value = v }) D.arrays × T (sensible (bits_array i v)) × FitsIn j (bits i)
        × FitsStoresIn ss i v × (s ≡ bits v)
    FitsIn (call n ts) s =
        (ws : List ℕ) × (w : ℕ) × Member (record { name = n; arguments = ws; width = w }) D.functions × FitsAllIn ts (map bits ws) × (s ≡ bits w)

    pub FitsAllIn : Trees → List TermSort → Type 0
    FitsAllIn none [] = Unit
    FitsAllIn none (u ∷ us) = ⊥
    FitsAllIn (more t ts) [] = ⊥
    FitsAllIn (more t ts) (u ∷ us) = FitsIn t u × FitsAllIn ts us

    -- indices and values of these widths
    pub FitsStoresIn : Stores → ℕ → ℕ → Type 0
    FitsStoresIn base i v = Unit
    FitsStoresIn (store x y ss) i v = FitsIn x (bits i) × FitsIn y (bits v) × FitsStoresIn ss i v

pub fits-unbound : (D : Declarations) (E : Scope TermSort) (n : Name) (s : TermSort) → bound_to E n ≡ nothing → FitsVariable D n s → FitsIn D E (variable n) s
fits-unbound D E n s e h = subst (λ (o : Option TermSort). elim o as (λ _. Type 0) [ nothing ↦ FitsVariable D n s | some u ↦ s ≡ u ]) (sym e) h

pub fits_bound : (D : Declarations) (E : Scope TermSort) (n : Name) (s u : TermSort) → bound_to E n ≡ some u → s ≡ u → FitsIn D E (variable n) s
fits_bound D E n s u e h = subst (λ (o : Option TermSort). elim o as (λ _. Type 0) [ nothing ↦ FitsVariable D n s | some v ↦ s ≡ v ]) (sym e) h

-- where no name is bound
abbrev pub Fits : Declarations → Tree → TermSort → Type 0
Fits D t s = FitsIn D [] t s

abbrev pub FitsAll : Declarations → Trees → List TermSort → Type 0
FitsAll D ts us = FitsAllIn D [] ts us

abbrev pub FitsStores : Declarations → Stores → ℕ → ℕ → Type 0
FitsStores D ss i v = FitsStoresIn D [] ss i v

-- names that may be bound over the declarations: none is declared or the theories', and each may stand between bars
pub record Fresh (D : Declarations) (ns : List Name) : Type 0 where
  pub undeclared : (n : Name) → T (in_list n ns) → T (in_list n (declared_names D)) → ⊥
  pub foreign : (n : Name) → T (in_list n ns) → T (in_list n built_in) → ⊥
  pub quotes : (n : Name) → T (in_list n ns) → All quotable n

pub fresh-none : (D : Declarations) → Fresh D []
fresh-none D = record { undeclared = λ n h k. h; foreign = λ n h k. h; quotes = λ n h. absurd h }

module _ (D : Declarations) where
  -- ---------------------------------------------------------------- laws

  pub variable-declared : (n : Name) (w : ℕ) → Member (record { name = n; width = w }) D.variables → T (in_list n (variable_names D))
  variable-declared n w h = member-in n (variable_names D) (member-map (λ (v : Variable). v.name) (record { name = n; width = w }) D.variables h)

  pub array-declared : (a : Name) (i v : ℕ) → Member (record { name = a; index = i; value = v }) D.arrays → T (in_list a (array_names D))
  array-declared a i v h = member-in a (array_names D) (member-map (λ (x : Array). x.name) (record { name = a; index = i; value = v }) D.arrays h)

  pub function-declared : (n : Name) (ws : List ℕ) (w : ℕ) → Member (record { name = n; arguments = ws; width = w }) D.functions → T (in_list n (function_names D))
  function-declared n ws w h =
      member-in n (function_names D) (member-map (λ (f : Function). f.name) (record { name = n; arguments = ws; width = w }) D.functions h)

  -- a name of one list is declared
  pub in-variables : (n : Name) → T (in_list n (variable_names D)) → T (in_list n (declared_names D))
  in-variables n h = in_left n (variable_names D) (array_names D ++ function_names D) h

  pub in-arrays : (n : Name) → T (in_list n (array_names D)) → T (in_list n (declared_names D))
  in-arrays n h = in_right n (variable_names D) (array_names D ++ function_names D) (in_left n (array_names D) (function_names D) h)

  pub in-functions : (n : Name) → T (in_list n (function_names D)) → T (in_list n (declared_names D))
  in-functions n h = in_right n (variable_names D) (array_names D ++ function_names D) (in_right n (array_names D) (function_names D) h)
