-- The term of a tree that fits means that tree.
use Prim.Native.Nat.{ℕ, suc, ◌+◌, ◌-◌}
use Rattle.std.specs.Prelude.{◌≡◌, Bool, true, false, T, length}
use Rattle.std.proofs.Math.Path.{refl, ap}
use Rattle.std.proofs.Common.{sym, ◌∙◌, subst, arith}
use mathlib.Core.List.{List, [], ◌∷◌, ◌++◌, map}
use Rattle.std.proofs.Math.Option.{Option, none as nothing, some}
use Rattle.lists.specs.Bytes.{bytes}
use Rattle.lists.specs.Tests.{in_list}
use Rattle.lists.specs.Member.{Member}
use Rattle.reading.specs.Trees.{Name, Tree, variable, constant, apply, select, call, Trees, none, more, Stores, base, store, Declarations}
use Rattle.smtlib.specs.Grammar.{Operator, plain}
use Rattle.smtlib.specs.Readings.{
  operators,
  listed,
  function_names,
  declared_names,
  Meaning,
  a_tree,
  an_array,
  as_meanings,
  bits_of,
  numerals_of,
  Names,
  is_variable,
  is_array,
  is_constant,
  Applies,
  is_call,
  is_select,
  is_store,
  is_operator,
  NamesIn,
  AppliesIn,
  MeansIn,
  MeansAllIn,
  MeansAll,
}
use Rattle.smtlib.proofs.ReadsUnique.{select-built-in, store-built-in, operator-built-in}
use Rattle.smtlib.specs.Scopes.{Scope, bound_to, bound_names, symbol_of, hides}
use Rattle.smtlib.specs.ScopeLaws.{bound-none, bound_some, none-bound, not_hidden}
use Rattle.smtlib.specs.Sorts.{TermSort, bits}
use Rattle.echo_spec.specs.Render.{symbol_of as printed, binary_digits}
use Rattle.theorems.specs.Terms.{
  operator_of,
  applied,
  term_of,
  terms_of,
  array_term,
  FitsVariable,
  FitsIn,
  FitsAllIn,
  FitsStoresIn,
  FitsAll,
  Fresh,
  fresh-none,
  variable-declared,
  array-declared,
  function-declared,
  in-arrays,
  in-functions,
}
use Rattle.theorems.specs.Unfolding.{unfolded_name, unfolded, unfolded_all, unfolded_stores, meanings, meanings-names, meanings-bound, unfolded-all-none}

-- ---------------------------------------------------------------- constants

bits-snoc : (ds : List ℕ) (c : ℕ) → bits_of (ds ++ (c ∷ [])) ≡ (c - 48) ∷ bits_of ds
bits-snoc [] c = refl
bits-snoc (e ∷ ds) c = ap (λ (x : List ℕ). x ++ ((e - 48) ∷ [])) (bits-snoc ds c)

pub bits-of-digits : (bs : List ℕ) → bits_of (binary_digits bs) ≡ bs
unfolding binary_digits
bits-of-digits [] = refl
bits-of-digits (b ∷ bs) =
    let p : (48 + b) - 48 ≡ b = omega arith in
    rw (bits-snoc, p, bits-of-digits bs)

-- ---------------------------------------------------------------- operators

symbol-of : (w : Name) (ks : List ℕ) → symbol_of (operator_of w ks) ≡ w
unfolding operator_of
symbol-of w [] = refl
symbol-of w (k ∷ ks) = refl

numerals-of : (w : Name) (ks : List ℕ) → numerals_of (operator_of w ks) ≡ ks
unfolding operator_of
numerals-of w [] = refl
numerals-of w (k ∷ ks) = refl

module _ (D : Declarations) (E : Scope TermSort) (trees : Scope Tree) (same_names : bound_names E ≡ bound_names trees) (fresh : Fresh D (bound_names E)) where
  abbrev scope : Scope Meaning
  scope = meanings trees

  length-meanings : (ts : Trees) (us : List TermSort) → FitsAllIn D E ts us → length (as_meanings (unfolded_all trees ts)) ≡ length us
  unfolding unfolded
  length-meanings none [] h = refl
  length-meanings none (u ∷ us) h = absurd h
  length-meanings (more t ts) [] h = absurd h
  length-meanings (more t ts) (u ∷ us) h = ap suc (length-meanings ts us h.1)

  -- ---------------------------------------------------------------- what is declared, or the theories', is not bound

  not-bound : (n : Name) → (T (in_list n (bound_names E)) → ⊥) → T (in_list n (bound_names scope)) → ⊥
  not-bound n f q = f (rw same_names (rw (meanings-names trees) at q))

  declared-unbound : (n : Name) → T (in_list n (declared_names D)) → bound_to scope n ≡ nothing
  declared-unbound n h = bound-none scope n (not-bound n (λ q. fresh.undeclared n q h))

  shown : (o : Operator) → (T (in_list (symbol_of o) (bound_names E)) → ⊥) → hides scope o ≡ false
  shown o f = not_hidden scope o (not-bound (symbol_of o) f)

  applies-in : (o : Operator) (us : List Meaning) (m : Meaning) → (T (in_list (symbol_of o) (bound_names E)) → ⊥) → Applies D o us m → AppliesIn D scope o us m
  applies-in o us m f h = subst (λ (b : Bool). elim b as (λ _. Type 0) [ true ↦ ⊥ | false ↦ Applies D o us m ]) (sym (shown o f)) h

  names-unbound : (n : Name) (m : Meaning) → bound_to scope n ≡ nothing → Names D n m → NamesIn D scope n m
  names-unbound n m e h = subst (λ (o : Option Meaning). elim o as (λ _. Type 0) [ nothing ↦ Names D n m | some u ↦ m ≡ u ]) (sym e) h

  names-bound : (n : Name) (m u : Meaning) → bound_to scope n ≡ some u → m ≡ u → NamesIn D scope n m
  names-bound n m u e h = subst (λ (o : Option Meaning). elim o as (λ _. Type 0) [ nothing ↦ Names D n m | some v ↦ m ≡ v ]) (sym e) h

  applies-operator : (k : ℕ) (ks : List ℕ) (ts : Trees) (n : ℕ) → length (as_meanings ts) ≡ n
      → T (listed (printed k) k (length ks) n operators) → AppliesIn D scope (operator_of (printed k) ks) (as_meanings ts) (a_tree (apply k ks ts))
  applies-operator k ks ts n e h =
      applies-in (operator_of (printed k) ks) (as_meanings ts) (a_tree (apply k ks ts))
      (λ q. fresh.foreign (printed k) (rw (symbol-of (printed k) ks) at q) (operator-built-in (printed k) k (length ks) n h))
      (is_operator k ts
      (rw (symbol-of (printed k) ks, numerals-of (printed k) ks, e) h)
      refl
      (rw (numerals-of (printed k) ks)))

  means-name : (n : Name) (s : TermSort) → FitsIn D E (variable n) s → NamesIn D scope n (a_tree (unfolded_name trees n))
  means-name n s h = by-bound (bound_to trees n) refl
    where
      declared : bound_to E n ≡ nothing → FitsVariable D n s
      declared e = subst (λ (o : Option TermSort). elim o as (λ _. Type 0) [ nothing ↦ FitsVariable D n s | some u ↦ s ≡ u ]) e h

      unbound : (o : Option TermSort) → bound_to E n ≡ o → bound_to trees n ≡ nothing → bound_to E n ≡ nothing
      unbound nothing p q = p
      unbound (some u) p q = absurd (none-bound trees n q (rw same_names at (bound_some E n u p)))

      by-bound : (o : Option Tree) → bound_to trees n ≡ o → NamesIn D scope n (a_tree (unfolded_name trees n))
      by-bound nothing e =
          let f = declared (unbound (bound_to E n) refl e) in
          let p : unfolded_name trees n ≡ variable n = ap (λ (o : Option Tree). elim o [ nothing ↦ variable n | some t ↦ t ]) e in
          let q : bound_to scope n ≡ nothing = meanings-bound trees n ∙ ap (λ (o : Option Tree). elim o [ nothing ↦ nothing | some t ↦ some (a_tree t) ]) e in
          names-unbound n (a_tree (unfolded_name trees n)) q (is_variable (variable-declared D n f.0 f.1) (ap a_tree p))
      by-bound (some t) e =
          let p : unfolded_name trees n ≡ t = ap (λ (o : Option Tree). elim o [ nothing ↦ variable n | some t ↦ t ]) e in
          let q : bound_to scope n ≡ some (a_tree t) = meanings-bound trees n ∙ ap (λ (o : Option Tree). elim o [ nothing ↦ nothing | some t ↦ some (a_tree t) ]) e in
          names-bound n (a_tree (unfolded_name trees n)) (a_tree t) q (ap a_tree p)

  mutual
    unfolding term_of applied MeansIn unfolded

    pub means-term-in : (t : Tree) (s : TermSort) → FitsIn D E t s → MeansIn D scope (term_of t) (a_tree (unfolded trees t))
    means-term-in (variable n) s h = means-name n s h
    means-term-in (constant bs) s h = rw (bits-of-digits bs)
    means-term-in (apply k ks ts) s h =
        means-applied ts h.0 h.1 [] (operator_of (printed k) ks) (a_tree (apply k ks (unfolded_all trees ts))) h.2
        (applies-operator k ks (unfolded_all trees ts) _ (length-meanings ts (h.0 ∷ h.1) h.2) h.4)
    means-term-in (select a j ss) s h = (
      an_array a (unfolded_stores trees ss),
      a_tree (unfolded trees j) ∷ [],
      means-array ss a h.0 h.1 h.2 h.5,
      (means-term-in j (bits h.0) h.4, tt),
      applies-in (plain (bytes "select")) _ _ (λ q. fresh.foreign (bytes "select") q select-built-in) (is_select a (unfolded_stores trees ss) (unfolded trees j) refl refl refl),
    )
    means-term-in (call n ts) s h = means-call ts h.0 n (function-declared D n h.0 h.1 h.2) h.3

    -- an operator over terms, of which there is one at least
    pub means-applied : (ts : Trees) (u : TermSort) (us : List TermSort) (n : Name) (o : Operator) (m : Meaning) → FitsAllIn D E ts (u ∷ us)
        → AppliesIn D scope o (as_meanings (unfolded_all trees ts)) m → MeansIn D scope (applied n o (terms_of ts)) m
    means-applied none u us n o m h f = absurd h
    means-applied (more t ts) u us n o m h f =
        (a_tree (unfolded trees t), as_meanings (unfolded_all trees ts), means-term-in t u h.0, means-terms-in ts us h.1, f)

    pub means-call : (ts : Trees) (ws : List ℕ) (n : Name) → T (in_list n (function_names D)) → FitsAllIn D E ts (map bits ws)
        → MeansIn D scope (applied n (plain n) (terms_of ts)) (a_tree (call n (unfolded_all trees ts)))
    means-call none ws n q h = names-unbound n (a_tree (call n none)) (declared-unbound n (in-functions D n q)) (is_constant q refl)
    means-call (more t ts) [] n q h = absurd h
    means-call (more t ts) (w ∷ ws) n q h = (
      a_tree (unfolded trees t),
      as_meanings (unfolded_all trees ts),
      means-term-in t (bits w) h.0,
      means-terms-in ts (map bits ws) h.1,
      applies-in (plain n) _ _ (λ z. fresh.undeclared n z (in-functions D n q)) (is_call n (more (unfolded trees t) (unfolded_all trees ts)) refl q refl refl),
    )

    pub means-terms-in : (ts : Trees) (us : List TermSort) → FitsAllIn D E ts us → MeansAllIn D scope (terms_of ts) (as_meanings (unfolded_all trees ts))
    means-terms-in none [] h = tt
    means-terms-in none (u ∷ us) h = absurd h
    means-terms-in (more t ts) [] h = absurd h
    means-terms-in (more t ts) (u ∷ us) h = (means-term-in t u h.0, means-terms-in ts us h.1)

    pub means-array : (ss : Stores) (a : Name) (i v : ℕ) → Member (record { name = a; index = i; value = v }) D.arrays → FitsStoresIn D E ss i v
        → MeansIn D scope (array_term a ss) (an_array a (unfolded_stores trees ss))
    means-array base a i v q h = names-unbound a (an_array a base) (declared-unbound a (in-arrays D a (array-declared D a i v q))) (is_array (array-declared D a i v q) refl)
    means-array (store x y ss) a i v q h = (
      an_array a (unfolded_stores trees ss),
      a_tree (unfolded trees x) ∷ a_tree (unfolded trees y) ∷ [],
      means-array ss a i v q h.2,
      (means-term-in x (bits i) h.0, (means-term-in y (bits v) h.1, tt)),
      applies-in (plain (bytes "store")) _ _ (λ z. fresh.foreign (bytes "store") z store-built-in)
          (is_store a (unfolded_stores trees ss) (unfolded trees x) (unfolded trees y) refl refl refl),
    )

-- where no name is bound
pub means-terms : (D : Declarations) (ts : Trees) (us : List TermSort) → FitsAll D ts us → MeansAll D (terms_of ts) (as_meanings ts)
means-terms D ts us h =
    subst (λ (vs : Trees). MeansAll D (terms_of ts) (as_meanings vs)) (unfolded-all-none ts) (means-terms-in D [] [] refl (fresh-none D) ts us h)
