-- The term of a tree that fits has the tree's sort by the standard's ranks.
use Rattle.std.specs.Prelude.{ℕ, ◌≡◌, false, ◌&&◌, not, T, ltb, eqb, length, get_or}
use Rattle.std.proofs.Math.Path.{refl}
use Rattle.std.proofs.Common.{ap, sym, ◌∙◌, subst, inl, inr, lt→ltb, T_not}
use mathlib.Core.List.{List, [], ◌∷◌, ◌++◌, map, map-map, map-append}
use Rattle.std.proofs.Math.Bool.{true}
use Rattle.std.proofs.Math.Option.{Option, none, some}
use Rattle.std.proofs.Math.Dec.{eqb_refl}
use Rattle.lists.specs.Bytes.{bytes}
use Rattle.lists.specs.Tests.{same, in_list, every, distinct, and_0, and-1, and_T, or_l, or_r, T→true, no→false, same→eq, same_refl, every_in}
use Rattle.lists.specs.Member.{Member, member-left, member_right, member-map, member-in}
use Rattle.reading.specs.Trees.{
  Name,
  Tree,
  variable,
  constant,
  apply,
  select,
  call,
  Trees,
  none as noTrees,
  more,
  Stores,
  base,
  store,
  Variable,
  Array,
  Function,
  Declarations,
}
use Rattle.smtlib.specs.Grammar.{bit_vec, array, Sort, Operator, plain, indexed, Declaration, declare_const, declare_fun}
use Rattle.smtlib.specs.Scopes.{Scope, bound_to, bound_names, hides}
use Rattle.smtlib.specs.ScopeLaws.{bound-none, not_hidden}
use Rattle.smtlib.specs.Readings.{built_in, function_names, declared_names, Apart}
use Rattle.smtlib.proofs.ReadsUnique.{select-built-in, store-built-in, operator-built-in}
use Rattle.smtlib.specs.Sorts.{
  TermSort,
  bool,
  bits,
  bits_array,
  Rank,
  selection,
  storing,
  Instance,
  instance_of,
  same_sort,
  same_sorts,
  sensible,
  ranks,
  result_of,
  rank,
  name_of,
  declaration_of,
  is_sort,
  are_sorts,
  sort_under,
  sort_applied,
  both_sorts,
  sort_over,
  sort_in,
  sorts_in,
}
use Rattle.echo_spec.specs.Render.{symbol_of}
use Rattle.theorems.specs.Terms.{
  operator_of,
  applied,
  term_of,
  terms_of,
  array_term,
  FitsVariable,
  FitsIn,
  FitsAllIn,
  FitsStoresIn,
  Fresh,
  array-declared,
  function-declared,
  in-arrays,
  in-functions,
}
use Rattle.theorems.specs.Texts.{length_digits}

-- ---------------------------------------------------------------- declarations, as a script has them

abbrev pub bit_vecs : List ℕ → List Sort
bit_vecs ws = map bit_vec ws

abbrev pub declare_variable : Variable → Declaration
declare_variable v = declare_const v.name (bit_vec v.width)

abbrev pub declare_array : Array → Declaration
declare_array a = declare_const a.name (array (bit_vec a.index) (bit_vec a.value))

abbrev pub declare_function : Function → Declaration
declare_function f = declare_fun f.name (bit_vecs f.arguments) (bit_vec f.width)

unfoldable pub commands_of : Declarations → List Declaration
commands_of D = map declare_variable D.variables ++ (map declare_array D.arrays ++ map declare_function D.functions)

-- ---------------------------------------------------------------- looking a symbol up

declaration-found : (ds : List Declaration) (d : Declaration) → T (distinct (map name_of ds)) → Member d ds → declaration_of ds (name_of d) ≡ some d
declaration-found [] d u h = absurd h
declaration-found (x ∷ ds) d u (inl e) = rw (e, T→true (same (name_of x) (name_of x)) (same_refl (name_of x)))
declaration-found (x ∷ ds) d u (inr h) =
    let apart : (T (same (name_of d) (name_of x)) → ⊥) = λ q.
    T_not (in_list (name_of x) (map name_of ds)) (and_0 (not (in_list (name_of x) (map name_of ds))) (distinct (map name_of ds)) u)
    (subst (λ (n : List ℕ). T (in_list n (map name_of ds))) (same→eq (name_of d) (name_of x) q) (member-in (name_of d) (map name_of ds) (member-map name_of d ds h))) in
    rw (no→false (same (name_of d) (name_of x)) apart)
    (declaration-found ds d (and-1 (not (in_list (name_of x) (map name_of ds))) (distinct (map name_of ds)) u) h)

declaration-missing : (ds : List Declaration) (n : Name) → (T (in_list n (map name_of ds)) → ⊥) → declaration_of ds n ≡ none
declaration-missing [] n f = refl
declaration-missing (x ∷ ds) n f =
    rw (no→false (same n (name_of x)) (λ q. f (or_l (same n (name_of x)) (in_list n (map name_of ds)) q)))
    (declaration-missing ds n (λ q. f (or_r (same n (name_of x)) (in_list n (map name_of ds)) q)))

pub names-of-commands : (D : Declarations) → map name_of (commands_of D) ≡ declared_names D
unfolding commands_of
names-of-commands D =
    rw (
      map-append name_of (map declare_variable D.variables) (map declare_array D.arrays ++ map declare_function D.functions),
      map-append name_of (map declare_array D.arrays) (map declare_function D.functions),
      map-map name_of declare_variable D.variables,
      map-map name_of declare_array D.arrays,
      map-map name_of declare_function D.functions,
    )

-- ---------------------------------------------------------------- sorts

same-sort : (s : TermSort) → T (same_sort s s)
unfolding same_sort
same-sort bool = tt
same-sort (bits n) = eqb_refl n
same-sort (bits_array i v) = and_T (eqb i i) (eqb v v) (eqb_refl i) (eqb_refl v)

same-sorts : (ss : List TermSort) → T (same_sorts ss ss)
unfolding same_sorts
same-sorts [] = tt
same-sorts (s ∷ ss) = and_T (same_sort s s) (same_sorts ss ss) (same-sort s) (same-sorts ss)

abbrev pub instance_at : Rank → List ℕ → List TermSort → Instance
instance_at r ks ss = instance_of r (get_or ks 0 0) (get_or ks 1 0) (get_or ss 0 bool) (get_or ss 1 bool)

-- numerals and operands that are those of their instance have its sort
pub result-sort : (r : Rank) (ks : List ℕ) (ss : List TermSort) → (instance_at r ks ss).numerals ≡ ks → (instance_at r ks ss).operands ≡ ss
    → T (every sensible ss) → T (instance_at r ks ss).condition → result_of r ks ss ≡ some (instance_at r ks ss).result
unfolding result_of
result-sort r ks ss e f g h =
    let x : Instance = instance_at r ks ss in
    let a : T (same ks x.numerals) = rw e (same_refl ks) in
    let b : T (same_sorts ss x.operands) = rw f (same-sorts ss) in
    let c : T (every sensible ss && x.condition) = and_T (every sensible ss) x.condition g h in
    let d : T (same_sorts ss x.operands && (every sensible ss && x.condition)) = and_T (same_sorts ss x.operands) (every sensible ss && x.condition) b c in
    rw (T→true (same ks x.numerals && (same_sorts ss x.operands && (every sensible ss && x.condition))) (and_T (same ks x.numerals) _ a d))

are-sorts : (ws : List ℕ) → T (are_sorts (bit_vecs ws) (map bits ws))
are-sorts [] = tt
are-sorts (w ∷ ws) = and_T (is_sort (bit_vec w) (bits w)) (are_sorts (bit_vecs ws) (map bits ws)) (same-sort (bits w)) (are-sorts ws)

module _ (D : Declarations) (apart : Apart D) where
  abbrev ds : List Declaration
  ds = commands_of D

  found : (d : Declaration) → Member d ds → declaration_of ds (name_of d) ≡ some d
  found d h = declaration-found ds d (rw (names-of-commands D) apart.once) h

  missing : (n : Name) → T (in_list n built_in) → declaration_of ds n ≡ none
  missing n h =
      declaration-missing ds n λ q.
      T_not (in_list n built_in) (every_in (λ n. not (in_list n built_in)) (declared_names D) n apart.foreign (rw (names-of-commands D) at q)) h

  found-variable : (n : Name) (w : ℕ) → Member (record { name = n; width = w }) D.variables → declaration_of ds n ≡ some (declare_const n (bit_vec w))
  unfolding commands_of
  found-variable n w h =
      found (declare_const n (bit_vec w))
      (member-left _ (map declare_variable D.variables) (map declare_array D.arrays ++ map declare_function D.functions) (member-map declare_variable (record { name = n; width = w }) D.variables h))

  found-array : (a : Name) (i v : ℕ) → Member (record { name = a; index = i; value = v }) D.arrays → declaration_of ds a ≡ some (declare_const a (array (bit_vec i) (bit_vec v)))
  unfolding commands_of
  found-array a i v h =
      found (declare_const a (array (bit_vec i) (bit_vec v)))
      (member_right _ (map declare_variable D.variables) (map declare_array D.arrays ++ map declare_function D.functions)
      (member-left _ (map declare_array D.arrays) (map declare_function D.functions) (member-map declare_array (record { name = a; index = i; value = v }) D.arrays h)))

  found-function : (n : Name) (ws : List ℕ) (w : ℕ) → Member (record { name = n; arguments = ws; width = w }) D.functions
      → declaration_of ds n ≡ some (declare_fun n (bit_vecs ws) (bit_vec w))
  unfolding commands_of
  found-function n ws w h =
      found (declare_fun n (bit_vecs ws) (bit_vec w))
      (member_right _ (map declare_variable D.variables) (map declare_array D.arrays ++ map declare_function D.functions)
      (member_right _ (map declare_array D.arrays) (map declare_function D.functions) (member-map declare_function (record { name = n; arguments = ws; width = w }) D.functions h)))

  -- a symbol of the theories, which no declaration has
  theory-sort : (n : Name) (ks : List ℕ) (us : List TermSort) → T (in_list n built_in) → sort_applied ds (operator_of n ks) us ≡ rank n ks us
  unfolding sort_applied operator_of
  theory-sort n [] us h = rw (missing n h, sort_applied)
  theory-sort n (k ∷ ks) us h = refl

  sort-of-name : (n : Name) (d : Declaration) (us : List TermSort) → declaration_of ds n ≡ some d → sort_applied ds (plain n) us ≡ sort_under d us
  unfolding sort_applied
  sort-of-name n d us e = rw (e, sort_applied)

  function-sort : (n : Name) (ws : List ℕ) (w : ℕ) → Member (record { name = n; arguments = ws; width = w }) D.functions
      → sort_applied ds (plain n) (map bits ws) ≡ some (bits w)
  function-sort n ws w h =
      sort-of-name n (declare_fun n (bit_vecs ws) (bit_vec w)) (map bits ws) (found-function n ws w h)
      ∙ rw (T→true (are_sorts (bit_vecs ws) (map bits ws)) (are-sorts ws))

  array-sort : (a : Name) (i v : ℕ) → Member (record { name = a; index = i; value = v }) D.arrays → sort_applied ds (plain a) [] ≡ some (bits_array i v)
  array-sort a i v h = sort-of-name a (declare_const a (array (bit_vec i) (bit_vec v))) [] (found-array a i v h)

  select-sort : (i v : ℕ) → T (sensible (bits_array i v)) → sort_applied ds (plain (bytes "select")) (bits_array i v ∷ bits i ∷ []) ≡ some (bits v)
  unfolding operator_of rank ranks bytes same
  select-sort i v h =
      theory-sort (bytes "select") [] (bits_array i v ∷ bits i ∷ []) select-built-in
      ∙ result-sort selection [] (bits_array i v ∷ bits i ∷ []) refl refl (and_T (sensible (bits_array i v)) (ltb 0 i && true) h (and_T (ltb 0 i) true (and_0 (ltb 0 i) (ltb 0 v) h) tt)) tt

  store-sort : (i v : ℕ) → T (sensible (bits_array i v))
      → sort_applied ds (plain (bytes "store")) (bits_array i v ∷ bits i ∷ bits v ∷ []) ≡ some (bits_array i v)
  unfolding operator_of rank ranks bytes same
  store-sort i v h =
      theory-sort (bytes "store") [] (bits_array i v ∷ bits i ∷ bits v ∷ []) store-built-in
      ∙ result-sort storing [] (bits_array i v ∷ bits i ∷ bits v ∷ []) refl refl
      (and_T (sensible (bits_array i v)) _ h (and_T (ltb 0 i) _ (and_0 (ltb 0 i) (ltb 0 v) h) (and_T (ltb 0 v) true (and-1 (ltb 0 i) (ltb 0 v) h) tt))) tt

  module _ (E : Scope TermSort) (fresh : Fresh D (bound_names E)) where
    theory-shown : (w : Name) (ks : List ℕ) → T (in_list w built_in) → hides E (operator_of w ks) ≡ false
    unfolding operator_of
    theory-shown w [] h = not_hidden E (plain w) (λ q. fresh.foreign w q h)
    theory-shown w (k ∷ ks) h = not_hidden E (indexed w k ks) (λ q. fresh.foreign w q h)

    symbol-shown : (w : Name) → T (in_list w built_in) → hides E (plain w) ≡ false
    symbol-shown w h = not_hidden E (plain w) (λ q. fresh.foreign w q h)

    function-shown : (n : Name) → T (in_list n (function_names D)) → hides E (plain n) ≡ false
    function-shown n h = not_hidden E (plain n) (λ q. fresh.undeclared n q (in-functions D n h))

    name-unbound : (n : Name) → T (in_list n (declared_names D)) → bound_to E n ≡ none
    name-unbound n h = bound-none E n (λ q. fresh.undeclared n q h)

    sort-of-unbound : (n : Name) (s : TermSort) → bound_to E n ≡ none → sort_applied ds (plain n) [] ≡ some s
        → elim (bound_to E n) [ none ↦ sort_applied ds (plain n) [] | some u ↦ some u ] ≡ some s
    sort-of-unbound n s e h =
        subst (λ (o : Option TermSort). elim o [ none ↦ sort_applied ds (plain n) [] | some u ↦ some u ] ≡ some s) (sym e) h

    sort-of-variable : (n : Name) (s : TermSort) → FitsIn D E (variable n) s
        → elim (bound_to E n) [ none ↦ sort_applied ds (plain n) [] | some u ↦ some u ] ≡ some s
    sort-of-variable n s h = by-bound (bound_to E n) h
      where
        by-bound : (o : Option TermSort) → elim o as (λ _. Type 0) [ none ↦ FitsVariable D n s | some u ↦ s ≡ u ]
            → elim o [ none ↦ sort_applied ds (plain n) [] | some u ↦ some u ] ≡ some s
        by-bound none h = sort-of-name n (declare_const n (bit_vec h.0)) [] (found-variable n h.0 h.1) ∙ ap some (sym h.2)
        by-bound (some u) h = ap some (sym h)

    mutual
      unfolding sort_in both_sorts sort_over term_of applied

      pub sort-of-term : (t : Tree) (s : TermSort) → FitsIn D E t s → sort_in ds E (term_of t) ≡ some s
      sort-of-term (variable n) s h = sort-of-variable n s h
      sort-of-term (constant bs) s h = rw (length_digits bs, T→true (ltb 0 (length bs)) (lt→ltb 0 (length bs) h.0)) (ap some (sym h.2))
      sort-of-term (apply k ks ts) s h =
          sort-of-applied ts h.0 h.1 [] (operator_of (symbol_of k) ks) (theory-shown (symbol_of k) ks (operator-built-in (symbol_of k) k (length ks) _ h.4)) h.2
          ∙ theory-sort (symbol_of k) ks (h.0 ∷ h.1) (operator-built-in (symbol_of k) k (length ks) _ h.4) ∙ h.5
      sort-of-term (select a j ss) s h =
          rw (symbol-shown (bytes "select") select-built-in, sort-of-array ss a h.0 h.1 h.2 h.3 h.5, sort-of-term j (bits h.0) h.4) (select-sort h.0 h.1 h.3 ∙ ap some (sym h.6))
      sort-of-term (call n ts) s h = sort-of-call ts h.0 n h.1 h.2 h.3 ∙ ap some (sym h.4)

      pub sort-of-applied : (ts : Trees) (u : TermSort) (us : List TermSort) (n : Name) (o : Operator) → hides E o ≡ false → FitsAllIn D E ts (u ∷ us)
          → sort_in ds E (applied n o (terms_of ts)) ≡ sort_applied ds o (u ∷ us)
      sort-of-applied noTrees u us n o z h = absurd h
      sort-of-applied (more t ts) u us n o z h = rw (z, sort-of-term t u h.0, sort-of-terms ts us h.1)

      pub sort-of-call : (ts : Trees) (ws : List ℕ) (n : Name) (w : ℕ) → Member (record { name = n; arguments = ws; width = w }) D.functions
          → FitsAllIn D E ts (map bits ws) → sort_in ds E (applied n (plain n) (terms_of ts)) ≡ some (bits w)
      sort-of-call noTrees [] n w q h = sort-of-unbound n (bits w) (name-unbound n (in-functions D n (function-declared D n [] w q))) (function-sort n [] w q)
      sort-of-call noTrees (v ∷ ws) n w q h = absurd h
      sort-of-call (more t ts) [] n w q h = absurd h
      sort-of-call (more t ts) (v ∷ ws) n w q h = rw (function-shown n (function-declared D n (v ∷ ws) w q), sort-of-term t (bits v) h.0, sort-of-terms ts (map bits ws) h.1) (function-sort n (v ∷ ws) w q)

      pub sort-of-terms : (ts : Trees) (us : List TermSort) → FitsAllIn D E ts us → sorts_in ds E (terms_of ts) ≡ some us
      sort-of-terms noTrees [] h = refl
      sort-of-terms noTrees (u ∷ us) h = absurd h
      sort-of-terms (more t ts) [] h = absurd h
      sort-of-terms (more t ts) (u ∷ us) h = rw (sort-of-term t u h.0, sort-of-terms ts us h.1)

      pub sort-of-array : (ss : Stores) (a : Name) (i v : ℕ) → Member (record { name = a; index = i; value = v }) D.arrays → T (sensible (bits_array i v))
          → FitsStoresIn D E ss i v → sort_in ds E (array_term a ss) ≡ some (bits_array i v)
      sort-of-array base a i v q g h = sort-of-unbound a (bits_array i v) (name-unbound a (in-arrays D a (array-declared D a i v q))) (array-sort a i v q)
      sort-of-array (store x y ss) a i v q g h =
          rw (symbol-shown (bytes "store") store-built-in, sort-of-array ss a i v q g h.2, sort-of-term x (bits i) h.0, sort-of-term y (bits v) h.1) (store-sort i v g)
