-- A script whose declared names are apart has at most one reading.
use Rattle.std.specs.Prelude.{ℕ, ◌≡◌, refl, List, [], ◌∷◌, ◌++◌, Bool, true, false, ◌&&◌, not, cond, T, eqb, length}
use Rattle.std.proofs.Common.{ap, sym, ◌∙◌, T_not, eqb→eq}
use Rattle.std.proofs.Math.Option.{Option, none, some}
use Rattle.lists.specs.Bytes.{bytes}
use Rattle.lists.specs.Tests.{same, in_list, distinct, and_0, and-1, or_l, or_r, or_elim, T→true, no→false, same→eq, same_refl, in_left, in_right}
use Rattle.lists.specs.Tests.{distinct-right, distinct_apart, every_in}
use Rattle.reading.specs.Trees.{Name, Tree, apply, select, call, Trees, none as noTrees, more as moreTrees, Stores, store, Declarations, Reading}
use Rattle.smtlib.specs.Grammar.{Operator, Term, literal, identifier, application, binding, Terms, none as no_terms, more as moreTerms, Script}
use Rattle.smtlib.specs.Scopes.{Scope, bind, bound_to, symbol_of, hides}
use Rattle.smtlib.proofs.LexUnique.{lex-unique}
use Rattle.smtlib.specs.GrammarUnique.{script-unique}
use Rattle.smtlib.specs.Readings.{Row, operators, listed, row_names, built_in, variable_names, array_names, function_names, declared_names, Apart}
use Rattle.smtlib.specs.Readings.{Meaning, a_tree, an_array, as_meanings, numerals_of, Names, is_variable, is_array, is_constant, Applies}
use Rattle.smtlib.specs.Readings.{is_call, is_select, is_store, is_operator, NamesIn, AppliesIn, MeansIn, Means, MeansAllIn, MeansAll, ScriptMeans, Reads}

-- ---------------------------------------------------------------- the table of operators

pub operators-distinct : T (distinct (row_names operators))
unfolding operators bytes same
operators-distinct = tt

select-not-listed : (k p a : ℕ) → T (listed (bytes "select") k p a operators) → ⊥
unfolding operators bytes same
select-not-listed k p a h = h

store-not-listed : (k p a : ℕ) → T (listed (bytes "store") k p a operators) → ⊥
unfolding operators bytes same
store-not-listed k p a h = h

listed→in : (n : Name) (k p a : ℕ) (rs : List Row) → T (listed n k p a rs) → T (in_list n (row_names rs))
listed→in n k p a [] h = h
listed→in n k p a (r ∷ rs) h =
    or_elim (same n (bytes r.name) && (eqb k r.kind && (eqb p r.numerals && eqb a r.operands))) (listed n k p a rs) h
    (λ q. or_l (same n (bytes r.name)) (in_list n (row_names rs)) (and_0 (same n (bytes r.name)) _ q))
    (λ q. or_r (same n (bytes r.name)) (in_list n (row_names rs)) (listed→in n k p a rs q))

-- rows of distinct names have one kind for a name
listed-unique : (n : Name) (k k' p a : ℕ) (rs : List Row) → T (distinct (row_names rs)) → T (listed n k p a rs) → T (listed n k' p a rs) → k ≡ k'
listed-unique n k k' p a [] h x y = absurd x
listed-unique n k k' p a (r ∷ rs) h x y =
    let rest = and-1 (not (in_list (bytes r.name) (row_names rs))) (distinct (row_names rs)) h in
    or_elim (fits k) (listed n k p a rs) x
    (λ q. or_elim (fits k') (listed n k' p a rs) y (λ q'. kind-of k q ∙ sym (kind-of k' q')) (λ q'. absurd (clash k k' q q')))
    (λ q. or_elim (fits k') (listed n k' p a rs) y (λ q'. absurd (clash k' k q' q)) (λ q'. listed-unique n k k' p a rs rest q q'))
  where
    fits : ℕ → Bool
    fits j = same n (bytes r.name) && (eqb j r.kind && (eqb p r.numerals && eqb a r.operands))

    kind-of : (j : ℕ) → T (fits j) → j ≡ r.kind
    kind-of j q = eqb→eq j r.kind (and_0 (eqb j r.kind) _ (and-1 (same n (bytes r.name)) _ q))

    clash : (i j : ℕ) → T (fits i) → T (listed n j p a rs) → ⊥
    clash i j q l =
        let e : n ≡ bytes r.name = same→eq n (bytes r.name) (and_0 (same n (bytes r.name)) _ q) in
        T_not (in_list (bytes r.name) (row_names rs)) (and_0 (not (in_list (bytes r.name) (row_names rs))) (distinct (row_names rs)) h)
        (rw e at (listed→in n j p a rs l))

pub select-built-in : T (in_list (bytes "select") built_in)
unfolding built_in
select-built-in = or_l (same (bytes "select") (bytes "select")) _ (same_refl (bytes "select"))

pub store-built-in : T (in_list (bytes "store") built_in)
unfolding built_in
store-built-in = or_r (same (bytes "store") (bytes "select")) _ (or_l (same (bytes "store") (bytes "store")) _ (same_refl (bytes "store")))

pub operator-built-in : (n : Name) (k p a : ℕ) → T (listed n k p a operators) → T (in_list n built_in)
unfolding built_in
operator-built-in n k p a h = or_r (same n (bytes "select")) _ (or_r (same n (bytes "store")) _ (listed→in n k p a operators h))

store-not-select : same (bytes "store") (bytes "select") ≡ false
unfolding same bytes
store-not-select = refl

-- ---------------------------------------------------------------- meanings

as-meanings-injective : (ts us : Trees) → as_meanings ts ≡ as_meanings us → ts ≡ us
as-meanings-injective noTrees noTrees e = refl
as-meanings-injective noTrees (moreTrees u us) e = cc
as-meanings-injective (moreTrees t ts) noTrees e = cc
as-meanings-injective (moreTrees t ts) (moreTrees u us) e =
    let p : as_meanings ts ≡ as_meanings us = cc in
    let q : ts ≡ us = as-meanings-injective ts us p in
    cc

-- what a symbol does in an application
data Role : Type 0 where
  calling selecting storing operating : Role

abbrev AppliesAs : Role → Operator → List Meaning → Meaning → Type 0
AppliesAs calling o us m = (ts : Trees) × (us ≡ as_meanings ts) × (m ≡ a_tree (call (symbol_of o) ts))
AppliesAs selecting o us m = (a : Name) × (ss : Stores) × (i : Tree) × (us ≡ an_array a ss ∷ a_tree i ∷ []) × (m ≡ a_tree (select a i ss))
AppliesAs storing o us m =
    (a : Name) × (ss : Stores) × (i : Tree) × (v : Tree) × (us ≡ an_array a ss ∷ a_tree i ∷ a_tree v ∷ []) × (m ≡ an_array a (store i v ss))
AppliesAs operating o us m =
    (k : ℕ) × (ts : Trees) × T (listed (symbol_of o) k (length (numerals_of o)) (length us) operators)
    × (us ≡ as_meanings ts) × (m ≡ a_tree (apply k (numerals_of o) ts))

applies-as-unique : (r : Role) (o : Operator) (us : List Meaning) (m m' : Meaning) → AppliesAs r o us m → AppliesAs r o us m' → m ≡ m'
applies-as-unique calling o us m m' (ts, p, q) (ts', p', q') = let e : ts ≡ ts' = as-meanings-injective ts ts' (sym p ∙ p') in cc
applies-as-unique selecting o us m m' (a, ss, i, p, q) (a', ss', i', p', q') = cc
applies-as-unique storing o us m m' (a, ss, i, v, p, q) (a', ss', i', v', p', q') = cc
applies-as-unique operating o us m m' (k, ts, h, p, q) (k', ts', h', p', q') =
    let e : ts ≡ ts' = as-meanings-injective ts ts' (sym p ∙ p') in
    let f : k ≡ k' = listed-unique (symbol_of o) k k' (length (numerals_of o)) (length us) operators operators-distinct h h' in
    cc

module _ (d : Declarations) (apart : Apart d) where
  in-arrays : (n : Name) → T (in_list n (array_names d)) → T (in_list n (array_names d ++ function_names d))
  in-arrays n = in_left n (array_names d) (function_names d)

  in-functions : (n : Name) → T (in_list n (function_names d)) → T (in_list n (array_names d ++ function_names d))
  in-functions n = in_right n (array_names d) (function_names d)

  no-variable : (n : Name) → T (in_list n (array_names d ++ function_names d)) → T (in_list n (variable_names d)) → ⊥
  no-variable n h k = distinct_apart (variable_names d) (array_names d ++ function_names d) n apart.once k h

  no-array : (n : Name) → T (in_list n (function_names d)) → T (in_list n (array_names d)) → ⊥
  no-array n h k =
      distinct_apart (array_names d) (function_names d) n (distinct-right (variable_names d) (array_names d ++ function_names d) apart.once) k h

  -- a built-in name is no function's
  no-function : (n : Name) → T (in_list n built_in) → T (in_list n (function_names d)) → ⊥
  no-function n h k =
      let l : T (in_list n (declared_names d)) = in_right n (variable_names d) (array_names d ++ function_names d) (in-functions n k) in
      T_not (in_list n built_in) (every_in (λ m. not (in_list m built_in)) (declared_names d) n apart.foreign l) h

  names-unique : (n : Name) (m m' : Meaning) → Names d n m → Names d n m' → m ≡ m'
  names-unique n m m' (is_variable h e) (is_variable h' e') = cc
  names-unique n m m' (is_variable h e) (is_array h' e') = absurd (no-variable n (in-arrays n h') h)
  names-unique n m m' (is_variable h e) (is_constant h' e') = absurd (no-variable n (in-functions n h') h)
  names-unique n m m' (is_array h e) (is_variable h' e') = absurd (no-variable n (in-arrays n h) h')
  names-unique n m m' (is_array h e) (is_array h' e') = cc
  names-unique n m m' (is_array h e) (is_constant h' e') = absurd (no-array n h' h)
  names-unique n m m' (is_constant h e) (is_variable h' e') = absurd (no-variable n (in-functions n h) h')
  names-unique n m m' (is_constant h e) (is_array h' e') = absurd (no-array n h h')
  names-unique n m m' (is_constant h e) (is_constant h' e') = cc

  -- the role is found from the symbol
  role : Name → Role
  role n = cond (in_list n (function_names d)) calling (cond (same n (bytes "select")) selecting (cond (same n (bytes "store")) storing operating))

  role-of-function : (n : Name) → T (in_list n (function_names d)) → role n ≡ calling
  unfolding role
  role-of-function n h = rw (T→true (in_list n (function_names d)) h)

  role-of-select : role (bytes "select") ≡ selecting
  unfolding role
  role-of-select =
      let f = no→false (in_list (bytes "select") (function_names d)) (no-function (bytes "select") select-built-in) in
      rw (f, T→true (same (bytes "select") (bytes "select")) (same_refl (bytes "select")))

  role-of-store : role (bytes "store") ≡ storing
  unfolding role
  role-of-store =
      let f = no→false (in_list (bytes "store") (function_names d)) (no-function (bytes "store") store-built-in) in
      rw (f, store-not-select, T→true (same (bytes "store") (bytes "store")) (same_refl (bytes "store")))

  role-of-operator : (n : Name) (k p a : ℕ) → T (listed n k p a operators) → role n ≡ operating
  unfolding role
  role-of-operator n k p a h =
      let f = no→false (in_list n (function_names d)) (no-function n (operator-built-in n k p a h)) in
      let g = no→false (same n (bytes "select")) (λ e. select-not-listed k p a (rw (same→eq n (bytes "select") e) at h)) in
      let i = no→false (same n (bytes "store")) (λ e. store-not-listed k p a (rw (same→eq n (bytes "store") e) at h)) in
      rw (f, g, i)

  applies-as : (o : Operator) (us : List Meaning) (m : Meaning) → Applies d o us m → AppliesAs (role (symbol_of o)) o us m
  applies-as o us m (is_call n ts e h p q) =
      let s : symbol_of o ≡ n = ap symbol_of e in
      rw (s, role-of-function n h) (ts, p, (rw s q))
  applies-as o us m (is_select a ss i e p q) = rw (ap symbol_of e, role-of-select) (a, ss, i, p, q)
  applies-as o us m (is_store a ss i v e p q) = rw (ap symbol_of e, role-of-store) (a, ss, i, v, p, q)
  applies-as o us m (is_operator k ts h p q) =
      rw (role-of-operator (symbol_of o) k (length (numerals_of o)) (length us) h) (k, ts, h, p, q)

  applies-unique : (o : Operator) (us : List Meaning) (m m' : Meaning) → Applies d o us m → Applies d o us m' → m ≡ m'
  applies-unique o us m m' h h' = applies-as-unique (role (symbol_of o)) o us m m' (applies-as o us m h) (applies-as o us m' h')

  names-in-unique : (e : Scope Meaning) (n : Name) (m m' : Meaning) → NamesIn d e n m → NamesIn d e n m' → m ≡ m'
  names-in-unique e n m m' h h' = by-bound (bound_to e n) h h'
    where
      by-bound : (o : Option Meaning) → elim o as (λ _. Type 0) [ none ↦ Names d n m | some u ↦ m ≡ u ]
          → elim o as (λ _. Type 0) [ none ↦ Names d n m' | some u ↦ m' ≡ u ] → m ≡ m'
      by-bound none h h' = names-unique n m m' h h'
      by-bound (some u) h h' = h ∙ sym h'

  applies-in-unique : (e : Scope Meaning) (o : Operator) (us : List Meaning) (m m' : Meaning) → AppliesIn d e o us m → AppliesIn d e o us m' → m ≡ m'
  applies-in-unique e o us m m' h h' = by-hidden (hides e o) h h'
    where
      by-hidden : (b : Bool) → elim b as (λ _. Type 0) [ true ↦ ⊥ | false ↦ Applies d o us m ]
          → elim b as (λ _. Type 0) [ true ↦ ⊥ | false ↦ Applies d o us m' ] → m ≡ m'
      by-hidden true h h' = absurd h
      by-hidden false h h' = applies-unique o us m m' h h'

  mutual
    unfolding MeansIn

    pub means-in-unique : (e : Scope Meaning) (t : Term) (m m' : Meaning) → MeansIn d e t m → MeansIn d e t m' → m ≡ m'
    means-in-unique e (literal ds) m m' h h' = h ∙ sym h'
    means-in-unique e (identifier n) m m' h h' = names-in-unique e n m m' h h'
    means-in-unique e (application o t ts) m m' (u, us, x, xs, h) (u', us', x', xs', h') =
        let p : u ≡ u' = means-in-unique e t u u' x x' in
        let q : us ≡ us' = means-all-in-unique e ts us us' xs xs' in
        applies-in-unique e o (u' ∷ us') m m' (rw (p, q) at h) h'
    means-in-unique e (binding n t b) m m' (u, x, h) (u', x', h') =
        let p : u ≡ u' = means-in-unique e t u u' x x' in
        means-in-unique (bind n u' e) b m m' (rw p at h) h'

    pub means-all-in-unique : (e : Scope Meaning) (ts : Terms) (us us' : List Meaning) → MeansAllIn d e ts us → MeansAllIn d e ts us' → us ≡ us'
    means-all-in-unique e no_terms [] [] h h' = refl
    means-all-in-unique e no_terms [] (u ∷ us) h h' = absurd h'
    means-all-in-unique e no_terms (u ∷ us) us' h h' = absurd h
    means-all-in-unique e (moreTerms t ts) [] us' h h' = absurd h
    means-all-in-unique e (moreTerms t ts) (u ∷ us) [] h h' = absurd h'
    means-all-in-unique e (moreTerms t ts) (u ∷ us) (v ∷ vs) h h' =
        let p : u ≡ v = means-in-unique e t u v h.0 h'.0 in
        let q : us ≡ vs = means-all-in-unique e ts us vs h.1 h'.1 in
        cc

  pub means-unique : (t : Term) (m m' : Meaning) → Means d t m → Means d t m' → m ≡ m'
  means-unique = means-in-unique []

  pub means-all-unique : (ts : Terms) (us us' : List Meaning) → MeansAll d ts us → MeansAll d ts us' → us ≡ us'
  means-all-unique = means-all-in-unique []

-- ---------------------------------------------------------------- scripts

pub script-means-unique : (s : Script) (r r' : Reading) → ScriptMeans s r → ScriptMeans s r' → Apart r.declarations → r ≡ r'
script-means-unique s r r' h h' apart =
    let p : r.declarations ≡ r'.declarations = cc (h.declares, h'.declares) in
    let a : MeansAll r.declarations s.assertions (as_meanings r'.assertions) = rw p h'.asserts in
    let q : as_meanings r.assertions ≡ as_meanings r'.assertions = means-all-unique r.declarations apart s.assertions _ _ h.asserts a in
    let u : r.assertions ≡ r'.assertions = as-meanings-injective r.assertions r'.assertions q in
    λ i. record { declarations = p i; assertions = u i }

-- bytes have at most one reading, if its names are apart
pub reads-unique : (b : List ℕ) (r r' : Reading) → Reads b r → Reads b r' → Apart r.declarations → r ≡ r'
reads-unique b r r' h h' apart =
    let t : h.tokens ≡ h'.tokens = lex-unique b h.tokens h'.tokens h.lexed h'.lexed in
    let e : h.script ≡ h'.script = script-unique h.script h'.script (cc (h.parsed, h'.parsed)) in
    script-means-unique h.script r r' h.means (rw e h'.means) apart
