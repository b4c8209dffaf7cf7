-- Every condition of the readings, with declarations, terms and scripts that have no reading by it.
use Rattle.std.specs.Prelude.{ℕ, ◌≡◌, refl, List, [], ◌∷◌, ◌++◌, map, Bool, true, false, ◌&&◌, ◌||◌, not, T, eqb, length}
use Prim.Native.String.{String}
use Rattle.std.proofs.Common.{ap, sym, subst₂, arith, T_not}
use Rattle.std.proofs.Math.Option.{Option, none, some}
use Rattle.lists.specs.Bytes.{bytes}
use Rattle.lists.specs.Tests.{same, in_list, every, every_in, and_T, and_0, and-1, or_l, or_r, or_elim, same_refl, in_left, in_right}
use Rattle.reading.specs.Kinds.{Eq, Rotl}
use Rattle.reading.specs.Trees.{Name, Tree, variable, constant, apply, call, Trees, none as noTrees, more as moreTrees, base, Variable, Declarations, Reading}
use Rattle.smtlib.specs.Grammar.{Sort, bit_vec, array, Operator, plain, indexed, Term, literal, identifier, application, binding, Terms}
use Rattle.smtlib.specs.Grammar.{none as no_terms, more as moreTerms, Declaration, declare_const, declare_fun, Script}
use Rattle.smtlib.specs.Scopes.{symbol_of, is_plain}
use Rattle.smtlib.specs.Readings.{Row, operators, listed, built_in, declared, variable_names, array_names, function_names}
use Rattle.smtlib.specs.Readings.{declared_names, Apart, Meaning, a_tree, an_array, as_meanings, bits_of, numerals_of, Names, is_variable, is_array, is_constant}
use Rattle.smtlib.specs.Readings.{Applies, is_call, is_select, is_store, is_operator, AppliesIn, MeansIn, Means, MeansAll, ScriptMeans}
use Rattle.smtlib.proofs.ReadsUnique.{means-unique, means-all-unique, script-means-unique}

-- ---------------------------------------------------------------- declarations

-- what commands declare, in their order: a constant that is an array is an array by either command
declarations : declared
    (declare_const (bytes "x") (bit_vec 8)
    ∷ declare_fun (bytes "f") (bit_vec 8 ∷ bit_vec 16 ∷ []) (bit_vec 1)
    ∷ declare_const (bytes "a") (array (bit_vec 32) (bit_vec 8))
    ∷ declare_fun (bytes "c") [] (bit_vec 4)
    ∷ declare_const (bytes "y") (bit_vec 9)
    ∷ declare_fun (bytes "b") [] (array (bit_vec 16) (bit_vec 7))
    ∷ [])
    ≡ some
    (record {
      variables = record { name = bytes "x"; width = 8 } ∷ record { name = bytes "y"; width = 9 } ∷ [];
      arrays = record { name = bytes "a"; index = 32; value = 8 } ∷ record { name = bytes "b"; index = 16; value = 7 } ∷ [];
      functions = record { name = bytes "f"; arguments = 8 ∷ 16 ∷ []; width = 1 } ∷ record { name = bytes "c"; arguments = []; width = 4 } ∷ [];
    })
declarations = refl

-- arrays of arrays and functions over arrays have no reading, wherever they stand
abbrev vector : Sort
vector = bit_vec 8

abbrev memory : Sort
memory = array vector vector

unread : List Declaration
unread =
    declare_const [] (array vector memory)
    ∷ declare_const [] (array memory vector)
    ∷ declare_fun [] [] (array vector memory)
    ∷ declare_fun [] [] (array memory vector)
    ∷ declare_fun [] (vector ∷ []) memory
    ∷ declare_fun [] (memory ∷ []) vector
    ∷ declare_fun [] (vector ∷ memory ∷ []) vector
    ∷ []

abbrev is_none : {A : Type 0} → Option A → Bool
is_none none = true
is_none (some x) = false

declarations-unread : T (every (λ d. is_none (declared (d ∷ [])) && is_none (declared (declare_const [] vector ∷ d ∷ []))) unread)
unfolding unread
declarations-unread = tt

-- ---------------------------------------------------------------- names

-- x and y of width 8, an array a of such, a function f of one argument and a function c of none
abbrev scope : Declarations
scope =
    record {
      variables = record { name = bytes "x"; width = 8 } ∷ record { name = bytes "y"; width = 8 } ∷ [];
      arrays = record { name = bytes "a"; index = 8; value = 8 } ∷ [];
      functions = record { name = bytes "f"; arguments = 8 ∷ []; width = 8 } ∷ record { name = bytes "c"; arguments = []; width = 8 } ∷ [];
    }

scope-apart : Apart scope
unfolding built_in operators bytes same
scope-apart = record { once = tt; foreign = tt }

-- an undeclared symbol means nothing
names-declared : (d : Declarations) (n : Name) (m : Meaning) → Names d n m → T (in_list n (declared_names d))
names-declared d n m (is_variable h e) = in_left n (variable_names d) (array_names d ++ function_names d) h
names-declared d n m (is_array h e) = in_right n (variable_names d) (array_names d ++ function_names d) (in_left n (array_names d) (function_names d) h)
names-declared d n m (is_constant h e) = in_right n (variable_names d) (array_names d ++ function_names d) (in_right n (array_names d) (function_names d) h)

undeclared : (n : Name) → T (in_list n (map bytes ("z" ∷ "X" ∷ "" ∷ "xy" ∷ "true" ∷ "bvadd" ∷ []))) → (m : Meaning) → Means scope (identifier n) m → ⊥
unfolding MeansIn bytes same
undeclared n h m k =
    T_not (in_list n (declared_names scope)) (every_in (λ n. not (in_list n (declared_names scope))) (map bytes ("z" ∷ "X" ∷ "" ∷ "xy" ∷ "true" ∷ "bvadd" ∷ [])) n tt h)
    (names-declared scope n m k)

-- ---------------------------------------------------------------- applications

abbrev is_tree : Meaning → Bool
is_tree (a_tree t) = true
is_tree (an_array a ss) = false

-- an array and then trees, so many
abbrev over_array : ℕ → List Meaning → Bool
over_array k [] = false
over_array k (a_tree t ∷ us) = false
over_array k (an_array a ss ∷ us) = every is_tree us && eqb (length us) k

-- a row of the table with this name and these numbers of numerals and operands
abbrev shaped : Name → ℕ → ℕ → List Row → Bool
shaped n p a [] = false
shaped n p a (r ∷ rs) = (same n (bytes r.name) && (eqb p r.numerals && eqb a r.operands)) || shaped n p a rs

-- may the operator mean anything over operands of these meanings
applicable : Declarations → Operator → List Meaning → Bool
applicable d o us =
    (is_plain o && (in_list (symbol_of o) (function_names d) && every is_tree us))
    || ((is_plain o && (same (symbol_of o) (bytes "select") && over_array 1 us))
    || ((is_plain o && (same (symbol_of o) (bytes "store") && over_array 2 us))
    || (shaped (symbol_of o) (length (numerals_of o)) (length us) operators && every is_tree us)))

all-trees : (ts : Trees) → T (every is_tree (as_meanings ts))
all-trees noTrees = tt
all-trees (moreTrees t ts) = all-trees ts

listed-shaped : (n : Name) (k p a : ℕ) (rs : List Row) → T (listed n k p a rs) → T (shaped n p a rs)
listed-shaped n k p a [] h = h
listed-shaped n k p a (r ∷ rs) h =
    let s = same n (bytes r.name) in
    let q = eqb p r.numerals && eqb a r.operands in
    or_elim (s && (eqb k r.kind && q)) (listed n k p a rs) h
    (λ h. or_l (s && q) (shaped n p a rs) (and_T s q (and_0 s (eqb k r.kind && q) h) (and-1 (eqb k r.kind) q (and-1 s (eqb k r.kind && q) h))))
    (λ h. or_r (s && q) (shaped n p a rs) (listed-shaped n k p a rs h))

applies-applicable : (d : Declarations) (o : Operator) (us : List Meaning) (m : Meaning) → Applies d o us m → T (applicable d o us)
unfolding applicable
applies-applicable d o us m (is_call n ts e h p q) =
    rw (e, p) (or_l (in_list n (function_names d) && every is_tree (as_meanings ts)) _ (and_T (in_list n (function_names d)) _ h (all-trees ts)))
applies-applicable d o us m (is_select a ss i e p q) =
    rw (e, p)
    (or_r (in_list (bytes "select") (function_names d) && false) _
    (or_l (same (bytes "select") (bytes "select") && true) _ (and_T (same (bytes "select") (bytes "select")) true (same_refl (bytes "select")) tt)))
applies-applicable d o us m (is_store a ss i v e p q) =
    rw (e, p)
    (or_r (in_list (bytes "store") (function_names d) && false) _
    (or_r (same (bytes "store") (bytes "select") && false) _
    (or_l (same (bytes "store") (bytes "store") && true) _ (and_T (same (bytes "store") (bytes "store")) true (same_refl (bytes "store")) tt))))
applies-applicable d o us m (is_operator k ts h p q) =
    let fits = shaped (symbol_of o) (length (numerals_of o)) (length us) operators in
    let trees : T (every is_tree us) = rw p (all-trees ts) in
    or_r (is_plain o && (in_list (symbol_of o) (function_names d) && every is_tree us)) _
    (or_r (is_plain o && (same (symbol_of o) (bytes "select") && over_array 1 us)) _
    (or_r (is_plain o && (same (symbol_of o) (bytes "store") && over_array 2 us)) (fits && every is_tree us)
    (and_T fits _ (listed-shaped (symbol_of o) k (length (numerals_of o)) (length us) operators h) trees)))

-- a term and what it means
record Operand : Type 0 where
  term : Term
  meaning : Meaning
  means : Means scope term meaning

x : Operand
unfolding MeansIn bytes same
x = record { term = identifier (bytes "x"); meaning = a_tree (variable (bytes "x")); means = is_variable tt refl }

a : Operand
unfolding MeansIn bytes same
a = record { term = identifier (bytes "a"); meaning = an_array (bytes "a") base; means = is_array tt refl }

abbrev terms : List Operand → Terms
terms [] = no_terms
terms (o ∷ os) = moreTerms o.term (terms os)

abbrev meanings : List Operand → List Meaning
meanings os = map (λ o. o.meaning) os

operands-mean : (os : List Operand) → MeansAll scope (terms os) (meanings os)
unfolding MeansIn
operands-mean [] = tt
operands-mean (o ∷ os) = (o.means, operands-mean os)

-- an operator's symbol, its numerals and its operands
record Applied : Type 0 where
  name : String
  numerals : List ℕ
  first : Operand
  others : List Operand

abbrev applied : String → List ℕ → Operand → List Operand → Applied
applied n ks o os = record { name = n; numerals = ks; first = o; others = os }

abbrev operator : Name → List ℕ → Operator
operator n [] = plain n
operator n (k ∷ ks) = indexed n k ks

abbrev spelled : Applied → Term
spelled e = application (operator (bytes e.name) e.numerals) e.first.term (terms e.others)

unreadable : List Applied
unreadable =
    -- numbers of operands: one too few, one too many
    applied "bvadd" [] x []
    ∷ applied "bvadd" [] x (x ∷ x ∷ [])
    ∷ applied "=" [] x (x ∷ x ∷ [])
    ∷ applied "ite" [] x (x ∷ [])
    ∷ applied "bvnot" [] x (x ∷ [])
    -- numbers of numerals
    ∷ applied "bvadd" (1 ∷ []) x (x ∷ [])
    ∷ applied "extract" [] x []
    ∷ applied "extract" (1 ∷ []) x []
    ∷ applied "extract" (1 ∷ 0 ∷ 0 ∷ []) x []
    ∷ applied "rotate_left" [] x []
    -- names that the table does not have
    ∷ applied "bvxnor" [] x (x ∷ [])
    ∷ applied "BVADD" [] x (x ∷ [])
    ∷ applied "g" [] x []
    -- neither a variable nor an array is called, and no function with numerals
    ∷ applied "x" [] x []
    ∷ applied "a" [] x []
    ∷ applied "f" (1 ∷ []) x []
    -- an array is no argument of a call, and no operand of an operator
    ∷ applied "f" [] a []
    ∷ applied "=" [] a (a ∷ [])
    ∷ applied "bvadd" [] x (a ∷ [])
    -- `select`: of an array, at one index, which is no array, without numerals
    ∷ applied "select" [] x (x ∷ [])
    ∷ applied "select" [] a []
    ∷ applied "select" [] a (x ∷ x ∷ [])
    ∷ applied "select" [] a (a ∷ [])
    ∷ applied "select" (1 ∷ []) a (x ∷ [])
    -- `store`: the same, with an index and a value
    ∷ applied "store" [] x (x ∷ x ∷ [])
    ∷ applied "store" [] a (x ∷ [])
    ∷ applied "store" [] a (x ∷ x ∷ x ∷ [])
    ∷ applied "store" [] a (a ∷ x ∷ [])
    ∷ applied "store" [] a (x ∷ a ∷ [])
    ∷ applied "store" (1 ∷ []) a (x ∷ x ∷ [])
    ∷ []

abbrev NoneMeans : List Applied → Type 0
NoneMeans [] = Unit
NoneMeans (e ∷ es) = ((m : Meaning) → Means scope (spelled e) m → ⊥) × NoneMeans es

readable : Applied → Bool
unfolding applicable operators bytes same
readable e = applicable scope (operator (bytes e.name) e.numerals) (e.first.meaning ∷ meanings e.others)

not_hidden : (n : Name) (ks : List ℕ) (us : List Meaning) (m : Meaning) → AppliesIn scope [] (operator n ks) us m → Applies scope (operator n ks) us m
not_hidden n [] us m h = h
not_hidden n (k ∷ ks) us m h = h

none-means : (es : List Applied) → T (every (λ e. not (readable e)) es) → NoneMeans es
unfolding readable MeansIn
none-means [] h = tt
none-means (e ∷ es) h = (
  λ m (u, us, p, ps, q).
      let first : u ≡ e.first.meaning = means-unique scope scope-apart e.first.term u e.first.meaning p e.first.means in
      let others : us ≡ meanings e.others = means-all-unique scope scope-apart (terms e.others) us (meanings e.others) ps (operands-mean e.others) in
      let o = operator (bytes e.name) e.numerals in
      T_not (readable e) (and_0 (not (readable e)) _ h)
      (subst₂ (λ (v : Meaning) (vs : List Meaning). T (applicable scope o (v ∷ vs))) first others
      (applies-applicable scope o (u ∷ us) m (not_hidden (bytes e.name) e.numerals (u ∷ us) m q))),
  none-means es (and-1 (not (readable e)) (every (λ e. not (readable e)) es) h),
)

applications-unread : NoneMeans unreadable
unfolding unreadable readable x a
applications-unread = none-means unreadable tt

-- the twins are read: `operators-mean` and `stores-mean` of `ReadExamples`, and these calls
calls-read : Means scope (spelled (applied "f" [] x [])) (a_tree (call (bytes "f") (moreTrees (variable (bytes "x")) noTrees)))
    × Means scope (identifier (bytes "c")) (a_tree (call (bytes "c") noTrees))
unfolding MeansIn bytes same x
calls-read = (
  (a_tree (variable (bytes "x")), [], is_variable tt refl, tt, is_call (bytes "f") (moreTrees (variable (bytes "x")) noTrees) refl tt refl refl),
  is_constant tt refl,
)

-- ---------------------------------------------------------------- bound names

-- a bound name is known in the body alone: (= (let ((z x)) z) z)
bound-inside : (m : Meaning)
    → Means scope (application (plain (bytes "=")) (binding (bytes "z") (identifier (bytes "x")) (identifier (bytes "z"))) (moreTerms (identifier (bytes "z")) no_terms)) m → ⊥
unfolding MeansIn bytes same
bound-inside m (u, [], p, ps, q) = absurd ps
bound-inside m (u, v ∷ us, p, (k, ks), q) = names-declared scope (bytes "z") v k

-- a bound name hides the symbol that stands bare, and not the one with numerals: (let ((rotate_left x)) ((_ rotate_left 1) rotate_left))
numerals-not-hidden : Means scope
    (binding (bytes "rotate_left") (identifier (bytes "x")) (application (indexed (bytes "rotate_left") 1 []) (identifier (bytes "rotate_left")) no_terms))
    (a_tree (apply Rotl (1 ∷ []) (moreTrees (variable (bytes "x")) noTrees)))
unfolding MeansIn bytes same operators
numerals-not-hidden = (
  a_tree (variable (bytes "x")),
  is_variable tt refl,
  (a_tree (variable (bytes "x")), [], refl, tt, is_operator Rotl (moreTrees (variable (bytes "x")) noTrees) tt refl refl),
)

-- (let ((bvnot x)) (bvnot x)) means nothing
bare-hidden : (m : Meaning) → Means scope (binding (bytes "bvnot") (identifier (bytes "x")) (application (plain (bytes "bvnot")) (identifier (bytes "x")) no_terms)) m → ⊥
unfolding MeansIn bytes same
bare-hidden m (u, h, (v, vs, k, l, n)) = n

-- ---------------------------------------------------------------- scripts

-- one variable, and these assertions of it
script : Terms → Script
script ts = record { logic = bytes "QF_BV"; declarations = declare_const (bytes "x") (bit_vec 8) ∷ []; assertions = ts }

reading : ℕ → Trees → Reading
reading w ts = record { declarations = record { variables = record { name = bytes "x"; width = w } ∷ []; arrays = []; functions = [] }; assertions = ts }

abbrev x= : String → Term
x= s = application (plain (bytes "=")) (identifier (bytes "x")) (moreTerms (literal (bytes s)) no_terms)

abbrev x=' : List ℕ → Tree
x=' bs = apply Eq [] (moreTrees (variable (bytes "x")) (moreTrees (constant bs) noTrees))

-- two assertions mean two trees, in order
assertions-read : ScriptMeans (script (moreTerms (x= "01") (moreTerms (x= "11") no_terms))) (reading 8 (moreTrees (x=' (1 ∷ 0 ∷ [])) (moreTrees (x=' (1 ∷ 1 ∷ [])) noTrees)))
unfolding script reading MeansIn bytes same operators
assertions-read = record { declares = refl; asserts = (equation "01" (1 ∷ 0 ∷ []) refl, (equation "11" (1 ∷ 1 ∷ []) refl, tt)) }
  where
    equation : (s : String) (bs : List ℕ) → a_tree (constant (bits_of (bytes s))) ≡ a_tree (constant bs) → Means (reading 8 noTrees).declarations (x= s) (a_tree (x=' bs))
    equation s bs e =
        (a_tree (variable (bytes "x")), a_tree (constant bs) ∷ [], is_variable tt refl, (sym e, tt), is_operator Eq (moreTrees (variable (bytes "x")) (moreTrees (constant bs) noTrees)) tt refl refl)

-- neither fewer trees nor more
no-fewer : ScriptMeans (script (moreTerms (x= "01") no_terms)) (reading 8 noTrees) → ⊥
unfolding script reading MeansIn
no-fewer h = h.asserts

no_more : ScriptMeans (script no_terms) (reading 8 (moreTrees (x=' []) noTrees)) → ⊥
unfolding script reading MeansIn
no_more h = h.asserts

-- nor other declarations
no-other-width : (ts : Terms) (us : Trees) → ScriptMeans (script ts) (reading 9 us) → ⊥
unfolding script reading
no-other-width ts us h = let e : ◌≡◌ {A = ℕ} 8 9 = ap width h.declares in omega arith
  where
    width : Option Declarations → ℕ
    width none = 0
    width (some d) = first d.variables
      where
        first : List Variable → ℕ
        first [] = 0
        first (v ∷ vs) = v.width

-- nor other trees, nor these in another order
no-other-order : ScriptMeans (script (moreTerms (x= "01") (moreTerms (x= "11") no_terms))) (reading 8 (moreTrees (x=' (1 ∷ 1 ∷ [])) (moreTrees (x=' (1 ∷ 0 ∷ [])) noTrees))) → ⊥
unfolding script reading built_in operators bytes same
no-other-order h =
    let e = script-means-unique _ _ _ assertions-read h (record { once = tt; foreign = tt }) in
    let z : ◌≡◌ {A = ℕ} 0 1 = cc (ap (λ r. r.assertions) e) in
    omega arith
