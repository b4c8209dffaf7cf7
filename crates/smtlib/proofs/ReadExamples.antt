-- Computed examples: scripts with two readings, a term for every operator of the table, and sorts.
use Rattle.std.specs.Prelude.{ℕ, suc, ◌≡◌, refl, List, [], ◌∷◌, ◌++◌, map, Bool, false, ◌&&◌, T, eqb, length}
use Prim.Native.String.{String}
use Rattle.std.proofs.Common.{ap, arith}
use Rattle.std.proofs.Math.Option.{Option, none, some}
use Rattle.lists.specs.Bytes.{bytes}
use Rattle.lists.specs.Tests.{same, in_list, every, by-test, and_0, and-1}
use Rattle.reading.specs.Trees.{Name, Tree, variable, constant, apply, select, call, Trees, none as noTrees, more as moreTrees, base, store}
use Rattle.reading.specs.Trees.{Declarations, Reading}
use Rattle.smtlib.proofs.LexTests.{lexemes, lexable, lex-text}
use Rattle.smtlib.specs.Grammar.{bit_vec, array, Operator, plain, indexed, Term, literal, identifier, application, Terms, none as no_terms}
use Rattle.smtlib.specs.Grammar.{more as moreTerms, declare_const, declare_fun, Script, script_tokens, declarations_tokens, declaration_tokens}
use Rattle.smtlib.specs.Grammar.{sort_tokens, sorts_tokens, assertions_tokens, term_tokens, operator_tokens}
use Rattle.smtlib.specs.Readings.{Row, operators, listed, row_names, a_tree, an_array, as_meanings, Names, is_variable, is_array, is_constant}
use Rattle.smtlib.specs.Readings.{Applies, is_call, is_select, is_store, is_operator, MeansIn, Means, MeansAll, ScriptMeans, Reads}
use Rattle.smtlib.specs.Sorts.{TermSort, same_sort, same_sorts, bool, bits, bits_array, rank_among, Instance, instance_of, ranks, result_of, rank}
use Rattle.smtlib.specs.Sorts.{both_sorts, sort_over, sort_applied, sort_in, name_of, theory_symbols, free, sensible_declaration, logics, admits, WellSorted}

-- ---------------------------------------------------------------- scripts with two readings

-- two readings of the bytes, which differ
abbrev TwoReadings : List ℕ → Reading → Reading → Type 0
TwoReadings b r r' = Reads b r × Reads b r' × (r ≡ r' → ⊥)

reads-text : (b : List ℕ) (s : Script) (r : Reading) → T (lexable b) → lexemes b ≡ script_tokens s → ScriptMeans s r → Reads b r
reads-text b s r h e m = record { tokens = lexemes b; script = s; lexed = lex-text b h; parsed = e; means = m }

-- a term of two operands, and its tree
abbrev term₂ : String → Term → Term → Term
term₂ n t u = application (plain (bytes n)) t (moreTerms u no_terms)

abbrev trees₂ : Tree → Tree → Trees
trees₂ t u = moreTrees t (moreTrees u noTrees)

-- `c` is a variable and a function without arguments

pub twice_text : List ℕ
twice_text =
    bytes "(set-logic QF_AUFBV) (declare-const c (_ BitVec 8)) (declare-fun c () (_ BitVec 8)) (assert (= c #b00000101)) (check-sat)"

twice_script : Script
twice_script =
    record {
      logic = bytes "QF_AUFBV";
      declarations = declare_const (bytes "c") (bit_vec 8) ∷ declare_fun (bytes "c") [] (bit_vec 8) ∷ [];
      assertions = moreTerms (term₂ "=" (identifier (bytes "c")) (literal (bytes "00000101"))) no_terms;
    }

-- the constant 5 of width 8
abbrev five : Tree
five = constant (1 ∷ 0 ∷ 1 ∷ 0 ∷ 0 ∷ 0 ∷ 0 ∷ 0 ∷ [])

-- the reading with this tree for `c`
pub twice_reading : Tree → Reading
twice_reading t =
    record {
      declarations = record {
        variables = record { name = bytes "c"; width = 8 } ∷ [];
        arrays = [];
        functions = record { name = bytes "c"; arguments = []; width = 8 } ∷ [];
      };
      assertions = moreTrees (apply 19 [] (trees₂ t five)) noTrees;
    }

pub declared-twice : TwoReadings twice_text (twice_reading (variable (bytes "c"))) (twice_reading (call (bytes "c") noTrees))
unfolding twice_text twice_script twice_reading lexable script_tokens declarations_tokens declaration_tokens sort_tokens sorts_tokens assertions_tokens term_tokens
    operator_tokens MeansIn operators
declared-twice =
    (reading (variable (bytes "c")) (is_variable tt refl), reading (call (bytes "c") noTrees) (is_constant tt refl), differ)
  where
    reading : (t : Tree) → Names (twice_reading t).declarations (bytes "c") (a_tree t) → Reads twice_text (twice_reading t)
    reading t h =
        reads-text twice_text twice_script (twice_reading t) tt refl
        (record { declares = refl; asserts = ((a_tree t, a_tree five ∷ [], h, (refl, tt), is_operator 19 (trees₂ t five) tt refl refl), tt) })

    differ : twice_reading (variable (bytes "c")) ≡ twice_reading (call (bytes "c") noTrees) → ⊥
    differ e = let z : ◌≡◌ {A = ℕ} 0 1 = cc (ap (λ r. r.assertions) e) in omega arith

-- `bvadd` is a declared function

pub built_in_text : List ℕ
built_in_text =
    bytes "(set-logic QF_AUFBV) (declare-const x (_ BitVec 8)) (declare-fun bvadd ((_ BitVec 8) (_ BitVec 8)) (_ BitVec 8))"
    ++ bytes " (assert (= (bvadd x x) x)) (check-sat)"

built_in_script : Script
built_in_script =
    record {
      logic = bytes "QF_AUFBV";
      declarations = declare_const (bytes "x") (bit_vec 8) ∷ declare_fun (bytes "bvadd") (bit_vec 8 ∷ bit_vec 8 ∷ []) (bit_vec 8) ∷ [];
      assertions = moreTerms (term₂ "=" (term₂ "bvadd" (identifier (bytes "x")) (identifier (bytes "x"))) (identifier (bytes "x"))) no_terms;
    }

abbrev xs : Trees
xs = trees₂ (variable (bytes "x")) (variable (bytes "x"))

-- the reading with this tree for `(bvadd x x)`
pub built_in_reading : Tree → Reading
built_in_reading t =
    record {
      declarations = record {
        variables = record { name = bytes "x"; width = 8 } ∷ [];
        arrays = [];
        functions = record { name = bytes "bvadd"; arguments = 8 ∷ 8 ∷ []; width = 8 } ∷ [];
      };
      assertions = moreTrees (apply 19 [] (trees₂ t (variable (bytes "x")))) noTrees;
    }

pub declared-built-in : TwoReadings built_in_text (built_in_reading (apply 2 [] xs)) (built_in_reading (call (bytes "bvadd") xs))
unfolding built_in_text built_in_script built_in_reading lexable script_tokens declarations_tokens declaration_tokens sort_tokens sorts_tokens assertions_tokens term_tokens
    operator_tokens MeansIn operators
declared-built-in =
    (reading (apply 2 [] xs) (is_operator 2 xs tt refl refl), reading (call (bytes "bvadd") xs) (is_call (bytes "bvadd") xs refl tt refl refl), differ)
  where
    v : Tree
    v = variable (bytes "x")

    reading : (t : Tree) → Applies (built_in_reading t).declarations (plain (bytes "bvadd")) (as_meanings xs) (a_tree t)
        → Reads built_in_text (built_in_reading t)
    reading t h =
        let d = (built_in_reading t).declarations in
        let w : Means d (identifier (bytes "x")) (a_tree v) = is_variable tt refl in
        let sum : Means d (term₂ "bvadd" (identifier (bytes "x")) (identifier (bytes "x"))) (a_tree t) = (a_tree v, a_tree v ∷ [], w, (w, tt), h) in
        reads-text built_in_text built_in_script (built_in_reading t) tt refl
        (record { declares = refl; asserts = ((a_tree t, a_tree v ∷ [], sum, (w, tt), is_operator 19 (trees₂ t v) tt refl refl), tt) })

    differ : built_in_reading (apply 2 [] xs) ≡ built_in_reading (call (bytes "bvadd") xs) → ⊥
    differ e = let z : ◌≡◌ {A = ℕ} 0 1 = cc (ap (λ r. r.assertions) e) in omega arith

-- ---------------------------------------------------------------- every operator

-- x and y of width 8, and an array of such
abbrev scope : Declarations
scope =
    record {
      variables = record { name = bytes "x"; width = 8 } ∷ record { name = bytes "y"; width = 8 } ∷ [];
      arrays = record { name = bytes "a"; index = 8; value = 8 } ∷ [];
      functions = [];
    }

-- a term and its tree
record Operand : Type 0 where
  term : Term
  tree : Tree
  means : Means scope term (a_tree tree)

x : Operand
unfolding MeansIn bytes same
x = record { term = identifier (bytes "x"); tree = variable (bytes "x"); means = is_variable tt refl }

y : Operand
unfolding MeansIn bytes same
y = record { term = identifier (bytes "y"); tree = variable (bytes "y"); means = is_variable tt refl }

-- (= x y), of sort Bool
p : Operand
unfolding MeansIn bytes same operators x y
p =
    record {
      term = term₂ "=" x.term y.term;
      tree = apply 19 [] (trees₂ x.tree y.tree);
      means = (a_tree x.tree, a_tree y.tree ∷ [], x.means, (y.means, tt), is_operator 19 (trees₂ x.tree y.tree) tt refl refl);
    }

abbrev terms : List Operand → Terms
terms [] = no_terms
terms (o ∷ os) = moreTerms o.term (terms os)

abbrev trees : List Operand → Trees
trees [] = noTrees
trees (o ∷ os) = moreTrees o.tree (trees os)

operands-mean : (os : List Operand) → MeansAll scope (terms os) (as_meanings (trees os))
unfolding MeansIn
operands-mean [] = tt
operands-mean (o ∷ os) = (o.means, operands-mean os)

-- an operator's symbol, numerals and operands, and the number of the kind that it means
record Example : Type 0 where
  name : String
  numerals : List ℕ
  first : Operand
  others : List Operand
  kind : ℕ

abbrev example : String → List ℕ → Operand → List Operand → ℕ → Example
example n ks o os k = record { name = n; numerals = ks; first = o; others = os; kind = k }

abbrev operator : Name → List ℕ → Operator
operator n [] = plain n
operator n (k ∷ ks) = indexed n k ks

-- the term, and the tree expected of it
abbrev spelled : Example → Term
spelled e = application (operator (bytes e.name) e.numerals) e.first.term (terms e.others)

abbrev meant : Example → Tree
meant e = apply e.kind e.numerals (moreTrees e.first.tree (trees e.others))

-- in the order of the kinds
examples : List Example
examples =
    example "bvadd" [] x (y ∷ []) 2
    ∷ example "bvsub" [] x (y ∷ []) 3
    ∷ example "bvmul" [] x (y ∷ []) 4
    ∷ example "bvudiv" [] x (y ∷ []) 5
    ∷ example "bvurem" [] x (y ∷ []) 6
    ∷ example "bvand" [] x (y ∷ []) 7
    ∷ example "bvor" [] x (y ∷ []) 8
    ∷ example "bvxor" [] x (y ∷ []) 9
    ∷ example "bvshl" [] x (y ∷ []) 10
    ∷ example "bvlshr" [] x (y ∷ []) 11
    ∷ example "bvashr" [] x (y ∷ []) 12
    ∷ example "rotate_right" (3 ∷ []) x [] 13
    ∷ example "extract" (5 ∷ 2 ∷ []) x [] 14
    ∷ example "concat" [] x (y ∷ []) 15
    ∷ example "zero_extend" (8 ∷ []) x [] 16
    ∷ example "sign_extend" (8 ∷ []) x [] 17
    ∷ example "ite" [] p (x ∷ y ∷ []) 18
    ∷ example "=" [] x (y ∷ []) 19
    ∷ example "distinct" [] x (y ∷ []) 20
    ∷ example "bvult" [] x (y ∷ []) 21
    ∷ example "bvule" [] x (y ∷ []) 22
    ∷ example "bvugt" [] x (y ∷ []) 23
    ∷ example "bvuge" [] x (y ∷ []) 24
    ∷ example "bvslt" [] x (y ∷ []) 25
    ∷ example "bvsle" [] x (y ∷ []) 26
    ∷ example "bvsgt" [] x (y ∷ []) 27
    ∷ example "bvsge" [] x (y ∷ []) 28
    ∷ example "not" [] p [] 29
    ∷ example "and" [] p (p ∷ []) 30
    ∷ example "or" [] p (p ∷ []) 31
    ∷ example "bvnot" [] x [] 32
    ∷ example "bvneg" [] x [] 33
    ∷ example "rotate_left" (3 ∷ []) x [] 34
    ∷ example "bvsdiv" [] x (y ∷ []) 35
    ∷ example "bvsrem" [] x (y ∷ []) 36
    ∷ []

-- every term means its tree
abbrev AllMean : List Example → Type 0
AllMean [] = Unit
AllMean (e ∷ es) = Means scope (spelled e) (a_tree (meant e)) × AllMean es

-- the table has the row that the example needs
row_listed : Example → Bool
row_listed e = listed (bytes e.name) e.kind (length e.numerals) (length (e.first ∷ e.others)) operators

length-as-meanings : (os : List Operand) → length (as_meanings (trees os)) ≡ length os
length-as-meanings [] = refl
length-as-meanings (o ∷ os) = ap suc (length-as-meanings os)

operator-applies : (n : Name) (ks : List ℕ) (k : ℕ) (ts : Trees)
    → T (listed n k (length ks) (length (as_meanings ts)) operators) → Applies scope (operator n ks) (as_meanings ts) (a_tree (apply k ks ts))
operator-applies n [] k ts h = is_operator k ts h refl refl
operator-applies n (j ∷ ks) k ts h = is_operator k ts h refl refl

means-by-row : (e : Example) → T (row_listed e) → Means scope (spelled e) (a_tree (meant e))
unfolding MeansIn row_listed
means-by-row e h =
    let us = as_meanings (trees e.others) in
    let ts = moreTrees e.first.tree (trees e.others) in (
      a_tree e.first.tree,
      us,
      e.first.means,
      operands-mean e.others,
      operator-applies (bytes e.name) e.numerals e.kind ts (rw length-as-meanings h),
    )

all-mean : (es : List Example) → T (every row_listed es) → AllMean es
all-mean [] h = tt
all-mean (e ∷ es) h = (means-by-row e (and_0 (row_listed e) (every row_listed es) h), all-mean es (and-1 (row_listed e) (every row_listed es) h))

operators-mean : AllMean examples
unfolding examples row_listed operators bytes same
operators-mean = all-mean examples tt

-- the table has no other symbol
examples-complete : T (every (λ n. in_list n (map (λ e. bytes e.name) examples)) (row_names operators))
unfolding examples operators bytes same
examples-complete = tt

-- ---------------------------------------------------------------- arrays

-- (store t i v)
abbrev stored : Term → Operand → Operand → Term
stored t i v = application (plain (bytes "store")) t (moreTerms i.term (moreTerms v.term no_terms))

-- (select (store (store a x y) y x) x): the outermost store is the first pair
stores-mean : Means scope (term₂ "select" (stored (stored (identifier (bytes "a")) x y) y x) x.term)
    (a_tree (select (bytes "a") x.tree (store y.tree x.tree (store x.tree y.tree base))))
unfolding MeansIn bytes same x y
stores-mean =
    let inner = store x.tree y.tree base in
    let outer = store y.tree x.tree inner in
    let i = a_tree x.tree in
    let v = a_tree y.tree in (
      an_array (bytes "a") outer,
      i ∷ [],
      (
        an_array (bytes "a") inner,
        v ∷ i ∷ [],
        (
          an_array (bytes "a") base,
          i ∷ v ∷ [],
          is_array tt refl,
          (x.means, (y.means, tt)),
          is_store (bytes "a") base x.tree y.tree refl refl refl,
        ),
        (y.means, (x.means, tt)),
        is_store (bytes "a") inner y.tree x.tree refl refl refl,
      ),
      (x.means, tt),
      is_select (bytes "a") outer x.tree refl refl refl,
    )

-- ---------------------------------------------------------------- sorts

-- a symbol of the theories, numerals, the operands' sorts, and the sort expected, if any
record SortCase : Type 0 where
  name : String
  numerals : List ℕ
  operands : List TermSort
  sort : Option TermSort

abbrev case : String → List ℕ → List TermSort → Option TermSort → SortCase
case n ks ss s = record { name = n; numerals = ks; operands = ss; sort = s }

abbrev memory : TermSort
memory = bits_array 32 8

sort_cases : List SortCase
sort_cases =
    case "bvadd" [] (bits 8 ∷ bits 8 ∷ []) (some (bits 8))
    ∷ case "bvadd" [] (bits 8 ∷ bits 16 ∷ []) none
    ∷ case "bvadd" [] (bits 0 ∷ bits 0 ∷ []) none
    ∷ case "bvadd" [] (bits 8 ∷ bits 8 ∷ bits 8 ∷ []) none
    ∷ case "bvsdiv" [] (bool ∷ bool ∷ []) none
    ∷ case "extract" (7 ∷ 4 ∷ []) (bits 8 ∷ []) (some (bits 4))
    ∷ case "extract" (8 ∷ 4 ∷ []) (bits 8 ∷ []) none
    ∷ case "extract" (4 ∷ 7 ∷ []) (bits 8 ∷ []) none
    ∷ case "extract" (7 ∷ []) (bits 8 ∷ []) none
    ∷ case "concat" [] (bits 8 ∷ bits 16 ∷ []) (some (bits 24))
    ∷ case "zero_extend" (24 ∷ []) (bits 8 ∷ []) (some (bits 32))
    ∷ case "sign_extend" [] (bits 8 ∷ []) none
    ∷ case "rotate_left" (11 ∷ []) (bits 8 ∷ []) (some (bits 8))
    ∷ case "bvneg" [] (bits 8 ∷ []) (some (bits 8))
    ∷ case "bvslt" [] (bits 8 ∷ bits 8 ∷ []) (some bool)
    ∷ case "bvslt" [] (bits 8 ∷ bits 16 ∷ []) none
    ∷ case "=" [] (bits 8 ∷ bits 8 ∷ []) (some bool)
    ∷ case "=" [] (memory ∷ memory ∷ []) (some bool)
    ∷ case "distinct" [] (bool ∷ bits 1 ∷ []) none
    ∷ case "ite" [] (bool ∷ bits 8 ∷ bits 8 ∷ []) (some (bits 8))
    ∷ case "ite" [] (bits 1 ∷ bits 8 ∷ bits 8 ∷ []) none
    ∷ case "ite" [] (bool ∷ bits 8 ∷ bits 16 ∷ []) none
    ∷ case "not" [] (bool ∷ []) (some bool)
    ∷ case "and" [] (bool ∷ bits 1 ∷ []) none
    ∷ case "select" [] (memory ∷ bits 32 ∷ []) (some (bits 8))
    ∷ case "select" [] (memory ∷ bits 8 ∷ []) none
    ∷ case "store" [] (memory ∷ bits 32 ∷ bits 8 ∷ []) (some memory)
    ∷ case "store" [] (bits 8 ∷ bits 32 ∷ bits 8 ∷ []) none
    ∷ case "f" [] (bits 8 ∷ []) none
    ∷ []

sort-cases-hold : map (λ c. rank (bytes c.name) c.numerals c.operands) sort_cases ≡ map (λ c. c.sort) sort_cases
unfolding sort_cases rank ranks result_of same_sorts same_sort bytes same
sort-cases-hold = refl

-- every row of the table has the numbers of numerals and operands of its symbol's rank, and is a symbol of the theories
row_ranked : Row → Bool
row_ranked r =
    let n = bytes r.name in
    in_list n theory_symbols && elim (rank_among ranks n) [ none ↦ false | some q ↦ agree (instance_of q 0 0 bool bool) ]
  where
    agree : Instance → Bool
    agree i = eqb r.numerals (length i.numerals) && eqb r.operands (length i.operands)

rows-ranked : T (every row_ranked operators)
unfolding row_ranked operators ranks theory_symbols bytes same
rows-ranked = tt

-- a script with an array, a function with an argument, one without, and a rotation
sorted_script : Script
sorted_script =
    record {
      logic = bytes "QF_AUFBV";
      declarations = declare_const (bytes "x") (bit_vec 8)
          ∷ declare_const (bytes "i") (bit_vec 32)
          ∷ declare_const (bytes "a") (array (bit_vec 32) (bit_vec 8))
          ∷ declare_fun (bytes "f") (bit_vec 8 ∷ []) (bit_vec 8)
          ∷ declare_fun (bytes "c") [] (bit_vec 8)
          ∷ [];
      assertions = moreTerms (term₂ "=" rotated (name "c")) (moreTerms (term₂ "bvult" selected (literal (bytes "00000101"))) no_terms);
    }
  where
    name : String → Term
    name n = identifier (bytes n)

    -- (f ((_ rotate_left 3) x))
    rotated : Term
    rotated = application (plain (bytes "f")) (application (indexed (bytes "rotate_left") 3 []) (name "x") no_terms) no_terms

    -- (select (store a i x) i)
    selected : Term
    selected = term₂ "select" (application (plain (bytes "store")) (name "a") (moreTerms (name "i") (moreTerms (name "x") no_terms))) (name "i")

sorted-script : WellSorted sorted_script
unfolding sorted_script sort_in both_sorts sort_over sort_applied rank ranks result_of same_sorts same_sort theory_symbols logics bytes same
sorted-script =
    record {
      logic_known = tt;
      admitted = by-test (admits sorted_script.logic) sorted_script.declarations tt;
      sensible_sorts = by-test sensible_declaration sorted_script.declarations tt;
      declared_once = tt;
      names_free = by-test free (map name_of sorted_script.declarations) tt;
      assertions_bool = (refl, (refl, tt));
    }

-- one function of an argument, and nothing else
function_script : String → Script
function_script l = record { logic = bytes l; declarations = declare_fun (bytes "f") (bit_vec 8 ∷ []) (bit_vec 8) ∷ []; assertions = no_terms }

functions-in-QF_AUFBV : WellSorted (function_script "QF_AUFBV")
unfolding function_script theory_symbols logics bytes same
functions-in-QF_AUFBV =
    record { logic_known = tt; admitted = (tt, tt); sensible_sorts = (tt, tt); declared_once = tt; names_free = (tt, tt); assertions_bool = tt }

no-functions-in-QF_BV : WellSorted (function_script "QF_BV") → ⊥
unfolding function_script bytes same
no-functions-in-QF_BV h = h.admitted.0

no-functions-in-QF_ABV : WellSorted (function_script "QF_ABV") → ⊥
unfolding function_script bytes same
no-functions-in-QF_ABV h = h.admitted.0
