-- What a script says: document 01's readings, written from SMT-LIB 2.6 (the theories Core and FixedSizeBitVectors with the
-- abbreviations of the logic QF_BV, and ArraysEx). Where a name has several meanings, all of them are readings: none comes
-- before another. Definitions only.
use Rattle.std.specs.Prelude.{ℕ, ◌-◌, ◌≡◌, List, [], ◌∷◌, ◌++◌, map, Bool, true, false, ◌&&◌, ◌||◌, not, T, eqb, length}
use Prim.Native.String.{String}
use Rattle.std.proofs.Math.Option.{Option, none, some}
use Rattle.lists.specs.Bytes.{bytes}
use Rattle.lists.specs.Tests.{same, in_list, every, distinct}
use Rattle.reading.specs.Kinds.{Add, Sub, Mul, Udiv, Urem, And, Or, Xor, Shl, Lshr, Ashr, Rotr, Extract, Concat, ZeroExt, SignExt, Ite, Eq, Ne, Ult}
use Rattle.reading.specs.Kinds.{Ule, Ugt, Uge, Slt, Sle, Sgt, Sge, Not, BoolAnd, BoolOr, BvNot, Neg, Rotl, Sdiv, Srem}
use Rattle.reading.specs.Trees.{Name, Tree, variable, constant, apply, select, call, Trees, none as noTrees, more as moreTrees, Stores, base, store}
use Rattle.reading.specs.Trees.{Declarations, Reading}
use Rattle.smtlib.specs.Lexicon.{Token, Lex}
use Rattle.smtlib.specs.Grammar.{Sort, bit_vec, array, Operator, plain, indexed, Term, literal, identifier, application, binding, Terms}
use Rattle.smtlib.specs.Scopes.{Scope, bind, bound_to, symbol_of, hides}
use Rattle.smtlib.specs.Grammar.{none as no_terms, more as moreTerms, Declaration, declare_const, declare_fun, Script, script_tokens}

-- ---------------------------------------------------------------- the operators of the theories

-- a function symbol of the theories, the kind that it means, how many numerals it takes and how many operands
pub record Row : Type 0 where
  pub name : String
  pub kind : ℕ
  pub numerals : ℕ
  pub operands : ℕ

abbrev pub row : String → ℕ → ℕ → ℕ → Row
row n k p a = record { name = n; kind = k; numerals = p; operands = a }

-- in the order of the standard's files; what takes any number of operands there stands here with two
unfoldable pub operators : List Row
operators =
    -- Core
    row "not" Not 0 1
    ∷ row "and" BoolAnd 0 2
    ∷ row "or" BoolOr 0 2
    ∷ row "=" Eq 0 2
    ∷ row "distinct" Ne 0 2
    ∷ row "ite" Ite 0 3
    -- FixedSizeBitVectors
    ∷ row "concat" Concat 0 2
    ∷ row "extract" Extract 2 1
    ∷ row "bvnot" BvNot 0 1
    ∷ row "bvneg" Neg 0 1
    ∷ row "bvand" And 0 2
    ∷ row "bvor" Or 0 2
    ∷ row "bvadd" Add 0 2
    ∷ row "bvmul" Mul 0 2
    ∷ row "bvudiv" Udiv 0 2
    ∷ row "bvurem" Urem 0 2
    ∷ row "bvshl" Shl 0 2
    ∷ row "bvlshr" Lshr 0 2
    ∷ row "bvult" Ult 0 2
    -- QF_BV
    ∷ row "bvxor" Xor 0 2
    ∷ row "bvsub" Sub 0 2
    ∷ row "bvsdiv" Sdiv 0 2
    ∷ row "bvsrem" Srem 0 2
    ∷ row "bvashr" Ashr 0 2
    ∷ row "zero_extend" ZeroExt 1 1
    ∷ row "sign_extend" SignExt 1 1
    ∷ row "rotate_left" Rotl 1 1
    ∷ row "rotate_right" Rotr 1 1
    ∷ row "bvule" Ule 0 2
    ∷ row "bvugt" Ugt 0 2
    ∷ row "bvuge" Uge 0 2
    ∷ row "bvslt" Slt 0 2
    ∷ row "bvsle" Sle 0 2
    ∷ row "bvsgt" Sgt 0 2
    ∷ row "bvsge" Sge 0 2
    ∷ []

-- do the rows have one with this name, kind, number of numerals and number of operands
abbrev pub listed : Name → ℕ → ℕ → ℕ → List Row → Bool
listed n k p a [] = false
listed n k p a (r ∷ rs) = (same n (bytes r.name) && (eqb k r.kind && (eqb p r.numerals && eqb a r.operands))) || listed n k p a rs

abbrev pub row_names : List Row → List Name
row_names rs = map (λ r. bytes r.name) rs

-- the names that mean something without a declaration
unfoldable pub built_in : List Name
built_in = bytes "select" ∷ bytes "store" ∷ row_names operators

-- ---------------------------------------------------------------- declarations

abbrev pub nothing_declared : Declarations
nothing_declared = record { variables = []; arrays = []; functions = [] }

abbrev pub add_variable : Name → ℕ → Declarations → Declarations
add_variable n w d = record { variables = record { name = n; width = w } ∷ d.variables; arrays = d.arrays; functions = d.functions }

abbrev pub add_array : Name → ℕ → ℕ → Declarations → Declarations
add_array n i v d = record { variables = d.variables; arrays = record { name = n; index = i; value = v } ∷ d.arrays; functions = d.functions }

abbrev pub add_function : Name → List ℕ → ℕ → Declarations → Declarations
add_function n ws w d =
    record { variables = d.variables; arrays = d.arrays; functions = record { name = n; arguments = ws; width = w } ∷ d.functions }

-- the widths of bit-vector sorts
abbrev pub widths : List Sort → Option (List ℕ)
widths [] = some []
widths (bit_vec w ∷ ss) = elim (widths ss) [ none ↦ none | some ws ↦ some (w ∷ ws) ]
widths (array s t ∷ ss) = none

-- a declaration before others: an array of bit-vectors is an array; else `declare-const` is a variable and `declare-fun` a
-- function, of bit-vectors; anything else says nothing here
abbrev pub declaring : Declaration → Declarations → Option Declarations
declaring (declare_const n (bit_vec w)) d = some (add_variable n w d)
declaring (declare_const n (array (bit_vec i) (bit_vec v))) d = some (add_array n i v d)
declaring (declare_const n (array (bit_vec i) (array s t))) d = none
declaring (declare_const n (array (array s t) u)) d = none
declaring (declare_fun n ss (bit_vec w)) d = elim (widths ss) [ none ↦ none | some ws ↦ some (add_function n ws w d) ]
declaring (declare_fun n [] (array (bit_vec i) (bit_vec v))) d = some (add_array n i v d)
declaring (declare_fun n [] (array (bit_vec i) (array s t))) d = none
declaring (declare_fun n [] (array (array s t) u)) d = none
declaring (declare_fun n (s ∷ ss) (array t u)) d = none

-- the three lists that a script's declarations give
abbrev pub declared : List Declaration → Option Declarations
declared [] = some nothing_declared
declared (x ∷ xs) = elim (declared xs) [ none ↦ none | some d ↦ declaring x d ]

abbrev pub variable_names : Declarations → List Name
variable_names d = map (λ v. v.name) d.variables

abbrev pub array_names : Declarations → List Name
array_names d = map (λ a. a.name) d.arrays

abbrev pub function_names : Declarations → List Name
function_names d = map (λ f. f.name) d.functions

abbrev pub declared_names : Declarations → List Name
declared_names d = variable_names d ++ (array_names d ++ function_names d)

-- no name is declared twice, and none is built in
pub record Apart (d : Declarations) : Type 0 where
  pub once : T (distinct (declared_names d))
  pub foreign : T (every (λ n. not (in_list n built_in)) (declared_names d))

-- ---------------------------------------------------------------- terms

-- a term means a tree, or an array with stores over it
pub data Meaning : Type 0 where
  a_tree : Tree → Meaning
  an_array : Name → Stores → Meaning

-- each tree as a meaning
abbrev pub as_meanings : Trees → List Meaning
as_meanings noTrees = []
as_meanings (moreTrees t ts) = a_tree t ∷ as_meanings ts

-- the bits of binary digits: the digits stand with the highest first, the bits with the lowest
abbrev pub bits_of : List ℕ → List ℕ
bits_of [] = []
bits_of (c ∷ s) = bits_of s ++ ((c - 48) ∷ [])

abbrev pub numerals_of : Operator → List ℕ
numerals_of (plain n) = []
numerals_of (indexed n k ks) = k ∷ ks

-- what an identifier may mean: a declared variable, a declared array, or a call without arguments of a declared function
pub data Names (d : Declarations) (n : Name) (m : Meaning) : Type 0 where
  is_variable : T (in_list n (variable_names d)) → m ≡ a_tree (variable n) → Names d n m
  is_array : T (in_list n (array_names d)) → m ≡ an_array n base → Names d n m
  is_constant : T (in_list n (function_names d)) → m ≡ a_tree (call n noTrees) → Names d n m

-- what an operator may make of the meanings of its operands
pub data Applies (d : Declarations) (o : Operator) (us : List Meaning) (m : Meaning) : Type 0 where
  -- a call of a declared function
  is_call : (n : Name) (ts : Trees) → o ≡ plain n → T (in_list n (function_names d)) → us ≡ as_meanings ts → m ≡ a_tree (call n ts) → Applies d o us m
  -- an array's value at an index
  is_select : (a : Name) (ss : Stores) (i : Tree)
      → o ≡ plain (bytes "select") → us ≡ an_array a ss ∷ a_tree i ∷ [] → m ≡ a_tree (select a i ss) → Applies d o us m
  -- an array with one more store, the outermost
  is_store : (a : Name) (ss : Stores) (i v : Tree)
      → o ≡ plain (bytes "store") → us ≡ an_array a ss ∷ a_tree i ∷ a_tree v ∷ [] → m ≡ an_array a (store i v ss) → Applies d o us m
  -- an operator of the theories, with its numerals
  is_operator : (k : ℕ) (ts : Trees)
      → T (listed (symbol_of o) k (length (numerals_of o)) (length us) operators) → us ≡ as_meanings ts
      → m ≡ a_tree (apply k (numerals_of o) ts) → Applies d o us m

-- ---------------------------------------------------------------- terms under bound names

-- a bound name means what it is bound to, and nothing that is declared
abbrev pub NamesIn : Declarations → Scope Meaning → Name → Meaning → Type 0
NamesIn d e n m = elim (bound_to e n) as (λ _. Type 0) [ none ↦ Names d n m | some u ↦ m ≡ u ]

abbrev pub AppliesIn : Declarations → Scope Meaning → Operator → List Meaning → Meaning → Type 0
AppliesIn d e o us m = elim (hides e o) as (λ _. Type 0) [ true ↦ ⊥ | false ↦ Applies d o us m ]

-- what a term may mean under the declarations d and the bound names e
unfoldable mutual
  pub MeansIn : Declarations → Scope Meaning → Term → Meaning → Type 0
  MeansIn d e (literal ds) m = m ≡ a_tree (constant (bits_of ds))
  MeansIn d e (identifier n) m = NamesIn d e n m
  MeansIn d e (application o t ts) m =
      (u : Meaning) × (us : List Meaning) × MeansIn d e t u × MeansAllIn d e ts us × AppliesIn d e o (u ∷ us) m
  -- the bound term is read outside, the body inside
  MeansIn d e (binding n t b) m = (u : Meaning) × MeansIn d e t u × MeansIn d (bind n u e) b m

  -- term by term
  pub MeansAllIn : Declarations → Scope Meaning → Terms → List Meaning → Type 0
  MeansAllIn d e no_terms [] = Unit
  MeansAllIn d e no_terms (m ∷ ms) = ⊥
  MeansAllIn d e (moreTerms t ts) [] = ⊥
  MeansAllIn d e (moreTerms t ts) (m ∷ ms) = MeansIn d e t m × MeansAllIn d e ts ms

-- what a term may mean where no name is bound
abbrev pub Means : Declarations → Term → Meaning → Type 0
Means d t m = MeansIn d [] t m

abbrev pub MeansAll : Declarations → Terms → List Meaning → Type 0
MeansAll d ts ms = MeansAllIn d [] ts ms

-- ---------------------------------------------------------------- scripts

-- the script's declarations are the reading's, and its assertions mean the reading's trees
pub record ScriptMeans (s : Script) (r : Reading) : Type 0 where
  pub declares : declared s.declarations ≡ some r.declarations
  pub asserts : MeansAll r.declarations s.assertions (as_meanings r.assertions)

-- the bytes are a script's text, and r is what the script says
pub record Reads (b : List ℕ) (r : Reading) : Type 0 where
  pub tokens : List Token
  pub script : Script
  pub lexed : Lex b tokens
  pub parsed : tokens ≡ script_tokens script
  pub means : ScriptMeans script r
