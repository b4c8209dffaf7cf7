-- The sorts of SMT-LIB 2.6, as far as the grammar of readings goes: the ranks of the theories' function symbols (Core,
-- FixedSizeBitVectors with the abbreviations of the logic QF_BV, ArraysEx), the sort of a term, and the scripts that the
-- logics QF_BV, QF_ABV and QF_AUFBV admit. Definitions only.
use Rattle.std.specs.Prelude.{ℕ, ◌+◌, ◌-◌, ◌≡◌, List, [], ◌∷◌, map, Bool, true, false, ◌&&◌, not, cond, T, leb, ltb, eqb, length, get_or}
use Prim.Native.String.{String}
use Rattle.std.proofs.Math.Option.{Option, none, some}
use Rattle.lists.specs.Bytes.{bytes}
use Rattle.lists.specs.Tests.{same, in_list, among, every, All, distinct}
use Rattle.reading.specs.Trees.{Name}
use Rattle.smtlib.specs.Grammar.{Sort, bit_vec, array, Operator, plain, indexed, Term, literal, identifier, application, binding, Terms}
use Rattle.smtlib.specs.Scopes.{Scope, bind, bound_to, hides}
use Rattle.smtlib.specs.Grammar.{none as no_terms, more as moreTerms, Declaration, declare_const, declare_fun, Script}

-- ---------------------------------------------------------------- sorts of terms

-- Bool, a bit-vector of a width, an array with bit-vectors of the one width for indices and of the other for values
pub data TermSort : Type 0 where
  bool : TermSort
  bits : ℕ → TermSort
  bits_array : ℕ → ℕ → TermSort

unfoldable pub same_sort : TermSort → TermSort → Bool
same_sort bool bool = true
same_sort bool (bits n) = false
same_sort bool (bits_array i v) = false
same_sort (bits m) bool = false
same_sort (bits m) (bits n) = eqb m n
same_sort (bits m) (bits_array i v) = false
same_sort (bits_array x y) bool = false
same_sort (bits_array x y) (bits n) = false
same_sort (bits_array x y) (bits_array i v) = eqb x i && eqb y v

unfoldable pub same_sorts : List TermSort → List TermSort → Bool
same_sorts [] [] = true
same_sorts [] (t ∷ ts) = false
same_sorts (s ∷ ss) [] = false
same_sorts (s ∷ ss) (t ∷ ts) = same_sort s t && same_sorts ss ts

-- every width is above 0
abbrev pub sensible : TermSort → Bool
sensible bool = true
sensible (bits m) = ltb 0 m
sensible (bits_array i v) = ltb 0 i && ltb 0 v

-- a bit-vector's width
abbrev pub width_of : TermSort → ℕ
width_of bool = 0
width_of (bits m) = m
width_of (bits_array i v) = 0

abbrev pub index_of : TermSort → ℕ
index_of bool = 0
index_of (bits m) = 0
index_of (bits_array i v) = i

abbrev pub value_of : TermSort → ℕ
value_of bool = 0
value_of (bits m) = 0
value_of (bits_array i v) = v

-- ---------------------------------------------------------------- ranks

-- the forms of rank that the theories have for the operators of `Readings` and for `select` and `store`
pub data Rank : Type 0 where
  negation connective equality choice : Rank
  concatenation extraction unary binary comparison extension rotation : Rank
  selection storing : Rank
  deriving Discrete as Rank-discrete

-- the symbols of one form
pub record Ranked : Type 0 where
  pub rank : Rank
  pub symbols : List String

abbrev pub of_rank : Rank → List String → Ranked
of_rank r ss = record { rank = r; symbols = ss }

unfoldable pub ranks : List Ranked
ranks =
    -- Core
    of_rank negation ("not" ∷ [])
    ∷ of_rank connective ("and" ∷ "or" ∷ [])
    ∷ of_rank equality ("=" ∷ "distinct" ∷ [])
    ∷ of_rank choice ("ite" ∷ [])
    -- FixedSizeBitVectors and QF_BV
    ∷ of_rank concatenation ("concat" ∷ [])
    ∷ of_rank extraction ("extract" ∷ [])
    ∷ of_rank unary ("bvnot" ∷ "bvneg" ∷ [])
    ∷ of_rank binary ("bvand" ∷ "bvor" ∷ "bvxor" ∷ "bvadd" ∷ "bvsub" ∷ "bvmul" ∷ "bvudiv" ∷ "bvurem" ∷ "bvsdiv" ∷ "bvsrem" ∷ [])
    ∷ of_rank binary ("bvshl" ∷ "bvlshr" ∷ "bvashr" ∷ [])
    ∷ of_rank comparison ("bvult" ∷ "bvule" ∷ "bvugt" ∷ "bvuge" ∷ "bvslt" ∷ "bvsle" ∷ "bvsgt" ∷ "bvsge" ∷ [])
    ∷ of_rank extension ("zero_extend" ∷ "sign_extend" ∷ [])
    ∷ of_rank rotation ("rotate_left" ∷ "rotate_right" ∷ [])
    -- ArraysEx
    ∷ of_rank selection ("select" ∷ [])
    ∷ of_rank storing ("store" ∷ [])
    ∷ []

-- the form of a symbol's rank
abbrev pub rank_among : List Ranked → Name → Option Rank
rank_among [] n = none
rank_among (r ∷ rs) n = cond (in_list n (map bytes r.symbols)) (some r.rank) (rank_among rs n)

-- a rank with its variables filled in: numerals, operands' sorts, the result's sort, and the side condition
pub record Instance : Type 0 where
  pub numerals : List ℕ
  pub operands : List TermSort
  pub result : TermSort
  pub condition : Bool

abbrev pub takes : List ℕ → List TermSort → TermSort → Bool → Instance
takes ks ss s c = record { numerals = ks; operands = ss; result = s; condition = c }

-- The instance that the first two numerals, i and j, and the sorts s and t of the first two operands single out. That every
-- width is above 0 is said once, in `result_of`.
abbrev pub instance_of : Rank → ℕ → ℕ → TermSort → TermSort → Instance
instance_of negation i j s t = takes [] (bool ∷ []) bool true
instance_of connective i j s t = takes [] (bool ∷ bool ∷ []) bool true
instance_of equality i j s t = takes [] (s ∷ s ∷ []) bool true
instance_of choice i j s t = takes [] (bool ∷ t ∷ t ∷ []) t true
instance_of concatenation i j s t = takes [] (bits (width_of s) ∷ bits (width_of t) ∷ []) (bits (width_of s + width_of t)) true
instance_of extraction i j s t = takes (i ∷ j ∷ []) (bits (width_of s) ∷ []) (bits (i - j + 1)) (leb j i && ltb i (width_of s))
instance_of unary i j s t = takes [] (bits (width_of s) ∷ []) (bits (width_of s)) true
instance_of binary i j s t = takes [] (bits (width_of s) ∷ bits (width_of s) ∷ []) (bits (width_of s)) true
instance_of comparison i j s t = takes [] (bits (width_of s) ∷ bits (width_of s) ∷ []) bool true
instance_of extension i j s t = takes (i ∷ []) (bits (width_of s) ∷ []) (bits (width_of s + i)) true
instance_of rotation i j s t = takes (i ∷ []) (bits (width_of s) ∷ []) (bits (width_of s)) true
instance_of selection i j s t = takes [] (bits_array (index_of s) (value_of s) ∷ bits (index_of s) ∷ []) (bits (value_of s)) true
instance_of storing i j s t =
    takes [] (bits_array (index_of s) (value_of s) ∷ bits (index_of s) ∷ bits (value_of s) ∷ []) (bits_array (index_of s) (value_of s)) true

-- the result's sort, where numerals and operands are those of the instance
unfoldable pub result_of : Rank → List ℕ → List TermSort → Option TermSort
result_of r ks ss =
    let x : Instance = instance_of r (get_or ks 0 0) (get_or ks 1 0) (get_or ss 0 bool) (get_or ss 1 bool) in
    cond (same ks x.numerals && (same_sorts ss x.operands && (every sensible ss && x.condition))) (some x.result) none

-- the sort that a symbol of the theories gives to numerals and operands
unfoldable pub rank : Name → List ℕ → List TermSort → Option TermSort
rank n ks ss = elim (rank_among ranks n) [ none ↦ none | some r ↦ result_of r ks ss ]

-- ---------------------------------------------------------------- declarations

abbrev pub name_of : Declaration → Name
name_of (declare_const n s) = n
name_of (declare_fun n ss s) = n

abbrev pub arguments_of : Declaration → List Sort
arguments_of (declare_const n s) = []
arguments_of (declare_fun n ss s) = ss

abbrev pub sort_declared : Declaration → Sort
sort_declared (declare_const n s) = s
sort_declared (declare_fun n ss s) = s

-- a written sort as a term's
abbrev pub term_sort : Sort → Option TermSort
term_sort (bit_vec w) = some (bits w)
term_sort (array (bit_vec i) (bit_vec v)) = some (bits_array i v)
term_sort (array (bit_vec i) (array s t)) = none
term_sort (array (array s t) u) = none

-- is the sort written that of the term
abbrev pub is_sort : Sort → TermSort → Bool
is_sort s u = elim (term_sort s) [ none ↦ false | some t ↦ same_sort u t ]

-- are the sorts written those of the terms
abbrev pub are_sorts : List Sort → List TermSort → Bool
are_sorts [] [] = true
are_sorts [] (u ∷ us) = false
are_sorts (s ∷ ss) [] = false
are_sorts (s ∷ ss) (u ∷ us) = is_sort s u && are_sorts ss us

-- the declaration of a symbol; a well-sorted script has no other of that symbol
abbrev pub declaration_of : List Declaration → Name → Option Declaration
declaration_of [] n = none
declaration_of (d ∷ ds) n = cond (same n (name_of d)) (some d) (declaration_of ds n)

-- the sort that a declared symbol gives to operands
abbrev pub sort_under : Declaration → List TermSort → Option TermSort
sort_under d us = cond (are_sorts (arguments_of d) us) (term_sort (sort_declared d)) none

-- ---------------------------------------------------------------- terms

-- a symbol: as it is declared, else as the theories have it; a well-sorted script declares no symbol of theirs
unfoldable pub sort_applied : List Declaration → Operator → List TermSort → Option TermSort
sort_applied ds (plain n) us = elim (declaration_of ds n) [ none ↦ rank n [] us | some d ↦ sort_under d us ]
sort_applied ds (indexed n k ks) us = rank n (k ∷ ks) us

-- the sorts of operands: there are some only if each operand has one
unfoldable pub both_sorts : Option TermSort → Option (List TermSort) → Option (List TermSort)
both_sorts none us = none
both_sorts (some u) none = none
both_sorts (some u) (some us) = some (u ∷ us)

-- the sort of an operator over operands that have sorts
unfoldable pub sort_over : List Declaration → Operator → Option (List TermSort) → Option TermSort
sort_over ds o none = none
sort_over ds o (some us) = sort_applied ds o us

-- the sort of a term under the bound names
unfoldable mutual
  pub sort_in : List Declaration → Scope TermSort → Term → Option TermSort
  sort_in ds e (literal cs) = cond (ltb 0 (length cs)) (some (bits (length cs))) none
  sort_in ds e (identifier n) = elim (bound_to e n) [ none ↦ sort_applied ds (plain n) [] | some s ↦ some s ]
  sort_in ds e (application o t ts) = cond (hides e o) none (sort_over ds o (both_sorts (sort_in ds e t) (sorts_in ds e ts)))
  sort_in ds e (binding n t b) = elim (sort_in ds e t) [ none ↦ none | some s ↦ sort_in ds (bind n s e) b ]

  -- term by term
  pub sorts_in : List Declaration → Scope TermSort → Terms → Option (List TermSort)
  sorts_in ds e no_terms = some []
  sorts_in ds e (moreTerms t ts) = both_sorts (sort_in ds e t) (sorts_in ds e ts)

-- the sort of a term where no name is bound
abbrev pub sort_of : List Declaration → Term → Option TermSort
sort_of ds t = sort_in ds [] t

abbrev pub sorts_of : List Declaration → Terms → Option (List TermSort)
sorts_of ds ts = sorts_in ds [] ts

-- every term is of sort Bool
abbrev pub AllBool : List Declaration → Terms → Type 0
AllBool ds no_terms = Unit
AllBool ds (moreTerms t ts) = (sort_of ds t ≡ some bool) × AllBool ds ts

-- ---------------------------------------------------------------- symbols and logics

-- the function symbols of the theories
unfoldable pub theory_symbols : List Name
theory_symbols =
    map bytes
    (
    -- Core
    "true" ∷ "false" ∷ "not" ∷ "=>" ∷ "and" ∷ "or" ∷ "xor" ∷ "=" ∷ "distinct" ∷ "ite"
    -- FixedSizeBitVectors
    ∷ "concat" ∷ "extract" ∷ "bvnot" ∷ "bvneg" ∷ "bvand" ∷ "bvor" ∷ "bvadd" ∷ "bvmul" ∷ "bvudiv" ∷ "bvurem" ∷ "bvshl" ∷ "bvlshr" ∷ "bvult"
    -- the abbreviations of QF_BV
    ∷ "bvnand" ∷ "bvnor" ∷ "bvxor" ∷ "bvxnor" ∷ "bvcomp" ∷ "bvsub" ∷ "bvsdiv" ∷ "bvsrem" ∷ "bvsmod" ∷ "bvashr"
    ∷ "repeat" ∷ "zero_extend" ∷ "sign_extend" ∷ "rotate_left" ∷ "rotate_right" ∷ "bvule" ∷ "bvugt" ∷ "bvuge" ∷ "bvslt" ∷ "bvsle" ∷ "bvsgt" ∷ "bvsge"
    -- ArraysEx
    ∷ "select" ∷ "store" ∷ []
    )

-- a symbol that begins with @ or . is the solver's
abbrev pub solver_symbol : Name → Bool
solver_symbol [] = false
solver_symbol (c ∷ s) = among (64 ∷ 46 ∷ []) c

-- may a script declare the symbol
abbrev pub free : Name → Bool
free n = not (in_list n theory_symbols) && not (solver_symbol n)

-- is the sort written a sort of these theories, with widths above 0
abbrev pub sensible_sort : Sort → Bool
sensible_sort s = elim (term_sort s) [ none ↦ false | some t ↦ sensible t ]

abbrev pub sensible_declaration : Declaration → Bool
sensible_declaration d = every sensible_sort (arguments_of d) && sensible_sort (sort_declared d)

abbrev pub is_bits : Sort → Bool
is_bits (bit_vec w) = true
is_bits (array s t) = false

unfoldable pub logics : List Name
logics = map bytes ("QF_BV" ∷ "QF_ABV" ∷ "QF_AUFBV" ∷ [])

-- the logics that admit a constant of the sort; that an array's sorts are bit-vectors is asked by `sensible_sort`
abbrev pub constant_logics : Sort → List String
constant_logics (bit_vec w) = "QF_BV" ∷ "QF_ABV" ∷ "QF_AUFBV" ∷ []
constant_logics (array s t) = "QF_ABV" ∷ "QF_AUFBV" ∷ []

-- the logics that admit a function of bit-vectors; a function over arrays, which QF_AUFBV has, is not used here
abbrev pub function_logics : Bool → List String
function_logics true = "QF_AUFBV" ∷ []
function_logics false = []

-- a symbol without arguments is a constant, by whichever command it is declared
abbrev pub declaration_logics : Declaration → List String
declaration_logics (declare_const n s) = constant_logics s
declaration_logics (declare_fun n [] s) = constant_logics s
declaration_logics (declare_fun n (t ∷ ts) s) = function_logics (every is_bits (t ∷ ts) && is_bits s)

-- does the logic admit the declaration
abbrev pub admits : Name → Declaration → Bool
admits l d = in_list l (map bytes (declaration_logics d))

-- ---------------------------------------------------------------- scripts

-- What a logic admits is asked of the declarations alone: a term has an Array sort only through a declared array, and calls a
-- function only if it is declared.
pub record WellSorted (s : Script) : Type 0 where
  pub logic_known : T (in_list s.logic logics)
  pub admitted : All (admits s.logic) s.declarations
  pub sensible_sorts : All sensible_declaration s.declarations
  pub declared_once : T (distinct (map name_of s.declarations))
  pub names_free : All free (map name_of s.declarations)
  pub assertions_bool : AllBool s.declarations s.assertions
