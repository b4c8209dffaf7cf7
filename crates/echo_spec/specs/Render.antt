-- The script's text (document 01, "Script text").
use Rattle.std.specs.Prelude.{ℕ, zero, suc, ◌+◌, ◌/◌, ◌%◌, List, [], ◌∷◌, ◌++◌, true, false, ltb, get_or}
use Prim.Native.String.{String}
use Rattle.lists.specs.Bytes.{bytes}
use Rattle.reading.specs.Trees.{Name, Tree, variable, constant, apply, select, call, Trees, none, more, Stores, base, store, Variable, Array, Function, Declarations, Reading}

-- ---------------------------------------------------------------- words, names, numbers

-- `push_sym`: the symbol of each kind; variables and constants have none
unfoldable pub symbols : List String
symbols =
    "" ∷ "" ∷ "bvadd" ∷ "bvsub" ∷ "bvmul" ∷ "bvudiv" ∷ "bvurem" ∷ "bvand" ∷ "bvor" ∷ "bvxor" ∷ "bvshl" ∷ "bvlshr" ∷ "bvashr" ∷ "rotate_right"
    ∷ "extract" ∷ "concat" ∷ "zero_extend" ∷ "sign_extend" ∷ "ite" ∷ "=" ∷ "distinct" ∷ "bvult" ∷ "bvule" ∷ "bvugt" ∷ "bvuge" ∷ "bvslt"
    ∷ "bvsle" ∷ "bvsgt" ∷ "bvsge" ∷ "not" ∷ "and" ∷ "or" ∷ "bvnot" ∷ "bvneg" ∷ "rotate_left" ∷ "bvsdiv" ∷ "bvsrem" ∷ []

unfoldable pub symbol_of : ℕ → List ℕ
symbol_of k = bytes (get_or symbols k "")

-- the last digits of n, at most f of them
unfoldable pub decimal_digits : ℕ → ℕ → List ℕ
decimal_digits zero n = []
decimal_digits (suc f) n = elim (ltb n 10) [ true ↦ (48 + n) ∷ [] | false ↦ decimal_digits f (n / 10) ++ ((48 + n % 10) ∷ []) ]

-- the decimal numeral of n, without leading zeros
unfoldable pub decimal : ℕ → List ℕ
decimal n = decimal_digits (suc n) n

-- bits, the lowest first, as digits, the highest first
unfoldable pub binary_digits : List ℕ → List ℕ
binary_digits [] = []
binary_digits (b ∷ bs) = binary_digits bs ++ ((48 + b) ∷ [])

unfoldable pub quoted : Name → List ℕ
quoted n = bytes "|" ++ (n ++ bytes "|")

-- ---------------------------------------------------------------- terms

unfoldable pub numerals_text : List ℕ → List ℕ
numerals_text [] = []
numerals_text (k ∷ ks) = bytes " " ++ (decimal k ++ numerals_text ks)

-- a symbol, or (_ symbol numeral ..)
unfoldable pub operator_text : List ℕ → List ℕ → List ℕ
operator_text symbol [] = symbol
operator_text symbol (k ∷ ks) = bytes "(_ " ++ (symbol ++ (numerals_text (k ∷ ks) ++ bytes ")"))

-- a call without arguments is the bare name
unfoldable pub call_text : Name → Trees → List ℕ → List ℕ
call_text n none arguments = quoted n
call_text n (more t ts) arguments = bytes "(" ++ (quoted n ++ (arguments ++ bytes ")"))

unfoldable mutual
  pub term : Tree → List ℕ
  term (variable n) = quoted n
  term (constant bs) = bytes "#b" ++ binary_digits bs
  term (apply k ks ts) = bytes "(" ++ (operator_text (symbol_of k) ks ++ (terms ts ++ bytes ")"))
  term (select a j ss) = bytes "(select " ++ (stores a ss ++ (bytes " " ++ (term j ++ bytes ")")))
  term (call n ts) = call_text n ts (terms ts)

  -- each after a blank
  pub terms : Trees → List ℕ
  terms none = []
  terms (more t ts) = bytes " " ++ (term t ++ terms ts)

  -- the array after its stores, the first the outermost
  pub stores : Name → Stores → List ℕ
  stores a base = quoted a
  stores a (store i v ss) = bytes "(store " ++ (stores a ss ++ (bytes " " ++ (term i ++ (bytes " " ++ (term v ++ bytes ")")))))

-- ---------------------------------------------------------------- commands

unfoldable pub sort_text : ℕ → List ℕ
sort_text w = bytes "(_ BitVec " ++ (decimal w ++ bytes ")")

unfoldable pub sorts_text : List ℕ → List ℕ
sorts_text [] = []
sorts_text (w ∷ []) = sort_text w
sorts_text (w ∷ v ∷ ws) = sort_text w ++ (bytes " " ++ sorts_text (v ∷ ws))

unfoldable pub variable_text : Variable → List ℕ
variable_text v = bytes "(declare-const " ++ (quoted v.name ++ (bytes " " ++ (sort_text v.width ++ bytes ")\n")))

unfoldable pub array_text : Array → List ℕ
array_text a =
    bytes "(declare-const " ++ (quoted a.name ++ (bytes " (Array " ++ (sort_text a.index ++ (bytes " " ++ (sort_text a.value ++ bytes "))\n")))))

unfoldable pub function_text : Function → List ℕ
function_text f =
    bytes "(declare-fun " ++ (quoted f.name ++ (bytes " (" ++ (sorts_text f.arguments ++ (bytes ") " ++ (sort_text f.width ++ bytes ")\n")))))

-- one text after the other
unfoldable pub texts : {A : Type 0} → (A → List ℕ) → List A → List ℕ
texts f [] = []
texts f (x ∷ xs) = f x ++ texts f xs

unfoldable pub assertions_text : Trees → List ℕ
assertions_text none = []
assertions_text (more t ts) = bytes "(assert " ++ (term t ++ (bytes ")\n" ++ assertions_text ts))

-- by whether there are functions, and whether there are arrays
unfoldable pub logic_of : List Function → List Array → List ℕ
logic_of (f ∷ fs) arrays = bytes "QF_AUFBV"
logic_of [] (a ∷ arrays) = bytes "QF_ABV"
logic_of [] [] = bytes "QF_BV"

unfoldable pub logic_text : Declarations → List ℕ
logic_text ds = bytes "(set-logic " ++ (logic_of ds.functions ds.arrays ++ bytes ")\n")

unfoldable pub declarations_text : Declarations → List ℕ
declarations_text ds = texts variable_text ds.variables ++ (texts array_text ds.arrays ++ texts function_text ds.functions)

-- a script, by its declarations and the text of its assertions
abbrev pub frame : Declarations → List ℕ → List ℕ
frame ds assertions = logic_text ds ++ (declarations_text ds ++ (assertions ++ bytes "(check-sat)\n"))

unfoldable pub render : Reading → List ℕ
render r = frame r.declarations (assertions_text r.assertions)
