-- The grammar of SMT-LIB 2.6 (identifiers in section 3.3, sorts in 3.5, terms in 3.6, scripts in 3.9), as far as document 01's
-- grammar of readings uses it: sorts, operators, terms, declarations and scripts, each with the tokens that it is written with.
-- Definitions only.
use Rattle.std.specs.Prelude.{ℕ, List, [], ◌∷◌, ◌++◌}
use Rattle.lists.specs.Bytes.{bytes}
use Rattle.smtlib.specs.Lexicon.{Token, open⁽, close⁾, reserved, numeral, binary, symbol}

-- ---------------------------------------------------------------- sorts

-- (_ BitVec n), or (Array s t)
pub data Sort : Type 0 where
  bit_vec : ℕ → Sort
  array : Sort → Sort → Sort

unfoldable pub sort_tokens : Sort → List Token
sort_tokens (bit_vec n) = open⁽ ∷ reserved (bytes "_") ∷ symbol (bytes "BitVec") ∷ numeral n ∷ close⁾ ∷ []
sort_tokens (array s t) = open⁽ ∷ symbol (bytes "Array") ∷ (sort_tokens s ++ (sort_tokens t ++ (close⁾ ∷ [])))

unfoldable pub sorts_tokens : List Sort → List Token
sorts_tokens [] = []
sorts_tokens (s ∷ ss) = sort_tokens s ++ sorts_tokens ss

-- ---------------------------------------------------------------- terms

-- a symbol, or (_ symbol numeral ..) with one numeral or more
pub data Operator : Type 0 where
  plain : List ℕ → Operator
  indexed : List ℕ → ℕ → List ℕ → Operator

unfoldable pub numerals_tokens : List ℕ → List Token
numerals_tokens [] = []
numerals_tokens (k ∷ ks) = numeral k ∷ numerals_tokens ks

unfoldable pub operator_tokens : Operator → List Token
operator_tokens (plain n) = symbol n ∷ []
operator_tokens (indexed n k ks) = open⁽ ∷ reserved (bytes "_") ∷ symbol n ∷ numeral k ∷ (numerals_tokens ks ++ (close⁾ ∷ []))

-- a `#b` constant, a symbol, (operator term ..) with one term or more, or (let ((symbol term)) term)
mutual
  pub data Term : Type 0 where
    literal : List ℕ → Term
    identifier : List ℕ → Term
    application : Operator → Term → Terms → Term
    -- the name, what it is bound to, the body
    binding : List ℕ → Term → Term → Term

  pub data Terms : Type 0 where
    none : Terms
    more : Term → Terms → Terms

unfoldable mutual
  pub term_tokens : Term → List Token
  term_tokens (literal ds) = binary ds ∷ []
  term_tokens (identifier n) = symbol n ∷ []
  term_tokens (application o t ts) = open⁽ ∷ (operator_tokens o ++ (term_tokens t ++ (terms_tokens ts ++ (close⁾ ∷ []))))
  term_tokens (binding n t b) =
      open⁽ ∷ reserved (bytes "let") ∷ open⁽ ∷ open⁽ ∷ symbol n ∷ (term_tokens t ++ (close⁾ ∷ close⁾ ∷ (term_tokens b ++ (close⁾ ∷ []))))

  pub terms_tokens : Terms → List Token
  terms_tokens none = []
  terms_tokens (more t ts) = term_tokens t ++ terms_tokens ts

-- ---------------------------------------------------------------- commands

-- (declare-const symbol sort) and (declare-fun symbol (sort ..) sort)
pub data Declaration : Type 0 where
  declare_const : List ℕ → Sort → Declaration
  declare_fun : List ℕ → List Sort → Sort → Declaration

unfoldable pub declaration_tokens : Declaration → List Token
declaration_tokens (declare_const n s) = open⁽ ∷ reserved (bytes "declare-const") ∷ symbol n ∷ (sort_tokens s ++ (close⁾ ∷ []))
declaration_tokens (declare_fun n ss s) =
    open⁽ ∷ reserved (bytes "declare-fun") ∷ symbol n ∷ open⁽ ∷ (sorts_tokens ss ++ (close⁾ ∷ (sort_tokens s ++ (close⁾ ∷ []))))

unfoldable pub declarations_tokens : List Declaration → List Token
declarations_tokens [] = []
declarations_tokens (d ∷ ds) = declaration_tokens d ++ declarations_tokens ds

-- (assert term), one for each term
unfoldable pub assertions_tokens : Terms → List Token
assertions_tokens none = []
assertions_tokens (more t ts) = open⁽ ∷ reserved (bytes "assert") ∷ (term_tokens t ++ (close⁾ ∷ assertions_tokens ts))

-- ---------------------------------------------------------------- scripts

-- (set-logic symbol), the declarations, the assertions, (check-sat)
pub record Script : Type 0 where
  pub logic : List ℕ
  pub declarations : List Declaration
  pub assertions : Terms

unfoldable pub script_tokens : Script → List Token
script_tokens s =
    open⁽ ∷ reserved (bytes "set-logic") ∷ symbol s.logic ∷ close⁾
    ∷ (declarations_tokens s.declarations ++ (assertions_tokens s.assertions ++ (open⁽ ∷ reserved (bytes "check-sat") ∷ close⁾ ∷ [])))
