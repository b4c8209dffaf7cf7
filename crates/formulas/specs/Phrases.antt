-- The grammar of formulas (request L13) and what they say: a formula is another way to write a term of SMT-LIB. Definitions
-- only; nothing here knows the printer.
use Rattle.std.specs.Prelude.{ℕ, suc, ◌≡◌, List, [], ◌∷◌, ◌++◌, map, Bool, true, false, ◌&&◌, not, T, leb}
use Prim.Native.String.{String}
use Rattle.std.proofs.Math.Option.{Option, none as nothing, some}
use Rattle.lists.specs.Bytes.{bytes}
use Rattle.lists.specs.Tests.{same, in_list}
use Rattle.reading.specs.Trees.{Name, Tree, Trees, none as noTrees, more as moreTrees, Declarations}
use Rattle.smtlib.specs.Grammar.{Operator, plain, indexed, Term, literal as aLiteral, identifier, application, Terms, none as no_terms, more as moreTerms}
use Rattle.smtlib.specs.Readings.{built_in, a_tree, Means}
use Rattle.formulas.specs.Tokens.{Token, open⁽, close⁾, comma, numeral, binary, name, word, Lex}

-- ---------------------------------------------------------------- operators

-- a symbol, its level, and SMT-LIB's symbol of the same meaning
pub record Sign : Type 0 where
  pub symbol : String
  pub level : ℕ
  pub meaning : String

abbrev pub sign : String → ℕ → String → Sign
sign s l m = record { symbol = s; level = l; meaning = m }

-- between two operands, from the loosest
unfoldable pub infixes : List Sign
infixes =
    sign "or" 0 "or"
    ∷ sign "and" 1 "and"
    ∷ sign "bor" 2 "bvor"
    ∷ sign "bxor" 3 "bvxor"
    ∷ sign "band" 4 "bvand"
    ∷ sign "==" 5 "=" ∷ sign "!=" 5 "distinct"
    ∷ sign "<" 6 "bvult" ∷ sign "<=" 6 "bvule" ∷ sign ">" 6 "bvugt" ∷ sign ">=" 6 "bvuge"
    ∷ sign "<<" 7 "bvshl" ∷ sign ">>" 7 "bvlshr"
    ∷ sign "+" 8 "bvadd" ∷ sign "-" 8 "bvsub"
    ∷ sign "*" 9 "bvmul" ∷ sign "/" 9 "bvudiv" ∷ sign "%" 9 "bvurem"
    ∷ []

-- before one operand
unfoldable pub prefixes : List Sign
prefixes = sign "!" 10 "not" ∷ sign "~" 10 "bvnot" ∷ sign "-" 10 "bvneg" ∷ []

-- SMT-LIB's symbols that stand by name
unfoldable pub others : List Name
others =
    map bytes
    ("ite" ∷ "concat" ∷ "extract" ∷ "bvsdiv" ∷ "bvsrem" ∷ "bvashr" ∷ "zero_extend" ∷ "sign_extend" ∷ "rotate_left" ∷ "rotate_right"
    ∷ "bvslt" ∷ "bvsle" ∷ "bvsgt" ∷ "bvsge" ∷ "select" ∷ "store" ∷ [])

-- the row of a symbol; no symbol has two in one table (`PhrasesUnique`)
unfoldable pub lookup : List Sign → Name → Option Sign
lookup [] w = nothing
lookup (r ∷ rs) w = elim (same w (bytes r.symbol)) [ true ↦ some r | false ↦ lookup rs w ]

abbrev pub meaning_of : List Sign → Name → Name
meaning_of rs w = elim (lookup rs w) [ nothing ↦ w | some r ↦ bytes r.meaning ]

-- ---------------------------------------------------------------- phrases

-- what stands before the parentheses: a function's name, or one of SMT-LIB's with its numerals
pub data Head : Type 0 where
  function : Name → Head
  operator : Name → List ℕ → Head

mutual
  -- a formula as it is written, brackets and all
  pub data Phrase : Type 0 where
    literal : List ℕ → Phrase
    reference : Name → Phrase
    brackets : Phrase → Phrase
    prefixed : Name → Phrase → Phrase
    infixed : Phrase → Name → Phrase → Phrase
    applied : Head → Phrase → Phrases → Phrase

  pub data Phrases : Type 0 where
    none : Phrases
    more : Phrase → Phrases → Phrases

-- each before a comma
unfoldable pub numerals_tokens : List ℕ → List Token
numerals_tokens [] = []
numerals_tokens (k ∷ ks) = numeral k ∷ comma ∷ numerals_tokens ks

unfoldable pub head_tokens : Head → List Token
head_tokens (function n) = name n ∷ open⁽ ∷ []
head_tokens (operator w ks) = word w ∷ open⁽ ∷ numerals_tokens ks

unfoldable mutual
  pub phrase_tokens : Phrase → List Token
  phrase_tokens (literal ds) = binary ds ∷ []
  phrase_tokens (reference n) = name n ∷ []
  phrase_tokens (brackets p) = open⁽ ∷ (phrase_tokens p ++ (close⁾ ∷ []))
  phrase_tokens (prefixed w p) = word w ∷ phrase_tokens p
  phrase_tokens (infixed p w q) = phrase_tokens p ++ (word w ∷ phrase_tokens q)
  phrase_tokens (applied h p ps) = head_tokens h ++ (phrase_tokens p ++ later_tokens ps)

  -- each after a comma, and the closing parenthesis
  pub later_tokens : Phrases → List Token
  later_tokens none = close⁾ ∷ []
  later_tokens (more p ps) = comma ∷ (phrase_tokens p ++ later_tokens ps)

-- ---------------------------------------------------------------- levels

-- a name between bars is never an operator's
abbrev pub head_ok : Head → Bool
head_ok (function n) = not (in_list n built_in)
head_ok (operator w ks) = in_list w others

-- The phrase may stand where level l or a tighter one is wanted. An operator's left operand may be of its own level and its
-- right operand is of a tighter one; anything may stand between parentheses.
unfoldable mutual
  pub stands : ℕ → Phrase → Bool
  stands l (literal ds) = true
  stands l (reference n) = true
  stands l (brackets p) = stands 0 p
  stands l (prefixed w p) = elim (lookup prefixes w) [ nothing ↦ false | some r ↦ leb l r.level && stands r.level p ]
  stands l (infixed p w q) =
      elim (lookup infixes w) [ nothing ↦ false | some r ↦ leb l r.level && (stands r.level p && stands (suc r.level) q) ]
  stands l (applied h p ps) = head_ok h && (stands 0 p && stand ps)

  pub stand : Phrases → Bool
  stand none = true
  stand (more p ps) = stands 0 p && stand ps

-- ---------------------------------------------------------------- what a phrase says

abbrev pub head_operator : Head → Operator
head_operator (function n) = plain n
head_operator (operator w []) = plain w
head_operator (operator w (k ∷ ks)) = indexed w k ks

unfoldable mutual
  pub phrase_term : Phrase → Term
  phrase_term (literal ds) = aLiteral ds
  phrase_term (reference n) = identifier n
  phrase_term (brackets p) = phrase_term p
  phrase_term (prefixed w p) = application (plain (meaning_of prefixes w)) (phrase_term p) no_terms
  phrase_term (infixed p w q) = application (plain (meaning_of infixes w)) (phrase_term p) (moreTerms (phrase_term q) no_terms)
  phrase_term (applied h p ps) = application (head_operator h) (phrase_term p) (phrase_terms ps)

  pub phrase_terms : Phrases → Terms
  phrase_terms none = no_terms
  phrase_terms (more p ps) = moreTerms (phrase_term p) (phrase_terms ps)

-- The bytes are a formula, and the tree t is what it says under the declarations D.
pub record Reads (D : Declarations) (b : List ℕ) (t : Tree) : Type 0 where
  pub tokens : List Token
  pub phrase : Phrase
  pub lexed : Lex b tokens
  pub parsed : tokens ≡ phrase_tokens phrase
  pub levels : T (stands 0 phrase)
  pub means : Means D (phrase_term phrase) (a_tree t)

-- The bytes are lines, each ended by byte 10, and each a formula that says its tree. (No formula holds byte 10: `lex-inline`.)
unfoldable pub ReadsLines : Declarations → List ℕ → Trees → Type 0
ReadsLines D b noTrees = b ≡ []
ReadsLines D b (moreTrees t ts) = (f : List ℕ) × (r : List ℕ) × (b ≡ f ++ (10 ∷ r)) × Reads D f t × ReadsLines D r ts
