-- The lexicon of SMT-LIB 2.6 (section 3.1), as far as document 01's grammar of readings uses it, with all reserved words: which
-- bytes hold which tokens. Definitions only.
use Rattle.std.specs.Prelude.{ℕ, ◌+◌, ◌-◌, ◌*◌, ◌≡◌, List, [], ◌∷◌, ◌++◌, map, Bool, true, false, ◌&&◌, ◌||◌, not, ◌⊎◌, T, leb, eqb}
use Rattle.lists.specs.Bytes.{bytes}
use Rattle.lists.specs.Tests.{among, in_list, All}

-- ---------------------------------------------------------------- bytes

-- tab, line feed, return, blank
abbrev pub blank : ℕ → Bool
blank c = among (9 ∷ 10 ∷ 13 ∷ 32 ∷ []) c

-- what ends a line, and so a comment
abbrev pub line_break : ℕ → Bool
line_break c = among (10 ∷ 13 ∷ []) c

-- the semicolon, which begins a comment
abbrev pub semicolon : ℕ → Bool
semicolon c = eqb c 59

abbrev pub digit : ℕ → Bool
digit c = leb 48 c && leb c 57

abbrev pub letter : ℕ → Bool
letter c = (leb 65 c && leb c 90) || (leb 97 c && leb c 122)

-- a letter, a digit or one of ~ ! @ $ % ^ & * _ - + = < > . ? /
unfoldable abbrev pub symbol_byte : ℕ → Bool
unfolding bytes
symbol_byte c = letter c || (digit c || among (bytes "~!@$%^&*_-+=<>.?/") c)

-- printable, or white space, and neither a bar nor a backslash
abbrev pub quotable : ℕ → Bool
quotable c = ((leb 32 c && leb c 126) || ((leb 128 c && leb c 255) || blank c)) && not (among (124 ∷ 92 ∷ []) c)

abbrev pub binary_digit : ℕ → Bool
binary_digit c = among (48 ∷ 49 ∷ []) c

-- ---------------------------------------------------------------- white space

-- white space is blanks and comments; a comment runs from a semicolon to the end of its line
unfoldable mutual
  pub white : List ℕ → Bool
  white [] = true
  white (c ∷ s) = elim (semicolon c) [ true ↦ comment s | false ↦ blank c && white s ]

  -- the rest of a comment, and white space after it
  pub comment : List ℕ → Bool
  comment [] = false
  comment (c ∷ s) = elim (line_break c) [ true ↦ white s | false ↦ comment s ]

-- what white space begins with
abbrev pub white_first : ℕ → Bool
white_first c = semicolon c || blank c

-- ---------------------------------------------------------------- tokens

-- a reserved word is no symbol; the bars of a quoted symbol are no part of it
pub data Token : Type 0 where
  open⁽ close⁾ : Token
  reserved : List ℕ → Token
  numeral : ℕ → Token
  -- the digits of a `#b` constant, as they stand
  binary : List ℕ → Token
  symbol : List ℕ → Token

-- the reserved words: the general ones, and the names of the commands (section 3.9)
unfoldable pub reserved_words : List (List ℕ)
reserved_words =
    map bytes
    (
    "!" ∷ "_" ∷ "as" ∷ "BINARY" ∷ "DECIMAL" ∷ "exists" ∷ "HEXADECIMAL" ∷ "forall" ∷ "let" ∷ "match" ∷ "NUMERAL" ∷ "par" ∷ "STRING"
    -- commands
    ∷ "assert" ∷ "check-sat" ∷ "check-sat-assuming" ∷ "declare-const" ∷ "declare-datatype" ∷ "declare-datatypes" ∷ "declare-fun" ∷ "declare-sort"
    ∷ "define-fun" ∷ "define-fun-rec" ∷ "define-funs-rec" ∷ "define-sort" ∷ "echo" ∷ "exit" ∷ "get-assertions" ∷ "get-assignment" ∷ "get-info"
    ∷ "get-model" ∷ "get-option" ∷ "get-proof" ∷ "get-unsat-assumptions" ∷ "get-unsat-core" ∷ "get-value" ∷ "pop" ∷ "push" ∷ "reset"
    ∷ "reset-assertions" ∷ "set-info" ∷ "set-logic" ∷ "set-option" ∷ []
    )

-- the first byte, if there is one, passes the test
abbrev pub Begins : (ℕ → Bool) → List ℕ → Type 0
Begins p [] = ⊥
Begins p (c ∷ s) = T (p c)

-- the number that digits stand for, after the number a
unfoldable pub value_from : ℕ → List ℕ → ℕ
value_from a [] = a
value_from a (d ∷ ds) = value_from (a * 10 + (d - 48)) ds

-- no zero stands first, unless it is the only digit
abbrev pub NoLeadingZero : List ℕ → Type 0
NoLeadingZero [] = ⊥
NoLeadingZero (c ∷ []) = Unit
NoLeadingZero (c ∷ d ∷ s) = T (not (eqb c 48))

-- a numeral of the number n
pub record Numeral (n : ℕ) (s : List ℕ) : Type 0 where
  pub digits : All digit s
  pub leading : NoLeadingZero s
  pub value : value_from 0 s ≡ n

-- a symbol that needs no bars: not begun by a digit, and no reserved word
pub record Simple (n : List ℕ) : Type 0 where
  pub first : Begins (λ c. not (digit c)) n
  pub bytes_ok : All symbol_byte n
  pub apart : T (not (in_list n reserved_words))

-- a `#b` constant has a digit or more
pub record Binary (ds : List ℕ) : Type 0 where
  pub first : Begins binary_digit ds
  pub digits : All binary_digit ds

-- the token is spelled by these bytes
abbrev pub Spells : Token → List ℕ → Type 0
Spells open⁽ s = s ≡ bytes "("
Spells close⁾ s = s ≡ bytes ")"
Spells (reserved w) s = T (in_list w reserved_words) × (s ≡ w)
Spells (numeral n) s = Numeral n s
Spells (binary ds) s = Binary ds × (s ≡ bytes "#b" ++ ds)
Spells (symbol n) s = (Simple n × (s ≡ n)) ⊎ (All quotable n × (s ≡ bytes "|" ++ (n ++ bytes "|")))

-- every token but a parenthesis
abbrev pub word : Token → Bool
word open⁽ = false
word close⁾ = false
word (reserved w) = true
word (numeral n) = true
word (binary ds) = true
word (symbol n) = true

abbrev pub first_of_word : List Token → Bool
first_of_word [] = false
first_of_word (t ∷ ts) = word t

-- The bytes b hold the tokens: white space may stand around any token, and must between two of which neither is a
-- parenthesis.
unfoldable pub Lex : List ℕ → List Token → Type 0
Lex b [] = T (white b)
Lex b (t ∷ ts) =
    (w : List ℕ) × (s : List ℕ) × (r : List ℕ) × (b ≡ w ++ (s ++ r)) × T (white w) × Spells t s × (T (word t && first_of_word ts) → Begins white_first r) × Lex r ts
