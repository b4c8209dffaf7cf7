-- Every condition of the lexicon, with texts that fail by it and, beside them, the same texts mended.
use Rattle.std.specs.Prelude.{ℕ, zero, suc, ◌≡◌, refl, List, [], ◌∷◌, ◌++◌, map, Bool, true, false, ◌&&◌, not, cond, T}
use Prim.Native.String.{String}
use Rattle.std.proofs.Common.{subst, T_not}
use Rattle.lists.specs.Bytes.{bytes}
use Rattle.lists.specs.Tests.{every, same, in_list, every_in, and_0, and-1}
use Rattle.smtlib.specs.Lexicon.{
  blank,
  line_break,
  semicolon,
  digit,
  letter,
  symbol_byte,
  quotable,
  binary_digit,
  white,
  white_first,
  Token,
  open⁽,
  close⁾,
  reserved,
  numeral,
  binary,
  symbol,
  reserved_words,
  Spells,
  Lex,
}
use Rattle.smtlib.specs.Deciding.{Decided, agree, decided}
use Rattle.smtlib.proofs.LexUnique.{lex-unique}
use Rattle.smtlib.specs.LexText.{simple_test}
use Rattle.smtlib.proofs.LexTests.{spelled, spells-by-test, spells→test, spelling, spells-some, Lexeme, tokens_of, text_of, holds, lex-by-test, same_tokens, same-tokens}

-- ---------------------------------------------------------------- classes of bytes

-- n numbers from a on
from : ℕ → ℕ → List ℕ
from a zero = []
from a (suc n) = a ∷ from (suc a) n

-- the numbers that pass the test, among 0 to 299: no byte is above 255
passing : (ℕ → Bool) → List ℕ
unfolding from
passing p = go (from 0 300)
  where
    go : List ℕ → List ℕ
    go [] = []
    go (c ∷ s) = cond (p c) (c ∷ go s) (go s)

byte-classes : (passing blank ≡ 9 ∷ 10 ∷ 13 ∷ 32 ∷ [])
    × (passing line_break ≡ 10 ∷ 13 ∷ [])
    × (passing semicolon ≡ bytes ";")
    × (passing white_first ≡ 9 ∷ 10 ∷ 13 ∷ 32 ∷ 59 ∷ [])
    × (passing digit ≡ bytes "0123456789")
    × (passing binary_digit ≡ bytes "01")
    × (passing letter ≡ bytes "ABCDEFGHIJKLMNOPQRSTUVWXYZabcdefghijklmnopqrstuvwxyz")
    × (passing symbol_byte ≡ bytes "!$%&*+-./0123456789<=>?@ABCDEFGHIJKLMNOPQRSTUVWXYZ^_abcdefghijklmnopqrstuvwxyz~")
    -- neither 92, the backslash, nor 124, the bar, nor 127
    × (passing quotable ≡ 9 ∷ 10 ∷ 13 ∷ (from 32 60 ++ (from 93 31 ++ (125 ∷ 126 ∷ from 128 128))))
unfolding passing from bytes symbol_byte
byte-classes = (refl, refl, refl, refl, refl, refl, refl, refl, refl)

-- ---------------------------------------------------------------- white space

-- what is white space and what is none
white-cases : T (every white (map bytes ("" ∷ " \t\r\n" ∷ ";a\n" ∷ ";a\r" ∷ "\t;(;\n " ∷ ";\n;\n" ∷ [])))
    × T (every (λ s. not (white s)) ((11 ∷ []) ∷ (12 ∷ []) ∷ map bytes ("a" ∷ " a" ∷ ";" ∷ ";a" ∷ ";a\nb" ∷ ";a\n;b" ∷ "\n;a\t" ∷ [])))
unfolding white bytes
white-cases = (tt, tt)

-- ---------------------------------------------------------------- spellings

-- a token, bytes, and whether these spell it
record Spelling : Type 0 where
  token : Token
  text : List ℕ
  fits : Bool

abbrev spelt : Token → String → Bool → Spelling
spelt t s b = record { token = t; text = bytes s; fits = b }

-- a symbol by its bytes: simple, and between bars
abbrev simple : String → Bool → Spelling
simple s b = spelt (symbol (bytes s)) s b

abbrev barred : List ℕ → Bool → Spelling
barred s b = record { token = symbol s; text = 124 ∷ (s ++ (124 ∷ [])); fits = b }

spellings : List Spelling
unfolding bytes
spellings =
    -- a numeral: its digits, its value, no zero first
    spelt (numeral 12) "12" true
    ∷ spelt (numeral 13) "12" false
    ∷ spelt (numeral 12) "012" false
    ∷ spelt (numeral 12) "1:" false
    ∷ spelt (numeral 0) "0" true
    ∷ spelt (numeral 0) "00" false
    ∷ spelt (numeral 0) "" false
    -- a binary constant: a digit or more, each 0 or 1, behind #b
    ∷ spelt (binary (bytes "01")) "#b01" true
    ∷ spelt (binary (bytes "02")) "#b02" false
    ∷ spelt (binary []) "#b" false
    ∷ spelt (binary (bytes "01")) "#b10" false
    ∷ spelt (binary (bytes "01")) "#B01" false
    ∷ spelt (binary (bytes "01")) "01" false
    -- a simple symbol: not begun by a digit, of symbol bytes, not reserved
    ∷ simple "a1" true
    ∷ simple "1a" false
    ∷ simple "" false
    ∷ simple "a:b" false
    ∷ simple "a b" false
    ∷ simple "lets" true
    ∷ simple "Let" true
    ∷ simple "let" false
    ∷ simple "assert" false
    ∷ simple "__" true
    ∷ simple "_" false
    ∷ spelt (symbol (bytes "a")) "b" false
    -- between bars: no bar, no backslash, printable or white space; a reserved word is a symbol
    ∷ barred (bytes "") true
    ∷ barred (bytes "1a") true
    ∷ barred (bytes "a:b \n") true
    ∷ barred (bytes "let") true
    ∷ barred (bytes "assert") true
    ∷ barred (bytes "a|b") false
    ∷ barred (bytes "a\\b") false
    ∷ barred (126 ∷ []) true
    ∷ barred (127 ∷ []) false
    ∷ barred (128 ∷ []) true
    ∷ barred (31 ∷ []) false
    ∷ barred (255 ∷ []) true
    ∷ barred (256 ∷ []) false
    ∷ spelt (symbol (bytes "a")) "|b|" false
    ∷ spelt (symbol (bytes "a")) "|a" false
    ∷ spelt (symbol (bytes "|a|")) "|a|" false
    -- a reserved word: bare, and one of them
    ∷ spelt (reserved (bytes "let")) "let" true
    ∷ spelt (reserved (bytes "let")) "|let|" false
    ∷ spelt (reserved (bytes "let")) "par" false
    ∷ spelt (reserved (bytes "lets")) "lets" false
    -- parentheses
    ∷ spelt open⁽ "(" true
    ∷ spelt open⁽ ")" false
    ∷ spelt close⁾ ")" true
    ∷ spelt close⁾ "(" false
    ∷ []

abbrev AllSpell : List Spelling → Type 0
AllSpell [] = Unit
AllSpell (c ∷ cs) = Decided c.fits (Spells c.token c.text) × AllSpell cs

as_said : Spelling → Bool
unfolding spelled
as_said c = agree (spelled c.token c.text) c.fits

all-spell : (cs : List Spelling) → T (every as_said cs) → AllSpell cs
unfolding as_said
all-spell [] h = tt
all-spell (c ∷ cs) h = (
  decided (spelled c.token c.text) c.fits (spells-by-test c.token c.text) (spells→test c.token c.text) (and_0 (as_said c) (every as_said cs) h),
  all-spell cs (and-1 (as_said c) (every as_said cs) h),
)

spellings-hold : AllSpell spellings
unfolding spellings as_said
spellings-hold = all-spell spellings tt

-- bytes that spell no token: what breaks a rule above, and the tokens of SMT-LIB that are not used here
no_tokens : List (List ℕ)
unfolding bytes
no_tokens =
    (124 ∷ 127 ∷ 124 ∷ [])
    ∷ (124 ∷ 31 ∷ 124 ∷ [])
    ∷ (127 ∷ [])
    ∷ (200 ∷ [])
    ∷ map bytes
    (
    "" ∷ " " ∷ "()" ∷ "012" ∷ "1a" ∷ "#b" ∷ "#b012" ∷ "#" ∷ "a b" ∷ "a:b" ∷ "a(" ∷ "|" ∷ "|a" ∷ "a|" ∷ "|a|b|" ∷ "|a||b|" ∷ "|a\\|" ∷ "a;" ∷ "{" ∷ "'"
    -- a decimal, a hexadecimal, a string, a keyword
    ∷ "1.5" ∷ "#x1f" ∷ "\"a\"" ∷ ":named" ∷ []
    )

none-spelled : (s : List ℕ) → T (in_list s no_tokens) → (t : Token) → Spells t s → ⊥
unfolding no_tokens spelling
none-spelled s h t k =
    T_not (spelling s) (every_in (λ s. not (spelling s)) no_tokens s tt h) (spells-some t s k)

-- ---------------------------------------------------------------- reserved words

-- each word of section 3.1, and each command's name: bare it is no symbol
words : List String
words =
    "!" ∷ "_" ∷ "as" ∷ "let" ∷ "exists" ∷ "forall" ∷ "match" ∷ "par" ∷ "BINARY" ∷ "DECIMAL" ∷ "HEXADECIMAL" ∷ "NUMERAL" ∷ "STRING"
    ∷ "set-logic" ∷ "set-option" ∷ "set-info" ∷ "declare-sort" ∷ "define-sort" ∷ "declare-fun" ∷ "declare-const" ∷ "define-fun" ∷ "define-fun-rec"
    ∷ "define-funs-rec" ∷ "declare-datatype" ∷ "declare-datatypes" ∷ "push" ∷ "pop" ∷ "reset" ∷ "reset-assertions" ∷ "assert" ∷ "check-sat"
    ∷ "check-sat-assuming" ∷ "get-value" ∷ "get-model" ∷ "get-assignment" ∷ "get-assertions" ∷ "get-proof" ∷ "get-unsat-core"
    ∷ "get-unsat-assumptions" ∷ "get-info" ∷ "get-option" ∷ "echo" ∷ "exit" ∷ []

reserved-words : T (every (λ w. in_list (bytes w) reserved_words && not (simple_test (bytes w))) words)
    × T (every (λ w. in_list w (map bytes words)) reserved_words)
unfolding words simple_test reserved_words bytes same
reserved-words = (tt, tt)

-- ---------------------------------------------------------------- texts

-- a text cut into its tokens, and tokens that it does not hold
record Text : Type 0 where
  cut : List Lexeme
  end : List ℕ
  others : List Token

abbrev lexeme : String → Token → String → Lexeme
lexeme w t s = record { space = bytes w; token = t; text = bytes s }

abbrev text : List Lexeme → String → List Token → Text
text xs e ts = record { cut = xs; end = bytes e; others = ts }

texts : List Text
unfolding bytes
texts =
    -- one symbol, or two
    text (lexeme "" (a "ab") "ab" ∷ []) "" (a "a" ∷ a "b" ∷ [])
    ∷ text (lexeme "" (a "a") "a" ∷ lexeme " " (a "b") "b" ∷ []) "" (a "ab" ∷ [])
    ∷ text (lexeme "" (a "a b") "|a b|" ∷ []) "" (a "a" ∷ a "b" ∷ [])
    ∷ text (lexeme "" (a "a") "|a|" ∷ lexeme "\n" (a "b") "|b|" ∷ []) "" (a "ab" ∷ [])
    -- a parenthesis needs no white space
    ∷ text (lexeme "" (a "a") "a" ∷ lexeme "" open⁽ "(" ∷ lexeme "" (a "b") "|b|" ∷ lexeme "" close⁾ ")" ∷ []) "" (a "a" ∷ a "b" ∷ [])
    -- numerals and symbols
    ∷ text (lexeme "" (numeral 12) "12" ∷ []) "" (a "12" ∷ [])
    ∷ text (lexeme "" (numeral 12) "12" ∷ []) "" (numeral 1 ∷ numeral 2 ∷ [])
    ∷ text (lexeme "" (numeral 1) "1" ∷ lexeme " " (a "a") "a" ∷ []) "" (numeral 1 ∷ [])
    ∷ text (lexeme "" (binary (bytes "01")) "#b01" ∷ []) "" (binary (bytes "1") ∷ [])
    -- reserved words
    ∷ text (lexeme "" (reserved (bytes "let")) "let" ∷ []) "" (a "let" ∷ [])
    ∷ text (lexeme "" (a "let") "|let|" ∷ []) "" (reserved (bytes "let") ∷ [])
    ∷ text (lexeme "" (a "assert") "|assert|" ∷ []) "" (reserved (bytes "assert") ∷ [])
    -- comments, around tokens and at the end
    ∷ text (lexeme ";b\n" (a "a") "a" ∷ []) ";c\r" (a "b" ∷ a "a" ∷ [])
    ∷ text (lexeme "" (a "a;b") "|a;b|" ∷ []) "" (a "a" ∷ [])
    ∷ text [] " ;(\n" (open⁽ ∷ [])
    ∷ []
  where
    a : String → Token
    a s = symbol (bytes s)

abbrev AllHold : List Text → Type 0
AllHold [] = Unit
AllHold (x ∷ xs) = Lex (text_of x.cut x.end) (tokens_of x.cut) × (Lex (text_of x.cut x.end) x.others → ⊥) × AllHold xs

only_as_cut : Text → Bool
unfolding holds same_tokens
only_as_cut x = holds x.cut x.end && not (same_tokens (tokens_of x.cut) x.others)

all_hold : (xs : List Text) → T (every only_as_cut xs) → AllHold xs
unfolding only_as_cut
all_hold [] h = tt
all_hold (x ∷ xs) h =
    let k = and_0 (only_as_cut x) (every only_as_cut xs) h in
    let b = text_of x.cut x.end in
    let l : Lex b (tokens_of x.cut) = lex-by-test x.cut x.end (and_0 (holds x.cut x.end) _ k) in (
      l,
      (λ m. T_not (same_tokens (tokens_of x.cut) x.others) (and-1 (holds x.cut x.end) _ k)
          (subst (λ (ts : List Token). T (same_tokens (tokens_of x.cut) ts)) (lex-unique b (tokens_of x.cut) x.others l m) (same-tokens (tokens_of x.cut)))),
      all_hold xs (and-1 (only_as_cut x) (every only_as_cut xs) h),
    )

texts-hold : AllHold texts
unfolding texts only_as_cut
texts-hold = all_hold texts tt
