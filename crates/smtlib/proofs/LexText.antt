-- Laws by which bytes are shown to hold a simple symbol, and examples of bytes that hold tokens, and no others.
use Rattle.std.specs.Prelude.{ℕ, ◌≡◌, refl, List, [], ◌∷◌, ◌++◌, Bool, ◌&&◌, not, T}
use Rattle.std.proofs.Common.{inl}
use Rattle.lists.specs.Bytes.{bytes}
use Rattle.lists.specs.Tests.{every, in_list, and_0, and-1, by-test}
use Rattle.smtlib.specs.Lexicon.{digit, symbol_byte, quotable, binary_digit, white, Token, open⁽, close⁾, reserved, numeral, binary, symbol, value_from, Numeral, reserved_words, Simple, Binary, Lex}
use Rattle.smtlib.proofs.LexUnique.{lex-unique}
use Rattle.smtlib.specs.LexText.{Next, put-whites, put-space, put-end, put_word, put-open, put-close, put-underscore, put-let, put-numeral, put-binary, put-quoted, simple_test}

-- ---------------------------------------------------------------- a simple symbol that is written out

pub simple-by-test : (s : List ℕ) → T (simple_test s) → Simple s
unfolding simple_test
simple-by-test [] h = absurd h
simple-by-test (c ∷ s) h =
    let taken : Bool = in_list (c ∷ s) reserved_words in
    let k : T (every symbol_byte (c ∷ s) && not taken) = and-1 (not (digit c)) _ h in
    record {
      first = and_0 (not (digit c)) _ h;
      bytes_ok = by-test symbol_byte (c ∷ s) (and_0 (every symbol_byte (c ∷ s)) (not taken) k);
      apart = and-1 (every symbol_byte (c ∷ s)) (not taken) k;
    }

pub put-simple : (w r : List ℕ) (us : List Token) → T (simple_test w) → Next r us → Lex (w ++ r) (symbol w ∷ us)
put-simple w r us h k = put_word (symbol w) w r us (inl (simple-by-test w h, refl)) k

-- ---------------------------------------------------------------- examples of bytes that hold tokens

-- these tokens and no others
abbrev Exactly : List ℕ → List Token → Type 0
Exactly b ts = Lex b ts × ((us : List Token) → Lex b us → us ≡ ts)

exactly : (b : List ℕ) (ts : List Token) → Lex b ts → Exactly b ts
exactly b ts l = (l, λ us k. lex-unique b us ts k l)

twelve : Numeral 12 (bytes "12")
unfolding bytes value_from
twelve = record { digits = by-test digit (bytes "12") tt; leading = tt; value = refl }

zero_one : Binary (bytes "01")
unfolding bytes
zero_one = record { first = tt; digits = by-test binary_digit (bytes "01") tt }

every-kind : Exactly (bytes "(_ a |b c| #b01 12)")
    (open⁽ ∷ reserved (bytes "_") ∷ symbol (bytes "a") ∷ symbol (bytes "b c") ∷ binary (bytes "01") ∷ numeral 12 ∷ close⁾ ∷ [])
unfolding bytes simple_test
every-kind =
    let from-close = put-close _ _ put-end.0 in
    let from-numeral = put-space _ _ (put-numeral 12 (bytes "12") _ _ twelve from-close) in
    let from-binary = put-space _ _ (put-binary (bytes "01") _ _ zero_one from-numeral) in
    let from-quoted = put-space _ _ (put-quoted (bytes "b c") _ _ (by-test quotable (bytes "b c") tt) from-binary) in
    exactly _ _ (put-open _ _ (put-underscore _ _ (put-space _ _ (put-simple (bytes "a") _ _ tt from-quoted))))

comment-and-tabs : Exactly (bytes "\ta;(\n\tb\r\n") (symbol (bytes "a") ∷ symbol (bytes "b") ∷ [])
unfolding bytes simple_test white
comment-and-tabs =
    let b = put-simple (bytes "b") _ _ tt (put-whites (bytes "\r\n") _ _ tt tt put-end.0) in
    let a = put-simple (bytes "a") _ _ tt (put-whites (bytes ";(\n\t") _ _ tt tt b) in
    exactly _ _ (put-whites (bytes "\t") _ _ tt tt a).0

semicolon-in-bars : Exactly (bytes "|a;b|") (symbol (bytes "a;b") ∷ [])
unfolding bytes
semicolon-in-bars = exactly _ _ (put-quoted (bytes "a;b") _ _ (by-test quotable (bytes "a;b") tt) put-end)

empty-symbol : Exactly (bytes "||") (symbol [] ∷ [])
unfolding bytes
empty-symbol = exactly _ _ (put-quoted [] _ _ tt put-end)

byte-above-127 : Exactly (124 ∷ 200 ∷ 124 ∷ []) (symbol (200 ∷ []) ∷ [])
byte-above-127 = exactly _ _ (put-quoted (200 ∷ []) _ _ (by-test quotable (200 ∷ []) tt) put-end)

-- bars are no part of a symbol: these are one token
bars-or-none : Exactly (bytes "|a|") (symbol (bytes "a") ∷ []) × Exactly (bytes "a") (symbol (bytes "a") ∷ [])
unfolding bytes simple_test
bars-or-none =
    let quoted = put-quoted (bytes "a") _ _ (by-test quotable (bytes "a") tt) put-end in
    (exactly _ _ quoted, exactly _ _ (put-simple (bytes "a") _ _ tt put-end))

-- but these are two
underscore-in-bars : Exactly (bytes "|_|") (symbol (bytes "_") ∷ []) × Exactly (bytes "_") (reserved (bytes "_") ∷ [])
unfolding bytes
underscore-in-bars =
    let quoted = put-quoted (bytes "_") _ _ (by-test quotable (bytes "_") tt) put-end in
    (exactly _ _ quoted, exactly _ _ (put-underscore _ _ put-end))

let-in-bars : Exactly (bytes "|let|") (symbol (bytes "let") ∷ []) × Exactly (bytes "let") (reserved (bytes "let") ∷ [])
unfolding bytes
let-in-bars =
    let quoted = put-quoted (bytes "let") _ _ (by-test quotable (bytes "let") tt) put-end in
    (exactly _ _ quoted, exactly _ _ (put-let _ _ put-end))
