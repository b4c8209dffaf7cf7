-- Tests by which what a token is spelled by, and which tokens a text holds, are computed.
use Rattle.std.specs.Prelude.{ℕ, zero, suc, ◌≡◌, refl, List, [], ◌∷◌, ◌++◌, map, Bool, true, false, ◌&&◌, ◌||◌, not, cond, T, eqb, length, take, drop}
use Rattle.std.proofs.Common.{subst, inl, inr, eqb→eq}
use Rattle.std.proofs.Math.Dec.{eqb_refl}
use Rattle.lists.specs.Bytes.{bytes}
use Rattle.lists.specs.Tests.{All, every, same, in_list, and_T, and_0, and-1, or_l, or_r, or_elim, by-test, same→eq, same_refl}
use Rattle.smtlib.specs.Lexicon.{
  blank,
  digit,
  symbol_byte,
  quotable,
  binary_digit,
  white,
  white_first,
  Token,
  open⁽,
  close⁾,
  reserved,
  numeral,
  binary,
  symbol,
  reserved_words,
  Begins,
  value_from,
  NoLeadingZero,
  Numeral,
  Simple,
  Binary,
  Spells,
  word,
  first_of_word,
  Lex,
}
use Rattle.smtlib.specs.Deciding.{all→every}
use Rattle.smtlib.specs.LexText.{simple_test}
use Rattle.smtlib.proofs.LexText.{simple-by-test}

-- ---------------------------------------------------------------- the spelling of a token

unfoldable pub begins : (ℕ → Bool) → List ℕ → Bool
begins p [] = false
begins p (c ∷ s) = p c

no_leading_zero : List ℕ → Bool
no_leading_zero [] = false
no_leading_zero (c ∷ []) = true
no_leading_zero (c ∷ d ∷ s) = not (eqb c 48)

is_numeral : ℕ → List ℕ → Bool
is_numeral n s = every digit s && (no_leading_zero s && eqb (value_from 0 s) n)

is_binary : List ℕ → Bool
is_binary ds = begins binary_digit ds && every binary_digit ds

-- do these bytes spell the token
unfoldable pub spelled : Token → List ℕ → Bool
unfolding begins no_leading_zero is_numeral is_binary simple_test value_from reserved_words bytes same
spelled open⁽ s = same s (bytes "(")
spelled close⁾ s = same s (bytes ")")
spelled (reserved w) s = in_list w reserved_words && same s w
spelled (numeral n) s = is_numeral n s
spelled (binary ds) s = is_binary ds && same s (bytes "#b" ++ ds)
spelled (symbol n) s = (simple_test n && same s n) || (every quotable n && same s (bytes "|" ++ (n ++ bytes "|")))

-- ---------------------------------------------------------------- the test decides

eq→same : (s t : List ℕ) → s ≡ t → T (same s t)
eq→same s t e = subst (λ (x : List ℕ). T (same s x)) e (same_refl s)

begins-by-test : (p : ℕ → Bool) (s : List ℕ) → T (begins p s) → Begins p s
unfolding begins
begins-by-test p [] h = h
begins-by-test p (c ∷ s) h = h

begins→test : (p : ℕ → Bool) (s : List ℕ) → Begins p s → T (begins p s)
unfolding begins
begins→test p [] h = h
begins→test p (c ∷ s) h = h

leading-by-test : (s : List ℕ) → T (no_leading_zero s) → NoLeadingZero s
unfolding no_leading_zero
leading-by-test [] h = h
leading-by-test (c ∷ []) h = tt
leading-by-test (c ∷ d ∷ s) h = h

leading→test : (s : List ℕ) → NoLeadingZero s → T (no_leading_zero s)
unfolding no_leading_zero
leading→test [] h = h
leading→test (c ∷ []) h = tt
leading→test (c ∷ d ∷ s) h = h

numeral-by-test : (n : ℕ) (s : List ℕ) → T (is_numeral n s) → Numeral n s
unfolding is_numeral
numeral-by-test n s h =
    let k = and-1 (every digit s) (no_leading_zero s && eqb (value_from 0 s) n) h in
    record {
      digits = by-test digit s (and_0 (every digit s) _ h);
      leading = leading-by-test s (and_0 (no_leading_zero s) _ k);
      value = eqb→eq (value_from 0 s) n (and-1 (no_leading_zero s) _ k);
    }

numeral→test : (n : ℕ) (s : List ℕ) → Numeral n s → T (is_numeral n s)
unfolding is_numeral
numeral→test n s h =
    and_T (every digit s) _ (all→every digit s h.digits)
    (and_T (no_leading_zero s) _ (leading→test s h.leading) (subst (λ (x : ℕ). T (eqb (value_from 0 s) x)) h.value (eqb_refl (value_from 0 s))))

binary-by-test : (ds : List ℕ) → T (is_binary ds) → Binary ds
unfolding is_binary
binary-by-test ds h =
    record {
      first = begins-by-test binary_digit ds (and_0 (begins binary_digit ds) _ h);
      digits = by-test binary_digit ds (and-1 (begins binary_digit ds) _ h);
    }

binary→test : (ds : List ℕ) → Binary ds → T (is_binary ds)
unfolding is_binary
binary→test ds h = and_T (begins binary_digit ds) _ (begins→test binary_digit ds h.first) (all→every binary_digit ds h.digits)

simple→test : (n : List ℕ) → Simple n → T (simple_test n)
unfolding simple_test
simple→test [] h = h.first
simple→test (c ∷ n) h =
    and_T (not (digit c)) _ h.first (and_T (every symbol_byte (c ∷ n)) _ (all→every symbol_byte (c ∷ n) h.bytes_ok) h.apart)

pub spells-by-test : (t : Token) (s : List ℕ) → T (spelled t s) → Spells t s
unfolding spelled
spells-by-test open⁽ s h = same→eq s (bytes "(") h
spells-by-test close⁾ s h = same→eq s (bytes ")") h
spells-by-test (reserved w) s h = (and_0 (in_list w reserved_words) (same s w) h, same→eq s w (and-1 (in_list w reserved_words) (same s w) h))
spells-by-test (numeral n) s h = numeral-by-test n s h
spells-by-test (binary ds) s h = (binary-by-test ds (and_0 (is_binary ds) _ h), same→eq s (bytes "#b" ++ ds) (and-1 (is_binary ds) _ h))
spells-by-test (symbol n) s h =
    let q = bytes "|" ++ (n ++ bytes "|") in
    or_elim (simple_test n && same s n) (every quotable n && same s q) h
    (λ k. inl (simple-by-test n (and_0 (simple_test n) _ k), same→eq s n (and-1 (simple_test n) _ k)))
    (λ k. inr (by-test quotable n (and_0 (every quotable n) _ k), same→eq s q (and-1 (every quotable n) _ k)))

pub spells→test : (t : Token) (s : List ℕ) → Spells t s → T (spelled t s)
unfolding spelled
spells→test open⁽ s h = eq→same s (bytes "(") h
spells→test close⁾ s h = eq→same s (bytes ")") h
spells→test (reserved w) s h = and_T (in_list w reserved_words) (same s w) h.0 (eq→same s w h.1)
spells→test (numeral n) s h = numeral→test n s h
spells→test (binary ds) s h = and_T (is_binary ds) _ (binary→test ds h.0) (eq→same s (bytes "#b" ++ ds) h.1)
spells→test (symbol n) s (inl h) = or_l (simple_test n && same s n) _ (and_T (simple_test n) _ (simple→test n h.0) (eq→same s n h.1))
spells→test (symbol n) s (inr h) =
    let q = bytes "|" ++ (n ++ bytes "|") in
    or_r (simple_test n && same s n) (every quotable n && same s q) (and_T (every quotable n) _ (all→every quotable n h.0) (eq→same s q h.1))

-- ---------------------------------------------------------------- bytes that spell a token

-- bytes that may stand between bars, and the closing bar
closes : List ℕ → Bool
closes [] = false
closes (c ∷ []) = eqb c 124
closes (c ∷ d ∷ s) = quotable c && closes (d ∷ s)

is_quoted : List ℕ → Bool
is_quoted [] = false
is_quoted (c ∷ s) = eqb c 124 && closes s

-- do these bytes spell any token
unfoldable pub spelling : List ℕ → Bool
unfolding begins no_leading_zero is_binary simple_test closes is_quoted reserved_words bytes same
spelling s =
    same s (bytes "(")
    || (same s (bytes ")")
    || (in_list s reserved_words
    || ((every digit s && no_leading_zero s)
    || ((same (take 2 s) (bytes "#b") && is_binary (drop 2 s))
    || (simple_test s || is_quoted s)))))

closes-quoted : (n : List ℕ) → All quotable n → T (closes (n ++ (124 ∷ [])))
unfolding closes
closes-quoted [] h = tt
closes-quoted (c ∷ []) h = and_T (quotable c) true h.0 tt
closes-quoted (c ∷ d ∷ n) h = and_T (quotable c) _ h.0 (closes-quoted (d ∷ n) h.1)

pub spells-some : (t : Token) (s : List ℕ) → Spells t s → T (spelling s)
unfolding spelling
spells-some open⁽ s h = rw h tt
spells-some close⁾ s h = rw h tt
spells-some (reserved w) s h = or_r (same s (bytes "(")) _ (or_r (same s (bytes ")")) _ (or_l (in_list s reserved_words) _ (rw h.1 h.0)))
spells-some (numeral n) s h =
    or_r (same s (bytes "(")) _
    (or_r (same s (bytes ")")) _
    (or_r (in_list s reserved_words) _
    (or_l (every digit s && no_leading_zero s) _ (and_T (every digit s) _ (all→every digit s h.digits) (leading→test s h.leading)))))
spells-some (binary ds) s h = rw h.1 (or_l (is_binary ds) _ (binary→test ds h.0))
spells-some (symbol n) s (inl h) =
    rw h.1
    (or_r (same n (bytes "(")) _
    (or_r (same n (bytes ")")) _
    (or_r (in_list n reserved_words) _
    (or_r (every digit n && no_leading_zero n) _
    (or_r (same (take 2 n) (bytes "#b") && is_binary (drop 2 n)) _ (or_l (simple_test n) _ (simple→test n h.0)))))))
spells-some (symbol n) s (inr h) = rw h.1 (closes-quoted n h.0)

-- ---------------------------------------------------------------- a text cut into tokens

-- white space, and the token behind it with the bytes that spell it
pub record Lexeme : Type 0 where
  pub space : List ℕ
  pub token : Token
  pub text : List ℕ

abbrev pub tokens_of : List Lexeme → List Token
tokens_of xs = map (λ x. x.token) xs

-- the text, with white space at its end
abbrev pub text_of : List Lexeme → List ℕ → List ℕ
text_of [] e = e
text_of (x ∷ xs) e = x.space ++ (x.text ++ text_of xs e)

unfoldable pub holds : List Lexeme → List ℕ → Bool
unfolding spelled begins white
holds [] e = white e
holds (x ∷ xs) e =
    white x.space
    && (spelled x.token x.text
    && ((not (word x.token && first_of_word (tokens_of xs)) || begins white_first (text_of xs e)) && holds xs e))

pub lex-by-test : (xs : List Lexeme) (e : List ℕ) → T (holds xs e) → Lex (text_of xs e) (tokens_of xs)
unfolding Lex holds
lex-by-test [] e h = h
lex-by-test (x ∷ xs) e h =
    let owed : Bool = not (word x.token && first_of_word (tokens_of xs)) || begins white_first (text_of xs e) in
    let h₁ = and-1 (white x.space) (spelled x.token x.text && (owed && holds xs e)) h in
    let h₂ = and-1 (spelled x.token x.text) (owed && holds xs e) h₁ in (
      x.space,
      x.text,
      text_of xs e,
      refl,
      and_0 (white x.space) _ h,
      spells-by-test x.token x.text (and_0 (spelled x.token x.text) _ h₁),
      (λ q. begins-by-test white_first (text_of xs e) (owes (word x.token && first_of_word (tokens_of xs)) (begins white_first (text_of xs e)) (and_0 owed _ h₂) q)),
      lex-by-test xs e (and-1 owed _ h₂),
    )
  where
    owes : (a b : Bool) → T (not a || b) → T a → T b
    owes true b h k = h
    owes false b h k = absurd k

-- ---------------------------------------------------------------- a text that is cut by computing

-- the first stretch of bytes that pass the test, and the rest
stretch : (ℕ → Bool) → List ℕ → List ℕ
stretch p [] = []
stretch p (c ∷ s) = cond (p c) (c ∷ stretch p s) []

after : (ℕ → Bool) → List ℕ → List ℕ
after p [] = []
after p (c ∷ s) = cond (p c) (after p s) (c ∷ s)

word_byte : ℕ → Bool
word_byte c = symbol_byte c || eqb c 35

not_bar : ℕ → Bool
not_bar c = not (eqb c 124)

-- the token that a word without bars spells, if it spells any
word_token : List ℕ → Token
word_token s =
    cond (begins digit s) (numeral (value_from 0 s)) (cond (begins (eqb 35) s) (binary (drop 2 s)) (cond (in_list s reserved_words) (reserved s) (symbol s)))

-- the token that c begins, behind the white space w, and what is made of the rest
cut_at : List ℕ → (List ℕ → List Lexeme) → ℕ → List ℕ → List Lexeme
cut_at w later c s =
    cond (eqb c 40) (lexeme open⁽ (c ∷ []) ∷ later s)
    (cond (eqb c 41) (lexeme close⁾ (c ∷ []) ∷ later s)
    (cond (eqb c 124) (lexeme (symbol (stretch not_bar s)) (124 ∷ (stretch not_bar s ++ (124 ∷ []))) ∷ later (drop 1 (after not_bar s)))
    (lexeme (word_token (stretch word_byte (c ∷ s))) (stretch word_byte (c ∷ s)) ∷ later (after word_byte (c ∷ s)))))
  where
    lexeme : Token → List ℕ → Lexeme
    lexeme t s = record { space = w; token = t; text = s }

-- n tokens at most, with blanks before them and none behind; `lexable` says whether the cut is right
cut_by : ℕ → List ℕ → List Lexeme
cut_by zero b = []
cut_by (suc n) b = elim (after blank b) [ [] ↦ [] | c ∷ s ↦ cut_at (stretch blank b) (cut_by n) c s ]

cut_up : List ℕ → List Lexeme
cut_up b = cut_by (length b) b

-- the tokens of a text
unfoldable pub lexemes : List ℕ → List Token
unfolding begins stretch after word_byte not_bar word_token cut_at cut_by cut_up value_from symbol_byte reserved_words bytes same
lexemes b = tokens_of (cut_up b)

unfoldable pub lexable : List ℕ → Bool
unfolding lexemes holds
lexable b = holds (cut_up b) [] && same (text_of (cut_up b) []) b

pub lex-text : (b : List ℕ) → T (lexable b) → Lex b (lexemes b)
unfolding lexable
lex-text b h =
    subst (λ (c : List ℕ). Lex c (lexemes b)) (same→eq (text_of (cut_up b) []) b (and-1 (holds (cut_up b) []) _ h)) (lex-by-test (cut_up b) [] (and_0 (holds (cut_up b) []) _ h))

-- ---------------------------------------------------------------- equal tokens

-- a token as its kind and what it has
kind : Token → ℕ
kind open⁽ = 0
kind close⁾ = 1
kind (reserved w) = 2
kind (numeral n) = 3
kind (binary ds) = 4
kind (symbol n) = 5

content : Token → List ℕ
content open⁽ = []
content close⁾ = []
content (reserved w) = w
content (numeral n) = n ∷ []
content (binary ds) = ds
content (symbol n) = n

unfoldable pub is_number : Token → Bool
unfolding kind
is_number t = eqb (kind t) 3

unfoldable pub is_constant : Token → Bool
unfolding kind
is_constant t = eqb (kind t) 4

unfoldable pub is_symbol : Token → Bool
unfolding kind
is_symbol t = eqb (kind t) 5

unfoldable pub same_token : Token → Token → Bool
unfolding kind content same
same_token t u = eqb (kind t) (kind u) && same (content t) (content u)

unfoldable pub same_tokens : List Token → List Token → Bool
unfolding same_token
same_tokens [] [] = true
same_tokens [] (u ∷ us) = false
same_tokens (t ∷ ts) [] = false
same_tokens (t ∷ ts) (u ∷ us) = same_token t u && same_tokens ts us

pub same-tokens : (ts : List Token) → T (same_tokens ts ts)
unfolding same_tokens
same-tokens [] = tt
same-tokens (t ∷ ts) = and_T (same_token t t) (same_tokens ts ts) (and_T (eqb (kind t) (kind t)) _ (eqb_refl (kind t)) (same_refl (content t))) (same-tokens ts)
