-- Laws by which bytes are shown to hold tokens, from the last token to the first.
use Rattle.std.specs.Prelude.{ℕ, ◌≡◌, refl, List, [], ◌∷◌, ◌++◌, Bool, true, false, ◌&&◌, not, T, eqb, drop}
use Rattle.std.proofs.Common.{ap, sym, subst, append_assoc, inl, inr, T_not}
use Rattle.lists.specs.Bytes.{bytes}
use Rattle.lists.specs.Tests.{All, every, same, in_list, and_T, and_0, and-1, or_r, not→false, by-test, apart_by, all_right}
use Rattle.smtlib.specs.Lexicon.{blank, line_break, semicolon, digit, symbol_byte, quotable, binary_digit, white, comment, white_first, Token, open⁽, close⁾, reserved, numeral, binary, symbol, Begins, Numeral, reserved_words, Simple, Binary, Spells, word, first_of_word, Lex}

-- what may stand behind a word
abbrev pub Next : List ℕ → List Token → Type 0
Next r us = Lex r us × (T (first_of_word us) → Begins white_first r)

-- a parenthesis and the end may always
pub lex-next : (r : List ℕ) (us : List Token) → T (not (first_of_word us)) → Lex r us → Next r us
lex-next r us h l = (l, λ q. absurd (T_not (first_of_word us) h q))

-- ---------------------------------------------------------------- white space

in-branch : (b p q p' q' : Bool) → T (elim b as (λ x. Bool) [ true ↦ p | false ↦ q ]) → (T p → T p') → (T q → T q')
    → T (elim b as (λ x. Bool) [ true ↦ p' | false ↦ q' ])
in-branch true p q p' q' h f g = f h
in-branch false p q p' q' h f g = g h

mutual
  unfolding white

  white-append : (w v : List ℕ) → T (white w) → T (white v) → T (white (w ++ v))
  white-append [] v h k = k
  white-append (c ∷ w) v h k =
      in-branch (semicolon c) (comment w) (blank c && white w) (comment (w ++ v)) (blank c && white (w ++ v)) h (λ p. comment-append w v p k)
      (λ p. and_T (blank c) (white (w ++ v)) (and_0 (blank c) (white w) p) (white-append w v (and-1 (blank c) (white w) p) k))

  comment-append : (w v : List ℕ) → T (comment w) → T (white v) → T (comment (w ++ v))
  comment-append [] v h k = absurd h
  comment-append (c ∷ w) v h k =
      in-branch (line_break c) (white w) (comment w) (white (w ++ v)) (comment (w ++ v)) h (λ p. white-append w v p k) (λ p. comment-append w v p k)

blank-white : (c : ℕ) → T (blank c) → T (white (c ∷ []))
unfolding white
blank-white c h = rw (not→false (semicolon c) (apart_by blank 59 tt c h), white) (and_T (blank c) true h tt)

begins-append : (p : ℕ → Bool) (s r : List ℕ) → Begins p s → Begins p (s ++ r)
begins-append p [] r h = absurd h
begins-append p (c ∷ s) r h = h

-- blanks and comments, one or more
pub put-whites : (w r : List ℕ) (us : List Token) → T (white w) → Begins white_first w → Lex r us → Next (w ++ r) us
unfolding Lex
put-whites w r [] h f l = (white-append w r h l, λ q. absurd q)
put-whites w r (u ∷ us) h f l =
    let cut : w ++ r ≡ (w ++ l.0) ++ (l.1 ++ l.2) = rw append_assoc (ap (λ (z : List ℕ). w ++ z) l.3) in
    ((w ++ l.0, l.1, l.2, cut, white-append w l.0 h l.4, l.5, l.6, l.7), λ q. begins-append white_first w r f)

pub put-white : (c : ℕ) (r : List ℕ) (us : List Token) → T (blank c) → Lex r us → Next (c ∷ r) us
put-white c r us h l = put-whites (c ∷ []) r us (blank-white c h) (or_r (semicolon c) (blank c) h) l

pub put-space : (r : List ℕ) (us : List Token) → Lex r us → Next (32 ∷ r) us
put-space r us l = put-white 32 r us tt l

pub put-line-feed : (r : List ℕ) (us : List Token) → Lex r us → Next (10 ∷ r) us
put-line-feed r us l = put-white 10 r us tt l

-- ---------------------------------------------------------------- tokens

pub put-end : Next [] []
unfolding Lex white
put-end = lex-next [] [] tt tt

put-token : (t : Token) (s r : List ℕ) (us : List Token) → Spells t s → (T (word t && first_of_word us) → Begins white_first r) → Lex r us
    → Lex (s ++ r) (t ∷ us)
unfolding Lex white
put-token t s r us h owed l = ([], s, r, refl, tt, h, owed, l)

pub put_word : (t : Token) (s r : List ℕ) (us : List Token) → Spells t s → Next r us → Lex (s ++ r) (t ∷ us)
put_word t s r us h k = put-token t s r us h (λ q. k.1 (and-1 (word t) (first_of_word us) q)) k.0

pub put-open : (r : List ℕ) (us : List Token) → Lex r us → Lex (40 ∷ r) (open⁽ ∷ us)
unfolding bytes
put-open r us l = put-token open⁽ (40 ∷ []) r us refl (λ q. absurd q) l

pub put-close : (r : List ℕ) (us : List Token) → Lex r us → Next (41 ∷ r) (close⁾ ∷ us)
unfolding bytes
put-close r us l = lex-next (41 ∷ r) (close⁾ ∷ us) tt (put-token close⁾ (41 ∷ []) r us refl (λ q. absurd q) l)

pub put-reserved : (w r : List ℕ) (us : List Token) → T (in_list w reserved_words) → Next r us → Lex (w ++ r) (reserved w ∷ us)
put-reserved w r us h k = put_word (reserved w) w r us (h, refl) k

pub put-underscore : (r : List ℕ) (us : List Token) → Next r us → Lex (95 ∷ r) (reserved (bytes "_") ∷ us)
unfolding reserved_words bytes same
put-underscore r us k = put-reserved (bytes "_") r us tt k

pub put-let : (r : List ℕ) (us : List Token) → Next r us → Lex (bytes "let" ++ r) (reserved (bytes "let") ∷ us)
unfolding reserved_words bytes same
put-let r us k = put-reserved (bytes "let") r us tt k

pub put-numeral : (n : ℕ) (s r : List ℕ) (us : List Token) → Numeral n s → Next r us → Lex (s ++ r) (numeral n ∷ us)
put-numeral n s r us h k = put_word (numeral n) s r us h k

pub put-binary : (ds r : List ℕ) (us : List Token) → Binary ds → Next r us → Lex (bytes "#b" ++ (ds ++ r)) (binary ds ∷ us)
unfolding bytes
put-binary ds r us h k = put_word (binary ds) (bytes "#b" ++ ds) r us (h, refl) k

pub put-quoted : (n r : List ℕ) (us : List Token) → All quotable n → Next r us → Lex ((124 ∷ (n ++ (124 ∷ []))) ++ r) (symbol n ∷ us)
unfolding bytes
put-quoted n r us h k = put_word (symbol n) (124 ∷ (n ++ (124 ∷ []))) r us (inr (h, refl)) k

-- ---------------------------------------------------------------- a simple symbol that is written out

unfoldable pub simple_test : List ℕ → Bool
unfolding reserved_words bytes same
simple_test [] = false
simple_test (c ∷ s) = not (digit c) && (every symbol_byte (c ∷ s) && not (in_list (c ∷ s) reserved_words))

-- ---------------------------------------------------------------- examples of bytes that hold none

abbrev dark : ℕ → Bool
dark c = not (white_first c)

no-words-side-by-side : (b : List ℕ) (t u : Token) (us : List Token) → All dark b → T (word t && word u) → Lex b (t ∷ u ∷ us) → ⊥
unfolding Lex
no-words-side-by-side b t u us h k l =
    let from_first : All dark (l.1 ++ l.2) = all_right dark l.0 (l.1 ++ l.2) (subst (All dark) l.3 h) in
    no-white l.2 (all_right dark l.1 l.2 from_first) (l.6 k)
  where
    no-white : (r : List ℕ) → All dark r → Begins white_first r → ⊥
    no-white [] h k = k
    no-white (c ∷ r) h k = T_not (white_first c) h.0 k

no-numeral-then-symbol : Lex (bytes "12a") (numeral 12 ∷ symbol (bytes "a") ∷ []) → ⊥
unfolding bytes
no-numeral-then-symbol l = no-words-side-by-side (bytes "12a") (numeral 12) (symbol (bytes "a")) [] (by-test dark (bytes "12a") tt) tt l

no-simple-from-digit : (c : ℕ) (n : List ℕ) → T (digit c) → Simple (c ∷ n) → ⊥
no-simple-from-digit c n d h = T_not (digit c) h.first d

no-leading-zero : (n : ℕ) → Numeral n (bytes "012") → ⊥
unfolding bytes
no-leading-zero n h = h.leading

no-binary-without-digits : (t : Token) → Spells t (bytes "#b") → ⊥
unfolding reserved_words bytes same
no-binary-without-digits open⁽ h = subst (Begins (eqb 35)) h tt
no-binary-without-digits close⁾ h = subst (Begins (eqb 35)) h tt
no-binary-without-digits (reserved w) h = rw (← h.1) at h.0
no-binary-without-digits (numeral n) h = h.digits.0
no-binary-without-digits (binary ds) h = subst (Begins binary_digit) (sym (ap (drop 2) h.1)) h.0.first
no-binary-without-digits (symbol n) (inl h) = (subst (All symbol_byte) (sym h.1) h.0.bytes_ok).0
no-binary-without-digits (symbol n) (inr h) = subst (Begins (eqb 35)) h.1 tt

no-comment-without-end : T (white (bytes "; a")) → ⊥
unfolding white bytes
no-comment-without-end h = h

no-bar-in-bars : All quotable (bytes "a|b") → ⊥
unfolding bytes
no-bar-in-bars h = h.1.0
