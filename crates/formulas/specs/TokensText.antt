-- Laws by which bytes are shown to hold tokens, from the last token to the first.
use Rattle.std.specs.Prelude.{ℕ, ◌≡◌, refl, Bool, true, false, ◌&&◌, ◌||◌, not, T, eqb, drop}
use Rattle.std.proofs.Common.{ap, sym, ◌∙◌, subst, inl, inr, T_not}
use mathlib.Core.List.{List, [], ◌∷◌, ◌++◌, append_assoc, append-nil, head-eq_of_cons-eq, tail-eq_of_cons-eq}
use Rattle.std.proofs.Math.Dec.{not_T}
use Rattle.lists.specs.Bytes.{bytes}
use Rattle.lists.specs.Tests.{All, same, among, in_list, every, and_T, and_0, and-1, or_l, or_r, or_elim, all_right, all-weaken, by-test, every_in, apart_by, T→true}
use Rattle.smtlib.specs.Lexicon.{digit, letter, binary_digit, value_from, Numeral, Binary}
use Rattle.formulas.specs.Tokens.{name_byte, Token, open⁽, close⁾, comma, numeral, binary, name, word, word_byte, is_word, signs, Spells, blank, Longest, Lex}
use Rattle.formulas.specs.TokensUnique.{all_but_last, digit-first, token_of, begins_word, word_first, spelled-token, Ends, stretch-unique, first_of_word}

-- ---------------------------------------------------------------- the longest token

-- nothing passes a test in which the bytes end
none_more : (c : ℕ → Bool) (r p q : List ℕ) → Ends c r → r ≡ p ++ q → All c p → p ≡ []
none_more c r [] q h e k = refl
none_more c r (x ∷ p) q h e k = absurd (T_not (c x) (subst (Ends c) e h) k.0)

-- the token of bytes, put for a token that they spell
respelled : (t u : Token) (s : List ℕ) → token_of s ≡ u → Spells t s → Spells u s
respelled t u s e h = subst (λ (x : Token). Spells x s) (spelled-token t s h ∙ e) h

longest-open : (r : List ℕ) → Longest (40 ∷ []) r
unfolding bytes token_of
longest-open r p q t e h = tail-eq_of_cons-eq (respelled t open⁽ (40 ∷ p) refl h)

longest-close : (r : List ℕ) → Longest (41 ∷ []) r
unfolding bytes token_of
longest-close r p q t e h = tail-eq_of_cons-eq (respelled t close⁾ (41 ∷ p) refl h)

longest-comma : (r : List ℕ) → Longest (44 ∷ []) r
unfolding bytes token_of
longest-comma r p q t e h = tail-eq_of_cons-eq (respelled t comma (44 ∷ p) refl h)

no_bar : ℕ → Bool
no_bar c = not (eqb c 124)

name-cut : (n m p : List ℕ) → All name_byte n → All name_byte m → (124 ∷ (n ++ (124 ∷ []))) ++ p ≡ 124 ∷ (m ++ (124 ∷ [])) → p ≡ []
unfolding no_bar
name-cut n m p a b e =
    let weak : (s : List ℕ) → All name_byte s → All no_bar s = λ s h. all-weaken name_byte no_bar (apart_by name_byte 124 tt) s h in
    let f : n ++ (124 ∷ p) ≡ m ++ (124 ∷ []) = sym (append_assoc n (124 ∷ []) p) ∙ tail-eq_of_cons-eq e in
    tail-eq_of_cons-eq (stretch-unique no_bar n m (124 ∷ p) (124 ∷ []) (weak n a) (weak m b) tt tt f).1

longest-name : (n r : List ℕ) → All name_byte n → Longest (124 ∷ (n ++ (124 ∷ []))) r
unfolding bytes token_of
longest-name n r a p q t e h =
    let m : List ℕ = all_but_last ((n ++ (124 ∷ [])) ++ p) in
    let s = respelled t (name m) (124 ∷ ((n ++ (124 ∷ [])) ++ p)) refl h in
    name-cut n m p a s.0 s.1

token-of-digits : (c : ℕ) (s : List ℕ) → T (digit c) → token_of (c ∷ s) ≡ numeral (value_from 0 (c ∷ s))
unfolding token_of
token-of-digits c s h = rw (digit-first c h, token_of, T→true (digit c) h)

longest-numeral : (n : ℕ) (s r : List ℕ) → Numeral n s → Ends digit r → Longest s r
longest-numeral n [] r a k p q t e h = absurd a.leading
longest-numeral n (c ∷ s) r a k p q t e h =
    let x = respelled t _ (c ∷ (s ++ p)) (token-of-digits c (s ++ p) a.digits.0) h in
    none_more digit r p q k e (all_right digit (c ∷ s) p x.digits)

longest-binary : (ds r : List ℕ) → Ends binary_digit r → Longest (35 ∷ 98 ∷ ds) r
unfolding bytes token_of
longest-binary ds r k p q t e h =
    let x = respelled t (binary (ds ++ p)) (35 ∷ 98 ∷ (ds ++ p)) refl h in
    none_more binary_digit r p q k e (all_right binary_digit ds p x.0.digits)

token-of-first : (w : List ℕ) → T (begins_word w) → token_of w ≡ word w
unfolding token_of
token-of-first [] h = absurd h
token-of-first (c ∷ s) h = rw (T→true (first_of_word c) h, token_of)

begins-more : (w p : List ℕ) → T (begins_word w) → T (begins_word (w ++ p))
begins-more [] p h = absurd h
begins-more (c ∷ s) p h = h

-- a longer word, or a longer sign
word_more : (w p : List ℕ) (t : Token) → T (begins_word w) → Spells t (w ++ p) → T (is_word (w ++ p) || in_list (w ++ p) signs)
word_more w p t h k = (respelled t (word (w ++ p)) (w ++ p) (token-of-first (w ++ p) (begins-more w p h)) k).0

abbrev no_letter_first : List ℕ → Bool
no_letter_first [] = true
no_letter_first (c ∷ s) = not (letter c)

signs-no-letter : (w : List ℕ) → T (in_list w signs) → T (no_letter_first w)
unfolding signs bytes same
signs-no-letter w h = every_in no_letter_first signs w tt h

every-all : (p : ℕ → Bool) (xs : List ℕ) → T (every p xs) → All p xs
every-all p xs h = by-test p xs h

longest-word : (w r : List ℕ) → T (is_word w) → Ends word_byte r → Longest w r
longest-word [] r a k p q t e h = absurd a
longest-word (c ∷ s) r a k p q t e h =
    let l : T (letter c) = and_0 (letter c) _ a in
    or_elim (is_word (c ∷ (s ++ p))) (in_list (c ∷ (s ++ p)) signs) (word_more (c ∷ s) p t (word_first (c ∷ s) (or_l (is_word (c ∷ s)) _ a)) h)
    (λ x. none_more word_byte r p q k e (all_right word_byte s p (by-test word_byte (s ++ p) (and-1 (letter c) _ x))))
    (λ x. absurd (T_not (letter c) (signs-no-letter (c ∷ (s ++ p)) x) l))

-- what a sign of two bytes ends with
abbrev pub sign_last : ℕ → Bool
sign_last c = among (60 ∷ 61 ∷ 62 ∷ []) c

abbrev short_sign : List ℕ → Bool
short_sign [] = false
short_sign (c ∷ []) = true
short_sign (c ∷ d ∷ []) = sign_last d
short_sign (c ∷ d ∷ e ∷ s) = false

signs-short : (w : List ℕ) → T (in_list w signs) → T (short_sign w)
unfolding signs bytes same
signs-short w h = every_in short_sign signs w tt h

-- two signs of which one begins the other
sign-more : (w p : List ℕ) → T (short_sign w) → T (short_sign (w ++ p)) → All sign_last p
sign-more [] p h k = absurd h
sign-more (c ∷ []) [] h k = tt
sign-more (c ∷ []) (d ∷ []) h k = (k, tt)
sign-more (c ∷ []) (d ∷ e ∷ p) h k = absurd k
sign-more (c ∷ d ∷ []) [] h k = tt
sign-more (c ∷ d ∷ []) (e ∷ p) h k = absurd k
sign-more (c ∷ d ∷ e ∷ w) p h k = absurd h

longest-sign : (w r : List ℕ) → T (in_list w signs) → Ends sign_last r → Longest w r
longest-sign [] r a k p q t e h = absurd (signs-short [] a)
longest-sign (c ∷ s) r a k p q t e h =
    or_elim (is_word (c ∷ (s ++ p))) (in_list (c ∷ (s ++ p)) signs) (word_more (c ∷ s) p t (word_first (c ∷ s) (or_r (is_word (c ∷ s)) _ a)) h)
    (λ x. absurd (T_not (letter c) (signs-no-letter (c ∷ s) a) (and_0 (letter c) _ x)))
    (λ x. none_more sign_last r p q k e (sign-more (c ∷ s) p (signs-short (c ∷ s) a) (signs-short (c ∷ (s ++ p)) x)))

-- ---------------------------------------------------------------- tokens before bytes that hold tokens

put : (t : Token) (s r : List ℕ) (us : List Token) → Spells t s → Longest s r → Lex r us → Lex (s ++ r) (t ∷ us)
unfolding Lex
put t s r us h k l = ([], s, r, refl, tt, h, k, l)

pub put-end : Lex [] []
unfolding Lex
put-end = tt

pub put-blank : (r : List ℕ) (us : List Token) → Lex r us → Lex (32 ∷ r) us
unfolding Lex
put-blank r [] l = (tt, l)
put-blank r (u ∷ us) l = (32 ∷ l.0, l.1, l.2, ap (λ (x : List ℕ). 32 ∷ x) l.3, (tt, l.4), l.5, l.6, l.7)

pub put-open : (r : List ℕ) (us : List Token) → Lex r us → Lex (40 ∷ r) (open⁽ ∷ us)
unfolding bytes
put-open r us l = put open⁽ (40 ∷ []) r us refl (longest-open r) l

pub put-close : (r : List ℕ) (us : List Token) → Lex r us → Lex (41 ∷ r) (close⁾ ∷ us)
unfolding bytes
put-close r us l = put close⁾ (41 ∷ []) r us refl (longest-close r) l

pub put-comma : (r : List ℕ) (us : List Token) → Lex r us → Lex (44 ∷ r) (comma ∷ us)
unfolding bytes
put-comma r us l = put comma (44 ∷ []) r us refl (longest-comma r) l

pub put-name : (n r : List ℕ) (us : List Token) → All name_byte n → Lex r us → Lex ((124 ∷ (n ++ (124 ∷ []))) ++ r) (name n ∷ us)
unfolding bytes
put-name n r us h l = put (name n) (124 ∷ (n ++ (124 ∷ []))) r us (h, refl) (longest-name n r h) l

pub put-numeral : (n : ℕ) (s r : List ℕ) (us : List Token) → Numeral n s → Ends digit r → Lex r us → Lex (s ++ r) (numeral n ∷ us)
put-numeral n s r us h k l = put (numeral n) s r us h (longest-numeral n s r h k) l

pub put-binary : (ds r : List ℕ) (us : List Token) → Binary ds → Ends binary_digit r → Lex r us → Lex (35 ∷ 98 ∷ (ds ++ r)) (binary ds ∷ us)
unfolding bytes
put-binary ds r us h k l = put (binary ds) (35 ∷ 98 ∷ ds) r us (h, refl) (longest-binary ds r k) l

pub put_word : (w r : List ℕ) (us : List Token) → T (is_word w) → Ends word_byte r → Lex r us → Lex (w ++ r) (word w ∷ us)
put_word w r us h k l = put (word w) w r us (or_l (is_word w) (in_list w signs) h, refl) (longest-word w r h k) l

pub put-sign : (w r : List ℕ) (us : List Token) → T (in_list w signs) → Ends sign_last r → Lex r us → Lex (w ++ r) (word w ∷ us)
put-sign w r us h k l = put (word w) w r us (or_r (is_word w) (in_list w signs) h, refl) (longest-sign w r h k) l
