-- Bytes hold at most one list of tokens.
use Rattle.std.specs.Prelude.{ℕ, ◌≡◌, refl, Bool, true, false, ◌&&◌, ◌||◌, not, T, eqb}
use Rattle.std.proofs.Common.{sym, ◌∙◌, subst, inl, inr, T_not}
use mathlib.Core.List.{List, [], ◌∷◌, ◌++◌, tail, append_assoc, append-nil, head-eq_of_cons-eq, tail-eq_of_cons-eq, nil≢cons}
use Rattle.std.proofs.Math.Dec.{not_T}
use Rattle.lists.specs.Bytes.{bytes}
use Rattle.lists.specs.Tests.{All, in_list, every, and_T, and_0, and-1, or_l, or_r, T→true, not→false, by-test, all-weaken, among-every, apart_by, every_in}
use Rattle.smtlib.specs.Lexicon.{
  blank,
  line_break,
  semicolon,
  digit,
  letter,
  symbol_byte,
  quotable,
  binary_digit,
  white,
  comment,
  white_first,
  Token,
  open⁽,
  close⁾,
  reserved,
  numeral,
  binary,
  symbol,
  Begins,
  value_from,
  reserved_words,
  Simple,
  Spells,
  word,
  first_of_word,
  Lex,
}

-- nothing, or a first byte that fails the test
abbrev Ends : (ℕ → Bool) → List ℕ → Type 0
Ends p [] = Unit
Ends p (c ∷ s) = T (not (p c))

-- ---------------------------------------------------------------- cuts

-- a list has one first stretch of bytes that pass the test
stretch-unique : (p : ℕ → Bool) (s s' r r' : List ℕ) → All p s → All p s' → Ends p r → Ends p r' → s ++ r ≡ s' ++ r' → (s ≡ s') × (r ≡ r')
stretch-unique p [] [] r r' h h' k k' e = (refl, e)
stretch-unique p [] (c ∷ s') r r' h h' k k' e = absurd (T_not (p c) (subst (Ends p) e k) h'.0)
stretch-unique p (c ∷ s) [] r r' h h' k k' e = absurd (T_not (p c) (subst (Ends p) (sym e) k') h.0)
stretch-unique p (c ∷ s) (d ∷ s') r r' h h' k k' e =
    let later = stretch-unique p s s' r r' h.1 h'.1 k k' (tail-eq_of_cons-eq e) in
    let first : c ≡ d = head-eq_of_cons-eq e in
    let same_s : s ≡ s' = later.0 in
    (cc, later.1)

white-first : (c : ℕ) (w : List ℕ) → T (white (c ∷ w)) → T (white_first c)
unfolding white
white-first c w h = by-semicolon (semicolon c) h
  where
    by-semicolon : (b : Bool) → T (elim b as (λ x. Bool) [ true ↦ comment w | false ↦ blank c && white w ]) → T (b || blank c)
    by-semicolon true h = tt
    by-semicolon false h = and_0 (blank c) (white w) h

in_both : {A : Type 0} (b p q p' q' : Bool)
    → T (elim b as (λ x. Bool) [ true ↦ p | false ↦ q ])
    → T (elim b as (λ x. Bool) [ true ↦ p' | false ↦ q' ])
    → (T p → T p' → A) → (T q → T q' → A) → A
in_both true p q p' q' h h' f g = f h h'
in_both false p q p' q' h h' f g = g h h'

-- white space ends at the first byte that can begin none
mutual
  unfolding white

  white-unique : (w w' x x' : List ℕ) → T (white w) → T (white w') → Ends white_first x → Ends white_first x' → w ++ x ≡ w' ++ x' → x ≡ x'
  white-unique [] [] x x' h h' k k' e = e
  white-unique [] (c ∷ w') x x' h h' k k' e = absurd (T_not (white_first c) (subst (Ends white_first) e k) (white-first c w' h'))
  white-unique (c ∷ w) [] x x' h h' k k' e = absurd (T_not (white_first c) (subst (Ends white_first) (sym e) k') (white-first c w h))
  white-unique (c ∷ w) (d ∷ w') x x' h h' k k' e =
      in_both (semicolon c) (comment w) (blank c && white w) (comment w') (blank c && white w') h
      (subst (λ (z : ℕ). T (white (z ∷ w'))) (sym (head-eq_of_cons-eq e)) h')
      (λ p p'. comment-unique w w' x x' p p' k k' (tail-eq_of_cons-eq e))
      (λ p p'. white-unique w w' x x' (and-1 (blank c) (white w) p) (and-1 (blank c) (white w') p') k k' (tail-eq_of_cons-eq e))

  comment-unique : (w w' x x' : List ℕ) → T (comment w) → T (comment w') → Ends white_first x → Ends white_first x' → w ++ x ≡ w' ++ x' → x ≡ x'
  comment-unique [] w' x x' h h' k k' e = absurd h
  comment-unique (c ∷ w) [] x x' h h' k k' e = absurd h'
  comment-unique (c ∷ w) (d ∷ w') x x' h h' k k' e =
      in_both (line_break c) (white w) (comment w) (white w') (comment w') h
      (subst (λ (z : ℕ). T (comment (z ∷ w'))) (sym (head-eq_of_cons-eq e)) h')
      (λ p p'. white-unique w w' x x' p p' k k' (tail-eq_of_cons-eq e))
      (λ p p'. comment-unique w w' x x' p p' k k' (tail-eq_of_cons-eq e))

-- ---------------------------------------------------------------- a token by its first byte

-- what a word without bars is made of
word_byte : ℕ → Bool
word_byte c = symbol_byte c || eqb c 35

-- the bytes that go on a token begun by c
inner : ℕ → ℕ → Bool
unfolding bytes word_byte
inner c = elim (word_byte c) [ true ↦ word_byte | false ↦ λ d. eqb c 124 && not (eqb d 124) ]

-- the token, with those bytes
token_of : ℕ → List ℕ → Token
unfolding bytes
token_of c n =
    elim (digit c) [
      | true ↦ numeral (value_from 0 (c ∷ n))
      | false ↦ elim (symbol_byte c) [
        | true ↦ elim (in_list (c ∷ n) reserved_words) [ true ↦ reserved (c ∷ n) | false ↦ symbol (c ∷ n) ]
        | false ↦ elim (eqb c 35) [
          | true ↦ binary (tail n)
          | false ↦ elim (eqb c 124) [ true ↦ symbol n | false ↦ elim (eqb c 40) [ true ↦ open⁽ | false ↦ close⁾ ] ]
        ]
      ]
    ]

-- what stands behind the token, out of what stands behind those bytes
behind : ℕ → List ℕ → List ℕ
behind c z = elim (eqb c 124) [ true ↦ tail z | false ↦ z ]

-- the bytes b begin with the token, and r is the rest
record Read (t : Token) (b r : List ℕ) : Type 0 where
  first : ℕ
  middle : List ℕ
  last : List ℕ
  cut : b ≡ first ∷ (middle ++ last)
  goes_on : All (inner first) middle
  ends : Ends (inner first) last
  token : t ≡ token_of first middle
  rest : r ≡ behind first last
  no-white : T (not (white_first first))

read-unique : {t t' : Token} {b r r' : List ℕ} → Read t b r → Read t' b r' → (t ≡ t') × (r ≡ r')
read-unique h h' =
    let e : h.first ∷ (h.middle ++ h.last) ≡ h'.first ∷ (h'.middle ++ h'.last) = cc in
    let same_first : h'.first ≡ h.first = sym (head-eq_of_cons-eq e) in
    let later = tail-eq_of_cons-eq e in
    let goes-on' = rw same_first at h'.goes_on in
    let ends' = rw same_first at h'.ends in
    let both = stretch-unique (inner h.first) h.middle h'.middle h.last h'.last h.goes_on goes-on' h.ends ends' later in
    let same-middle : h.middle ≡ h'.middle = both.0 in
    let same-last : h.last ≡ h'.last = both.1 in
    (cc, cc)

-- ---------------------------------------------------------------- classes of bytes

white_first-word : (c : ℕ) → T (white_first c) → T (not (word_byte c))
unfolding word_byte bytes
white_first-word c h = among-every (λ x. not (word_byte x)) (59 ∷ 9 ∷ 10 ∷ 13 ∷ 32 ∷ []) tt c h

symbol_byte-word : (c : ℕ) → T (symbol_byte c) → T (word_byte c)
unfolding word_byte
symbol_byte-word c h = or_l (symbol_byte c) (eqb c 35) h

digit-word : (c : ℕ) → T (digit c) → T (word_byte c)
unfolding bytes
digit-word c h = symbol_byte-word c (or_r (letter c) _ (or_l (digit c) _ h))

binary_digit-word : (c : ℕ) → T (binary_digit c) → T (word_byte c)
binary_digit-word c h = digit-word c (among-every digit (48 ∷ 49 ∷ []) tt c h)

-- ---------------------------------------------------------------- each token is read

single-read : (c : ℕ) (r : List ℕ) → inner c ≡ (λ d. false) → behind c r ≡ r → T (not (white_first c)) → Read (token_of c []) (c ∷ r) r
single-read c r none all dark =
    record {
      first = c;
      middle = [];
      last = r;
      cut = refl;
      goes_on = tt;
      ends = rw none (nothing-goes-on r);
      token = refl;
      rest = sym all;
      no-white = dark;
    }
  where
    nothing-goes-on : (s : List ℕ) → Ends (λ d. false) s
    nothing-goes-on [] = tt
    nothing-goes-on (d ∷ s) = tt

bare-read : (t : Token) (c : ℕ) (n r : List ℕ) → t ≡ token_of c n → All word_byte (c ∷ n) → Ends word_byte r → Read t (c ∷ (n ++ r)) r
unfolding inner behind word_byte bytes
bare-read t c n r e h k =
    let goes : inner c ≡ word_byte = rw (T→true (word_byte c) h.0, inner) in
    record {
      first = c;
      middle = n;
      last = r;
      cut = refl;
      goes_on = subst (λ (p : ℕ → Bool). All p n) (sym goes) h.1;
      ends = subst (λ (p : ℕ → Bool). Ends p r) (sym goes) k;
      token = e;
      rest = rw (not→false (eqb c 124) (apart_by word_byte 124 tt c h.0), behind);
      no-white = not_T (white_first c) λ w. T_not (word_byte c) (white_first-word c w) h.0;
    }

-- a word that does not begin with a digit is a reserved one or a symbol
simple-read : (n r : List ℕ) → Simple n → Ends word_byte r → Read (symbol n) (n ++ r) r
unfolding token_of bytes
simple-read [] r h k = absurd h.first
simple-read (c ∷ n) r h k =
    let free : in_list (c ∷ n) reserved_words ≡ false = not→false (in_list (c ∷ n) reserved_words) h.apart in
    let token : symbol (c ∷ n) ≡ token_of c n = rw (not→false (digit c) h.first, token_of, T→true (symbol_byte c) h.bytes_ok.0, free) in
    bare-read (symbol (c ∷ n)) c n r token (all-weaken symbol_byte word_byte symbol_byte-word (c ∷ n) h.bytes_ok) k

-- spelled like a symbol without bars
like_symbol : List ℕ → Bool
like_symbol [] = false
like_symbol (c ∷ s) = not (digit c) && every symbol_byte (c ∷ s)

reserved-like-symbol : (w : List ℕ) → T (in_list w reserved_words) → T (like_symbol w)
unfolding like_symbol reserved_words bytes
reserved-like-symbol w h = every_in like_symbol reserved_words w tt h

reserved-read : (w r : List ℕ) → T (in_list w reserved_words) → Ends word_byte r → Read (reserved w) (w ++ r) r
unfolding token_of like_symbol bytes
reserved-read [] r h k = absurd (reserved-like-symbol [] h)
reserved-read (c ∷ w) r h k =
    let like = reserved-like-symbol (c ∷ w) h in
    let all : All symbol_byte (c ∷ w) = by-test symbol_byte (c ∷ w) (and-1 (not (digit c)) _ like) in
    let no_digit = not→false (digit c) (and_0 (not (digit c)) _ like) in
    let token : reserved (c ∷ w) ≡ token_of c w = rw (no_digit, token_of, T→true (symbol_byte c) all.0, T→true (in_list (c ∷ w) reserved_words) h) in
    bare-read (reserved (c ∷ w)) c w r token (all-weaken symbol_byte word_byte symbol_byte-word (c ∷ w) all) k

quoted-read : (n r : List ℕ) → All quotable n → Read (symbol n) ((124 ∷ (n ++ (124 ∷ []))) ++ r) r
unfolding inner behind token_of word_byte bytes
quoted-read n r h =
    record {
      first = 124;
      middle = n;
      last = 124 ∷ r;
      cut = simp append_assoc;
      goes_on = all-weaken quotable (inner 124) (apart_by quotable 124 tt) n h;
      ends = tt;
      token = refl;
      rest = refl;
      no-white = tt;
    }

spelled-read : (t : Token) (s r : List ℕ) → Spells t s → (T (word t) → Ends word_byte r) → Read t (s ++ r) r
unfolding bytes inner behind token_of word_byte
spelled-read open⁽ s r h k = rw h (single-read 40 r refl refl tt)
spelled-read close⁾ s r h k = rw h (single-read 41 r refl refl tt)
spelled-read (reserved w) s r h k = rw h.1 (reserved-read w r h.0 (k tt))
spelled-read (numeral n) [] r h k = absurd h.leading
spelled-read (numeral n) (c ∷ s) r h k =
    let token : numeral n ≡ token_of c s = rw (T→true (digit c) h.digits.0, token_of, h.value) in
    bare-read (numeral n) c s r token (all-weaken digit word_byte digit-word (c ∷ s) h.digits) (k tt)
spelled-read (binary ds) s r h k =
    rw h.1 (bare-read (binary ds) 35 (98 ∷ ds) r refl (tt, (tt, all-weaken binary_digit word_byte binary_digit-word ds h.0.digits)) (k tt))
spelled-read (symbol n) s r (inl h) k = rw h.1 (simple-read n r h.0 (k tt))
spelled-read (symbol n) s r (inr h) k = rw h.1 (quoted-read n r h.0)

-- ---------------------------------------------------------------- lists of tokens

begins-ends : (r : List ℕ) → Begins white_first r → Ends word_byte r
begins-ends [] h = tt
begins-ends (c ∷ r) h = white_first-word c h

white-ends : (w r : List ℕ) → T (white w) → Ends word_byte r → Ends word_byte (w ++ r)
white-ends [] r h k = k
white-ends (c ∷ w) r h k = white_first-word c (white-first c w h)

-- no word goes on in what may stand behind it
word-ends : (r : List ℕ) (ts : List Token) → Lex r ts → (T (first_of_word ts) → Begins white_first r) → Ends word_byte r
unfolding Lex word_byte bytes
word-ends r [] l k = subst (Ends word_byte) (append-nil r) (white-ends r [] l tt)
word-ends r (open⁽ ∷ ts) l k = rw (l.3, l.5) (white-ends l.0 (40 ∷ l.2) l.4 tt)
word-ends r (close⁾ ∷ ts) l k = rw (l.3, l.5) (white-ends l.0 (41 ∷ l.2) l.4 tt)
word-ends r (reserved w ∷ ts) l k = begins-ends r (k tt)
word-ends r (numeral n ∷ ts) l k = begins-ends r (k tt)
word-ends r (binary ds ∷ ts) l k = begins-ends r (k tt)
word-ends r (symbol n ∷ ts) l k = begins-ends r (k tt)

-- the bytes hold the token t first
record First (t : Token) (ts : List Token) (b : List ℕ) : Type 0 where
  space : List ℕ
  from : List ℕ
  later : List ℕ
  cut : b ≡ space ++ from
  is_white : T (white space)
  is_read : Read t from later
  holds : Lex later ts

lex-first : (b : List ℕ) (t : Token) (ts : List Token) → Lex b (t ∷ ts) → First t ts b
unfolding Lex
lex-first b t ts l =
    record {
      space = l.0;
      from = l.1 ++ l.2;
      later = l.2;
      cut = l.3;
      is_white = l.4;
      is_read = spelled-read t l.1 l.2 l.5 λ h. word-ends l.2 ts l.7 λ k. l.6 (and_T (word t) (first_of_word ts) h k);
      holds = l.7;
    }

read-no-white : {t : Token} {b r : List ℕ} → Read t b r → Ends white_first b
read-no-white h = rw h.cut h.no-white

white-no-token : (b : List ℕ) (t : Token) (ts : List Token) → T (white b) → Lex b (t ∷ ts) → ⊥
white-no-token b t ts h l =
    let f = lex-first b t ts l in
    let e = white-unique b f.space [] f.from h f.is_white tt (read-no-white f.is_read) (append-nil b ∙ f.cut) in
    nil≢cons (e ∙ f.is_read.cut)

pub lex-unique : (b : List ℕ) (ts us : List Token) → Lex b ts → Lex b us → ts ≡ us
unfolding Lex
lex-unique b [] [] l k = refl
lex-unique b [] (u ∷ us) l k = absurd (white-no-token b u us l k)
lex-unique b (t ∷ ts) [] l k = absurd (white-no-token b t ts k l)
lex-unique b (t ∷ ts) (u ∷ us) l k =
    let f = lex-first b t ts l in
    let g = lex-first b u us k in
    let no-white = read-no-white f.is_read in
    let no-white' = read-no-white g.is_read in
    let e = white-unique f.space g.space f.from g.from f.is_white g.is_white no-white no-white' (sym f.cut ∙ g.cut) in
    let both = read-unique f.is_read (rw (← e) at g.is_read) in
    let same_first : t ≡ u = both.0 in
    let same-later : ts ≡ us = lex-unique f.later ts us f.holds (rw (← both.1) at g.holds) in
    cc
