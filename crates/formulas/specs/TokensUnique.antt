-- Bytes hold at most one list of tokens.
use Rattle.std.specs.Prelude.{ℕ, ◌≤◌, ◌<◌, ◌≡◌, refl, Bool, true, false, ◌&&◌, ◌||◌, not, ◌⊎◌, T, leb, eqb}
use Rattle.std.proofs.Common.{ap, sym, ◌∙◌, subst, inl, inr, arith, leb→le, T_not}
use mathlib.Core.List.{List, [], ◌∷◌, ◌++◌, tail, append_assoc, append-nil, head-eq_of_cons-eq, tail-eq_of_cons-eq, nil≢cons}
use Rattle.std.proofs.Math.Dec.{not_T}
use Rattle.lists.specs.Bytes.{bytes}
use Rattle.lists.specs.Tests.{All, same, among, in_list, every, and_T, and_0, and-1, or_l, or_r, or_elim, T→true, not→false, no→false, every_in, apart_by}
use Rattle.smtlib.specs.Lexicon.{digit, letter, value_from}
use Rattle.formulas.specs.Tokens.{Token, open⁽, close⁾, comma, numeral, binary, name, word, is_word, signs, Spells, blank, Longest, Lex}

-- ---------------------------------------------------------------- a token by its bytes

-- what a word or a sign begins with
abbrev pub first_of_word : ℕ → Bool
first_of_word c = letter c || among (33 ∷ 37 ∷ 42 ∷ 43 ∷ 45 ∷ 47 ∷ 60 ∷ 61 ∷ 62 ∷ 126 ∷ []) c

unfoldable pub all_but_last : List ℕ → List ℕ
all_but_last [] = []
all_but_last (c ∷ []) = []
all_but_last (c ∷ d ∷ s) = c ∷ all_but_last (d ∷ s)

but_last : (n : List ℕ) (c : ℕ) → all_but_last (n ++ (c ∷ [])) ≡ n
unfolding all_but_last
but_last [] c = refl
but_last (d ∷ []) c = refl
but_last (d ∷ e ∷ n) c = ap (λ (x : List ℕ). d ∷ x) (but_last (e ∷ n) c)

unfoldable pub token_of : List ℕ → Token
token_of [] = comma
token_of (c ∷ s) =
    elim (first_of_word c) [
      | true ↦ word (c ∷ s)
      | false ↦ elim (digit c) [
        | true ↦ numeral (value_from 0 (c ∷ s))
        | false ↦ elim (eqb c 35) [
          | true ↦ binary (tail s)
          | false ↦ elim (eqb c 124) [
            | true ↦ name (all_but_last s)
            | false ↦ elim (eqb c 40) [ true ↦ open⁽ | false ↦ elim (eqb c 41) [ true ↦ close⁾ | false ↦ comma ] ]
          ]
        ]
      ]
    ]

pub digit-first : (c : ℕ) → T (digit c) → first_of_word c ≡ false
digit-first c h =
    no→false (first_of_word c) λ w.
    let l : 48 ≤ c = leb→le 48 c (and_0 (leb 48 c) (leb c 57) h) in
    let u : c ≤ 57 = leb→le c 57 (and-1 (leb 48 c) (leb c 57) h) in
    or_elim (letter c) _ w
    (λ a. or_elim (leb 65 c && leb c 90) (leb 97 c && leb c 122) a
    (λ b. let m : 65 ≤ c = leb→le 65 c (and_0 (leb 65 c) (leb c 90) b) in absurd (omega arith))
    (λ b. let m : 97 ≤ c = leb→le 97 c (and_0 (leb 97 c) (leb c 122) b) in absurd (omega arith)))
    (λ a. T_not (digit c) (Rattle.lists.specs.Tests.among-every (λ x. not (digit x)) (33 ∷ 37 ∷ 42 ∷ 43 ∷ 45 ∷ 47 ∷ 60 ∷ 61 ∷ 62 ∷ 126 ∷ []) tt c a) h)

abbrev pub begins_word : List ℕ → Bool
begins_word [] = false
begins_word (c ∷ s) = first_of_word c

-- a word or a sign begins as one
pub word_first : (w : List ℕ) → T (is_word w || in_list w signs) → T (begins_word w)
unfolding signs bytes same
word_first w h = or_elim (is_word w) (in_list w signs) h (from-word w) (every_in begins_word signs w tt)
  where
    from-word : (w : List ℕ) → T (is_word w) → T (begins_word w)
    from-word [] h = h
    from-word (c ∷ s) h = or_l (letter c) _ (and_0 (letter c) _ h)

token-of-word : (w : List ℕ) → T (begins_word w) → token_of w ≡ word w
unfolding token_of
token-of-word [] h = absurd h
token-of-word (c ∷ s) h = rw (T→true (first_of_word c) h, token_of)

pub spelled-token : (t : Token) (s : List ℕ) → Spells t s → t ≡ token_of s
unfolding bytes token_of
spelled-token open⁽ s h = ap token_of (sym h)
spelled-token close⁾ s h = ap token_of (sym h)
spelled-token comma s h = ap token_of (sym h)
spelled-token (numeral n) [] h = absurd h.leading
spelled-token (numeral n) (c ∷ s) h =
    rw (digit-first c h.digits.0, token_of, T→true (digit c) h.digits.0) (ap numeral (sym h.value))
spelled-token (binary ds) s h = ap token_of (sym h.1)
spelled-token (name n) s h = ap name (sym (but_last n 124)) ∙ ap token_of (sym h.1)
spelled-token (word w) s h = sym (token-of-word w (word_first w h.0)) ∙ ap token_of (sym h.1)

-- ---------------------------------------------------------------- blanks

-- nothing, or a first byte that fails the test
abbrev pub Ends : (ℕ → Bool) → List ℕ → Type 0
Ends p [] = Unit
Ends p (c ∷ s) = T (not (p c))

-- a list has one first stretch of bytes that pass the test
pub stretch-unique : (p : ℕ → Bool) (s s' r r' : List ℕ) → All p s → All p s' → Ends p r → Ends p r' → s ++ r ≡ s' ++ r' → (s ≡ s') × (r ≡ r')
stretch-unique p [] [] r r' h h' k k' e = (refl, e)
stretch-unique p [] (c ∷ s') r r' h h' k k' e = absurd (T_not (p c) (subst (Ends p) e k) h'.0)
stretch-unique p (c ∷ s) [] r r' h h' k k' e = absurd (T_not (p c) (subst (Ends p) (sym e) k') h.0)
stretch-unique p (c ∷ s) (d ∷ s') r r' h h' k k' e =
    let rest = stretch-unique p s s' r r' h.1 h'.1 k k' (tail-eq_of_cons-eq e) in
    let first : c ≡ d = head-eq_of_cons-eq e in
    let same_s : s ≡ s' = rest.0 in
    (cc, rest.1)

-- a first byte, and no blank
abbrev Dark : List ℕ → Type 0
Dark [] = ⊥
Dark (c ∷ s) = T (not (blank c))

dark-ends : (s r : List ℕ) → Dark s → Ends blank (s ++ r)
dark-ends [] r h = absurd h
dark-ends (c ∷ s) r h = h

word-dark : (w : List ℕ) → T (begins_word w) → Dark w
word-dark [] h = h
word-dark (c ∷ s) h = apart_by first_of_word 32 tt c h

spelled-dark : (t : Token) (s : List ℕ) → Spells t s → Dark s
unfolding bytes
spelled-dark open⁽ s h = subst Dark (sym h) tt
spelled-dark close⁾ s h = subst Dark (sym h) tt
spelled-dark comma s h = subst Dark (sym h) tt
spelled-dark (numeral n) [] h = h.leading
spelled-dark (numeral n) (c ∷ s) h = apart_by digit 32 tt c h.digits.0
spelled-dark (binary ds) s h = subst Dark (sym h.1) tt
spelled-dark (name n) s h = subst Dark (sym h.1) tt
spelled-dark (word w) s h = subst Dark (sym h.1) (word-dark w (word_first w h.0))

-- ---------------------------------------------------------------- lists of tokens

-- of two beginnings of one list, one is a beginning of the other
record Longer (s s' r r' : List ℕ) : Type 0 where
  between : List ℕ
  first : s' ≡ s ++ between
  second : r ≡ between ++ r'

longer : (s s' r r' : List ℕ) → s ++ r ≡ s' ++ r' → Longer s s' r r' ⊎ Longer s' s r' r
longer [] s' r r' e = inl (record { between = s'; first = refl; second = e })
longer (c ∷ s) [] r r' e = inr (record { between = c ∷ s; first = refl; second = sym e })
longer (c ∷ s) (d ∷ s') r r' e = by-rest (longer s s' r r' (tail-eq_of_cons-eq e))
  where
    first : c ≡ d
    first = head-eq_of_cons-eq e

    by-rest : Longer s s' r r' ⊎ Longer s' s r' r → Longer (c ∷ s) (d ∷ s') r r' ⊎ Longer (d ∷ s') (c ∷ s) r' r
    by-rest (inl x) = inl (record { between = x.between; first = λ i. sym first i ∷ x.first i; second = x.second })
    by-rest (inr x) = inr (record { between = x.between; first = λ i. first i ∷ x.first i; second = x.second })

-- the longest token is one
same-cut : (t t' : Token) (s s' r r' : List ℕ) → Spells t s → Spells t' s' → Longest s r → Longest s' r' → s ++ r ≡ s' ++ r' → (s ≡ s') × (r ≡ r')
same-cut t t' s s' r r' h h' k k' e = by-longer (longer s s' r r' e)
  where
    by-longer : Longer s s' r r' ⊎ Longer s' s r' r → (s ≡ s') × (r ≡ r')
    by-longer (inl x) =
        let z : x.between ≡ [] = k x.between r' t' x.second (subst (Spells t') x.first h') in
        (sym (x.first ∙ (ap (λ (p : List ℕ). s ++ p) z ∙ append-nil s)), x.second ∙ ap (λ (p : List ℕ). p ++ r') z)
    by-longer (inr x) =
        let z : x.between ≡ [] = k' x.between r t x.second (subst (Spells t) x.first h) in
        (x.first ∙ (ap (λ (p : List ℕ). s' ++ p) z ∙ append-nil s'), sym (x.second ∙ ap (λ (p : List ℕ). p ++ r) z))

blanks-no-token : (b : List ℕ) (t : Token) (ts : List Token) → All blank b → Lex b (t ∷ ts) → ⊥
unfolding Lex
blanks-no-token b t ts h l =
    let d = spelled-dark t l.1 l.5 in
    let e = (stretch-unique blank b l.0 [] (l.1 ++ l.2) h l.4 tt (dark-ends l.1 l.2 d) (append-nil b ∙ l.3)).1 in
    no-dark l.1 d e
  where
    no-dark : (s : List ℕ) → Dark s → [] ≡ s ++ l.2 → ⊥
    no-dark [] d e = d
    no-dark (c ∷ s) d e = nil≢cons e

pub lex-unique : (b : List ℕ) (ts us : List Token) → Lex b ts → Lex b us → ts ≡ us
unfolding Lex
lex-unique b [] [] l k = refl
lex-unique b [] (u ∷ us) l k = absurd (blanks-no-token b u us l k)
lex-unique b (t ∷ ts) [] l k = absurd (blanks-no-token b t ts k l)
lex-unique b (t ∷ ts) (u ∷ us) l k =
    let d = dark-ends l.1 l.2 (spelled-dark t l.1 l.5) in
    let d' = dark-ends k.1 k.2 (spelled-dark u k.1 k.5) in
    let e = (stretch-unique blank l.0 k.0 (l.1 ++ l.2) (k.1 ++ k.2) l.4 k.4 d d' (sym l.3 ∙ k.3)).1 in
    let c = same-cut t u l.1 k.1 l.2 k.2 l.5 k.5 l.6 k.6 e in
    let same_first : t ≡ u = spelled-token t l.1 l.5 ∙ (ap token_of c.0 ∙ sym (spelled-token u k.1 k.5)) in
    let same_rest : ts ≡ us = lex-unique l.2 ts us l.7 (subst (λ (r : List ℕ). Lex r us) (sym c.1) k.7) in
    cc
