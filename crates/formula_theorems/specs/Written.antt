-- The bytes of a phrase hold its tokens; the formula of a tree that fits is the text of a phrase that keeps to the levels and
-- stands for the tree's term.
use Rattle.std.specs.Prelude.{ℕ, zero, suc, ◌≤◌, ◌<◌, ◌≡◌, refl, List, [], ◌∷◌, ◌++◌, map, Bool, true, false, ◌&&◌, ◌||◌, not, length}
use Prim.Native.String.{String}
use Rattle.std.proofs.Common.{ap, sym, ◌∙◌, subst, append_assoc, arith}
use Rattle.std.proofs.Math.Option.{Option, none as nothing, some}
use lib.Dec.{T, leb, ltb, eqb, le→leb, ltb→lt, nltb→le, eqb→eq}
use Rattle.lists.specs.Bytes.{bytes}
use Rattle.lists.specs.Tests.{same, in_list, every, All, and_T, and_0, and-1, or_elim, T→true, true→T, every_in, same→eq, in_left, in_right}
use Rattle.reading.specs.Trees.{Name, Tree, variable, constant, apply, select, call, Trees, none as noTrees, more as moreTrees, Stores, base, store, Declarations}
use Rattle.smtlib.specs.Lexicon.{Binary}
use Rattle.smtlib.specs.Grammar.{Operator, plain, indexed, Term, Terms, none as no_terms, more as moreTerms, application as applicationTerm}
use Rattle.smtlib.specs.Readings.{Row, operators, listed, built_in, variable_names, array_names, function_names, declared_names, Apart}
use Rattle.smtlib.specs.Sorts.{TermSort, bits}
use Rattle.echo_spec.specs.Render.{symbol_of, decimal, binary_digits, quoted}
use Rattle.theorems.specs.Terms.{operator_of, applied as appliedTerm, term_of, terms_of, array_term, Fits, FitsAll, FitsStores, variable-declared, array-declared, function-declared}
use Rattle.theorems.specs.Texts.{decimal-numeral, constant-binary}
use Rattle.formula_text.specs.Notation.{Notation, between, before, named, notations, notation_of, level_as, level, Operand, placed, later, parted, application, call_text}
use Rattle.formula_text.specs.Notation.{operand_texts, applied as appliedText, formula, operands, array_text}
use Rattle.formulas.specs.Tokens.{name_byte, Token, open⁽, close⁾, comma, numeral, binary, name, word, word_byte, is_word, signs, Lex}
use Rattle.formulas.specs.TokensUnique.{Ends}
use Rattle.formulas.specs.TokensText.{sign_last, put-blank, put-open, put-close, put-comma, put-name, put-numeral, put-binary, put_word, put-sign}
use Rattle.formulas.specs.Phrases.{
  Sign,
  infixes,
  prefixes,
  others,
  lookup,
  meaning_of,
  Head,
  function,
  operator,
  Phrase,
  literal,
  reference,
  brackets,
  prefixed,
  infixed,
  applied,
  Phrases,
  none,
  more,
  numerals_tokens,
  head_tokens,
  phrase_tokens,
  later_tokens,
  head_ok,
  stands,
  stand,
  head_operator,
  phrase_term,
  phrase_terms,
}

-- ---------------------------------------------------------------- the text of a phrase

unfoldable pub numerals_text : List ℕ → List ℕ
numerals_text [] = []
numerals_text (k ∷ ks) = decimal k ++ (bytes ", " ++ numerals_text ks)

unfoldable pub head_text : Head → List ℕ
head_text (function n) = quoted n ++ bytes "("
head_text (operator w ks) = w ++ (bytes "(" ++ numerals_text ks)

unfoldable mutual
  pub write : Phrase → List ℕ
  write (literal ds) = bytes "#b" ++ ds
  write (reference n) = quoted n
  write (brackets p) = bytes "(" ++ (write p ++ bytes ")")
  write (prefixed w p) = w ++ write p
  write (infixed p w q) = write p ++ (bytes " " ++ (w ++ (bytes " " ++ write q)))
  write (applied h p ps) = head_text h ++ (write p ++ write_later ps)

  pub write_later : Phrases → List ℕ
  write_later none = bytes ")"
  write_later (more p ps) = bytes ", " ++ (write p ++ write_later ps)

abbrev pub symbols_of : List Sign → List Name
symbols_of rs = map (λ r. bytes r.symbol) rs

abbrev pub SpelledHead : Head → Type 0
SpelledHead (function n) = All name_byte n
SpelledHead (operator w ks) = T (in_list w others)

-- the parts of a phrase that are no phrases can be spelled
abbrev mutual
  pub Spelled : Phrase → Type 0
  Spelled (literal ds) = Binary ds
  Spelled (reference n) = All name_byte n
  Spelled (brackets p) = Spelled p
  Spelled (prefixed w p) = T (in_list w (symbols_of prefixes)) × Spelled p
  Spelled (infixed p w q) = Spelled p × T (in_list w (symbols_of infixes)) × Spelled q
  Spelled (applied h p ps) = SpelledHead h × Spelled p × SpelledAll ps

  pub SpelledAll : Phrases → Type 0
  SpelledAll none = Unit
  SpelledAll (more p ps) = Spelled p × SpelledAll ps

-- ---------------------------------------------------------------- it holds the phrase's tokens

-- a text after which tokens stand, where nothing follows that would go on a word
abbrev Holds : List ℕ → List Token → Type 0
Holds text tokens = (r : List ℕ) (us : List Token) → Ends word_byte r → Lex r us → Lex (text ++ r) (tokens ++ us)

-- the same of a text that ends in a bracket or a comma
abbrev HoldsAlways : List ℕ → List Token → Type 0
HoldsAlways text tokens = (r : List ℕ) (us : List Token) → Lex r us → Lex (text ++ r) (tokens ++ us)

digit-ends : (r : List ℕ) → Ends word_byte r → Ends (λ c. Rattle.smtlib.specs.Lexicon.binary_digit c) r
digit-ends [] h = tt
digit-ends (c ∷ r) h =
    lib.Dec.not_T (Rattle.smtlib.specs.Lexicon.binary_digit c) λ b.
    lib.Dec.T_not (word_byte c) h (Rattle.lists.specs.Tests.among-every word_byte (48 ∷ 49 ∷ []) tt c b)

lex-infix : (w r : List ℕ) (us : List Token) → T (in_list w (symbols_of infixes)) → Lex r us → Lex (w ++ (32 ∷ r)) (word w ∷ us)
unfolding infixes signs bytes same
lex-infix w r us h l =
    or_elim (is_word w) (in_list w signs) (every_in (λ n. is_word n || in_list n signs) (symbols_of infixes) w tt h)
    (λ k. put_word w (32 ∷ r) us k tt (put-blank r us l)) (λ k. put-sign w (32 ∷ r) us k tt (put-blank r us l))

prefix-sign : (w : Name) → T (in_list w (symbols_of prefixes)) → T (in_list w signs)
unfolding prefixes signs bytes same
prefix-sign w h = every_in (λ n. in_list n signs) (symbols_of prefixes) w tt h

other_word : (w : Name) → T (in_list w others) → T (is_word w)
unfolding others bytes same
other_word w h = every_in is_word others w tt h

lex-numerals : (ks : List ℕ) → HoldsAlways (numerals_text ks) (numerals_tokens ks)
unfolding numerals_text numerals_tokens bytes
lex-numerals [] r us l = l
lex-numerals (k ∷ ks) r us l =
    simp append_assoc (put-numeral k (decimal k) _ _ (decimal-numeral k) tt (put-comma _ _ (put-blank _ _ (lex-numerals ks r us l))))

lex-head : (h : Head) → SpelledHead h → HoldsAlways (head_text h) (head_tokens h)
unfolding head_text head_tokens quoted bytes
lex-head (function n) q r us l = simp append_assoc (simp append_assoc at (put-name n (40 ∷ r) _ q (put-open r us l)))
lex-head (operator w ks) q r us l = simp append_assoc (put_word w _ _ (other_word w q) tt (put-open _ _ (lex-numerals ks r us l)))

-- no sign goes on in a phrase
abbrev calm : List ℕ → Bool
calm [] = false
calm (c ∷ s) = not (sign_last c)

calm-append : (s r : List ℕ) → T (calm s) → T (calm (s ++ r))
calm-append [] r h = absurd h
calm-append (c ∷ s) r h = h

calm-ends : (s : List ℕ) → T (calm s) → Ends sign_last s
calm-ends [] h = absurd h
calm-ends (c ∷ s) h = h

prefix-calm : (w : Name) → T (in_list w (symbols_of prefixes)) → T (calm w)
unfolding prefixes bytes same
prefix-calm w h = every_in calm (symbols_of prefixes) w tt h

head-calm : (h : Head) → SpelledHead h → T (calm (head_text h))
unfolding head_text quoted others bytes same
head-calm (function n) q = tt
head-calm (operator w ks) q = calm-append w _ (every_in calm others w tt q)

calm-phrase : (p : Phrase) → Spelled p → T (calm (write p))
unfolding write quoted bytes
calm-phrase (literal ds) h = tt
calm-phrase (reference n) h = tt
calm-phrase (brackets p) h = tt
calm-phrase (prefixed w p) h = calm-append w (write p) (prefix-calm w h.0)
calm-phrase (infixed p w q) h = calm-append (write p) _ (calm-phrase p h.0)
calm-phrase (applied x p ps) h = calm-append (head_text x) _ (head-calm x h.0)

later-ends : (ps : Phrases) (r : List ℕ) → Ends word_byte (write_later ps ++ r)
unfolding write bytes
later-ends none r = tt
later-ends (more p ps) r = tt

mutual
  unfolding write quoted bytes phrase_tokens

  pub lex-phrase : (p : Phrase) → Spelled p → Holds (write p) (phrase_tokens p)
  lex-phrase (literal ds) h r us k l = put-binary ds r us h (digit-ends r k) l
  lex-phrase (reference n) h r us k l = put-name n r us h l
  lex-phrase (brackets p) h r us k l = simp append_assoc (put-open _ _ (lex-phrase p h (41 ∷ r) (close⁾ ∷ us) tt (put-close r us l)))
  lex-phrase (prefixed w p) h r us k l =
      simp append_assoc (put-sign w (write p ++ r) _ (prefix-sign w h.0) (calm-ends (write p ++ r) (calm-append (write p) r (calm-phrase p h.1))) (lex-phrase p h.1 r us k l))
  lex-phrase (infixed p w q) h r us k l =
      let l₁ = lex-infix w _ _ h.1 (lex-phrase q h.2 r us k l) in
      let l₂ = lex-phrase p h.0 _ _ tt (put-blank _ _ l₁) in
      simp append_assoc l₂
  lex-phrase (applied x p ps) h r us k l =
      let l₁ = lex-later ps h.2 r us l in
      simp append_assoc (lex-head x h.0 _ _ (lex-phrase p h.1 _ _ (later-ends ps r) l₁))

  lex-later : (ps : Phrases) → SpelledAll ps → HoldsAlways (write_later ps) (later_tokens ps)
  lex-later none h r us l = put-close r us l
  lex-later (more p ps) h r us l =
      let l₁ = lex-later ps h.1 r us l in
      simp append_assoc (put-comma _ _ (put-blank _ _ (lex-phrase p h.0 _ _ (later-ends ps r) l₁)))
