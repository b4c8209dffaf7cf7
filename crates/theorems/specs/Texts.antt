-- The text of a tree that fits holds the tokens of its term.
use Rattle.std.specs.Prelude.{ℕ, zero, suc, ◌+◌, ◌-◌, ◌*◌, ◌/◌, ◌%◌, ◌≤◌, ◌<◌, ◌≡◌, refl, Bool, true, false, not, T, leb, ltb, eqb, length}
use Rattle.std.proofs.Common.{ap, sym, ◌∙◌, subst, div-add-mod', arith, le→leb, leb→le, ltb→lt, nltb→le, eqb→eq, length-append}
use mathlib.Core.List.{List, [], ◌∷◌, ◌++◌, map, append_assoc}
use Rattle.std.proofs.Math.Option.{Option, none as nothing, some}
use Rattle.std.proofs.Math.Dec.{not_T}
use Rattle.lists.specs.Bytes.{bytes}
use Rattle.lists.specs.Tests.{in_list, All, and_T, all_append, true→T, in_left, in_right}
use Rattle.lists.specs.Member.{Member}
use Rattle.reading.specs.Trees.{Name, Tree, variable, constant, apply, select, call, Trees, none, more, Stores, base, store, Variable, Array, Function, Declarations}
use Rattle.smtlib.specs.Lexicon.{digit, quotable, binary_digit, Token, open⁽, close⁾, numeral, binary, symbol, Begins, value_from, NoLeadingZero, Numeral, Binary, Lex}
use Rattle.smtlib.specs.Grammar.{
  Operator,
  plain,
  indexed,
  numerals_tokens,
  operator_tokens,
  Terms,
  none as no_terms,
  more as moreTerms,
  term_tokens,
  terms_tokens,
}
use Rattle.smtlib.specs.LexText.{Next, put-open, put-close, put-space, put-underscore, put-numeral, put-binary, put-quoted, simple_test}
use Rattle.smtlib.proofs.LexText.{put-simple}
use Rattle.smtlib.specs.Scopes.{Scope, bound_to, bound_names}
use Rattle.smtlib.specs.ScopeLaws.{bound_some}
use Rattle.smtlib.specs.Readings.{variable_names, array_names, function_names, declared_names}
use Rattle.smtlib.specs.Sorts.{TermSort, bits}
use Rattle.echo_spec.specs.Render.{symbol_of, decimal_digits, decimal, binary_digits, quoted, numerals_text, operator_text, call_text, term, terms, stores}
use Rattle.theorems.specs.Terms.{operator_of, applied, term_of, terms_of, array_term, FitsVariable, FitsIn, FitsAllIn, FitsStoresIn, Fresh, variable-declared, array-declared, function-declared}

-- ---------------------------------------------------------------- decimal numerals

value-snoc : (a : ℕ) (ds : List ℕ) (d : ℕ) → value_from a (ds ++ (d ∷ [])) ≡ value_from a ds * 10 + (d - 48)
unfolding value_from
value-snoc a [] d = refl
value-snoc a (e ∷ ds) d = value-snoc (a * 10 + (e - 48)) ds d

digit-of : (d : ℕ) → d < 10 → T (digit (48 + d))
digit-of d h = and_T (leb 48 (48 + d)) (leb (48 + d) 57) (le→leb 48 (48 + d) (omega arith)) (le→leb (48 + d) 57 (omega arith))

-- digits, of which the first is not 0
record Positive (s : List ℕ) : Type 0 where
  first : Begins (λ c. not (eqb c 48)) s

positive-snoc : (s : List ℕ) (d : ℕ) → Positive s → Positive (s ++ (d ∷ []))
positive-snoc [] d h = absurd h.first
positive-snoc (c ∷ s) d h = record { first = h.first }

no-leading-zero : (s : List ℕ) → Positive s → NoLeadingZero s
no-leading-zero [] h = h.first
no-leading-zero (c ∷ []) h = tt
no-leading-zero (c ∷ d ∷ s) h = h.first

-- what is known of the digits of n
record Digits (n : ℕ) (s : List ℕ) : Type 0 where
  all : All digit s
  value : value_from 0 s ≡ n
  positive : 0 < n → Positive s

decimal-digits : (f n : ℕ) → n < f → Digits n (decimal_digits f n)
unfolding decimal_digits value_from
decimal-digits zero n h = absurd (omega arith)
decimal-digits (suc f) n h = by_size (ltb n 10) refl (λ q. decimal-digits f (n / 10) q)
  where
    by_size : (b : Bool) → ltb n 10 ≡ b → (n / 10 < f → Digits (n / 10) (decimal_digits f (n / 10))) → Digits n (decimal_digits (suc f) n)
    by_size true e rest =
        let small : n < 10 = ltb→lt n 10 (true→T e) in
        rw (e, decimal_digits) (record {
          all = (digit-of n small, tt);
          value = omega arith;
          positive = λ p. record { first = not_T (eqb (48 + n) 48) λ q. let z : 48 + n ≡ 48 = eqb→eq (48 + n) 48 q in omega arith };
        })
    by_size false e rest =
        let big : 10 ≤ n = nltb→le n 10 (rw e tt) in
        let known = rest (omega arith) in
        rw (e, decimal_digits) (record {
          all = all_append digit (decimal_digits f (n / 10)) ((48 + n % 10) ∷ []) known.all (digit-of (n % 10) (omega arith), tt);
          value = rw (value-snoc, known.value) (omega arith);
          positive = λ p. positive-snoc (decimal_digits f (n / 10)) (48 + n % 10) (known.positive (omega arith));
        })

pub decimal-numeral : (n : ℕ) → Numeral n (decimal n)
unfolding decimal decimal_digits
decimal-numeral n =
    let known = decimal-digits (suc n) n (omega arith) in
    record { digits = known.all; leading = leading n known; value = known.value }
  where
    leading : (n : ℕ) → Digits n (decimal_digits (suc n) n) → NoLeadingZero (decimal_digits (suc n) n)
    leading zero known = tt
    leading (suc n) known = no-leading-zero (decimal_digits (suc (suc n)) (suc n)) (known.positive (omega arith))

-- ---------------------------------------------------------------- constants

binary-digit-of : (b : ℕ) → T (leb b 1) → T (binary_digit (48 + b))
binary-digit-of zero h = tt
binary-digit-of (suc zero) h = tt
binary-digit-of (suc (suc b)) h = absurd (let p : suc (suc b) ≤ 1 = leb→le (suc (suc b)) 1 h in omega arith)

all-binary : (bs : List ℕ) → All (λ b. leb b 1) bs → All binary_digit (binary_digits bs)
unfolding binary_digits
all-binary [] h = tt
all-binary (b ∷ bs) h = all_append binary_digit (binary_digits bs) ((48 + b) ∷ []) (all-binary bs h.1) (binary-digit-of b h.0, tt)

pub length_digits : (bs : List ℕ) → length (binary_digits bs) ≡ length bs
unfolding binary_digits
length_digits [] = refl
length_digits (b ∷ bs) = length-append (binary_digits bs) ((48 + b) ∷ []) ∙ rw (length_digits bs) (omega arith)

begins : (s : List ℕ) → 0 < length s → All binary_digit s → Begins binary_digit s
begins [] l h = absurd (omega arith)
begins (c ∷ s) l h = h.0

pub constant-binary : (bs : List ℕ) → 0 < length bs → All (λ b. leb b 1) bs → Binary (binary_digits bs)
constant-binary bs l h =
    let all = all-binary bs h in
    record { first = begins (binary_digits bs) (rw (length_digits bs) l) all; digits = all }

-- ---------------------------------------------------------------- operators

-- a text after which tokens stand, whatever follows
abbrev pub Holds : List ℕ → List Token → Type 0
Holds text tokens = (r : List ℕ) (us : List Token) → Next r us → Lex (text ++ r) (tokens ++ us)

-- the same of a text that begins with white space
abbrev HoldsNext : List ℕ → List Token → Type 0
HoldsNext text tokens = (r : List ℕ) (us : List Token) → Next r us → Next (text ++ r) (tokens ++ us)

pub put-decimal : (n : ℕ) → Holds (decimal n) (numeral n ∷ [])
put-decimal n r us k = put-numeral n (decimal n) r us (decimal-numeral n) k

pub put-name : (n : Name) → All quotable n → Holds (quoted n) (symbol n ∷ [])
unfolding quoted bytes
put-name n q r us k = put-quoted n r us q k

put-numerals : (ks : List ℕ) → HoldsNext (numerals_text ks) (numerals_tokens ks)
unfolding numerals_text numerals_tokens bytes
put-numerals [] r us k = k
put-numerals (n ∷ ks) r us k =
    let l = put-decimal n (numerals_text ks ++ r) (numerals_tokens ks ++ us) (put-numerals ks r us k) in
    put-space _ _ (simp append_assoc l)

put-operator : (w : Name) (ks : List ℕ) → T (simple_test w) → Holds (operator_text w ks) (operator_tokens (operator_of w ks))
unfolding operator_text operator_of operator_tokens numerals_tokens bytes
put-operator w [] h r us k = put-simple w r us h k
put-operator w (n ∷ ks) h r us k =
    let l₁ = put-numerals (n ∷ ks) (41 ∷ r) (close⁾ ∷ us) (put-close r us k.0) in
    let l₂ = put-simple w _ _ h l₁ in
    let l₃ = put-underscore _ _ (put-space _ _ l₂) in
    simp append_assoc (put-open _ _ l₃)

-- ---------------------------------------------------------------- terms

module _ (D : Declarations) (quotes : (n : Name) → T (in_list n (declared_names D)) → All quotable n) (E : Scope TermSort) (fresh : Fresh D (bound_names E)) where
  quotes-variable : (n : Name) → T (in_list n (variable_names D)) → All quotable n
  quotes-variable n h = quotes n (in_left n (variable_names D) (array_names D ++ function_names D) h)

  quotes-array : (n : Name) → T (in_list n (array_names D)) → All quotable n
  quotes-array n h = quotes n (in_right n (variable_names D) (array_names D ++ function_names D) (in_left n (array_names D) (function_names D) h))

  quotes-function : (n : Name) → T (in_list n (function_names D)) → All quotable n
  quotes-function n h = quotes n (in_right n (variable_names D) (array_names D ++ function_names D) (in_right n (array_names D) (function_names D) h))

  quotes-named : (n : Name) (s : TermSort) → FitsIn D E (variable n) s → All quotable n
  quotes-named n s h = by-bound (bound_to E n) refl h
    where
      by-bound : (o : Option TermSort) → bound_to E n ≡ o → elim o as (λ _. Type 0) [ nothing ↦ FitsVariable D n s | some u ↦ s ≡ u ] → All quotable n
      by-bound nothing e h = quotes-variable n (variable-declared D n h.0 h.1)
      by-bound (some u) e h = fresh.quotes n (bound_some E n u e)

  lex-applied : (w : Name) (ks : List ℕ) (ts : Trees) (u : TermSort) (us : List TermSort) → FitsAllIn D E ts (u ∷ us) → T (simple_test w)
      → HoldsNext (terms ts) (terms_tokens (terms_of ts))
      → Holds (bytes "(" ++ (operator_text w ks ++ (terms ts ++ bytes ")"))) (term_tokens (applied [] (operator_of w ks) (terms_of ts)))
  unfolding bytes term_of applied term_tokens
  lex-applied w ks none u us f h args r vs k = absurd f
  lex-applied w ks (more t ts) u us f h args r vs k =
      let l₁ = args (41 ∷ r) (close⁾ ∷ vs) (put-close r vs k.0) in
      let l₂ = put-operator w ks h _ _ l₁ in
      simp append_assoc (simp append_assoc at (put-open _ _ l₂))

  lex-call : (n : Name) (ts : Trees) → All quotable n → HoldsNext (terms ts) (terms_tokens (terms_of ts))
      → Holds (call_text n ts (terms ts)) (term_tokens (applied n (plain n) (terms_of ts)))
  unfolding bytes call_text term_of applied term_tokens operator_tokens
  lex-call n none q args r us k = put-name n q r us k
  lex-call n (more t ts) q args r us k =
      let l₁ = args (41 ∷ r) (close⁾ ∷ us) (put-close r us k.0) in
      let l₂ = put-open _ _ (put-name n q _ _ l₁) in
      simp append_assoc (simp append_assoc at l₂)

  lex-select : (a : Name) (j : Tree) (ss : Stores) → Holds (stores a ss) (term_tokens (array_term a ss)) → Holds (term j) (term_tokens (term_of j))
      → Holds (term (select a j ss)) (term_tokens (term_of (select a j ss)))
  unfolding term term_of term_tokens operator_tokens bytes simple_test
  lex-select a j ss la lj r us k =
      let l₁ = put-space _ _ (lj (41 ∷ r) (close⁾ ∷ us) (put-close r us k.0)) in
      let l₂ = put-space _ _ (la _ _ l₁) in
      let l₃ = put-open _ _ (put-simple (bytes "select") _ _ tt l₂) in
      simp append_assoc l₃

  lex-store : (a : Name) (x y : Tree) (ss : Stores) → Holds (stores a ss) (term_tokens (array_term a ss)) → Holds (term x) (term_tokens (term_of x))
      → Holds (term y) (term_tokens (term_of y)) → Holds (stores a (store x y ss)) (term_tokens (array_term a (store x y ss)))
  unfolding term term_of term_tokens operator_tokens bytes simple_test
  lex-store a x y ss la lx ly r us k =
      let l₀ = put-space _ _ (ly (41 ∷ r) (close⁾ ∷ us) (put-close r us k.0)) in
      let l₁ = put-space _ _ (lx _ _ l₀) in
      let l₂ = put-space _ _ (la _ _ l₁) in
      let l₃ = put-open _ _ (put-simple (bytes "store") _ _ tt l₂) in
      simp append_assoc l₃

  lex-more : (t : Tree) (ts : Trees) → Holds (term t) (term_tokens (term_of t)) → HoldsNext (terms ts) (terms_tokens (terms_of ts))
      → HoldsNext (terms (more t ts)) (terms_tokens (terms_of (more t ts)))
  unfolding term term_of term_tokens bytes
  lex-more t ts lt args r us k =
      let l = lt _ _ (args r us k) in
      put-space _ _ (simp append_assoc l)

  mutual
    unfolding term term_of term_tokens

    pub lex-term : (t : Tree) (s : TermSort) → FitsIn D E t s → (r : List ℕ) (us : List Token) → Next r us → Lex (term t ++ r) (term_tokens (term_of t) ++ us)
    lex-term (variable n) s h r us k = put-name n (quotes-named n s h) r us k
    lex-term (constant bs) s h r us k = simp append_assoc (put-binary (binary_digits bs) r us (constant-binary bs h.0 h.1) k)
    lex-term (apply m ks ts) s h r us k =
        lex-applied (symbol_of m) ks ts h.0 h.1 h.2 h.3 (λ r us k. lex-terms ts (h.0 ∷ h.1) h.2 r us k) r us k
    lex-term (select a j ss) s h r us k =
        lex-select a j ss (λ r us k. lex-stores ss a h.0 h.1 h.2 h.5 r us k) (λ r us k. lex-term j (bits h.0) h.4 r us k) r us k
    lex-term (call n ts) s h r us k =
        lex-call n ts (quotes-function n (function-declared D n h.0 h.1 h.2)) (λ r us k. lex-terms ts (map bits h.0) h.3 r us k) r us k

    pub lex-terms : (ts : Trees) (vs : List TermSort) → FitsAllIn D E ts vs → (r : List ℕ) (us : List Token) → Next r us → Next (terms ts ++ r) (terms_tokens (terms_of ts) ++ us)
    lex-terms none [] h r us k = k
    lex-terms none (v ∷ vs) h r us k = absurd h
    lex-terms (more t ts) [] h r us k = absurd h
    lex-terms (more t ts) (v ∷ vs) h r us k = lex-more t ts (λ r us k. lex-term t v h.0 r us k) (λ r us k. lex-terms ts vs h.1 r us k) r us k

    pub lex-stores : (ss : Stores) (a : Name) (i v : ℕ) → Member (record { name = a; index = i; value = v }) D.arrays → FitsStoresIn D E ss i v
        → (r : List ℕ) (us : List Token) → Next r us → Lex (stores a ss ++ r) (term_tokens (array_term a ss) ++ us)
    lex-stores base a i v q h r us k = put-name a (quotes-array a (array-declared D a i v q)) r us k
    lex-stores (store x y ss) a i v q h r us k =
        lex-store a x y ss (λ r us k. lex-stores ss a i v q h.2 r us k) (λ r us k. lex-term x (bits i) h.0 r us k) (λ r us k. lex-term y (bits v) h.1 r us k) r us k
