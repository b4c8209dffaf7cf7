-- The text of a tree that fits holds no line break: no byte of it is below 32.
use Rattle.std.specs.Prelude.{ℕ, zero, suc, ◌+◌, ◌≡◌, refl, List, [], ◌∷◌, ◌++◌, map, not, T, leb, get_or}
use Prim.Native.String.{String}
use Rattle.std.proofs.Math.Option.{Option, none as nothing, some}
use Rattle.std.proofs.Common.{arith, leb→le, le→leb}
use Rattle.std.proofs.Math.Dec.{not_T}
use Rattle.lists.specs.Bytes.{bytes}
use Rattle.lists.specs.Tests.{in_list, among, among-every, every, every-all, All, and_0, and-1, all_append, all-weaken, by-test}
use Rattle.reading.specs.Trees.{Name, Tree, variable, constant, apply, select, call, Trees, none, more, Stores, base, store, Declarations}
use Rattle.smtlib.specs.Lexicon.{digit}
use Rattle.smtlib.specs.Scopes.{Scope, bound_to, bound_names}
use Rattle.smtlib.specs.ScopeLaws.{bound_some}
use Rattle.smtlib.specs.Readings.{declared_names}
use Rattle.smtlib.specs.Sorts.{TermSort, bits}
use Rattle.echo_spec.specs.Render.{symbols, symbol_of, decimal, binary_digits, quoted, numerals_text, operator_text, call_text, term, terms, stores}
use Rattle.theorems.specs.Terms.{
  FitsVariable,
  FitsIn,
  FitsAllIn,
  FitsStoresIn,
  variable-declared,
  array-declared,
  function-declared,
  in-variables,
  in-arrays,
  in-functions,
}
use Rattle.theorems.specs.Texts.{decimal-numeral}

-- no byte is below 32
pub record Shown (s : List ℕ) : Type 0 where
  pub bytes : All (leb 32) s

pub shown-append : {xs ys : List ℕ} → Shown xs → Shown ys → Shown (xs ++ ys)
shown-append {xs} {ys} h k = record { bytes = all_append (leb 32) xs ys h.bytes k.bytes }

-- so a line feed is not among them
pub shown-no-break : (s : List ℕ) → Shown s → T (not (among s 10))
shown-no-break s h = not_T (among s 10) (λ m. among-every (leb 32) s (every-all (leb 32) s h.bytes) 10 m)

-- for a text that is written out: `shown-text "(" tt`
pub shown-text : (s : String) → T (every (leb 32) (bytes s)) → Shown (bytes s)
shown-text s h = record { bytes = by-test (leb 32) (bytes s) h }

pub shown-none : Shown []
shown-none = record { bytes = tt }

-- ---------------------------------------------------------------- parts of terms

pub shown-decimal : (n : ℕ) → Shown (decimal n)
shown-decimal n = record {
  bytes = all-weaken digit (leb 32) (λ c t. let l = leb→le 48 c (and_0 (leb 48 c) (leb c 57) t) in le→leb 32 c (omega arith)) (decimal n) (decimal-numeral n).digits;
}

shown-digits : (bs : List ℕ) → Shown (binary_digits bs)
unfolding binary_digits
shown-digits [] = shown-none
shown-digits (b ∷ bs) = shown-append (shown-digits bs) (record { bytes = (le→leb 32 (48 + b) (omega arith), tt) })

pub shown-quoted : (n : Name) → All (leb 32) n → Shown (quoted n)
unfolding quoted bytes
shown-quoted n h =
    let name : Shown n = record { bytes = h } in
    shown-append (shown-text "|" tt) (shown-append name (shown-text "|" tt))

symbols-shown : T (every (λ s. every (leb 32) (bytes s)) symbols)
unfolding symbols bytes
symbols-shown = tt

-- past the table there is no text
listed-shown : (k : ℕ) (ss : List String) → T (every (λ s. every (leb 32) (bytes s)) ss) → T (every (leb 32) (bytes (get_or ss k "")))
unfolding bytes
listed-shown k [] h = tt
listed-shown zero (s ∷ ss) h = and_0 (every (leb 32) (bytes s)) _ h
listed-shown (suc k) (s ∷ ss) h = listed-shown k ss (and-1 (every (leb 32) (bytes s)) _ h)

shown-symbol : (k : ℕ) → Shown (symbol_of k)
unfolding symbol_of
shown-symbol k = shown-text (get_or symbols k "") (listed-shown k symbols symbols-shown)

shown-numerals : (ks : List ℕ) → Shown (numerals_text ks)
unfolding numerals_text bytes
shown-numerals [] = shown-none
shown-numerals (k ∷ ks) = shown-append (shown-text " " tt) (shown-append (shown-decimal k) (shown-numerals ks))

shown-operator : (s : List ℕ) (ks : List ℕ) → Shown s → Shown (operator_text s ks)
unfolding operator_text bytes
shown-operator s [] h = h
shown-operator s (k ∷ ks) h = shown-append (shown-text "(_ " tt) (shown-append h (shown-append (shown-numerals (k ∷ ks)) (shown-text ")" tt)))

shown-call : (n : Name) (ts : Trees) (s : List ℕ) → All (leb 32) n → Shown s → Shown (call_text n ts s)
unfolding call_text bytes
shown-call n none s h k = shown-quoted n h
shown-call n (more t ts) s h k = shown-append (shown-text "(" tt) (shown-append (shown-quoted n h) (shown-append k (shown-text ")" tt)))

-- ---------------------------------------------------------------- terms

module _ (D : Declarations) (declared : (n : Name) → T (in_list n (declared_names D)) → All (leb 32) n) (E : Scope TermSort)
    (bound : (n : Name) → T (in_list n (bound_names E)) → All (leb 32) n) where
  shown-name : (n : Name) (s : TermSort) → FitsIn D E (variable n) s → All (leb 32) n
  shown-name n s h = by-bound (bound_to E n) refl h
    where
      by-bound : (o : Option TermSort) → bound_to E n ≡ o → elim o as (λ _. Type 0) [ nothing ↦ FitsVariable D n s | some u ↦ s ≡ u ] → All (leb 32) n
      by-bound nothing e h = declared n (in-variables D n (variable-declared D n h.0 h.1))
      by-bound (some u) e h = bound n (bound_some E n u e)

  mutual
    unfolding term bytes

    pub term-shown : (t : Tree) (s : TermSort) → FitsIn D E t s → Shown (term t)
    term-shown (variable n) s h = shown-quoted n (shown-name n s h)
    term-shown (constant bs) s h = shown-append (shown-text "#b" tt) (shown-digits bs)
    term-shown (apply k ks ts) s h =
        shown-append (shown-text "(" tt) (shown-append (shown-operator (symbol_of k) ks (shown-symbol k)) (shown-append (terms-shown ts (h.0 ∷ h.1) h.2) (shown-text ")" tt)))
    term-shown (select a j ss) s h =
        shown-append (shown-text "(select " tt)
        (shown-append (stores-shown ss a h.0 h.1 (declared a (in-arrays D a (array-declared D a h.0 h.1 h.2))) h.5)
        (shown-append (shown-text " " tt) (shown-append (term-shown j (bits h.0) h.4) (shown-text ")" tt))))
    term-shown (call n ts) s h = shown-call n ts (terms ts) (declared n (in-functions D n (function-declared D n h.0 h.1 h.2))) (terms-shown ts (map bits h.0) h.3)

    pub terms-shown : (ts : Trees) (vs : List TermSort) → FitsAllIn D E ts vs → Shown (terms ts)
    terms-shown none [] h = shown-none
    terms-shown none (v ∷ vs) h = absurd h
    terms-shown (more t ts) [] h = absurd h
    terms-shown (more t ts) (v ∷ vs) h = shown-append (shown-text " " tt) (shown-append (term-shown t v h.0) (terms-shown ts vs h.1))

    pub stores-shown : (ss : Stores) (a : Name) (i v : ℕ) → All (leb 32) a → FitsStoresIn D E ss i v → Shown (stores a ss)
    stores-shown base a i v q h = shown-quoted a q
    stores-shown (store x y ss) a i v q h =
        shown-append (shown-text "(store " tt)
        (shown-append (stores-shown ss a i v q h.2)
        (shown-append (shown-text " " tt)
        (shown-append (term-shown x (bits i) h.0) (shown-append (shown-text " " tt) (shown-append (term-shown y (bits v) h.1) (shown-text ")" tt))))))
