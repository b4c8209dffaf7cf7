-- No text that reads as a tree has fewer parentheses than the tree's formula: leaving out a pair changes the tree or leaves no
-- formula.
use Prim.Native.Nat.{ℕ, zero, suc, ◌+◌, ◌≤◌, ◌<◌}
use Rattle.std.proofs.Math.Path.{◌≡◌, refl}
use Rattle.std.proofs.Common.{ap, sym, ◌∙◌, subst, le→leb, ltb→lt, eqb→eq, nltb→le, T_not}
use mathlib.Core.List.{List, [], ◌∷◌, ◌++◌, map}
use Rattle.std.specs.Prelude.{Bool, true, ◌&&◌, ◌||◌, ltb, eqb, length}
use Rattle.std.proofs.Math.Bool.{false, not}
use Rattle.std.proofs.Math.Option.{Option, none as nothing, some}
use native.Mathlib.Omega.{arith}
use Rattle.std.proofs.Math.Dec.{T, leb, leb→le, not_T}
use Rattle.lists.specs.Bytes.{bytes}
use Rattle.lists.specs.Tests.{same, in_list, every, All, and_0, and-1, or-not, or_elim, T→true, true→T, not→false, every_in, same→eq, same_refl, in_right, no→false}
use Rattle.reading.specs.Trees.{Name, Tree, variable, constant, apply, select, call, Trees, none as noTrees, more as moreTrees, Stores, base, store, Declarations}
use Rattle.smtlib.specs.Grammar.{Operator, plain, indexed, Term, Terms, none as no_terms, more as moreTerms}
use Rattle.smtlib.specs.Readings.{Row, operators, listed, row_names, built_in, variable_names, array_names, function_names, declared_names, Apart}
use Rattle.smtlib.specs.Readings.{Meaning, a_tree, an_array, as_meanings, numerals_of, Names, is_variable, is_array, is_constant, Applies, is_call, is_select, is_store, is_operator, Means, MeansAll, MeansIn}
use Rattle.smtlib.specs.Scopes.{symbol_of}
use Rattle.smtlib.specs.Sorts.{TermSort}
use Rattle.smtlib.proofs.ReadsUnique.{select-built-in, store-built-in, operator-built-in}
use Rattle.echo_spec.specs.Render.{symbol_of as printed}
use Rattle.theorems.specs.Terms.{Fits}
use Rattle.formula_text.specs.Notation.{Notation, between, before, named, notations, notation_of, level_as, level, formula}
use Rattle.formulas.specs.Tokens.{name_byte, Token, open⁽, close⁾, comma, numeral, binary, name, word, Lex}
use Rattle.formulas.specs.TokensUnique.{lex-unique}
use Rattle.formulas.specs.Phrases.{
  Sign,
  infixes,
  prefixes,
  others,
  lookup,
  meaning_of,
  Head,
  function,
  operator,
  Phrase,
  literal,
  reference,
  brackets,
  prefixed,
  infixed,
  applied,
  Phrases,
  none,
  more,
  numerals_tokens,
  head_tokens,
  phrase_tokens,
  later_tokens,
  head_ok,
  stands,
  stand,
  head_operator,
  phrase_term,
  phrase_terms,
  Reads,
}
use Rattle.formulas.specs.PhrasesUnique.{found-passes, infix-level, prefix-level}
use Rattle.formula_theorems.specs.Canonical.{Part, enclosed, phrases_of, applied_to, applied_phrase, phrase_of, parts, array_phrase, meaning-found, good}
use Rattle.formula_theorems.specs.ReadsUnique.{formula-lexed}

-- ---------------------------------------------------------------- opening parentheses

unfoldable mutual
  pub opens : Phrase → ℕ
  opens (literal ds) = 0
  opens (reference n) = 0
  opens (brackets p) = suc (opens p)
  opens (prefixed w p) = opens p
  opens (infixed p w q) = opens p + opens q
  opens (applied h p ps) = suc (opens p + opens_all ps)

  pub opens_all : Phrases → ℕ
  opens_all none = 0
  opens_all (more p ps) = opens p + opens_all ps

abbrev pub is_open : Token → ℕ
is_open open⁽ = 1
is_open close⁾ = 0
is_open comma = 0
is_open (numeral n) = 0
is_open (binary ds) = 0
is_open (name n) = 0
is_open (word w) = 0

-- how many opening parentheses are among the tokens
unfoldable pub openings : List Token → ℕ
openings [] = 0
openings (t ∷ ts) = is_open t + openings ts

openings-append : (ts us : List Token) → openings (ts ++ us) ≡ openings ts + openings us
unfolding openings
openings-append [] us = omega arith
openings-append (t ∷ ts) us = let e = openings-append ts us in omega arith

openings-numerals : (ks : List ℕ) → openings (numerals_tokens ks) ≡ 0
unfolding openings numerals_tokens
openings-numerals [] = refl
openings-numerals (k ∷ ks) = let e = openings-numerals ks in omega arith

openings-head : (h : Head) → openings (head_tokens h) ≡ 1
unfolding openings head_tokens
openings-head (function n) = omega arith
openings-head (operator w ks) = let e = openings-numerals ks in omega arith

mutual
  unfolding opens openings phrase_tokens

  openings-phrase : (p : Phrase) → openings (phrase_tokens p) ≡ opens p
  openings-phrase (literal ds) = omega arith
  openings-phrase (reference n) = omega arith
  openings-phrase (brackets p) =
      let e = openings-phrase p in
      let f = openings-append (phrase_tokens p) (close⁾ ∷ []) in
      omega arith
  openings-phrase (prefixed w p) = let e = openings-phrase p in omega arith
  openings-phrase (infixed p w q) =
      let e = openings-phrase p in
      let g = openings-phrase q in
      let f = openings-append (phrase_tokens p) (word w ∷ phrase_tokens q) in
      omega arith
  openings-phrase (applied h p ps) =
      let e = openings-phrase p in
      let g = openings-later ps in
      let f = openings-append (head_tokens h) (phrase_tokens p ++ later_tokens ps) in
      let k = openings-append (phrase_tokens p) (later_tokens ps) in
      let j = openings-head h in
      omega arith

  openings-later : (ps : Phrases) → openings (later_tokens ps) ≡ opens_all ps
  openings-later none = omega arith
  openings-later (more p ps) =
      let e = openings-phrase p in
      let g = openings-later ps in
      let f = openings-append (phrase_tokens p) (later_tokens ps) in
      omega arith

-- ---------------------------------------------------------------- the tables

abbrev between_at : Notation → ℕ → Bool
between_at (between l s) m = eqb l m
between_at (before s) m = false
between_at named m = false

abbrev is_before : Notation → Bool
is_before (between l s) = false
is_before (before s) = true
is_before named = false

abbrev is_named : Notation → Bool
is_named (between l s) = false
is_named (before s) = false
is_named named = true

-- what a row of the standard's table with this name passes, if it passes the test
row-passes : (q : ℕ → Bool) (w n : Name) (k p a : ℕ) (rs : List Row) → T (every (λ (r : Row). not (same (bytes r.name) w) || q r.kind) rs)
    → n ≡ w → T (listed n k p a rs) → T (q k)
row-passes q w n k p a [] h e l = absurd l
row-passes q w n k p a (r ∷ rs) h e l =
    or_elim (same n (bytes r.name) && (eqb k r.kind && (eqb p r.numerals && eqb a r.operands))) (listed n k p a rs) l
    (λ x.
    let f : n ≡ bytes r.name = same→eq n (bytes r.name) (and_0 (same n (bytes r.name)) _ x) in
    let g : k ≡ r.kind = eqb→eq k r.kind (and_0 (eqb k r.kind) _ (and-1 (same n (bytes r.name)) _ x)) in
    let b : T (same (bytes r.name) w) = subst (λ (z : Name). T (same z w)) (sym e ∙ f) (same_refl w) in
    rw g (or_elim (not (same (bytes r.name) w)) (q r.kind) (and_0 (not (same (bytes r.name) w) || q r.kind) _ h)
    (λ c. absurd (T_not (same (bytes r.name) w) c b)) (λ c. c)))
    (λ x. row-passes q w n k p a rs (and-1 (not (same (bytes r.name) w) || q r.kind) _ h) e x)

-- the tests of one row of the grammar's tables
infix_row : Sign → Bool
infix_row r =
    in_list (bytes r.meaning) built_in && (not (same (bytes r.meaning) (bytes "select")) && (not (same (bytes r.meaning) (bytes "store"))
    && every (λ (s : Row). not (same (bytes s.name) (bytes r.meaning)) || between_at (notation_of s.kind) r.level) operators))

prefix_row : Sign → Bool
prefix_row r =
    in_list (bytes r.meaning) built_in && (not (same (bytes r.meaning) (bytes "select")) && (not (same (bytes r.meaning) (bytes "store"))
    && every (λ (s : Row). not (same (bytes s.name) (bytes r.meaning)) || is_before (notation_of s.kind)) operators))

infix-rows : T (every infix_row infixes)
unfolding infix_row infixes operators built_in notations bytes same
infix-rows = tt

prefix-rows : T (every prefix_row prefixes)
unfolding prefix_row prefixes operators built_in notations bytes same
prefix-rows = tt

other_row : Name → Bool
other_row n = in_list n built_in && every (λ (s : Row). not (same (bytes s.name) n) || is_named (notation_of s.kind)) operators

other-rows : T (every other_row others)
unfolding other_row others operators built_in notations bytes same
other-rows = tt

-- ---------------------------------------------------------------- what a tree needs

abbrev part_of : Tree → Part
part_of t = record { level = level t; phrase = phrase_of t }

-- what the meaning needs where level l is wanted
abbrev least : ℕ → Meaning → ℕ
least l (a_tree t) = opens (enclosed l (part_of t))
least l (an_array a ss) = opens (array_phrase a ss)

abbrev least_all : List Meaning → ℕ
least_all [] = 0
least_all (u ∷ us) = least 0 u + least_all us

enclosed-most : (l : ℕ) (o : Part) → opens (enclosed l o) ≤ suc (opens o.phrase)
unfolding enclosed opens
enclosed-most l o = by_level (ltb o.level l) refl
  where
    by_level : (b : Bool) → ltb o.level l ≡ b → opens (enclosed l o) ≤ suc (opens o.phrase)
    by_level true e = rw (e, enclosed) (omega arith)
    by_level false e = rw (e, enclosed) (omega arith)

enclosed-bare : (l : ℕ) (o : Part) → l ≤ o.level → opens (enclosed l o) ≡ opens o.phrase
unfolding enclosed
enclosed-bare l o h =
    let e : ltb o.level l ≡ false = no→false (ltb o.level l) (λ t. let z : o.level < l = ltb→lt o.level l t in omega arith) in
    rw (e, enclosed)

least-none : (t : Tree) → least 0 (a_tree t) ≡ opens (phrase_of t)
least-none t = enclosed-bare 0 (part_of t) (omega arith)

least_more : (l : ℕ) (m : Meaning) → least l m ≤ suc (least 0 m)
least_more l (a_tree t) =
    let a = enclosed-most l (part_of t) in
    let b = least-none t in
    omega arith
least_more l (an_array a ss) = omega arith

least-closed : (l : ℕ) (t : Tree) → opens (enclosed l (part_of t)) ≡ opens (phrase_of t) → least l (a_tree t) ≡ opens (phrase_of t)
least-closed l t e = e

least-trees : (ts : Trees) → least_all (as_meanings ts) ≡ opens_all (phrases_of (parts ts))
unfolding opens phrases_of phrase_of
least-trees noTrees = refl
least-trees (moreTrees t ts) =
    let a = least-none t in
    let b = least-trees ts in
    omega arith

-- ---------------------------------------------------------------- operators by their notation

record Between (x : Notation) (n : Name) (a b : Part) (m : ℕ) : Type 0 where
  count : opens (applied_phrase x n [] (a ∷ b ∷ [])) ≡ opens (enclosed m a) + opens (enclosed (suc m) b)
  level_is : level_as x ≡ m

opens-between : (x : Notation) (n : Name) (a b : Part) (m : ℕ) → T (between_at x m) → Between x n a b m
unfolding applied_phrase opens
opens-between (between l s) n a b m h =
    let e : l ≡ m = eqb→eq l m h in
    record { count = rw e; level_is = e }
opens-between (before s) n a b m h = absurd h
opens-between named n a b m h = absurd h

record Before (x : Notation) (n : Name) (a : Part) : Type 0 where
  count : opens (applied_phrase x n [] (a ∷ [])) ≡ opens (enclosed 10 a)
  level_is : level_as x ≡ 10

opens_before : (x : Notation) (n : Name) (a : Part) → T (is_before x) → Before x n a
unfolding applied_phrase opens
opens_before (between l s) n a h = absurd h
opens_before (before s) n a h = record { count = refl; level_is = refl }
opens_before named n a h = absurd h

record Named (x : Notation) (n : Name) (ks : List ℕ) (a : Part) (os : List Part) : Type 0 where
  count : opens (applied_phrase x n ks (a ∷ os)) ≡ suc (opens a.phrase + opens_all (phrases_of os))
  level_is : level_as x ≡ 11

opens-named : (x : Notation) (n : Name) (ks : List ℕ) (a : Part) (os : List Part) → T (is_named x) → Named x n ks a os
unfolding applied_phrase applied_to opens
opens-named (between l s) n ks a os h = absurd h
opens-named (before s) n ks a os h = absurd h
opens-named named n ks a os h = record { count = refl; level_is = refl }

-- ---------------------------------------------------------------- every phrase that says the meaning has as many

module _ (D : Declarations) (apart : Apart D) where
  no-function : (n : Name) → T (in_list n built_in) → T (in_list n (function_names D)) → ⊥
  no-function n h k =
      let l : T (in_list n (declared_names D)) = in_right n (variable_names D) (array_names D ++ function_names D) (in_right n (array_names D) (function_names D) k) in
      T_not (in_list n built_in) (every_in (λ m. not (in_list m built_in)) (declared_names D) n apart.foreign l) h

  -- an operator of the theories with the operands' meanings, its symbol none of the arrays'
  data Operated (n : Name) (us : List Meaning) (m : Meaning) : Type 0 where
    operated : (k : ℕ) (ts : Trees) → T (listed n k 0 (length us) operators) → us ≡ as_meanings ts → m ≡ a_tree (apply k [] ts) → Operated n us m

  operates : (n : Name) (us : List Meaning) (m : Meaning) → T (in_list n built_in) → T (not (same n (bytes "select"))) → T (not (same n (bytes "store")))
      → Applies D (plain n) us m → Operated n us m
  operates n us m b s t (is_call n' ts e h p q) =
      let f : n ≡ n' = cc in
      absurd (no-function n b (rw f h))
  operates n us m b s t (is_select a ss i e p q) =
      let f : n ≡ bytes "select" = cc in
      absurd (T_not (same n (bytes "select")) s (rw f (same_refl (bytes "select"))))
  operates n us m b s t (is_store a ss i v e p q) =
      let f : n ≡ bytes "store" = cc in
      absurd (T_not (same n (bytes "store")) t (rw f (same_refl (bytes "store"))))
  operates n us m b s t (is_operator k ts h p q) = operated k ts h p q

  least-infix : (l : ℕ) (r : Sign) (w : Name) (u v m : Meaning) → lookup infixes w ≡ some r → l ≤ r.level
      → Applies D (plain (meaning_of infixes w)) (u ∷ v ∷ []) m → least l m ≤ least r.level u + least (suc r.level) v
  unfolding infix_row phrase_of level
  least-infix l r w u v m e z x =
      let n : Name = bytes r.meaning in
      let t = found-passes infix_row infixes w r infix-rows e in
      let t₁ = and-1 (in_list n built_in) _ t in
      let t₂ = and-1 (not (same n (bytes "select"))) _ t₁ in
      by-operator (and-1 (not (same n (bytes "store"))) _ t₂)
      (operates n (u ∷ v ∷ []) m (and_0 (in_list n built_in) _ t) (and_0 (not (same n (bytes "select"))) _ t₁) (and_0 (not (same n (bytes "store"))) _ t₂)
      (subst (λ (o : Name). Applies D (plain o) (u ∷ v ∷ []) m) (meaning-found infixes w r e) x))
    where
      by-operator : T (every (λ (s : Row). not (same (bytes s.name) (bytes r.meaning)) || between_at (notation_of s.kind) r.level) operators)
          → Operated (bytes r.meaning) (u ∷ v ∷ []) m → least l m ≤ least r.level u + least (suc r.level) v
      by-operator t (operated k noTrees h p q) = absurd (let z : ◌≡◌ {A = ℕ} 0 1 = cc in omega arith)
      by-operator t (operated k (moreTrees a noTrees) h p q) = absurd (let z : ◌≡◌ {A = ℕ} 0 1 = cc in omega arith)
      by-operator t (operated k (moreTrees a (moreTrees b noTrees)) h p q) =
          let x = row-passes (λ j. between_at (notation_of j) r.level) (bytes r.meaning) (bytes r.meaning) k 0 2 operators t refl h in
          let y = opens-between (notation_of k) (printed k) (part_of a) (part_of b) r.level x in
          let f : u ≡ a_tree a = cc in
          let g : v ≡ a_tree b = cc in
          let i = enclosed-bare l (part_of (apply k [] (moreTrees a (moreTrees b noTrees)))) (rw y.level_is z) in
          rw (q, f, g, i, y.count) (omega arith)
      by-operator t (operated k (moreTrees a (moreTrees b (moreTrees c ts))) h p q) = absurd (let z : ◌≡◌ {A = ℕ} 0 1 = cc in omega arith)

  least-prefix : (l : ℕ) (r : Sign) (w : Name) (u m : Meaning) → lookup prefixes w ≡ some r → l ≤ 10
      → Applies D (plain (meaning_of prefixes w)) (u ∷ []) m → least l m ≤ least 10 u
  unfolding prefix_row phrase_of level
  least-prefix l r w u m e z x =
      let n : Name = bytes r.meaning in
      let t = found-passes prefix_row prefixes w r prefix-rows e in
      let t₁ = and-1 (in_list n built_in) _ t in
      let t₂ = and-1 (not (same n (bytes "select"))) _ t₁ in
      by-operator (and-1 (not (same n (bytes "store"))) _ t₂)
      (operates n (u ∷ []) m (and_0 (in_list n built_in) _ t) (and_0 (not (same n (bytes "select"))) _ t₁) (and_0 (not (same n (bytes "store"))) _ t₂)
      (subst (λ (o : Name). Applies D (plain o) (u ∷ []) m) (meaning-found prefixes w r e) x))
    where
      by-operator : T (every (λ (s : Row). not (same (bytes s.name) (bytes r.meaning)) || is_before (notation_of s.kind)) operators)
          → Operated (bytes r.meaning) (u ∷ []) m → least l m ≤ least 10 u
      by-operator t (operated k noTrees h p q) = absurd (let z : ◌≡◌ {A = ℕ} 0 1 = cc in omega arith)
      by-operator t (operated k (moreTrees a noTrees) h p q) =
          let x = row-passes (λ j. is_before (notation_of j)) (bytes r.meaning) (bytes r.meaning) k 0 1 operators t refl h in
          let y = opens_before (notation_of k) (printed k) (part_of a) x in
          let f : u ≡ a_tree a = cc in
          let i = enclosed-bare l (part_of (apply k [] (moreTrees a noTrees))) (rw y.level_is z) in
          rw (q, f, i, y.count) (omega arith)
      by-operator t (operated k (moreTrees a (moreTrees b ts)) h p q) = absurd (let z : ◌≡◌ {A = ℕ} 0 1 = cc in omega arith)

  -- what is closed in itself needs no brackets
  closed : (l : ℕ) (t : Tree) → l ≤ 11 → level t ≡ 11 → least l (a_tree t) ≡ opens (phrase_of t)
  closed l t z e = enclosed-bare l (part_of t) (omega arith)

  operator-symbol : (w : Name) (ks : List ℕ) → symbol_of (head_operator (operator w ks)) ≡ w
  operator-symbol w [] = refl
  operator-symbol w (k ∷ ks) = refl

  plain-only : (w n : Name) (ks : List ℕ) → head_operator (operator w ks) ≡ plain n → w ≡ n
  plain-only w n [] e = cc
  plain-only w n (k ∷ ks) e = cc

  least-select : (l : ℕ) (a : Name) (i : Tree) (ss : Stores) → l ≤ 11 → least l (a_tree (select a i ss)) ≡ suc (least 0 (an_array a ss) + least_all (a_tree i ∷ []))
  unfolding phrase_of level opens
  least-select l a i ss z =
      let e = closed l (select a i ss) z refl in
      let f = least-none i in
      omega arith

  least-store : (a : Name) (i v : Tree) (ss : Stores) → least 0 (an_array a (store i v ss)) ≡ suc (least 0 (an_array a ss) + least_all (a_tree i ∷ a_tree v ∷ []))
  unfolding phrase_of opens
  least-store a i v ss =
      let f = least-none i in
      let g = least-none v in
      omega arith

  least-operator : (l : ℕ) (w : Name) (ks : List ℕ) (u : Meaning) (us : List Meaning) (m : Meaning) → l ≤ 11 → T (in_list w others)
      → Applies D (head_operator (operator w ks)) (u ∷ us) m → least l m ≤ suc (least 0 u + least_all us)
  unfolding other_row phrase_of level
  least-operator l w ks u us m z h (is_call n ts e f p q) =
      absurd (no-function n (subst (λ (x : Name). T (in_list x built_in)) (plain-only w n ks e) (and_0 (in_list w built_in) _ (every_in other_row others w other-rows h))) f)
  least-operator l w ks u us m z h (is_select a ss i e p q) =
      let f : u ≡ an_array a ss = cc in
      let g : us ≡ a_tree i ∷ [] = cc in
      let x = least-select l a i ss z in
      rw (q, f, g, x) (omega arith)
  least-operator l w ks u us m z h (is_store a ss i v e p q) =
      let f : u ≡ an_array a ss = cc in
      let g : us ≡ a_tree i ∷ a_tree v ∷ [] = cc in
      let x = least-store a i v ss in
      rw (q, f, g) (omega arith)
  least-operator l w ks u us m z h (is_operator k noTrees f p q) = absurd (let z : ◌≡◌ {A = ℕ} 0 1 = cc in omega arith)
  least-operator l w ks u us m z h (is_operator k (moreTrees a ts) f p q) =
      let js : List ℕ = numerals_of (head_operator (operator w ks)) in
      let t = and-1 (in_list w built_in) _ (every_in other_row others w other-rows h) in
      let x = row-passes (λ j. is_named (notation_of j)) w (symbol_of (head_operator (operator w ks))) k (length js) (length (u ∷ us)) operators t (operator-symbol w ks) f in
      let y = opens-named (notation_of k) (printed k) js (part_of a) (parts ts) x in
      let e₁ : u ≡ a_tree a = cc in
      let e₂ : us ≡ as_meanings ts = cc in
      let i = closed l (apply k js (moreTrees a ts)) z y.level_is in
      let c₁ = least-none a in
      let c₂ = least-trees ts in
      rw (q, e₁, e₂, i, y.count) (omega arith)

  least-function : (l : ℕ) (n : Name) (u : Meaning) (us : List Meaning) (m : Meaning) → l ≤ 11 → T (not (in_list n built_in))
      → Applies D (plain n) (u ∷ us) m → least l m ≤ suc (least 0 u + least_all us)
  unfolding phrase_of level applied_to opens
  least-function l n u us m z h (is_call n' noTrees e f p q) = absurd (let z : ◌≡◌ {A = ℕ} 0 1 = cc in omega arith)
  least-function l n u us m z h (is_call n' (moreTrees a ts) e f p q) =
      let e₁ : u ≡ a_tree a = cc in
      let e₂ : us ≡ as_meanings ts = cc in
      let i = closed l (call n' (moreTrees a ts)) z refl in
      let c₁ = least-none a in
      let c₂ = least-trees ts in
      rw (q, e₁, e₂, i) (omega arith)
  least-function l n u us m z h (is_select a ss i e p q) =
      let f : n ≡ bytes "select" = cc in
      absurd (T_not (in_list n built_in) h (rw f select-built-in))
  least-function l n u us m z h (is_store a ss i v e p q) =
      let f : n ≡ bytes "store" = cc in
      absurd (T_not (in_list n built_in) h (rw f store-built-in))
  least-function l n u us m z h (is_operator k ts f p q) = absurd (T_not (in_list n built_in) h (operator-built-in n k 0 (length (u ∷ us)) f))

  least-head : (x : Head) (l : ℕ) (u : Meaning) (us : List Meaning) (m : Meaning) → l ≤ 11 → T (head_ok x)
      → Applies D (head_operator x) (u ∷ us) m → least l m ≤ suc (least 0 u + least_all us)
  least-head (function n) l u us m z h f = least-function l n u us m z h f
  least-head (operator w ks) l u us m z h f = least-operator l w ks u us m z h f

  least-name : (l : ℕ) (n : Name) (m : Meaning) → l ≤ 11 → Names D n m → least l m ≤ 0
  unfolding phrase_of level applied_to opens
  least-name l n m z (is_variable h e) = let i = closed l (variable n) z refl in rw (e, i) (omega arith)
  least-name l n m z (is_array h e) = rw e (omega arith)
  least-name l n m z (is_constant h e) = let i = closed l (call n noTrees) z refl in rw (e, i) (omega arith)

  least-literal : (l : ℕ) (bs : List ℕ) (m : Meaning) → l ≤ 11 → m ≡ a_tree (constant bs) → least l m ≤ 0
  unfolding phrase_of level opens
  least-literal l bs m z e = let i = closed l (constant bs) z refl in rw (e, i) (omega arith)

  -- the statement for a phrase
  abbrev Fewest : Phrase → Type 0
  Fewest p = (l : ℕ) (m : Meaning) → l ≤ 11 → T (stands l p) → Means D (phrase_term p) m → least l m ≤ opens p

  fewest-prefixed : (w : Name) (p : Phrase) → Fewest p → Fewest (prefixed w p)
  unfolding stands phrase_term MeansIn opens
  fewest-prefixed w p f l m z h (u, us, x, xs, y) = by_row (lookup prefixes w) refl h us xs y
    where
      by_row : (o : Option Sign) → lookup prefixes w ≡ o → T (elim o as (λ x. Bool) [ nothing ↦ false | some r ↦ leb l r.level && stands r.level p ])
          → (us : List Meaning) → MeansAll D no_terms us → Applies D (plain (meaning_of prefixes w)) (u ∷ us) m → least l m ≤ opens p
      by_row nothing e h us xs y = absurd h
      by_row (some r) e h (v ∷ us) xs y = absurd xs
      by_row (some r) e h [] xs y =
          let k : r.level ≡ 10 = prefix-level w r e in
          let b : l ≤ r.level = leb→le l r.level (and_0 (leb l r.level) _ h) in
          let c = f 10 u (omega arith) (subst (λ (j : ℕ). T (stands j p)) k (and-1 (leb l r.level) _ h)) x in
          let d = least-prefix l r w u m e (omega arith) y in
          omega arith

  fewest-infixed : (p : Phrase) (w : Name) (q : Phrase) → Fewest p → Fewest q → Fewest (infixed p w q)
  unfolding stands phrase_term MeansIn opens
  fewest-infixed p w q f g l m z h (u, us, x, xs, y) = by_row (lookup infixes w) refl h us xs y
    where
      by_row : (o : Option Sign) → lookup infixes w ≡ o
          → T (elim o as (λ x. Bool) [ nothing ↦ false | some r ↦ leb l r.level && (stands r.level p && stands (suc r.level) q) ])
          → (us : List Meaning) → MeansAll D (moreTerms (phrase_term q) no_terms) us → Applies D (plain (meaning_of infixes w)) (u ∷ us) m → least l m ≤ opens p + opens q
      by_row nothing e h us xs y = absurd h
      by_row (some r) e h [] xs y = absurd xs
      by_row (some r) e h (v ∷ v' ∷ us) xs y = absurd xs.1
      by_row (some r) e h (v ∷ []) xs y =
          let k : r.level < 10 = infix-level w r e in
          let b : l ≤ r.level = leb→le l r.level (and_0 (leb l r.level) _ h) in
          let h' = and-1 (leb l r.level) _ h in
          let c = f r.level u (omega arith) (and_0 (stands r.level p) _ h') x in
          let c' = g (suc r.level) v (omega arith) (and-1 (stands r.level p) _ h') xs.0 in
          let d = least-infix l r w u v m e b y in
          omega arith

  mutual
    unfolding stands phrase_term MeansIn opens

    fewest : (p : Phrase) (l : ℕ) (m : Meaning) → l ≤ 11 → T (stands l p) → Means D (phrase_term p) m → least l m ≤ opens p
    fewest (literal ds) l m z h x = least-literal l _ m z x
    fewest (reference n) l m z h x = least-name l n m z x
    fewest (brackets p) l m z h x =
        let c = fewest p 0 m (omega arith) h x in
        let d = least_more l m in
        omega arith
    fewest (prefixed w p) l m z h x = fewest-prefixed w p (λ l m z h x. fewest p l m z h x) l m z h x
    fewest (infixed p w q) l m z h x = fewest-infixed p w q (λ l m z h x. fewest p l m z h x) (λ l m z h x. fewest q l m z h x) l m z h x
    fewest (applied k p ps) l m z h (u, us, x, xs, y) =
        let h' = and-1 (head_ok k) _ h in
        let c = fewest p 0 u (omega arith) (and_0 (stands 0 p) _ h') x in
        let d = fewest-all ps us (and-1 (stands 0 p) _ h') xs in
        let e = least-head k l u us m z (and_0 (head_ok k) _ h) y in
        omega arith

    fewest-all : (ps : Phrases) (us : List Meaning) → T (stand ps) → MeansAll D (phrase_terms ps) us → least_all us ≤ opens_all ps
    fewest-all none [] h x = omega arith
    fewest-all none (u ∷ us) h x = absurd x
    fewest-all (more p ps) [] h x = absurd x
    fewest-all (more p ps) (u ∷ us) h x =
        let c = fewest p 0 u (omega arith) (and_0 (stands 0 p) _ h) x.0 in
        let d = fewest-all ps us (and-1 (stands 0 p) _ h) x.1 in
        omega arith

  -- ---------------------------------------------------------------- leaving out a pair

  -- no text that reads as the tree has fewer opening parentheses than the tree's formula
  pub fewest-parentheses : (quotes : (n : Name) → T (in_list n (declared_names D)) → All name_byte n) (t : Tree) (s : TermSort) → Fits D t s
      → (ts : List Token) → Lex (formula t) ts → (b : List ℕ) (us : List Token) → Lex b us → Reads D b t → openings ts ≤ openings us
  fewest-parentheses quotes t s h ts l b us k r =
      let f = formula-lexed D quotes apart t s h in
      let e : ts ≡ phrase_tokens (phrase_of t) = lex-unique (formula t) ts (phrase_tokens (phrase_of t)) l f in
      let g : us ≡ phrase_tokens r.phrase = lex-unique b us r.tokens k r.lexed ∙ r.parsed in
      let a = openings-phrase (phrase_of t) in
      let c = openings-phrase r.phrase in
      let d = fewest r.phrase 0 (a_tree t) (omega arith) r.levels r.means in
      let n = least-none t in
      rw (e, g) (omega arith)

  -- with any pair of parentheses left out, the rest does not read as the tree
  pub none-left-out : (quotes : (n : Name) → T (in_list n (declared_names D)) → All name_byte n) (t : Tree) (s : TermSort) → Fits D t s
      → (xs ys zs : List Token) → Lex (formula t) (xs ++ (open⁽ ∷ (ys ++ (close⁾ ∷ zs))))
      → (b : List ℕ) → Lex b (xs ++ (ys ++ zs)) → Reads D b t → ⊥
  unfolding openings
  none-left-out quotes t s h xs ys zs l b k r =
      let a = fewest-parentheses quotes t s h _ l b _ k r in
      let c₁ = openings-append xs (open⁽ ∷ (ys ++ (close⁾ ∷ zs))) in
      let c₂ = openings-append ys (close⁾ ∷ zs) in
      let c₃ = openings-append xs (ys ++ zs) in
      let c₄ = openings-append ys zs in
      omega arith
