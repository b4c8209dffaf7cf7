-- The phrase of a tree: the formula is its text, it keeps to the levels, and it stands for the tree's term.
use Rattle.std.specs.Prelude.{ℕ, zero, suc, ◌≤◌, ◌<◌, ◌≡◌, refl, List, [], ◌∷◌, ◌++◌, map, Bool, true, false, ◌&&◌, ◌||◌, not, T, leb, ltb, eqb, length}
use Prim.Native.String.{String}
use Rattle.std.proofs.Common.{ap, sym, ◌∙◌, subst, append_assoc, arith, le→leb, ltb→lt, nltb→le, eqb→eq}
use Rattle.std.proofs.Math.Option.{Option, none as nothing, some}
use Rattle.lists.specs.Bytes.{bytes}
use Rattle.lists.specs.Tests.{same, in_list, every, All, and_T, and_0, and-1, or_l, or_r, or_elim, T→true, true→T, every_in, same→eq, same_refl, in_left, in_right, no→false}
use Rattle.reading.specs.Trees.{Name, Tree, variable, constant, apply, select, call, Trees, none as noTrees, more as moreTrees, Stores, base, store, Declarations}
use Rattle.smtlib.specs.Lexicon.{Binary}
use Rattle.smtlib.specs.Grammar.{Operator, plain, indexed, Term, Terms, none as no_terms, more as moreTerms, application as applicationTerm}
use Rattle.smtlib.specs.Readings.{Row, operators, listed, built_in, variable_names, array_names, function_names, declared_names, Apart}
use Rattle.smtlib.specs.Sorts.{TermSort, bits}
use Rattle.echo_spec.specs.Render.{symbols, symbol_of, decimal, binary_digits, quoted}
use Rattle.theorems.specs.Terms.{operator_of, applied as appliedTerm, term_of, terms_of, array_term, Fits, FitsAll, FitsStores, variable-declared, array-declared, function-declared}
use Rattle.theorems.specs.Texts.{constant-binary}
use Rattle.formulas.specs.Tokens.{name_byte}
use Rattle.formula_text.specs.Notation.{Notation, between, before, named, notations, notation_of, level_as, level, Operand, placed, later, parted, application, call_text}
use Rattle.formula_text.specs.Notation.{operand_texts, applied as appliedText, formula, operands, array_text}
use Rattle.formulas.specs.Phrases.{
  Sign,
  infixes,
  prefixes,
  others,
  lookup,
  meaning_of,
  Head,
  function,
  operator,
  Phrase,
  literal,
  reference,
  brackets,
  prefixed,
  infixed,
  applied,
  Phrases,
  none,
  more,
  head_ok,
  stands,
  stand,
  head_operator,
  phrase_term,
  phrase_terms,
}
use Rattle.formula_theorems.specs.Written.{numerals_text, head_text, write, write_later, symbols_of, Spelled, SpelledAll, SpelledHead}

-- ---------------------------------------------------------------- the phrase of a tree

-- an operand's phrase, and the level of its outermost operator
pub record Part : Type 0 where
  pub level : ℕ
  pub phrase : Phrase

unfoldable pub enclosed : ℕ → Part → Phrase
enclosed l o = elim (ltb o.level l) [ true ↦ brackets o.phrase | false ↦ o.phrase ]

unfoldable pub phrases_of : List Part → Phrases
phrases_of [] = none
phrases_of (o ∷ os) = more o.phrase (phrases_of os)

-- p where there are no operands
unfoldable pub applied_to : Phrase → Head → List Part → Phrase
applied_to p h [] = p
applied_to p h (o ∷ os) = applied h o.phrase (phrases_of os)

unfoldable pub applied_phrase : Notation → Name → List ℕ → List Part → Phrase
applied_phrase (between l s) n ks [] = literal []
applied_phrase (between l s) n ks (a ∷ []) = applied_to (literal []) (operator n ks) (a ∷ [])
applied_phrase (between l s) n ks (a ∷ b ∷ []) = infixed (enclosed l a) (bytes s) (enclosed (suc l) b)
applied_phrase (between l s) n ks (a ∷ b ∷ c ∷ os) = applied_to (literal []) (operator n ks) (a ∷ b ∷ c ∷ os)
applied_phrase (before s) n ks [] = literal []
applied_phrase (before s) n ks (a ∷ []) = prefixed (bytes s) (enclosed 10 a)
applied_phrase (before s) n ks (a ∷ b ∷ os) = applied_to (literal []) (operator n ks) (a ∷ b ∷ os)
applied_phrase named n ks os = applied_to (literal []) (operator n ks) os

unfoldable mutual
  pub phrase_of : Tree → Phrase
  phrase_of (variable n) = reference n
  phrase_of (constant bs) = literal (binary_digits bs)
  phrase_of (apply k ks ts) = applied_phrase (notation_of k) (symbol_of k) ks (parts ts)
  phrase_of (select a j ss) = applied (operator (bytes "select") []) (array_phrase a ss) (more (phrase_of j) none)
  phrase_of (call n ts) = applied_to (reference n) (function n) (parts ts)

  pub parts : Trees → List Part
  parts noTrees = []
  parts (moreTrees t ts) = record { level = level t; phrase = phrase_of t } ∷ parts ts

  pub array_phrase : Name → Stores → Phrase
  array_phrase a base = reference a
  array_phrase a (store i v ss) = applied (operator (bytes "store") []) (array_phrase a ss) (more (phrase_of i) (more (phrase_of v) none))

-- ---------------------------------------------------------------- the formula is the phrase's text

abbrev operand_of : Part → Operand
operand_of o = record { level = o.level; text = write o.phrase }

placed-written : (l : ℕ) (o : Part) → placed l (operand_of o) ≡ write (enclosed l o)
unfolding placed enclosed write
placed-written l o = by_level (ltb o.level l) refl
  where
    by_level : (b : Bool) → ltb o.level l ≡ b → placed l (operand_of o) ≡ write (enclosed l o)
    by_level true e = rw (e, placed, enclosed)
    by_level false e = rw (e, placed, enclosed)

later-written : (os : List Part) → later (operand_texts (map operand_of os)) ++ bytes ")" ≡ write_later (phrases_of os)
unfolding later operand_texts write phrases_of bytes
later-written [] = refl
later-written (o ∷ os) = simp append_assoc (ap (λ (x : List ℕ). 44 ∷ 32 ∷ (write o.phrase ++ x)) (later-written os))

parted-numerals : (ks : List ℕ) (x : List ℕ) (xs : List (List ℕ)) → parted (map decimal ks ++ (x ∷ xs)) ≡ numerals_text ks ++ (x ++ later xs)
unfolding parted later numerals_text bytes
parted-numerals [] x xs = refl
parted-numerals (k ∷ ks) x xs = simp append_assoc (ap (λ (y : List ℕ). decimal k ++ y) (after ks))
  where
    after : (js : List ℕ) → later (map decimal js ++ (x ∷ xs)) ≡ bytes ", " ++ (numerals_text js ++ (x ++ later xs))
    after [] = refl
    after (j ∷ js) = simp append_assoc (ap (λ (y : List ℕ). 44 ∷ 32 ∷ (decimal j ++ y)) (after js))

operator-written : (n : Name) (ks : List ℕ) (p : Phrase) (a : Part) (os : List Part)
    → application n (map decimal ks ++ operand_texts (map operand_of (a ∷ os))) ≡ write (applied_to p (operator n ks) (a ∷ os))
unfolding application applied_to write head_text operand_texts bytes
operator-written n ks p a os =
    ap (λ (x : List ℕ). n ++ (40 ∷ (x ++ (41 ∷ [])))) (parted-numerals ks (write a.phrase) (operand_texts (map operand_of os)))
    ∙ simp append_assoc (ap (λ (x : List ℕ). n ++ (40 ∷ (numerals_text ks ++ (write a.phrase ++ x)))) (later-written os))

call-written : (n : Name) (os : List Part) → call_text (quoted n) (operand_texts (map operand_of os)) ≡ write (applied_to (reference n) (function n) os)
unfolding call_text application applied_to write head_text operand_texts parted bytes
call-written n [] = refl
call-written n (a ∷ os) =
    simp append_assoc (ap (λ (x : List ℕ). quoted n ++ (40 ∷ (write a.phrase ++ x))) (later-written os))

applied-written : (x : Notation) (n : Name) (ks : List ℕ) (a : Part) (os : List Part)
    → appliedText x n ks (map operand_of (a ∷ os)) ≡ write (applied_phrase x n ks (a ∷ os))
unfolding appliedText applied_phrase write
applied-written (between l s) n ks a [] = operator-written n ks (literal []) a []
applied-written (between l s) n ks a (b ∷ []) = λ i. placed-written l a i ++ (bytes " " ++ (bytes s ++ (bytes " " ++ placed-written (suc l) b i)))
applied-written (between l s) n ks a (b ∷ c ∷ os) = operator-written n ks (literal []) a (b ∷ c ∷ os)
applied-written (before s) n ks a [] = ap (λ (x : List ℕ). bytes s ++ x) (placed-written 10 a)
applied-written (before s) n ks a (b ∷ os) = operator-written n ks (literal []) a (b ∷ os)
applied-written named n ks a os = operator-written n ks (literal []) a os

-- ---------------------------------------------------------------- the printer's table and the grammar's

unfoldable pub row_is : List Sign → String → ℕ → Name → Bool
row_is rs s l n = elim (lookup rs (bytes s)) [ nothing ↦ false | some r ↦ eqb r.level l && same (bytes r.meaning) n ]

-- the kind k, with p numerals and a operands, is written by the notation as the grammar has it
unfoldable pub kind_as : Notation → ℕ → ℕ → ℕ → Bool
kind_as (between l s) k p a = eqb p 0 && (eqb a 2 && row_is infixes s l (symbol_of k))
kind_as (before s) k p a = eqb p 0 && (eqb a 1 && row_is prefixes s 10 (symbol_of k))
kind_as named k p a = in_list (symbol_of k) others

kinds-ok : T (every (λ (r : Row). kind_as (notation_of r.kind) r.kind r.numerals r.operands) operators)
unfolding operators kind_as row_is notations infixes prefixes others lookup symbol_of symbols bytes same
kinds-ok = tt

listed-passes : (q : ℕ → ℕ → ℕ → Bool) (n : Name) (k p a : ℕ) (rs : List Row) → T (every (λ (r : Row). q r.kind r.numerals r.operands) rs)
    → T (listed n k p a rs) → T (q k p a)
listed-passes q n k p a [] h l = absurd l
listed-passes q n k p a (r ∷ rs) h l =
    or_elim (same n (bytes r.name) && (eqb k r.kind && (eqb p r.numerals && eqb a r.operands))) (listed n k p a rs) l
    (λ x.
    let y = and-1 (same n (bytes r.name)) _ x in
    let z = and-1 (eqb k r.kind) _ y in
    let e₁ : k ≡ r.kind = eqb→eq k r.kind (and_0 (eqb k r.kind) _ y) in
    let e₂ : p ≡ r.numerals = eqb→eq p r.numerals (and_0 (eqb p r.numerals) _ z) in
    let e₃ : a ≡ r.operands = eqb→eq a r.operands (and-1 (eqb p r.numerals) _ z) in
    rw (e₁, e₂, e₃) (and_0 (q r.kind r.numerals r.operands) _ h))
    (λ x. listed-passes q n k p a rs (and-1 (q r.kind r.numerals r.operands) _ h) x)

pub kind_ok : (k p a : ℕ) → T (listed (symbol_of k) k p a operators) → T (kind_as (notation_of k) k p a)
kind_ok k p a h = listed-passes (λ k p a. kind_as (notation_of k) k p a) (symbol_of k) k p a operators kinds-ok h

-- the row of a symbol
record Found (rs : List Sign) (w : Name) (l : ℕ) (m : Name) : Type 0 where
  row : Sign
  found : lookup rs w ≡ some row
  level_is : row.level ≡ l
  meaning_is : bytes row.meaning ≡ m

row-found : (rs : List Sign) (s : String) (l : ℕ) (n : Name) → T (row_is rs s l n) → Found rs (bytes s) l n
unfolding row_is
row-found rs s l n h = by_row (lookup rs (bytes s)) refl h
  where
    by_row : (o : Option Sign) → lookup rs (bytes s) ≡ o
        → T (elim o as (λ x. Bool) [ nothing ↦ false | some r ↦ eqb r.level l && same (bytes r.meaning) n ]) → Found rs (bytes s) l n
    by_row nothing e h = absurd h
    by_row (some r) e h = record {
      row = r;
      found = e;
      level_is = eqb→eq r.level l (and_0 (eqb r.level l) _ h);
      meaning_is = same→eq (bytes r.meaning) n (and-1 (eqb r.level l) _ h);
    }

pub found-symbol : (rs : List Sign) (w : Name) (r : Sign) → lookup rs w ≡ some r → T (in_list w (symbols_of rs))
unfolding lookup
found-symbol [] w r e = absurd (let z : ◌≡◌ {A = ℕ} 0 1 = cc in omega arith)
found-symbol (x ∷ rs) w r e = by_first (same w (bytes x.symbol)) refl e (λ f. found-symbol rs w r f)
  where
    by_first : (b : Bool) → same w (bytes x.symbol) ≡ b → lookup (x ∷ rs) w ≡ some r → (lookup rs w ≡ some r → T (in_list w (symbols_of rs)))
        → T (in_list w (symbols_of (x ∷ rs)))
    by_first true f e rest = or_l (same w (bytes x.symbol)) _ (true→T f)
    by_first false f e rest = or_r (same w (bytes x.symbol)) _ (rest (rw (f, lookup) at e))

pub meaning-found : (rs : List Sign) (w : Name) (r : Sign) → lookup rs w ≡ some r → meaning_of rs w ≡ bytes r.meaning
meaning-found rs w r e = ap (λ (o : Option Sign). elim o as (λ x. Name) [ nothing ↦ w | some r ↦ bytes r.meaning ]) e

pub stands-prefixed : (l : ℕ) (w : Name) (p : Phrase) (r : Sign) → lookup prefixes w ≡ some r → l ≤ r.level → T (stands r.level p) → T (stands l (prefixed w p))
unfolding stands
stands-prefixed l w p r e h k =
    subst (λ (o : Option Sign). T (elim o as (λ x. Bool) [ nothing ↦ false | some r ↦ leb l r.level && stands r.level p ])) (sym e)
    (and_T (leb l r.level) (stands r.level p) (le→leb l r.level h) k)

pub stands-infixed : (l : ℕ) (p : Phrase) (w : Name) (q : Phrase) (r : Sign) → lookup infixes w ≡ some r → l ≤ r.level → T (stands r.level p)
    → T (stands (suc r.level) q) → T (stands l (infixed p w q))
unfolding stands
stands-infixed l p w q r e h k j =
    subst (λ (o : Option Sign). T (elim o as (λ x. Bool) [ nothing ↦ false | some r ↦ leb l r.level && (stands r.level p && stands (suc r.level) q) ])) (sym e)
    (and_T (leb l r.level) (stands r.level p && stands (suc r.level) q) (le→leb l r.level h)
    (and_T (stands r.level p) (stands (suc r.level) q) k j))

-- ---------------------------------------------------------------- trees that fit

pub record Good (t : Tree) : Type 0 where
  pub written : formula t ≡ write (phrase_of t)
  pub says : phrase_term (phrase_of t) ≡ term_of t
  pub levels : (l : ℕ) → l ≤ level t → T (stands l (phrase_of t))
  pub spelled : Spelled (phrase_of t)

abbrev pub GoodAll : Trees → Type 0
GoodAll noTrees = Unit
GoodAll (moreTrees t ts) = Good t × GoodAll ts

record GoodArray (a : Name) (ss : Stores) : Type 0 where
  written : array_text a ss ≡ write (array_phrase a ss)
  says : phrase_term (array_phrase a ss) ≡ array_term a ss
  levels : T (stands 0 (array_phrase a ss))
  spelled : Spelled (array_phrase a ss)

-- an operator over trees, by its notation
record GoodAs (x : Notation) (n : Name) (ks : List ℕ) (ts : Trees) : Type 0 where
  written : appliedText x n ks (operands ts) ≡ write (applied_phrase x n ks (parts ts))
  says : phrase_term (applied_phrase x n ks (parts ts)) ≡ appliedTerm [] (operator_of n ks) (terms_of ts)
  levels : (l : ℕ) → l ≤ level_as x → T (stands l (applied_phrase x n ks (parts ts)))
  spelled : Spelled (applied_phrase x n ks (parts ts))

abbrev part_of : Tree → Part
part_of t = record { level = level t; phrase = phrase_of t }

pub enclosed-term : (l : ℕ) (o : Part) → phrase_term (enclosed l o) ≡ phrase_term o.phrase
unfolding enclosed phrase_term
enclosed-term l o = by_level (ltb o.level l) refl
  where
    by_level : (b : Bool) → ltb o.level l ≡ b → phrase_term (enclosed l o) ≡ phrase_term o.phrase
    by_level true e = rw (e, enclosed)
    by_level false e = rw (e, enclosed)

enclosed-spelled : (l : ℕ) (o : Part) → Spelled o.phrase → Spelled (enclosed l o)
unfolding enclosed
enclosed-spelled l o h = by_level (ltb o.level l) refl
  where
    by_level : (b : Bool) → ltb o.level l ≡ b → Spelled (enclosed l o)
    by_level true e = rw (e, enclosed) h
    by_level false e = rw (e, enclosed) h

enclosed-stands : (l : ℕ) (t : Tree) → Good t → T (stands l (enclosed l (part_of t)))
unfolding enclosed stands
enclosed-stands l t g = by_level (ltb (level t) l) refl
  where
    by_level : (b : Bool) → ltb (level t) l ≡ b → T (stands l (enclosed l (part_of t)))
    by_level true e = rw (e, enclosed) (g.levels 0 (omega arith))
    by_level false e = rw (e, enclosed) (g.levels l (nltb→le (level t) l (rw e tt)))

operands-written : (ts : Trees) → GoodAll ts → operands ts ≡ map operand_of (parts ts)
unfolding formula phrase_of
operands-written noTrees g = refl
operands-written (moreTrees t ts) g = λ i. record { level = level t; text = g.0.written i } ∷ operands-written ts g.1 i

later-terms : (ts : Trees) → GoodAll ts → phrase_terms (phrases_of (parts ts)) ≡ terms_of ts
unfolding phrase_term phrases_of phrase_of term_of
later-terms noTrees g = refl
later-terms (moreTrees t ts) g = λ i. moreTerms (g.0.says i) (later-terms ts g.1 i)

later-stand : (ts : Trees) → GoodAll ts → T (stand (phrases_of (parts ts)))
unfolding stands phrases_of phrase_of
later-stand noTrees g = tt
later-stand (moreTrees t ts) g = and_T (stands 0 (phrase_of t)) _ (g.0.levels 0 (omega arith)) (later-stand ts g.1)

later-spelled : (ts : Trees) → GoodAll ts → SpelledAll (phrases_of (parts ts))
unfolding phrases_of phrase_of
later-spelled noTrees g = tt
later-spelled (moreTrees t ts) g = (g.0.spelled, later-spelled ts g.1)

abbrev count : Trees → ℕ
count noTrees = 0
count (moreTrees t ts) = suc (count ts)

operator-is : (n : Name) (ks : List ℕ) → head_operator (operator n ks) ≡ operator_of n ks
unfolding operator_of
operator-is n [] = refl
operator-is n (k ∷ ks) = refl

applied-stands : (l : ℕ) (h : Head) (t : Tree) (ts : Trees) (p : Phrase) → T (head_ok h) → GoodAll (moreTrees t ts) → T (stands l (applied_to p h (parts (moreTrees t ts))))
unfolding stands applied_to phrase_of
applied-stands l h t ts p k g =
    and_T (head_ok h) _ k (and_T (stands 0 (phrase_of t)) _ (g.0.levels 0 (omega arith)) (later-stand ts g.1))

good-named : (n : Name) (ks : List ℕ) (t : Tree) (ts : Trees) → T (in_list n others) → GoodAll (moreTrees t ts) → GoodAs named n ks (moreTrees t ts)
unfolding appliedText applied_phrase phrase_of formula applied_to term_of appliedTerm phrase_term
good-named n ks t ts h g = record {
  written = ap (λ (os : List Operand). appliedText named n ks os) (operands-written (moreTrees t ts) g) ∙ applied-written named n ks (part_of t) (parts ts);
  says = λ i. applicationTerm (operator-is n ks i) (g.0.says i) (later-terms ts g.1 i);
  levels = λ l k. applied-stands l (operator n ks) t ts (literal []) h g;
  spelled = (h, g.0.spelled, later-spelled ts g.1);
}

good-between : (l : ℕ) (s : String) (n : Name) (t u : Tree) → Found infixes (bytes s) l n → Good t → Good u
    → GoodAs (between l s) n [] (moreTrees t (moreTrees u noTrees))
unfolding appliedText applied_phrase phrase_of formula term_of appliedTerm phrase_term operator_of
good-between l s n t u f g k = record {
  written = ap (λ (os : List Operand). appliedText (between l s) n [] os) (operands-written (moreTrees t (moreTrees u noTrees)) (g, (k, tt)))
      ∙ applied-written (between l s) n [] (part_of t) (part_of u ∷ []);
  says = λ i. applicationTerm (plain ((meaning-found infixes (bytes s) f.row f.found ∙ f.meaning_is) i)) ((enclosed-term l (part_of t) ∙ g.says) i)
      (moreTerms ((enclosed-term (suc l) (part_of u) ∙ k.says) i) no_terms);
  levels = λ m h. stands-infixed m (enclosed l (part_of t)) (bytes s) (enclosed (suc l) (part_of u)) f.row f.found (rw f.level_is h)
      (rw f.level_is (enclosed-stands l t g)) (rw f.level_is (enclosed-stands (suc l) u k));
  spelled = (enclosed-spelled l (part_of t) g.spelled, found-symbol infixes (bytes s) f.row f.found, enclosed-spelled (suc l) (part_of u) k.spelled);
}

good-before : (s : String) (n : Name) (t : Tree) → Found prefixes (bytes s) 10 n → Good t → GoodAs (before s) n [] (moreTrees t noTrees)
unfolding appliedText applied_phrase phrase_of formula term_of appliedTerm phrase_term operator_of
good-before s n t f g = record {
  written = ap (λ (os : List Operand). appliedText (before s) n [] os) (operands-written (moreTrees t noTrees) (g, tt))
      ∙ applied-written (before s) n [] (part_of t) [];
  says = λ i. applicationTerm (plain ((meaning-found prefixes (bytes s) f.row f.found ∙ f.meaning_is) i)) ((enclosed-term 10 (part_of t) ∙ g.says) i) no_terms;
  levels = λ m h. stands-prefixed m (bytes s) (enclosed 10 (part_of t)) f.row f.found (rw f.level_is h) (rw f.level_is (enclosed-stands 10 t g));
  spelled = (found-symbol prefixes (bytes s) f.row f.found, enclosed-spelled 10 (part_of t) g.spelled);
}

-- by the notation, with as many operands as the standard's table has
good-as : (x : Notation) (k : ℕ) (ks : List ℕ) (ts : Trees) (a : ℕ) → T (kind_as x k (length ks) a) → count ts ≡ a → 0 < a → GoodAll ts → GoodAs x (symbol_of k) ks ts
unfolding kind_as
good-as (between l s) k ks ts a h e z g =
    let p : length ks ≡ 0 = eqb→eq (length ks) 0 (and_0 (eqb (length ks) 0) _ h) in
    let h' = and-1 (eqb (length ks) 0) _ h in
    let q : a ≡ 2 = eqb→eq a 2 (and_0 (eqb a 2) _ h') in
    by-operands ks ts p (e ∙ q) g (row-found infixes s l (symbol_of k) (and-1 (eqb a 2) _ h'))
  where
    by-operands : (ks : List ℕ) (ts : Trees) → length ks ≡ 0 → count ts ≡ 2 → GoodAll ts → Found infixes (bytes s) l (symbol_of k) → GoodAs (between l s) (symbol_of k) ks ts
    by-operands (j ∷ ks) ts p e g f = absurd (omega arith)
    by-operands [] noTrees p e g f = absurd (omega arith)
    by-operands [] (moreTrees t noTrees) p e g f = absurd (omega arith)
    by-operands [] (moreTrees t (moreTrees u noTrees)) p e g f = good-between l s (symbol_of k) t u f g.0 g.1.0
    by-operands [] (moreTrees t (moreTrees u (moreTrees v ts))) p e g f = absurd (omega arith)
good-as (before s) k ks ts a h e z g =
    let p : length ks ≡ 0 = eqb→eq (length ks) 0 (and_0 (eqb (length ks) 0) _ h) in
    let h' = and-1 (eqb (length ks) 0) _ h in
    let q : a ≡ 1 = eqb→eq a 1 (and_0 (eqb a 1) _ h') in
    by-operands ks ts p (e ∙ q) g (row-found prefixes s 10 (symbol_of k) (and-1 (eqb a 1) _ h'))
  where
    by-operands : (ks : List ℕ) (ts : Trees) → length ks ≡ 0 → count ts ≡ 1 → GoodAll ts → Found prefixes (bytes s) 10 (symbol_of k) → GoodAs (before s) (symbol_of k) ks ts
    by-operands (j ∷ ks) ts p e g f = absurd (omega arith)
    by-operands [] noTrees p e g f = absurd (omega arith)
    by-operands [] (moreTrees t noTrees) p e g f = good-before s (symbol_of k) t f g.0
    by-operands [] (moreTrees t (moreTrees u ts)) p e g f = absurd (omega arith)
good-as named k ks noTrees a h e z g = absurd (omega arith)
good-as named k ks (moreTrees t ts) a h e z g = good-named (symbol_of k) ks t ts h g

good_apply : (k : ℕ) (ks : List ℕ) (ts : Trees) → GoodAs (notation_of k) (symbol_of k) ks ts → Good (apply k ks ts)
unfolding formula phrase_of term_of level
good_apply k ks ts g = record { written = g.written; says = g.says; levels = g.levels; spelled = g.spelled }

good-select : (a : Name) (j : Tree) (ss : Stores) → GoodArray a ss → Good j → Good (select a j ss)
unfolding formula phrase_of term_of level application parted later write head_text numerals_text bytes phrase_term stands others same
good-select a j ss x g = record {
  written = simp append_assoc (λ i. bytes "select(" ++ (x.written i ++ (bytes ", " ++ (g.written i ++ bytes ")"))));
  says = λ i. applicationTerm (plain (bytes "select")) (x.says i) (moreTerms (g.says i) no_terms);
  levels = λ l h. and_T (stands 0 (array_phrase a ss)) _ x.levels (and_T (stands 0 (phrase_of j)) true (g.levels 0 (omega arith)) tt);
  spelled = (tt, x.spelled, (g.spelled, tt));
}

good-store : (a : Name) (i v : Tree) (ss : Stores) → GoodArray a ss → Good i → Good v → GoodArray a (store i v ss)
unfolding formula phrase_of term_of application parted later write head_text numerals_text bytes phrase_term stands others same
good-store a i v ss x g k = record {
  written = simp append_assoc (λ z. bytes "store(" ++ (x.written z ++ (bytes ", " ++ (g.written z ++ (bytes ", " ++ (k.written z ++ bytes ")"))))));
  says = λ z. applicationTerm (plain (bytes "store")) (x.says z) (moreTerms (g.says z) (moreTerms (k.says z) no_terms));
  levels = and_T (stands 0 (array_phrase a ss)) _ x.levels
      (and_T (stands 0 (phrase_of i)) _ (g.levels 0 (omega arith)) (and_T (stands 0 (phrase_of v)) true (k.levels 0 (omega arith)) tt));
  spelled = (tt, x.spelled, (g.spelled, (k.spelled, tt)));
}

good-call : (n : Name) (ts : Trees) → All name_byte n → T (not (in_list n built_in)) → GoodAll ts → Good (call n ts)
unfolding formula phrase_of term_of level call_text operand_texts applied_to phrase_term appliedTerm
good-call n noTrees q h g = record { written = unfold write in refl; says = refl; levels = λ l k. unfold stands in tt; spelled = q }
good-call n (moreTrees t ts) q h g = record {
  written = ap (λ (os : List Operand). call_text (quoted n) (operand_texts os)) (operands-written (moreTrees t ts) g) ∙ call-written n (parts (moreTrees t ts));
  says = λ i. applicationTerm (plain n) (g.0.says i) (later-terms ts g.1 i);
  levels = λ l k. applied-stands l (function n) t ts (reference n) h g;
  spelled = (q, g.0.spelled, later-spelled ts g.1);
}

module _ (D : Declarations) (quotes : (n : Name) → T (in_list n (declared_names D)) → All name_byte n) (apart : Apart D) where
  in-variables : (n : Name) → T (in_list n (variable_names D)) → T (in_list n (declared_names D))
  in-variables n h = in_left n (variable_names D) (array_names D ++ function_names D) h

  in-arrays : (n : Name) → T (in_list n (array_names D)) → T (in_list n (declared_names D))
  in-arrays n h = in_right n (variable_names D) (array_names D ++ function_names D) (in_left n (array_names D) (function_names D) h)

  in-functions : (n : Name) → T (in_list n (function_names D)) → T (in_list n (declared_names D))
  in-functions n h = in_right n (variable_names D) (array_names D ++ function_names D) (in_right n (array_names D) (function_names D) h)

  foreign : (n : Name) → T (in_list n (function_names D)) → T (not (in_list n built_in))
  foreign n h = every_in (λ m. not (in_list m built_in)) (declared_names D) n apart.foreign (in-functions n h)

  fits_count : (ts : Trees) (us : List TermSort) → FitsAll D ts us → count ts ≡ length us
  fits_count noTrees [] h = refl
  fits_count noTrees (u ∷ us) h = absurd h
  fits_count (moreTrees t ts) [] h = absurd h
  fits_count (moreTrees t ts) (u ∷ us) h = ap suc (fits_count ts us h.1)

  mutual
    unfolding formula phrase_of term_of level write phrase_term stands

    pub good : (t : Tree) (s : TermSort) → Fits D t s → Good t
    good (variable n) s h =
        record { written = refl; says = refl; levels = λ l k. tt; spelled = quotes n (in-variables n (variable-declared D n h.0 h.1)) }
    good (constant bs) s h = record { written = refl; says = refl; levels = λ l k. tt; spelled = constant-binary bs h.0 h.1 }
    good (apply k ks ts) s h =
        good_apply k ks ts (good-as (notation_of k) k ks ts (length (h.0 ∷ h.1)) (kind_ok k (length ks) (length (h.0 ∷ h.1)) h.4)
        (fits_count ts (h.0 ∷ h.1) h.2) (omega arith) (goods ts (h.0 ∷ h.1) h.2))
    good (select a j ss) s h =
        good-select a j ss (good-array ss a h.0 h.1 (quotes a (in-arrays a (array-declared D a h.0 h.1 h.2))) h.5) (good j (bits h.0) h.4)
    good (call n ts) s h =
        let f = function-declared D n h.0 h.1 h.2 in
        good-call n ts (quotes n (in-functions n f)) (foreign n f) (goods ts (map bits h.0) h.3)

    pub goods : (ts : Trees) (us : List TermSort) → FitsAll D ts us → GoodAll ts
    goods noTrees us h = tt
    goods (moreTrees t ts) [] h = absurd h
    goods (moreTrees t ts) (u ∷ us) h = (good t u h.0, goods ts us h.1)

    good-array : (ss : Stores) (a : Name) (i v : ℕ) → All name_byte a → FitsStores D ss i v → GoodArray a ss
    good-array base a i v q h = record { written = refl; says = refl; levels = tt; spelled = q }
    good-array (store x y ss) a i v q h = good-store a x y ss (good-array ss a i v q h.2) (good x (bits i) h.0) (good y (bits v) h.1)
