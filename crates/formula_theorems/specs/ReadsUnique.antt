-- A formula has at most one reading; the formula of a tree that fits has that tree as a reading.
use Rattle.std.specs.Prelude.{ℕ, zero, suc, ◌≤◌, ◌<◌, ◌≡◌, Bool, true, false, ◌||◌, not, ◌↔◌, T, leb, eqb}
use Rattle.std.proofs.Math.Path.{refl}
use Rattle.std.proofs.Common.{ap, sym, ◌∙◌, subst, arith, T_not, eqb→eq}
use mathlib.Core.List.{List, [], ◌∷◌, ◌++◌, append-nil, append_assoc, tail-eq_of_cons-eq, nil≢cons}
use Rattle.std.proofs.Math.Dec.{not_T}
use Rattle.lists.specs.Bytes.{bytes}
use Rattle.lists.specs.Tests.{All, in_list, same, every, and_0, and-1, or_elim, by-test, all-weaken, all_append, every_in, apart_by}
use Rattle.smtlib.specs.Lexicon.{digit, letter, binary_digit}
use Rattle.reading.specs.Trees.{Name, Tree, Trees, none as noTrees, more as moreTrees, Declarations}
use Rattle.smtlib.specs.Readings.{declared_names, Apart, a_tree, Means, MeansIn}
use Rattle.smtlib.proofs.ReadsUnique.{means-unique}
use Rattle.smtlib.specs.Sorts.{TermSort}
use Rattle.theorems.specs.Terms.{term_of, Fits, FitsAll}
use Rattle.theorems.specs.Meanings.{means-terms}
use Rattle.formula_text.specs.Notation.{formula, formulas, level}
use Rattle.formulas.specs.Tokens.{name_byte, Token, open⁽, close⁾, comma, numeral, binary, name, word, word_byte, is_word, signs, Spells, blank, Lex}
use Rattle.formulas.specs.TokensUnique.{lex-unique, Ends, stretch-unique}
use Rattle.formulas.specs.TokensText.{put-end}
use Rattle.formulas.specs.Phrases.{Phrase, phrase_tokens, stands, phrase_term, Reads, ReadsLines}
use Rattle.formulas.specs.PhrasesUnique.{phrase-unique}
use Rattle.formula_theorems.specs.Written.{write, Spelled, lex-phrase}
use Rattle.formula_theorems.specs.Canonical.{phrase_of, Good, good}

-- ---------------------------------------------------------------- at most one reading

pub lex-whole : (p : Phrase) → Spelled p → Lex (write p) (phrase_tokens p)
lex-whole p h = simp append-nil at (lex-phrase p h [] [] tt put-end)

pub reads-unique : (D : Declarations) → Apart D → (b : List ℕ) (t t' : Tree) → Reads D b t → Reads D b t' → t ≡ t'
reads-unique D apart b t t' h h' =
    let e : h.tokens ≡ h'.tokens = lex-unique b h.tokens h'.tokens h.lexed h'.lexed in
    let p : h.phrase ≡ h'.phrase = phrase-unique h.phrase h'.phrase h.levels h'.levels (sym h.parsed ∙ (e ∙ h'.parsed)) in
    let m : Means D (phrase_term h.phrase) (a_tree t') = subst (λ (x : Phrase). Means D (phrase_term x) (a_tree t')) (sym p) h'.means in
    let q : a_tree t ≡ a_tree t' = means-unique D apart (phrase_term h.phrase) (a_tree t) (a_tree t') h.means m in
    cc

-- ---------------------------------------------------------------- lines

abbrev in_line : ℕ → Bool
in_line c = not (eqb c 10)

inline-by : (p : ℕ → Bool) → T (not (p 10)) → (s : List ℕ) → All p s → All in_line s
inline-by p a s h = all-weaken p in_line (λ c t. apart_by p 10 a c t) s h

word-inline : (w : List ℕ) → T (is_word w || in_list w signs) → All in_line w
unfolding signs bytes same
word-inline w h = or_elim (is_word w) (in_list w signs) h (from-word w) (λ k. by-test in_line w (every_in (every in_line) signs w tt k))
  where
    from-word : (w : List ℕ) → T (is_word w) → All in_line w
    from-word [] h = absurd h
    from-word (c ∷ w) h =
        (apart_by letter 10 tt c (and_0 (letter c) _ h), inline-by word_byte tt w (by-test word_byte w (and-1 (letter c) _ h)))

spelled-inline : (t : Token) (s : List ℕ) → Spells t s → All in_line s
unfolding bytes
spelled-inline open⁽ s h = rw h (tt, tt)
spelled-inline close⁾ s h = rw h (tt, tt)
spelled-inline comma s h = rw h (tt, tt)
spelled-inline (numeral n) s h = inline-by digit tt s h.digits
spelled-inline (binary ds) s h = rw h.1 (tt, (tt, inline-by binary_digit tt ds h.0.digits))
spelled-inline (name n) s h = rw h.1 (tt, all_append in_line n (124 ∷ []) (inline-by name_byte tt n h.0) (tt, tt))
spelled-inline (word w) s h = rw h.1 (word-inline w h.0)

-- no byte of a formula ends a line
pub lex-inline : (b : List ℕ) (ts : List Token) → Lex b ts → All in_line b
unfolding Lex
lex-inline b [] l = inline-by blank tt b l
lex-inline b (t ∷ ts) l =
    rw l.3 (all_append in_line l.0 (l.1 ++ l.2) (inline-by blank tt l.0 l.4)
    (all_append in_line l.1 l.2 (spelled-inline t l.1 l.5) (lex-inline l.2 ts l.7)))

cut-unique : (f f' r r' : List ℕ) → All in_line f → All in_line f' → f ++ (10 ∷ r) ≡ f' ++ (10 ∷ r') → (f ≡ f') × (r ≡ r')
cut-unique f f' r r' h h' e =
    let c = stretch-unique in_line f f' (10 ∷ r) (10 ∷ r') h h' tt tt e in
    (c.0, tail-eq_of_cons-eq c.1)

no_line : (f r : List ℕ) → [] ≡ f ++ (10 ∷ r) → ⊥
no_line [] r e = nil≢cons e
no_line (c ∷ f) r e = nil≢cons e

pub lines-unique : (D : Declarations) → Apart D → (b : List ℕ) (ts ts' : Trees) → ReadsLines D b ts → ReadsLines D b ts' → ts ≡ ts'
unfolding ReadsLines
lines-unique D apart b noTrees noTrees h h' = refl
lines-unique D apart b noTrees (moreTrees t' ts') h h' = absurd (no_line h'.0 h'.1 (sym h ∙ h'.2))
lines-unique D apart b (moreTrees t ts) noTrees h h' = absurd (no_line h.0 h.1 (sym h' ∙ h.2))
lines-unique D apart b (moreTrees t ts) (moreTrees t' ts') h h' =
    let i = lex-inline h.0 h.3.tokens h.3.lexed in
    let i' = lex-inline h'.0 h'.3.tokens h'.3.lexed in
    let c = cut-unique h.0 h'.0 h.1 h'.1 i i' (sym h.2 ∙ h'.2) in
    let p : t ≡ t' = reads-unique D apart h.0 t t' h.3 (subst (λ (f : List ℕ). Reads D f t') (sym c.0) h'.3) in
    let q : ts ≡ ts' = lines-unique D apart h.1 ts ts' h.4 (subst (λ (r : List ℕ). ReadsLines D r ts') (sym c.1) h'.4) in
    cc

-- ---------------------------------------------------------------- the tree is one

module _ (D : Declarations) (quotes : (n : Name) → T (in_list n (declared_names D)) → All name_byte n) (apart : Apart D) where
  pub formula-lexed : (t : Tree) (s : TermSort) → Fits D t s → Lex (formula t) (phrase_tokens (phrase_of t))
  formula-lexed t s h =
      let g = good D quotes apart t s h in
      rw g.written (lex-whole (phrase_of t) g.spelled)

  means-term : (t : Tree) (s : TermSort) → Fits D t s → Means D (term_of t) (a_tree t)
  unfolding term_of MeansIn
  means-term t s h = (means-terms D (moreTrees t noTrees) (s ∷ []) (h, tt)).0

  pub formula-reads : (t : Tree) (s : TermSort) → Fits D t s → Reads D (formula t) t
  formula-reads t s h =
      let g = good D quotes apart t s h in
      record {
        tokens = phrase_tokens (phrase_of t);
        phrase = phrase_of t;
        lexed = formula-lexed t s h;
        parsed = refl;
        levels = g.levels 0 (omega arith);
        means = rw g.says (means-term t s h);
      }

  -- a formula has a single reading, the tree
  pub one-reading : (t : Tree) (s : TermSort) → Fits D t s → (u : Tree) → Reads D (formula t) u ↔ (u ≡ t)
  one-reading t s h u =
      (λ r. reads-unique D apart (formula t) u t r (formula-reads t s h), λ e. rw e (formula-reads t s h))

  pub formulas-read : (ts : Trees) (us : List TermSort) → FitsAll D ts us → ReadsLines D (formulas ts) ts
  unfolding ReadsLines formulas bytes
  formulas-read noTrees us h = refl
  formulas-read (moreTrees t ts) [] h = absurd h
  formulas-read (moreTrees t ts) (u ∷ us) h = (formula t, formulas ts, refl, formula-reads t u h.0, formulas-read ts us h.1)
