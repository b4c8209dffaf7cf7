-- Parentheses counted in bytes: those outside names are the tokens.
use Prim.Native.Nat.{ℕ, zero, suc, ◌+◌, ◌≤◌, ◌<◌}
use Rattle.std.specs.Prelude.{◌≡◌, List, [], ◌∷◌, ◌++◌, Bool, ◌&&◌, ◌||◌, not, T, eqb}
use Rattle.std.proofs.Math.Path.{refl, ap}
use Rattle.std.proofs.Common.{sym, ◌∙◌, subst, eqb→eq, T_not}
use Rattle.std.proofs.Math.Bool.{true, false}
use native.Mathlib.Omega.{arith}
use Rattle.std.proofs.Math.Dec.{not_T}
use Rattle.lists.specs.Bytes.{bytes}
use Rattle.lists.specs.Tests.{All, same, in_list, every, and_0, and-1, and_T, or_elim, by-test, all-weaken, every_in, apart_by, not→false, no→false}
use Rattle.reading.specs.Trees.{Name, Tree, Declarations}
use Rattle.smtlib.specs.Lexicon.{digit, letter, binary_digit, Numeral, Binary}
use Rattle.smtlib.specs.Readings.{declared_names, Apart}
use Rattle.smtlib.specs.Sorts.{TermSort}
use Rattle.theorems.specs.Terms.{Fits}
use Rattle.formula_text.specs.Notation.{formula}
use Rattle.formulas.specs.Tokens.{name_byte, Token, open⁽, close⁾, comma, numeral, binary, name, word, word_byte, is_word, signs, Spells, blank, Lex}
use Rattle.formulas.specs.Phrases.{Reads, phrase_tokens}
use Rattle.formula_theorems.specs.Canonical.{phrase_of}
use Rattle.formula_theorems.specs.ReadsUnique.{formula-lexed}
use Rattle.formula_theorems.specs.Brackets.{is_open, openings, fewest-parentheses}

-- the opening parentheses outside names, from a place inside a name or not
unfoldable pub parentheses : Bool → List ℕ → ℕ
parentheses inside [] = 0
parentheses inside (c ∷ s) =
    elim (eqb c 124) [
      | true ↦ parentheses (not inside) s
      | false ↦ elim (not inside && eqb c 40) [ true ↦ suc (parentheses inside s) | false ↦ parentheses inside s ]
    ]

-- does the text end inside a name
unfoldable pub ends_inside : Bool → List ℕ → Bool
ends_inside inside [] = inside
ends_inside inside (c ∷ s) = elim (eqb c 124) [ true ↦ ends_inside (not inside) s | false ↦ ends_inside inside s ]

-- one text and then another
pub parentheses-append : (i : Bool) (s r : List ℕ) → parentheses i (s ++ r) ≡ parentheses i s + parentheses (ends_inside i s) r
unfolding parentheses ends_inside
parentheses-append i [] r = omega arith
parentheses-append i (c ∷ s) r = by-bar (eqb c 124) refl (λ j. parentheses-append j s r)
  where
    by-open : (b : Bool) → eqb c 124 ≡ false → (not i && eqb c 40) ≡ b → ((j : Bool) → parentheses j (s ++ r) ≡ parentheses j s + parentheses (ends_inside j s) r)
        → parentheses i (c ∷ (s ++ r)) ≡ parentheses i (c ∷ s) + parentheses (ends_inside i (c ∷ s)) r
    by-open true e f ih = rw (e, parentheses, ends_inside, f, ih i) (omega arith)
    by-open false e f ih = rw (e, parentheses, ends_inside, f, ih i) (omega arith)

    by-bar : (b : Bool) → eqb c 124 ≡ b → ((j : Bool) → parentheses j (s ++ r) ≡ parentheses j s + parentheses (ends_inside j s) r)
        → parentheses i (c ∷ (s ++ r)) ≡ parentheses i (c ∷ s) + parentheses (ends_inside i (c ∷ s)) r
    by-bar true e ih = rw (e, parentheses, ends_inside) (ih (not i))
    by-bar false e ih = by-open (not i && eqb c 40) e refl ih

pub ends-append : (i : Bool) (s r : List ℕ) → ends_inside i (s ++ r) ≡ ends_inside (ends_inside i s) r
unfolding ends_inside
ends-append i [] r = refl
ends-append i (c ∷ s) r = by-bar (eqb c 124) refl (λ j. ends-append j s r)
  where
    by-bar : (b : Bool) → eqb c 124 ≡ b → ((j : Bool) → ends_inside j (s ++ r) ≡ ends_inside (ends_inside j s) r) → ends_inside i (c ∷ (s ++ r)) ≡ ends_inside (ends_inside i (c ∷ s)) r
    by-bar true e ih = rw (e, ends_inside) (ih (not i))
    by-bar false e ih = rw (e, ends_inside) (ih i)

-- ---------------------------------------------------------------- tokens

-- neither a bar nor an opening parenthesis
abbrev still : ℕ → Bool
still c = not (eqb c 124) && not (eqb c 40)

record Counts (s : List ℕ) (n : ℕ) : Type 0 where
  count : parentheses false s ≡ n
  ends : ends_inside false s ≡ false

still-counts : (s : List ℕ) → All still s → Counts s 0
unfolding parentheses ends_inside
still-counts [] h = record { count = refl; ends = refl }
still-counts (c ∷ s) h =
    let e : eqb c 124 ≡ false = not→false (eqb c 124) (and_0 (not (eqb c 124)) _ h.0) in
    let f : eqb c 40 ≡ false = not→false (eqb c 40) (and-1 (not (eqb c 124)) _ h.0) in
    let r = still-counts s h.1 in
    record { count = rw (e, parentheses, f) r.count; ends = rw (e, ends_inside) r.ends }

-- bytes that pass a test, which bars and opening parentheses fail
still-by : (p : ℕ → Bool) → T (not (p 124)) → T (not (p 40)) → (s : List ℕ) → All p s → All still s
still-by p a b s h = all-weaken p still (λ c t. and_T (not (eqb c 124)) (not (eqb c 40)) (apart_by p 124 a c t) (apart_by p 40 b c t)) s h

no_bar : ℕ → Bool
no_bar c = not (eqb c 124)

inside-counts : (n : List ℕ) → All no_bar n → (parentheses true (n ++ (124 ∷ [])) ≡ 0) × (ends_inside true (n ++ (124 ∷ [])) ≡ false)
unfolding parentheses ends_inside no_bar
inside-counts [] h = (refl, refl)
inside-counts (c ∷ n) h =
    let e : eqb c 124 ≡ false = not→false (eqb c 124) h.0 in
    let r = inside-counts n h.1 in
    (rw (e, parentheses) r.0, rw (e, ends_inside) r.1)

name-counts : (n : List ℕ) → All name_byte n → Counts (124 ∷ (n ++ (124 ∷ []))) 0
unfolding parentheses ends_inside no_bar
name-counts n h =
    let r = inside-counts n (all-weaken name_byte no_bar (apart_by name_byte 124 tt) n h) in
    record { count = r.0; ends = r.1 }

signs-still : (w : List ℕ) → T (in_list w signs) → All still w
unfolding signs bytes same
signs-still w h = by-test still w (every_in (every still) signs w tt h)

word-still : (w : List ℕ) → T (is_word w) → All still w
word-still [] h = absurd h
word-still (c ∷ w) h =
    let a = still-by letter tt tt (c ∷ []) (and_0 (letter c) _ h, tt) in
    (a.0, still-by word_byte tt tt w (by-test word_byte w (and-1 (letter c) _ h)))

spelled-counts : (t : Token) (s : List ℕ) → Spells t s → Counts s (is_open t)
unfolding bytes parentheses ends_inside
spelled-counts open⁽ s h = rw h (record { count = refl; ends = refl })
spelled-counts close⁾ s h = rw h (record { count = refl; ends = refl })
spelled-counts comma s h = rw h (record { count = refl; ends = refl })
spelled-counts (numeral n) s h = still-counts s (still-by digit tt tt s h.digits)
spelled-counts (binary ds) s h = rw h.1 (still-counts (35 ∷ 98 ∷ ds) (tt, (tt, still-by binary_digit tt tt ds h.0.digits)))
spelled-counts (name n) s h = rw h.1 (name-counts n h.0)
spelled-counts (word w) s h = rw h.1 (still-counts w (or_elim (is_word w) (in_list w signs) h.0 (word-still w) (signs-still w)))

-- the bytes of tokens
lex-counts : (b : List ℕ) (ts : List Token) → Lex b ts → parentheses false b ≡ openings ts
unfolding Lex openings
lex-counts b [] l = (still-counts b (still-by blank tt tt b l)).count
lex-counts b (t ∷ ts) l =
    let w = still-counts l.0 (still-by blank tt tt l.0 l.4) in
    let s = spelled-counts t l.1 l.5 in
    let r = lex-counts l.2 ts l.7 in
    let a = parentheses-append false l.0 (l.1 ++ l.2) in
    let c = parentheses-append false l.1 l.2 in
    let e : parentheses (ends_inside false l.0) (l.1 ++ l.2) ≡ parentheses false (l.1 ++ l.2) = rw w.ends in
    let f : parentheses (ends_inside false l.1) l.2 ≡ parentheses false l.2 = rw s.ends in
    let u = w.count in
    let v = s.count in
    rw l.3 (omega arith)

-- ---------------------------------------------------------------- a pair left out

module _ (D : Declarations) (quotes : (n : Name) → T (in_list n (declared_names D)) → All name_byte n) (apart : Apart D) where
  -- no text that reads as the tree has fewer parentheses outside names than its formula
  pub fewest-bytes : (t : Tree) (s : TermSort) → Fits D t s → (b : List ℕ) → Reads D b t → parentheses false (formula t) ≤ parentheses false b
  fewest-bytes t s h b r =
      let l = formula-lexed D quotes apart t s h in
      let a = fewest-parentheses D apart quotes t s h (phrase_tokens (phrase_of t)) l b r.tokens r.lexed r in
      let c = lex-counts (formula t) (phrase_tokens (phrase_of t)) l in
      let d = lex-counts b r.tokens r.lexed in
      omega arith

  -- with any pair of parentheses outside names left out, the line does not read as the tree
  pub pair-needed : (t : Tree) (s : TermSort) → Fits D t s → (x y z : List ℕ) → formula t ≡ x ++ (40 ∷ (y ++ (41 ∷ z)))
      → ends_inside false x ≡ false → Reads D (x ++ (y ++ z)) t → ⊥
  unfolding parentheses ends_inside
  pair-needed t s h x y z e f r =
      let a = fewest-bytes t s h (x ++ (y ++ z)) r in
      let b₀ : parentheses false (formula t) ≡ parentheses false (x ++ (40 ∷ (y ++ (41 ∷ z)))) = ap (parentheses false) e in
      let b₁ = parentheses-append false x (40 ∷ (y ++ (41 ∷ z))) in
      let b₂ : parentheses (ends_inside false x) (40 ∷ (y ++ (41 ∷ z))) ≡ suc (parentheses false (y ++ (41 ∷ z))) = rw f in
      let b₃ = parentheses-append false y (41 ∷ z) in
      let b₄ : parentheses (ends_inside false y) (41 ∷ z) ≡ parentheses (ends_inside false y) z = close-none (ends_inside false y) in
      let c₁ = parentheses-append false x (y ++ z) in
      let c₂ : parentheses (ends_inside false x) (y ++ z) ≡ parentheses false (y ++ z) = rw f in
      let c₃ = parentheses-append false y z in
      omega arith
    where
      close-none : (i : Bool) → parentheses i (41 ∷ z) ≡ parentheses i z
      close-none true = refl
      close-none false = refl
