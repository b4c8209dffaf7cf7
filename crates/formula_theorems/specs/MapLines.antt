-- The map file's lines of a problem that passes every check but the one for room.
use Rattle.std.specs.Prelude.{ℕ, ◌≤◌, ◌≡◌, refl, List, [], ◌∷◌, ◌++◌, Bool, true, false, ◌&&◌, not, ◌↔◌, ◌⊎◌, T, leb, eqb}
use Rattle.std.proofs.Common.{ap, sym, ◌∙◌, subst, inl, inr, arith, leb→le, eqb→eq}
use Rattle.std.proofs.Math.Dec.{not_T}
use Rattle.lists.specs.Tests.{All, in_list, and_T}
use Rattle.reading.specs.Trees.{Name, Tree, Trees, none, more, Declarations}
use Rattle.smtlib.specs.Lexicon.{quotable}
use Rattle.smtlib.specs.Readings.{declared_names}
use Rattle.smtlib.specs.Sorts.{TermSort}
use Rattle.echo_spec.specs.Input.{Problem}
use Rattle.echo_spec.specs.Answers.{reading}
use Rattle.theorems.specs.Terms.{Fits, FitsAll}
use Rattle.theorems.specs.Scripts.{Sound, bools}
use Rattle.theorems.specs.Answered.{Whole, sound}
use Rattle.formula_text.specs.Notation.{formula, formulas}
use Rattle.formulas.specs.Tokens.{name_byte}
use Rattle.formulas.specs.Phrases.{Reads, ReadsLines}
use Rattle.formula_theorems.specs.ReadsUnique.{one-reading, lines-unique, formulas-read}
use Rattle.formula_theorems.specs.LeftOut.{parentheses, ends_inside, fewest-bytes, pair-needed}

-- the problem's declarations
abbrev pub declarations_in : Problem → Declarations
declarations_in p = (reading p).declarations

-- the lines of the map file
abbrev pub map_lines : Problem → List ℕ
map_lines p = formulas (reading p).assertions

abbrev pub Among : Tree → Trees → Type 0
Among t none = ⊥
Among t (more u ts) = (t ≡ u) ⊎ (Among t ts)

one_line : (n : Name) → All (leb 32) n → All quotable n → All name_byte n
one_line [] h q = tt
one_line (c ∷ n) h q = (
  and_T (quotable c) (not (eqb c 10)) q.0 (not_T (eqb c 10) λ e. let a : c ≡ 10 = eqb→eq c 10 e in let b = leb→le 32 c h.0 in omega arith),
  one_line n h.1 q.1,
)

module _ (p : Problem) (w : Whole p) where
  -- a declared name may stand between bars on one line
  quotes : (n : Name) → T (in_list n (declared_names (declarations_in p))) → All name_byte n
  quotes n h = one_line n ((sound p w).declarations.printable n h) ((sound p w).declarations.quotes n h)

  -- The map file's lines have one reading with the problem's declarations: its assertions' trees, a line each.
  pub one_map : (ts : Trees) → ReadsLines (declarations_in p) (map_lines p) ts ↔ (ts ≡ (reading p).assertions)
  one_map ts =
      let apart = (sound p w).declarations.apart in
      let r = formulas-read (declarations_in p) quotes apart (reading p).assertions (bools (reading p).assertions) (sound p w).assertions in
      (λ h. lines-unique (declarations_in p) apart (map_lines p) ts (reading p).assertions h r, λ e. rw e r)

  fits-among : (t : Tree) (ts : Trees) (us : List TermSort) → FitsAll (declarations_in p) ts us → Among t ts → (s : TermSort) × Fits (declarations_in p) t s
  fits-among t none us h a = absurd a
  fits-among t (more u ts) [] h a = absurd h
  fits-among t (more u ts) (s ∷ us) h (inl e) = (s, rw e h.0)
  fits-among t (more u ts) (s ∷ us) h (inr a) = fits-among t ts us h.1 a

  fitting : (t : Tree) → Among t (reading p).assertions → (s : TermSort) × Fits (declarations_in p) t s
  fitting t a = fits-among t (reading p).assertions (bools (reading p).assertions) (sound p w).assertions a

  -- A formula has a single reading, the assertion's tree.
  pub one-formula : (t : Tree) → Among t (reading p).assertions → (u : Tree) → Reads (declarations_in p) (formula t) u ↔ (u ≡ t)
  one-formula t a u = let f = fitting t a in one-reading (declarations_in p) quotes (sound p w).declarations.apart t f.0 f.1 u

  -- With any pair of parentheses outside names left out, a formula does not read as the assertion's tree.
  pub brackets-needed : (t : Tree) → Among t (reading p).assertions → (x y z : List ℕ) → formula t ≡ x ++ (40 ∷ (y ++ (41 ∷ z)))
      → ends_inside false x ≡ false → Reads (declarations_in p) (x ++ (y ++ z)) t → ⊥
  brackets-needed t a x y z e f r = let g = fitting t a in pair-needed (declarations_in p) quotes (sound p w).declarations.apart t g.0 g.1 x y z e f r

  -- No text that reads as the assertion's tree has fewer brackets.
  pub brackets-fewest : (t : Tree) → Among t (reading p).assertions → (b : List ℕ) → Reads (declarations_in p) b t → parentheses false (formula t) ≤ parentheses false b
  brackets-fewest t a b r = let g = fitting t a in fewest-bytes (declarations_in p) quotes (sound p w).declarations.apart t g.0 g.1 b r

-- With the same declarations, equal lines are of equal trees.
pub equal-lines : (p p' : Problem) → Whole p → Whole p' → declarations_in p ≡ declarations_in p' → map_lines p ≡ map_lines p' → (reading p).assertions ≡ (reading p').assertions
equal-lines p p' w w' d e =
    let r : ReadsLines (declarations_in p) (map_lines p) (reading p).assertions = (one_map p w (reading p).assertions).1 refl in
    (one_map p' w' (reading p).assertions).0 (subst (λ (D : Declarations). ReadsLines D (map_lines p') (reading p).assertions) d (subst (λ (b : List ℕ). ReadsLines (declarations_in p) b (reading p).assertions) e r))

-- With the same declarations, one equal line is of one tree: of two assertions, of one problem or of two.
pub equal-line : (p p' : Problem) → Whole p → Whole p' → declarations_in p ≡ declarations_in p' → (t u : Tree) → Among t (reading p).assertions → Among u (reading p').assertions
    → formula t ≡ formula u → t ≡ u
equal-line p p' w w' d t u a a' e =
    let r : Reads (declarations_in p') (formula u) u = (one-formula p' w' u a' u).1 refl in
    let r' : Reads (declarations_in p) (formula t) u =
    subst (λ (b : List ℕ). Reads (declarations_in p) b u) (sym e) (subst (λ (D : Declarations). Reads D (formula u) u) (sym d) r) in
    sym ((one-formula p w t a u).0 r')
