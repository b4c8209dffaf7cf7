-- The script with `let` of a problem that passes every check: it is the text of one script, which is well sorted and says the
-- problem's declarations and trees, and nothing else.
use Rattle.std.specs.Prelude.{ℕ, ◌<◌, ◌≡◌, T, leb, length}
use Rattle.std.proofs.Math.Path.{refl}
use Rattle.std.proofs.Common.{sym, subst}
use mathlib.Core.List.{List, [], ◌∷◌}
use Rattle.lists.specs.Tests.{among, All, and_0}
use Rattle.reading.specs.Trees.{Trees, more, Reading}
use Rattle.smtlib.specs.Lexicon.{Lex}
use Rattle.smtlib.specs.Grammar.{Script, script_tokens}
use Rattle.smtlib.specs.GrammarUnique.{script-unique}
use Rattle.smtlib.proofs.LexUnique.{lex-unique}
use Rattle.smtlib.specs.Readings.{as_meanings, MeansAll, Reads}
use Rattle.smtlib.proofs.ReadsUnique.{reads-unique}
use Rattle.smtlib.specs.Sorts.{WellSorted}
use Rattle.echo_spec.specs.Refusals.{unless}
use Rattle.echo_spec.specs.Input.{Problem, Dag, dag_of, Query, query_of}
use Rattle.echo_spec.specs.Widths.{widths_of}
use Rattle.echo_spec.specs.Tables.{declarations_of}
use Rattle.echo_spec.specs.Trees.{trees_over, tree_of, reading_of}
use Rattle.echo_spec.specs.Accepted.{unless-passed, or_else-passed, Checked}
use Rattle.echo_spec.proofs.Accepted.{checks-passed}
use Rattle.echo_spec.specs.Answers.{reading}
use Rattle.lets.specs.Lets.{
  uses_in,
  shared,
  reached,
  binds,
  let_name,
  Assertion,
  assertions_of,
  let_assertions_text,
  render_let,
  assertion_refusal,
  let_roots,
  names_clear,
  let_refusal_with,
  let_script,
  let_refusal,
}
use Rattle.echo_spec.specs.EncodingLaws.{encoded-binary}
use Rattle.theorems.specs.Scripts.{script_with, SoundDeclarations, lex-with, sorted-with, means-with}
use Rattle.theorems.specs.Printed.{declared-names, declarations-sound}
use Rattle.theorems.specs.Answered.{Passes, Whole, printed, script-reads-only}
use Rattle.theorems.specs.LetTerms.{let_terms_of, unfolded_assertions, FreshName, FitsAssertions, put-let-assertions, let-assertions-bool, let-assertions-mean}
use Rattle.theorems.specs.LetNames.{let-name-quotable, let-name-foreign, shared-below, names-clear}
use Rattle.theorems.specs.LetFitting.{assertion-fits, assertion-unfolds}

-- every check but the one for room
abbrev pub LetWhole : Problem → Type 0
LetWhole p = Passes p (let_refusal (dag_of p) (length p.bits) p.roots)

abbrev pub uses_of : Problem → List ℕ
uses_of p = uses_in (dag_of p) p.roots

abbrev pub let_assertions : Problem → List Assertion
let_assertions p = assertions_of (dag_of p) (widths_of (query_of p)) p.bits (uses_of p) p.roots

-- the problem's script with `let`
abbrev pub let_printed : Problem → List ℕ
let_printed p = let_script (query_of p)

-- the script that it is the text of
unfoldable pub let_script_of : Problem → Script
let_script_of p = script_with (reading p).declarations (let_terms_of (let_assertions p))

-- ---------------------------------------------------------------- every root

module _ (q : Query) (ok : Checked q.dag (widths_of q)) (binary : All (λ b. leb b 1) q.bits) (us : List ℕ) (clear : T (names_clear q.dag us)) where
  abbrev d : Dag
  d = q.dag

  abbrev bits : List ℕ
  bits = q.bits

  abbrev ws : List ℕ
  ws = widths_of q

  bound-below : (r j : ℕ) → T (binds d us r j) → j < length d.nodes
  unfolding binds
  bound-below r j t = shared-below d us j (and_0 (shared d us j) (among (reached d r) j) t)

  fresh-bound : (r j : ℕ) → T (binds d us r j) → FreshName (declarations_of d ws) (let_name j)
  unfolding binds
  fresh-bound r j t = record {
    undeclared = λ h. names-clear d us clear j (and_0 (shared d us j) (among (reached d r) j) t) (rw (declared-names d ws) at h);
    foreign = let-name-foreign j;
    quotes = let-name-quotable j;
  }

  roots-fit : (roots : List ℕ) → let_roots d ws us roots ≡ 0 → FitsAssertions (declarations_of d ws) (assertions_of d ws bits us roots)
  unfolding let_roots assertions_of
  roots-fit [] e = tt
  roots-fit (r ∷ rs) e =
      let (here, later) = or_else-passed (assertion_refusal d ws (binds d us r) r) _ e in
      (assertion-fits q ok binary (binds d us r) (bound-below r) (fresh-bound r) r here, roots-fit rs later)

  roots-unfold : (roots : List ℕ) → let_roots d ws us roots ≡ 0 → unfolded_assertions (assertions_of d ws bits us roots) ≡ trees_over (tree_of d ws bits) roots
  unfolding let_roots assertions_of unfolded_assertions trees_over
  roots-unfold [] e = refl
  roots-unfold (r ∷ rs) e =
      let (here, later) = or_else-passed (assertion_refusal d ws (binds d us r) r) _ e in
      let first = assertion-unfolds q ok binary (binds d us r) (bound-below r) (fresh-bound r) r here in
      let rest = roots-unfold rs later in
      λ i. more (first i) (rest i)

-- ---------------------------------------------------------------- the script

module _ (p : Problem) (w : LetWhole p) where
  passed : Checked (dag_of p) (widths_of (query_of p)) × (unless (names_clear (dag_of p) (uses_of p)) 11 ≡ 0) × (let_roots (dag_of p) (widths_of (query_of p)) (uses_of p) p.roots ≡ 0)
  unfolding let_refusal_with dag_of
  passed =
      checks-passed (dag_of p) (widths_of (query_of p)) (unless (names_clear (dag_of p) (uses_of p)) 11) (let_roots (dag_of p) (widths_of (query_of p)) (uses_of p) p.roots) w.query

  pub sound : SoundDeclarations (reading p).declarations
  sound = declarations-sound (query_of p) passed.0

  clear : T (names_clear (dag_of p) (uses_of p))
  clear = unless-passed (names_clear (dag_of p) (uses_of p)) 10 passed.1

  pub fit : FitsAssertions (reading p).declarations (let_assertions p)
  unfolding reading_of dag_of
  fit =
      roots-fit (query_of p) passed.0 (encoded-binary p w.encoding) (uses_of p) clear p.roots passed.2

  unfold-to : unfolded_assertions (let_assertions p) ≡ (reading p).assertions
  unfolding reading_of dag_of
  unfold-to =
      roots-unfold (query_of p) passed.0 (encoded-binary p w.encoding) (uses_of p) clear p.roots passed.2

  pub text-is : let_printed p ≡ render_let (reading p).declarations (let_assertions p)
  unfolding let_script reading_of dag_of
  text-is = refl

  pub let-lexed : Lex (let_printed p) (script_tokens (let_script_of p))
  unfolding render_let let_script_of
  let-lexed =
      rw text-is
      (lex-with (reading p).declarations sound (let_assertions_text (let_assertions p)) (let_terms_of (let_assertions p))
      (put-let-assertions (reading p).declarations sound.quotes (let_assertions p) fit))

  pub let-sorted : WellSorted (let_script_of p)
  unfolding let_script_of
  let-sorted = sorted-with (reading p).declarations sound (let_terms_of (let_assertions p)) (let-assertions-bool (reading p).declarations sound.apart (let_assertions p) fit)

  pub let-reads : Reads (let_printed p) (reading p)
  let-reads = record {
    tokens = script_tokens (let_script_of p);
    script = let_script_of p;
    lexed = let-lexed;
    parsed = refl;
    means =
        unfold let_script_of in
        means-with (reading p) (let_terms_of (let_assertions p))
        (subst (λ (ts : Trees). MeansAll (reading p).declarations (let_terms_of (let_assertions p)) (as_meanings ts)) unfold-to
        (let-assertions-mean (reading p).declarations (let_assertions p) fit));
  }

  pub let-reads-only : (r : Reading) → Reads (let_printed p) r → r ≡ reading p
  let-reads-only r h = sym (reads-unique (let_printed p) (reading p) r let-reads h sound.apart)

  pub let-only : (s : Script) → Lex (let_printed p) (script_tokens s) → s ≡ let_script_of p
  let-only s h = script-unique s (let_script_of p) (lex-unique (let_printed p) (script_tokens s) (script_tokens (let_script_of p)) h let-lexed)

-- equal bytes mean equal declarations and trees
pub let-scripts-equal : (p p' : Problem) → LetWhole p → LetWhole p' → let_printed p ≡ let_printed p' → reading p ≡ reading p'
let-scripts-equal p p' w w' e = let-reads-only p' w' (reading p) (subst (λ (b : List ℕ). Reads b (reading p)) e (let-reads p w))

-- and so across the two ways to print
pub let-plain-equal : (p p' : Problem) → LetWhole p → Whole p' → let_printed p ≡ printed p' → reading p ≡ reading p'
let-plain-equal p p' w w' e = script-reads-only p' w' (reading p) (subst (λ (b : List ℕ). Reads b (reading p)) e (let-reads p w))
