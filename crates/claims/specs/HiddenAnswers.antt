-- The hidden form of a sound reading is sound: what it names is declared, and each constant keeps its width.
use Rattle.std.specs.Prelude.{ℕ, zero, suc, ◌<◌, ◌≡◌, List, [], ◌∷◌, map, leb, length, replicate}
use Rattle.std.proofs.Math.Path.{refl}
use Rattle.std.proofs.Common.{sym, ap, ◌∙◌, subst}
use Rattle.std.proofs.lemmas.List.{length-replicate}
use Rattle.lists.specs.Tests.{All}
use Rattle.reading.specs.Trees.{Tree, variable, constant, apply, select, call, Trees, none, more, Stores, base, store, Declarations, Reading}
use Rattle.smtlib.specs.Lexicon.{Lex}
use Rattle.smtlib.specs.Grammar.{Script, script_tokens}
use Rattle.smtlib.specs.GrammarUnique.{script-unique}
use Rattle.smtlib.proofs.LexUnique.{lex-unique}
use Rattle.smtlib.specs.Readings.{Reads}
use Rattle.smtlib.proofs.ReadsUnique.{reads-unique}
use Rattle.smtlib.specs.Sorts.{TermSort, bits, WellSorted}
use Rattle.echo_spec.specs.Input.{Problem, query_of}
use Rattle.echo_spec.specs.Render.{render}
use Rattle.echo_spec.specs.Answers.{reading}
use Rattle.hidden.specs.Hidden.{zeros, hidden, hidden_all, hidden_stores, hidden_reading, hidden_script}
use Rattle.theorems.specs.Terms.{Fits, FitsAll, FitsStores}
use Rattle.theorems.specs.Scripts.{bools, script_of, Sound, lex-script, script-well-sorted, render-reads}
use Rattle.theorems.specs.Answered.{Whole, sound}
use Rattle.theorems.specs.ScriptLines.{reading-script}
use Rattle.script_lines.specs.Lines.{IsScript}

all-zeros : (n : ℕ) → All (λ b. leb b 1) (replicate n 0)
all-zeros zero = tt
all-zeros (suc n) = (tt, all-zeros n)

zeros-length : (bs : List ℕ) → length (zeros bs) ≡ length bs
unfolding zeros
zeros-length bs = length-replicate (length bs) 0

module _ (D : Declarations) where
  mutual
    unfolding hidden zeros

    fits-hidden : (t : Tree) (s : TermSort) → Fits D t s → Fits D (hidden t) s
    fits-hidden (variable n) s h = h
    fits-hidden (constant bs) s h =
        (subst (λ (n : ℕ). 0 < n) (sym (zeros-length bs)) h.0, all-zeros (length bs), h.2 ∙ ap bits (sym (zeros-length bs)))
    fits-hidden (apply k ks ts) s h = (h.0, h.1, fit-hidden ts (h.0 ∷ h.1) h.2, h.3, h.4, h.5)
    fits-hidden (select a j ss) s h = (h.0, h.1, h.2, h.3, fits-hidden j (bits h.0) h.4, stores-hidden ss h.0 h.1 h.5, h.6)
    fits-hidden (call n ts) s h = (h.0, h.1, h.2, fit-hidden ts (map bits h.0) h.3, h.4)

    fit-hidden : (ts : Trees) (us : List TermSort) → FitsAll D ts us → FitsAll D (hidden_all ts) us
    fit-hidden none [] h = tt
    fit-hidden none (u ∷ us) h = absurd h
    fit-hidden (more t ts) [] h = absurd h
    fit-hidden (more t ts) (u ∷ us) h = (fits-hidden t u h.0, fit-hidden ts us h.1)

    stores-hidden : (ss : Stores) (i v : ℕ) → FitsStores D ss i v → FitsStores D (hidden_stores ss) i v
    stores-hidden base i v h = tt
    stores-hidden (store x y ss) i v h = (fits-hidden x (bits i) h.0, fits-hidden y (bits v) h.1, stores-hidden ss i v h.2)

bools-hidden : (ts : Trees) → bools (hidden_all ts) ≡ bools ts
unfolding hidden
bools-hidden none = refl
bools-hidden (more t ts) = ap (λ (us : List TermSort). TermSort.bool ∷ us) (bools-hidden ts)

pub sound-hidden : (r : Reading) → Sound r → Sound (hidden_reading r)
unfolding hidden_reading
sound-hidden r ok = record { declarations = ok.declarations; assertions = rw (bools-hidden r.assertions) (fit-hidden r.declarations r.assertions (bools r.assertions) ok.assertions) }

-- ---------------------------------------------------------------- the hidden script of a problem that passes every check

-- the problem's reading with zeros for the bits of each constant
abbrev pub reading_hidden : Problem → Reading
reading_hidden p = hidden_reading (reading p)

module _ (p : Problem) (w : Whole p) where
  ok : Sound (reading_hidden p)
  ok = sound-hidden (reading p) (sound p w)

  text-is : hidden_script (query_of p) ≡ render (reading_hidden p)
  unfolding hidden_script
  text-is = refl

  pub hidden-lexed : Lex (hidden_script (query_of p)) (script_tokens (script_of (reading_hidden p)))
  hidden-lexed = rw text-is (lex-script (reading_hidden p) ok)

  pub hidden-sorted : WellSorted (script_of (reading_hidden p))
  hidden-sorted = script-well-sorted (reading_hidden p) ok

  pub hidden-only : (s : Script) → Lex (hidden_script (query_of p)) (script_tokens s) → s ≡ script_of (reading_hidden p)
  hidden-only s h = script-unique s (script_of (reading_hidden p)) (lex-unique (hidden_script (query_of p)) (script_tokens s) (script_tokens (script_of (reading_hidden p))) h hidden-lexed)

  pub hidden-reads : Reads (hidden_script (query_of p)) (reading_hidden p)
  hidden-reads = rw text-is (render-reads (reading_hidden p) ok)

  pub hidden-reads-only : (r : Reading) → Reads (hidden_script (query_of p)) r → r ≡ reading_hidden p
  hidden-reads-only r h = sym (reads-unique (hidden_script (query_of p)) (reading_hidden p) r hidden-reads h ok.declarations.apart)

  -- it is lines, the last of them `(check-sat)`
  pub hidden-lines : IsScript (hidden_script (query_of p))
  hidden-lines = rw text-is (reading-script (reading_hidden p) ok)
