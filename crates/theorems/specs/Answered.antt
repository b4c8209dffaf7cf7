-- The printer's answer taken apart: what an acceptance and what each refusal says.
use Prim.Native.Nat.{ℕ, zero, suc, ◌≤◌, ◌<◌}
use Rattle.std.specs.Prelude.{◌≡◌, List, [], ◌∷◌, ◌++◌, Bool, not, ◌↔◌, ◌≢◌, eqb, drop, replicate}
use Rattle.std.proofs.Math.Path.{refl, sym, subst}
use Rattle.std.proofs.Common.{ap, ◌∙◌, arith, le→leb}
use Rattle.std.proofs.Math.Bool.{true, false}
use Rattle.std.proofs.Math.Dec.{T, leb, leb→le, nleb→lt}
use Rattle.std.proofs.Math.ListN.{length}
use Rattle.lists.specs.Tests.{T→true, no→false, in_list, among, among-every}
use Rattle.reading.specs.Trees.{Name, Reading}
use Rattle.smtlib.specs.Lexicon.{Lex}
use Rattle.smtlib.specs.Grammar.{Script, script_tokens}
use Rattle.smtlib.specs.GrammarUnique.{script-unique}
use Rattle.smtlib.proofs.LexUnique.{lex-unique}
use Rattle.smtlib.specs.Readings.{Reads}
use Rattle.smtlib.proofs.ReadsUnique.{reads-unique}
use Rattle.smtlib.specs.Sorts.{WellSorted}
use Rattle.echo_spec.specs.Refusals.{unless, ◌or_else◌}
use Rattle.echo_spec.specs.Input.{Problem, ArrayWidths, within_limits, encoded, nodes_of, dag_of, query_of}
use Rattle.echo_spec.specs.Widths.{array_widths_ok, ext_wf_of, widths_of}
use Rattle.echo_spec.specs.NameLaws.{name_ok, all_names}
use Rattle.echo_spec.proofs.NameLaws.{name-refused}
use Rattle.echo_spec.specs.Tables.{columns_ok}
use Rattle.echo_spec.specs.Walk.{refusal_with, refusal}
use Rattle.echo_spec.specs.Render.{render}
use Rattle.echo_spec.specs.Answers.{
  width_refusal,
  refused_node,
  width_answer,
  ext_wf_answer,
  reading,
  script,
  endless_with,
  endless_refusal,
  text_refusal,
  echo_answer,
  text_answer,
  echo_ext_answer,
}
use Rattle.echo_spec.specs.Accepted.{unless-passed, or_else-passed, in-or_else, in-unless, endless_number}
use Rattle.echo_spec.proofs.Accepted.{endless-number}
use Rattle.echo_spec.specs.EncodingLaws.{encoded-binary}
use Rattle.theorems.specs.Scripts.{script_of, Sound, lex-script, script-well-sorted, render-reads}
use Rattle.theorems.specs.Printed.{reading-sound}

-- ---------------------------------------------------------------- a text by its number with endless room

answer-number : (n : ℕ) (result lent : List ℕ) → (echo_answer n result lent).number ≡ n
unfolding echo_answer
answer-number zero result lent = refl
answer-number (suc n) result lent = refl

-- for any way to print: n is the number with endless room
module _ (n : ℕ) (text lent : List ℕ) where
  pub text-number : (text_answer n text lent).number ≡ text_refusal n text (length lent)
  unfolding text_answer
  text-number = answer-number (text_refusal n text (length lent)) text lent

  -- number, length and whole output of an acceptance
  pub text-acceptance : (text_answer n text lent).number ≡ 0
      → text_answer n text lent ≡ record { number = 0; count = length text; output = text ++ drop (length text) lent }
  unfolding text_answer echo_answer
  text-acceptance e =
      let r : text_refusal n text (length lent) ≡ 0 = sym text-number ∙ e in
      rw r

  -- number, length and whole output of a refusal
  pub text-refused : (k : ℕ) → (text_answer n text lent).number ≡ suc k
      → text_answer n text lent ≡ record { number = suc k; count = 0; output = replicate (length lent) 0 }
  unfolding text_answer echo_answer
  text-refused k e =
      let r : text_refusal n text (length lent) ≡ suc k = sym text-number ∙ e in
      rw r

  -- accepted exactly where nothing is refused with endless room and the text fits
  pub text-accepted : ((text_answer n text lent).number ≡ 0) ↔ ((n ≡ 0) × (length text ≤ length lent))
  unfolding text_refusal
  text-accepted = (
    λ e.
        let h = or_else-passed n (unless (leb (length text) (length lent)) 10) (sym text-number ∙ e) in
        (h.0, leb→le (length text) (length lent) (unless-passed (leb (length text) (length lent)) 9 h.1)),
    λ h. text-number ∙ rw (h.0, T→true (leb (length text) (length lent)) (le→leb (length text) (length lent) h.1)),
  )

  -- 10 is for room alone, where it is no number with endless room
  pub text-room : n ≢ 10 → ((text_answer n text lent).number ≡ 10) ↔ ((n ≡ 0) × (length lent < length text))
  unfolding text_refusal
  text-room far = (
    λ e. let h = or_else-told n (unless (leb (length text) (length lent)) 10) far (sym text-number ∙ e) in (h.0, by-room (length text) (length lent) h.1),
    λ h.
        let long : leb (length text) (length lent) ≡ false =
        no→false (leb (length text) (length lent)) (λ t. let l = leb→le (length text) (length lent) t in let m : length lent < length text = h.1 in omega arith) in
        text-number ∙ rw (h.0, long),
  )
    where
      or_else-told : (m k : ℕ) → m ≢ 10 → (m or_else k) ≡ 10 → (m ≡ 0) × (k ≡ 10)
      or_else-told zero k far e = (refl, e)
      or_else-told (suc m) k far e = absurd (far e)

      by-room : (k room : ℕ) → (unless (leb k room) 10 ≡ 10) → room < k
      by-room k room e = nleb→lt k room (not-passed (leb k room) e)
        where
          not-passed : (b : Bool) → unless b 10 ≡ 10 → T (not b)
          not-passed true e = absurd (omega arith)
          not-passed false e = tt

  -- a number that is neither 0 nor 10 is the one with endless room
  pub text-told : (k : ℕ) → suc k ≢ 10 → ((text_answer n text lent).number ≡ suc k) ↔ (n ≡ suc k)
  unfolding text_refusal
  text-told k far = (λ e. told n (leb (length text) (length lent)) (sym text-number ∙ e), λ e. text-number ∙ rw e)
    where
      told : (m : ℕ) (b : Bool) → (m or_else unless b 10) ≡ suc k → m ≡ suc k
      told zero true e = absurd (omega arith)
      told zero false e = absurd (far (sym e))
      told (suc m) b e = e

-- what holds of every number with endless room, and of 10, holds of the answer's
pub text-listed : (q : ℕ → Bool) (n : ℕ) (text lent : List ℕ) → T (q 0) → T (q 10) → T (q n) → T (q (text_answer n text lent).number)
unfolding text_refusal
text-listed q n text lent z t h = rw (text-number n text lent) (in-or_else q n _ h (in-unless q (leb (length text) (length lent)) 10 z t))

-- ---------------------------------------------------------------- a problem that passes every check but the one for room

-- within the limits, encoded, and its query not refused; `asked` is the query's refusal by the way in which it is printed
pub record Passes (p : Problem) (asked : ℕ) : Type 0 where
  pub limits : T (within_limits p)
  pub encoding : T (encoded p.nodes p.bits)
  pub query : asked ≡ 0

pub endless-passes : (p : Problem) (asked : ℕ) → (endless_with p asked ≡ 0) ↔ Passes p asked
unfolding endless_with
endless-passes p asked = (
  λ e.
      let e₁ = or_else-passed (unless (within_limits p) 9) _ e in
      let e₂ = or_else-passed (unless (encoded p.nodes p.bits) 8) asked e₁.1 in
      record {
        limits = unless-passed (within_limits p) 8 e₁.0;
        encoding = unless-passed (encoded p.nodes p.bits) 7 e₂.0;
        query = e₂.1;
      },
  λ w. rw (T→true (within_limits p) w.limits, T→true (encoded p.nodes p.bits) w.encoding, w.query),
)

pub endless-listed : (t : ℕ → Bool) (p : Problem) (asked : ℕ) → T (t 0) → T (t 8) → T (t 9) → T (t asked) → T (t (endless_with p asked))
unfolding endless_with
endless-listed t p asked z e n h =
    in-or_else t (unless (within_limits p) 9) _ (in-unless t (within_limits p) 9 z n)
    (in-or_else t (unless (encoded p.nodes p.bits) 8) asked (in-unless t (encoded p.nodes p.bits) 8 z e) h)

-- a number other than 9 and 8 is the query's
pub endless-told : (p : Problem) (asked k : ℕ) → 9 ≢ suc k → 8 ≢ suc k
    → (endless_with p asked ≡ suc k) ↔ (T (within_limits p) × T (encoded p.nodes p.bits) × (asked ≡ suc k))
unfolding endless_with
endless-told p asked k a b = (
  λ e.
      let (l, e₁) = past (within_limits p) 8 _ a e in
      let (n, e₂) = past (encoded p.nodes p.bits) 7 _ b e₁ in
      (l, n, e₂),
  λ h. rw (T→true (within_limits p) h.0, T→true (encoded p.nodes p.bits) h.1, h.2),
)
  where
    past : (b : Bool) (n x : ℕ) → suc n ≢ suc k → (unless b (suc n) or_else x) ≡ suc k → T b × (x ≡ suc k)
    past true n x h e = (tt, e)
    past false n x h e = absurd (h e)

-- ---------------------------------------------------------------- the plain printer

-- every check but the one for room
abbrev pub Whole : Problem → Type 0
Whole p = Passes p (refusal (dag_of p) (length p.bits) p.roots)

-- the problem's script
abbrev pub printed : Problem → List ℕ
printed p = script (query_of p)

pub endless-whole : (p : Problem) → (endless_refusal p ≡ 0) ↔ Whole p
unfolding endless_refusal
endless-whole p = endless-passes p _

-- acceptance or a listed number
pub number-listed : (p : Problem) (lent : List ℕ) → T (among (0 ∷ 1 ∷ 2 ∷ 3 ∷ 4 ∷ 5 ∷ 6 ∷ 7 ∷ 8 ∷ 9 ∷ 10 ∷ 12 ∷ []) (echo_ext_answer p lent).number)
unfolding echo_ext_answer endless_number
number-listed p lent =
    let q : (ℕ → Bool) = among (0 ∷ 1 ∷ 2 ∷ 3 ∷ 4 ∷ 5 ∷ 6 ∷ 7 ∷ 8 ∷ 9 ∷ 10 ∷ 12 ∷ []) in
    text-listed q (endless_refusal p) (printed p) lent tt tt (among-every q (0 ∷ 1 ∷ 2 ∷ 3 ∷ 4 ∷ 5 ∷ 6 ∷ 7 ∷ 8 ∷ 9 ∷ 12 ∷ []) tt (endless_refusal p) (endless-number p))

pub acceptance : (p : Problem) (lent : List ℕ) → (echo_ext_answer p lent).number ≡ 0
    → echo_ext_answer p lent ≡ record { number = 0; count = length (printed p); output = printed p ++ drop (length (printed p)) lent }
unfolding echo_ext_answer
acceptance p lent e = text-acceptance (endless_refusal p) (printed p) lent e

pub refused : (p : Problem) (lent : List ℕ) (n : ℕ) → (echo_ext_answer p lent).number ≡ suc n
    → echo_ext_answer p lent ≡ record { number = suc n; count = 0; output = replicate (length lent) 0 }
unfolding echo_ext_answer
refused p lent n e = text-refused (endless_refusal p) (printed p) lent n e

-- 0 is answered exactly where every check passes and the script fits
pub accepted-exactly : (p : Problem) (lent : List ℕ) → ((echo_ext_answer p lent).number ≡ 0) ↔ (Whole p × (length (printed p) ≤ length lent))
unfolding echo_ext_answer
accepted-exactly p lent =
    let a = text-accepted (endless_refusal p) (printed p) lent in
    (λ e. let h = a.0 e in ((endless-whole p).0 h.0, h.1), λ h. a.1 ((endless-whole p).1 h.0, h.1))

pub accepted-whole : (p : Problem) (lent : List ℕ) → (echo_ext_answer p lent).number ≡ 0 → Whole p × (length (printed p) ≤ length lent)
accepted-whole p lent = (accepted-exactly p lent).0

-- 10 is answered exactly where every other check passes and the script is longer than the room
pub room-refusal : (p : Problem) (lent : List ℕ) → ((echo_ext_answer p lent).number ≡ 10) ↔ (Whole p × (length lent < length (printed p)))
unfolding echo_ext_answer
room-refusal p lent =
    let a = text-room (endless_refusal p) (printed p) lent (λ e. unfold endless_number in subst (λ (k : ℕ). T (endless_number k)) e (endless-number p)) in
    (λ e. let h = a.0 e in ((endless-whole p).0 h.0, h.1), λ h. a.1 ((endless-whole p).1 h.0, h.1))

-- every check before that of the names
pub record BeforeNames (p : Problem) : Type 0 where
  pub limits : T (within_limits p)
  pub encoding : T (encoded p.nodes p.bits)
  pub columns : T (columns_ok (dag_of p))
  pub arrays : T (array_widths_ok (dag_of p).array-widths)
  pub widths : T (eqb (length (widths_of (query_of p))) (length (dag_of p).nodes))

-- a name that breaks a rule by itself, in any of the tables, is 2, where nothing before is refused
pub named-refused : (p : Problem) (lent : List ℕ) (n : Name) → BeforeNames p → (T (name_ok n) → ⊥) → T (in_list n (all_names (dag_of p)))
    → (echo_ext_answer p lent).number ≡ 2
unfolding echo_ext_answer endless_refusal endless_with refusal_with
named-refused p lent n b k h =
    (text-told (endless_refusal p) (printed p) lent 1 (λ e. omega arith)).1
    (rw (
      T→true (within_limits p) b.limits,
      T→true (encoded p.nodes p.bits) b.encoding,
      T→true (columns_ok (dag_of p)) b.columns,
      T→true (array_widths_ok (dag_of p).array-widths) b.arrays,
      T→true (eqb (length (widths_of (query_of p))) (length (dag_of p).nodes)) b.widths,
      name-refused (dag_of p) n k h,
    ))

-- ---------------------------------------------------------------- the script of a problem that passes every check

module _ (p : Problem) (w : Whole p) where
  pub sound : Sound (reading p)
  unfolding dag_of
  sound = reading-sound (query_of p) (encoded-binary p w.encoding) w.query

  text-is : printed p ≡ render (reading p)
  unfolding script
  text-is = refl

  pub script-lexed : Lex (printed p) (script_tokens (script_of (reading p)))
  script-lexed = rw text-is (lex-script (reading p) sound)

  pub script-sorted : WellSorted (script_of (reading p))
  script-sorted = script-well-sorted (reading p) sound

  pub script-reads : Reads (printed p) (reading p)
  script-reads = rw text-is (render-reads (reading p) sound)

  pub script-reads-only : (r : Reading) → Reads (printed p) r → r ≡ reading p
  script-reads-only r h = sym (reads-unique (printed p) (reading p) r script-reads h sound.declarations.apart)

  pub script-only : (s : Script) → Lex (printed p) (script_tokens s) → s ≡ script_of (reading p)
  script-only s h = script-unique s (script_of (reading p)) (lex-unique (printed p) (script_tokens s) (script_tokens (script_of (reading p))) h script-lexed)

-- equal scripts have equal readings, and equal readings equal scripts
pub scripts-equal : (p p' : Problem) → Whole p → Whole p' → (printed p ≡ printed p') ↔ (reading p ≡ reading p')
scripts-equal p p' w w' = (
  λ e. script-reads-only p' w' (reading p) (subst (λ (b : List ℕ). Reads b (reading p)) e (script-reads p w)),
  λ e. text-is p w ∙ ap render e ∙ sym (text-is p' w'),
)

-- ---------------------------------------------------------------- the width pass

width-whole : (n at : ℕ) (ws lent : List ℕ) → (width_answer n at ws lent).number ≡ 0
    → width_answer n at ws lent ≡ record { number = 0; count = length ws; output = ws ++ drop (length ws) lent }
unfolding width_answer
width-whole zero at ws lent e = refl
width-whole (suc zero) at ws lent e = absurd (omega arith)
width-whole (suc (suc n)) at ws lent e = absurd (omega arith)

width-zeroed : (n at : ℕ) (ws lent : List ℕ) {k : ℕ} → (width_answer n at ws lent).number ≡ suc k → (width_answer n at ws lent).output ≡ replicate (length lent) 0
unfolding width_answer
width-zeroed zero at ws lent e = absurd (omega arith)
width-zeroed (suc zero) at ws lent e = refl
width-zeroed (suc (suc n)) at ws lent e = refl

pub width-accepted : (nodes bits side : List ℕ) (arrays : ArrayWidths) (lent : List ℕ) → (ext_wf_answer nodes bits side arrays lent).number ≡ 0
    → let ws : List ℕ = ext_wf_of (length bits) arrays side (nodes_of nodes) in
    ext_wf_answer nodes bits side arrays lent ≡ record { number = 0; count = length ws; output = ws ++ drop (length ws) lent }
unfolding ext_wf_answer
width-accepted nodes bits side arrays lent e =
    let ws : List ℕ = ext_wf_of (length bits) arrays side (nodes_of nodes) in
    width-whole (width_refusal nodes bits side arrays ws (length lent)) (refused_node nodes arrays ws) ws lent e

pub width-refused : (nodes bits side : List ℕ) (arrays : ArrayWidths) (lent : List ℕ) (k : ℕ) → (ext_wf_answer nodes bits side arrays lent).number ≡ suc k
    → (ext_wf_answer nodes bits side arrays lent).output ≡ replicate (length lent) 0
unfolding ext_wf_answer
width-refused nodes bits side arrays lent k e =
    let ws : List ℕ = ext_wf_of (length bits) arrays side (nodes_of nodes) in
    width-zeroed (width_refusal nodes bits side arrays ws (length lent)) (refused_node nodes arrays ws) ws lent e
