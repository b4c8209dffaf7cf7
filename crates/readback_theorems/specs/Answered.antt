-- The answer of reading back taken apart: what an acceptance, each refusal and reading a printed script say.
use Rattle.std.specs.Prelude.{ℕ, zero, suc, ◌≡◌, refl, List, [], ◌∷◌, Bool, true, false, ◌&&◌, ◌↔◌, T, length}
use Rattle.std.proofs.Math.Path.{ap}
use Rattle.std.proofs.Common.{sym, ◌∙◌, subst, arith}
use Rattle.std.proofs.Math.Option.{Option, none, some}
use Rattle.lists.specs.Tests.{among, among-left, every, and_0, and-1, T→true}
use Rattle.reading.specs.Trees.{Reading}
use Rattle.echo_spec.specs.Refusals.{unless, ◌or_else◌}
use Rattle.echo_spec.specs.Input.{Problem, within_limits, Query, query_of}
use Rattle.echo_spec.specs.Trees.{reading_of}
use Rattle.echo_spec.specs.Walk.{refusal}
use Rattle.echo_spec.specs.Render.{render}
use Rattle.echo_spec.specs.Answers.{at_front, zeroed, reading, script}
use Rattle.echo_spec.specs.Accepted.{unless-passed, or_else-passed, in-or_else, in-unless}
use Rattle.theorems.specs.Answered.{Whole, printed}
use Rattle.readback.specs.Printable.{printable}
use Rattle.readback.specs.Rebuild.{rebuild}
use Rattle.readback.specs.Records.{holdable, inputs}
use Rattle.readback.specs.ScriptReader.{reading_in}
use Rattle.readback.specs.ReadAnswers.{each_with, lists_of, all_fit, sizes_of, no_sizes, ReadAnswer, limits_passed, rebuilt_refusal, read_as, nothing, read_from, read_script_answer}
use Rattle.rebuilt.specs.Accepted.{rebuilt-passes, rebuilt-reading, rebuilt-script, rebuilt-encodable}
use Rattle.rebuilt.specs.Inputs.{inputs-query, inputs-encoded}
use Rattle.readback_theorems.specs.Printables.{Acceptable, ProblemScript, passed-printable}
use Rattle.readback_theorems.specs.Decided.{reading-in, thirteen}

-- ---------------------------------------------------------------- the rebuilt problem as the printer's inputs

module _ (r : Reading) (h : T (printable r)) (fits : T (limits_passed (rebuild r))) where
  held : T (every holdable (rebuild r).dag.nodes)
  unfolding limits_passed
  held = and_0 (every holdable (rebuild r).dag.nodes) _ fits

  within : T (within_limits (inputs (rebuild r)))
  unfolding limits_passed
  within = and-1 (every holdable (rebuild r).dag.nodes) _ fits

  query-passes : (q : Query) → q ≡ rebuild r → refusal q.dag (length q.bits) q.roots ≡ 0
  query-passes q e = rw e (rebuilt-passes r h)

  -- the printer passes it but for room
  pub inputs-whole : Whole (inputs (rebuild r))
  inputs-whole = record {
    limits = within;
    encoding = inputs-encoded (rebuild r) held (rebuilt-encodable r h);
    query = query-passes (query_of (inputs (rebuild r))) (inputs-query (rebuild r) held);
  }

  pub inputs-reading : reading (inputs (rebuild r)) ≡ r
  inputs-reading = ap reading_of (inputs-query (rebuild r) held) ∙ rebuilt-reading r h

  pub inputs-script : printed (inputs (rebuild r)) ≡ render r
  inputs-script = ap script (inputs-query (rebuild r) held) ∙ rebuilt-script r h

-- ---------------------------------------------------------------- numbers

as_number : (n : ℕ) (p lent : Problem) → (read_as n p lent).number ≡ n
unfolding read_as
as_number zero p lent = refl
as_number (suc n) p lent = refl

abbrev refused_with : ℕ → Problem → ReadAnswer
refused_with n lent = record { number = n; sizes = no_sizes; output = each_with (λ _ l. zeroed l) lent lent }

as-refused : (m n : ℕ) (p lent : Problem) → (read_as m p lent).number ≡ suc n → read_as m p lent ≡ refused_with (suc n) lent
unfolding read_as
as-refused zero n p lent e = absurd (omega arith)
as-refused (suc m) n p lent e = ap (λ (k : ℕ). refused_with k lent) e

-- A refusal has no sizes, and every output zeroed.
pub read-refused : (b : List ℕ) (lent : Problem) (n : ℕ) → (read_script_answer b lent).number ≡ suc n
    → read_script_answer b lent ≡ record { number = suc n; sizes = no_sizes; output = each_with (λ _ l. zeroed l) lent lent }
unfolding read_script_answer read_from
read-refused b lent n e = by-reading (reading_in b) e
  where
    by-reading : (o : Option Reading) → (read_from o lent).number ≡ suc n → read_from o lent ≡ refused_with (suc n) lent
    by-reading none e = as-refused 13 n nothing lent e
    by-reading (some r) e = as-refused (rebuilt_refusal (rebuild r) lent) n (inputs (rebuild r)) lent e

-- ---------------------------------------------------------------- an acceptance

-- What was read is a problem that the printer accepts, given room; it prints the same script, and has its reading.
pub record ReadBack (b : List ℕ) (lent : Problem) : Type 0 where
  pub problem : Problem
  pub answer : read_script_answer b lent ≡ record { number = 0; sizes = sizes_of problem; output = each_with at_front problem lent }
  pub room : T (all_fit (lists_of problem) (lists_of lent))
  pub whole : Whole problem
  pub prints : printed problem ≡ b
  -- the problem is that of the script's reading, whatever was lent
  pub only : problem ≡ inputs (rebuild (reading problem))

module _ (b : List ℕ) (lent : Problem) where
  answer-is : (o : Option Reading) → reading_in b ≡ o → read_script_answer b lent ≡ read_from o lent
  unfolding read_script_answer
  answer-is o q = ap (λ (o : Option Reading). read_from o lent) q

  no-script-number : reading_in b ≡ none → (read_script_answer b lent).number ≡ 13
  unfolding read_from
  no-script-number q = ap (λ (a : ReadAnswer). a.number) (answer-is none q) ∙ as_number 13 nothing lent

  script-number : (r : Reading) → reading_in b ≡ some r → (read_script_answer b lent).number ≡ rebuilt_refusal (rebuild r) lent
  unfolding read_from
  script-number r q = ap (λ (a : ReadAnswer). a.number) (answer-is (some r) q) ∙ as_number (rebuilt_refusal (rebuild r) lent) (inputs (rebuild r)) lent

  taken : (r : Reading) → rebuilt_refusal (rebuild r) lent ≡ 0 → read_from (some r) lent ≡ record { number = 0; sizes = sizes_of (inputs (rebuild r)); output = each_with at_front (inputs (rebuild r)) lent }
  unfolding read_from read_as
  taken r z = ap (λ (n : ℕ). read_as n (inputs (rebuild r)) lent) z

  checks : (q : Query) → rebuilt_refusal q lent ≡ 0 → T (limits_passed q) × T (all_fit (lists_of (inputs q)) (lists_of lent))
  unfolding rebuilt_refusal
  checks q z =
      let (a, c) = or_else-passed (unless (limits_passed q) 9) _ z in
      (unless-passed (limits_passed q) 8 a, unless-passed (all_fit (lists_of (inputs q)) (lists_of lent)) 9 c)

  pub read-accepted : (read_script_answer b lent).number ≡ 0 → ReadBack b lent
  read-accepted e = by-reading (reading_in b) refl
    where
      by-reading : (o : Option Reading) → reading_in b ≡ o → ReadBack b lent
      by-reading none q = absurd (let f : 13 ≡ 0 = sym (no-script-number q) ∙ e in omega arith)
      by-reading (some r) q =
          let (h, t) = (reading-in b r).0 q in
          let z : rebuilt_refusal (rebuild r) lent ≡ 0 = sym (script-number r q) ∙ e in
          let (fits, room) = checks (rebuild r) z in
          record {
            problem = inputs (rebuild r);
            answer = answer-is (some r) q ∙ taken r z;
            room = room;
            whole = inputs-whole r h fits;
            prints = inputs-script r h fits ∙ t;
            only = ap (λ (r : Reading). inputs (rebuild r)) (sym (inputs-reading r h fits));
          }

-- ---------------------------------------------------------------- 13, 9 and 10

rebuilt-number : (q : Query) (lent : Problem) → T (among (0 ∷ 9 ∷ 10 ∷ []) (rebuilt_refusal q lent))
unfolding rebuilt_refusal
rebuilt-number q lent =
    in-or_else (among (0 ∷ 9 ∷ 10 ∷ [])) (unless (limits_passed q) 9) (unless (all_fit (lists_of (inputs q)) (lists_of lent)) 10) (in-unless (among (0 ∷ 9 ∷ 10 ∷ [])) (limits_passed q) 9 tt tt)
    (in-unless (among (0 ∷ 9 ∷ 10 ∷ [])) (all_fit (lists_of (inputs q)) (lists_of lent)) 10 tt tt)

-- 13 is answered exactly for bytes that are no problem's script.
pub read-thirteen : (b : List ℕ) (lent : Problem) → ((read_script_answer b lent).number ≡ 13) ↔ (ProblemScript b → ⊥)
read-thirteen b lent = (λ e. (thirteen b).0 (by-reading (reading_in b) refl e), λ f. no-script-number b lent ((thirteen b).1 f))
  where
    by-reading : (o : Option Reading) → reading_in b ≡ o → (read_script_answer b lent).number ≡ 13 → reading_in b ≡ none
    by-reading none q e = q
    by-reading (some r) q e =
        let f : rebuilt_refusal (rebuild r) lent ≡ 13 = sym (script-number b lent r q) ∙ e in
        absurd (subst (λ (n : ℕ). T (among (0 ∷ 9 ∷ 10 ∷ []) n)) f (rebuilt-number (rebuild r) lent))

-- An answer is 0, 9, 10 or 13.
pub read-listed : (b : List ℕ) (lent : Problem) → T (among (0 ∷ 9 ∷ 10 ∷ 13 ∷ []) (read_script_answer b lent).number)
read-listed b lent = by-reading (reading_in b) refl
  where
    by-reading : (o : Option Reading) → reading_in b ≡ o → T (among (0 ∷ 9 ∷ 10 ∷ 13 ∷ []) (read_script_answer b lent).number)
    by-reading none q = rw (no-script-number b lent q) tt
    by-reading (some r) q = rw (script-number b lent r q) (among-left (0 ∷ 9 ∷ 10 ∷ []) (13 ∷ []) (rebuilt_refusal (rebuild r) lent) (rebuilt-number (rebuild r) lent))

-- ---------------------------------------------------------------- the script of a problem that is accepted

-- Reading the script of a problem that passes all checks but the limits and the room gives the number of what its reading is rebuilt as:
-- 9 where that is over a limit or a record cannot hold a number of it, and else 10 where an output is too short, and else 0.
pub printed-read : (q : Query) (lent : Problem) → Acceptable q → (read_script_answer (script q) lent).number ≡ rebuilt_refusal (rebuild (reading_of q)) lent
unfolding script
printed-read q lent p = script-number (render (reading_of q)) lent (reading_of q) ((reading-in (render (reading_of q)) (reading_of q)).1 (passed-printable q p, refl))

-- what is rebuilt is refused with nothing exactly where the limits are kept, records can hold it, and there is room
pub refusal-none : (q : Query) (lent : Problem) → (rebuilt_refusal q lent ≡ 0) ↔ (T (limits_passed q) × T (all_fit (lists_of (inputs q)) (lists_of lent)))
unfolding rebuilt_refusal
refusal-none q lent = (
  λ z. (let (a, c) = or_else-passed (unless (limits_passed q) 9) _ z in (unless-passed (limits_passed q) 8 a, unless-passed (all_fit (lists_of (inputs q)) (lists_of lent)) 9 c)),
  λ (l, r). rw (T→true (limits_passed q) l, T→true (all_fit (lists_of (inputs q)) (lists_of lent)) r),
)
