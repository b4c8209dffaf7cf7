-- The printer's answer with its script covered is the answer of the hidden form.
use Prim.Native.Nat.{ℕ, zero, suc, ◌-◌, ◌≤◌}
use Rattle.std.specs.Prelude.{◌≡◌, leb, Result, Ok, Err}
use Rattle.std.proofs.Math.Path.{refl, sym, ap}
use Rattle.std.proofs.Common.{◌∙◌, arith, length-append}
use mathlib.Core.List.{List, ◌++◌}
use Rattle.std.proofs.Math.ListN.{length, take, drop}
use Rattle.std.proofs.Math.Seq.{take-append_seam, drop-append_seam}
use Rattle.echo_spec.specs.Refusals.{unless, ◌or_else◌}
use Rattle.echo_spec.specs.Input.{Problem, query_of}
use Rattle.echo_spec.specs.Answers.{Answer, reading, script, endless_refusal, text_refusal, echo_answer, text_answer, echo_ext_answer}
use Rattle.refusals.specs.declared.EchoError.{EchoError}
use Rattle.refusals.specs.Numbers.{error_number, error-number}
use Rattle.echo_kernel.specs.Answered.{count, answered}
use Rattle.hidden.specs.Hidden.{hidden_script, echo_hidden_answer}
use Rattle.theorems.specs.Answered.{Whole, printed, sound, acceptance, refused, accepted-whole, endless-whole, text-number}
use Rattle.echo_hidden.specs.Covered.{outside, covered, covered-length}
use Rattle.echo_hidden.specs.CoveredText.{covered-script}

-- a buffer whose first n bytes are covered
unfoldable pub covered_first : ℕ → List ℕ → List ℕ
covered_first n l = covered outside (take n l) ++ drop n l

-- a buffer in which the script that was printed, if one was, is covered
unfoldable pub covered_by : Result ℕ EchoError → List ℕ → List ℕ
covered_by (Ok n) l = covered_first n l
covered_by (Err e) l = l

-- a script that was printed lies in the buffer
pub printed-inside : (p : Problem) (lent : List ℕ) (r : Result ℕ EchoError) (l : List ℕ) → answered r l ≡ echo_ext_answer p lent → count r ≤ length l
printed-inside p lent (Ok n) l e =
    let a = acceptance p lent (sym (ap (λ (x : Answer). x.number) e)) in
    let c : n ≡ length (printed p) = ap (λ (x : Answer). x.count) (e ∙ a) in
    let o : length l ≡ length (printed p ++ drop (length (printed p)) lent) = ap (λ (x : Answer). length x.output) (e ∙ a) in
    omega (arith, length-append (printed p) (drop (length (printed p)) lent))
printed-inside p lent (Err e) l h = omega arith

-- ---------------------------------------------------------------- the answer

-- the plain script of a problem that passes every check, covered, is the hidden one
pub covered-printed : (p : Problem) → Whole p → covered outside (printed p) ≡ hidden_script (query_of p)
unfolding script hidden_script
covered-printed p w = covered-script (reading p) (sound p w)

pub hidden-length : (p : Problem) → Whole p → length (hidden_script (query_of p)) ≡ length (printed p)
hidden-length p w = ap length (sym (covered-printed p w)) ∙ covered-length outside (printed p)

-- so it is refused as the plain one is
pub hidden-refusal : (p : Problem) (room : ℕ) → text_refusal (endless_refusal p) (hidden_script (query_of p)) room ≡ text_refusal (endless_refusal p) (printed p) room
unfolding text_refusal
hidden-refusal p room = by_number (endless_refusal p) refl
  where
    by_number : (n : ℕ) → endless_refusal p ≡ n → (n or_else unless (leb (length (hidden_script (query_of p))) room) 10) ≡ (n or_else unless (leb (length (printed p)) room) 10)
    by_number zero e = rw (hidden-length p ((endless-whole p).0 e)) refl
    by_number (suc n) e = refl

module _ (p : Problem) (lent : List ℕ) where
  -- by the number of the printer's answer
  hidden-by : (n : ℕ) → (echo_ext_answer p lent).number ≡ n → echo_hidden_answer p lent ≡ echo_answer n (hidden_script (query_of p)) lent
  unfolding echo_hidden_answer text_answer echo_ext_answer
  hidden-by n e = ap (λ (k : ℕ). echo_answer k (hidden_script (query_of p)) lent) (hidden-refusal p (length lent) ∙ sym (text-number (endless_refusal p) (printed p) lent) ∙ e)

  -- the printer's answer with its script covered is the answer of the hidden form
  pub hidden-answered : (r : Result ℕ EchoError) {l m : List ℕ} → answered r l ≡ echo_ext_answer p lent → m ≡ covered_by r l → answered r m ≡ echo_hidden_answer p lent
  unfolding covered_by covered_first echo_answer
  hidden-answered (Ok n) {l} {m} e c =
      let z : (echo_ext_answer p lent).number ≡ 0 = sym (ap (λ (x : Answer). x.number) e) in
      let w = (accepted-whole p lent z).0 in
      let a = e ∙ acceptance p lent z in
      let count-is : n ≡ length (printed p) = ap (λ (x : Answer). x.count) a in
      let bytes-are : l ≡ printed p ++ drop (length (printed p)) lent = ap (λ (x : Answer). x.output) a in
      let front : take n l ≡ printed p = rw (count-is, bytes-are) (take-append_seam (printed p) _) in
      let back : drop n l ≡ drop (length (hidden_script (query_of p))) lent =
      rw (count-is, bytes-are, hidden-length p w) (drop-append_seam (printed p) _) in
      let done : m ≡ hidden_script (query_of p) ++ drop (length (hidden_script (query_of p))) lent =
      c ∙ (λ i. covered outside (front i) ++ back i) ∙ ap (λ (t : List ℕ). t ++ drop (length (hidden_script (query_of p))) lent) (covered-printed p w) in
      (λ i. record { number = 0; count = (count-is ∙ sym (hidden-length p w)) i; output = done i }) ∙ sym (hidden-by 0 z)
  hidden-answered (Err f) {l} {m} e c =
      let n : (echo_ext_answer p lent).number ≡ suc (error_number f - 1) = sym (ap (λ (x : Answer). x.number) e) ∙ error-number f in
      ap (answered (Err f)) c ∙ e ∙ refused p lent (error_number f - 1) n ∙ sym (hidden-by (suc (error_number f - 1)) n)
