-- What is said, from what was read and what the printer answered. Assumes nothing.
use Prim.Native.Nat.{ℕ, zero, suc, ◌-◌, ◌≤◌}
use mathlib.Core.Path.{◌≡◌, refl, ap, sym, subst, ◌∙◌}
use mathlib.Core.List.{List, ◌++◌}
use native.Mathlib.Omega.{arith}
use lib.ListN.{length, drop, length-append}
use Rattle.echo_spec.specs.Input.{Problem, query_of}
use Rattle.echo_spec.specs.Answers.{Answer, endless_refusal, text_refusal, echo_answer, text_answer, echo_ext_answer, script}
use Rattle.refusals.specs.declared.EchoError.{EchoError}
use Rattle.refusals.specs.Numbers.{error_number, error_of, error-number, error-at}
use Rattle.echo_kernel.specs.Answered.{answered}
use Rattle.std.specs.Prelude.{Result, Ok, Err, IsErrAnd}
use Rattle.input_parts.specs.declared.Parts.{Parts}
use Rattle.layout_shape.specs.declared.ShapeFault.{ShapeFault}
use Rattle.layout_shape.specs.declared.ShapeFault.TheVariants as fault
use Rattle.problem_layout.specs.declared.Told.{Told}
use Rattle.problem_layout.specs.declared.Unprinted.{Unprinted}
use Rattle.problem_layout.specs.declared.Unprinted.TheVariants.{Refused, Input}
use Rattle.layout_shape.specs.Layout.{Layout, problem_in, layout}
use Rattle.layout_shape.specs.Reading.{Read, Shaped}
use Rattle.input_parts.specs.Parts.{problem_from}
use Rattle.layout_shape.proofs.Steps.{problem-read}
use Rattle.problem_layout.specs.Telling.{said_by, said_of, printed_to, shown, line_of, InInput, Tells, Known, Answers, Shown}

-- ---------------------------------------------------------------- the printer's answers

-- a script lies within the buffer, which is as long as it was
fits : {n : ℕ} {out : List ℕ} (lent : List ℕ) (k : ℕ) (text : List ℕ) → answered (Ok n) out ≡ echo_answer k text lent → length out ≡ length lent → n ≤ length out
unfolding echo_answer
fits {n} {out} lent zero text b l =
    let c : n ≡ length text = ap (λ (x : Answer). x.count) b in
    let d : length out ≡ length (text ++ drop (length text) lent) = ap (λ (x : Answer). length x.output) b in
    omega (arith, length-append text (drop (length text) lent))
fits lent (suc k) text b l = absurd (let z : 0 ≡ suc k = ap (λ (x : Answer). x.number) b in omega arith)

script-inside : {n : ℕ} {out : List ℕ} (lent : List ℕ) (p : Problem) → answered (Ok n) out ≡ echo_ext_answer p lent → length out ≡ length lent → n ≤ length out
unfolding echo_ext_answer text_answer
script-inside lent p b l = fits lent (text_refusal (endless_refusal p) (script (query_of p)) (length lent)) (script (query_of p)) b l

-- each refusal has its number
by_number : (e : EchoError) → Err (Refused e) ≡ said_by (error_number e) 0
by_number e =
    let n : error_number e ≡ suc (error_number e - 1) = error-number e in
    sym (ap (λ (m : ℕ). said_by m 0) n ∙ ap (λ (m : ℕ). Err (Refused (error_of m))) (sym n) ∙ ap (λ (x : EchoError). Err (Refused x)) (error-at e))

-- ---------------------------------------------------------------- bytes that are no problem

-- what is said of a layout is said of the bytes that have it
answers_by : {s : List ℕ} (lent : List ℕ) {r : Result ℕ Unprinted} {out : List ℕ} {L : Layout} → layout s ≡ L → r ≡ said_of L lent → out ≡ printed_to L lent → Known InInput r (length out)
    → Answers s lent r out
answers_by lent e a b k =
    record {
      said = a ∙ ap (λ (L : Layout). said_of L lent) (sym e);
      output = b ∙ ap (λ (L : Layout). printed_to L lent) (sym e);
      known = k;
    }

-- in the arm of one shape
shaped-as : {s : List ℕ} {r v : Result Parts ShapeFault} → Shaped s r → r ≡ v → Shaped s v
shaped-as {s} h e = subst (λ (x : Result Parts ShapeFault). Shaped s x) e h

module _ (lent : List ℕ) {s : List ℕ} {r : Result Parts ShapeFault} (h : Shaped s r) where
  pub says-fault : (f : ShapeFault) → r ≡ Err f → Answers s lent (Err (Input f)) lent
  says-fault (fault.Early k) e = let g : Shaped s (Err (fault.Early k)) = shaped-as h e in answers_by lent g.same refl refl g.read
  says-fault (fault.TooLarge k) e = let g : Shaped s (Err (fault.TooLarge k)) = shaped-as h e in answers_by lent g.same refl refl g.read
  says-fault fault.LeftOver e = let g : Shaped s (Err fault.LeftOver) = shaped-as h e in answers_by lent g.same refl refl tt

  -- ---------------------------------------------------------------- what the printer answered

  module _ {p : Parts} (w : r ≡ Ok p) {o : Result ℕ EchoError} {out : List ℕ} (a : answered o out ≡ echo_ext_answer (problem_from p.bytes.now p.at) lent) where
    as_read : {v : Result ℕ EchoError} → o ≡ v → answered v out ≡ echo_ext_answer (problem_in s) lent
    as_read e =
        let g : (p.bytes.now ≡ s) × Read s p.at 18 = (shaped-as h w).read in
        sym (ap (λ (x : Result ℕ EchoError). answered x out) e) ∙ a ∙ (λ i. echo_ext_answer ((ap (λ (b : List ℕ). problem_from b p.at) g.0 ∙ problem-read g.1) i) lent)

    pub says-script : {n : ℕ} → o ≡ Ok n → length out ≡ length lent → Answers s lent (Ok n) out
    says-script {n} e l =
        let b : answered (Ok n) out ≡ echo_ext_answer (problem_in s) lent = as_read e in
        answers_by lent (shaped-as h w).same
        (ap (λ (x : Answer). said_by x.number x.count) b)
        (ap (λ (x : Answer). x.output) b)
        (script-inside lent (problem_in s) b l)

    pub says-refused : {e : EchoError} → o ≡ Err e → Answers s lent (Err (Refused e)) out
    says-refused {e} f =
        let b : answered (Err e) out ≡ echo_ext_answer (problem_in s) lent = as_read f in
        answers_by lent (shaped-as h w).same
        (by_number e ∙ ap (λ (x : Answer). said_by x.number x.count) b)
        (ap (λ (x : Answer). x.output) b)
        tt

-- a fault that `?` hands on
pub handed-on : {r : Result ℕ Unprinted} {u : Unprinted} → IsErrAnd r (λ x. x ≡ u) → r ≡ Err u
handed-on {r = Ok n} h = absurd h
handed-on {r = Err x} h = ap (λ (z : Unprinted). Err z) h

-- ---------------------------------------------------------------- the line, and both

-- in the arm of one answer
pub shown-as : {E : Type 0} {text : E → List ℕ} {said v : Result ℕ E} {out : List ℕ} {n : ℕ} (lent : List ℕ) → said ≡ v → record { count = n; bytes = out } ≡ shown text v lent → n ≤ length out
    → Shown text said lent n out
shown-as {E} {text} lent e f g = record { front = f ∙ ap (λ (x : Result ℕ E). shown text x lent) (sym e); inside = g }

pub tells : {s lent out end : List ℕ} {said : Result ℕ Unprinted} {r : Told Unprinted} → Answers s lent said out → r.said ≡ said → Shown line_of said out r.length end
    → Tells s lent r end
tells a e b =
    record {
      said = e ∙ a.said;
      front = b.front ∙ (λ i. shown line_of (a.said i) (a.output i));
      inside = b.inside;
    }
