-- Scripts with addresses hidden: what is promised of `echo_hidden`. Its definitions are those of crate `hidden`.
--
-- Nothing is promised about equal problems: two problems with the same hidden script may differ in the value of any constant. A hidden
-- script still shows names, widths, the amounts of rotations and the shape of every term.
use Rattle.std.specs.Prelude.{ℕ, suc, ◌-◌, ◌≡◌, List, [], ◌∷◌, ◌++◌, ◌↔◌, T, length, take, drop, replicate, Result, Ok, Err}
use Rattle.std.proofs.Common.{sym, ap, ◌∙◌}
use Rattle.std.proofs.Math.Seq.{take-append_seam}
use Rattle.lists.specs.Tests.{among}
use Rattle.reading.specs.Trees.{Reading}
use Rattle.smtlib.specs.Lexicon.{Lex}
use Rattle.smtlib.specs.Grammar.{Script, script_tokens}
use Rattle.smtlib.specs.Readings.{Reads}
use Rattle.smtlib.specs.Sorts.{WellSorted}
use Rattle.echo_spec.specs.Input.{Problem, query_of}
use Rattle.echo_spec.specs.Answers.{Answer, endless_refusal, echo_ext_answer}
use Rattle.hidden.specs.Hidden.{hidden_script, echo_hidden_answer}
use Rattle.hidden.specs.Alike.{with_bits, Alike}
use Rattle.hidden.proofs.Alike.{same_answer, same-in-both}
use Rattle.refusals.specs.declared.EchoError.{EchoError}
use Rattle.refusals.specs.Numbers.{error_number, error-number}
use Rattle.echo_kernel.specs.Answered.{answered}
use Rattle.echo_hidden.specs.Answering.{hidden-length, hidden-refusal}
use Rattle.echo_hidden.proofs.echo_hidden.Reads as echo-hidden-code
use Rattle.lent.specs.Lent.{problem_at}
use Rattle.theorems.specs.Scripts.{script_of}
use Rattle.theorems.specs.Answered.{printed, text-number, text-acceptance, text-refused, accepted-whole}
use Rattle.claims.specs.Claims.{Accepts, listed-number}
use Rattle.claims.specs.HiddenAnswers.{reading_hidden, hidden-lexed, hidden-sorted, hidden-only, hidden-reads, hidden-reads-only}

-- the problem's hidden script
abbrev pub hidden_printed : Problem → List ℕ
hidden_printed p = hidden_script (query_of p)

-- ---------------------------------------------------------------- every answer

-- Its number is the printer's for the same problem and buffer: every refusal, the one for room too.
pub same-refusals : (p : Problem) (lent : List ℕ) → (echo_hidden_answer p lent).number ≡ (echo_ext_answer p lent).number
unfolding echo_hidden_answer echo_ext_answer
same-refusals p lent = text-number (endless_refusal p) (hidden_printed p) lent ∙ hidden-refusal p (length lent) ∙ sym (text-number (endless_refusal p) (printed p) lent)

pub hidden-listed : (p : Problem) (lent : List ℕ) → T (among (0 ∷ 1 ∷ 2 ∷ 3 ∷ 4 ∷ 5 ∷ 6 ∷ 7 ∷ 8 ∷ 9 ∷ 10 ∷ 12 ∷ []) (echo_hidden_answer p lent).number)
hidden-listed p lent = rw (same-refusals p lent) (listed-number p lent)

-- A refusal has length 0 and a zeroed output.
pub hidden-refusal-zeroes : (p : Problem) (lent : List ℕ) (n : ℕ) → (echo_hidden_answer p lent).number ≡ suc n
    → echo_hidden_answer p lent ≡ record { number = suc n; count = 0; output = replicate (length lent) 0 }
unfolding echo_hidden_answer
hidden-refusal-zeroes p lent n e = text-refused (endless_refusal p) (hidden_printed p) lent n e

-- An acceptance has the hidden script at the front of the output, its length beside it, and the rest of the output as it was.
pub hidden-acceptance : (p : Problem) (lent : List ℕ) → Accepts p lent
    → echo_hidden_answer p lent ≡ record { number = 0; count = length (hidden_printed p); output = hidden_printed p ++ drop (length (hidden_printed p)) lent }
unfolding echo_hidden_answer
hidden-acceptance p lent a = text-acceptance (endless_refusal p) (hidden_printed p) lent (same-refusals p lent ∙ a)

-- The hidden script is as long as the plain one.
pub as_long : (p : Problem) (lent : List ℕ) → Accepts p lent → length (hidden_printed p) ≡ length (printed p)
as_long p lent a = hidden-length p (accepted-whole p lent a).0

-- ---------------------------------------------------------------- well sorted, with one reading

-- It holds the tokens of a script, of one alone, that is well sorted by the standard and declares its symbols first.
pub hidden-well-sorted : (p : Problem) (lent : List ℕ) → Accepts p lent
    → (s : Script) × Lex (hidden_printed p) (script_tokens s) × WellSorted s × ((s' : Script) → Lex (hidden_printed p) (script_tokens s') → s' ≡ s)
hidden-well-sorted p lent a =
    let w = (accepted-whole p lent a).0 in
    (script_of (reading_hidden p), hidden-lexed p w, hidden-sorted p w, hidden-only p w)

-- Its one reading is the problem's with zeros for the bits of each constant.
pub hidden-one-reading : (p : Problem) (lent : List ℕ) → Accepts p lent → (r : Reading) → Reads (hidden_printed p) r ↔ (r ≡ reading_hidden p)
hidden-one-reading p lent a r =
    let w = (accepted-whole p lent a).0 in
    (hidden-reads-only p w r, λ e. rw e (hidden-reads p w))

-- ---------------------------------------------------------------- what is hidden

-- Two problems alike in all but bits: as many bits, each 0 or 1 in both, and the same where the constant of some rotation's amount has them.
-- Whatever else differs in the bits, the answers are the same: number, length and, where the buffers held the same before, the whole output.
pub hidden-alike : (p : Problem) (bits : List ℕ) → Alike p bits → (lent : List ℕ) → echo_hidden_answer (with_bits p bits) lent ≡ echo_hidden_answer p lent
hidden-alike p bits h lent = same_answer p bits h lent

-- In two buffers of one length, whatever they held: number, length and script agree.
pub hidden-alike-buffers : (p : Problem) (bits : List ℕ) → Alike p bits → (lent lent' : List ℕ) → length lent ≡ length lent'
    → let a : Answer = echo_hidden_answer (with_bits p bits) lent in
    let b : Answer = echo_hidden_answer p lent' in
    (a.number ≡ b.number) × (a.count ≡ b.count) × (take a.count a.output ≡ take b.count b.output)
unfolding echo_hidden_answer
hidden-alike-buffers p bits h lent lent' e =
    rw (same_answer p bits h lent) (same-in-both (endless_refusal p) (hidden_printed p) lent lent' e)

-- ---------------------------------------------------------------- the code

-- The contract of `echo_hidden`: its answer and the buffer afterwards, by the problem and the buffer that were lent. It asks nothing of
-- the caller.
abbrev pub HiddenContract : Result ℕ EchoError → Problem → List ℕ → List ℕ → Type 0
HiddenContract r p lent out = answered r out ≡ echo_hidden_answer p lent

-- It is what the function is proved to ensure: x are its arguments as they are passed, y as they are when it returns.
pub hidden-contract : (κs : _) (x : _) (r : _) (y : _) → echo-hidden-code.Post κs x r y
    → HiddenContract r (problem_at x.0.now) x.1.0.now y.1.0.now
hidden-contract κs x r y h = h

-- What it answers by `Ok` is the hidden script of a problem that the printer accepts with this buffer.
pub hidden-prints : (p : Problem) (lent out : List ℕ) (n : ℕ) → HiddenContract (Ok n) p lent out
    → Accepts p lent × (n ≡ length (hidden_printed p)) × (out ≡ hidden_printed p ++ drop (length (hidden_printed p)) lent)
hidden-prints p lent out n c =
    let a : Accepts p lent = sym (same-refusals p lent) ∙ sym (ap (λ (x : Answer). x.number) c) in
    let e = c ∙ hidden-acceptance p lent a in
    (a, ap (λ (x : Answer). x.count) e, ap (λ (x : Answer). x.output) e)

-- What it refuses the printer refuses with the same number, and the buffer is zeroed.
pub hidden-refuses : (p : Problem) (lent out : List ℕ) (e : EchoError) → HiddenContract (Err e) p lent out
    → ((echo_ext_answer p lent).number ≡ error_number e) × (out ≡ replicate (length lent) 0)
hidden-refuses p lent out e c =
    let n : (echo_hidden_answer p lent).number ≡ error_number e = sym (ap (λ (x : Answer). x.number) c) in
    (sym (same-refusals p lent) ∙ n, ap (λ (x : Answer). x.output) (c ∙ hidden-refusal-zeroes p lent (error_number e - 1) (n ∙ error-number e)))

-- The bytes that it wrote have one reading: the problem's with zeros.
pub hidden-bytes-read : (p : Problem) (lent out : List ℕ) (n : ℕ) → HiddenContract (Ok n) p lent out → (r : Reading) → Reads (take n out) r ↔ (r ≡ reading_hidden p)
hidden-bytes-read p lent out n c r =
    let h = hidden-prints p lent out n c in
    let e : take n out ≡ hidden_printed p = rw (h.1, h.2) (take-append_seam (hidden_printed p) (drop (length (hidden_printed p)) lent)) in
    rw e (hidden-one-reading p lent h.0 r)

-- Two calls on problems alike in all but bits answer the same, and leave the same bytes where the buffers held the same before.
pub hidden-calls-agree : (p : Problem) (bits : List ℕ) → Alike p bits → (lent out out' : List ℕ) (r r' : Result ℕ EchoError)
    → HiddenContract r (with_bits p bits) lent out → HiddenContract r' p lent out' → answered r out ≡ answered r' out'
hidden-calls-agree p bits h lent out out' r r' c c' = c ∙ hidden-alike p bits h lent ∙ sym c'
