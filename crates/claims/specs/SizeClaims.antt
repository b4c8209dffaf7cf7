-- Room for a script, known beforehand: what is promised of `echo_size`. Its definitions are those of crate `sizes`.
use Rattle.std.specs.Prelude.{ℕ, suc, ◌-◌, ◌^◌, ◌≤◌, ◌<◌, ◌≡◌, List, [], ◌∷◌, ◌↔◌, T, length, Result, Ok, Err}
use Rattle.std.proofs.Common.{sym, ap, ◌∙◌, arith}
use Rattle.lists.specs.Tests.{among, every}
use Rattle.echo_spec.specs.Input.{Problem, nodes_of, fits64, query_of}
use Rattle.echo_spec.specs.Answers.{Answer, endless_refusal, echo_ext_answer}
use Rattle.refusals.specs.declared.EchoError.{EchoError}
use Rattle.refusals.specs.Numbers.{error_number, error-number}
use Rattle.sizes.specs.Size.{terms_entered, operators_entered, SizeAnswer, echo_size_answer}
use Rattle.sizes.specs.Sums.{sum_over}
use Rattle.sizes.specs.Count.{counts_below}
use Rattle.sizes.proofs.Scripts.{operators-entered, terms-entered, terms-walked, script-length}
use Rattle.echo_size.specs.declared.Size.{Size}
use Rattle.echo_size.specs.Sized as sized
use Rattle.echo_size.proofs.echo_size.Reads as echo-size-code
use Rattle.lent.specs.Lent.{problem_at}
use Rattle.theorems.specs.Answered.{printed, endless-whole}
use Rattle.claims.specs.SizeAnswers.{size_number, size-accepted, size_none, endless-refuses, endless-listed}
use Rattle.claims.specs.Claims.{Accepts, EchoContract, acceptance-prints, accepts-exactly, room-only, printer-prints}

-- ---------------------------------------------------------------- every answer

-- Its number is that of printing with endless room, and never 10.
pub size-listed : (p : Problem) → T (among (0 ∷ 1 ∷ 2 ∷ 3 ∷ 4 ∷ 5 ∷ 6 ∷ 7 ∷ 8 ∷ 9 ∷ 12 ∷ []) (echo_size_answer p).number)
size-listed = endless-listed

-- A refusal has length and count 0.
pub size-refusal-zero : (p : Problem) (n : ℕ) → (echo_size_answer p).number ≡ suc n → echo_size_answer p ≡ record { number = suc n; length = 0; terms = 0 }
size-refusal-zero = size_none

-- An acceptance has the length of the script and the terms of the roots' trees.
pub size-acceptance : (p : Problem) → (echo_size_answer p).number ≡ 0
    → echo_size_answer p ≡ record { number = 0; length = length (printed p); terms = terms_entered (query_of p) }
size-acceptance = size-accepted

-- What is refused here is refused so by the printer, whatever the buffer.
pub refused-whatever : (p : Problem) (lent : List ℕ) (n : ℕ) → (echo_size_answer p).number ≡ suc n → (echo_ext_answer p lent).number ≡ suc n
refused-whatever p lent n e = endless-refuses p lent n (sym (size_number p) ∙ e)

-- ---------------------------------------------------------------- the length

-- The length is the printed one, for every buffer with which the printer accepts.
pub length-printed : (p : Problem) (lent : List ℕ) → Accepts p lent → ((echo_size_answer p).number ≡ 0) × ((echo_size_answer p).length ≡ (echo_ext_answer p lent).count)
length-printed p lent a =
    let n : endless_refusal p ≡ 0 = (endless-whole p).1 ((accepts-exactly p lent).0 a).0 in
    let z : (echo_size_answer p).number ≡ 0 = size_number p ∙ n in
    (z, ap (λ (x : SizeAnswer). x.length) (size-accepted p z) ∙ sym (ap (λ (x : Answer). x.count) (acceptance-prints p lent a)))

-- With a buffer of that length, or a longer one, the printer accepts; with a shorter one it answers 10.
pub length-enough : (p : Problem) (lent : List ℕ) → (echo_size_answer p).number ≡ 0
    → (Accepts p lent ↔ ((echo_size_answer p).length ≤ length lent)) × (((echo_ext_answer p lent).number ≡ 10) ↔ (length lent < (echo_size_answer p).length))
length-enough p lent z =
    let w = (endless-whole p).0 (sym (size_number p) ∙ z) in
    let e = ap (λ (x : SizeAnswer). x.length) (size-accepted p z) in
    rw e ((λ a. ((accepts-exactly p lent).0 a).1, λ l. (accepts-exactly p lent).1 (w, l)), (λ a. ((room-only p lent).0 a).1, λ l. (room-only p lent).1 (w, l)))

-- ---------------------------------------------------------------- the terms

-- The terms of the trees are those that the walk enters: for each root, the node and what is entered below each operand that is walked.
pub terms-by-walk : (p : Problem) → (echo_size_answer p).number ≡ 0
    → terms_entered (query_of p) ≡ sum_over (counts_below p.side (nodes_of p.nodes) (length (nodes_of p.nodes))) p.roots
terms-by-walk p z = terms-walked p (sym (size_number p) ∙ z)

-- Terms other than variables and constants are entered no more often than there are nodes.
pub operators-few : (p : Problem) → (echo_size_answer p).number ≡ 0 → operators_entered (query_of p) ≤ length (nodes_of p.nodes)
operators-few p z = operators-entered p (sym (size_number p) ∙ z)

-- Length and count are exact in 64 bits: no problem comes near the largest number. Its declared widths have 64 bits, as they have in
-- whatever is lent.
pub exact-in-64 : (p : Problem) → T (every fits64 p.var_width) → T (every fits64 p.func_width) → (echo_size_answer p).number ≡ 0
    → ((echo_size_answer p).length < 2 ^ 42) × ((echo_size_answer p).terms < 2 ^ 25)
exact-in-64 p v f z =
    let n = sym (size_number p) ∙ z in
    let e = size-accepted p z in
    let l = script-length p n v f in
    let t = terms-entered p n in
    (omega (arith, ap (λ (x : SizeAnswer). x.length) e), omega (arith, ap (λ (x : SizeAnswer). x.terms) e))

-- ---------------------------------------------------------------- the code

-- The contract of `echo_size`: its answer by the problem that was lent. It asks nothing of the caller.
abbrev pub SizeContract : Result Size EchoError → Problem → Type 0
SizeContract r p = sized.answered r ≡ echo_size_answer p

-- It is what the function is proved to ensure: x are its arguments as they are passed, y as they are when it returns.
pub size-contract : (κs : _) (x : _) (r : _) (y : _) → echo-size-code.Post κs x r y
    → SizeContract r (problem_at x.0.now)
size-contract κs x r y h = h

-- What it tells is the length of the script and the terms of the roots' trees.
pub size-told : (p : Problem) (s : Size) → SizeContract (Ok s) p → (s.length ≡ length (printed p)) × (s.terms ≡ terms_entered (query_of p))
size-told p s c =
    let e = c ∙ size-acceptance p (sym (ap (λ (x : SizeAnswer). x.number) c)) in
    (ap (λ (x : SizeAnswer). x.length) e, ap (λ (x : SizeAnswer). x.terms) e)

-- A call of the printer that prints has printed as many bytes.
pub size-printed : (p : Problem) (lent out : List ℕ) (n : ℕ) (s : Size) → EchoContract (Ok n) p lent out → SizeContract (Ok s) p → n ≡ s.length
size-printed p lent out n s c d = (printer-prints p lent out n c).1 ∙ sym (size-told p s d).0

-- As many bytes suffice for a call of the printer, and with fewer it answers 10.
pub size-suffices : (p : Problem) (lent : List ℕ) (s : Size) → SizeContract (Ok s) p
    → (Accepts p lent ↔ (s.length ≤ length lent)) × (((echo_ext_answer p lent).number ≡ 10) ↔ (length lent < s.length))
size-suffices p lent s c = rw (ap (λ (x : SizeAnswer). x.length) c) (length-enough p lent (sym (ap (λ (x : SizeAnswer). x.number) c)))

-- What it refuses the printer refuses with the same number, whatever the buffer.
pub size-refuses : (p : Problem) (lent : List ℕ) (e : EchoError) → SizeContract (Err e) p → (echo_ext_answer p lent).number ≡ error_number e
size-refuses p lent e c = refused-whatever p lent (error_number e - 1) (sym (ap (λ (x : SizeAnswer). x.number) c) ∙ error-number e) ∙ sym (error-number e)
