-- Shared terms printed with `let`: what is promised of `echo_let`. Its definitions are in `Lets` of `lets`.
use Rattle.std.specs.Prelude.{ℕ, suc, ◌-◌, ◌≤◌, ◌<◌, ◌≡◌, List, [], ◌∷◌, ◌++◌, not, ◌↔◌, T, length, take, drop, replicate, Result, Ok, Err}
use Rattle.std.proofs.Common.{sym, ap, ◌∙◌}
use Rattle.std.proofs.Math.Seq.{take-append_seam}
use Rattle.lists.specs.Tests.{among, in_list}
use Rattle.reading.specs.Trees.{Reading}
use Rattle.smtlib.specs.Lexicon.{Lex}
use Rattle.smtlib.specs.Grammar.{Script, script_tokens}
use Rattle.smtlib.specs.Readings.{Reads}
use Rattle.smtlib.specs.Sorts.{WellSorted}
use Rattle.echo_spec.specs.Input.{Problem, Dag, dag_of, query_of, within_limits, encoded}
use Rattle.echo_spec.specs.Widths.{widths_of}
use Rattle.echo_spec.specs.Sharing.{unshared}
use Rattle.echo_spec.specs.NameLaws.{all_names}
use Rattle.echo_spec.specs.Answers.{Answer, reading, echo_ext_answer}
use Rattle.lets.specs.Lets.{uses_in, shared, let_name, names_clear, echo_let_answer}
use Rattle.refusals.specs.declared.EchoError.{EchoError}
use Rattle.refusals.specs.Numbers.{error_number, error-number}
use Rattle.lent.specs.Lent.{problem_at}
use Rattle.echo_kernel.specs.Answered.{answered}
use Rattle.echo_let.proofs.echo_let.Reads as echo-let-code
use Rattle.theorems.specs.Answered.{printed, accepted-whole}
use Rattle.theorems.specs.LetNames.{clash-is}
use Rattle.theorems.specs.LetPrinted.{LetWhole, let_printed, let_script_of, let-lexed, let-only, let-sorted, let-reads, let-reads-only, let-scripts-equal, let-plain-equal}
use Rattle.theorems.specs.LetAnswered.{let-acceptance, let-refused, let-accepted-exactly, let-number, let-room, Before, clash-query, clash-only, plain-answer}

abbrev pub LetAccepts : Problem → List ℕ → Type 0
LetAccepts p lent = (echo_let_answer p lent).number ≡ 0

-- ---------------------------------------------------------------- every answer

-- 6 does not occur.
pub let-listed : (p : Problem) (lent : List ℕ) → T (among (0 ∷ 1 ∷ 2 ∷ 3 ∷ 4 ∷ 5 ∷ 7 ∷ 8 ∷ 9 ∷ 10 ∷ 11 ∷ 12 ∷ []) (echo_let_answer p lent).number)
let-listed = let-number

-- A refusal has length 0 and a zeroed output.
pub let-refusal-zeroes : (p : Problem) (lent : List ℕ) (n : ℕ) → (echo_let_answer p lent).number ≡ suc n
    → echo_let_answer p lent ≡ record { number = suc n; count = 0; output = replicate (length lent) 0 }
let-refusal-zeroes = let-refused

-- An acceptance has the script at the front of the output, its length beside it, and the rest of the output as it was.
pub let-acceptance-prints : (p : Problem) (lent : List ℕ) → LetAccepts p lent
    → echo_let_answer p lent ≡ record { number = 0; count = length (let_printed p); output = let_printed p ++ drop (length (let_printed p)) lent }
let-acceptance-prints = let-acceptance

-- A problem is accepted exactly where every check passes and the script fits; 10 is told exactly where it does not fit.
pub let-accepts-exactly : (p : Problem) (lent : List ℕ) → LetAccepts p lent ↔ (LetWhole p × (length (let_printed p) ≤ length lent))
let-accepts-exactly = let-accepted-exactly

pub let-room-only : (p : Problem) (lent : List ℕ) → ((echo_let_answer p lent).number ≡ 10) ↔ (LetWhole p × (length lent < length (let_printed p)))
let-room-only = let-room

-- 11 is told exactly where every check before that of sharing passes, and a declared name is `d` and the number of an operator with two
-- uses or more, reached or not.
pub clash-told : (p : Problem) (lent : List ℕ) → ((echo_let_answer p lent).number ≡ 11)
    ↔ (T (within_limits p) × T (encoded p.nodes p.bits) × Before (dag_of p) (widths_of (query_of p)) × T (not (names_clear (dag_of p) (uses_in (dag_of p) p.roots))))
clash-told p lent =
    let q = clash-query (dag_of p) (widths_of (query_of p)) p.roots in
    let c = clash-only p lent in
    (λ e. let (l, b, r) = c.0 e in let (f, k) = q.0 r in (l, b, f, k), λ h. c.1 (h.0, h.1, q.1 (h.2, h.3)))

pub clash-name : (d : Dag) (us : List ℕ) → T (not (names_clear d us)) ↔ ((i : ℕ) × T (shared d us i) × T (in_list (let_name i) (all_names d)))
clash-name = clash-is

-- A problem without shared operators is answered as by the plain printer: number, length and every byte.
pub prints-as-before : (p : Problem) → T (unshared (dag_of p).nodes (dag_of p).side p.roots) → (lent : List ℕ) → echo_let_answer p lent ≡ echo_ext_answer p lent
prints-as-before = plain-answer

-- ---------------------------------------------------------------- the script

-- Each script holds the tokens of one script alone, which is well sorted.
pub let-well-sorted : (p : Problem) (lent : List ℕ) → LetAccepts p lent
    → (s : Script) × Lex (let_printed p) (script_tokens s) × WellSorted s × ((s' : Script) → Lex (let_printed p) (script_tokens s') → s' ≡ s)
let-well-sorted p lent a = let w = ((let-accepts-exactly p lent).0 a).0 in (let_script_of p, let-lexed p w, let-sorted p w, let-only p w)

-- With the lets unfolded the trees are the problem's: the script has one reading, the problem's.
pub let-one-reading : (p : Problem) (lent : List ℕ) → LetAccepts p lent → (r : Reading) → Reads (let_printed p) r ↔ (r ≡ reading p)
let-one-reading p lent a r = let w = ((let-accepts-exactly p lent).0 a).0 in (let-reads-only p w r, λ e. rw e (let-reads p w))

-- Equal bytes mean equal declarations and trees, whichever way each of the two was printed.
pub let-equal-bytes : (p p' : Problem) (lent lent' : List ℕ) → LetAccepts p lent → LetAccepts p' lent' → let_printed p ≡ let_printed p'
    → ((reading p).declarations ≡ (reading p').declarations) × ((reading p).assertions ≡ (reading p').assertions)
let-equal-bytes p p' lent lent' a a' e =
    let r = let-scripts-equal p p' ((let-accepts-exactly p lent).0 a).0 ((let-accepts-exactly p' lent').0 a').0 e in
    (ap (λ (r : Reading). r.declarations) r, ap (λ (r : Reading). r.assertions) r)

pub equal-across : (p p' : Problem) (lent lent' : List ℕ) → LetAccepts p lent → (echo_ext_answer p' lent').number ≡ 0 → let_printed p ≡ printed p' → reading p ≡ reading p'
equal-across p p' lent lent' a a' e = let-plain-equal p p' ((let-accepts-exactly p lent).0 a).0 (accepted-whole p' lent' a').0 e

-- ---------------------------------------------------------------- the code

-- The contract of `echo_let`: its answer and the whole output by the problem that was lent. It asks nothing of the caller.
abbrev pub LetContract : Result ℕ EchoError → Problem → List ℕ → List ℕ → Type 0
LetContract r p lent out = answered r out ≡ echo_let_answer p lent

-- It is what the function is proved to ensure: x are its arguments as they are passed, y as they are when it returns.
pub let-contract : (κs : _) (x : _) (r : _) (y : _) → echo-let-code.Post κs x r y
    → LetContract r (problem_at x.0.now) x.1.0.now y.1.0.now
let-contract κs x r y h = h

-- What it prints is the script, and the bytes of a call that prints read as the problem.
pub let-prints : (p : Problem) (lent out : List ℕ) (n : ℕ) → LetContract (Ok n) p lent out → LetAccepts p lent × (take n out ≡ let_printed p)
let-prints p lent out n c =
    let a : LetAccepts p lent = sym (ap (λ (x : Answer). x.number) c) in
    let e = c ∙ let-acceptance-prints p lent a in
    (a, rw (ap (λ (x : Answer). x.count) e, ap (λ (x : Answer). x.output) e) (take-append_seam (let_printed p) (drop (length (let_printed p)) lent)))

pub let-bytes-read : (p : Problem) (lent out : List ℕ) (n : ℕ) → LetContract (Ok n) p lent out → (r : Reading) → Reads (take n out) r ↔ (r ≡ reading p)
let-bytes-read p lent out n c r = let h = let-prints p lent out n c in rw h.1 (let-one-reading p lent h.0 r)

pub let-refuses : (p : Problem) (lent out : List ℕ) (e : EchoError) → LetContract (Err e) p lent out
    → ((echo_let_answer p lent).number ≡ error_number e) × (out ≡ replicate (length lent) 0)
let-refuses p lent out e c =
    let n : (echo_let_answer p lent).number ≡ error_number e = sym (ap (λ (x : Answer). x.number) c) in
    (n, ap (λ (x : Answer). x.output) (c ∙ let-refusal-zeroes p lent (error_number e - 1) (n ∙ error-number e)))
