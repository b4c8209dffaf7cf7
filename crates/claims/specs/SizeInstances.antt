-- The claims on `echo_size` at problems: each speaks of something. The problem has a store, a call of a function without arguments, a
-- rotation, and a variable that stands three times.
use Rattle.std.specs.Prelude.{ℕ, ◌^◌, ◌≤◌, ◌<◌, ◌≡◌, refl, List, [], ◌∷◌, length, Ok, Err}
use Rattle.std.proofs.Common.{arith}
use Rattle.std.proofs.lemmas.List.{length-replicate}
use Rattle.lists.specs.Bytes.{bytes}
use Rattle.reading.specs.Kinds.{Var, Const, Eq, Rotl, Select, Call, ZeroExt}
use Rattle.echo_spec.specs.Input.{Problem, nodes_of, query_of}
use Rattle.echo_spec.specs.Answers.{echo_ext_answer}
use Rattle.echo_spec.specs.Examples.{node, problem, var, fun, lent, eleven, all_meet}
use Rattle.sizes.specs.Sums.{sum_over}
use Rattle.sizes.specs.Count.{counts_below}
use Rattle.sizes.specs.Size.{weigh, weigh_all, weigh_stores, terms_entered, operators_entered, size_with, echo_size_answer}
use Rattle.refusals.specs.declared.EchoError.TheVariants.{Shared}
use Rattle.echo_size.specs.declared.Size.{Size}
use Rattle.theorems.specs.Answered.{printed}
use Rattle.claims.specs.Claims.{Accepts, EchoContract}
use Rattle.claims.specs.SizeClaims.{
  SizeContract,
  size-refusal-zero,
  size-acceptance,
  refused-whatever,
  length-printed,
  length-enough,
  terms-by-walk,
  operators-few,
  exact-in-64,
  size-told,
  size-printed,
  size-suffices,
  size-refuses,
}

-- m[store x extended at x extended: g][x extended] = x rotated; the root once, or twice
example : List ℕ → Problem
example roots =
    problem
    (node Var 8 0 0 0 ∷ node Const 0 8 0 0 ∷ node Rotl 0 1 0 0 ∷ node ZeroExt 0 24 0 0 ∷ node ZeroExt 0 24 0 0 ∷ node Call 0 8 0 0 ∷ node Select 0 3 0 1
    ∷ node Eq 6 2 0 0 ∷ [])
    eleven (4 ∷ 5 ∷ []) roots (var "x" 0 8 ∷ []) ("m" ∷ []) (fun "g" 8 ∷ [])

its-script : printed (example (7 ∷ []))
    ≡ bytes
    "(set-logic QF_AUFBV)\n(declare-const |x| (_ BitVec 8))\n(declare-const |m| (Array (_ BitVec 32) (_ BitVec 8)))\n(declare-fun |g| () (_ BitVec 8))\n(assert (= (select (store |m| ((_ zero_extend 24) |x|) |g|) ((_ zero_extend 24) |x|)) ((_ rotate_left 3) |x|)))\n(check-sat)\n"
unfolding all_meet example
its-script = refl

-- the terms are =, select, zero_extend, x, g, zero_extend, x, rotate_left, x
abbrev size : Size
size = record { length = 267; terms = 9 }

called : SizeContract (Ok size) (example (7 ∷ []))
unfolding all_meet example weigh weigh_all weigh_stores terms_entered size_with echo_size_answer
called = refl

-- the root twice is 6
refused-call : SizeContract (Err Shared) (example (7 ∷ 7 ∷ []))
unfolding all_meet example weigh weigh_all weigh_stores terms_entered size_with echo_size_answer
refused-call = refl

-- ---------------------------------------------------------------- answers

accepted : (echo_size_answer (example (7 ∷ []))).number ≡ 0
unfolding all_meet example weigh weigh_all weigh_stores terms_entered size_with echo_size_answer
accepted = refl

shared : (echo_size_answer (example (7 ∷ 7 ∷ []))).number ≡ 6
unfolding all_meet example weigh weigh_all weigh_stores terms_entered size_with echo_size_answer
shared = refl

nothing_left : echo_size_answer (example (7 ∷ 7 ∷ [])) ≡ record { number = 6; length = 0; terms = 0 }
nothing_left = size-refusal-zero (example (7 ∷ 7 ∷ [])) 5 shared

all_told : echo_size_answer (example (7 ∷ [])) ≡ record { number = 0; length = length (printed (example (7 ∷ []))); terms = terms_entered (query_of (example (7 ∷ []))) }
all_told = size-acceptance (example (7 ∷ [])) accepted

without-room : (echo_ext_answer (example (7 ∷ 7 ∷ [])) []).number ≡ 6
without-room = refused-whatever (example (7 ∷ 7 ∷ [])) [] 5 shared

-- ---------------------------------------------------------------- the length

fits : Accepts (example (7 ∷ [])) (lent 267)
unfolding all_meet example
fits = refl

as-printed : (echo_size_answer (example (7 ∷ []))).length ≡ (echo_ext_answer (example (7 ∷ [])) (lent 267)).count
as-printed = (length-printed (example (7 ∷ [])) (lent 267) fits).1

no_less : (echo_size_answer (example (7 ∷ []))).length ≤ length (lent 267)
no_less = (length-enough (example (7 ∷ [])) (lent 267) accepted).0.0 fits

-- ---------------------------------------------------------------- the terms

walked : terms_entered (query_of (example (7 ∷ [])))
    ≡ sum_over (counts_below (example (7 ∷ [])).side (nodes_of (example (7 ∷ [])).nodes) (length (nodes_of (example (7 ∷ [])).nodes))) (example (7 ∷ [])).roots
walked = terms-by-walk (example (7 ∷ [])) accepted

-- of the nine, six are operators, and there are eight nodes
operators : operators_entered (query_of (example (7 ∷ []))) ≡ 6
unfolding all_meet example weigh weigh_all weigh_stores operators_entered
operators = refl

within-nodes : operators_entered (query_of (example (7 ∷ []))) ≤ length (nodes_of (example (7 ∷ [])).nodes)
within-nodes = operators-few (example (7 ∷ [])) accepted

in-range : (echo_size_answer (example (7 ∷ []))).length < 2 ^ 42
unfolding example
in-range = (exact-in-64 (example (7 ∷ [])) tt tt accepted).0

-- ---------------------------------------------------------------- calls

its-length : 267 ≡ length (printed (example (7 ∷ [])))
its-length = (size-told (example (7 ∷ [])) size called).0

its-terms : 9 ≡ terms_entered (query_of (example (7 ∷ [])))
its-terms = (size-told (example (7 ∷ [])) size called).1

-- what a call of the printer leaves in the buffer
after : ℕ → List ℕ
after room = (echo_ext_answer (example (7 ∷ [])) (lent room)).output

printed-call : EchoContract (Ok 267) (example (7 ∷ [])) (lent 270) (after 270)
unfolding all_meet example after
printed-call = refl

as_many : ◌≡◌ {A = ℕ} 267 267
as_many = size-printed (example (7 ∷ [])) (lent 270) (after 270) 267 size printed-call called

enough : Accepts (example (7 ∷ [])) (lent 267)
enough = (size-suffices (example (7 ∷ [])) (lent 267) size called).0.1 (omega (arith, length-replicate {A = ℕ} 267 170))

one_less : (echo_ext_answer (example (7 ∷ [])) (lent 266)).number ≡ 10
one_less = (size-suffices (example (7 ∷ [])) (lent 266) size called).1.1 (omega (arith, length-replicate {A = ℕ} 266 170))

whatever-buffer : (echo_ext_answer (example (7 ∷ 7 ∷ [])) (lent 3)).number ≡ 6
whatever-buffer = size-refuses (example (7 ∷ 7 ∷ [])) (lent 3) Shared refused-call
