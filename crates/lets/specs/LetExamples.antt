-- Computed examples of the printer with `let`.
use Rattle.std.specs.Prelude.{ℕ, List, [], ◌∷◌, ◌≡◌, refl}
use Prim.Native.String.{String}
use Rattle.reading.specs.Kinds.{Var, Const, Add, Mul, Eq, BoolAnd, Neg, Rotl, Select, Call}
use Rattle.echo_spec.specs.Input.{Problem}
use Rattle.echo_spec.specs.Answers.{Answer}
use Rattle.lets.specs.Lets.{
  uses_in,
  shared,
  operands_of,
  reached_below,
  reached,
  binds,
  rising,
  let_name,
  named,
  named_step,
  named_of,
  binding_of,
  assertion_of,
  assertions_of,
  let_text,
  let_assertions_text,
  render_let,
  used_as,
  let_step,
  let_walk,
  own_sort,
  assertion_refusal,
  let_roots,
  names_clear,
  let_refusal_with,
  let_script,
  endless_let,
  echo_let_answer,
}
use Rattle.echo_spec.specs.Examples.{node, problem, var, fun, lent, refused, accepted, five, sum, Example, given, wanted, all_meet}

abbrev let_prints : String → Problem → ℕ → (ℕ → Answer) → Example Answer
let_prints label p room wanted = record { label = label; given = echo_let_answer p (lent room); wanted = wanted room }

-- node 0 a variable of width 8, node 1 the constant 5, then these
abbrev pub over : List (List ℕ) → List ℕ → String → Problem
over nodes roots x = problem (node Var 8 0 0 0 ∷ node Const 0 8 0 0 ∷ nodes) five [] roots (var x 0 8 ∷ []) [] []

pub let_cases : List (Example Answer)
let_cases =
    let_prints "no sharing: the plain script" (over (sum ∷ node Eq 2 0 0 0 ∷ []) (3 ∷ []) "x") 400 (accepted 103 "(set-logic QF_BV)\n(declare-const |x| (_ BitVec 8))\n(assert (= (bvadd |x| #b00000101) |x|))\n(check-sat)\n")
    ∷ let_prints "node 2 twice in one root" (over (sum ∷ node Eq 2 2 0 0 ∷ []) (3 ∷ []) "x") 400 (accepted 124 "(set-logic QF_BV)\n(declare-const |x| (_ BitVec 8))\n(assert (let ((|d2| (bvadd |x| #b00000101))) (= |d2| |d2|)))\n(check-sat)\n")
    ∷ let_prints "a root twice" (over (sum ∷ node Eq 2 0 0 0 ∷ []) (3 ∷ 3 ∷ []) "x") 400 (accepted 183 "(set-logic QF_BV)\n(declare-const |x| (_ BitVec 8))\n(assert (let ((|d3| (= (bvadd |x| #b00000101) |x|))) |d3|))\n(assert (let ((|d3| (= (bvadd |x| #b00000101) |x|))) |d3|))\n(check-sat)\n")
    ∷ let_prints "node 2 once in each of two roots" (over (sum ∷ node Eq 2 0 0 0 ∷ node Eq 2 1 0 0 ∷ []) (3 ∷ 4 ∷ []) "x") 400 (accepted 190 "(set-logic QF_BV)\n(declare-const |x| (_ BitVec 8))\n(assert (let ((|d2| (bvadd |x| #b00000101))) (= |d2| |x|)))\n(assert (let ((|d2| (bvadd |x| #b00000101))) (= |d2| #b00000101)))\n(check-sat)\n")
    ∷ let_prints "the other use of node 2 is not reached" (over (sum ∷ node Eq 2 0 0 0 ∷ node Eq 2 1 0 0 ∷ []) (3 ∷ []) "x") 400 (accepted 123 "(set-logic QF_BV)\n(declare-const |x| (_ BitVec 8))\n(assert (let ((|d2| (bvadd |x| #b00000101))) (= |d2| |x|)))\n(check-sat)\n")
    ∷ let_prints "node 2 is shared and the root does not reach it" (over (sum ∷ node Eq 0 1 0 0 ∷ node Eq 2 2 0 0 ∷ []) (3 ∷ []) "x") 400 (accepted 91 "(set-logic QF_BV)\n(declare-const |x| (_ BitVec 8))\n(assert (= |x| #b00000101))\n(check-sat)\n")
    ∷ let_prints "the lowest outermost" (over (sum ∷ node Mul 2 2 0 0 ∷ node Eq 3 3 0 0 ∷ []) (4 ∷ []) "x") 400 (accepted 157 "(set-logic QF_BV)\n(declare-const |x| (_ BitVec 8))\n(assert (let ((|d2| (bvadd |x| #b00000101))) (let ((|d3| (bvmul |d2| |d2|))) (= |d3| |d3|))))\n(check-sat)\n")
    ∷ let_prints "a chain of doublings" (over (sum ∷ node Add 2 2 0 0 ∷ node Add 3 3 0 0 ∷ node Add 4 4 0 0 ∷ node Add 5 5 0 0 ∷ node Add 6 6 0 0 ∷ node Eq 7 0 0 0 ∷ []) (8 ∷ []) "x") 400 (accepted 268 "(set-logic QF_BV)\n(declare-const |x| (_ BitVec 8))\n(assert (let ((|d2| (bvadd |x| #b00000101))) (let ((|d3| (bvadd |d2| |d2|))) (let ((|d4| (bvadd |d3| |d3|))) (let ((|d5| (bvadd |d4| |d4|))) (let ((|d6| (bvadd |d5| |d5|))) (= (bvadd |d6| |d6|) |x|)))))))\n(check-sat)\n")
    ∷ let_prints "a Bool" (over (node Eq 0 1 0 0 ∷ node BoolAnd 2 2 0 0 ∷ []) (3 ∷ []) "x") 400 (accepted 122 "(set-logic QF_BV)\n(declare-const |x| (_ BitVec 8))\n(assert (let ((|d2| (= |x| #b00000101))) (and |d2| |d2|)))\n(check-sat)\n")
    ∷ let_prints "a shared Bool where a bit-vector is wanted" (over (node Eq 0 1 0 0 ∷ node Eq 2 2 0 0 ∷ []) (3 ∷ []) "x") 400 (refused 3)
    ∷ let_prints "a call without arguments" (problem (node Call 0 8 0 0 ∷ node Eq 0 0 0 0 ∷ []) [] [] (1 ∷ []) [] [] (fun "f" 8 ∷ [])) 400 (accepted 109 "(set-logic QF_AUFBV)\n(declare-fun |f| () (_ BitVec 8))\n(assert (let ((|d0| |f|)) (= |d0| |d0|)))\n(check-sat)\n")
    ∷ let_prints "11" (over (sum ∷ node Eq 2 2 0 0 ∷ []) (3 ∷ []) "d2") 400 (refused 11)
    ∷ let_prints "11, though nothing reaches node 2" (over (sum ∷ node Eq 0 1 0 0 ∷ node Eq 2 2 0 0 ∷ []) (3 ∷ []) "d2") 400 (refused 11)
    ∷ let_prints "11 before a root of the wrong sort, and 2 before 11" (over (sum ∷ node Eq 2 2 0 0 ∷ []) (0 ∷ []) "d2") 400 (refused 11)
    ∷ let_prints "11 before a root of the wrong sort, and 2 before 11" (problem (node Var 8 0 0 0 ∷ node Neg 0 0 0 0 ∷ node Eq 1 1 0 0 ∷ []) [] [] (2 ∷ []) (var "d1" 0 8 ∷ []) ("let" ∷ []) []) 400 (refused 2)
    ∷ let_prints "no clash with a leading zero" (over (sum ∷ node Eq 2 2 0 0 ∷ []) (3 ∷ []) "d02") 400 (accepted 128 "(set-logic QF_BV)\n(declare-const |d02| (_ BitVec 8))\n(assert (let ((|d2| (bvadd |d02| #b00000101))) (= |d2| |d2|)))\n(check-sat)\n")
    ∷ let_prints "nor with a node that has one use" (over (sum ∷ node Eq 2 2 0 0 ∷ []) (3 ∷ []) "d3") 400 (accepted 126 "(set-logic QF_BV)\n(declare-const |d3| (_ BitVec 8))\n(assert (let ((|d2| (bvadd |d3| #b00000101))) (= |d2| |d2|)))\n(check-sat)\n")
    ∷ let_prints "a bound term is refused before the root's sort" (problem (node Var 8 0 0 0 ∷ node Neg 0 0 0 0 ∷ []) [] [] (1 ∷ 1 ∷ []) [] [] []) 400 (refused 4)
    ∷ let_prints "a root of the wrong sort that is bound" (over (sum ∷ []) (2 ∷ 2 ∷ []) "x") 400 (refused 3)
    ∷ let_prints "reached below a select of no array" (problem (node Var 32 0 0 0 ∷ node Neg 0 0 0 0 ∷ node Const 0 8 0 0 ∷ node Select 9 1 0 1 ∷ node Eq 3 2 0 0 ∷ []) five (1 ∷ 2 ∷ []) (4 ∷ []) [] [] []) 400 (refused 4)
    ∷ let_prints "a rotation's amount is not reached" (problem (node Var 8 0 0 0 ∷ node Var 8 0 0 0 ∷ node Neg 1 0 0 0 ∷ node Rotl 0 2 0 0 ∷ node Rotl 3 2 0 0 ∷ node Eq 4 0 0 0 ∷ []) [] [] (5 ∷ []) (var "x" 0 8 ∷ []) [] []) 400 (refused 5)
    ∷ let_prints "a root past the nodes, twice" (over (sum ∷ []) (9 ∷ 9 ∷ []) "x") 400 (refused 1)
    ∷ []

-- (whoever unfolds this unfolds the definitions named under it)
unfoldable pub lets_meet : List (Example Answer) → Type 0
unfolding
    all_meet uses_in shared operands_of reached_below reached binds rising let_name named named_step named_of binding_of assertion_of assertions_of let_text
    let_assertions_text render_let used_as let_step let_walk own_sort assertion_refusal let_roots names_clear let_refusal_with let_script endless_let
    echo_let_answer
lets_meet es = given es ≡ wanted es

pub let-cases : given let_cases ≡ wanted let_cases
unfolding lets_meet let_cases
let-cases = refl
