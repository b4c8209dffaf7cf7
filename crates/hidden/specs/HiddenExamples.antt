-- Computed examples of the hidden form: each clause of the definitions has one that fails without it.
use Rattle.std.specs.Prelude.{ℕ, ◌≡◌, refl, List, [], ◌∷◌, ◌++◌, replicate}
use Prim.Native.String.{String}
use Rattle.reading.specs.Kinds.{Var, Const, Add, Eq, Rotl, Select, Call}
use Rattle.reading.specs.Trees.{Tree, variable, constant, apply, select, call, none, more, base, store}
use Rattle.echo_spec.specs.Input.{Problem}
use Rattle.echo_spec.specs.Answers.{Answer}
use Rattle.echo_spec.specs.Examples.{node, problem, var, fun, five, eleven, m1, m2_with, sum, m2, lent, refused, accepted, Example, given, wanted, all_meet}
use Rattle.hidden.specs.Hidden.{zeros, hidden, hidden_reading, hidden_script, echo_hidden_answer}

-- ---------------------------------------------------------------- trees

abbrev hides : String → Tree → Tree → Example Tree
hides label t u = record { label = label; given = hidden t; wanted = u }

abbrev x : Tree
x = variable (120 ∷ [])

-- the constant 5, and what is shown of it
abbrev c : Tree
c = constant (1 ∷ 0 ∷ 1 ∷ [])

abbrev z : Tree
z = constant (0 ∷ 0 ∷ 0 ∷ [])

tree_cases : List (Example Tree)
tree_cases =
    hides "a variable stays" x x
    ∷ hides "a constant is as many zeros" c z
    ∷ hides "every operand" (apply Add [] (more c (more x (more c none)))) (apply Add [] (more z (more x (more z none))))
    ∷ hides "a rotation's amount stays" (apply Rotl (3 ∷ []) (more c none)) (apply Rotl (3 ∷ []) (more z none))
    ∷ hides "a select's index" (select (109 ∷ []) c base) (select (109 ∷ []) z base)
    ∷ hides "a store's index and value" (select (109 ∷ []) x (store c c base)) (select (109 ∷ []) x (store z z base))
    ∷ hides "every store" (select (109 ∷ []) x (store x x (store c c base))) (select (109 ∷ []) x (store x x (store z z base)))
    ∷ hides "a call's arguments" (call (102 ∷ []) (more x (more c none))) (call (102 ∷ []) (more x (more z none)))
    ∷ hides "a call without arguments" (call (102 ∷ []) none) (call (102 ∷ []) none)
    ∷ []

tree-cases : given tree_cases ≡ wanted tree_cases
unfolding tree_cases zeros hidden
tree-cases = refl

-- ---------------------------------------------------------------- problems

abbrev prints_hidden : String → Problem → ℕ → (ℕ → Answer) → Example Answer
prints_hidden label p room wanted = record { label = label; given = echo_hidden_answer p (lent room); wanted = wanted room }

-- a store, a call, a rotation by 3, and names that hold `#b1` and digits; the amount's constant is printed too
abbrev all : Problem
all =
    problem
    (node Var 8 0 0 0 ∷ node Const 0 8 0 0 ∷ node Rotl 0 1 0 0 ∷ node Const 0 32 0 0 ∷ node Call 0 8 2 1 ∷ node Select 0 3 0 1 ∷ node Eq 5 2 0 0 ∷ [])
    (eleven ++ (1 ∷ replicate 23 0)) (3 ∷ 4 ∷ 1 ∷ []) (6 ∷ []) (var "x #b1" 0 8 ∷ []) ("m1" ∷ []) (fun "f 11" 8 ∷ [])

problem_cases : List (Example Answer)
problem_cases =
    prints_hidden "M1" m1 200 (accepted 30 "(set-logic QF_BV)\n(check-sat)\n")
    ∷ prints_hidden "M2" m2 200 (accepted 103 "(set-logic QF_BV)\n(declare-const |x| (_ BitVec 8))\n(assert (= (bvadd |x| #b00000000) |x|))\n(check-sat)\n")
    ∷ prints_hidden "M3: room for the script" m2 102 (refused 10)
    ∷ prints_hidden "M4" (m2_with five sum (node Eq 2 2 0 0) 3 "x") 200 (refused 6)
    ∷ prints_hidden "M6" (m2_with five sum (node Eq 2 0 0 0) 3 "bvadd") 200 (refused 2)
    ∷ prints_hidden "M8: a rotation by 11, of width 8" (m2_with eleven (node Rotl 0 1 0 0) (node Eq 2 0 0 0) 3 "x") 104
    (accepted 104 "(set-logic QF_BV)\n(declare-const |x| (_ BitVec 8))\n(assert (= ((_ rotate_left 3) |x|) |x|))\n(check-sat)\n")
    ∷ prints_hidden "the constant of an amount, printed too, is hidden there" all 336
    (accepted 328
    "(set-logic QF_AUFBV)\n(declare-const |x #b1| (_ BitVec 8))\n(declare-const |m1| (Array (_ BitVec 32) (_ BitVec 8)))\n(declare-fun |f 11| ((_ BitVec 8)) (_ BitVec 8))\n(assert (= (select (store |m1| #b00000000000000000000000000000000 (|f 11| #b00000000)) #b00000000000000000000000000000000) ((_ rotate_left 3) |x #b1|)))\n(check-sat)\n")
    ∷ prints_hidden "8: a bit that is none" (m2_with (2 ∷ five) sum (node Eq 2 0 0 0) 3 "x") 200 (refused 8)
    ∷ []

problem-cases : given problem_cases ≡ wanted problem_cases
unfolding all_meet problem_cases zeros hidden hidden_reading hidden_script echo_hidden_answer
problem-cases = refl
