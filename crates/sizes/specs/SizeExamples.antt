-- Computed examples of what `echo_size` answers: each clause of the definitions has one that fails without it.
use Rattle.std.specs.Prelude.{ℕ, ◌≡◌, refl, List, [], ◌∷◌, ◌++◌, replicate}
use Prim.Native.String.{String}
use Rattle.reading.specs.Kinds.{Var, Const, Add, Ite, Eq, Ult, BvNot, Rotl, Select, Call}
use Rattle.reading.specs.Trees.{Tree, variable, constant, apply, select, call, none, more, base, store}
use Rattle.echo_spec.specs.Input.{Problem}
use Rattle.echo_spec.specs.Examples.{node, problem, var, fun, five, eleven, m1, m2_with, sum, m2, Example, given, wanted, decoded, query, all_meet}
use Rattle.sizes.specs.Size.{weigh, weigh_all, weigh_stores, terms_entered, operators_entered, SizeAnswer, size_with, echo_size_answer}

-- ---------------------------------------------------------------- the terms of a tree

-- a variable or a constant is 1, and any other term 10
abbrev weighs : String → ℕ → Tree → Example ℕ
weighs label n t = record { label = label; given = weigh 1 10 t; wanted = n }

abbrev x : Tree
x = variable (120 ∷ [])

abbrev one : Tree
one = constant (1 ∷ [])

-- a term of 12, and a term of 11
abbrev twelve : Tree
twelve = apply Add [] (more x (more one none))

abbrev negated : Tree
negated = apply BvNot [] (more x none)

tree_cases : List (Example ℕ)
tree_cases =
    weighs "a variable" 1 x
    ∷ weighs "a constant, whatever its width" 1 (constant (0 ∷ 1 ∷ 1 ∷ []))
    ∷ weighs "an operator and its operands" 12 twelve
    ∷ weighs "a rotation's amount is none" 11 (apply Rotl (3 ∷ []) (more x none))
    ∷ weighs "three operands" 33 (apply Ite [] (more negated (more negated (more one none))))
    ∷ weighs "a select and its index: the array is none" 11 (select (109 ∷ []) x base)
    ∷ weighs "a select's index is a term of its own" 22 (select (109 ∷ []) twelve base)
    ∷ weighs "a store's index and value; the store is none" 34 (select (109 ∷ []) x (store negated twelve base))
    ∷ weighs "every store" 36 (select (109 ∷ []) x (store negated twelve (store one x base)))
    ∷ weighs "a call and its arguments" 33 (call (102 ∷ []) (more negated (more twelve none)))
    ∷ weighs "a call without arguments is no leaf" 10 (call (102 ∷ []) none)
    ∷ []

tree-cases : given tree_cases ≡ wanted tree_cases
unfolding tree_cases weigh weigh_all weigh_stores
tree-cases = refl

-- ---------------------------------------------------------------- problems

abbrev sizes : String → Problem → ℕ → ℕ → Example SizeAnswer
sizes label p n t = record { label = label; given = echo_size_answer p; wanted = record { number = 0; length = n; terms = t } }

abbrev refuses : String → Problem → ℕ → Example SizeAnswer
refuses label p n = record { label = label; given = echo_size_answer p; wanted = record { number = n; length = 0; terms = 0 } }

-- (= (select (store (store |m| |j| |v|) |i| 5) 5) |v|)
abbrev two_stores : Problem
two_stores =
    problem
    (node Var 32 0 0 0 ∷ node Var 8 0 0 0 ∷ node Const 0 8 0 0 ∷ node Const 0 32 0 0 ∷ node Var 32 0 0 0 ∷ node Select 0 3 0 2 ∷ node Eq 5 1 0 0 ∷ [])
    (five ++ replicate 24 0) (0 ∷ 2 ∷ 4 ∷ 1 ∷ []) (6 ∷ []) (var "i" 0 32 ∷ var "v" 1 8 ∷ var "j" 4 32 ∷ []) ("m" ∷ []) []

-- (= (|f| |x| |x|) |g|): one variable twice, among side entries that no call reads
abbrev calls : Problem
calls =
    problem (node Var 8 0 0 0 ∷ node Call 0 8 1 2 ∷ node Call 1 8 0 0 ∷ node Eq 1 2 0 0 ∷ []) [] (0 ∷ 0 ∷ 0 ∷ 0 ∷ []) (3 ∷ []) (var "x" 0 8 ∷ []) []
    (fun "f" 8 ∷ fun "g" 8 ∷ [])

-- two roots, and nodes that no root reaches
abbrev two_roots : Problem
two_roots =
    problem (node Var 8 0 0 0 ∷ node Eq 0 0 0 0 ∷ node Ult 0 0 0 0 ∷ node BvNot 0 0 0 0 ∷ node Eq 0 3 0 0 ∷ []) [] [] (1 ∷ 2 ∷ []) (var "x" 0 8 ∷ []) [] []

problem_cases : List (Example SizeAnswer)
problem_cases =
    sizes "M1" m1 30 0
    ∷ sizes "M2" m2 103 5
    ∷ refuses "M4" (m2_with five sum (node Eq 2 2 0 0) 3 "x") 6
    ∷ refuses "M5" (m2_with five sum (node Eq 2 0 0 0) 0 "x") 3
    ∷ refuses "M6" (m2_with five sum (node Eq 2 0 0 0) 3 "bvadd") 2
    ∷ refuses "M7" (m2_with five sum (node Eq 2 0 0 0) 4 "x") 1
    ∷ sizes "M8" (m2_with eleven (node Rotl 0 1 0 0) (node Eq 2 0 0 0) 3 "x") 104 4
    ∷ refuses "M9" (problem [] [] [] [] [] [] (fun "f" 8 ∷ [])) 7
    ∷ sizes "M10" (problem (node Const 0 32 0 0 ∷ node Select 9 0 0 0 ∷ []) (replicate 32 0) [] [] [] [] []) 30 0
    ∷ sizes "stores" two_stores 291 8
    ∷ sizes "calls" calls 190 5
    ∷ sizes "two roots, and what is not reached" two_roots 109 6
    ∷ refuses "8: a bit that is none" (m2_with (2 ∷ five) sum (node Eq 2 0 0 0) 3 "x") 8
    ∷ refuses "9: more roots than are taken" (problem [] [] [] (replicate 257 0) [] [] []) 9
    ∷ []

problem-cases : given problem_cases ≡ wanted problem_cases
unfolding all_meet problem_cases weigh weigh_all weigh_stores terms_entered size_with echo_size_answer
problem-cases = refl

-- ---------------------------------------------------------------- operators

abbrev operators_of : String → ℕ → ℕ → Example ℕ
operators_of label n wanted = record {
  label = label;
  given = operators_entered (query (decoded Var 8 0 0 0 ∷ decoded Call 0 8 0 0 ∷ decoded Eq 0 1 0 0 ∷ decoded Eq 0 0 0 0 ∷ []) [] [] (n ∷ []) (var "x" 0 8 ∷ []) [] (fun "g" 8 ∷ []));
  wanted = wanted;
}

operator_cases : List (Example ℕ)
operator_cases =
    operators_of "a call without arguments is one" 2 2
    ∷ operators_of "variables are none" 3 1
    ∷ []

operator-cases : given operator_cases ≡ wanted operator_cases
unfolding all_meet operator_cases weigh weigh_all weigh_stores operators_entered
operator-cases = refl
