-- Computed examples of what `fewest_roots` answers: lists of positions are tried, and each clause has an example that fails without it.
use Rattle.std.specs.Prelude.{ℕ, ◌≡◌, refl, List, [], ◌∷◌, replicate}
use Prim.Native.String.{String}
use Rattle.lists.specs.Build.{find}
use Rattle.reading.specs.Kinds.{Var, Eq, Ult, Not, BoolAnd, Rotl, Call}
use Rattle.echo_spec.specs.Input.{Problem, array_columns}
use Rattle.echo_spec.specs.Examples.{node, problem, problem_with, Named, var, fun, Example, given, wanted, all_meet}
use Rattle.fewest.specs.Fewest.{same_number, rising, by_length, fewest, FewestAnswer, fewest_roots_answer}

-- ---------------------------------------------------------------- the lists, in their order

rising-order : by_length 3 0 4 ≡ [] ∷ (0 ∷ []) ∷ (1 ∷ []) ∷ (2 ∷ []) ∷ (0 ∷ 1 ∷ []) ∷ (0 ∷ 2 ∷ []) ∷ (1 ∷ 2 ∷ []) ∷ (0 ∷ 1 ∷ 2 ∷ []) ∷ []
unfolding rising by_length
rising-order = refl

-- ---------------------------------------------------------------- problems

abbrev few : String → Problem → ℕ → List ℕ → Example FewestAnswer
few label p n ks = record { label = label; given = fewest_roots_answer p; wanted = record { number = n; positions = ks } }

-- x is node 0; nodes 1 and 3 are comparisons that no operand uses, and node 2 is one that node 4 uses
abbrev pub with_nodes : List Named → List ℕ → Problem
with_nodes vars roots =
    problem
    (node Var 8 0 0 0 ∷ node Eq 0 0 0 0 ∷ node Ult 0 0 0 0 ∷ node Eq 0 0 0 0 ∷ node Not 2 0 0 0 ∷ [])
    [] [] roots vars [] []

abbrev pub x : List Named
x = var "x" 0 8 ∷ []

problem_cases : List (Example FewestAnswer)
problem_cases =
    few "accepted" (with_nodes x (1 ∷ 3 ∷ 4 ∷ [])) 0 []
    ∷ few "1: the first root past the nodes, between others" (with_nodes x (1 ∷ 9 ∷ 3 ∷ 7 ∷ [])) 1 (1 ∷ [])
    ∷ few "1: a node that is not well formed, whatever the roots" (problem (node Var 8 0 0 0 ∷ node Not 0 0 0 0 ∷ []) [] [] (1 ∷ 9 ∷ []) x [] []) 1 []
    ∷ few "3: a root that is a vector, before one that is past the nodes" (with_nodes x (1 ∷ 0 ∷ 9 ∷ [])) 3 (1 ∷ [])
    ∷ few "2: a name needs no root" (with_nodes (var "bvadd" 0 8 ∷ []) (1 ∷ 1 ∷ [])) 2 []
    ∷ few "4: declared, whatever the roots" (with_nodes (var "x" 0 0 ∷ []) (1 ∷ 9 ∷ [])) 4 []
    ∷ few "4: a variable that is not declared" (with_nodes [] (1 ∷ 3 ∷ [])) 4 (0 ∷ [])
    ∷ few "5: a rotation by a variable"
    (problem (node Var 8 0 0 0 ∷ node Rotl 0 0 0 0 ∷ node Eq 1 0 0 0 ∷ node Eq 0 0 0 0 ∷ []) [] [] (3 ∷ 2 ∷ 0 ∷ []) x [] []) 5 (1 ∷ [])
    ∷ few "7: a call of another width"
    (problem (node Var 9 0 0 0 ∷ node Call 0 9 0 0 ∷ node Eq 1 0 0 0 ∷ node Eq 0 0 0 0 ∷ []) [] [] (3 ∷ 2 ∷ []) (var "x" 0 9 ∷ []) [] (fun "f" 8 ∷ [])) 7 (1 ∷ [])
    ∷ few "7: a function that is never called" (problem [] [] [] (3 ∷ []) [] [] (fun "f" 8 ∷ [])) 7 []
    ∷ few "6: two positions of one node" (with_nodes x (1 ∷ 3 ∷ 3 ∷ [])) 6 (1 ∷ 2 ∷ [])
    ∷ few "6: three positions of one node" (with_nodes x (1 ∷ 3 ∷ 3 ∷ 3 ∷ [])) 6 (1 ∷ 2 ∷ [])
    ∷ few "6: the pair whose first position comes first" (with_nodes x (3 ∷ 1 ∷ 1 ∷ 3 ∷ [])) 6 (0 ∷ 3 ∷ [])
    ∷ few "6: a root that an operand uses too, alone" (with_nodes x (1 ∷ 1 ∷ 2 ∷ [])) 6 (2 ∷ [])
    ∷ few "6: a root past the nodes is shared by no two" (with_nodes x (9 ∷ 9 ∷ 1 ∷ 1 ∷ [])) 6 (2 ∷ 3 ∷ [])
    ∷ few "6: nor is a variable" (with_nodes x (0 ∷ 0 ∷ 1 ∷ 1 ∷ [])) 6 (2 ∷ 3 ∷ [])
    ∷ few "6: the number stays 6, where fewer roots give 4" (with_nodes (var "x" 0 0 ∷ []) (3 ∷ 1 ∷ 1 ∷ [])) 6 (1 ∷ 2 ∷ [])
    ∷ few "6: among operands alone" (problem (node Var 8 0 0 0 ∷ node Eq 0 0 0 0 ∷ node BoolAnd 1 1 0 0 ∷ []) [] [] (2 ∷ []) x [] []) 6 []
    ∷ few "8: no list" (problem [] (2 ∷ []) [] (0 ∷ []) [] [] []) 8 []
    ∷ few "9: no list" (problem [] [] [] (replicate 257 0) [] [] []) 9 []
    ∷ few "12: no list" (problem_with [] [] [] (0 ∷ []) [] ("a" ∷ []) (array_columns (0 ∷ []) (8 ∷ [])) []) 12 []
    ∷ []

problem-cases : given problem_cases ≡ wanted problem_cases
unfolding all_meet problem_cases find rising by_length same_number fewest fewest_roots_answer
problem-cases = refl
