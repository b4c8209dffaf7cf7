-- Examples of 8 and of the record's layout: whole records, known kinds, operands that a kind does not have, bits.
use Rattle.std.specs.Prelude.{ℕ, ◌≡◌, refl, List, [], ◌∷◌, ◌++◌, map, cond, eqb, replicate}
use Rattle.lists.specs.Build.{tabulate}
use Rattle.reading.specs.Kinds.{Var, Const, Add, Not, Call}
use Rattle.echo_spec.specs.Answers.{Answer, ext_wf_answer}
use Rattle.echo_spec.specs.Examples.{no_arrays, node, problem, Example, given, wanted, refuses, passes, widens, all_meet}

-- ---------------------------------------------------------------- operands that a kind does not have

-- the width pass on one record of this kind with 1 as its operand j and 0 as the others, for j from 0 to 3
abbrev one_operand : ℕ → List ℕ
one_operand k =
    map
    (λ j.
    let at : ℕ → ℕ = λ i. cond (eqb i j) 1 0 in
    (ext_wf_answer (node k (at 0) (at 1) (at 2) (at 3)) [] [] no_arrays []).number)
    (0 ∷ 1 ∷ 2 ∷ 3 ∷ [])

-- kinds with one, two, three and four operands: an operand that the kind has breaks a rule of widths
abbrev has1 : List ℕ
has1 = 1 ∷ 8 ∷ 8 ∷ 8 ∷ []

abbrev has2 : List ℕ
has2 = 1 ∷ 1 ∷ 8 ∷ 8 ∷ []

abbrev has3 : List ℕ
has3 = 1 ∷ 1 ∷ 1 ∷ 8 ∷ []

abbrev has4 : List ℕ
has4 = 1 ∷ 1 ∷ 1 ∷ 1 ∷ []

-- the kinds 0 to 38 and the two after them; a width of 1 is no such break, and there is no room for it
operands : List (List ℕ)
operands =
    -- Var, Const
    (10 ∷ 8 ∷ 8 ∷ 8 ∷ []) ∷ has2
    -- Add, Sub, Mul, Udiv, Urem, And, Or, Xor, Shl, Lshr, Ashr
    ∷ has2 ∷ has2 ∷ has2 ∷ has2 ∷ has2 ∷ has2 ∷ has2 ∷ has2 ∷ has2 ∷ has2 ∷ has2
    -- Rotr, Extract, Concat, ZeroExt, SignExt, Ite
    ∷ has2 ∷ has3 ∷ has2 ∷ has2 ∷ has2 ∷ has3
    -- Eq, Ne, Ult, Ule, Ugt, Uge, Slt, Sle, Sgt, Sge
    ∷ has2 ∷ has2 ∷ has2 ∷ has2 ∷ has2 ∷ has2 ∷ has2 ∷ has2 ∷ has2 ∷ has2
    -- Not, BoolAnd, BoolOr, BvNot, Neg
    ∷ has1 ∷ has2 ∷ has2 ∷ has1 ∷ has1
    -- Rotl, Sdiv, Srem, Select, Call
    ∷ has2 ∷ has2 ∷ has2 ∷ has4 ∷ (1 ∷ 10 ∷ 1 ∷ 1 ∷ [])
    -- no kinds
    ∷ replicate 4 8 ∷ replicate 4 8 ∷ []

unused-operands : map one_operand (tabulate 41 (λ k. k)) ≡ operands
unfolding all_meet operands
unused-operands = refl

-- ---------------------------------------------------------------- records and bits

-- the width pass on these nodes, with no room
abbrev number : List ℕ → List ℕ → ℕ → Example Answer
number nodes bits n = widens "8, width pass" (nodes ∷ []) bits [] 0 (record { number = n; count = 0; output = [] })

abbrev one_var : List ℕ
one_var = node Var 8 0 0 0

encoding_cases : List (Example Answer)
encoding_cases =
    -- the bytes are whole records
    number (replicate 1 0) [] 8
    ∷ number (replicate 16 0) [] 8
    ∷ number (one_var ++ replicate 1 0) [] 8
    ∷ number (one_var ++ replicate 16 0) [] 8
    ∷ number (one_var ++ one_var) [] 10
    -- the kind is known
    ∷ number (node 38 0 8 0 0) [] 10
    ∷ number (node 39 0 0 0 0) [] 8
    ∷ number (node 255 0 0 0 0) [] 8
    ∷ number (one_var ++ node 39 0 0 0 0) [] 8
    -- an operand that is not used, one byte of it
    ∷ number (node Var 8 256 0 0) [] 8
    ∷ number (node Var 8 0 0 16777216) [] 8
    -- a bit that is used, and one that is not
    ∷ number (node Const 0 2 0 0) (0 ∷ 1 ∷ []) 10
    ∷ number (node Const 0 2 0 0) (0 ∷ 2 ∷ []) 8
    ∷ number (node Const 0 2 0 0) (255 ∷ 0 ∷ []) 8
    ∷ number [] (0 ∷ 1 ∷ 2 ∷ []) 8
    -- 8 before 1: a node refused before the record, and a bit
    ∷ number (node Var 0 0 0 0 ++ node 39 0 0 0 0) [] 8
    ∷ number (node Not 0 0 0 0) (2 ∷ []) 8
    ∷ number (node Not 0 0 0 0 ++ replicate 1 0) [] 8
    -- the printer
    ∷ passes "whole records" (problem (one_var ∷ one_var ∷ []) [] [] [] [] [] [])
    ∷ refuses "8: no whole number of records" 8 (problem (one_var ∷ replicate 16 0 ∷ []) [] [] [] [] [] [])
    ∷ passes "the last kind" (problem (node 38 0 8 0 0 ∷ []) [] [] [] [] [] [])
    ∷ refuses "8: an unknown kind" 8 (problem (node 39 0 0 0 0 ∷ []) [] [] [] [] [] [])
    ∷ refuses "8: an unused operand" 8 (problem (node Add 0 0 1 0 ∷ []) [] [] [] [] [] [])
    ∷ refuses "8: a bit that no constant uses" 8 (problem [] (2 ∷ []) [] [] [] [] [])
    ∷ []

encoding-cases : given encoding_cases ≡ wanted encoding_cases
unfolding all_meet encoding_cases
encoding-cases = refl

-- ---------------------------------------------------------------- the layout of a record

-- a call with so many arguments from this place on, after a variable; there is one side entry
abbrev call_at : ℕ → ℕ → Answer → Example Answer
call_at start n wanted = widens "start and count" (one_var ∷ node Call 0 9 start n ∷ []) [] (0 ∷ []) 2 wanted

abbrev taken : Answer
taken = record { number = 0; count = 2; output = 8 ∷ 9 ∷ [] }

abbrev refused_call : Answer
refused_call = record { number = 1; count = 1; output = 0 ∷ 0 ∷ [] }

layout_cases : List (Example Answer)
layout_cases =
    -- each byte of an operand, the least significant first
    widens "first operand" ((0 ∷ 1 ∷ 2 ∷ 3 ∷ 4 ∷ replicate 12 0) ∷ []) [] [] 1 (record { number = 0; count = 1; output = 67305985 ∷ [] })
    ∷ widens "second operand" ((38 ∷ replicate 4 0 ++ (1 ∷ 2 ∷ 3 ∷ 4 ∷ replicate 8 0)) ∷ []) [] [] 1 (record { number = 0; count = 1; output = 67305985 ∷ [] })
    ∷ call_at 0 1 taken
    ∷ call_at 256 1 refused_call
    ∷ call_at 65536 1 refused_call
    ∷ call_at 16777216 1 refused_call
    ∷ call_at 0 256 refused_call
    ∷ call_at 0 65536 refused_call
    ∷ call_at 0 16777216 refused_call
    -- start, then count
    ∷ call_at 7 0 taken
    ∷ []

layout-cases : given layout_cases ≡ wanted layout_cases
unfolding all_meet layout_cases
layout-cases = refl
