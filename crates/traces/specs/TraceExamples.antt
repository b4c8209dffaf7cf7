-- Computed examples of what the replay of a trace answers: each clause of the definitions has one that fails without it.
use Rattle.std.specs.Prelude.{ℕ, ◌-◌, ◌^◌, ◌≡◌, refl, List, [], ◌∷◌, ◌++◌, replicate}
use Prim.Native.String.{String}
use Rattle.reading.specs.Kinds.{Var, Const, Add, Udiv, Urem, Lshr, Ashr, Extract, Eq, Ult, Slt, Rotl, Ite, Select, Call}
use Rattle.echo_spec.specs.Input.{Problem}
use Rattle.echo_spec.specs.Examples.{node, problem, var, fun, five, m1, Named, Example, given, wanted, all_meet}
use Rattle.vectors.specs.Vectors.{bit, vector, nat2bv, extract, bvadd, bvnot, bvudiv, bvurem, bvlshr, bvashr, bvult, bvslt, msb, concat, left_once, rotate_left}
use Rattle.vectors.specs.Values.{meanings, applied, number, value_of, values_of, environment, holds, mask, count}
use Rattle.traces.specs.Trace.{
  plain,
  narrow_step,
  narrow,
  fits,
  whole_rows,
  values_fit,
  row_count,
  narrow_roots,
  trace_refusal,
  holding_all,
  holding,
  TraceAnswer,
  trace_answer,
  replay_trace_answer,
}

-- the outputs hold nines before
abbrev nines : ℕ → List ℕ
nines n = replicate n 9

-- accepted: so many rows, and both outputs afterwards
abbrev replays : String → Problem → List ℕ → ℕ → ℕ → List ℕ → List ℕ → Example TraceAnswer
replays label p values room rows masks counts = record {
  label = label;
  given = replay_trace_answer p values (nines room) (nines room);
  wanted = record { number = 0; rows = rows; masks = masks; counts = counts };
}

-- refused, with outputs of these lengths
abbrev refuses : String → Problem → List ℕ → ℕ → ℕ → ℕ → Example TraceAnswer
refuses label p values masks counts n = record {
  label = label;
  given = replay_trace_answer p values (nines masks) (nines counts);
  wanted = record { number = n; rows = 0; masks = replicate masks 0; counts = replicate counts 0 };
}

-- ---------------------------------------------------------------- rows, masks, counts

abbrev xy : List Named
xy = var "x" 0 8 ∷ var "y" 1 8 ∷ []

-- x + 5 = y, and x < y
abbrev two : Problem
two =
    problem (node Var 8 0 0 0 ∷ node Var 8 0 0 0 ∷ node Const 0 8 0 0 ∷ node Add 0 2 0 0 ∷ node Eq 3 1 0 0 ∷ node Ult 0 1 0 0 ∷ []) five [] (4 ∷ 5 ∷ []) xy [] []

-- one root over x, y and the constant 5: a term of 8 bits that equals y
abbrev says : ℕ → Problem
says k = problem (node Var 8 0 0 0 ∷ node Var 8 0 0 0 ∷ node Const 0 8 0 0 ∷ node k 0 2 0 0 ∷ node Eq 3 1 0 0 ∷ []) five [] (4 ∷ []) xy [] []

-- the same by a constant of 0
abbrev by_zero : ℕ → Problem
by_zero k = problem (node Var 8 0 0 0 ∷ node Var 8 0 0 0 ∷ node Const 0 8 0 0 ∷ node k 0 2 0 0 ∷ node Eq 3 1 0 0 ∷ []) (replicate 8 0) [] (4 ∷ []) xy [] []

-- if x < 5 then x else y is signed below 0
abbrev chosen : Problem
chosen =
    problem
    (node Var 8 0 0 0 ∷ node Var 8 0 0 0 ∷ node Const 0 8 0 0 ∷ node Const 8 8 0 0 ∷ node Ult 0 2 0 0 ∷ node Ite 4 0 1 0 ∷ node Slt 5 3 0 0 ∷ [])
    (five ++ replicate 8 0) [] (6 ∷ []) xy [] []

-- 5 = 5, 5 < 5, without a variable
abbrev fixed : Problem
fixed = problem (node Const 0 8 0 0 ∷ node Eq 0 0 0 0 ∷ node Ult 0 0 0 0 ∷ []) five [] (1 ∷ 2 ∷ []) [] [] []

-- node 0 stands twice in the table
abbrev again : Problem
again = problem (node Var 8 0 0 0 ∷ node Const 0 8 0 0 ∷ node Eq 0 1 0 0 ∷ []) five [] (2 ∷ []) (var "x" 0 8 ∷ var "z" 0 3 ∷ []) [] []

-- y, of this width, is not reached
abbrev beside : ℕ → Problem
beside w = problem (node Var 8 0 0 0 ∷ node Var w 0 0 0 ∷ node Const 0 8 0 0 ∷ node Eq 0 2 0 0 ∷ []) five [] (3 ∷ []) (var "x" 0 8 ∷ var "y" 1 w ∷ []) [] []

row_cases : List (Example TraceAnswer)
row_cases =
    replays "bit k for root k, the count beside it, and the rest as it was" two (1 ∷ 6 ∷ 255 ∷ 4 ∷ 1 ∷ 9 ∷ 9 ∷ 1 ∷ []) 5 4 (3 ∷ 1 ∷ 2 ∷ 0 ∷ 9 ∷ []) (2 ∷ 1 ∷ 1 ∷ 0 ∷ 9 ∷ [])
    ∷ replays "exact room" two (1 ∷ 6 ∷ 9 ∷ 1 ∷ []) 2 2 (3 ∷ 0 ∷ []) (2 ∷ 0 ∷ [])
    ∷ replays "variables and no values: no rows" two [] 1 0 (9 ∷ []) (9 ∷ [])
    ∷ replays "no variables: one row" fixed [] 2 1 (1 ∷ 9 ∷ []) (1 ∷ 9 ∷ [])
    ∷ replays "no variables and no roots" m1 [] 1 1 (0 ∷ []) (0 ∷ [])
    ∷ replays "the first entry of a node has its value" again (5 ∷ 1 ∷ 1 ∷ 5 ∷ []) 2 2 (1 ∷ 0 ∷ []) (1 ∷ 0 ∷ [])
    ∷ replays "a width of 64 takes every value" (beside 64) (5 ∷ (2 ^ 64 - 1) ∷ []) 1 1 (1 ∷ []) (1 ∷ [])
    ∷ replays "so does a greater one that is not reached" (beside 65) (5 ∷ (2 ^ 64 - 1) ∷ []) 1 1 (1 ∷ []) (1 ∷ [])
    ∷ replays "the largest value of 63 bits" (beside 63) (5 ∷ (2 ^ 63 - 1) ∷ []) 1 1 (1 ∷ []) (1 ∷ [])
    ∷ replays "division by zero is all ones" (by_zero Udiv) (77 ∷ 255 ∷ 77 ∷ 77 ∷ []) 2 2 (1 ∷ 0 ∷ []) (1 ∷ 0 ∷ [])
    ∷ replays "the remainder then is the dividend" (by_zero Urem) (77 ∷ 77 ∷ 77 ∷ 0 ∷ []) 2 2 (1 ∷ 0 ∷ []) (1 ∷ 0 ∷ [])
    ∷ replays "a logical shift" (says Lshr) (128 ∷ 4 ∷ 128 ∷ 252 ∷ []) 2 2 (1 ∷ 0 ∷ []) (1 ∷ 0 ∷ [])
    ∷ replays "an arithmetic shift" (says Ashr) (128 ∷ 4 ∷ 128 ∷ 252 ∷ []) 2 2 (0 ∷ 1 ∷ []) (0 ∷ 1 ∷ [])
    ∷ replays "a rotation by a constant" (says Rotl) (1 ∷ 32 ∷ 9 ∷ 33 ∷ []) 2 2 (1 ∷ 1 ∷ []) (1 ∷ 1 ∷ [])
    ∷ replays "either branch, and the signed order" chosen (4 ∷ 200 ∷ 5 ∷ 200 ∷ 6 ∷ 100 ∷ []) 3 3 (0 ∷ 1 ∷ 0 ∷ []) (0 ∷ 1 ∷ 0 ∷ [])
    ∷ []

row-cases : given row_cases ≡ wanted row_cases
unfolding
    all_meet row_cases bit vector nat2bv extract bvadd bvnot bvudiv bvurem bvlshr bvashr bvult bvslt msb concat left_once rotate_left meanings applied
    number value_of values_of environment holds mask count plain narrow_step narrow fits whole_rows values_fit row_count narrow_roots trace_refusal holding_all
    holding trace_answer replay_trace_answer
row-cases = refl

-- ---------------------------------------------------------------- refusals

-- the 8 lowest bits of a variable of 65
abbrev below : Problem
below = problem (node Var 65 0 0 0 ∷ node Extract 7 0 0 0 ∷ node Const 0 8 0 0 ∷ node Eq 1 2 0 0 ∷ []) five [] (3 ∷ []) (var "x" 0 65 ∷ []) [] []

-- the first root is narrow, and the second is not
abbrev second : Problem
second = problem (node Var 8 0 0 0 ∷ node Eq 0 0 0 0 ∷ node Var 65 0 0 0 ∷ node Eq 2 2 0 0 ∷ []) [] [] (1 ∷ 3 ∷ []) (var "x" 0 8 ∷ var "y" 2 65 ∷ []) [] []

abbrev selected : Problem
selected =
    problem (node Var 32 0 0 0 ∷ node Select 0 0 0 0 ∷ node Const 0 8 0 0 ∷ node Eq 1 2 0 0 ∷ []) five [] (3 ∷ []) (var "x" 0 32 ∷ []) ("m" ∷ []) []

abbrev called : Problem
called = problem (node Var 8 0 0 0 ∷ node Call 0 8 0 0 ∷ node Eq 0 1 0 0 ∷ []) [] [] (2 ∷ []) (var "x" 0 8 ∷ []) [] (fun "f" 8 ∷ [])

-- that root twice, so that the term is used twice, and a root that is no Bool
abbrev shared_wide : Problem
shared_wide = problem (node Var 65 0 0 0 ∷ node Eq 0 0 0 0 ∷ []) [] [] (1 ∷ 1 ∷ []) (var "x" 0 65 ∷ []) [] []

abbrev sorted_wide : Problem
sorted_wide = problem (node Var 65 0 0 0 ∷ node Eq 0 0 0 0 ∷ []) [] [] (1 ∷ 0 ∷ []) (var "x" 0 65 ∷ []) [] []

-- so many roots, and these bits
abbrev rooted : ℕ → List ℕ → Problem
rooted n bits = problem [] bits [] (replicate n 0) [] [] []

refused_cases : List (Example TraceAnswer)
refused_cases =
    refuses "10: the masks one short" two (1 ∷ 6 ∷ 9 ∷ 1 ∷ []) 1 2 10
    ∷ refuses "10: the counts one short" two (1 ∷ 6 ∷ 9 ∷ 1 ∷ []) 2 1 10
    ∷ refuses "10: no room for the one row" fixed [] 0 0 10
    ∷ refuses "15: a value is left over" two (1 ∷ 6 ∷ 9 ∷ []) 4 4 15
    ∷ refuses "15: values without a variable" fixed (0 ∷ []) 4 4 15
    ∷ refuses "15: a value too large, in the last column" two (1 ∷ 6 ∷ 9 ∷ 256 ∷ []) 4 4 15
    ∷ refuses "15: of a variable that is not reached" (beside 63) (5 ∷ (2 ^ 63) ∷ []) 4 4 15
    ∷ refuses "15: of the second entry of a node" again (5 ∷ 8 ∷ []) 4 4 15
    ∷ refuses "15 before 10" two (256 ∷ 0 ∷ []) 0 0 15
    ∷ refuses "14: a wide operand below a narrow extract" below (1 ∷ []) 4 4 14
    ∷ refuses "14: below the second root" second (1 ∷ 1 ∷ []) 4 4 14
    ∷ refuses "14: a select" selected (1 ∷ []) 4 4 14
    ∷ refuses "14: a call" called (1 ∷ []) 4 4 14
    ∷ refuses "14 without rows" below [] 4 4 14
    ∷ refuses "14 before 15" called (256 ∷ []) 4 4 14
    ∷ refuses "6 before 14" shared_wide (1 ∷ []) 4 4 6
    ∷ refuses "3 before 14" sorted_wide (1 ∷ []) 4 4 3
    ∷ refuses "1: 64 roots are taken, which are no nodes" (rooted 64 []) [] 4 4 1
    ∷ refuses "9: more than 64 roots" (rooted 65 []) [] 4 4 9
    ∷ refuses "9 at its place, before 8" (rooted 65 (2 ∷ [])) [] 4 4 9
    ∷ refuses "8 before 15" (rooted 64 (2 ∷ [])) (0 ∷ []) 4 4 8
    ∷ []

refused-cases : given refused_cases ≡ wanted refused_cases
unfolding
    all_meet refused_cases bit vector nat2bv extract bvadd bvult meanings applied number value_of values_of environment holds mask count plain narrow_step
    narrow fits whole_rows values_fit row_count narrow_roots trace_refusal holding_all holding trace_answer replay_trace_answer
refused-cases = refl
