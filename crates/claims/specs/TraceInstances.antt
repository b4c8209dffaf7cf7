-- The claims on `replay_trace` at a trace: each speaks of something. A board logs base, size and limit, of 16 bits each; the rules are
-- base + size <= limit, size != 0 and base & 15 = 0.
use Rattle.std.specs.Prelude.{ℕ, ◌≤◌, ◌<◌, ◌≡◌, refl, List, [], ◌∷◌, ◌++◌, false, T, get_or, replicate, Ok, Err}
use Rattle.std.proofs.Common.{arith}
use Rattle.lists.specs.Tests.{every}
use Rattle.reading.specs.Kinds.{Var, Const, Add, And, Eq, Ne, Ule}
use Rattle.smtlib.specs.Readings.{Reads}
use Rattle.smtlib.specs.Sorts.{WellSorted}
use Rattle.echo_spec.specs.Input.{Problem}
use Rattle.echo_spec.specs.Answers.{reading, zeroed}
use Rattle.echo_spec.specs.Examples.{node, problem, var, lent, all_meet}
use Rattle.vectors.specs.Vectors.{bit, vector, nat2bv, bvadd, bvand, bvult, bvule}
use Rattle.vectors.specs.Values.{meanings, applied, number, value_of, values_of, environment, holds, mask, count}
use Rattle.traces.specs.Trace.{
  plain,
  narrow_step,
  narrow,
  fits,
  whole_rows,
  values_fit,
  row_count,
  row_of,
  rows_of,
  narrow_roots,
  trace_refusal,
  holding_all,
  holding,
  trace_answer,
  replay_trace_answer,
}
use Rattle.replay_trace.specs.declared.TraceError.TheVariants.{Values}
use Rattle.theorems.specs.Scripts.{script_of}
use Rattle.theorems.specs.Answered.{printed}
use Rattle.claims.specs.Claims.{Accepts, one-reading}
use Rattle.claims.specs.TraceClaims.{
  Replays,
  trace-accepts-exactly,
  trace-refusal-zeroes,
  replayed-sorted,
  trace-bit,
  trace-count,
  trace-model,
  count-model,
  TraceContract,
}

-- 0 and 15 are the constants
board : Problem
board =
    problem
    (node Var 16 0 0 0 ∷ node Var 16 0 0 0 ∷ node Var 16 0 0 0 ∷ node Const 0 16 0 0 ∷ node Const 16 16 0 0 ∷ node Add 0 1 0 0 ∷ node Ule 5 2 0 0
    ∷ node Ne 1 3 0 0 ∷ node And 0 4 0 0 ∷ node Eq 8 3 0 0 ∷ [])
    (replicate 16 0 ++ (replicate 4 1 ++ replicate 12 0)) [] (6 ∷ 7 ∷ 9 ∷ []) (var "base" 0 16 ∷ var "size" 1 16 ∷ var "limit" 2 16 ∷ []) [] []

log : List ℕ
log = 4096 ∷ 512 ∷ 8192 ∷ 4096 ∷ 0 ∷ 8192 ∷ 65520 ∷ 32 ∷ 16 ∷ 4104 ∷ 8192 ∷ 8192 ∷ []

nines : List ℕ
nines = replicate 5 9

-- (whoever unfolds this unfolds the definitions named under it)
unfoldable computed : Type 0
unfolding
    all_meet board log nines bit vector nat2bv bvadd bvand bvult bvule meanings applied number value_of values_of environment holds mask count plain narrow_step narrow
    fits whole_rows values_fit row_count narrow_roots trace_refusal holding_all holding trace_answer replay_trace_answer
computed = Unit {0}

-- all hold; size is 0; the sum wraps, and all hold; the first and the third are broken
called : TraceContract (Ok 4) board log nines nines (7 ∷ 5 ∷ 7 ∷ 2 ∷ 9 ∷ []) (3 ∷ 2 ∷ 3 ∷ 1 ∷ 9 ∷ [])
unfolding computed
called = refl

-- 65,536 in the last column
refused-call : TraceContract (Err Values) board (1 ∷ 2 ∷ 65536 ∷ []) nines nines (replicate 5 0) (replicate 5 0)
unfolding computed
refused-call = refl

accepted : Replays board log nines nines
unfolding computed
accepted = refl

prints : Accepts board (lent 400)
unfolding computed
prints = refl

read : Reads (printed board) (reading board)
read = (one-reading board (lent 400) prints (reading board)).1 refl

-- every check passes, and the four rows have room
four-rows : rows_of board log ≤ 5
unfolding computed
four-rows = ((trace-accepts-exactly board log nines nines).0 accepted).4

sorted : WellSorted (script_of (reading board))
sorted = replayed-sorted board log nines nines accepted

-- the second assertion is false on row 1, and the third true
second-broken : T (get_or (holding (reading board) (row_of 3 log 1)) 1 false) → ⊥
unfolding computed
second-broken t = absurd t

second-bit : bit (get_or (replay_trace_answer board log nines nines).masks 1 0) 1 ≡ 1 → ⊥
unfolding computed
second-bit e = second-broken ((trace-bit board log nines nines accepted (reading board) read 1 (omega arith) 1).0 e)

third-holds : T (get_or (holding (reading board) (row_of 3 log 1)) 2 false)
unfolding computed
third-holds = (trace-bit board log nines nines accepted (reading board) read 1 (omega arith) 2).0 refl

two-hold : get_or (replay_trace_answer board log nines nines).counts 1 0 ≡ 2
unfolding computed
two-hold = trace-count board log nines nines accepted (reading board) read 1 (omega arith)

-- row 2 is a model of the script, and row 3 is none
row-2-models : T (every (λ b. b) (holding (reading board) (row_of 3 log 2)))
unfolding computed
row-2-models = (count-model board log nines nines accepted (reading board) read 2 (omega arith)).0 refl

row-2-bits : (k : ℕ) → k < 3 → bit (get_or (replay_trace_answer board log nines nines).masks 2 0) k ≡ 1
unfolding computed
row-2-bits = (trace-model board log nines nines accepted (reading board) read 2 (omega arith)).1 row-2-models

row-3-no-model : T (every (λ b. b) (holding (reading board) (row_of 3 log 3))) → ⊥
unfolding computed
row-3-no-model t = absurd t

-- a refusal leaves nothing
nothing_left : replay_trace_answer board (1 ∷ []) nines nines ≡ record { number = 15; rows = 0; masks = zeroed nines; counts = zeroed nines }
unfolding computed
nothing_left = trace-refusal-zeroes board (1 ∷ []) nines nines 14 refl
