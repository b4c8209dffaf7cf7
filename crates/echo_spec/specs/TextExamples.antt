-- Examples of the script's text, and of what an acceptance and a refusal leave in the lent buffer.
use Rattle.std.specs.Prelude.{ℕ, suc, ◌≡◌, refl, List, [], ◌∷◌, ◌++◌}
use Rattle.lists.specs.Bytes.{bytes}
use Rattle.lists.specs.Build.{tabulate}
use Rattle.reading.specs.Kinds.{Var, Const, Sub, Rotr, Extract, Concat, SignExt, Ite, Eq, Ne, Ult, Ule, Slt, Sge, BoolOr, Rotl, Select, Call}
use Rattle.echo_spec.specs.Answers.{Answer, echo_ext_answer}
use Rattle.echo_spec.specs.Examples.{node, problem, var, fun, Example, given, wanted, refused, accepted, prints, m1, m2, m2_with, five, sum, all_meet}

text_cases : List (Example Answer)
text_cases =
    -- the logic: by whether there are functions, and whether there are arrays
    prints "arrays only" (problem [] [] [] [] [] ("m" ∷ "k" ∷ []) []) 141
    (accepted 141 "(set-logic QF_ABV)\n(declare-const |m| (Array (_ BitVec 32) (_ BitVec 8)))\n(declare-const |k| (Array (_ BitVec 32) (_ BitVec 8)))\n(check-sat)\n")
    ∷ prints "functions only" (problem (node Call 0 8 0 0 ∷ []) [] [] [] [] [] (fun "f" 8 ∷ [])) 67
    (accepted 67 "(set-logic QF_AUFBV)\n(declare-fun |f| () (_ BitVec 8))\n(check-sat)\n")
    ∷ prints "functions and arrays" (problem (node Call 0 8 0 0 ∷ []) [] [] [] [] ("m" ∷ []) (fun "f" 8 ∷ [])) 122
    (accepted 122 "(set-logic QF_AUFBV)\n(declare-const |m| (Array (_ BitVec 32) (_ BitVec 8)))\n(declare-fun |f| () (_ BitVec 8))\n(check-sat)\n")
    -- variables, arrays, functions, each in table order; numerals without leading zeros
    ∷ prints "numerals" (problem [] [] [] [] (var "a" 0 1 ∷ var "b" 0 9 ∷ var "c" 0 10 ∷ var "d" 0 99 ∷ var "e" 0 100 ∷ var "f" 0 1024 ∷ var "g" 0 4294967295 ∷ var "h" 0 18446744073709551615 ∷ []) [] []) 329
    (accepted 329 "(set-logic QF_BV)\n(declare-const |a| (_ BitVec 1))\n(declare-const |b| (_ BitVec 9))\n(declare-const |c| (_ BitVec 10))\n(declare-const |d| (_ BitVec 99))\n(declare-const |e| (_ BitVec 100))\n(declare-const |f| (_ BitVec 1024))\n(declare-const |g| (_ BitVec 4294967295))\n(declare-const |h| (_ BitVec 18446744073709551615))\n(check-sat)\n")
    ∷ prints "every table" (problem (node Var 2 0 0 0 ∷ node Var 3 0 0 0 ∷ node Var 5 0 0 0 ∷ node Call 1 7 0 3 ∷ node Call 0 6 1 1 ∷ []) [] (0 ∷ 1 ∷ 2 ∷ []) [] (var "y" 1 3 ∷ var "x" 0 2 ∷ []) ("m" ∷ []) (fun "f" 6 ∷ fun "g" 7 ∷ [])) 272
    (accepted 272 "(set-logic QF_AUFBV)\n(declare-const |y| (_ BitVec 3))\n(declare-const |x| (_ BitVec 2))\n(declare-const |m| (Array (_ BitVec 32) (_ BitVec 8)))\n(declare-fun |f| ((_ BitVec 3)) (_ BitVec 6))\n(declare-fun |g| ((_ BitVec 2) (_ BitVec 3) (_ BitVec 5)) (_ BitVec 7))\n(check-sat)\n")
    -- the declared width, and the argument widths of the first call in node order, whichever call is reached
    ∷ prints "a signature" (problem (node Var 4 0 0 0 ∷ node Const 0 4 0 0 ∷ node Call 0 9 0 1 ∷ node Call 0 4 1 1 ∷ node Eq 3 0 0 0 ∷ []) (0 ∷ 0 ∷ 0 ∷ 1 ∷ []) (0 ∷ 1 ∷ []) (4 ∷ []) (var "x" 0 4 ∷ []) [] (fun "f" 4 ∷ [])) 142
    (accepted 142 "(set-logic QF_AUFBV)\n(declare-const |x| (_ BitVec 4))\n(declare-fun |f| ((_ BitVec 4)) (_ BitVec 4))\n(assert (= (|f| #b1000) |x|))\n(check-sat)\n")
    -- constants: their own bits, the highest first
    ∷ prints "bits" (problem (node Const 0 4 0 0 ∷ node Const 2 4 0 0 ∷ node Eq 0 1 0 0 ∷ node Const 5 1 0 0 ∷ node Const 4 1 0 0 ∷ node Ne 3 4 0 0 ∷ []) (1 ∷ 1 ∷ 0 ∷ 1 ∷ 0 ∷ 0 ∷ 1 ∷ []) [] (2 ∷ 5 ∷ []) [] [] []) 85
    (accepted 85 "(set-logic QF_BV)\n(assert (= #b1011 #b0010))\n(assert (distinct #b0 #b0))\n(check-sat)\n")
    -- a rotation's amount modulo its width
    ∷ prints "rotate by 8" (m2_with (0 ∷ 0 ∷ 0 ∷ 1 ∷ 0 ∷ 0 ∷ 0 ∷ 0 ∷ []) (node Rotl 0 1 0 0) (node Eq 2 0 0 0) 3 "x") 104
    (accepted 104 "(set-logic QF_BV)\n(declare-const |x| (_ BitVec 8))\n(assert (= ((_ rotate_left 0) |x|) |x|))\n(check-sat)\n")
    ∷ prints "rotate by 127" (m2_with (1 ∷ 1 ∷ 1 ∷ 1 ∷ 1 ∷ 1 ∷ 1 ∷ 0 ∷ []) (node Rotl 0 1 0 0) (node Eq 2 0 0 0) 3 "x") 104
    (accepted 104 "(set-logic QF_BV)\n(declare-const |x| (_ BitVec 8))\n(assert (= ((_ rotate_left 7) |x|) |x|))\n(check-sat)\n")
    ∷ prints "rotate by 7" (m2_with (1 ∷ 1 ∷ 1 ∷ 0 ∷ 0 ∷ 0 ∷ 0 ∷ 0 ∷ []) (node Rotl 0 1 0 0) (node Eq 2 0 0 0) 3 "x") 104
    (accepted 104 "(set-logic QF_BV)\n(declare-const |x| (_ BitVec 8))\n(assert (= ((_ rotate_left 7) |x|) |x|))\n(check-sat)\n")
    ∷ prints "another width than a power of two" (problem (node Var 3 0 0 0 ∷ node Const 0 3 0 0 ∷ node Rotr 0 1 0 0 ∷ node Eq 2 0 0 0 ∷ []) (1 ∷ 0 ∷ 1 ∷ []) [] (3 ∷ []) (var "x" 0 3 ∷ []) [] []) 105
    (accepted 105 "(set-logic QF_BV)\n(declare-const |x| (_ BitVec 3))\n(assert (= ((_ rotate_right 2) |x|) |x|))\n(check-sat)\n")
    -- a variable is its first entry; names are printed as they are
    ∷ prints "first entry" (problem (node Var 8 0 0 0 ∷ node Var 8 0 0 0 ∷ node Ult 0 1 0 0 ∷ []) [] [] (2 ∷ []) (var "a;b c" 1 8 ∷ var "{x}" 0 8 ∷ var "y" 0 8 ∷ var "z" 1 9 ∷ []) [] []) 199
    (accepted 199 "(set-logic QF_BV)\n(declare-const |a;b c| (_ BitVec 8))\n(declare-const |{x}| (_ BitVec 8))\n(declare-const |y| (_ BitVec 8))\n(declare-const |z| (_ BitVec 9))\n(assert (bvult |{x}| |a;b c|))\n(check-sat)\n")
    -- arrays and functions by their numbers; calls with and without arguments
    ∷ prints "numbers of arrays and functions" (problem (node Var 32 0 0 0 ∷ node Var 8 0 0 0 ∷ node Select 1 0 0 0 ∷ node Call 0 8 0 0 ∷ node Call 1 8 1 2 ∷ node Eq 4 1 0 0 ∷ node Select 0 0 3 1 ∷ node Slt 6 1 0 0 ∷ []) [] (9 ∷ 2 ∷ 3 ∷ 0 ∷ 1 ∷ []) (7 ∷ 5 ∷ []) (var "i" 0 32 ∷ var "v" 1 8 ∷ []) ("m" ∷ "k" ∷ []) (fun "f" 8 ∷ fun "g" 8 ∷ [])) 401
    (accepted 401 "(set-logic QF_AUFBV)\n(declare-const |i| (_ BitVec 32))\n(declare-const |v| (_ BitVec 8))\n(declare-const |m| (Array (_ BitVec 32) (_ BitVec 8)))\n(declare-const |k| (Array (_ BitVec 32) (_ BitVec 8)))\n(declare-fun |f| () (_ BitVec 8))\n(declare-fun |g| ((_ BitVec 8) (_ BitVec 8)) (_ BitVec 8))\n(assert (bvslt (select (store |m| |i| |v|) |i|) |v|))\n(assert (= (|g| (select |k| |i|) |f|) |v|))\n(check-sat)\n")
    -- operands in order, and parameters
    ∷ prints "operands" (problem (node Var 4 0 0 0 ∷ node Var 4 0 0 0 ∷ node Sub 1 0 0 0 ∷ node Concat 0 2 0 0 ∷ node Extract 6 3 3 0 ∷ node Ule 0 1 0 0 ∷ node Ite 5 1 4 0 ∷ node SignExt 6 0 0 0 ∷ node Sge 1 7 0 0 ∷ node Eq 0 1 0 0 ∷ node BoolOr 9 8 0 0 ∷ []) [] [] (10 ∷ []) (var "x" 0 4 ∷ var "y" 1 4 ∷ []) [] []) 227
    (accepted 227 "(set-logic QF_BV)\n(declare-const |x| (_ BitVec 4))\n(declare-const |y| (_ BitVec 4))\n(assert (or (= |x| |y|) (bvsge |y| ((_ sign_extend 0) (ite (bvule |x| |y|) |y| ((_ extract 6 3) (concat |x| (bvsub |y| |x|))))))))\n(check-sat)\n")
    -- what is not reached is not printed, though it would be refused
    ∷ prints "not reached" (problem (node Var 8 0 0 0 ∷ node Rotl 0 0 0 0 ∷ node Eq 1 0 0 0 ∷ node Var 32 0 0 0 ∷ node Select 5 3 0 0 ∷ node Call 5 8 9 0 ∷ []) [] [] [] [] [] []) 30
    (accepted 30 "(set-logic QF_BV)\n(check-sat)\n")
    ∷ []

text-cases : given text_cases ≡ wanted text_cases
unfolding all_meet text_cases
text-cases = refl

-- ---------------------------------------------------------------- the lent buffer

-- buffers whose bytes differ: 1, 2, 3 ..
abbrev counting : ℕ → List ℕ
counting n = tabulate n (λ i. suc i)

buffer_cases : List (Example Answer)
buffer_cases =
    -- what lies past the script stays in its place
    record {
      label = "past the script";
      given = echo_ext_answer m1 (counting 33);
      wanted = record { number = 0; count = 30; output = bytes "(set-logic QF_BV)\n(check-sat)\n" ++ (31 ∷ 32 ∷ 33 ∷ []) };
    }
    -- room met exactly, and one byte short
    ∷ prints "room met" m1 30 (accepted 30 "(set-logic QF_BV)\n(check-sat)\n")
    ∷ prints "10: one byte short" m1 29 (refused 10)
    ∷ prints "10: no room" m1 0 (refused 10)
    -- a refusal zeroes all of the buffer
    ∷ record { label = "zeros"; given = echo_ext_answer (m2_with five sum (node Eq 2 0 0 0) 0 "x") (counting 5); wanted = refused 3 5 }
    ∷ record { label = "zeros with 10"; given = echo_ext_answer m2 (counting 102); wanted = refused 10 102 }
    ∷ []

buffer-cases : given buffer_cases ≡ wanted buffer_cases
unfolding all_meet buffer_cases
buffer-cases = refl
