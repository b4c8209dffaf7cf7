-- Examples of the tables: columns (1), and what is asked of declared and reached variables (4), rotations (5), arrays (1) and functions (1, 7).
use Rattle.std.specs.Prelude.{ℕ, ◌≡◌, refl, List, [], ◌∷◌, ◌++◌, map, true, false, cond, T, leb, eqb, length, replicate}
use Rattle.lists.specs.Tests.{every, T→true}
use Rattle.reading.specs.Kinds.{Var, Const, Eq, BvNot, Rotr, Rotl, Select, Call}
use Rattle.echo_spec.specs.Input.{Node, Problem, Dag, Query}
use Rattle.echo_spec.specs.Tables.{decl_func_ok}
use Rattle.echo_spec.specs.Walk.{rotation_ok, args_match, call_ok}
use Rattle.echo_spec.specs.Answers.{Answer, endless_refusal}
use Rattle.echo_spec.specs.Examples.{node, problem, decoded, query, var, fun, Named, Example, given, wanted, refuses, passes, asks, all_meet}

-- ---------------------------------------------------------------- columns

-- one entry in each table, but n in column k: the variables' columns are 0 to 3, the arrays' 4 to 7, the functions' 8 to 10
abbrev column : ℕ → ℕ → Problem
column n k =
    let at : ℕ → ℕ → List ℕ = λ j x. cond (eqb j k) (replicate n x) (x ∷ []) in
    record {
      nodes = node Call 0 8 0 0;
      bits = [];
      side = [];
      roots = [];
      names = 120 ∷ [];
      name_start = at 0 0;
      name_len = at 1 1;
      var_node = at 2 0;
      var_width = at 3 8;
      anames = 109 ∷ [];
      aname_start = at 4 0;
      aname_len = at 5 1;
      index_width = at 6 32;
      value_width = at 7 8;
      fnames = 102 ∷ [];
      fname_start = at 8 0;
      fname_len = at 9 1;
      func_width = at 10 8;
    }

abbrev columns : List ℕ
columns = 0 ∷ 1 ∷ 2 ∷ 3 ∷ 4 ∷ 5 ∷ 6 ∷ 7 ∷ 8 ∷ 9 ∷ 10 ∷ []

column_cases : List (Example Answer)
column_cases =
    map (λ k. refuses "1: a column shorter than the others" 1 (column 0 k)) columns
    ++ (map (λ k. refuses "1: a column longer than the others" 1 (column 2 k)) columns
    ++ (passes "columns of one length" (column 1 0) ∷ []))

column-cases : given column_cases ≡ wanted column_cases
unfolding all_meet column_cases
column-cases = refl

-- ---------------------------------------------------------------- declarations

-- nothing is reached
abbrev declares : List (List ℕ) → List ℕ → List Named → List Named → Problem
declares ns side vars funs = problem (node Var 32 0 0 0 ∷ ns) [] side [] vars [] funs

declared_cases : List (Example Answer)
declared_cases =
    -- 4: no width 0, reached or not
    passes "variables without nodes" (declares [] [] (var "x" 9 1 ∷ var "y" 9 18446744073709551615 ∷ []) [])
    ∷ refuses "4: width 0" 4 (declares [] [] (var "x" 9 0 ∷ var "y" 9 8 ∷ []) [])
    ∷ refuses "4: a later width 0" 4 (declares [] [] (var "x" 9 8 ∷ var "y" 9 0 ∷ []) [])
    -- 7: no width 0, and a call
    ∷ passes "a call" (declares (node Call 0 8 0 0 ∷ []) [] [] (fun "f" 8 ∷ []))
    ∷ refuses "7: width 0" 7 (declares (node Call 0 8 0 0 ∷ []) [] [] (fun "f" 0 ∷ []))
    ∷ refuses "7: no call of the first" 7 (declares (node Call 1 8 0 0 ∷ []) [] [] (fun "f" 8 ∷ fun "g" 8 ∷ []))
    ∷ refuses "7: no call of the second" 7 (declares (node Call 0 8 0 0 ∷ []) [] [] (fun "f" 8 ∷ fun "g" 8 ∷ []))
    ∷ refuses "7: a later width 0" 7 (declares (node Call 0 8 0 0 ∷ node Call 1 8 0 0 ∷ []) [] [] (fun "f" 8 ∷ fun "g" 0 ∷ []))
    ∷ refuses "7: a select is no call" 7 (declares (node Select 0 0 0 0 ∷ []) [] [] (fun "f" 8 ∷ []))
    -- 7: the first call's arguments past the side entries, which can be none
    ∷ passes "no arguments, from the end" (declares (node Call 0 8 2 0 ∷ []) (0 ∷ 0 ∷ []) [] (fun "f" 8 ∷ []))
    ∷ refuses "7: no arguments, from past the end" 7 (declares (node Call 0 8 3 0 ∷ []) (0 ∷ 0 ∷ []) [] (fun "f" 8 ∷ []))
    ∷ passes "arguments to the end" (declares (node Call 0 8 1 1 ∷ []) (0 ∷ 0 ∷ []) [] (fun "f" 8 ∷ []))
    ∷ passes "the second call, from past the end, not reached" (declares (node Call 0 8 0 0 ∷ node Call 0 8 1 0 ∷ []) [] [] (fun "f" 8 ∷ []))
    ∷ refuses "7: the second function's first call, from past the end" 7 (declares (node Call 0 8 0 0 ∷ node Call 1 8 1 0 ∷ []) [] [] (fun "f" 8 ∷ fun "g" 8 ∷ []))
    -- a call that is not reached may have another width than is declared
    ∷ passes "another width, not reached" (declares (node Call 0 16 0 0 ∷ []) [] [] (fun "f" 8 ∷ []))
    ∷ []

declared-cases : given declared_cases ≡ wanted declared_cases
unfolding all_meet declared_cases
declared-cases = refl

-- ---------------------------------------------------------------- reached terms

-- x = x for a variable of width 8 at node 1
abbrev variable : List Named → Query
variable vars = query (decoded Var 16 0 0 0 ∷ decoded Var 8 0 0 0 ∷ decoded Eq 1 1 0 0 ∷ []) [] [] (2 ∷ []) vars [] []

-- of width 1 a variable, a constant, a Bool, an operator and a variable without an entry; then a rotation
abbrev rotates : Node → Query
rotates n =
    query (decoded Var 1 0 0 0 ∷ decoded Const 0 1 0 0 ∷ decoded Eq 0 0 0 0 ∷ decoded BvNot 0 0 0 0 ∷ decoded Var 1 0 0 0 ∷ n ∷ decoded Eq 5 0 0 0 ∷ []) (1 ∷ []) [] (6 ∷ [])
    (var "x" 0 1 ∷ []) [] []

-- node 2 selects by the variable i, and is compared to the variable v
abbrev selects : Node → Query
selects n = query (decoded Var 32 0 0 0 ∷ decoded Var 8 0 0 0 ∷ n ∷ decoded Eq 2 1 0 0 ∷ []) [] [] (3 ∷ []) (var "i" 0 32 ∷ var "v" 1 8 ∷ []) ("m" ∷ "k" ∷ []) []

-- variables of widths 8, 16 and 8 as nodes and side entries 0 to 2; node 3 is a first call, and node 4, which is reached, is compared to a variable
abbrev calls : Node → Node → ℕ → List Named → Query
calls first n other funs =
    query (decoded Var 8 0 0 0 ∷ decoded Var 16 0 0 0 ∷ decoded Var 8 0 0 0 ∷ first ∷ n ∷ decoded Eq 4 other 0 0 ∷ []) [] (0 ∷ 1 ∷ 2 ∷ []) (5 ∷ [])
    (var "x" 0 8 ∷ var "y" 1 16 ∷ var "z" 2 8 ∷ []) [] funs

abbrev f8 : List Named
f8 = fun "f" 8 ∷ []

reached_cases : List (Example ℕ)
reached_cases =
    -- 4: a variable's first entry has its width
    asks "an entry" 0 (variable (var "x" 0 8 ∷ var "y" 1 8 ∷ []))
    ∷ asks "4: no entry" 4 (variable [])
    ∷ asks "4: entries of other nodes" 4 (variable (var "x" 0 8 ∷ var "y" 2 8 ∷ []))
    ∷ asks "4: wider" 4 (variable (var "x" 1 9 ∷ []))
    ∷ asks "4: less wide" 4 (variable (var "x" 1 7 ∷ []))
    ∷ asks "4: 64 bits are compared" 4 (variable (var "x" 1 4294967304 ∷ []))
    ∷ asks "4: the first entry has another width" 4 (variable (var "x" 1 7 ∷ var "y" 1 8 ∷ []))
    ∷ asks "the second entry has another width" 0 (variable (var "x" 1 8 ∷ var "y" 1 7 ∷ []))
    -- 5: the amount is a constant, which is asked before the operand
    ∷ asks "a constant" 0 (rotates (decoded Rotl 0 1 0 0))
    ∷ asks "a constant, to the right" 0 (rotates (decoded Rotr 0 1 0 0))
    ∷ asks "5: a variable" 5 (rotates (decoded Rotl 0 0 0 0))
    ∷ asks "5: a variable, to the right" 5 (rotates (decoded Rotr 0 0 0 0))
    ∷ asks "5: an operator" 5 (rotates (decoded Rotl 0 3 0 0))
    ∷ asks "5: a Bool" 5 (rotates (decoded Rotl 0 2 0 0))
    ∷ asks "5: a Bool rotated by a variable" 5 (rotates (decoded Rotl 2 0 0 0))
    ∷ asks "3: a Bool rotated by a constant" 3 (rotates (decoded Rotl 2 1 0 0))
    ∷ asks "4: what is rotated is walked" 4 (rotates (decoded Rotl 4 1 0 0))
    -- 1: an array's number is below the table's length
    ∷ asks "the first array" 0 (selects (decoded Select 0 0 0 0))
    ∷ asks "the last array" 0 (selects (decoded Select 1 0 0 0))
    ∷ asks "1: past the last array" 1 (selects (decoded Select 2 0 0 0))
    -- 1: a function's number is too
    ∷ asks "a call" 0 (calls (decoded Call 0 8 0 1) (decoded Call 0 8 0 1) 0 f8)
    ∷ asks "1: past the last function" 1 (calls (decoded Call 0 8 0 1) (decoded Call 1 8 0 1) 0 f8)
    ∷ asks "the last function" 0 (calls (decoded Call 0 8 0 1) (decoded Call 1 8 0 1) 0 (fun "f" 8 ∷ fun "g" 8 ∷ []))
    -- 7: a reached call has the declared width
    ∷ asks "7: another width than declared" 7 (calls (decoded Call 0 8 0 1) (decoded Call 0 16 0 1) 1 f8)
    ∷ asks "the declared width, another than the first call's" 0 (calls (decoded Call 0 8 0 1) (decoded Call 0 16 0 1) 1 (fun "f" 16 ∷ []))
    ∷ asks "7: 64 bits are compared" 7 (calls (decoded Call 0 8 0 1) (decoded Call 0 8 0 1) 0 (fun "f" 4294967304 ∷ []))
    -- 7: and the first call's count and widths
    ∷ asks "other arguments of one width" 0 (calls (decoded Call 0 8 0 1) (decoded Call 0 8 2 1) 0 f8)
    ∷ asks "7: an argument of another width" 7 (calls (decoded Call 0 8 0 1) (decoded Call 0 8 1 1) 0 f8)
    ∷ asks "7: a second argument of another width" 7 (calls (decoded Call 0 8 0 2) (decoded Call 0 8 0 3) 0 f8)
    ∷ asks "7: one argument less" 7 (calls (decoded Call 0 8 0 2) (decoded Call 0 8 0 1) 0 f8)
    ∷ asks "7: no argument" 7 (calls (decoded Call 0 8 0 1) (decoded Call 0 8 0 0) 0 f8)
    ∷ asks "7: one argument more" 7 (calls (decoded Call 0 8 0 0) (decoded Call 0 8 0 1) 0 f8)
    ∷ asks "no arguments, from the end" 0 (calls (decoded Call 0 8 0 0) (decoded Call 0 8 3 0) 0 f8)
    ∷ asks "7: no arguments, from past the end" 7 (calls (decoded Call 0 8 0 0) (decoded Call 0 8 4 0) 0 f8)
    -- the first call is one of the same function
    ∷ asks "a first call of another function" 0 (calls (decoded Call 1 8 1 1) (decoded Call 0 8 0 1) 0 (fun "f" 8 ∷ fun "g" 8 ∷ []))
    ∷ []

reached-cases : given reached_cases ≡ wanted reached_cases
unfolding all_meet reached_cases
reached-cases = refl

-- ---------------------------------------------------------------- how wide a rotation may be

-- a variable of this width, rotated by the constant that all the bits are
abbrev rotation : ℕ → List ℕ → Problem
rotation w bits =
    problem (node Var w 0 0 0 ∷ node Const 0 w 0 0 ∷ node Rotl 0 1 0 0 ∷ node Eq 2 0 0 0 ∷ []) bits [] (3 ∷ []) (var "x" 0 w ∷ []) [] []

-- whatever the bits are: they are not written out
rotation-65536 : (bits : List ℕ) → length bits ≡ 65536 → T (every (λ b. leb b 1) bits) → endless_refusal (rotation 65536 bits) ≡ 0
unfolding all_meet
rotation-65536 bits e h = rw (e, T→true (every (λ b. leb b 1) bits) h)

rotation-65537 : (bits : List ℕ) → length bits ≡ 65537 → T (every (λ b. leb b 1) bits) → endless_refusal (rotation 65537 bits) ≡ 5
unfolding all_meet
rotation-65537 bits e h = rw (e, T→true (every (λ b. leb b 1) bits) h)

-- ---------------------------------------------------------------- widths of 0

-- the width pass gives no node width 0; over such widths a rotation is 5, and a function whose first call has such an argument is 7
abbrev called : Dag
called = (calls (decoded Call 0 8 0 2) (decoded Var 8 0 0 0) 0 f8).dag

widths-of-0 : rotation_ok (rotates (decoded Rotl 0 1 0 0)).dag (0 ∷ 0 ∷ 1 ∷ 1 ∷ 1 ∷ 0 ∷ 1 ∷ []) 5 (decoded Rotl 0 1 0 0)
    ∷ decl_func_ok called (8 ∷ 0 ∷ 8 ∷ 8 ∷ 8 ∷ 1 ∷ []) 0
    ∷ decl_func_ok called (8 ∷ 1 ∷ 0 ∷ 8 ∷ 8 ∷ 1 ∷ []) 0
    ∷ []
    ≡ false ∷ false ∷ true ∷ []
unfolding all_meet
widths-of-0 = refl

-- ---------------------------------------------------------------- first calls

-- a first call past the side entries is refused with its declaration, and a reached call has a first call: so no answer shows these
first-calls : args_match [] [] (decoded Call 0 8 0 0) (decoded Call 0 8 0 0)
    ∷ args_match [] [] (decoded Call 0 8 1 0) (decoded Call 0 8 0 0)
    ∷ args_match [] [] (decoded Call 0 8 0 0) (decoded Call 0 8 1 0)
    ∷ call_ok (query [] [] [] [] [] [] f8).dag [] (decoded Call 0 8 0 0)
    ∷ []
    ≡ true ∷ false ∷ false ∷ false ∷ []
unfolding all_meet
first-calls = refl
