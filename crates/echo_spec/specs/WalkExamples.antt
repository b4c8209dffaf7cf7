-- Examples of the walk: sorts (3), the order in which terms are met, and the order of all the checks.
use Rattle.std.specs.Prelude.{ℕ, ◌≡◌, refl, List, [], ◌∷◌, ◌++◌, map}
use Rattle.reading.specs.Kinds.{
  Var,
  Const,
  Add,
  Sub,
  Mul,
  Udiv,
  Urem,
  And,
  Or,
  Xor,
  Shl,
  Lshr,
  Ashr,
  Rotr,
  Extract,
  Concat,
  ZeroExt,
  SignExt,
  Ite,
  Eq,
  Ne,
  Ult,
  Ule,
  Ugt,
  Uge,
  Slt,
  Sle,
  Sgt,
  Sge,
  Not,
  BoolAnd,
  BoolOr,
  BvNot,
  Neg,
  Rotl,
  Sdiv,
  Srem,
  Select,
  Call,
}
use Rattle.echo_spec.specs.Input.{Node, Problem, Query}
use Rattle.echo_spec.specs.Answers.{Answer}
use Rattle.echo_spec.specs.Examples.{node, problem, decoded, query, var, fun, Named, Example, given, wanted, refuses, passes, asks, sum, all_meet}

-- ---------------------------------------------------------------- the sort of each kind

-- after a variable of width 1 or 32, a node as the root, and no tables: 3 for a bit-vector, and for a Bool what is wrong below it
abbrev root_sort : ℕ → ℕ → Node → Example ℕ
root_sort n w one = asks "sort of a root" n (query (decoded Var w 0 0 0 ∷ one ∷ []) (0 ∷ []) [] (1 ∷ []) [] [] [])

-- the same over a Bool
abbrev over_bool : ℕ → Node → Example ℕ
over_bool n two = asks "sort of a root" n (query (decoded Var 1 0 0 0 ∷ decoded Eq 0 0 0 0 ∷ two ∷ []) [] [] (2 ∷ []) [] [] [])

abbrev vectors : List ℕ
vectors = Add ∷ Sub ∷ Mul ∷ Udiv ∷ Urem ∷ And ∷ Or ∷ Xor ∷ Shl ∷ Lshr ∷ Ashr ∷ Rotr ∷ Concat ∷ Rotl ∷ Sdiv ∷ Srem ∷ []

abbrev comparisons : List ℕ
comparisons = Eq ∷ Ne ∷ Ult ∷ Ule ∷ Ugt ∷ Uge ∷ Slt ∷ Sle ∷ Sgt ∷ Sge ∷ []

sort_cases : List (Example ℕ)
sort_cases =
    map (λ k. root_sort 3 1 (decoded k 0 0 0 0)) vectors
    ++ (map (λ k. root_sort 4 1 (decoded k 0 0 0 0)) comparisons
    ++ (root_sort 3 1 (decoded Var 8 0 0 0)
    ∷ root_sort 3 1 (decoded Const 0 1 0 0)
    ∷ root_sort 3 1 (decoded Extract 0 0 0 0)
    ∷ root_sort 3 1 (decoded ZeroExt 0 1 0 0)
    ∷ root_sort 3 1 (decoded SignExt 0 1 0 0)
    ∷ over_bool 3 (decoded Ite 1 0 0 0)
    ∷ over_bool 4 (decoded Not 1 0 0 0)
    ∷ over_bool 4 (decoded BoolAnd 1 0 0 0)
    ∷ over_bool 4 (decoded BoolOr 1 0 0 0)
    ∷ root_sort 3 1 (decoded BvNot 0 0 0 0)
    ∷ root_sort 3 1 (decoded Neg 0 0 0 0)
    ∷ root_sort 3 32 (decoded Select 0 0 0 0)
    ∷ root_sort 3 1 (decoded Call 0 8 0 0)
    ∷ []))

sort-cases : given sort_cases ≡ wanted sort_cases
unfolding all_meet sort_cases
sort-cases = refl

-- ---------------------------------------------------------------- operands

-- Nodes of width 1: the variable x, a variable without an entry (4), two Bools that are good, and a Bool that is 4; then node 5. Where a
-- bit-vector is needed a Bool is 3, and the reverse. (Operands that pass are in the examples that are accepted.)
abbrev over5 : List Node → List ℕ → ℕ → List Named → Query
over5 ns side root funs =
    query (decoded Var 1 0 0 0 ∷ decoded Var 1 0 0 0 ∷ decoded Eq 0 0 0 0 ∷ decoded Eq 0 0 0 0 ∷ decoded Eq 0 1 0 0 ∷ ns) [] side (root ∷ []) (var "x" 0 1 ∷ []) []
    funs

abbrev formula : ℕ → Node → Example ℕ
formula n five = asks "operands of a Bool" n (over5 (five ∷ []) [] 5 [])

abbrev vector : ℕ → Node → Example ℕ
vector n five = asks "operands of a bit-vector" n (over5 (five ∷ decoded Eq 5 0 0 0 ∷ []) [] 6 [])

abbrev concatenation : ℕ → Node → Example ℕ
concatenation n five = asks "operands of a concatenation" n (over5 (five ∷ decoded Extract 0 0 5 0 ∷ decoded Eq 6 0 0 0 ∷ []) [] 7 [])

abbrev arguments : ℕ → List ℕ → Example ℕ
arguments n side = asks "arguments" n (over5 (decoded Call 0 1 0 2 ∷ decoded Eq 5 0 0 0 ∷ []) side 6 (fun "f" 1 ∷ []))

operand_case_list : List (Example ℕ)
operand_case_list =
    -- two bit-vectors, the first first
    vector 3 (decoded Add 2 0 0 0)
    ∷ vector 3 (decoded Add 0 2 0 0)
    ∷ vector 4 (decoded Add 1 2 0 0)
    ∷ vector 3 (decoded Add 2 1 0 0)
    ∷ concatenation 3 (decoded Concat 2 0 0 0)
    ∷ concatenation 3 (decoded Concat 0 2 0 0)
    ∷ concatenation 4 (decoded Concat 1 2 0 0)
    ∷ concatenation 3 (decoded Concat 2 1 0 0)
    ∷ formula 3 (decoded Ule 2 0 0 0)
    ∷ formula 3 (decoded Ule 0 2 0 0)
    ∷ formula 4 (decoded Ule 1 2 0 0)
    ∷ formula 3 (decoded Ule 2 1 0 0)
    -- one bit-vector
    ∷ vector 3 (decoded Extract 0 0 2 0)
    ∷ vector 4 (decoded Extract 0 0 1 0)
    ∷ vector 3 (decoded ZeroExt 2 0 0 0)
    ∷ vector 4 (decoded ZeroExt 1 0 0 0)
    ∷ vector 3 (decoded BvNot 2 0 0 0)
    ∷ vector 4 (decoded BvNot 1 0 0 0)
    -- a Bool, then two bit-vectors
    ∷ vector 3 (decoded Ite 0 0 0 0)
    ∷ vector 3 (decoded Ite 2 3 0 0)
    ∷ vector 3 (decoded Ite 2 0 3 0)
    ∷ vector 3 (decoded Ite 0 1 0 0)
    ∷ vector 4 (decoded Ite 4 2 0 0)
    ∷ vector 4 (decoded Ite 2 1 3 0)
    ∷ vector 3 (decoded Ite 2 3 1 0)
    -- one Bool, and two
    ∷ formula 3 (decoded Not 0 0 0 0)
    ∷ formula 4 (decoded Not 4 0 0 0)
    ∷ formula 3 (decoded BoolAnd 0 2 0 0)
    ∷ formula 3 (decoded BoolAnd 2 0 0 0)
    ∷ formula 3 (decoded BoolAnd 0 4 0 0)
    ∷ formula 4 (decoded BoolAnd 4 0 0 0)
    -- arguments in their order
    ∷ arguments 0 (0 ∷ 0 ∷ [])
    ∷ arguments 3 (2 ∷ 0 ∷ [])
    ∷ arguments 3 (0 ∷ 2 ∷ [])
    ∷ arguments 4 (1 ∷ 2 ∷ [])
    ∷ arguments 3 (2 ∷ 1 ∷ [])
    ∷ []

operand_cases : given operand_case_list ≡ wanted operand_case_list
unfolding all_meet operand_case_list
operand_cases = refl

-- ---------------------------------------------------------------- the order at one term

-- the variables i and v, and variables u and w without entries, of widths 32, 8, 32 and 8; node 4 is compared to v
abbrev over4 : List ℕ → List Named → Problem
over4 four funs =
    problem (node Var 32 0 0 0 ∷ node Var 8 0 0 0 ∷ node Var 32 0 0 0 ∷ node Var 8 0 0 0 ∷ four ∷ node Eq 4 1 0 0 ∷ []) [] (2 ∷ 3 ∷ 1 ∷ []) (5 ∷ [])
    (var "i" 0 32 ∷ var "v" 1 8 ∷ []) ("m" ∷ []) funs

-- one node as the root
abbrev rooted : List ℕ → Problem
rooted four = problem (node Var 32 0 0 0 ∷ node Var 32 0 0 0 ∷ node Var 32 0 0 0 ∷ node Var 32 0 0 0 ∷ four ∷ []) [] (0 ∷ []) (4 ∷ []) [] [] []

term_cases : List (Example Answer)
term_cases =
    -- the sort before what the tables ask
    refuses "3 before 4" 3 (rooted (node Var 8 0 0 0))
    ∷ refuses "3 before 5" 3 (rooted (node Rotl 0 1 0 0))
    ∷ refuses "3 before 1, array" 3 (rooted (node Select 0 0 0 0))
    ∷ refuses "3 before 1, function" 3 (rooted (node Call 0 8 0 1))
    -- what the tables ask before the operands
    ∷ refuses "4: the index of a select" 4 (over4 (node Select 0 2 0 0) [])
    ∷ refuses "1 before the index" 1 (over4 (node Select 1 2 0 0) [])
    ∷ refuses "1 before the stores" 1 (over4 (node Select 1 0 0 1) [])
    ∷ refuses "4: a store's index" 4 (over4 (node Select 0 0 0 1) [])
    ∷ refuses "5 before the operand" 5 (over4 (node Rotr 3 1 0 0) [])
    ∷ refuses "4: an argument" 4 (over4 (node Call 0 8 1 1) (fun "f" 8 ∷ []))
    ∷ refuses "1 before the arguments" 1 (over4 (node Call 0 8 1 1) [])
    ∷ refuses "7 before the arguments" 7 (over4 (node Call 0 8 1 1) (fun "f" 16 ∷ []))
    ∷ []

term-cases : given term_cases ≡ wanted term_cases
unfolding all_meet term_cases
term-cases = refl

-- the variables i and v, a variable without an entry and a rotation by a variable, as the index and the value of a store
abbrev stores : Node → Node → Query
stores index value =
    query (decoded Var 32 0 0 0 ∷ decoded Var 8 0 0 0 ∷ index ∷ value ∷ decoded Select 0 0 0 1 ∷ decoded Eq 4 1 0 0 ∷ []) [] (2 ∷ 3 ∷ []) (5 ∷ [])
    (var "i" 0 32 ∷ var "v" 1 8 ∷ []) ("m" ∷ []) []

store_cases : List (Example ℕ)
store_cases =
    asks "4: the index before the value" 4 (stores (decoded Var 32 0 0 0) (decoded Rotl 1 1 0 0))
    ∷ asks "5: the index before the value" 5 (stores (decoded Rotl 0 0 0 0) (decoded Var 8 0 0 0))
    ∷ []

store-cases : given store_cases ≡ wanted store_cases
unfolding all_meet store_cases
store-cases = refl

-- ---------------------------------------------------------------- the order of the checks

-- the variable x and a variable without an entry; node 2 is good, and node 3 is 4
abbrev rooted4 : List ℕ → Problem
rooted4 roots = problem (node Var 8 0 0 0 ∷ node Var 8 0 0 0 ∷ node Eq 0 0 0 0 ∷ node Eq 0 1 0 0 ∷ []) [] [] roots (var "x" 0 8 ∷ []) [] []

-- each problem has what is refused with a number, and what is refused with the next in order
order_cases : List (Example Answer)
order_cases =
    -- the roots, the first refusal deciding
    passes "a root" (rooted4 (2 ∷ []))
    ∷ refuses "the first root" 4 (rooted4 (3 ∷ 0 ∷ 4 ∷ []))
    ∷ refuses "the second root" 3 (rooted4 (2 ∷ 0 ∷ 3 ∷ 4 ∷ []))
    ∷ refuses "the third root" 1 (rooted4 (2 ∷ 4 ∷ 0 ∷ 3 ∷ []))
    ∷ refuses "1: just past the nodes" 1 (rooted4 (4 ∷ []))
    -- 8, 1 from columns, 12, 1 from widths, 2, 6, 4, 7, the walk (12 is in `ArrayExamples`)
    ∷ refuses "8 before widths" 8 (problem (node Var 0 0 0 0 ∷ []) (2 ∷ []) [] [] [] [] [])
    ∷ refuses "widths before 2" 1 (problem (node Var 0 0 0 0 ∷ []) [] [] [] (var "let" 0 8 ∷ []) [] [])
    ∷ refuses "columns before 2" 1
    (record {
      nodes = [];
      bits = [];
      side = [];
      roots = [];
      names = 64 ∷ [];
      name_start = 0 ∷ [];
      name_len = 1 ∷ [];
      var_node = 0 ∷ [];
      var_width = [];
      anames = [];
      aname_start = [];
      aname_len = [];
      index_width = [];
      value_width = [];
      fnames = [];
      fname_start = [];
      fname_len = [];
      func_width = [];
    })
    ∷ refuses "2 before 6" 2 (problem (node Var 8 0 0 0 ∷ node Neg 0 0 0 0 ∷ node Eq 1 1 0 0 ∷ []) [] [] [] [] ("@" ∷ []) [])
    ∷ refuses "6 before 4" 6 (problem (node Var 8 0 0 0 ∷ node Neg 0 0 0 0 ∷ node Eq 1 1 0 0 ∷ []) [] [] [] (var "x" 0 0 ∷ []) [] [])
    ∷ refuses "4 before 7" 4 (problem [] [] [] [] (var "x" 0 0 ∷ []) [] (fun "f" 0 ∷ []))
    ∷ refuses "7 before the walk" 7 (problem (node Var 8 0 0 0 ∷ []) [] [] (0 ∷ 1 ∷ []) [] [] (fun "f" 8 ∷ []))
    ∷ refuses "the walk before 10" 3 (problem (node Var 8 0 0 0 ∷ []) [] [] (0 ∷ []) [] [] [])
    -- document 01's own
    ∷ refuses "root 4 and the name @x" 2 (problem (node Var 8 0 0 0 ∷ node Var 8 0 0 0 ∷ sum ∷ node Eq 2 0 0 0 ∷ []) [] [] (4 ∷ []) (var "@x" 0 8 ∷ []) [] [])
    ∷ []

order-cases : given order_cases ≡ wanted order_cases
unfolding all_meet order_cases
order-cases = refl
