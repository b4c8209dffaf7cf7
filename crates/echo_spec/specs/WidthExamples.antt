-- Examples of the width pass: for each kind what is well formed and how wide it is, and the pass's own answers.
use Rattle.std.specs.Prelude.{ℕ, ◌≡◌, refl, List, [], ◌∷◌, ◌++◌, map, true, false, drop, replicate}
use Rattle.lists.specs.Build.{tabulate}
use Rattle.reading.specs.Kinds.{
  Var,
  Const,
  Add,
  Sub,
  Mul,
  Udiv,
  Urem,
  And,
  Or,
  Xor,
  Shl,
  Lshr,
  Ashr,
  Rotr,
  Extract,
  Concat,
  ZeroExt,
  SignExt,
  Ite,
  Eq,
  Ne,
  Ult,
  Ule,
  Ugt,
  Uge,
  Slt,
  Sle,
  Sgt,
  Sge,
  Not,
  BoolAnd,
  BoolOr,
  BvNot,
  Neg,
  Rotl,
  Sdiv,
  Srem,
  Select,
  Call,
}
use Rattle.echo_spec.specs.Input.{array_columns, Node, Query, encodable}
use Rattle.echo_spec.specs.Widths.{node_wf, ext_wf_of}
use Rattle.echo_spec.specs.Answers.{Answer, ext_wf_answer}
use Rattle.echo_spec.specs.Examples.{no_arrays, node, joined, problem, decoded, query_with, var, fun, Example, given, wanted, lent, refused, refuses, widens, all_meet}

-- ---------------------------------------------------------------- one node after six others

-- nodes 0 to 5, of widths 8, 8, 32, 1, 1 and 16; only node 4 is a Bool, which the width pass does not ask
abbrev before : List Node
before = decoded Var 8 0 0 0 ∷ decoded Var 8 0 0 0 ∷ decoded Var 32 0 0 0 ∷ decoded Var 1 0 0 0 ∷ decoded Eq 0 1 0 0 ∷ decoded Var 16 0 0 0 ∷ []

-- pairs: two that are an index and a value, a value that is too wide, a value and an index that are not lower than node 6, and a last one that is good
abbrev six_pairs : List ℕ
six_pairs = 2 ∷ 0 ∷ 2 ∷ 1 ∷ 2 ∷ 2 ∷ 2 ∷ 6 ∷ 6 ∷ 0 ∷ 2 ∷ 1 ∷ []

-- the widths from node 6 on, with four bits and these side entries: none if it is not well formed
abbrev sixth : List ℕ → Node → List ℕ → Example (List ℕ)
sixth side n ws = record { label = "node 6"; given = drop 6 (ext_wf_of 4 no_arrays side (before ++ (n ∷ []))); wanted = ws }

abbrev gets : Node → ℕ → Example (List ℕ)
gets n w = sixth six_pairs n (w ∷ [])

abbrev not_wf : Node → Example (List ℕ)
not_wf n = sixth six_pairs n []

-- kinds of two operands of one width, and how wide each is over operands of 8 bits
abbrev two_operands : List ℕ
two_operands = Add ∷ Sub ∷ Mul ∷ Udiv ∷ Urem ∷ And ∷ Or ∷ Xor ∷ Shl ∷ Lshr ∷ Ashr ∷ Rotr ∷ Rotl ∷ Sdiv ∷ Srem ∷ []

abbrev comparisons : List ℕ
comparisons = Eq ∷ Ne ∷ Ult ∷ Ule ∷ Ugt ∷ Uge ∷ Slt ∷ Sle ∷ Sgt ∷ Sge ∷ []

-- the operands differ in width, or one is not lower
abbrev not_wfs : List ℕ → List (Example (List ℕ))
not_wfs kinds =
    map (λ k. not_wf (decoded k 0 5 0 0)) kinds ++ (map (λ k. not_wf (decoded k 6 0 0 0)) kinds ++ map (λ k. not_wf (decoded k 0 6 0 0)) kinds)

kind_cases : List (Example (List ℕ))
kind_cases =
    map (λ k. gets (decoded k 0 1 0 0) 8) two_operands
    ++ (map (λ k. gets (decoded k 0 1 0 0) 1) comparisons
    ++ (not_wfs two_operands
    ++ (not_wfs comparisons
    -- a variable is as wide as it says, and has a width
    ++ (gets (decoded Var 7 0 0 0) 7
    ∷ gets (decoded Var 4294967295 0 0 0) 4294967295
    ∷ not_wf (decoded Var 0 0 0 0)
    -- a constant is as wide as it says, has a width, and ends with the bits or before
    ∷ gets (decoded Const 0 4 0 0) 4
    ∷ gets (decoded Const 1 3 0 0) 3
    ∷ gets (decoded Const 3 1 0 0) 1
    ∷ not_wf (decoded Const 0 5 0 0)
    ∷ not_wf (decoded Const 1 4 0 0)
    ∷ not_wf (decoded Const 4 1 0 0)
    ∷ not_wf (decoded Const 0 0 0 0)
    ∷ not_wf (decoded Const 4 0 0 0)
    -- bits from the second operand to the first, both below the width
    ∷ gets (decoded Extract 7 0 0 0) 8
    ∷ gets (decoded Extract 5 2 1 0) 4
    ∷ gets (decoded Extract 3 3 0 0) 1
    ∷ gets (decoded Extract 8 0 5 0) 9
    ∷ not_wf (decoded Extract 8 0 0 0)
    ∷ not_wf (decoded Extract 8 8 0 0)
    ∷ not_wf (decoded Extract 2 3 0 0)
    ∷ not_wf (decoded Extract 0 0 6 0)
    -- sums of widths
    ∷ gets (decoded Concat 0 5 0 0) 24
    ∷ gets (decoded Concat 2 0 0 0) 40
    ∷ not_wf (decoded Concat 6 0 0 0)
    ∷ not_wf (decoded Concat 0 6 0 0)
    ∷ gets (decoded ZeroExt 0 3 0 0) 11
    ∷ gets (decoded ZeroExt 5 0 0 0) 16
    ∷ gets (decoded ZeroExt 0 4294967295 0 0) 4294967303
    ∷ not_wf (decoded ZeroExt 6 1 0 0)
    ∷ gets (decoded SignExt 0 3 0 0) 11
    ∷ gets (decoded SignExt 5 0 0 0) 16
    ∷ not_wf (decoded SignExt 6 1 0 0)
    -- a condition of width 1, and two branches of one width
    ∷ gets (decoded Ite 4 0 1 0) 8
    ∷ gets (decoded Ite 3 5 5 0) 16
    ∷ not_wf (decoded Ite 0 0 1 0)
    ∷ not_wf (decoded Ite 4 0 5 0)
    ∷ not_wf (decoded Ite 6 0 1 0)
    ∷ not_wf (decoded Ite 4 6 1 0)
    ∷ not_wf (decoded Ite 4 0 6 0)
    -- operands of width 1
    ∷ gets (decoded Not 4 0 0 0) 1
    ∷ gets (decoded Not 3 0 0 0) 1
    ∷ not_wf (decoded Not 0 0 0 0)
    ∷ not_wf (decoded Not 6 0 0 0)
    ∷ gets (decoded BoolAnd 4 3 0 0) 1
    ∷ not_wf (decoded BoolAnd 0 4 0 0)
    ∷ not_wf (decoded BoolAnd 4 0 0 0)
    ∷ not_wf (decoded BoolAnd 0 1 0 0)
    ∷ not_wf (decoded BoolAnd 6 4 0 0)
    ∷ not_wf (decoded BoolAnd 4 6 0 0)
    ∷ gets (decoded BoolOr 4 3 0 0) 1
    ∷ not_wf (decoded BoolOr 0 4 0 0)
    ∷ not_wf (decoded BoolOr 4 0 0 0)
    ∷ not_wf (decoded BoolOr 0 1 0 0)
    ∷ not_wf (decoded BoolOr 6 4 0 0)
    ∷ not_wf (decoded BoolOr 4 6 0 0)
    -- one operand of any width
    ∷ gets (decoded BvNot 5 0 0 0) 16
    ∷ not_wf (decoded BvNot 6 0 0 0)
    ∷ gets (decoded Neg 5 0 0 0) 16
    ∷ not_wf (decoded Neg 6 0 0 0)
    -- a select: an index of width 32; any array number
    ∷ gets (decoded Select 0 2 0 0) 8
    ∷ gets (decoded Select 9 2 99 0) 8
    ∷ not_wf (decoded Select 0 5 0 0)
    ∷ not_wf (decoded Select 0 6 0 0)
    -- its stores: an index of width 32 and a value of width 8 each, inside the side entries
    ∷ gets (decoded Select 0 2 0 2) 8
    ∷ gets (decoded Select 0 2 10 1) 8
    ∷ not_wf (decoded Select 0 2 1 1)
    ∷ not_wf (decoded Select 0 2 4 1)
    ∷ not_wf (decoded Select 0 2 6 1)
    ∷ not_wf (decoded Select 0 2 8 1)
    ∷ not_wf (decoded Select 0 2 0 3)
    ∷ not_wf (decoded Select 0 2 10 2)
    ∷ not_wf (decoded Select 0 2 11 1)
    ∷ not_wf (decoded Select 0 2 12 1)
    ∷ not_wf (decoded Select 0 2 13 1)
    ∷ gets (decoded Select 0 2 12 0) 8
    -- one store: a pair, an index that is not as wide, an index without a value, a value that is an index, nothing
    ∷ sixth (2 ∷ 0 ∷ []) (decoded Select 0 2 0 1) (8 ∷ [])
    ∷ sixth (5 ∷ 0 ∷ []) (decoded Select 0 2 0 1) []
    ∷ sixth (2 ∷ []) (decoded Select 0 2 0 1) []
    ∷ sixth (2 ∷ 2 ∷ []) (decoded Select 0 2 0 1) []
    ∷ sixth [] (decoded Select 0 2 0 1) []
    -- a call: its own width, any function number, lower nodes as arguments, inside the side entries
    ∷ gets (decoded Call 9 5 0 0) 5
    ∷ gets (decoded Call 0 4294967295 13 0) 4294967295
    ∷ not_wf (decoded Call 0 0 0 0)
    ∷ gets (decoded Call 0 5 0 7) 5
    ∷ gets (decoded Call 0 5 9 3) 5
    ∷ not_wf (decoded Call 0 5 7 1)
    ∷ not_wf (decoded Call 0 5 6 2)
    ∷ not_wf (decoded Call 0 5 11 2)
    ∷ not_wf (decoded Call 0 5 12 1)
    ∷ not_wf (decoded Call 0 5 13 1)
    ∷ []))))

kind-cases : given kind_cases ≡ wanted kind_cases
unfolding all_meet kind_cases
kind-cases = refl

-- ---------------------------------------------------------------- widths of 64 bits

-- a variable of width 2³² - 1, doubled 32 times: node 32 has width 2⁶⁴ - 2³²
abbrev doubled : List Node
doubled = decoded Var 4294967295 0 0 0 ∷ tabulate 32 (λ i. decoded Concat i i 0 0)

-- the widths from node 32 on, up to the first node that is not well formed
abbrev from32 : List Node → List ℕ
from32 ns = drop 32 (ext_wf_of 0 no_arrays [] (doubled ++ ns))

sums-of-widths : map from32
    ((decoded Concat 32 32 0 0 ∷ [])
    ∷ (decoded ZeroExt 32 4294967295 0 0 ∷ decoded ZeroExt 33 1 0 0 ∷ [])
    ∷ (decoded SignExt 32 4294967295 0 0 ∷ decoded SignExt 33 1 0 0 ∷ [])
    ∷ (decoded Concat 32 0 0 0 ∷ decoded Extract 0 0 33 0 ∷ decoded Concat 33 34 0 0 ∷ [])
    ∷ [])
    ≡ (18446744069414584320 ∷ [])
    ∷ (18446744069414584320 ∷ 18446744073709551615 ∷ [])
    ∷ (18446744069414584320 ∷ 18446744073709551615 ∷ [])
    ∷ (18446744069414584320 ∷ 18446744073709551615 ∷ 1 ∷ [])
    ∷ []
unfolding all_meet
sums-of-widths = refl

-- no record says a width over 32 bits; a decoded node that does has 64 bits at most
abbrev alone : Node → List ℕ
alone n = ext_wf_of 18446744073709551616 no_arrays [] (n ∷ [])

widths-of-64-bits : map alone
    (decoded Var 18446744073709551615 0 0 0
    ∷ decoded Var 18446744073709551616 0 0 0
    ∷ decoded Const 0 18446744073709551615 0 0
    ∷ decoded Const 0 18446744073709551616 0 0
    ∷ decoded Call 0 18446744073709551615 0 0
    ∷ decoded Call 0 18446744073709551616 0 0
    ∷ [])
    ≡ (18446744073709551615 ∷ []) ∷ [] ∷ (18446744073709551615 ∷ []) ∷ [] ∷ (18446744073709551615 ∷ []) ∷ [] ∷ []
unfolding all_meet
widths-of-64-bits = refl

-- no node's width is 0; over such widths nothing that needs a bit-vector is well formed
widths-of-0 : map (node_wf 0 no_arrays [] (0 ∷ 0 ∷ 1 ∷ []))
    (decoded Add 0 1 0 0 ∷ decoded Rotl 0 1 0 0 ∷ decoded Extract 0 0 0 0 ∷ decoded Concat 0 2 0 0 ∷ decoded Concat 2 0 0 0 ∷ decoded ZeroExt 0 1 0 0
    ∷ decoded Ite 2 0 1 0 ∷ decoded Eq 0 1 0 0 ∷ decoded BvNot 0 0 0 0 ∷ decoded 39 0 0 0 0 ∷ [])
    ≡ replicate 10 false
unfolding all_meet
widths-of-0 = refl

-- which queries a problem could encode: records, bits, and widths of 64 bits in the columns
abbrev columns : List Node → List ℕ → ℕ → ℕ → ℕ → ℕ → Query
columns nodes bits x i v f = query_with nodes bits [] [] (var "x" 0 x ∷ []) ("m" ∷ []) (array_columns (i ∷ []) (v ∷ [])) (fun "f" f ∷ [])

encodable-queries : map encodable
    (columns (decoded Var 18446744073709551616 0 0 0 ∷ []) (0 ∷ 1 ∷ []) 18446744073709551615 18446744073709551615 18446744073709551615 18446744073709551615
    ∷ columns (decoded Var 8 0 0 0 ∷ decoded Var 8 1 0 0 ∷ []) [] 8 8 8 8
    ∷ columns [] (0 ∷ 2 ∷ []) 8 8 8 8
    ∷ columns [] [] 18446744073709551616 8 8 8
    ∷ columns [] [] 8 18446744073709551616 8 8
    ∷ columns [] [] 8 8 18446744073709551616 8
    ∷ columns [] [] 8 8 8 18446744073709551616
    ∷ [])
    ≡ true ∷ false ∷ false ∷ false ∷ false ∷ false ∷ false ∷ []
unfolding all_meet encodable
encodable-queries = refl

-- ---------------------------------------------------------------- the pass's answers

abbrev three : List (List ℕ)
three = node Var 8 0 0 0 ∷ node Var 8 0 0 0 ∷ node Eq 0 1 0 0 ∷ []

pass_cases : List (Example Answer)
pass_cases =
    widens "nothing" [] [] [] 0 (record { number = 0; count = 0; output = [] })
    ∷ widens "nothing leaves all as it was" [] [] [] 2 (record { number = 0; count = 0; output = lent 2 })
    ∷ widens "room met exactly" three [] [] 3 (record { number = 0; count = 3; output = 8 ∷ 8 ∷ 1 ∷ [] })
    ∷ widens "10: one place short" three [] [] 2 (refused 10 2)
    ∷ widens "1 with the node" (node Var 0 0 0 0 ∷ three) [] [] 4 (record { number = 1; count = 0; output = replicate 4 0 })
    ∷ widens "the first node refused" (three ++ (node Eq 0 2 0 0 ∷ node Var 0 0 0 0 ∷ [])) [] [] 9 (record { number = 1; count = 3; output = replicate 9 0 })
    ∷ widens "8 has no count" (three ++ (node 39 0 0 0 0 ∷ [])) [] [] 9 (refused 8 9)
    ∷ widens "8 before 10" (three ++ (node 39 0 0 0 0 ∷ [])) [] [] 0 (refused 8 0)
    -- what lies past the widths stays in its place
    ∷ record {
      label = "past the widths";
      given = ext_wf_answer (joined three) [] [] no_arrays (21 ∷ 22 ∷ 23 ∷ 24 ∷ 25 ∷ []);
      wanted = record { number = 0; count = 3; output = 8 ∷ 8 ∷ 1 ∷ 24 ∷ 25 ∷ [] };
    }
    ∷ refuses "1: the printer has no count" 1 (problem (three ++ (node Eq 0 2 0 0 ∷ [])) [] [] [] [] [] [])
    ∷ []

pass-cases : given pass_cases ≡ wanted pass_cases
unfolding all_meet pass_cases
pass-cases = refl
