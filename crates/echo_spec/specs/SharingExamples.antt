-- Examples of 6: what counts as a use, and which nodes may have two.
use Rattle.std.specs.Prelude.{ℕ, ◌≡◌, refl, List, [], ◌∷◌, ◌++◌, map}
use Rattle.reading.specs.Kinds.{
  Var,
  Const,
  Add,
  Sub,
  Mul,
  Udiv,
  Urem,
  And,
  Or,
  Xor,
  Shl,
  Lshr,
  Ashr,
  Rotr,
  Extract,
  Concat,
  ZeroExt,
  SignExt,
  Ite,
  Eq,
  Ne,
  Ult,
  Ule,
  Ugt,
  Uge,
  Slt,
  Sle,
  Sgt,
  Sge,
  Not,
  BoolAnd,
  BoolOr,
  BvNot,
  Neg,
  Rotl,
  Sdiv,
  Srem,
  Select,
  Call,
}
use Rattle.echo_spec.specs.Input.{Node, Query}
use Rattle.echo_spec.specs.Examples.{decoded, query, Example, given, wanted, asks, all_meet}

-- ---------------------------------------------------------------- which nodes may be used twice

-- after a variable of width 1 or 32, a node as root twice: what a root of the wrong sort is refused with comes after 6
abbrev root_twice : ℕ → ℕ → Node → Example ℕ
root_twice n w one = asks "two uses" n (query (decoded Var w 0 0 0 ∷ one ∷ []) (0 ∷ []) [] (1 ∷ 1 ∷ []) [] [] [])

abbrev two_operands : List ℕ
two_operands =
    Add ∷ Sub ∷ Mul ∷ Udiv ∷ Urem ∷ And ∷ Or ∷ Xor ∷ Shl ∷ Lshr ∷ Ashr ∷ Rotr ∷ Concat ∷ Eq ∷ Ne ∷ Ult ∷ Ule ∷ Ugt ∷ Uge ∷ Slt ∷ Sle ∷ Sgt ∷ Sge
    ∷ BoolAnd ∷ BoolOr ∷ Rotl ∷ Sdiv ∷ Srem ∷ []

leaf_cases : List (Example ℕ)
leaf_cases =
    root_twice 3 1 (decoded Var 8 0 0 0)
    ∷ root_twice 3 1 (decoded Const 0 1 0 0)
    ∷ root_twice 6 1 (decoded Extract 0 0 0 0)
    ∷ root_twice 6 1 (decoded ZeroExt 0 1 0 0)
    ∷ root_twice 6 1 (decoded SignExt 0 1 0 0)
    ∷ root_twice 6 1 (decoded Ite 0 0 0 0)
    ∷ root_twice 6 1 (decoded Not 0 0 0 0)
    ∷ root_twice 6 1 (decoded BvNot 0 0 0 0)
    ∷ root_twice 6 1 (decoded Neg 0 0 0 0)
    ∷ root_twice 6 32 (decoded Select 0 0 0 0)
    ∷ root_twice 6 1 (decoded Call 0 8 0 0)
    ∷ map (λ k. root_twice 6 1 (decoded k 0 0 0 0)) two_operands

leaf-cases : given leaf_cases ≡ wanted leaf_cases
unfolding all_meet leaf_cases
leaf-cases = refl

-- ---------------------------------------------------------------- operands

-- node 0 a variable and node 1 an operator, both of width 1, then these; nothing is reached
abbrev over1 : List Node → List ℕ → List ℕ → Query
over1 ns bits side = query (decoded Var 1 0 0 0 ∷ decoded BvNot 0 0 0 0 ∷ ns) bits side [] [] [] []

-- node 2 uses node 1 once: it passes by itself, and with another use of node 1 it is 6
abbrev once : Node → List (Example ℕ)
once n = asks "one use" 0 (over1 (n ∷ []) [] []) ∷ asks "a second use" 6 (over1 (n ∷ decoded Neg 1 0 0 0 ∷ []) [] []) ∷ []

abbrev twice : Node → Example ℕ
twice n = asks "each occurrence is a use" 6 (over1 (n ∷ []) [] [])

-- node 2 does not use node 1, which has one use
abbrev unused : Node → Example ℕ
unused n = asks "no use" 0 (over1 (n ∷ decoded Neg 1 0 0 0 ∷ []) (0 ∷ 1 ∷ []) (0 ∷ 0 ∷ []))

abbrev every_once : List Node → List (Example ℕ)
every_once [] = []
every_once (n ∷ ns) = once n ++ every_once ns

-- one kind of each shape
operand_case_list : List (Example ℕ)
operand_case_list =
    every_once
    (decoded Add 1 0 0 0 ∷ decoded Add 0 1 0 0 ∷ decoded Rotl 1 0 0 0 ∷ decoded Rotl 0 1 0 0 ∷ decoded Extract 0 0 1 0 ∷ decoded Concat 1 0 0 0 ∷ decoded Concat 0 1 0 0
    ∷ decoded ZeroExt 1 0 0 0 ∷ decoded Ite 1 0 0 0 ∷ decoded Ite 0 1 0 0 ∷ decoded Ite 0 0 1 0 ∷ decoded Eq 1 0 0 0 ∷ decoded Eq 0 1 0 0 ∷ decoded Not 1 0 0 0
    ∷ decoded BoolAnd 1 0 0 0 ∷ decoded BoolAnd 0 1 0 0 ∷ decoded BvNot 1 0 0 0 ∷ [])
    ++ (twice (decoded Add 1 1 0 0)
    ∷ twice (decoded Rotl 1 1 0 0)
    ∷ twice (decoded Concat 1 1 0 0)
    ∷ twice (decoded Ite 1 1 0 0)
    ∷ twice (decoded Ite 1 0 1 0)
    ∷ twice (decoded Ite 0 1 1 0)
    ∷ twice (decoded Eq 1 1 0 0)
    ∷ twice (decoded BoolAnd 1 1 0 0)
    -- widths, bounds, starts, counts, numbers of arrays and functions
    ∷ unused (decoded Var 1 0 0 0)
    ∷ unused (decoded Const 1 1 0 0)
    ∷ unused (decoded ZeroExt 0 1 0 0)
    ∷ unused (decoded SignExt 0 1 0 0)
    ∷ unused (decoded Call 1 1 1 1)
    ∷ asks "bounds" 0 (query (decoded Var 8 0 0 0 ∷ decoded BvNot 0 0 0 0 ∷ decoded Extract 1 1 0 0 ∷ decoded Neg 1 0 0 0 ∷ []) [] [] [] [] [] [])
    ∷ [])

operand_cases : given operand_case_list ≡ wanted operand_case_list
unfolding all_meet operand_case_list
operand_cases = refl

-- ---------------------------------------------------------------- side entries and roots

-- nodes 0 and 1 of width 32, nodes 2 and 3 of width 8, of which 1 and 3 are operators; then these
abbrev over4 : List Node → List ℕ → List ℕ → Query
over4 ns side roots =
    query (decoded Var 32 0 0 0 ∷ decoded BvNot 0 0 0 0 ∷ decoded Var 8 0 0 0 ∷ decoded BvNot 2 0 0 0 ∷ ns) [] side roots [] [] []

entry_cases : List (Example ℕ)
entry_cases =
    -- a select's index
    asks "index" 0 (over4 (decoded Select 1 1 1 0 ∷ []) [] [])
    ∷ asks "6: index" 6 (over4 (decoded Select 1 1 1 0 ∷ decoded Neg 1 0 0 0 ∷ []) [] [])
    -- a pair's index and value
    ∷ asks "pair" 0 (over4 (decoded Select 0 0 0 1 ∷ []) (1 ∷ 3 ∷ []) [])
    ∷ asks "6: a pair's index" 6 (over4 (decoded Select 0 0 0 1 ∷ decoded Neg 1 0 0 0 ∷ []) (1 ∷ 3 ∷ []) [])
    ∷ asks "6: a pair's value" 6 (over4 (decoded Select 0 0 0 1 ∷ decoded Neg 3 0 0 0 ∷ []) (1 ∷ 3 ∷ []) [])
    ∷ asks "6: index of the select and of a pair" 6 (over4 (decoded Select 0 1 0 1 ∷ []) (1 ∷ 2 ∷ []) [])
    ∷ asks "6: in two pairs" 6 (over4 (decoded Select 0 0 0 2 ∷ []) (1 ∷ 2 ∷ 1 ∷ 2 ∷ []) [])
    -- only the pairs that a select has
    ∷ asks "the pair after the last" 0 (over4 (decoded Select 0 0 0 1 ∷ decoded Neg 1 0 0 0 ∷ decoded Neg 3 0 0 0 ∷ []) (0 ∷ 2 ∷ 1 ∷ 3 ∷ []) [])
    ∷ asks "the pair before the first" 0 (over4 (decoded Select 0 0 2 1 ∷ decoded Neg 1 0 0 0 ∷ decoded Neg 3 0 0 0 ∷ []) (1 ∷ 3 ∷ 0 ∷ 2 ∷ []) [])
    ∷ asks "6: the second pair's index" 6 (over4 (decoded Select 0 0 0 2 ∷ decoded Neg 1 0 0 0 ∷ []) (0 ∷ 2 ∷ 1 ∷ 3 ∷ []) [])
    ∷ asks "6: the second pair's value" 6 (over4 (decoded Select 0 0 0 2 ∷ decoded Neg 3 0 0 0 ∷ []) (0 ∷ 2 ∷ 1 ∷ 3 ∷ []) [])
    -- arguments
    ∷ asks "argument" 0 (over4 (decoded Call 0 8 1 1 ∷ []) (0 ∷ 3 ∷ 0 ∷ []) [])
    ∷ asks "6: an argument" 6 (over4 (decoded Call 0 8 1 1 ∷ decoded Neg 3 0 0 0 ∷ []) (0 ∷ 3 ∷ 0 ∷ []) [])
    ∷ asks "arguments before and after" 0 (over4 (decoded Call 0 8 1 1 ∷ decoded Neg 3 0 0 0 ∷ []) (3 ∷ 0 ∷ 3 ∷ []) [])
    ∷ asks "6: two arguments" 6 (over4 (decoded Call 0 8 0 2 ∷ []) (3 ∷ 3 ∷ []) [])
    -- an entry that two nodes read, and one that none reads
    ∷ asks "6: read by two calls" 6 (over4 (decoded Call 0 8 0 1 ∷ decoded Call 0 8 0 1 ∷ []) (3 ∷ []) [])
    ∷ asks "6: read by a select and a call" 6 (over4 (decoded Select 0 0 0 1 ∷ decoded Call 0 8 1 1 ∷ []) (0 ∷ 3 ∷ []) [])
    ∷ asks "read by none" 0 (over4 (decoded Neg 3 0 0 0 ∷ []) (3 ∷ 3 ∷ 1 ∷ 1 ∷ []) [])
    -- roots
    ∷ asks "6: a root and an operand" 6 (over4 (decoded Neg 3 0 0 0 ∷ []) [] (3 ∷ []))
    ∷ asks "6: a root, not the first, twice" 6 (over4 [] [] (0 ∷ 3 ∷ 3 ∷ []))
    ∷ asks "3: two operators once each" 3 (over4 [] [] (1 ∷ 3 ∷ []))
    ∷ asks "1: past the nodes, twice" 1 (over4 [] [] (4 ∷ 4 ∷ []))
    -- the first and the last node
    ∷ asks "6: decoded 0" 6 (query (decoded Call 0 8 0 0 ∷ decoded Neg 0 0 0 0 ∷ decoded BvNot 0 0 0 0 ∷ []) [] [] [] [] [] [])
    ∷ asks "6: the last node" 6 (over4 [] [] (3 ∷ 3 ∷ []))
    ∷ []

entry-cases : given entry_cases ≡ wanted entry_cases
unfolding all_meet entry_cases
entry-cases = refl
