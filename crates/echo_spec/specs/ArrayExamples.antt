-- Examples of the array table's widths (document 02, L5): selects and stores by the widths of their array, 12 and its place, column
-- lengths before the widths, arrays of width 1, and the declarations.
use Rattle.std.specs.Prelude.{ℕ, ◌≡◌, refl, List, [], ◌∷◌, ◌++◌, map, true, false, drop, replicate}
use Rattle.reading.specs.Kinds.{Var, Eq, Not, Select}
use Rattle.echo_spec.specs.Input.{ArrayWidths, array_columns, Node, Problem, Query}
use Rattle.echo_spec.specs.Widths.{array_widths_ok, ext_wf_of}
use Rattle.echo_spec.specs.Answers.{Answer}
use Rattle.echo_spec.specs.Examples.{node, problem_with, decoded, query_with, var, Named, Example, given, wanted, refused, accepted, prints, refuses, passes, widens_with, asks, all_meet}

-- ---------------------------------------------------------------- selects and stores

-- arrays 0 to 3: of 24 and 16 bits, of 16 and 24, of 1 and 8, of 32 and 1; past them there are 32 and 8
abbrev pub four : ArrayWidths
four = array_columns (24 ∷ 16 ∷ 1 ∷ 32 ∷ []) (16 ∷ 24 ∷ 8 ∷ 1 ∷ [])

-- variables of widths 24, 16, 32, 8 and 1, and a Bool: nodes 0 to 5
abbrev before : List Node
before = decoded Var 24 0 0 0 ∷ decoded Var 16 0 0 0 ∷ decoded Var 32 0 0 0 ∷ decoded Var 8 0 0 0 ∷ decoded Var 1 0 0 0 ∷ decoded Eq 3 3 0 0 ∷ []

-- the widths from node 6 on, which selects by this node from this array, with these pairs of stores: none if it is not well formed
abbrev selects : ℕ → ℕ → List ℕ → ℕ → List ℕ → Example (List ℕ)
selects array index side stores ws =
    record { label = "node 6"; given = drop 6 (ext_wf_of 0 four side (before ++ (decoded Select array index 0 stores ∷ []))); wanted = ws }

select_cases : List (Example (List ℕ))
select_cases =
    -- each array by its own widths: the index's, and the select is as wide as the value
    selects 0 0 [] 0 (16 ∷ [])
    ∷ selects 1 1 [] 0 (24 ∷ [])
    ∷ selects 2 4 [] 0 (8 ∷ [])
    ∷ selects 3 2 [] 0 (1 ∷ [])
    -- past the table
    ∷ selects 4 2 [] 0 (8 ∷ [])
    ∷ selects 99 2 [] 0 (8 ∷ [])
    -- the width of the value, of another array, of one past the table
    ∷ selects 0 1 [] 0 []
    ∷ selects 1 0 [] 0 []
    ∷ selects 0 2 [] 0 []
    ∷ selects 2 3 [] 0 []
    ∷ selects 3 4 [] 0 []
    ∷ selects 4 0 [] 0 []
    ∷ selects 4 3 [] 0 []
    -- a Bool has width 1, and the width pass does not ask for sorts
    ∷ selects 2 5 [] 0 (8 ∷ [])
    -- stores: an index and a value of the array's widths
    ∷ selects 0 0 (0 ∷ 1 ∷ []) 1 (16 ∷ [])
    ∷ selects 0 0 (1 ∷ 0 ∷ []) 1 []
    ∷ selects 0 0 (0 ∷ 3 ∷ []) 1 []
    ∷ selects 0 0 (2 ∷ 1 ∷ []) 1 []
    ∷ selects 1 1 (1 ∷ 0 ∷ []) 1 (24 ∷ [])
    ∷ selects 1 1 (0 ∷ 1 ∷ []) 1 []
    ∷ selects 2 4 (4 ∷ 3 ∷ 5 ∷ 3 ∷ []) 2 (8 ∷ [])
    ∷ selects 3 2 (2 ∷ 4 ∷ 2 ∷ 5 ∷ []) 2 (1 ∷ [])
    ∷ selects 0 0 (0 ∷ 1 ∷ 2 ∷ 3 ∷ []) 2 []
    ∷ selects 4 2 (2 ∷ 3 ∷ []) 1 (8 ∷ [])
    ∷ selects 4 2 (0 ∷ 1 ∷ []) 1 []
    ∷ []

select-cases : given select_cases ≡ wanted select_cases
unfolding all_meet select_cases
select-cases = refl

-- ---------------------------------------------------------------- 12

widths-allowed : map (λ w. array_widths_ok (array_columns (w ∷ []) (8 ∷ []))) (0 ∷ 1 ∷ 65536 ∷ 65537 ∷ 18446744073709551615 ∷ [])
    ++ (map (λ w. array_widths_ok (array_columns (32 ∷ []) (w ∷ []))) (0 ∷ 1 ∷ 65536 ∷ 65537 ∷ 18446744073709551615 ∷ [])
    ++ (array_widths_ok (array_columns (1 ∷ 0 ∷ []) (1 ∷ 1 ∷ []))
    ∷ array_widths_ok (array_columns (1 ∷ 1 ∷ []) (1 ∷ 65537 ∷ []))
    ∷ array_widths_ok (array_columns [] [])
    ∷ []))
    ≡ false ∷ true ∷ true ∷ false ∷ false ∷ false ∷ true ∷ true ∷ false ∷ false ∷ false ∷ false ∷ true ∷ []
unfolding all_meet
widths-allowed = refl

-- ---------------------------------------------------------------- the width pass

-- a variable of width 24 and a select by it from array 0
abbrev selected : List (List ℕ)
selected = node Var 24 0 0 0 ∷ node Select 0 0 0 0 ∷ []

-- an index of so many bits and a value of so many, in a table of one array
abbrev one : ℕ → ℕ → ArrayWidths
one index value = array_columns (index ∷ []) (value ∷ [])

-- as many entries as these in the two columns
abbrev uneven : ArrayWidths
uneven = array_columns (24 ∷ []) []

pass_cases : List (Example Answer)
pass_cases =
    widens_with "the table's widths" selected [] [] (one 24 16) 2 (record { number = 0; count = 2; output = 24 ∷ 16 ∷ [] })
    ∷ widens_with "1: 32 and 8 where the table is empty" selected [] [] (array_columns [] []) 2 (record { number = 1; count = 1; output = 0 ∷ 0 ∷ [] })
    ∷ widens_with "the largest widths" (node Var 65536 0 0 0 ∷ node Select 0 0 0 0 ∷ []) [] [] (one 65536 65536) 2 (record { number = 0; count = 2; output = 65536 ∷ 65536 ∷ [] })
    -- 1 with the node count, whichever column is the longer one, and whatever room there is
    ∷ widens_with "1: the second column shorter" selected [] [] uneven 3 (record { number = 1; count = 2; output = replicate 3 0 })
    ∷ widens_with "1: the first column shorter" selected [] [] (array_columns (24 ∷ []) (16 ∷ 16 ∷ [])) 1 (record { number = 1; count = 2; output = 0 ∷ [] })
    ∷ widens_with "1: no node" [] [] [] uneven 0 (record { number = 1; count = 0; output = [] })
    -- 12, with no count, whether the array is used or not
    ∷ widens_with "12: an index of width 0" selected [] [] (one 0 16) 2 (refused 12 2)
    ∷ widens_with "12: a value of width 0" selected [] [] (one 24 0) 2 (refused 12 2)
    ∷ widens_with "12: an index that is too wide" selected [] [] (one 65537 16) 2 (refused 12 2)
    ∷ widens_with "12: a value that is too wide" selected [] [] (one 24 65537) 2 (refused 12 2)
    ∷ widens_with "12: an array that is not used" selected [] [] (array_columns (24 ∷ 0 ∷ []) (16 ∷ 8 ∷ [])) 2 (refused 12 2)
    ∷ widens_with "12: no node" [] [] [] (one 8 0) 0 (refused 12 0)
    -- 8, the columns, 12, a node, 10
    ∷ widens_with "8 before the columns" (node 39 0 0 0 0 ∷ []) [] [] uneven 1 (refused 8 1)
    ∷ widens_with "8 before 12" (node 39 0 0 0 0 ∷ []) [] [] (one 0 0) 1 (refused 8 1)
    ∷ widens_with "8 before 12, bits" [] (2 ∷ []) [] (one 0 0) 1 (refused 8 1)
    ∷ widens_with "the columns before 12" selected [] [] (array_columns (0 ∷ []) []) 2 (record { number = 1; count = 2; output = 0 ∷ 0 ∷ [] })
    ∷ widens_with "the columns before a node" (node Var 0 0 0 0 ∷ node Var 8 0 0 0 ∷ []) [] [] uneven 2 (record { number = 1; count = 2; output = 0 ∷ 0 ∷ [] })
    ∷ widens_with "12 before a node" (node Var 0 0 0 0 ∷ []) [] [] (one 0 8) 1 (refused 12 1)
    ∷ widens_with "12 before 10" selected [] [] (one 0 8) 0 (refused 12 0)
    ∷ widens_with "a node before 10" selected [] [] (one 23 8) 0 (record { number = 1; count = 1; output = [] })
    ∷ []

pass-cases : given pass_cases ≡ wanted pass_cases
unfolding all_meet pass_cases
pass-cases = refl

-- ---------------------------------------------------------------- the printer's order

-- the array m with these two columns, these nodes and bits, and a variable x of this width
abbrev tabled : List (List ℕ) → List ℕ → ArrayWidths → List Named → Problem
tabled nodes bits widths vars = problem_with nodes bits [] [] vars ("m" ∷ []) widths []

-- a column of the variables is longer than the others
abbrev longer : Problem → Problem
longer p = record {
  nodes = p.nodes;
  bits = p.bits;
  side = p.side;
  roots = p.roots;
  names = p.names;
  name_start = p.name_start;
  name_len = p.name_len;
  var_node = 7 ∷ p.var_node;
  var_width = p.var_width;
  anames = p.anames;
  aname_start = p.aname_start;
  aname_len = p.aname_len;
  index_width = p.index_width;
  value_width = p.value_width;
  fnames = p.fnames;
  fname_start = p.fname_start;
  fname_len = p.fname_len;
  func_width = p.func_width;
}

order_cases : List (Example Answer)
order_cases =
    passes "widths that are allowed" (tabled [] [] (one 1 65536) [])
    ∷ refuses "12: an index of width 0" 12 (tabled [] [] (one 0 8) [])
    ∷ refuses "12: a value of width 0" 12 (tabled [] [] (one 32 0) [])
    ∷ refuses "12: an index that is too wide" 12 (tabled [] [] (one 65537 8) [])
    ∷ refuses "12: a value that is too wide" 12 (tabled [] [] (one 32 65537) [])
    -- the two columns are the table's as its names' are
    ∷ refuses "1: no entry for the array" 1 (tabled [] [] (array_columns [] []) [])
    ∷ refuses "1: one entry more" 1 (tabled [] [] (array_columns (32 ∷ 32 ∷ []) (8 ∷ 8 ∷ [])) [])
    ∷ refuses "1: entries without an array" 1 (problem_with [] [] [] [] [] [] (one 32 8) [])
    -- 8, the columns of every table, 12, the widths, 2
    ∷ refuses "8 before the columns" 8 (tabled [] (2 ∷ []) uneven [])
    ∷ refuses "8 before 12" 8 (tabled [] (2 ∷ []) (one 0 8) [])
    ∷ refuses "the array table's columns before 12" 1 (tabled [] [] (array_columns (0 ∷ []) (0 ∷ 0 ∷ [])) [])
    ∷ refuses "another table's columns before 12" 1 (longer (tabled [] [] (one 0 8) []))
    ∷ refuses "12 before the widths" 12 (tabled (node Var 0 0 0 0 ∷ []) [] (one 0 8) [])
    ∷ refuses "12 before 2" 12 (tabled [] [] (one 0 8) (var "let" 0 8 ∷ []))
    ∷ []

order-cases : given order_cases ≡ wanted order_cases
unfolding all_meet order_cases
order-cases = refl

-- ---------------------------------------------------------------- width 1

-- Of width 1 the variable x and the Bool x = x; an array of indices of width 1 and values of width 1; node 2, and then perhaps more
abbrev ones : List Node → List ℕ → ℕ → Query
ones ns side root = query_with (decoded Var 1 0 0 0 ∷ decoded Eq 0 0 0 0 ∷ ns) [] side (root ∷ []) (var "x" 0 1 ∷ []) ("m" ∷ []) (one 1 1) []

-- node 2 is compared to x
abbrev compared : ℕ → Node → List ℕ → Example ℕ
compared n two side = asks "width 1" n (ones (two ∷ decoded Eq 2 0 0 0 ∷ []) side 3)

-- node 1 selects from array 1, which a table of one array does not have
abbrev past : Node → ℕ → Query
past three root =
    query_with (decoded Var 32 0 0 0 ∷ decoded Select 1 0 0 0 ∷ decoded Var 8 0 0 0 ∷ three ∷ []) [] [] (root ∷ []) (var "v" 2 8 ∷ []) ("m" ∷ []) (one 24 16) []

one_cases : List (Example ℕ)
one_cases =
    -- an index, a store's index and a store's value are bit-vectors
    compared 0 (decoded Select 0 0 0 0) []
    ∷ compared 0 (decoded Select 0 0 0 1) (0 ∷ 0 ∷ [])
    ∷ compared 3 (decoded Select 0 1 0 0) []
    ∷ compared 3 (decoded Select 0 0 0 1) (1 ∷ 0 ∷ [])
    ∷ compared 3 (decoded Select 0 0 0 1) (0 ∷ 1 ∷ [])
    -- and so is the select: no root, and nothing that is negated
    ∷ asks "width 1" 3 (ones (decoded Select 0 0 0 0 ∷ []) [] 2)
    ∷ asks "width 1" 3 (ones (decoded Select 0 0 0 0 ∷ decoded Not 2 0 0 0 ∷ []) [] 3)
    -- past the table it is 1 once it is reached: after its sort, before its index, which is a variable without an entry
    ∷ asks "past the table" 1 (past (decoded Eq 1 2 0 0) 3)
    ∷ asks "past the table, a root" 3 (past (decoded Var 8 0 0 0) 1)
    ∷ []

one-cases : given one_cases ≡ wanted one_cases
unfolding all_meet one_cases
one-cases = refl

-- ---------------------------------------------------------------- text

-- the arrays m, of 24 and 16 bits, and k, of 1 and 1, with a store into each
abbrev pub two_arrays : ArrayWidths → Problem
two_arrays widths =
    problem_with
    (node Var 24 0 0 0 ∷ node Var 16 0 0 0 ∷ node Var 1 0 0 0 ∷ node Select 0 0 0 1 ∷ node Eq 3 1 0 0 ∷ node Select 1 2 2 1 ∷ node Eq 5 2 0 0 ∷ [])
    [] (0 ∷ 1 ∷ 2 ∷ 2 ∷ []) (4 ∷ 6 ∷ []) (var "i" 0 24 ∷ var "v" 1 16 ∷ var "b" 2 1 ∷ []) ("m" ∷ "k" ∷ []) widths []

text_cases : List (Example Answer)
text_cases =
    prints "each array by its widths" (two_arrays (array_columns (24 ∷ 1 ∷ []) (16 ∷ 1 ∷ []))) 400
    (accepted 342
    "(set-logic QF_ABV)\n(declare-const |i| (_ BitVec 24))\n(declare-const |v| (_ BitVec 16))\n(declare-const |b| (_ BitVec 1))\n(declare-const |m| (Array (_ BitVec 24) (_ BitVec 16)))\n(declare-const |k| (Array (_ BitVec 1) (_ BitVec 1)))\n(assert (= (select (store |m| |i| |v|) |i|) |v|))\n(assert (= (select (store |k| |b| |b|) |b|) |b|))\n(check-sat)\n")
    -- an array that nothing selects from is declared by its widths too
    ∷ prints "the largest widths" (tabled [] [] (one 65536 65536) []) 100
    (accepted 93 "(set-logic QF_ABV)\n(declare-const |m| (Array (_ BitVec 65536) (_ BitVec 65536)))\n(check-sat)\n")
    ∷ prints "the smallest widths" (tabled [] [] (one 1 1) []) 100 (accepted 85 "(set-logic QF_ABV)\n(declare-const |m| (Array (_ BitVec 1) (_ BitVec 1)))\n(check-sat)\n")
    -- another width, another script
    ∷ prints "another index" (tabled [] [] (one 2 1) []) 100 (accepted 85 "(set-logic QF_ABV)\n(declare-const |m| (Array (_ BitVec 2) (_ BitVec 1)))\n(check-sat)\n")
    ∷ prints "another value" (tabled [] [] (one 1 2) []) 100 (accepted 85 "(set-logic QF_ABV)\n(declare-const |m| (Array (_ BitVec 1) (_ BitVec 2)))\n(check-sat)\n")
    ∷ []

text-cases : given text_cases ≡ wanted text_cases
unfolding all_meet text_cases
text-cases = refl
