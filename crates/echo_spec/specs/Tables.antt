-- The tables: columns, the variable of a node, the first call of a function, and what is declared.
use Rattle.std.specs.Prelude.{ℕ, ◌+◌, List, [], ◌∷◌, map, Bool, false, ◌&&◌, leb, ltb, eqb, length, take, drop, get_or}
use Rattle.std.proofs.Math.Option.{Option, none, some}
use Rattle.lists.specs.Tests.{every, every_from}
use Rattle.lists.specs.Build.{tabulate, find_from}
use Rattle.reading.specs.Kinds.{Call}
use Rattle.reading.specs.Trees.{Variable, Array, Function, Declarations}
use Rattle.echo_spec.specs.Input.{Node, no_node, Dag, name_table, aname_table, fname_table}
use Rattle.echo_spec.specs.Widths.{width_at, index_width_of, value_width_of}

-- are all these lists as long as the first
unfoldable pub one_length : List (List ℕ) → Bool
one_length columns = every (λ c. eqb (length c) (length (get_or columns 0 []))) columns

-- each table's columns are of one length
unfoldable pub columns_ok : Dag → Bool
columns_ok d =
    one_length (d.name_start ∷ d.name_len ∷ d.var_node ∷ d.var_width ∷ [])
    && (one_length (d.aname_start ∷ d.aname_len ∷ d.array-widths.index ∷ d.array-widths.value ∷ []) && one_length (d.fname_start ∷ d.fname_len ∷ d.func_width ∷ []))

-- the first entry that has this node
unfoldable pub find_node : List ℕ → ℕ → Option ℕ
find_node var_node i = find_from (λ x. eqb x i) 0 var_node

-- is the node a call of function g
abbrev pub call_of : ℕ → Node → Bool
call_of g n = eqb n.kind Call && eqb n.a g

-- the first node that calls function g
unfoldable pub find_call : List Node → ℕ → Option ℕ
find_call ns g = find_from (call_of g) 0 ns

-- does the call's part of the side entries lie inside them
abbrev pub arguments_inside : List ℕ → Node → Bool
arguments_inside side n = leb (n.c + n.d) (length side)

unfoldable pub argument_widths : List ℕ → List ℕ → Node → List ℕ
argument_widths ws side n = map (width_at ws) (take n.d (drop n.c side))

-- ---------------------------------------------------------------- declarations

-- 4: no declared variable has width 0
unfoldable pub decl_vars_ok : Dag → Bool
decl_vars_ok d = every (ltb 0) d.var_width

-- the argument widths of the first call of function g
unfoldable pub signature : Dag → List ℕ → ℕ → List ℕ
signature d ws g = elim (find_call d.nodes g) [ none ↦ [] | some c ↦ argument_widths ws d.side (get_or d.nodes c no_node) ]

-- 7: function g has a width, and a first call whose arguments lie inside the side entries and have widths
unfoldable pub decl_func_ok : Dag → List ℕ → ℕ → Bool
decl_func_ok d ws g =
    ltb 0 (get_or d.func_width g 0)
    && elim (find_call d.nodes g) [ none ↦ false | some c ↦ arguments_inside d.side (get_or d.nodes c no_node) && every (ltb 0) (signature d ws g) ]

unfoldable pub decl_funcs_ok : Dag → List ℕ → Bool
decl_funcs_ok d ws = every_from (decl_func_ok d ws) 0 (length (fname_table d))

-- what each table declares, in table order
abbrev pub variables_of : Dag → List Variable
variables_of d = tabulate (length (name_table d)) (λ k. record { name = get_or (name_table d) k []; width = get_or d.var_width k 0 })

abbrev pub arrays_of : Dag → List Array
arrays_of d = tabulate (length (aname_table d)) (λ k. record { name = get_or (aname_table d) k []; index = index_width_of d.array-widths.index k; value = value_width_of d.array-widths.value k })

abbrev pub functions_of : Dag → List ℕ → List Function
functions_of d ws =
    tabulate (length (fname_table d)) (λ g. record { name = get_or (fname_table d) g []; arguments = signature d ws g; width = get_or d.func_width g 0 })

unfoldable pub declarations_of : Dag → List ℕ → Declarations
declarations_of d ws = record { variables = variables_of d; arrays = arrays_of d; functions = functions_of d ws }
