-- Computed examples: document 01's ten marked cases and a table of cases where a wrong printer slips. The files of examples beside
-- this one go through the rules one by one, and use what stands here. The texts of the second table are what the Rust printed.
use Rattle.std.specs.Prelude.{ℕ, ◌+◌, ◌-◌, ◌/◌, ◌%◌, ◌≡◌, refl, List, [], ◌∷◌, ◌++◌, map, length, replicate}
use Prim.Native.String.{String}
use Rattle.lists.specs.Bytes.{bytes}
use Rattle.lists.specs.Tests.{same}
use Rattle.lists.specs.Build.{find_from, upto}
use Rattle.reading.specs.Kinds.{
  Var,
  Const,
  Add,
  Sub,
  Mul,
  Udiv,
  Urem,
  And,
  Or,
  Xor,
  Shl,
  Lshr,
  Ashr,
  Rotr,
  Extract,
  Concat,
  ZeroExt,
  SignExt,
  Ite,
  Eq,
  Ne,
  Ult,
  Ule,
  Ugt,
  Uge,
  Slt,
  Sle,
  Sgt,
  Sge,
  Not,
  BoolAnd,
  BoolOr,
  BvNot,
  Neg,
  Rotl,
  Sdiv,
  Srem,
  Select,
  Call,
}
use Rattle.echo_spec.specs.Shapes.{shapes, operand_count, is_bool, is_leaf}
use Rattle.echo_spec.specs.Input.{
  Problem,
  ArrayWidths,
  array_columns,
  array_widths,
  Node,
  Query,
  nodes_within,
  column_within,
  pass_within,
  arena_within,
  within_limits,
  word32,
  node_at,
  nodes_of,
  node_encoded,
  encoded,
  part,
  names_of,
  dag_of,
}
use Rattle.echo_spec.specs.Widths.{
  index_width_of,
  value_width_of,
  array_widths_ok,
  un_wf,
  bin_wf,
  bool_bin_wf,
  extend_wf,
  chain_wf,
  args_wf,
  wf_as,
  node_wf,
  width_as,
  node_width,
  ext_wf_from,
  ext_wf_of,
}
use Rattle.echo_spec.specs.Names.{byte_ok, first_ok, rust_words, smtlib27_words, reserved, entry_ok, table_ok, names_ok}
use Rattle.echo_spec.specs.Sharing.{uses_as, uses_of_all, count, used_once, unshared}
use Rattle.echo_spec.specs.Tables.{
  one_length,
  columns_ok,
  find_node,
  find_call,
  argument_widths,
  decl_vars_ok,
  signature,
  decl_func_ok,
  decl_funcs_ok,
  declarations_of,
}
use Rattle.echo_spec.specs.Trees.{constant_bits, bits_value, amount_of, variable_name, trees_over, stores_over, tree_as, tree_step, tree_of, reading_of}
use Rattle.echo_spec.specs.Walk.{
  variable_ok,
  rotation_ok,
  args_match,
  call_ok,
  asked_as,
  asked,
  levels,
  operands_as,
  walk_all,
  step_of_walk,
  walk,
  walk_roots,
  refusal_with,
  refusal,
}
use Rattle.echo_spec.specs.Render.{
  symbols,
  symbol_of,
  decimal_digits,
  decimal,
  binary_digits,
  quoted,
  numerals_text,
  operator_text,
  call_text,
  term,
  sort_text,
  sorts_text,
  variable_text,
  array_text,
  function_text,
  texts,
  assertions_text,
  logic_of,
  logic_text,
  declarations_text,
  render,
}
use Rattle.echo_spec.specs.Answers.{Answer, width_refusal, refused_node, width_answer, ext_wf_answer, script, endless_with, endless_refusal, text_refusal, echo_answer, text_answer, echo_ext_answer}

-- ---------------------------------------------------------------- problems, written shortly

-- 32 bits, least significant byte first
abbrev pub le32 : ℕ → List ℕ
le32 n = n % 256 ∷ n / 256 % 256 ∷ n / 65536 % 256 ∷ n / 16777216 ∷ []

abbrev pub node : ℕ → ℕ → ℕ → ℕ → ℕ → List ℕ
node k a b c d = k ∷ (le32 a ++ (le32 b ++ (le32 c ++ le32 d)))

abbrev pub joined : List (List ℕ) → List ℕ
joined [] = []
joined (x ∷ xs) = x ++ joined xs

-- where each name starts in an arena of names end to end
abbrev pub starts_counted_from : ℕ → List String → List ℕ
starts_counted_from k [] = []
starts_counted_from k (n ∷ ns) = k ∷ starts_counted_from (k + length (bytes n)) ns

pub record Named : Type 0 where
  pub name : String
  pub node : ℕ
  pub width : ℕ

abbrev pub var : String → ℕ → ℕ → Named
var n i w = record { name = n; node = i; width = w }

-- a function has no node
abbrev pub fun : String → ℕ → Named
fun n w = record { name = n; node = 0; width = w }

-- a table without arrays
abbrev pub no_arrays : ArrayWidths
no_arrays = array_columns [] []

-- nodes, bits, side entries, roots, variables, arrays, the two columns of their widths, functions
abbrev pub problem_with : List (List ℕ) → List ℕ → List ℕ → List ℕ → List Named → List String → ArrayWidths → List Named → Problem
problem_with nodes bits side roots vars arrays widths funs = record {
  nodes = joined nodes;
  bits = bits;
  side = side;
  roots = roots;
  names = joined (map (λ (v : Named). bytes v.name) vars);
  name_start = starts_counted_from 0 (map (λ (v : Named). v.name) vars);
  name_len = map (λ (v : Named). length (bytes v.name)) vars;
  var_node = map (λ (v : Named). v.node) vars;
  var_width = map (λ (v : Named). v.width) vars;
  anames = joined (map bytes arrays);
  aname_start = starts_counted_from 0 arrays;
  aname_len = map (λ (a : String). length (bytes a)) arrays;
  index_width = widths.index;
  value_width = widths.value;
  fnames = joined (map (λ (f : Named). bytes f.name) funs);
  fname_start = starts_counted_from 0 (map (λ (f : Named). f.name) funs);
  fname_len = map (λ (f : Named). length (bytes f.name)) funs;
  func_width = map (λ (f : Named). f.width) funs;
}

-- arrays of the Rust's widths
abbrev pub rust_widths : List String → ArrayWidths
rust_widths arrays = array_columns (map (λ (a : String). 32) arrays) (map (λ (a : String). 8) arrays)

abbrev pub problem : List (List ℕ) → List ℕ → List ℕ → List ℕ → List Named → List String → List Named → Problem
problem nodes bits side roots vars arrays funs = problem_with nodes bits side roots vars arrays (rust_widths arrays) funs

-- a node as it is decoded
abbrev pub decoded : ℕ → ℕ → ℕ → ℕ → ℕ → Node
decoded k a b c d = record { kind = k; a = a; b = b; c = c; d = d }

-- the query of such a problem, its nodes given decoded
abbrev pub query_with : List Node → List ℕ → List ℕ → List ℕ → List Named → List String → ArrayWidths → List Named → Query
query_with nodes bits side roots vars arrays widths funs =
    let p : Problem = problem_with [] bits side roots vars arrays widths funs in
    record {
      dag = record {
        nodes = nodes;
        side = side;
        names = p.names;
        name_start = p.name_start;
        name_len = p.name_len;
        var_node = p.var_node;
        var_width = p.var_width;
        anames = p.anames;
        aname_start = p.aname_start;
        aname_len = p.aname_len;
        array-widths = array_widths p;
        fnames = p.fnames;
        fname_start = p.fname_start;
        fname_len = p.fname_len;
        func_width = p.func_width;
      };
      bits = bits;
      roots = roots;
    }

abbrev pub query : List Node → List ℕ → List ℕ → List ℕ → List Named → List String → List Named → Query
query nodes bits side roots vars arrays funs = query_with nodes bits side roots vars arrays (rust_widths arrays) funs

-- ---------------------------------------------------------------- examples: what a definition gives, and what is wanted

pub record Example (A : Type 0) : Type 0 where
  -- the example's name, or the rule that it is for
  pub label : String
  pub given : A
  pub wanted : A

abbrev pub given : {A : Type 0} → List (Example A) → List A
given es = map (λ e. e.given) es

abbrev pub wanted : {A : Type 0} → List (Example A) → List A
wanted es = map (λ e. e.wanted) es

-- so many lent elements, each 170
abbrev pub lent : ℕ → List ℕ
lent room = replicate room 170

abbrev pub refused : ℕ → ℕ → Answer
refused n room = record { number = n; count = 0; output = replicate room 0 }

-- of so many bytes, these; the rest of what was lent as it was
abbrev pub accepted : ℕ → String → ℕ → Answer
accepted n text room = record { number = 0; count = n; output = bytes text ++ lent (room - n) }

-- p into a buffer of so many bytes
abbrev pub prints : String → Problem → ℕ → (ℕ → Answer) → Example Answer
prints label p room wanted = record { label = label; given = echo_ext_answer p (lent room); wanted = wanted room }

-- p is refused with n: the buffer has no room for any script, so 10 says that every other check passes
abbrev pub refuses : String → ℕ → Problem → Example Answer
refuses label n p = prints label p 3 (refused n)

abbrev pub passes : String → Problem → Example Answer
passes label p = refuses label 10 p

-- the width pass over arrays of these widths, into a slice of so many numbers
abbrev pub widens_with : String → List (List ℕ) → List ℕ → List ℕ → ArrayWidths → ℕ → Answer → Example Answer
widens_with label nodes bits side widths room wanted = record { label = label; given = ext_wf_answer (joined nodes) bits side widths (lent room); wanted = wanted }

-- without arrays
abbrev pub widens : String → List (List ℕ) → List ℕ → List ℕ → ℕ → Answer → Example Answer
widens label nodes bits side room wanted = widens_with label nodes bits side no_arrays room wanted

-- the refusal of a query, 1 to 7 or 12, or 0: what the printer answers too, computed without the bytes of records
abbrev pub asks : String → ℕ → Query → Example ℕ
asks label n q = record { label = label; given = refusal q.dag (length q.bits) q.roots; wanted = n }

-- ---------------------------------------------------------------- the ten marked cases

abbrev pub five : List ℕ
five = 1 ∷ 0 ∷ 1 ∷ 0 ∷ 0 ∷ 0 ∷ 0 ∷ 0 ∷ []

abbrev pub eleven : List ℕ
eleven = 1 ∷ 1 ∷ 0 ∷ 1 ∷ 0 ∷ 0 ∷ 0 ∷ 0 ∷ []

abbrev pub m1 : Problem
m1 = problem [] [] [] [] [] [] []

-- M2 with other bits, another node 2, another node 3, another root and another name
abbrev pub m2_with : List ℕ → List ℕ → List ℕ → ℕ → String → Problem
m2_with bits node2 node3 root x =
    problem (node Var 8 0 0 0 ∷ node Const 0 8 0 0 ∷ node2 ∷ node3 ∷ []) bits [] (root ∷ []) (var x 0 8 ∷ []) [] []

abbrev pub sum : List ℕ
sum = node Add 0 1 0 0

abbrev pub m2 : Problem
m2 = m2_with five sum (node Eq 2 0 0 0) 3 "x"

abbrev m9 : Problem
m9 = problem [] [] [] [] [] [] (fun "f" 8 ∷ [])

abbrev m10 : Problem
m10 = problem (node Const 0 32 0 0 ∷ node Select 9 0 0 0 ∷ []) (replicate 32 0) [] [] [] [] []

pub marked_cases : List (Example Answer)
marked_cases =
    prints "M1" m1 200 (accepted 30 "(set-logic QF_BV)\n(check-sat)\n")
    ∷ prints "M2" m2 200 (accepted 103 "(set-logic QF_BV)\n(declare-const |x| (_ BitVec 8))\n(assert (= (bvadd |x| #b00000101) |x|))\n(check-sat)\n")
    ∷ prints "M3" m2 102 (refused 10)
    ∷ prints "M4" (m2_with five sum (node Eq 2 2 0 0) 3 "x") 200 (refused 6)
    ∷ prints "M5" (m2_with five sum (node Eq 2 0 0 0) 0 "x") 200 (refused 3)
    ∷ prints "M6" (m2_with five sum (node Eq 2 0 0 0) 3 "bvadd") 200 (refused 2)
    ∷ prints "M7" (m2_with five sum (node Eq 2 0 0 0) 4 "x") 200 (refused 1)
    ∷ prints "M8" (m2_with eleven (node Rotl 0 1 0 0) (node Eq 2 0 0 0) 3 "x") 200
    (accepted 104 "(set-logic QF_BV)\n(declare-const |x| (_ BitVec 8))\n(assert (= ((_ rotate_left 3) |x|) |x|))\n(check-sat)\n")
    ∷ prints "M9" m9 200 (refused 7)
    ∷ prints "M10" m10 200 (accepted 30 "(set-logic QF_BV)\n(check-sat)\n")
    ∷ []

-- ---------------------------------------------------------------- where a wrong printer slips

-- node 2 is used by a reached node and by one that is not
abbrev shared_unreached : Problem
shared_unreached =
    problem (node Var 8 0 0 0 ∷ node Const 0 8 0 0 ∷ sum ∷ node Eq 2 0 0 0 ∷ node Eq 2 1 0 0 ∷ []) five [] (3 ∷ []) (var "x" 0 8 ∷ []) [] []

-- a call without arguments is no leaf
abbrev shared_call : Problem
shared_call = problem (node Call 0 8 0 0 ∷ node Eq 0 0 0 0 ∷ []) [] [] (1 ∷ []) [] [] (fun "f" 8 ∷ [])

-- the first call in node order has an argument of width 16 and is not reached, the second has one of width 8
abbrev first_call_unreached : Problem
first_call_unreached =
    problem (node Var 16 0 0 0 ∷ node Var 8 0 0 0 ∷ node Call 0 8 0 1 ∷ node Call 0 8 1 1 ∷ node Eq 3 1 0 0 ∷ []) [] (0 ∷ 1 ∷ []) (4 ∷ [])
    (var "a" 0 16 ∷ var "b" 1 8 ∷ []) [] (fun "f" 8 ∷ [])

-- the second root compares two Bools
abbrev later_root : Problem
later_root =
    problem (node Var 8 0 0 0 ∷ node Const 0 8 0 0 ∷ sum ∷ node Eq 2 0 0 0 ∷ node Ult 0 1 0 0 ∷ node Ne 0 1 0 0 ∷ node Eq 4 5 0 0 ∷ []) five []
    (3 ∷ 6 ∷ []) (var "x" 0 8 ∷ []) [] []

-- a select with two stores: node 2 as pair 0's value, node 3 as the index, and perhaps no entry for pair 1's index, node 4
abbrev two_stores : List ℕ → List ℕ → List Named → Problem
two_stores node2 node3 entry =
    problem (node Var 32 0 0 0 ∷ node Var 8 0 0 0 ∷ node2 ∷ node3 ∷ node Var 32 0 0 0 ∷ node Select 0 3 0 2 ∷ node Eq 5 1 0 0 ∷ [])
    (five ++ replicate 24 0) (0 ∷ 2 ∷ 4 ∷ 1 ∷ []) (6 ∷ []) (var "i" 0 32 ∷ var "v" 1 8 ∷ entry) ("m" ∷ []) []

-- the first call of f is not reached and has a Bool argument
abbrev bool_argument : Problem
bool_argument =
    problem (node Var 8 0 0 0 ∷ node Eq 0 0 0 0 ∷ node Call 0 16 0 2 ∷ node Call 1 8 0 0 ∷ node Eq 3 0 0 0 ∷ []) [] (1 ∷ 0 ∷ []) (4 ∷ [])
    (var "x" 0 8 ∷ []) ("m" ∷ []) (fun "f" 16 ∷ fun "g" 8 ∷ [])

-- no argument, and a side start past the side entries
abbrev start_past : Problem
start_past = problem (node Call 0 8 1 0 ∷ []) [] [] [] [] [] (fun "f" 8 ∷ [])

-- every operator once
abbrev every_kind : Problem
every_kind =
    problem
    (node Var 8 0 0 0 ∷ node Const 0 8 0 0 ∷ sum ∷ node Sub 2 0 0 0 ∷ node Mul 3 0 0 0 ∷ node Udiv 4 0 0 0 ∷ node Urem 5 0 0 0 ∷ node And 6 0 0 0
    ∷ node Or 7 0 0 0 ∷ node Xor 8 0 0 0 ∷ node Shl 9 0 0 0 ∷ node Lshr 10 0 0 0 ∷ node Ashr 11 0 0 0 ∷ node Sdiv 12 0 0 0 ∷ node Srem 13 0 0 0
    ∷ node Rotr 14 1 0 0 ∷ node Rotl 15 1 0 0 ∷ node BvNot 16 0 0 0 ∷ node Neg 17 0 0 0 ∷ node Concat 18 0 0 0 ∷ node ZeroExt 19 8 0 0
    ∷ node SignExt 20 16 0 0 ∷ node Extract 9 2 21 0 ∷ node Ult 0 1 0 0 ∷ node Not 23 0 0 0 ∷ node Ule 0 1 0 0 ∷ node BoolAnd 24 25 0 0
    ∷ node Ugt 0 1 0 0 ∷ node BoolOr 26 27 0 0 ∷ node Ite 28 22 0 0 ∷ node Eq 29 1 0 0 ∷ node Ne 0 1 0 0 ∷ node Uge 0 1 0 0 ∷ node Slt 0 1 0 0
    ∷ node Sle 0 1 0 0 ∷ node Sgt 0 1 0 0 ∷ node Sge 0 1 0 0 ∷ [])
    eleven [] (30 ∷ 31 ∷ 32 ∷ 33 ∷ 34 ∷ 35 ∷ 36 ∷ []) (var "x" 0 8 ∷ []) [] []

abbrev amount : List ℕ
amount = node Const 0 32 0 0

abbrev entry_of_node4 : List Named
entry_of_node4 = var "j" 4 32 ∷ []

pub further_cases : List (Example Answer)
further_cases =
    prints "uses count over nodes that are not reached" shared_unreached 200 (refused 6)
    ∷ prints "a call without arguments is no leaf" shared_call 200 (refused 6)
    ∷ prints "the first call is the first in node order" first_call_unreached 200 (refused 7)
    ∷ prints "a later root's refusal comes before 10" later_root 20 (refused 3)
    ∷ prints "the last pair is walked first" (two_stores (node Call 0 8 0 0) (node Rotr 0 0 0 0) []) 300 (refused 4)
    ∷ prints "pairs are walked before the index" (two_stores (node Call 0 8 0 0) (node Rotr 0 0 0 0) entry_of_node4) 300 (refused 1)
    ∷ prints "the index is walked" (two_stores (node Const 0 8 0 0) (node Rotr 0 0 0 0) entry_of_node4) 300 (refused 5)
    ∷ prints "pair 0 is the outermost store" (two_stores (node Const 0 8 0 0) amount entry_of_node4) 291
    (accepted 291
    "(set-logic QF_ABV)\n(declare-const |i| (_ BitVec 32))\n(declare-const |v| (_ BitVec 8))\n(declare-const |j| (_ BitVec 32))\n(declare-const |m| (Array (_ BitVec 32) (_ BitVec 8)))\n(assert (= (select (store (store |m| |j| |v|) |i| #b00000101) #b00000000000000000000000000000101) |v|))\n(check-sat)\n")
    ∷ prints "argument sorts come from the widths" bool_argument 236
    (accepted 236
    "(set-logic QF_AUFBV)\n(declare-const |x| (_ BitVec 8))\n(declare-const |m| (Array (_ BitVec 32) (_ BitVec 8)))\n(declare-fun |f| ((_ BitVec 1) (_ BitVec 8)) (_ BitVec 16))\n(declare-fun |g| () (_ BitVec 8))\n(assert (= |g| |x|))\n(check-sat)\n")
    ∷ prints "no arguments past the side entries" start_past 200 (refused 7)
    ∷ prints "every operator" every_kind 679
    (accepted 679
    "(set-logic QF_BV)\n(declare-const |x| (_ BitVec 8))\n(assert (= (ite (or (and (not (bvult |x| #b00001011)) (bvule |x| #b00001011)) (bvugt |x| #b00001011)) ((_ extract 9 2) ((_ sign_extend 16) ((_ zero_extend 8) (concat (bvneg (bvnot ((_ rotate_left 3) ((_ rotate_right 3) (bvsrem (bvsdiv (bvashr (bvlshr (bvshl (bvxor (bvor (bvand (bvurem (bvudiv (bvmul (bvsub (bvadd |x| #b00001011) |x|) |x|) |x|) |x|) |x|) |x|) |x|) |x|) |x|) |x|) |x|) |x|))))) |x|)))) |x|) #b00001011))\n(assert (distinct |x| #b00001011))\n(assert (bvuge |x| #b00001011))\n(assert (bvslt |x| #b00001011))\n(assert (bvsle |x| #b00001011))\n(assert (bvsgt |x| #b00001011))\n(assert (bvsge |x| #b00001011))\n(check-sat)\n")
    ∷ widens "1 before 10 in the width pass" (node Var 8 0 0 0 ∷ node Not 0 0 0 0 ∷ []) [] [] 0 (record { number = 1; count = 1; output = [] })
    ∷ []

-- ---------------------------------------------------------------- the theorems

-- (whoever unfolds this unfolds the definitions named under it)
unfoldable pub all_meet : List (Example Answer) → Type 0
unfolding
    bytes same find_from upto shapes operand_count is_bool is_leaf nodes_within column_within pass_within arena_within within_limits word32 node_at nodes_of node_encoded
    encoded part names_of dag_of index_width_of value_width_of array_widths_ok un_wf bin_wf bool_bin_wf extend_wf chain_wf args_wf wf_as node_wf width_as node_width ext_wf_from
    ext_wf_of byte_ok first_ok rust_words smtlib27_words reserved entry_ok table_ok names_ok uses_as uses_of_all count used_once unshared one_length columns_ok find_node find_call
    argument_widths decl_vars_ok signature decl_func_ok decl_funcs_ok declarations_of constant_bits bits_value amount_of variable_name trees_over stores_over tree_as
    tree_step tree_of reading_of variable_ok rotation_ok args_match call_ok asked_as asked levels operands_as walk_all step_of_walk walk walk_roots refusal_with symbols
    symbol_of decimal_digits decimal binary_digits quoted numerals_text operator_text call_text term sort_text sorts_text variable_text array_text function_text
    texts assertions_text logic_of logic_text declarations_text render width_refusal refused_node width_answer ext_wf_answer script endless_with endless_refusal text_refusal echo_answer text_answer echo_ext_answer
all_meet es = given es ≡ wanted es

-- document 01's M1 to M10: number, length and every byte
pub marked-cases : given marked_cases ≡ wanted marked_cases
unfolding all_meet marked_cases
marked-cases = refl

pub further-cases : given further_cases ≡ wanted further_cases
unfolding all_meet further_cases
further-cases = refl
