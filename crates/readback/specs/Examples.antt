-- Computed examples of reading back: a script, and the nodes, bits, side entries and roots that it is read as. Each is accepted by the
-- printer as it was read, and printed as the same script.
use Rattle.std.specs.Prelude.{ℕ, zero, suc, List, [], ◌∷◌, ◌++◌, map, Bool, true, false, ◌&&◌, ◌||◌, not, T, eqb, length, replicate, ◌≡◌, refl}
use Prim.Native.String.{String}
use Rattle.std.proofs.Math.Option.{Option, none, some}
use Rattle.lists.specs.Bytes.{bytes}
use Rattle.lists.specs.Tests.{same, every}
use Rattle.lists.specs.Build.{find_from, find, upto}
use Rattle.reading.specs.Kinds.{Var, Const, Add, Mul, Concat, Extract, Rotr, Rotl, Ite, Eq, Ult, Not, Select, Call}
use Rattle.reading.specs.Trees.{Reading}
use Rattle.smtlib.specs.Lexicon.{value_from}
use Rattle.echo_spec.specs.Shapes.{shapes, operand_count, is_bool, is_leaf}
use Rattle.echo_spec.specs.Input.{
  Problem,
  Node,
  Query,
  nodes_within,
  column_within,
  arena_within,
  within_limits,
  node_encoded,
  encodable,
  part,
  names_of,
}
use Rattle.echo_spec.specs.Widths.{
  index_width_of,
  value_width_of,
  array_widths_ok,
  un_wf,
  bin_wf,
  bool_bin_wf,
  extend_wf,
  chain_wf,
  args_wf,
  wf_as,
  node_wf,
  width_as,
  node_width,
  ext_wf_from,
  ext_wf_of,
}
use Rattle.echo_spec.specs.Names.{byte_ok, first_ok, rust_words, smtlib27_words, reserved, entry_ok, table_ok, names_ok}
use Rattle.echo_spec.specs.Sharing.{uses_as, uses_of_all, count, used_once, unshared}
use Rattle.echo_spec.specs.Tables.{
  one_length,
  columns_ok,
  find_node,
  find_call,
  argument_widths,
  decl_vars_ok,
  signature,
  decl_func_ok,
  decl_funcs_ok,
  declarations_of,
}
use Rattle.echo_spec.specs.Trees.{
  constant_bits,
  bits_value,
  amount_of,
  variable_name,
  trees_over,
  stores_over,
  tree_as,
  tree_step,
  tree_of,
  reading_of,
}
use Rattle.echo_spec.specs.Walk.{
  variable_ok,
  rotation_ok,
  args_match,
  call_ok,
  asked_as,
  asked,
  levels,
  operands_as,
  walk_all,
  step_of_walk,
  walk,
  walk_roots,
  refusal_with,
  refusal,
}
use Rattle.echo_spec.specs.TreeSorts.{
  same_sort,
  if_proper,
  has_sort,
  have_sorts,
  rule_of,
  operator_sort,
  variable_sort,
  select_sort,
  call_sort,
  sort_under,
}
use Rattle.echo_spec.specs.Render.{
  symbols,
  symbol_of,
  decimal_digits,
  decimal,
  binary_digits,
  quoted,
  numerals_text,
  operator_text,
  call_text,
  term,
  sort_text,
  sorts_text,
  variable_text,
  array_text,
  function_text,
  texts,
  assertions_text,
  logic_of,
  logic_text,
  declarations_text,
  render,
}
use Rattle.echo_spec.specs.Answers.{script}
use Rattle.readback.specs.Printable.{declarable, printable}
use Rattle.readback.specs.Rebuild.{
  is_constant,
  with_constant,
  with_constants,
  node_of,
  ended,
  low_bits,
  amounts,
  own_bits,
  constants_among,
  constants_stored,
  put,
  calls,
  call_on_zeros,
  with_uncalled,
  placed,
  bits_in,
  flat,
  side_in,
  joined,
  fields,
  record_of,
  records_from,
  starts_counted_from,
  count_from,
  arena,
  dag_for,
  rebuild,
}
use Rattle.readback.specs.Records.{record_bytes, records_bytes, inputs}
use Rattle.readback.specs.Reader.{
  and_then,
  expect,
  up_to,
  name_read,
  read_constant,
  numeral_is,
  numeral_from,
  read_numeral,
  read_numerals,
  kind_of,
  named_tree,
  applied,
  applied_indexed,
  called,
  read_term,
}
use Rattle.readback.specs.ScriptReader.{
  read_sort,
  read_variable,
  read_array,
  separator,
  read_sorts,
  read_function,
  many,
  read_assertion,
  trees_from,
  under_logic,
  read_script,
  if_whole,
  reading_in,
}
use Rattle.readback.specs.ReadAnswers.{
  ReadAnswer,
  Sizes,
  no_sizes,
  all_fit,
  sizes_of,
  limits_passed,
  rebuilt_refusal,
  read_as,
  read_from,
  read_script_answer,
}

-- ---------------------------------------------------------------- written shortly

abbrev row : ℕ → ℕ → ℕ → ℕ → ℕ → List ℕ
row k a b c d = k ∷ a ∷ b ∷ c ∷ d ∷ []

abbrev numbers : Node → List ℕ
numbers n = row n.kind n.a n.b n.c n.d

-- what a script is read as: nodes, bits, side entries, roots
pub record Case : Type 0 where
  pub text : String
  pub nodes : List (List ℕ)
  pub bits : List ℕ
  pub side : List ℕ
  pub roots : List ℕ

abbrev case : String → List (List ℕ) → List ℕ → List ℕ → List ℕ → Case
case t ns bs ss rs = record { text = t; nodes = ns; bits = bs; side = ss; roots = rs }

-- what it is read as, whether the printer takes that for a problem, and what it prints
pub record Read : Type 0 where
  pub nodes : List (List ℕ)
  pub bits : List ℕ
  pub side : List ℕ
  pub roots : List ℕ
  pub encoded : Bool
  pub refused : ℕ
  pub printed : List ℕ

abbrev read_again : Query → Read
read_again q = record {
  nodes = map numbers q.dag.nodes;
  bits = q.bits;
  side = q.dag.side;
  roots = q.roots;
  encoded = encodable q;
  refused = refusal q.dag (length q.bits) q.roots;
  printed = script q;
}

-- nothing where the bytes are no problem's script
abbrev read_of : Option Reading → Option Read
read_of none = none
read_of (some r) = some (read_again (rebuild r))

abbrev given : List Case → List (Option Read)
given cs = map (λ (c : Case). read_of (reading_in (bytes c.text))) cs

abbrev wanted : List Case → List (Option Read)
wanted cs = map (λ (c : Case). some (record { nodes = c.nodes; bits = c.bits; side = c.side; roots = c.roots; encoded = true; refused = 0; printed = bytes c.text })) cs

-- (whoever unfolds this unfolds the definitions named under it)
unfoldable pub all_read : List Case → Type 0
unfolding
    bytes same find_from find upto value_from shapes operand_count is_bool is_leaf node_encoded encodable part names_of index_width_of value_width_of array_widths_ok un_wf bin_wf
    bool_bin_wf extend_wf chain_wf args_wf wf_as node_wf width_as node_width ext_wf_from ext_wf_of byte_ok first_ok rust_words smtlib27_words reserved entry_ok table_ok names_ok
    uses_as uses_of_all count used_once unshared one_length columns_ok find_node find_call argument_widths decl_vars_ok signature decl_func_ok decl_funcs_ok declarations_of
    constant_bits bits_value amount_of variable_name trees_over stores_over tree_as tree_step tree_of reading_of variable_ok rotation_ok args_match call_ok asked_as asked levels
    operands_as walk_all step_of_walk walk walk_roots refusal_with symbols symbol_of decimal_digits decimal binary_digits quoted numerals_text operator_text call_text term
    sort_text sorts_text variable_text array_text function_text texts assertions_text logic_of logic_text declarations_text render script same_sort if_proper has_sort
    have_sorts rule_of operator_sort variable_sort select_sort call_sort sort_under declarable printable is_constant with_constant with_constants node_of ended low_bits
    amounts own_bits constants_among constants_stored put calls call_on_zeros with_uncalled placed bits_in flat side_in joined fields record_of records_from starts_counted_from
    count_from arena dag_for rebuild and_then expect up_to name_read read_constant numeral_is numeral_from read_numeral read_numerals kind_of named_tree applied applied_indexed called
    read_term read_sort read_variable read_array separator read_sorts read_function many read_assertion trees_from under_logic read_script if_whole reading_in
all_read cs = given cs ≡ wanted cs

-- ---------------------------------------------------------------- the placement

abbrev five : List ℕ
five = 1 ∷ 0 ∷ 1 ∷ replicate 5 0

-- a small number in 8 bits
abbrev one8 : List ℕ
one8 = 1 ∷ replicate 7 0

abbrev two8 : List ℕ
two8 = 0 ∷ 1 ∷ replicate 6 0

abbrev three8 : List ℕ
three8 = 1 ∷ 1 ∷ replicate 6 0

abbrev four8 : List ℕ
four8 = 0 ∷ 0 ∷ 1 ∷ replicate 5 0

pub placements : List Case
placements =
    -- nothing at all
    case "(set-logic QF_BV)\n(check-sat)\n" [] [] [] []
    -- document 01's M2: the variable, the constant just before the sum
    ∷ case "(set-logic QF_BV)\n(declare-const |x| (_ BitVec 8))\n(assert (= (bvadd |x| #b00000101) |x|))\n(check-sat)\n"
    (row Var 8 0 0 0 ∷ row Const 0 8 0 0 ∷ row Add 0 1 0 0 ∷ row Eq 2 0 0 0 ∷ []) five [] (3 ∷ [])
    -- variables first, in the order of their declarations, used or not
    ∷ case "(set-logic QF_BV)\n(declare-const |b| (_ BitVec 8))\n(declare-const |a| (_ BitVec 8))\n(declare-const |c| (_ BitVec 3))\n(assert (bvult |a| |b|))\n(check-sat)\n"
    (row Var 8 0 0 0 ∷ row Var 8 0 0 0 ∷ row Var 3 0 0 0 ∷ row Ult 1 0 0 0 ∷ []) [] [] (3 ∷ [])
    -- f and h are called by no assertion: a call on zeros of each, in order, zeros in argument order, equal ones once; g is called, without
    -- arguments, and its empty list starts at the end so far; a zero that an assertion uses is the same node
    ∷ case
    "(set-logic QF_AUFBV)\n(declare-const |x| (_ BitVec 8))\n(declare-const |m| (Array (_ BitVec 4) (_ BitVec 2)))\n(declare-fun |f| ((_ BitVec 8) (_ BitVec 8) (_ BitVec 16)) (_ BitVec 8))\n(declare-fun |g| () (_ BitVec 8))\n(declare-fun |h| ((_ BitVec 16)) (_ BitVec 4))\n(assert (= |g| |x|))\n(assert (bvult #b00000000 |x|))\n(check-sat)\n"
    (
    row Var 8 0 0 0 ∷ row Const 0 8 0 0 ∷ row Const 8 16 0 0 ∷ row Call 0 8 0 3 ∷ row Call 2 4 3 1 ∷ row Call 1 8 4 0 ∷ row Eq 5 0 0 0
    ∷ row Ult 1 0 0 0 ∷ []
    )
    (replicate 24 0) (1 ∷ 1 ∷ 2 ∷ 2 ∷ []) (6 ∷ 7 ∷ [])
    -- the sum meets 01 first in the script, and the product, which ends first, uses it first in node order
    ∷ case "(set-logic QF_BV)\n(declare-const |x| (_ BitVec 2))\n(assert (= (bvadd #b01 (bvmul |x| #b01)) (bvadd #b10 |x|)))\n(check-sat)\n"
    (
    row Var 2 0 0 0 ∷ row Const 0 2 0 0 ∷ row Mul 0 1 0 0 ∷ row Add 1 2 0 0 ∷ row Const 2 2 0 0 ∷ row Add 4 0 0 0 ∷ row Eq 3 5 0 0 ∷ []
    )
    (1 ∷ 0 ∷ 0 ∷ 1 ∷ []) [] (6 ∷ [])
    -- a constant stands after all nodes of its term's other operands; equal bits of another width are another constant
    ∷ case "(set-logic QF_BV)\n(declare-const |x| (_ BitVec 2))\n(assert (= (concat #b10 (bvmul |x| #b01)) #b0001))\n(check-sat)\n"
    (
    row Var 2 0 0 0 ∷ row Const 0 2 0 0 ∷ row Mul 0 1 0 0 ∷ row Const 2 2 0 0 ∷ row Concat 3 2 0 0 ∷ row Const 4 4 0 0 ∷ row Eq 4 5 0 0 ∷ []
    )
    (1 ∷ 0 ∷ 0 ∷ 1 ∷ 1 ∷ 0 ∷ 0 ∷ 0 ∷ []) [] (6 ∷ [])
    -- several for one select: the innermost store first, an index before its value, the select's own index last; in the side entries the
    -- outermost store is first
    ∷ case
    "(set-logic QF_ABV)\n(declare-const |m| (Array (_ BitVec 3) (_ BitVec 2)))\n(assert (= (select (store (store |m| #b001 #b10) #b011 #b00) #b101) #b10))\n(check-sat)\n"
    (
    row Const 0 3 0 0 ∷ row Const 3 2 0 0 ∷ row Const 5 3 0 0 ∷ row Const 8 2 0 0 ∷ row Const 10 3 0 0 ∷ row Select 0 4 0 2 ∷ row Eq 5 1 0 0
    ∷ []
    )
    (1 ∷ 0 ∷ 0 ∷ 0 ∷ 1 ∷ 1 ∷ 1 ∷ 0 ∷ 0 ∷ 0 ∷ 1 ∷ 0 ∷ 1 ∷ []) (2 ∷ 3 ∷ 0 ∷ 1 ∷ []) (6 ∷ [])
    -- a select as the value of a store, and one without stores, whose empty list starts at the end so far; two arrays of other widths
    ∷ case
    "(set-logic QF_ABV)\n(declare-const |i| (_ BitVec 3))\n(declare-const |b| (_ BitVec 2))\n(declare-const |m| (Array (_ BitVec 3) (_ BitVec 2)))\n(declare-const |n| (Array (_ BitVec 2) (_ BitVec 2)))\n(assert (= (select (store (store |m| #b001 |b|) |i| (bvadd (select |n| #b01) #b01)) |i|) (select |n| |b|)))\n(check-sat)\n"
    (
    row Var 3 0 0 0 ∷ row Var 2 0 0 0 ∷ row Const 0 2 0 0 ∷ row Select 1 2 0 0 ∷ row Add 3 2 0 0 ∷ row Const 2 3 0 0 ∷ row Select 0 0 0 2
    ∷ row Select 1 1 4 0 ∷ row Eq 6 7 0 0 ∷ []
    )
    (1 ∷ 0 ∷ 1 ∷ 0 ∷ 0 ∷ []) (0 ∷ 4 ∷ 5 ∷ 1 ∷ []) (8 ∷ [])
    -- a rotate amount is a constant as wide as the rotation, and stands before a new operand; one that is the operand; one of 0
    ∷ case
    "(set-logic QF_BV)\n(declare-const |x| (_ BitVec 8))\n(assert (= ((_ rotate_left 3) ((_ rotate_right 1) |x|)) ((_ rotate_left 2) #b00000100)))\n(assert (= ((_ rotate_right 3) #b00000011) ((_ rotate_left 0) |x|)))\n(check-sat)\n"
    (
    row Var 8 0 0 0 ∷ row Const 0 8 0 0 ∷ row Rotr 0 1 0 0 ∷ row Const 8 8 0 0 ∷ row Rotl 2 3 0 0 ∷ row Const 16 8 0 0 ∷ row Const 24 8 0 0
    ∷ row Rotl 6 5 0 0 ∷ row Eq 4 7 0 0 ∷ row Rotr 3 3 0 0 ∷ row Const 32 8 0 0 ∷ row Rotl 0 10 0 0 ∷ row Eq 9 11 0 0 ∷ []
    )
    (one8 ++ (three8 ++ (two8 ++ (four8 ++ replicate 8 0)))) [] (8 ∷ 12 ∷ [])
    -- numerals in the record, arguments in order, equal constants of two assertions
    ∷ case
    "(set-logic QF_AUFBV)\n(declare-const |x| (_ BitVec 8))\n(declare-fun |f| ((_ BitVec 8) (_ BitVec 4)) (_ BitVec 8))\n(assert (= (ite (not (bvult |x| #b00000101)) (|f| #b00000001 ((_ extract 5 2) |x|)) #b00000001) #b00000101))\n(assert (= |x| #b00000101))\n(check-sat)\n"
    (
    row Var 8 0 0 0 ∷ row Const 0 8 0 0 ∷ row Ult 0 1 0 0 ∷ row Not 2 0 0 0 ∷ row Extract 5 2 0 0 ∷ row Const 8 8 0 0 ∷ row Call 0 8 0 2
    ∷ row Ite 3 6 5 0 ∷ row Eq 7 1 0 0 ∷ row Eq 0 1 0 0 ∷ []
    )
    (five ++ one8) (5 ∷ 4 ∷ []) (8 ∷ 9 ∷ [])
    -- a width that no record holds is a problem's all the same
    ∷ case "(set-logic QF_BV)\n(declare-const |x| (_ BitVec 1099511627776))\n(check-sat)\n" (row Var 1099511627776 0 0 0 ∷ []) [] [] []
    ∷ []

pub placements-read : given placements ≡ wanted placements
unfolding all_read placements
placements-read = refl

-- ---------------------------------------------------------------- the answer

-- outputs whose elements differ, n of each
abbrev lent : ℕ → Problem
lent n =
    let l : List ℕ = replicate n 7 in
    record {
      nodes = replicate 70 9;
      bits = l;
      side = l;
      roots = l;
      names = l;
      name_start = l;
      name_len = l;
      var_node = l;
      var_width = l;
      anames = l;
      aname_start = l;
      aname_len = l;
      index_width = l;
      value_width = l;
      fnames = l;
      fname_start = l;
      fname_len = l;
      func_width = l;
    }

abbrev zeroed_all : Problem
zeroed_all =
    let l : List ℕ = replicate 4 0 in
    record {
      nodes = replicate 70 0;
      bits = l;
      side = l;
      roots = l;
      names = l;
      name_start = l;
      name_len = l;
      var_node = l;
      var_width = l;
      anames = l;
      aname_start = l;
      aname_len = l;
      index_width = l;
      value_width = l;
      fnames = l;
      fname_start = l;
      fname_len = l;
      func_width = l;
    }

abbrev refused : ℕ → ReadAnswer
refused n = record { number = n; sizes = no_sizes; output = zeroed_all }

-- two arrays and a function, each in its own arena; what lies past each result is as it was
abbrev tables_read : ReadAnswer
tables_read = record {
  number = 0;
  sizes = record { nodes = 51; bits = 1; side = 1; roots = 0; names = 2; variables = 1; anames = 3; arrays = 2; fnames = 1; functions = 1 };
  output = record {
    nodes =
        (0 ∷ 0 ∷ 2 ∷ 0 ∷ replicate 13 0) ++ ((1 ∷ 0 ∷ 0 ∷ 0 ∷ 0 ∷ 1 ∷ replicate 11 0) ++ ((38 ∷ replicate 4 0 ++ (4 ∷ replicate 7 0 ++ (1 ∷ 0 ∷ 0 ∷ 0 ∷ []))) ++ replicate 19 9));
    bits = 0 ∷ 7 ∷ 7 ∷ 7 ∷ [];
    side = 1 ∷ 7 ∷ 7 ∷ 7 ∷ [];
    roots = replicate 4 7;
    names = bytes "xy" ++ (7 ∷ 7 ∷ []);
    name_start = 0 ∷ 7 ∷ 7 ∷ 7 ∷ [];
    name_len = 2 ∷ 7 ∷ 7 ∷ 7 ∷ [];
    var_node = 0 ∷ 7 ∷ 7 ∷ 7 ∷ [];
    var_width = 512 ∷ 7 ∷ 7 ∷ 7 ∷ [];
    anames = bytes "mno" ++ (7 ∷ []);
    aname_start = 0 ∷ 1 ∷ 7 ∷ 7 ∷ [];
    aname_len = 1 ∷ 2 ∷ 7 ∷ 7 ∷ [];
    index_width = 3 ∷ 65536 ∷ 7 ∷ 7 ∷ [];
    value_width = 2 ∷ 1 ∷ 7 ∷ 7 ∷ [];
    fnames = bytes "f" ++ (7 ∷ 7 ∷ 7 ∷ []);
    fname_start = 0 ∷ 7 ∷ 7 ∷ 7 ∷ [];
    fname_len = 1 ∷ 7 ∷ 7 ∷ 7 ∷ [];
    func_width = 4 ∷ 7 ∷ 7 ∷ 7 ∷ [];
  };
}

abbrev tables : String
tables = "(set-logic QF_AUFBV)\n(declare-const |xy| (_ BitVec 512))\n(declare-const |m| (Array (_ BitVec 3) (_ BitVec 2)))\n(declare-const |no| (Array (_ BitVec 65536) (_ BitVec 1)))\n(declare-fun |f| ((_ BitVec 1)) (_ BitVec 4))\n(check-sat)\n"

abbrev answers : List ReadAnswer
answers =
    read_script_answer (bytes tables) (lent 4)
    -- 13, though an output is too short and a width too large for its record
    ∷ read_script_answer (bytes "(set-logic QF_BV)\n(declare-const |x| (_ BitVec 4294967296))\n(check-sat)") (lent 4)
    -- 9, though there is too little room
    ∷ read_script_answer (bytes "(set-logic QF_BV)\n(declare-const |12345| (_ BitVec 4294967296))\n(check-sat)\n") (lent 4)
    -- 10: five bytes of names, and four lent
    ∷ read_script_answer (bytes "(set-logic QF_BV)\n(declare-const |12345| (_ BitVec 4294967295))\n(check-sat)\n") (lent 4)
    ∷ []

answers-are : answers ≡ tables_read ∷ refused 13 ∷ refused 9 ∷ refused 10 ∷ []
unfolding
    all_read nodes_within column_within arena_within within_limits record_bytes records_bytes inputs all_fit sizes_of limits_passed rebuilt_refusal read_as read_from
    read_script_answer
answers-are = refl
