-- The line of each entry, by its number, and the lines before the roots. Assumes nothing.
use Rattle.std.specs.Prelude.{ℕ, ◌≡◌, List, [], ◌++◌, map, length, take, drop, get_or}
use Rattle.std.proofs.Math.Path.{refl, sym}
use Rattle.std.proofs.Common.{◌∙◌}
use Rattle.std.proofs.Math.Option.{some}
use Rattle.lists.specs.Build.{length-tabulate}
use Rattle.reading.specs.Trees.{Name, Declarations}
use Rattle.echo_spec.specs.Input.{Node, no_node, Dag, name_table, aname_table, fname_table}
use Rattle.echo_spec.specs.ColumnLaws.{names-counted}
use Rattle.echo_spec.specs.Widths.{width_at, index_width_of, value_width_of}
use Rattle.echo_spec.specs.Tables.{find_call, argument_widths, signature, variables_of, arrays_of, functions_of, declarations_of}
use Rattle.echo_spec.specs.Render.{variable_text, array_text, function_text, texts, logic_text, declarations_text}
use Rattle.echo_bytes.specs.declared.Place.{Place}
use Rattle.echo_bytes.specs.Page.{Page, page, start, written}
use Rattle.echo_bytes.specs.Laws.{written_then}
use Rattle.echo_lines.specs.Lines.{logic_for, logic-for}
use Rattle.echo_decls.specs.NumberedLines.{LinesWritten, all-written}

unfoldable pub variable_line : Dag → ℕ → List ℕ
variable_line d k = variable_text (record { name = get_or (name_table d) k []; width = get_or d.var_width k 0 })

unfoldable pub array_line : Dag → ℕ → List ℕ
array_line d k = array_text (record { name = get_or (aname_table d) k []; index = index_width_of d.array-widths.index k; value = value_width_of d.array-widths.value k })

unfoldable pub function_line : Dag → List ℕ → ℕ → List ℕ
function_line d ws g =
    function_text (record { name = get_or (fname_table d) g []; arguments = signature d ws g; width = get_or d.func_width g 0 })

-- the lines before the roots
abbrev pub opening : Declarations → List ℕ
opening ds = logic_text ds ++ declarations_text ds

-- ---------------------------------------------------------------- one line, from its parts

module _ (d : Dag) (k : ℕ) {n : Name} where
  pub variable-line : {w : ℕ} → n ≡ get_or (name_table d) k [] → w ≡ get_or d.var_width k 0
      → variable_text (record { name = n; width = w }) ≡ variable_line d k
  unfolding variable_line
  variable-line p q = λ i. variable_text (record { name = p i; width = q i })

  pub array-line : {index value : ℕ} → n ≡ get_or (aname_table d) k [] → index ≡ index_width_of d.array-widths.index k → value ≡ value_width_of d.array-widths.value k
      → array_text (record { name = n; index = index; value = value }) ≡ array_line d k
  unfolding array_line
  array-line p q r = λ i. array_text (record { name = p i; index = q i; value = r i })

  -- node c, which is f, is the function's first call, and xs its arguments
  pub function-line : (ws : List ℕ) {c w : ℕ} {f : Node} → find_call d.nodes k ≡ some c → f ≡ get_or d.nodes c no_node
      → {xs : List ℕ} → xs ≡ take f.d (drop f.c d.side) → n ≡ get_or (fname_table d) k [] → w ≡ get_or d.func_width k 0
      → function_text (record { name = n; arguments = map (width_at ws) xs; width = w }) ≡ function_line d ws k
  unfolding function_line signature argument_widths
  function-line ws e f x p q = rw (x, e, signature, ← f, p, q) refl

-- ---------------------------------------------------------------- the lines of a table

module _ (d : Dag) {k : ℕ} {p q : Page} where
  pub variables-written : LinesWritten (variable_line d) k p q → k ≡ length d.name_start → q ≡ written p (texts variable_text (variables_of d))
  unfolding variable_line
  variables-written w e = all-written variable_text (length (name_table d)) _ w (e ∙ sym (names-counted d.names d.name_start d.name_len))

  pub arrays-written : LinesWritten (array_line d) k p q → k ≡ length d.aname_start → q ≡ written p (texts array_text (arrays_of d))
  unfolding array_line
  arrays-written w e = all-written array_text (length (aname_table d)) _ w (e ∙ sym (names-counted d.anames d.aname_start d.aname_len))

  pub functions-written : (ws : List ℕ) → LinesWritten (function_line d ws) k p q → k ≡ length d.fname_start
      → q ≡ written p (texts function_text (functions_of d ws))
  unfolding function_line
  functions-written ws w e =
      all-written function_text (length (fname_table d)) _ w (e ∙ sym (names-counted d.fnames d.fname_start d.fname_len))

-- ---------------------------------------------------------------- all lines

pub opening-written : (d : Dag) (ws : List ℕ) {na nf : ℕ} {s : Place} (o : List ℕ) {l v a f : Page}
    → na ≡ length d.aname_start → nf ≡ length d.fname_start → s ≡ start → l ≡ written (page s o) (logic_for na nf)
    → v ≡ written l (texts variable_text (variables_of d)) → a ≡ written v (texts array_text (arrays_of d))
    → f ≡ written a (texts function_text (functions_of d ws)) → f ≡ written (page start o) (opening (declarations_of d ws))
unfolding declarations_text declarations_of
opening-written d ws o {l} {v} na-is nf-is s-is logic variables arrays functions =
    let arrays-are = length-tabulate (length (aname_table d)) _ ∙ names-counted d.anames d.aname_start d.aname_len ∙ sym na-is in
    let functions-are = length-tabulate (length (fname_table d)) _ ∙ names-counted d.fnames d.fname_start d.fname_len ∙ sym nf-is in
    written_then (page start o) _ _ (rw (s-is, logic-for (declarations_of d ws) arrays-are functions-are) at logic)
    (written_then l _ _ variables (written_then v _ _ arrays functions))
