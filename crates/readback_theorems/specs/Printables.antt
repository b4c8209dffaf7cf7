-- The scripts of problems are the texts of printable readings, the limits of 9 and the 32 bits of operands left aside.
use Prim.Native.Nat.{ℕ, ◌+◌, ◌≤◌, ◌<◌}
use Rattle.std.specs.Prelude.{◌≡◌, refl, true, ◌&&◌, ◌↔◌, leb, ltb}
use Rattle.std.proofs.Common.{ap, sym, ◌∙◌, arith, le→leb, lt→ltb}
use Rattle.std.proofs.Math.Path.{subst}
use mathlib.Core.List.{List, [], ◌∷◌, ◌++◌, map}
use Rattle.std.proofs.Math.Bool.{Bool, false}
use Rattle.std.proofs.Math.Option.{Option, none, some}
use Rattle.std.proofs.Math.Dec.{T}
use Rattle.std.proofs.Math.ListN.{length, get_or}
use Rattle.lists.specs.Tests.{every, every-all, every-at, every-place, and_0, and-1, and_T}
use Rattle.lists.specs.Build.{tabulate, map-tabulate, tabulate-places, all-tabulate}
use Rattle.reading.specs.Trees.{Name, Variable, Array, Function, Declarations, Reading}
use Rattle.echo_spec.specs.Input.{no_node, fits64, encodable, Query, name_table, aname_table, fname_table}
use Rattle.echo_spec.specs.Widths.{index_width_of, value_width_of, array_width_limit, array_width_ok, widths_of}
use Rattle.echo_spec.specs.Names.{table_ok, names_ok}
use Rattle.echo_spec.specs.Tables.{find_call, arguments_inside, decl_vars_ok, signature, decl_func_ok, decl_funcs_ok, declarations_of}
use Rattle.echo_spec.specs.Trees.{reading_of}
use Rattle.echo_spec.specs.Walk.{refusal}
use Rattle.echo_spec.specs.Render.{render}
use Rattle.echo_spec.specs.Answers.{script}
use Rattle.echo_spec.specs.Accepted.{Checked, Accepted}
use Rattle.echo_spec.proofs.Accepted.{accepted}
use Rattle.echo_spec.proofs.NodeLaws.{index-bound, value-bound}
use Rattle.echo_spec.specs.ColumnLaws.{columns-aligned, names-counted}
use Rattle.echo_spec.specs.EncodingLaws.{Encodable, encodable-has}
use Rattle.echo_spec.proofs.EncodingLaws.{signature-fits}
use Rattle.echo_spec.specs.SortedTrees.{declarations_in}
use Rattle.echo_spec.proofs.SortedTrees.{roots-sorted}
use Rattle.readback.specs.Printable.{variable_names_in, array_names_in, function_names_in, names_permitted, width_ok, variable_ok, array_ok, function_ok, declarable, printable}
use Rattle.readback.specs.Rebuild.{rebuild}
use Rattle.rebuilt.specs.Accepted.{rebuilt-passes, rebuilt-script, rebuilt-encodable}

-- two tests that every element passes
every-both : (p r : ℕ → Bool) (xs : List ℕ) → T (every p xs) → T (every r xs) → T (every (λ x. p x && r x) xs)
every-both p r [] h k = tt
every-both p r (x ∷ xs) h k = and_T (p x && r x) _ (and_T (p x) (r x) (and_0 (p x) _ h) (and_0 (r x) _ k)) (every-both p r xs (and-1 (p x) _ h) (and-1 (r x) _ k))

-- a problem that the printer accepts, but for limits, the 32 bits of operands and room
pub record Acceptable (q : Query) : Type 0 where
  pub encoding : T (encodable q)
  pub query : refusal q.dag (length q.bits) q.roots ≡ 0

module _ (q : Query) (p : Acceptable q) where
  abbrev D : Declarations
  D = declarations_in q

  ok : Checked q.dag (widths_of q)
  ok = (accepted q.dag (widths_of q) q.roots p.query).checked

  has : Encodable q
  has = encodable-has q p.encoding

  names-are : variable_names_in (declarations_in q) ≡ name_table q.dag
  unfolding declarations_of
  names-are = map-tabulate (λ (v : Variable). v.name) (length (name_table q.dag)) _ ∙ tabulate-places [] (name_table q.dag)

  anames-are : array_names_in (declarations_in q) ≡ aname_table q.dag
  unfolding declarations_of
  anames-are = map-tabulate (λ (a : Array). a.name) (length (aname_table q.dag)) _ ∙ tabulate-places [] (aname_table q.dag)

  fnames-are : function_names_in (declarations_in q) ≡ fname_table q.dag
  unfolding declarations_of
  fnames-are = map-tabulate (λ (f : Function). f.name) (length (fname_table q.dag)) _ ∙ tabulate-places [] (fname_table q.dag)

  names-pass : T (names_permitted (variable_names_in (declarations_in q)) (array_names_in (declarations_in q)) (function_names_in (declarations_in q)))
  unfolding names_ok
  names-pass = subst T (λ i. names_permitted (sym names-are i) (sym anames-are i) (sym fnames-are i)) ok.names

  variables-pass : T (every variable_ok (declarations_in q).variables)
  unfolding declarations_of decl_vars_ok
  variables-pass =
      every-all variable_ok (declarations_in q).variables (all-tabulate variable_ok (length (name_table q.dag)) _ (λ i l.
      (let k : i < length q.dag.var_width = omega (arith, names-counted q.dag.names q.dag.name_start q.dag.name_len, (columns-aligned q.dag ok.columns).var_width) in
      and_T (ltb 0 (get_or q.dag.var_width i 0)) (fits64 (get_or q.dag.var_width i 0)) (every-place (ltb 0) 0 q.dag.var_width ok.variables i k) (every-place fits64 0 q.dag.var_width has.variables i k))))

  array-width : (w : ℕ) → (0 < w) × (w ≤ array_width_limit) → T (array_width_ok w)
  array-width w (a, b) = and_T (ltb 0 w) (leb w array_width_limit) (lt→ltb 0 w a) (le→leb w array_width_limit b)

  arrays-pass : T (every array_ok (declarations_in q).arrays)
  unfolding declarations_of
  arrays-pass =
      every-all array_ok (declarations_in q).arrays (all-tabulate array_ok (length (aname_table q.dag)) _ (λ k l.
      and_T (array_width_ok (index_width_of q.dag.array-widths.index k)) (array_width_ok (value_width_of q.dag.array-widths.value k))
      (array-width (index_width_of q.dag.array-widths.index k) (index-bound q.dag.array-widths ok.arrays k))
      (array-width (value_width_of q.dag.array-widths.value k) (value-bound q.dag.array-widths ok.arrays k))))

  function-passes : (g : ℕ) → T (decl_func_ok q.dag (widths_of q) g) → g < length q.dag.func_width → T (every width_ok (signature q.dag (widths_of q) g) && width_ok (get_or q.dag.func_width g 0))
  unfolding decl_func_ok
  function-passes g t l =
      let w : ℕ = get_or q.dag.func_width g 0 in
      let us : List ℕ = signature q.dag (widths_of q) g in
      and_T (every width_ok us) (width_ok w) (every-both (ltb 0) fits64 us (by_first (find_call q.dag.nodes g) (and-1 (ltb 0 w) _ t)) (signature-fits q ok.arrays g))
      (and_T (ltb 0 w) (fits64 w) (and_0 (ltb 0 w) _ t) (every-place fits64 0 q.dag.func_width has.functions g l))
    where
      by_first : (o : Option ℕ) → T (elim o [ none ↦ false | some c ↦ arguments_inside q.dag.side (get_or q.dag.nodes c no_node) && every (ltb 0) (signature q.dag (widths_of q) g) ])
          → T (every (ltb 0) (signature q.dag (widths_of q) g))
      by_first none t = absurd t
      by_first (some c) t = and-1 (arguments_inside q.dag.side (get_or q.dag.nodes c no_node)) _ t

  functions-pass : T (every function_ok (declarations_in q).functions)
  unfolding declarations_of decl_funcs_ok
  functions-pass =
      every-all function_ok (declarations_in q).functions (all-tabulate function_ok (length (fname_table q.dag)) _ (λ g l.
      function-passes g (every-at (decl_func_ok q.dag (widths_of q)) 0 (length (fname_table q.dag)) ok.functions g (omega arith) (omega arith))
      (omega (arith, names-counted q.dag.fnames q.dag.fname_start q.dag.fname_len, (columns-aligned q.dag ok.columns).func_width))))

  -- Its reading is printable.
  pub passed-printable : T (printable (reading_of q))
  unfolding printable declarable reading_of
  passed-printable =
      let D : Declarations = declarations_in q in
      let vs : Bool = every variable_ok D.variables in
      let rs : Bool = every array_ok D.arrays in
      let fs : Bool = every function_ok D.functions in
      and_T (declarable D) _
      (and_T (names_permitted (variable_names_in D) (array_names_in D) (function_names_in D)) (vs && (rs && fs)) names-pass (and_T vs (rs && fs) variables-pass (and_T rs fs arrays-pass functions-pass)))
      (roots-sorted q ok has.binary q.roots (accepted q.dag (widths_of q) q.roots p.query).walked)

-- ---------------------------------------------------------------- scripts

-- THE BYTES ARE A PROBLEM'S SCRIPT: of a problem with any number of nodes, bits, entries and any operand, but no width of 2^64 or more
abbrev pub ProblemScript : List ℕ → Type 0
ProblemScript b = (q : Query) × Acceptable q × (script q ≡ b)

-- they are a printable reading's text
abbrev pub PrintableText : List ℕ → Type 0
PrintableText b = (r : Reading) × T (printable r) × (render r ≡ b)

pub problem-script : (b : List ℕ) → ProblemScript b ↔ PrintableText b
unfolding script
problem-script b = (
  λ (q, p, e). (reading_of q, passed-printable q p, e),
  λ (r, h, e). (rebuild r, record { encoding = rebuilt-encodable r h; query = rebuilt-passes r h }, rebuilt-script r h ∙ e),
)
