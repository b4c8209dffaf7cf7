-- The bounds of problems, from document 01's limits: operators, terms and the length of the script.
use Rattle.std.specs.Prelude.{ℕ, zero, suc, ◌+◌, ◌*◌, ◌/◌, ◌^◌, ◌≤◌, ◌<◌, min, ◌≡◌, T, leb, take, drop}
use Rattle.std.proofs.Common.{mul-add, mul-one, leb→le, le→leb, length-append}
use mathlib.Core.List.{List, [], ◌∷◌, ◌++◌}
use Rattle.std.proofs.Math.Option.{Option, none as nothing, some}
use Rattle.std.proofs.Math.Nat.{mul-le-mul_left}
use native.Mathlib.Omega.{arith}
use Rattle.std.proofs.Math.ListN.{length, get_or, length-take, length-drop, length-map}
use Rattle.lists.specs.Bytes.{bytes}
use Rattle.lists.specs.Tests.{every, All, and_0, and-1, by-test}
use Rattle.lists.specs.Build.{tabulate, length-tabulate}
use Rattle.reading.specs.Trees.{Tree, Variable, Array, Function, Declarations, Reading}
use Rattle.echo_spec.specs.Refusals.{unless}
use Rattle.echo_spec.specs.Input.{
  Problem,
  nodes_within,
  column_within,
  arena_within,
  within_limits,
  Node,
  no_node,
  node_at,
  nodes_of,
  encoded,
  fits64,
  Dag,
  Query,
  largest,
  dag_of,
  query_of,
  name_table,
  aname_table,
  fname_table,
}
use Rattle.echo_spec.specs.Widths.{index_width_of, value_width_of, array_widths_ok, width_at, widths_of}
use Rattle.echo_spec.specs.Tables.{find_call, argument_widths, signature, variables_of, arrays_of, functions_of, declarations_of}
use Rattle.echo_spec.specs.Trees.{trees_over, tree_of, reading_of}
use Rattle.echo_spec.specs.Walk.{walk_roots, refusal}
use Rattle.echo_spec.specs.Render.{
  decimal,
  quoted,
  term,
  sort_text,
  sorts_text,
  variable_text,
  array_text,
  function_text,
  texts,
  assertions_text,
  logic_of,
  logic_text,
  declarations_text,
  render,
}
use Rattle.echo_spec.specs.Answers.{script, endless_with, endless_refusal}
use Rattle.echo_spec.specs.Accepted.{unless-passed, or_else-passed, Accepted}
use Rattle.echo_spec.proofs.Accepted.{accepted}
use Rattle.echo_spec.proofs.NodeLaws.{index-bound, value-bound}
use Rattle.echo_spec.specs.ColumnLaws.{names-counted}
use Rattle.echo_spec.proofs.EncodingLaws.{signature-fits}
use Rattle.sizes.specs.Size.{weigh_all, terms_entered, operators_entered}
use Rattle.sizes.specs.Sums.{sum_over}
use Rattle.sizes.proofs.Operators.{operators-bound, roots-exist}
use Rattle.sizes.proofs.Terms.{scaled-all, terms-bound}
use Rattle.sizes.specs.Count.{counts_below}
use Rattle.sizes.proofs.Count.{roots-count}
use Rattle.sizes.specs.Lengths.{all_get_d, decimal-few, quoted-length, name-short, Short, tree-short}

-- ---------------------------------------------------------------- lines

sort-length : (w : ℕ) → T (fits64 w) → length (sort_text w) ≤ 31
unfolding sort_text bytes
sort-length w t =
    let a = decimal-few w t in
    let b = length-append (decimal w) (bytes ")") in
    omega arith

sorts-length : (ws : List ℕ) → All fits64 ws → length (sorts_text ws) ≤ 32 * length ws
unfolding sorts_text bytes
sorts-length [] h = omega arith
sorts-length (w ∷ []) h = let a = sort-length w h.0 in omega arith
sorts-length (w ∷ v ∷ ws) h =
    let a = sort-length w h.0 in
    let b = sorts-length (v ∷ ws) h.1 in
    let c = length-append (sort_text w) (bytes " " ++ sorts_text (v ∷ ws)) in
    omega arith

variable-length : (v : Variable) → T (fits64 v.width) → length (variable_text v) ≤ 51 + length v.name
unfolding variable_text bytes
variable-length v t =
    let a = quoted-length v.name in
    let b = sort-length v.width t in
    let c = length-append (quoted v.name) (bytes " " ++ (sort_text v.width ++ bytes ")\n")) in
    let d = length-append (sort_text v.width) (bytes ")\n") in
    omega arith

array-length : (x : Array) → T (fits64 x.index) → T (fits64 x.value) → length (array_text x) ≤ 91 + length x.name
unfolding array_text bytes
array-length x t u =
    let a = quoted-length x.name in
    let b = sort-length x.index t in
    let c = sort-length x.value u in
    let d = length-append (quoted x.name) (bytes " (Array " ++ (sort_text x.index ++ (bytes " " ++ (sort_text x.value ++ bytes "))\n")))) in
    let e = length-append (sort_text x.index) (bytes " " ++ (sort_text x.value ++ bytes "))\n")) in
    let f = length-append (sort_text x.value) (bytes "))\n") in
    omega arith

function-length : (f : Function) → All fits64 f.arguments → T (fits64 f.width) → length (function_text f) ≤ 53 + length f.name + 32 * length f.arguments
unfolding function_text bytes
function-length f h t =
    let a = quoted-length f.name in
    let b = sorts-length f.arguments h in
    let c = sort-length f.width t in
    let d = length-append (quoted f.name) (bytes " (" ++ (sorts_text f.arguments ++ (bytes ") " ++ (sort_text f.width ++ bytes ")\n")))) in
    let e = length-append (sorts_text f.arguments) (bytes ") " ++ (sort_text f.width ++ bytes ")\n")) in
    let g = length-append (sort_text f.width) (bytes ")\n") in
    omega arith

-- n lines of at most b bytes
lines-length : {A : Type 0} (f : A → List ℕ) (b n : ℕ) (g : ℕ → A) → ((k : ℕ) → length (f (g k)) ≤ b) → length (texts f (tabulate n g)) ≤ b * n
unfolding texts
lines-length f b zero g h = omega arith
lines-length f b (suc n) g h =
    let p = lines-length f b n (λ i. g (suc i)) (λ k. h (suc k)) in
    let q = h 0 in
    let r = length-append (f (g 0)) (texts f (tabulate n (λ i. g (suc i)))) in
    let s = mul-add b n 1 in
    let t = mul-one b in
    omega arith

assertions-length : (k : ℕ) (tree : ℕ → Tree) → ((i : ℕ) → Short k (tree i)) → (roots : List ℕ)
    → length (assertions_text (trees_over tree roots)) ≤ 5 * length roots + weigh_all k k (trees_over tree roots)
unfolding assertions_text trees_over weigh_all bytes
assertions-length k tree short [] = omega arith
assertions-length k tree short (r ∷ roots) =
    let a = assertions-length k tree short roots in
    let b = short r in
    let d = length-append (term (tree r)) (bytes ")\n" ++ assertions_text (trees_over tree roots)) in
    omega arith

logic-length : (fs : List Function) (xs : List Array) → length (logic_of fs xs) ≤ 8
unfolding logic_of bytes
logic-length (f ∷ fs) xs = omega arith
logic-length [] (a ∷ xs) = omega arith
logic-length [] [] = omega arith

-- the lines besides those of the declarations and the assertions
render-length : (r : Reading) → let D : Declarations = r.declarations in
    length (render r)
    ≤ 33 + (length (texts variable_text D.variables) + (length (texts array_text D.arrays) + (length (texts function_text D.functions) + length (assertions_text r.assertions))))
unfolding render logic_text declarations_text bytes
render-length r =
    let D : Declarations = r.declarations in
    let a = logic-length D.functions D.arrays in
    let b = length-append (logic_of D.functions D.arrays) (bytes ")\n") in
    let c = length-append (logic_text D) (declarations_text D ++ (assertions_text r.assertions ++ bytes "(check-sat)\n")) in
    let e = length-append (declarations_text D) (assertions_text r.assertions ++ bytes "(check-sat)\n") in
    let f = length-append (texts variable_text D.variables) (texts array_text D.arrays ++ texts function_text D.functions) in
    let g = length-append (texts array_text D.arrays) (texts function_text D.functions) in
    let h = length-append (assertions_text r.assertions) (bytes "(check-sat)\n") in
    omega arith

-- ---------------------------------------------------------------- declarations

-- an element of a column, or 0 past its end
column_fits : (xs : List ℕ) → T (every fits64 xs) → (k : ℕ) → T (fits64 (get_or xs k 0))
column_fits xs t k = all_get_d fits64 xs 0 (by-test fits64 xs t) tt k

-- arenas of 16,384 bytes, and 8,192 side entries
module _ (q : Query) where
  abbrev d : Dag
  d = q.dag

  signature-length : (g : ℕ) → length (signature d (widths_of q) g) ≤ length d.side
  unfolding signature argument_widths
  signature-length g = by_first (find_call d.nodes g)
    where
      by_first : (o : Option ℕ) → length {A = ℕ} (elim o [ nothing ↦ [] | some c ↦ argument_widths (widths_of q) d.side (get_or d.nodes c no_node) ]) ≤ length d.side
      by_first nothing = omega arith
      by_first (some c) =
          let n : Node = get_or d.nodes c no_node in
          let a = length-map (take n.d (drop n.c d.side)) (width_at (widths_of q)) in
          let b = length-take n.d (drop n.c d.side) in
          let e = length-drop n.c d.side in
          omega arith

  variables-length : length d.names ≤ 16384 → T (every fits64 d.var_width) → length (texts variable_text (variables_of d)) ≤ 16435 * length (name_table d)
  variables-length h v =
      lines-length variable_text 16435 (length (name_table d)) (λ k. record { name = get_or (name_table d) k []; width = get_or d.var_width k 0 })
      (λ k.
      let a = variable-length (record { name = get_or (name_table d) k []; width = get_or d.var_width k 0 }) (column_fits d.var_width v k) in
      let b = name-short d.names d.name_start d.name_len k in
      omega arith)

  arrays-length : length d.anames ≤ 16384 → T (array_widths_ok d.array-widths) → length (texts array_text (arrays_of d)) ≤ 16475 * length (aname_table d)
  arrays-length h ok =
      let index : ℕ → ℕ = index_width_of d.array-widths.index in
      let value : ℕ → ℕ = value_width_of d.array-widths.value in
      lines-length array_text 16475 (length (aname_table d)) (λ k. record { name = get_or (aname_table d) k []; index = index k; value = value k })
      (λ k.
      let i = (index-bound d.array-widths ok k).1 in
      let v = (value-bound d.array-widths ok k).1 in
      let a = array-length (record { name = get_or (aname_table d) k []; index = index k; value = value k }) (le→leb (index k) largest (omega arith)) (le→leb (value k) largest (omega arith)) in
      let b = name-short d.anames d.aname_start d.aname_len k in
      omega arith)

  functions-length : length d.fnames ≤ 16384 → T (every fits64 d.func_width) → T (array_widths_ok d.array-widths) → length d.side ≤ 8192
      → length (texts function_text (functions_of d (widths_of q))) ≤ 278581 * length (fname_table d)
  functions-length h v ok l =
      lines-length function_text 278581 (length (fname_table d))
      (λ g. record { name = get_or (fname_table d) g []; arguments = signature d (widths_of q) g; width = get_or d.func_width g 0 })
      (λ g.
      let f : Function = record { name = get_or (fname_table d) g []; arguments = signature d (widths_of q) g; width = get_or d.func_width g 0 } in
      let e = signature-length g in
      let a = function-length f (by-test fits64 (signature d (widths_of q) g) (signature-fits q ok g)) (column_fits d.func_width v g) in
      let b = name-short d.fnames d.fname_start d.fname_len g in
      omega arith)

-- ---------------------------------------------------------------- problems

pub record Limits (p : Problem) : Type 0 where
  pub bytes : length p.nodes ≤ 34816
  pub nodes : length (nodes_of p.nodes) ≤ 2048
  pub bits : length p.bits ≤ 131072
  pub side : length p.side ≤ 8192
  pub roots : length p.roots ≤ 256
  pub variables : length p.name_start ≤ 512
  pub arrays : length p.aname_start ≤ 512
  pub functions : length p.fname_start ≤ 512
  pub names : length p.names ≤ 16384
  pub anames : length p.anames ≤ 16384
  pub fnames : length p.fnames ≤ 16384

limits_of : (p : Problem) → T (within_limits p) → Limits p
unfolding within_limits nodes_within column_within arena_within nodes_of
limits_of p t =
    let t₁ = and_0 (nodes_within p.nodes p.bits p.side) _ t in
    let t₂ = and-1 (nodes_within p.nodes p.bits p.side) _ t in
    let u₁ = and-1 (leb (length p.nodes) 34816) _ t₁ in
    let t₃ = and-1 (leb (length p.roots) 256) _ t₂ in
    let columns : List (List ℕ) =
    p.name_start ∷ p.name_len ∷ p.var_node ∷ p.var_width ∷ p.aname_start ∷ p.aname_len ∷ p.index_width ∷ p.value_width ∷ p.fname_start ∷ p.fname_len ∷ p.func_width ∷ [] in
    let cs = by-test column_within columns (and_0 (every column_within columns) _ t₃) in
    let arenas = by-test arena_within (p.names ∷ p.anames ∷ p.fnames ∷ []) (and-1 (every column_within columns) _ t₃) in
    let n = leb→le (length p.nodes) 34816 (and_0 (leb (length p.nodes) 34816) _ t₁) in
    let m = length-tabulate (length p.nodes / 17) (node_at p.nodes) in
    record {
      bytes = n;
      nodes = omega arith;
      bits = leb→le (length p.bits) 131072 (and_0 (leb (length p.bits) 131072) _ u₁);
      side = leb→le (length p.side) 8192 (and-1 (leb (length p.bits) 131072) _ u₁);
      roots = leb→le (length p.roots) 256 (and_0 (leb (length p.roots) 256) _ t₂);
      variables = leb→le (length p.name_start) 512 cs.0;
      arrays = leb→le (length p.aname_start) 512 cs.1.1.1.1.0;
      functions = leb→le (length p.fname_start) 512 cs.1.1.1.1.1.1.1.1.0;
      names = leb→le (length p.names) 16384 arenas.0;
      anames = leb→le (length p.anames) 16384 arenas.1.0;
      fnames = leb→le (length p.fnames) 16384 arenas.1.1.0;
    }

-- a problem that is printed where there is room
module _ (p : Problem) (ok : endless_refusal p ≡ 0) where
  abbrev q : Query
  q = query_of p

  parts : T (within_limits p) × (refusal (dag_of p) (length p.bits) p.roots ≡ 0)
  unfolding endless_refusal endless_with
  parts =
      let e₁ = or_else-passed (unless (within_limits p) 9) _ ok in
      let e₂ = or_else-passed (unless (encoded p.nodes p.bits) 8) _ e₁.1 in
      (unless-passed (within_limits p) 8 e₁.0, e₂.1)

  pub limits : Limits p
  limits = limits_of p parts.0

  passed : Accepted (dag_of p) (widths_of q) p.roots
  passed = accepted (dag_of p) (widths_of q) p.roots parts.1

  -- every node is well formed
  pub widths-all : length (widths_of q) ≡ length (dag_of p).nodes
  widths-all = passed.checked.widths

  -- terms other than variables and constants are entered no more often than there are nodes
  pub operators-entered : operators_entered q ≤ length (nodes_of p.nodes)
  unfolding operators_entered reading_of dag_of
  operators-entered = operators-bound (dag_of p) (widths_of q) p.bits p.roots passed

  -- how many terms are entered, at most: 256 roots, and 2,048 times three and 8,192 side entries
  pub terms-entered : terms_entered q ≤ 16783616
  unfolding terms_entered reading_of dag_of
  terms-entered =
      let l = limits in
      let a = terms-bound (dag_of p) (widths_of q) p.bits p.roots passed in
      let b = mul-le-mul_left (3 + length p.side) l.nodes in
      omega arith

  -- the terms of the trees are those that the walk enters
  pub terms-walked : terms_entered q ≡ sum_over (counts_below p.side (nodes_of p.nodes) (length (nodes_of p.nodes))) p.roots
  unfolding terms_entered reading_of dag_of walk_roots
  terms-walked = roots-count (dag_of p) (widths_of q) p.bits p.roots (roots-exist (dag_of p) (widths_of q) p.roots passed.walked)

  -- so that their count by a table over the records, held at the largest number of 64 bits, is exact
  pub terms-held : min (sum_over (counts_below p.side (nodes_of p.nodes) (length (nodes_of p.nodes))) p.roots) 18446744073709551615 ≡ terms_entered q
  terms-held =
      let a = terms-walked in
      let b = terms-entered in
      omega arith

  -- The widths of the columns have 64 bits, as they have in whatever is lent: 131,079 bytes for a term, and the lines before.
  module _ (vars : T (every fits64 p.var_width)) (funcs : T (every fits64 p.func_width)) where
    pub script-length : length (script q) ≤ 131079 * terms_entered q + 160000000
    unfolding script reading_of declarations_of dag_of terms_entered
    script-length =
        let l = limits in
        let a = render-length (reading_of q) in
        let b = variables-length q l.names vars in
        let c = arrays-length q l.anames passed.checked.arrays in
        let e = functions-length q l.fnames funcs passed.checked.arrays l.side in
        let lv = names-counted p.names p.name_start p.name_len in
        let la = names-counted p.anames p.aname_start p.aname_len in
        let lf = names-counted p.fnames p.fname_start p.fname_len in
        let f = assertions-length 131079 (tree_of (dag_of p) (widths_of q) p.bits)
        (tree-short q 131079 16384 (omega arith) (omega arith) (omega arith) l.names l.anames l.fnames passed.checked.arrays widths-all) p.roots in
        let s = scaled-all 131079 1 1 {l' = 131079} {o' = 131079} (omega arith) (omega arith) (trees_over (tree_of (dag_of p) (widths_of q) p.bits) p.roots) in
        omega arith

    -- length and count are exact in 64 bits
    pub script-in-64 : length (script q) < 2 ^ 64
    script-in-64 =
        let a = script-length in
        let b = terms-entered in
        omega arith
