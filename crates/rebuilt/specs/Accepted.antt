-- A printable reading is rebuilt as a problem that the printer accepts, limits and room left aside, and whose reading it is.
use Prim.Native.Nat.{ℕ, zero, suc, ◌+◌, ◌≤◌, ◌<◌}
use Rattle.std.specs.Prelude.{◌≡◌, Bool, ◌&&◌, get_or, drop}
use Rattle.std.proofs.Math.Path.{refl, ap, sym, subst}
use Rattle.std.proofs.Common.{◌∙◌, arith}
use mathlib.Core.List.{List, [], ◌∷◌, ◌++◌, map}
use Rattle.std.proofs.Math.Bool.{true, false}
use Rattle.std.proofs.Math.Option.{Option, none, some}
use lib.Dec.{T, leb, ltb, eqb, eqb_refl, nltb→le}
use Rattle.std.proofs.Math.ListN.{length, get_elem?, length-map, get_or-eq_default}
use Rattle.lists.specs.Tests.{every, All, and_0, and-1, and_T, T→true, true→T, every-all, every_append, every_map, every-place, places-every}
use Rattle.lists.specs.Places.{at_less, at-exists, at-get_or, get_or-at}
use Rattle.reading.specs.Trees.{Variable, Array, Function, Declarations, Reading}
use Rattle.echo_spec.specs.Refusals.{unless, ◌or_else◌}
use Rattle.echo_spec.specs.Shapes.{Shape, unknown, shapes, shape_of}
use Rattle.echo_spec.specs.Input.{Node, shape, no_node, fits64, node_encoded, encodable, Dag, Query}
use Rattle.echo_spec.specs.Widths.{array_width_limit, array_width_ok, array_widths_ok, ext_wf_of, widths_of}
use Rattle.echo_spec.specs.Names.{names_ok}
use Rattle.echo_spec.specs.Sharing.{unshared}
use Rattle.echo_spec.specs.Tables.{one_length, columns_ok, decl_vars_ok, decl_funcs_ok}
use Rattle.echo_spec.specs.Trees.{reading_of}
use Rattle.echo_spec.specs.Walk.{walk_roots, refusal_with, refusal}
use Rattle.echo_spec.specs.Render.{render}
use Rattle.echo_spec.specs.Answers.{script}
use Rattle.echo_spec.specs.TreeSorts.{TreeSort, rule_of, operator_sort}
use Rattle.readback.specs.Printable.{variable_names_in, array_names_in, function_names_in, names_permitted, width_ok, variable_ok, array_ok, function_ok, printable}
use Rattle.readback.specs.Rebuild.{
  Item,
  a_variable,
  a_constant,
  an_operator,
  a_select,
  a_call,
  node_of,
  placed,
  bits_in,
  side_in,
  joined,
  record_of,
  records_from,
  starts_counted_from,
  count_from,
  dag_for,
  rebuild,
}
use Rattle.rebuilt.specs.Layout.{laid, length-records, names-back, length-starts, length-count}
use Rattle.rebuilt.specs.Built.{no-variable, no-array, no-function, variable_at, array_at, function_at, sort_at, Built, Fine}
use Rattle.rebuilt.specs.Known.{Declared}
use Rattle.rebuilt.specs.Start.{Checked, checked, Rebuilt, rebuilt}
use Rattle.rebuilt.specs.Nodes.{node_width_of, parts}
use Rattle.rebuilt.specs.Accept.{node-facts, widths, roots-walk, variables-pass, functions-pass, declarations-are}
use Rattle.rebuilt.specs.Shared.{none-shared}

-- ---------------------------------------------------------------- columns

abbrev Long : ℕ → List (List ℕ) → Type 0
Long n [] = Unit
Long n (c ∷ cs) = (length c ≡ n) × Long n cs

every-long : (m n : ℕ) → m ≡ n → (cs : List (List ℕ)) → Long n cs → T (every (λ c. eqb (length c) m) cs)
every-long m n e [] h = tt
every-long m n e (c ∷ cs) (h, k) = and_T (eqb (length c) m) _ (rw (h ∙ sym e) (eqb_refl m)) (every-long m n e cs k)

one-length : (n : ℕ) (c : List ℕ) (cs : List (List ℕ)) → length c ≡ n → Long n cs → T (one_length (c ∷ cs))
unfolding one_length
one-length n c cs e h = and_T (eqb (length c) (length c)) _ (eqb_refl (length c)) (every-long (length c) n e cs h)

module _ (D : Declarations) (s : List Item) where
  columns-pass : T (columns_ok (dag_for D s))
  unfolding columns_ok dag_for
  columns-pass =
      let vs = variable_names_in D in
      let rs = array_names_in D in
      let fs = function_names_in D in
      let n : ℕ = length D.variables in
      let m : ℕ = length D.arrays in
      let k : ℕ = length D.functions in
      let ev : length vs ≡ n = length-map D.variables (λ (v : Variable). v.name) in
      let er : length rs ≡ m = length-map D.arrays (λ (a : Array). a.name) in
      let ef : length fs ≡ k = length-map D.functions (λ (f : Function). f.name) in
      let xs : List (List ℕ) = map length vs ∷ count_from 0 (length vs) ∷ map (λ (v : Variable). v.width) D.variables ∷ [] in
      let ys : List (List ℕ) = map length rs ∷ map (λ (a : Array). a.index) D.arrays ∷ map (λ (a : Array). a.value) D.arrays ∷ [] in
      let zs : List (List ℕ) = map length fs ∷ map (λ (f : Function). f.width) D.functions ∷ [] in
      let lx : Long n xs = (length-map vs length ∙ ev, (length-count 0 (length vs) ∙ ev, (length-map D.variables (λ (v : Variable). v.width), tt))) in
      let ly : Long m ys = (length-map rs length ∙ er, (length-map D.arrays (λ (a : Array). a.index), (length-map D.arrays (λ (a : Array). a.value), tt))) in
      let lz : Long k zs = (length-map fs length ∙ ef, (length-map D.functions (λ (f : Function). f.width), tt)) in
      and_T (one_length (starts_counted_from 0 vs ∷ xs)) _ (one-length n (starts_counted_from 0 vs) xs (length-starts 0 vs ∙ ev) lx)
      (and_T (one_length (starts_counted_from 0 rs ∷ ys)) (one_length (starts_counted_from 0 fs ∷ zs)) (one-length m (starts_counted_from 0 rs) ys (length-starts 0 rs ∙ er) ly)
      (one-length k (starts_counted_from 0 fs) zs (length-starts 0 fs ∙ ef) lz))

  names-pass : T (names_permitted (variable_names_in D) (array_names_in D) (function_names_in D)) → T (names_ok (dag_for D s))
  unfolding names_ok dag_for
  names-pass h = subst T (λ i. names_permitted (sym (names-back (variable_names_in D)) i) (sym (names-back (array_names_in D)) i) (sym (names-back (function_names_in D)) i)) h

  module _ (dd : Declared D) where
    array-columns : (xs : List Array) → ((k : ℕ) → k < length xs → T (array_ok (get_or xs k no-array)))
        → T (every array_width_ok (map (λ (a : Array). a.index) xs)) × T (every array_width_ok (map (λ (a : Array). a.value) xs))
    array-columns [] h = (tt, tt)
    array-columns (x ∷ xs) h =
        let t = h 0 (omega arith) in
        let (a, b) = array-columns xs (λ k l. h (suc k) (omega arith)) in
        (and_T (array_width_ok x.index) _ (and_0 (array_width_ok x.index) (array_width_ok x.value) t) a, and_T (array_width_ok x.value) _ (and-1 (array_width_ok x.index) (array_width_ok x.value) t) b)

    arrays-pass : T (array_widths_ok (dag_for D s).array-widths)
    unfolding array_widths_ok dag_for
    arrays-pass =
        let (a, b) = array-columns D.arrays dd.arrays in
        and_T (every array_width_ok (map (λ (a : Array). a.index) D.arrays)) _ a b

-- ---------------------------------------------------------------- refusals and the reading

module _ (r : Reading) (h : T (printable r)) where
  abbrev D : Declarations
  D = r.declarations

  abbrev items : List Item
  items = (placed r).items

  abbrev ws : List ℕ
  ws = map node_width_of (rebuilt r h).sorts

  widths-are : widths_of (rebuild r) ≡ map node_width_of (rebuilt r h).sorts
  unfolding rebuild dag_for
  widths-are = widths r.declarations (placed r).items (rebuilt r h).sorts (rebuilt r h).built

  sized : length (map node_width_of (rebuilt r h).sorts) ≡ length (dag_for r.declarations (placed r).items).nodes
  unfolding dag_for
  sized = length-map (rebuilt r h).sorts node_width_of ∙ sym (rebuilt r h).built.sized ∙ sym (length-records (placed r).items 0 0)

  sharing-passes : T (unshared (dag_for r.declarations (placed r).items).nodes (dag_for r.declarations (placed r).items).side (map (node_of (placed r).items) (placed r).refs))
  unfolding dag_for
  sharing-passes = none-shared r h

  passes : refusal_with (dag_for r.declarations (placed r).items) (map node_width_of (rebuilt r h).sorts) (map (node_of (placed r).items) (placed r).refs) ≡ 0
  unfolding refusal_with walk_roots
  passes =
      let b = rebuilt r h in
      let c = checked r h in
      let s : List Item = (placed r).items in
      let us : List ℕ = map node_width_of b.sorts in
      let roots : List ℕ = map (node_of s) (placed r).refs in
      let d : Dag = dag_for r.declarations s in
      let t₀ = T→true (columns_ok d) (columns-pass r.declarations s) in
      let t₁ = T→true (array_widths_ok d.array-widths) (arrays-pass r.declarations s c.declares) in
      let t₂ = T→true (eqb (length us) (length d.nodes)) (rw sized (eqb_refl (length d.nodes))) in
      let t₃ = T→true (names_ok d) (names-pass r.declarations s c.names) in
      let t₄ = T→true (unshared d.nodes d.side roots) sharing-passes in
      let t₅ = T→true (decl_vars_ok d) (variables-pass r.declarations s b.sorts b.built c.declares) in
      let t₆ = T→true (decl_funcs_ok d us) (functions-pass r.declarations s b.sorts b.built c.declares b.called) in
      let t₇ = (roots-walk r.declarations s b.sorts b.built b.variables r.assertions (placed r).refs c.assertions b.refs).0 in
      rw (t₀, t₁, t₂, t₃, t₄, t₅, t₆) t₇

  -- Refusals 1 to 7 and 12 do not occur.
  pub rebuilt-passes : refusal (rebuild r).dag (length (rebuild r).bits) (rebuild r).roots ≡ 0
  unfolding rebuild
  rebuilt-passes =
      ap (λ (us : List ℕ). refusal_with (dag_for r.declarations (placed r).items) us (map (node_of (placed r).items) (placed r).refs)) widths-are ∙ passes

  -- Its reading is the reading.
  pub rebuilt-reading : reading_of (rebuild r) ≡ r
  unfolding reading_of rebuild
  rebuilt-reading =
      let b = rebuilt r h in
      let s : List Item = (placed r).items in
      let p = declarations-are r.declarations s b.sorts b.built (checked r h).declares b.called in
      let q = (roots-walk r.declarations s b.sorts b.built b.variables r.assertions (placed r).refs (checked r h).assertions b.refs).1 in
      rw widths-are (λ i. record { declarations = p i; assertions = q i })

  -- Its script is the reading's text.
  pub rebuilt-script : script (rebuild r) ≡ render r
  unfolding script
  rebuilt-script = ap render rebuilt-reading

-- ---------------------------------------------------------------- encoding

places-joined : (p : ℕ → Bool) (f : Item → List ℕ) (s : List Item) → ((i : ℕ) (x : Item) → get_elem? s i ≡ some x → T (every p (f x))) → T (every p (joined f s))
unfolding joined
places-joined p f [] h = tt
places-joined p f (x ∷ s) h =
    rw (every_append p (f x) (joined f s)) (and_T (every p (f x)) _ (h 0 x refl) (places-joined p f s (λ i y e. h (suc i) y e)))

module _ (D : Declarations) (s : List Item) (ss : List TreeSort) (built : Built D s ss) where
  known-kind : (k : ℕ) (ks : List ℕ) (zs : List TreeSort) (σ : TreeSort) → operator_sort (shape_of k) ks (map some zs) ≡ some σ → T (ltb k 39)
  unfolding shapes rule_of
  known-kind k ks zs σ h = by-test (ltb k 39) refl
    where
      by-test : (b : Bool) → ltb k 39 ≡ b → T (ltb k 39)
      by-test true e = true→T e
      by-test false e =
          let l : 39 ≤ k = nltb→le k 39 (rw e tt) in
          let u : shape_of k ≡ unknown = get_or-eq_default shapes unknown l in
          let h' : operator_sort unknown ks (map some zs) ≡ some σ = subst (λ (x : Shape). operator_sort x ks (map some zs) ≡ some σ) u h in
          absurd (parts unknown ks zs σ h').condition

  kind-known : (i b c : ℕ) (x : Item) → Fine D s ss i x → T (ltb (record_of b c x).kind 39)
  unfolding record_of
  kind-known i b c (a_variable w) f = tt
  kind-known i b c (a_constant bs) f = tt
  kind-known i b c (an_operator k ks xs ms) (lo, e, am) = known-kind k ks (map (sort_at ss) xs) (sort_at ss i) e
  kind-known i b c (a_select a j ps) f = tt
  kind-known i b c (a_call g w xs) f = tt

  pub nodes-encoded : T (every node_encoded (records_from 0 0 s))
  unfolding node_encoded
  nodes-encoded =
      places-every node_encoded no_node (records_from 0 0 s) (λ i l.
      (let m : i < length s = rw (length-records s 0 0) at l in
      let (x, f) = at-exists s i m in
      let la = laid s i x f 0 0 in
      let k : T (ltb (get_or (records_from 0 0 s) i no_node).kind 39) = rw la.node (kind-known i _ _ x (built.fine i x f)) in
      and_T (ltb (get_or (records_from 0 0 s) i no_node).kind 39) _ k (node-facts D s ss built i x f).encoding))

  bits_of : (i : ℕ) (x : Item) → Fine D s ss i x → T (every (λ b. leb b 1) (bits_in x))
  unfolding bits_in
  bits_of i (a_variable w) f = tt
  bits_of i (a_constant bs) (q, r) = every-all (λ b. leb b 1) bs q
  bits_of i (an_operator k ks xs ms) f = tt
  bits_of i (a_select a j ps) f = tt
  bits_of i (a_call g w xs) f = tt

  pub bits-binary : T (every (λ b. leb b 1) (joined bits_in s))
  bits-binary = places-joined (λ b. leb b 1) bits_in s (λ i x e. bits_of i x (built.fine i x e))

small-fits : (w : ℕ) → T (array_width_ok w) → T (fits64 w)
small-fits w h = lib.Dec.le→leb w 18446744073709551615 (omega (arith, lib.Dec.leb→le w array_width_limit (and-1 (ltb 0 w) (leb w array_width_limit) h)))

column64 : {A : Type 0} (p : A → Bool) (d : A) (f : A → ℕ) → ((x : A) → T (p x) → T (fits64 (f x))) → (xs : List A) → ((k : ℕ) → k < length xs → T (p (get_or xs k d))) → T (every fits64 (map f xs))
column64 p d f g [] h = tt
column64 p d f g (x ∷ xs) h = and_T (fits64 (f x)) _ (g x (h 0 (omega arith))) (column64 p d f g xs (λ k l. h (suc k) (omega arith)))

-- It could be a problem's, the limits of 9 and the 32 bits of operands left aside.
pub rebuilt-encodable : (r : Reading) → T (printable r) → T (encodable (rebuild r))
unfolding encodable rebuild dag_for
rebuilt-encodable r h =
    let D : Declarations = r.declarations in
    let b = rebuilt r h in
    let c = (checked r h).declares in
    let s = (placed r).items in
    let vs : List ℕ = map (λ (v : Variable). v.width) D.variables in
    let fs : List ℕ = map (λ (f : Function). f.width) D.functions in
    let is : List ℕ = map (λ (a : Array). a.index) D.arrays in
    let us : List ℕ = map (λ (a : Array). a.value) D.arrays in
    let tv : T (every fits64 vs) = column64 variable_ok no-variable (λ (v : Variable). v.width) (λ v t. and-1 (ltb 0 v.width) (fits64 v.width) t) D.variables c.variables in
    let tf : T (every fits64 fs) = column64 function_ok no-function (λ (f : Function). f.width) (λ f t. and-1 (ltb 0 f.width) (fits64 f.width) (and-1 (every width_ok f.arguments) (width_ok f.width) t)) D.functions c.functions in
    let ti : T (every fits64 is) = column64 array_ok no-array (λ (a : Array). a.index) (λ a t. small-fits a.index (and_0 (array_width_ok a.index) (array_width_ok a.value) t)) D.arrays c.arrays in
    let tu : T (every fits64 us) = column64 array_ok no-array (λ (a : Array). a.value) (λ a t. small-fits a.value (and-1 (array_width_ok a.index) (array_width_ok a.value) t)) D.arrays c.arrays in
    and_T (every node_encoded (records_from 0 0 s)) _ (nodes-encoded D s b.sorts b.built)
    (and_T (every (λ b. leb b 1) (joined bits_in s)) _ (bits-binary D s b.sorts b.built)
    (and_T (every fits64 vs) _ tv (and_T (every fits64 fs) _ tf (and_T (every fits64 is) _ ti tu))))
