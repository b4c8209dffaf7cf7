-- The laws of heads: what is known of a node that passes, by its shape.
use Prim.Native.Nat.{ℕ, ◌+◌, ◌-◌, ◌%◌, ◌≤◌, ◌<◌}
use mathlib.Core.Path.{◌≡◌, refl, sym, ap, ◌∙◌, subst}
use mathlib.Core.Bool.{true, false}
use mathlib.Core.List.{List, [], ◌∷◌, ◌++◌}
use mathlib.Core.Option.{Option, none, some}
use native.Mathlib.Omega.{arith}
use lib.Dec.{T, leb, ltb, eqb, ltb→lt, leb→le, eqb→eq}
use lib.ListN.{length, get_or, take, drop}
use Rattle.lists.specs.Bytes.{bytes}
use Rattle.lists.specs.Tests.{every, and_0, and-1}
use Rattle.lists.specs.Build.{find-bound}
use Rattle.echo_spec.specs.Shapes.{Shape, var, const, rotation, extraction, extension, select, call, unknown, shapes, is_leaf}
use Rattle.echo_spec.specs.Input.{array_widths, Node, shape, nodes_of, names_of, Dag, dag_of, fits64, name_table, aname_table, fname_table}
use Rattle.echo_spec.specs.Refusals.{unless}
use Rattle.echo_spec.specs.Widths.{width_at, wf_as, node_wf}
use Rattle.echo_spec.specs.WidthLaws.{Sized, sized, bin-operands}
use Rattle.echo_spec.specs.Tables.{find_node}
use Rattle.echo_spec.specs.Trees.{constant_bits, bits_value, amount_of, variable_name}
use Rattle.echo_spec.specs.Walk.{variable_ok, rotation_ok, call_ok, asked_as, asked}
use Rattle.echo_spec.specs.Accepted.{unless-passed, or_else-passed}
use Rattle.echo_spec.specs.Render.{symbol_of, binary_digits, quoted, operator_text}
use Rattle.blast_kernel.specs.Kinds.{shape_in}
use Rattle.blast_kernel.specs.declared.Extension as extensions
use Rattle.blast_kernel.specs.declared.Rotation as rotations
use Rattle.blast_kernel.specs.declared.Shape as code
use Rattle.blast_kernel.specs.declared.Shape.TheVariants as codes
use Rattle.std.specs.Prelude.{Option as Maybe, Some, None, IsSome}
use Rattle.echo_tables.specs.declared.Mark.{Mark}
use Rattle.echo_tables.specs.Found.{found_of, found_some}
use Rattle.echo_walk.proofs.Laws.{shape-is}
use Rattle.echo_walk.specs.declared.Walk.{Walk}
use Rattle.echo_names.specs.NameTables.{length-names_of}
use Rattle.echo_lines.specs.Heads.{repeated, call_head}
use Rattle.echo_bytes.specs.Page.{Page, written}
use Rattle.echo_bytes.specs.Laws.{written_then}
use Rattle.echo_walk.specs.Texts.{head_as, head_of}
use Rattle.echo_walk.specs.Walks.{problem_in, dag_in, widths_in, mark_in, node_within, head_found_at, Taken, Constant}

-- ---------------------------------------------------------------- a node of each shape that passes

variable-name : (d : Dag) (i k : ℕ) → find_node d.var_node i ≡ some k → variable_name d i ≡ get_or (name_table d) k []
unfolding variable_name
variable-name d i k e = rw (e, variable_name) refl

module _ (W : Walk) (i : ℕ) where
  -- a variable has an entry
  entry_of : Taken W i var → (k : ℕ) × (find_node (problem_in W).var_node i ≡ some k)
  unfolding asked_as dag_of variable_ok
  entry_of p = by-entry (find_node (problem_in W).var_node i) refl (unless-passed (variable_ok (dag_in W) i (node_within W i)) 3 p.taken)
    where
      by-entry : (o : Option ℕ) → find_node (problem_in W).var_node i ≡ o
          → T (elim o [ none ↦ false | some k ↦ eqb (get_or (problem_in W).var_width k 0) (node_within W i).a ]) → (k : ℕ) × (find_node (problem_in W).var_node i ≡ some k)
      by-entry none e h = absurd h
      by-entry (some k) e h = (k, e)

  -- r is what was looked up of it
  module _ (p : Taken W i var) (r : Maybe ℕ) (e : r ≡ get_or W.entries.now i None) where
    entry-is : r ≡ found_of (find_node (problem_in W).var_node i)
    entry-is = e ∙ W.ready.entered i p.here

    pub entry-some : IsSome r
    entry-some = rw (entry-is ∙ ap found_of (entry_of p).1) refl

    module _ {k : ℕ} (q : r ≡ Some k) where
      own-entry : find_node (problem_in W).var_node i ≡ some k
      own-entry = found_some (find_node (problem_in W).var_node i) (sym q ∙ entry-is)

      pub entry-inside : k < length (problem_in W).name_start
      unfolding find_node dag_of
      entry-inside =
          let b : k < 0 + length (problem_in W).var_node = (find-bound (λ x. eqb x i) 0 (problem_in W).var_node k own-entry).1 in
          omega (arith, W.ready.aligned.var_node)

      pub name-of-var : {x : List ℕ} → x ≡ get_or (names_of (problem_in W).names (problem_in W).name_start (problem_in W).name_len) k [] → x ≡ variable_name (dag_in W) i
      unfolding dag_of
      name-of-var ex = ex ∙ sym (variable-name (dag_in W) i k own-entry)

  pub head-of-var : {x : List ℕ} → x ≡ variable_name (dag_in W) i → {g h : Page} (P : Page) → g ≡ written P (32 ∷ 124 ∷ x) → h ≡ written g (124 ∷ [])
      → h ≡ written P (32 ∷ head_found_at W i var)
  unfolding head_as quoted bytes
  head-of-var {x} e P v w = written_then P (32 ∷ 124 ∷ x) (124 ∷ []) v w ∙ ap (λ (m : List ℕ). written P (32 ∷ quoted m)) e

  pub array-inside : Taken W i select → {m : Node} → m ≡ node_within W i → m.a < length (problem_in W).aname_start
  unfolding asked_as dag_of
  array-inside p e =
      let l = ltb→lt (node_within W i).a (length (names_of (problem_in W).anames (problem_in W).aname_start (problem_in W).aname_len)) (unless-passed (ltb (node_within W i).a (length (names_of (problem_in W).anames (problem_in W).aname_start (problem_in W).aname_len))) 0 p.taken) in
      rw e (rw length-names_of at l)

  pub head-of-select : {m : Node} → m ≡ node_within W i → {x : List ℕ} → x ≡ get_or (aname_table (dag_in W)) m.a []
      → {q : Page} (P : Page) → q ≡ written P (bytes "(select " ++ (repeated m.d (bytes "(store ") ++ quoted x)) → q ≡ written P (head_found_at W i select)
  unfolding head_as dag_of
  head-of-select e ex P w = w ∙ rw (ex, e) refl

  pub function-inside : Taken W i call → {m : Node} → m ≡ node_within W i → m.a < length (problem_in W).fname_start
  unfolding asked_as dag_of
  function-inside p e =
      let a = or_else-passed (unless (ltb (node_within W i).a (length (names_of (problem_in W).fnames (problem_in W).fname_start (problem_in W).fname_len))) 1) (unless (call_ok (dag_in W) (widths_in W) (node_within W i)) 7) p.taken in
      let l = ltb→lt (node_within W i).a (length (names_of (problem_in W).fnames (problem_in W).fname_start (problem_in W).fname_len)) (unless-passed (ltb (node_within W i).a (length (names_of (problem_in W).fnames (problem_in W).fname_start (problem_in W).fname_len))) 0 a.0) in
      rw e (rw length-names_of at l)

  pub head-of-call : {m : Node} → m ≡ node_within W i → {x : List ℕ} → x ≡ get_or (fname_table (dag_in W)) m.a []
      → {q : Page} (P : Page) → q ≡ written P (call_head m.d (quoted x)) → q ≡ written P (head_found_at W i call)
  unfolding head_as dag_of
  head-of-call e ex P w = w ∙ rw (ex, e) refl

  pub node-inside : {s : Shape} → Taken W i s → i < length (nodes_of (problem_in W).nodes)
  unfolding dag_of
  node-inside p = omega (arith, p.here, W.ready.counted)

  -- a rotation's amount is a node below it, a constant, and the width is from 1 to 65,536
  amount-ok : Taken W i rotation → T (rotation_ok (dag_in W) (widths_in W) i (node_within W i))
  unfolding asked_as
  amount-ok p = unless-passed (rotation_ok (dag_in W) (widths_in W) i (node_within W i)) 4 p.taken

  amount-below : Taken W i rotation → (node_within W i).b < i
  unfolding wf_as
  amount-below p = (bin-operands (widths_in W) i p.here (node_within W i).a (node_within W i).b p.formed).1

  amount-sized : Taken W i rotation → T (wf_as (length (problem_in W).bits) (array_widths (problem_in W)) (problem_in W).side (take (node_within W i).b (widths_in W)) (node_within W (node_within W i).b) (shape (node_within W (node_within W i).b)))
  unfolding dag_of node_wf
  amount-sized p =
      let b : ℕ = (node_within W i).b in
      let l : b < length (widths_in W) = omega (arith, amount-below p, p.here) in
      let z : Sized (length (problem_in W).bits) (array_widths (problem_in W)) (problem_in W).side (widths_in W) b (node_within W b) =
      subst (λ (ws : List ℕ). Sized (length (problem_in W).bits) (array_widths (problem_in W)) (problem_in W).side ws b (node_within W b)) (sym W.ready.widths)
      (sized (length (problem_in W).bits) (array_widths (problem_in W)) (problem_in W).side (nodes_of (problem_in W).nodes) b (rw W.ready.widths at l)) in
      z.wf

  amount-const : Taken W i rotation → shape (node_within W (node_within W i).b) ≡ const
  unfolding rotation_ok dag_of shapes
  amount-const p =
      let k = and-1 (leb (width_at (widths_in W) i) 65536) _ (and-1 (ltb 0 (width_at (widths_in W) i)) _ (amount-ok p)) in
      rw (eqb→eq (node_within W (node_within W i).b).kind 1 k) refl

  -- the constant that a rotation's node names, and the width
  pub amount-constant : Taken W i rotation → {m : Node} → m ≡ node_within W i → Constant W m.b
  unfolding wf_as
  amount-constant p {m} e =
      let x : Node = node_within W (node_within W i).b in
      let c : T (wf_as (length (problem_in W).bits) (array_widths (problem_in W)) (problem_in W).side (take (node_within W i).b (widths_in W)) x const) = subst (λ (s : Shape). T (wf_as (length (problem_in W).bits) (array_widths (problem_in W)) (problem_in W).side (take (node_within W i).b (widths_in W)) x s)) (amount-const p) (amount-sized p) in
      rw e record {
        here = omega (arith, amount-below p, node-inside p);
        within = leb→le (x.a + x.b) (length (problem_in W).bits) (and-1 (fits64 x.b) _ (and-1 (ltb 0 x.b) _ c));
        binary = W.ready.binary;
      }

  pub rotation-width : Taken W i rotation → {w : ℕ} → w ≡ get_or (widths_in W) i 0 → (0 < w) × (w ≤ 65536)
  unfolding rotation_ok
  rotation-width p {w} q =
      let r = amount-ok p in (
        rw q (ltb→lt 0 (width_at (widths_in W) i) (and_0 (ltb 0 (width_at (widths_in W) i)) _ r)),
        rw q (leb→le (width_at (widths_in W) i) 65536 (and_0 (leb (width_at (widths_in W) i) 65536) _ (and-1 (ltb 0 (width_at (widths_in W) i)) _ r))),
      )

  pub amount-is : {m : Node} → m ≡ node_within W i → {b : List ℕ} → b ≡ constant_bits (problem_in W).bits (node_within W m.b) → {w : ℕ} → w ≡ get_or (widths_in W) i 0
      → {k : ℕ} → k ≡ bits_value b % w → k ≡ amount_of (dag_in W) (widths_in W) (problem_in W).bits i (node_within W i)
  unfolding amount_of dag_of
  amount-is e f g h = h ∙ rw (g, f, e) refl

  -- the record that was read is the node's
  module _ {m : Node} (e : m ≡ node_within W i) {q : Page} (P : Page) where
    pub head-of-rotation : {k : ℕ} → k ≡ amount_of (dag_in W) (widths_in W) (problem_in W).bits i (node_within W i)
        → q ≡ written P (bytes "(" ++ operator_text (symbol_of m.kind) (k ∷ [])) → q ≡ written P (head_found_at W i rotation)
    unfolding head_as
    head-of-rotation h w = w ∙ rw (h, e) refl

    pub head-of-extraction : q ≡ written P (bytes "(" ++ operator_text (symbol_of m.kind) (m.a ∷ m.b ∷ [])) → q ≡ written P (head_found_at W i extraction)
    unfolding head_as
    head-of-extraction w = w ∙ rw e refl

    pub head-of-extension : q ≡ written P (bytes "(" ++ operator_text (symbol_of m.kind) (m.b ∷ [])) → q ≡ written P (head_found_at W i extension)
    unfolding head_as
    head-of-extension w = w ∙ rw e refl

true-not-false : true ≡ false → ⊥
true-not-false h = let y : ◌≡◌ {A = ℕ} 0 1 = cc in omega arith

-- ---------------------------------------------------------------- the head of node i

module _ (W : Walk) (i : ℕ) (here : i < length (widths_in W)) (free : asked (dag_in W) (widths_in W) i ≡ 0) where
  pub node-here : i < length (nodes_of (problem_in W).nodes)
  unfolding dag_of
  node-here = omega (arith, W.ready.counted)

  -- the node's shape, from that of its mark
  pub shape-at : {r : code.Shape} → r ≡ (mark_in W i).shape → shape (node_within W i) ≡ shape_in r
  shape-at e = sym (shape-is W i here) ∙ ap shape_in (sym e)

  -- and from the mark that was looked up
  pub shape-of : {m : Mark} → m ≡ mark_in W i → {r : code.Shape} → m.shape ≡ r → shape (node_within W i) ≡ shape_in r
  shape-of q e = shape-at (sym e ∙ ap (λ (m : Mark). m.shape) q)

  -- a leaf that is no variable is a constant
  pub const-found : T (is_leaf (shape (node_within W i))) → {m : Mark} → m ≡ mark_in W i → (m.shape ≡ codes.Var → ⊥) → shape (node_within W i) ≡ const
  unfolding is_leaf
  const-found l {m} q f = shape-of q (second m.shape (subst (λ (s : Shape). T (is_leaf s)) (shape-of q refl) l) f)
    where
      second : (r : code.Shape) → T (is_leaf (shape_in r)) → (r ≡ codes.Var → ⊥) → r ≡ codes.Const
      second codes.Var h g = absurd (g refl)
      second codes.Const h g = refl
      second (codes.Binary o) h g = absurd h
      second (codes.Rotation o) h g = absurd h
      second codes.Extraction h g = absurd h
      second codes.Concat h g = absurd h
      second (codes.Extension o) h g = absurd h
      second codes.Ite h g = absurd h
      second (codes.Comparison o) h g = absurd h
      second codes.Negation h g = absurd h
      second (codes.Connective o) h g = absurd h
      second (codes.Unary o) h g = absurd h
      second codes.Select h g = absurd h
      second codes.Call h g = absurd h
      second codes.Unknown h g = absurd h

  formed-as : (s : Shape) → shape (node_within W i) ≡ s → T (wf_as (length (problem_in W).bits) (array_widths (problem_in W)) (problem_in W).side (take i (widths_in W)) (node_within W i) s)
  unfolding dag_of node_wf
  formed-as s e =
      let z : Sized (length (problem_in W).bits) (array_widths (problem_in W)) (problem_in W).side (widths_in W) i (node_within W i) =
      subst (λ (ws : List ℕ). Sized (length (problem_in W).bits) (array_widths (problem_in W)) (problem_in W).side ws i (node_within W i)) (sym W.ready.widths)
      (sized (length (problem_in W).bits) (array_widths (problem_in W)) (problem_in W).side (nodes_of (problem_in W).nodes) i (rw W.ready.widths at here)) in
      subst (λ (x : Shape). T (wf_as (length (problem_in W).bits) (array_widths (problem_in W)) (problem_in W).side (take i (widths_in W)) (node_within W i) x)) e z.wf

  pub passed-as : {s : Shape} → shape (node_within W i) ≡ s → Taken W i s
  unfolding asked dag_of
  passed-as {s} e = record {
    here = here;
    shaped = e;
    formed = formed-as s e;
    taken = subst (λ (x : Shape). asked_as (dag_in W) (widths_in W) i (node_within W i) x ≡ 0) e free;
  }

  pub constant-as : shape (node_within W i) ≡ const → Constant W i
  unfolding wf_as
  constant-as e = record {
    here = node-here;
    within = (leb→le ((node_within W i).a + (node_within W i).b) (length (problem_in W).bits) (and-1 (fits64 (node_within W i).b) _ (and-1 (ltb 0 (node_within W i).b) _ (formed-as const e))));
    binary = W.ready.binary;
  }

  -- the head by the shape is the head
  pub head_in : {s : Shape} → shape (node_within W i) ≡ s → {q : Page} (P : Page) {h : List ℕ} → h ≡ head_found_at W i s → q ≡ written P (32 ∷ h)
      → q ≡ written P (32 ∷ head_of (dag_in W) (widths_in W) (problem_in W).bits i)
  unfolding head_of dag_of
  head_in {s} e P f w = w ∙ ap (λ (t : List ℕ). written P (32 ∷ t)) (f ∙ ap (head_found_at W i) (sym e))

  -- behind a blank
  pub head-after : {s : Shape} → shape (node_within W i) ≡ s → {q r : Page} (P : Page) {h : List ℕ} → h ≡ head_found_at W i s → q ≡ written P (32 ∷ []) → r ≡ written q h
      → r ≡ written P (32 ∷ head_of (dag_in W) (widths_in W) (problem_in W).bits i)
  head-after e P {h} f v w = head_in e P f (written_then P (32 ∷ []) h v w)

  pub const-head : shape (node_within W i) ≡ const → {q : Page} (P : Page) → q ≡ written P (bytes " #b" ++ binary_digits (constant_bits (problem_in W).bits (node_within W i)))
      → q ≡ written P (32 ∷ head_of (dag_in W) (widths_in W) (problem_in W).bits i)
  unfolding head_as bytes
  const-head e P w = head_in e P refl w

  -- the shapes that have no arm of their own
  plain-as : (s : code.Shape) → shape (node_within W i) ≡ shape_in s → is_leaf (shape_in s) ≡ false
      → ((o : rotations.Rotation) → s ≡ codes.Rotation o → ⊥) → (s ≡ codes.Extraction → ⊥) → ((o : extensions.Extension) → s ≡ codes.Extension o → ⊥) → (s ≡ codes.Select → ⊥) → (s ≡ codes.Call → ⊥)
      → bytes "(" ++ symbol_of (node_within W i).kind ≡ head_found_at W i (shape_in s)
  unfolding is_leaf head_as wf_as
  plain-as codes.Var f a c g h j k = absurd (true-not-false a)
  plain-as codes.Const f a c g h j k = absurd (true-not-false a)
  plain-as (codes.Binary o) f a c g h j k = refl
  plain-as (codes.Rotation o) f a c g h j k = absurd (c o refl)
  plain-as codes.Extraction f a c g h j k = absurd (g refl)
  plain-as codes.Concat f a c g h j k = refl
  plain-as (codes.Extension o) f a c g h j k = absurd (h o refl)
  plain-as codes.Ite f a c g h j k = refl
  plain-as (codes.Comparison o) f a c g h j k = refl
  plain-as codes.Negation f a c g h j k = refl
  plain-as (codes.Connective o) f a c g h j k = refl
  plain-as (codes.Unary o) f a c g h j k = refl
  plain-as codes.Select f a c g h j k = absurd (j refl)
  plain-as codes.Call f a c g h j k = absurd (k refl)
  plain-as codes.Unknown f a c g h j k = absurd (formed-as unknown f)

  module _ (inner : is_leaf (shape (node_within W i)) ≡ false) (r : code.Shape) (e : r ≡ (mark_in W i).shape)
      (c : (o : rotations.Rotation) → r ≡ codes.Rotation o → ⊥) (g : r ≡ codes.Extraction → ⊥) (h : (o : extensions.Extension) → r ≡ codes.Extension o → ⊥) (j : r ≡ codes.Select → ⊥) (k : r ≡ codes.Call → ⊥) where
    pub plain-head : {q : Page} (P : Page) → q ≡ written P (bytes " (" ++ symbol_of (node_within W i).kind) → q ≡ written P (32 ∷ head_of (dag_in W) (widths_in W) (problem_in W).bits i)
    unfolding bytes
    plain-head P w = head_in (shape-at e) P (plain-as r (shape-at e) (ap is_leaf (sym (shape-at e)) ∙ inner) c g h j k) w

-- ---------------------------------------------------------------- the record that was read is the node's

pub constant-inside : {W : Walk} {i : ℕ} → Constant W i → {m : Node} → m ≡ node_within W i → (m.a + m.b ≤ length (problem_in W).bits) × T (every (λ b. leb b 1) (problem_in W).bits)
constant-inside c e = (rw e c.within, c.binary)

module _ {m x : Node} (e : m ≡ x) where
  pub head-of-plain : {q : Page} (P : Page) → q ≡ written P (bytes " (" ++ symbol_of m.kind) → q ≡ written P (bytes " (" ++ symbol_of x.kind)
  head-of-plain P w = w ∙ rw e refl

-- ---------------------------------------------------------------- a constant's bits, from s to s + w

exact : (s w : ℕ) → s + w - s ≡ w
exact s w = omega arith

pub bits-of : (bits : List ℕ) {m x : Node} → m ≡ x → {t : List ℕ} → t ≡ take (m.a + m.b - m.a) (drop m.a bits) → t ≡ constant_bits bits x
unfolding constant_bits
bits-of bits {m} e f = f ∙ ap (λ (k : ℕ). take k (drop m.a bits)) (exact m.a m.b) ∙ rw e refl
