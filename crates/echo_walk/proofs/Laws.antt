-- The laws of the walk's proof: its measure, texts written one after the other, and what is known of a node's operands.
use Prim.Native.Nat.{ℕ, suc, ◌+◌, ◌-◌, ◌*◌, ◌^◌, ◌≤◌, ◌<◌}
use mathlib.Core.Path.{◌≡◌, refl, sym, ap, ◌∙◌}
use mathlib.Core.Bool.{Bool, true, false}
use mathlib.Core.List.{List, [], ◌∷◌, ◌++◌, append-nil, append_assoc}
use native.Mathlib.Omega.{arith}
use lib.Dec.{T}
use lib.ListN.{length, get_or, take, drop, length-drop}
use Rattle.std.proofs.lemmas.List.{length-take, get_or-take, get_or-drop}
use Rattle.lists.specs.Tests.{true→T}
use Rattle.echo_spec.specs.Shapes.{Shape, var, const, is_leaf}
use Rattle.echo_spec.specs.Input.{Node, shape, no_node, node_at, nodes_of, Dag, dag_of}
use Rattle.echo_spec.specs.NodeLaws.{Facts}
use Rattle.echo_spec.proofs.NodeLaws.{facts}
use Rattle.echo_spec.specs.Walk.{asked, Operand, walk_all, walk}
use Rattle.echo_spec.specs.Accepted.{or_else-passed}
use Rattle.blast_kernel.specs.Kinds.{shape_in}
use Rattle.echo_walk.specs.declared.Walk.{Walk}
use Rattle.lent.specs.Records.{nodes-length, nodes-at}
use Rattle.echo_bytes.specs.declared.Place.{Place}
use Rattle.echo_bytes.specs.Page.{Page, page, written}
use Rattle.echo_bytes.specs.Laws.{written-nil, written_then, length-written}
use Rattle.echo_tables.specs.declared.Form.{Form}
use Rattle.echo_tables.specs.declared.Form.TheVariants.{Leaf}
use Rattle.echo_tables.specs.Forms.{form_as, form_operands}
use Rattle.echo_tables.specs.Uses.{form-inside}
use Rattle.echo_tables.specs.Refused.{operands_of, refused_at, Each, Passes, form-passes}
use Rattle.echo_walk.specs.Operands.{Entries, OverForm, over-form}
use Rattle.echo_walk.specs.Texts.{head_of, two_text, levels_text, args_text, form_text, Style, plain, named, planned}
use Rattle.echo_walk.specs.StyleLaws.{FormBelow, own_below, text-passed, planned-head, planned-form, named-head, named-form}
use Rattle.echo_walk.specs.Walks.{problem_in, dag_in, widths_in, mark_in, plan_in, style_at, text_at, node_within, Fine, Under, LeafAt, TermAt}

-- a record lies within the nodes' bytes
pub record-inside : (nodes : List ℕ) (i : ℕ) → i < length (nodes_of nodes) → 17 * i + 17 ≤ length nodes
record-inside nodes i h = omega (arith, nodes-length nodes)

pub record-at : (nodes : List ℕ) (i : ℕ) → i < length (nodes_of nodes) → get_or (nodes_of nodes) i no_node ≡ node_at nodes i
record-at nodes i h = nodes-at nodes no_node i (omega (arith, nodes-length nodes))

-- ---------------------------------------------------------------- the measure

-- a node number, and the rank of the writer among those that write at one node: one and the arguments, two, stores, node, operand
pub μ : ℕ → ℕ → ℕ
μ i n = i * 5 + n

pub lower : (a lim m n : ℕ) {t : ℕ} → μ lim n ≡ t → a < lim → m ≤ 4 → μ a m < t
unfolding μ
lower a lim m n e h b = omega arith

pub fewer : (i n m : ℕ) {t : ℕ} → μ i m ≡ t → n < m → μ i n < t
unfolding μ
fewer i n m e h = omega arith

-- ---------------------------------------------------------------- entries of a list

module _ {P : ℕ → Type 0} {side : List ℕ} {s n : ℕ} (h : Entries P side s n) where
  pub listed : (k : ℕ) → k < n → {x : ℕ} → x ≡ get_or side (s + k) 0 → P x
  listed k l e = rw e (h.each (s + k) (omega arith) (omega arith))

-- the part of the entries that is gone through
module _ (side : List ℕ) (s n : ℕ) {t : List ℕ} (e : t ≡ take n (drop s side)) (k : ℕ) where
  pub part-short : k < length t → k < n
  part-short l = omega (arith, ap length e, length-take n (drop s side))

  pub part-entry : k < length t → get_or t k 0 ≡ get_or side (s + k) 0
  part-entry l = rw e (get_or-take n (drop s side) k 0 (part-short l) ∙ get_or-drop s side k 0)

  pub part-all : {P : ℕ → Type 0} → Entries P side s n → length t ≤ k → n ≤ k
  part-all h l = omega (arith, ap length e, length-take n (drop s side), length-drop s side, h.inside)

-- one entry more
args_more : (g : ℕ → List ℕ) (side : List ℕ) (s k : ℕ) → (32 ∷ g (get_or side s 0)) ++ args_text g side (s + 1) k ≡ args_text g side s (suc k)
unfolding args_text
args_more g side s k = refl

pub args-step : (g : ℕ → List ℕ) (side : List ℕ) (s n k : ℕ) → k < n → {x : ℕ} → x ≡ get_or side (s + k) 0
    → (32 ∷ g x) ++ args_text g side (s + (k + 1)) (n - (k + 1)) ≡ args_text g side (s + k) (n - k)
args-step g side s n k l {x} e =
    let m : n - k ≡ suc (n - (k + 1)) = omega arith in
    let z : s + (k + 1) ≡ s + k + 1 = omega arith in
    rw (e, z) (args_more g side (s + k) (n - (k + 1))) ∙ ap (args_text g side (s + k)) (sym m)

pub args-last : (g : ℕ → List ℕ) (side : List ℕ) (s n : ℕ) {k : ℕ} → n ≤ k → (p : Page) {q : Page} → q ≡ written p (41 ∷ []) → q ≡ written p (args_text g side (s + k) (n - k))
unfolding args_text
args-last g side s n {k} h p w = let z : n - k ≡ 0 = omega arith in rw z w

-- ---------------------------------------------------------------- a text that a loop writes

-- on page q the text `whole` is begun on page p, and `left` of it is to be written
pub record Begun (whole left : List ℕ) (p q : Page) : Type 0 where
  pub text : List ℕ
  pub splits : whole ≡ text ++ left
  pub stands : q ≡ written p text

pub begun : (whole : List ℕ) {p : Place} {l : List ℕ} → p.need < 2 ^ 64 → Begun whole whole (page p l) (page p l)
begun whole {p} {l} h = record { text = []; splits = refl; stands = sym (written-nil (page p l) h) }

module _ {whole left : List ℕ} {p q : Page} (h : Begun whole left p q) where
  -- the buffer keeps its length
  pub begun-size : length q.bytes ≡ length p.bytes
  begun-size = ap (λ (z : Page). length z.bytes) h.stands ∙ length-written p h.text

  -- a piece more
  pub begun-next : (a rest : List ℕ) → a ++ rest ≡ left → {r : Page} → r ≡ written q a → Begun whole rest p r
  begun-next a rest e w = record {
    text = h.text ++ a;
    splits = h.splits ∙ ap (λ (u : List ℕ). h.text ++ u) (sym e) ∙ sym (append_assoc h.text a rest);
    stands = written_then p h.text a h.stands w;
  }

  -- nothing is left
  pub begun-none : left ≡ [] → q ≡ written p whole
  begun-none e = h.stands ∙ ap (written p) (sym (h.splits ∙ ap (λ (u : List ℕ). h.text ++ u) e ∙ append-nil h.text))

  -- all that is left
  pub begun_all : {r : Page} → r ≡ written q left → r ≡ written p whole
  begun_all w = written_then p h.text left h.stands w ∙ ap (written p) (sym h.splits)

-- ---------------------------------------------------------------- pairs of a chain

module _ {P : ℕ → Type 0} {side : List ℕ} {s n : ℕ} (h : Entries P side s (n + n)) (k : ℕ) (l : k < n) where
  pub chained-index : {x : ℕ} → x ≡ get_or side (s + (k + k)) 0 → P x
  chained-index e = rw e (h.each (s + (k + k)) (omega arith) (omega arith))

  pub chained-value : {x : ℕ} → x ≡ get_or side (s + (k + k + 1)) 0 → P x
  chained-value e = rw e (h.each (s + (k + k + 1)) (omega arith) (omega arith))

-- one pair more
levels-more : (g : ℕ → List ℕ) (side : List ℕ) (s k : ℕ)
    → two_text g (get_or side (s + (k + k)) 0) (get_or side (s + (k + k + 1)) 0) ++ levels_text g side s k ≡ levels_text g side s (suc k)
unfolding levels_text
levels-more g side s k = refl

pub levels-step : (g : ℕ → List ℕ) (side : List ℕ) (s : ℕ) {n : ℕ} (k : ℕ) → n ≡ k + 1 → {x v : ℕ} → x ≡ get_or side (s + (k + k)) 0
    → v ≡ get_or side (s + (k + k + 1)) 0 → two_text g x v ++ levels_text g side s k ≡ levels_text g side s n
levels-step g side s {n} k m d e =
    let z : n ≡ suc k = omega arith in
    rw (d, e) (levels-more g side s k) ∙ ap (levels_text g side s) (sym z)

pub levels-none : (g : ℕ → List ℕ) (side : List ℕ) (s : ℕ) {n : ℕ} → n ≡ 0 → levels_text g side s n ≡ []
unfolding levels_text
levels-none g side s e = rw e refl

-- ---------------------------------------------------------------- leaves

leaf-form : (m : Node) (g : ℕ → List ℕ) (side : List ℕ) (s : Shape) → T (is_leaf s) → form_text g side (form_as m s) ≡ []
unfolding form_as form_text is_leaf
leaf-form m g side var h = refl
leaf-form m g side const h = refl
leaf-form m g side Shape.binary h = absurd h
leaf-form m g side Shape.rotation h = absurd h
leaf-form m g side Shape.extraction h = absurd h
leaf-form m g side Shape.concat h = absurd h
leaf-form m g side Shape.extension h = absurd h
leaf-form m g side Shape.ite h = absurd h
leaf-form m g side Shape.comparison h = absurd h
leaf-form m g side Shape.negation h = absurd h
leaf-form m g side Shape.connective h = absurd h
leaf-form m g side Shape.unary h = absurd h
leaf-form m g side Shape.select h = absurd h
leaf-form m g side Shape.call h = absurd h
leaf-form m g side Shape.unknown h = absurd h

-- ---------------------------------------------------------------- the mark of node i

module _ (W : Walk) (i : ℕ) where
  pub shape-is : i < length (widths_in W) → shape_in (mark_in W i).shape ≡ shape (node_within W i)
  unfolding dag_of
  shape-is here = (W.ready.marked i here).shaped

  -- a leaf is written as it is
  pub leaf-unnamed : T (is_leaf (shape (node_within W i))) → plan_in W i ≡ false
  unfolding dag_of
  leaf-unnamed l = W.ready.unnamed i l

-- the tables take a node that is not refused
none-asked : (d : Dag) (ws : List ℕ) (i : ℕ) → refused_at d ws i ≡ 0 → asked d ws i ≡ 0
unfolding refused_at
none-asked d ws i e = (or_else-passed (asked d ws i) (walk_all (walk d ws) (operands_of d i)) e).0

module _ (W : Walk) (i : ℕ) (fine : Fine W i) {r : Bool} (e : r ≡ is_leaf (shape_in (mark_in W i).shape)) where
  is-leaf : r ≡ is_leaf (shape (node_within W i))
  is-leaf = e ∙ ap is_leaf (shape-is W i fine.here)

  -- what a test for a leaf finds
  pub leaf-found : r ≡ true → LeafAt W i
  leaf-found z = record { here = fine.here; leaf = true→T (sym is-leaf ∙ z); taken = none-asked (dag_in W) (widths_in W) i fine.free }

  pub term_found : r ≡ false → TermAt W i
  term_found z = record { here = fine.here; inner = sym is-leaf ∙ z; taken = none-asked (dag_in W) (widths_in W) i fine.free }

-- ---------------------------------------------------------------- node i

each_of : {A : Type 0} (P Q : A → Type 0) → ((x : A) → P x → Q x) → (xs : List A) → Each P xs → Each Q xs
each_of P Q f [] h = tt
each_of P Q f (x ∷ xs) h = (f x h.0, each_of P Q f xs h.1)

module _ (W : Walk) (i : ℕ) where
  pub node-count : i < length (widths_in W) → i < length (nodes_of (problem_in W).nodes)
  unfolding dag_of
  node-count h = omega (arith, W.ready.counted)

  -- the operands of its form, with a name or without, are not refused either
  module _ (fine : Fine W i) where
    node-facts : Facts (length (problem_in W).bits) (dag_in W).array-widths (dag_in W).side (widths_in W) i (get_or (dag_in W).nodes i no_node)
    node-facts = rw W.ready.widths (facts (length (problem_in W).bits) (dag_in W).array-widths (dag_in W).side (dag_in W).nodes i (rw W.ready.widths at fine.here))

    own-under : OverForm (Under W i) (dag_in W).side (form_as (get_or (dag_in W).nodes i no_node) (shape (get_or (dag_in W).nodes i no_node)))
    own-under =
        let m : Node = get_or (dag_in W).nodes i no_node in
        let h = fine.here in
        over-form (Under W i) (dag_in W).side (form_as m (shape m))
        (form-inside (widths_in W) i (length (problem_in W).bits) (dag_in W).array-widths (dag_in W).side m (shape m) node-facts.form)
        (each_of (Passes (dag_in W) (widths_in W) i) (λ (o : Operand). Under W i o.node)
        (λ o p. record { below = p.low; fine = record { here = omega (arith, p.low); free = p.passed } })
        (form_operands (dag_in W).side (form_as m (shape m)))
        (form-passes (dag_in W) (widths_in W) (length (problem_in W).bits) W.ready.widths W.ready.counted i (omega (arith, W.ready.counted)) fine.free refl))

    pub form-under : {f : Form} → f ≡ (style_at W).form i → OverForm (Under W i) (problem_in W).side f
    unfolding plain planned dag_of
    form-under {f} e = rw e (by-plan (plan_in W i))
      where
        by-plan : (b : Bool) → OverForm (Under W i) (problem_in W).side (elim b [ true ↦ Leaf | false ↦ form_as (node_within W i) (shape (node_within W i)) ])
        by-plan true = tt
        by-plan false = own-under

  module _ (here : i < length (widths_in W)) where
    form-below : FormBelow i (style_at W).side ((style_at W).form i)
    unfolding plain planned dag_of
    form-below = by-plan (plan_in W i)
      where
        by-plan : (b : Bool) → FormBelow i (problem_in W).side (elim b [ true ↦ Leaf | false ↦ form_as (node_within W i) (shape (node_within W i)) ])
        by-plan true = tt
        by-plan false = own_below (dag_in W) (length (problem_in W).bits) (widths_in W) (problem_in W).bits W.ready.widths i here

    pub node-text : {f : Form} → f ≡ (style_at W).form i → (style_at W).head i ++ form_text (text_at W) (problem_in W).side f ≡ text_at W i
    unfolding plain planned dag_of
    node-text e = rw e (sym (text-passed (style_at W) i form-below))

    -- the head and then the operands
    pub node_in : {f : Form} → f ≡ (style_at W).form i → (p : Page) {q r : Page} → q ≡ written p (32 ∷ (style_at W).head i)
        → r ≡ written q (form_text (text_at W) (problem_in W).side f) → r ≡ written p (32 ∷ text_at W i)
    node_in {f} e p v w =
        written_then p (32 ∷ (style_at W).head i) (form_text (text_at W) (problem_in W).side f) v w ∙ ap (λ (t : List ℕ). written p (32 ∷ t)) (node-text e)

    -- a node without operands
    pub node-leaf : Leaf ≡ (style_at W).form i → (p : Page) {q : Page} → q ≡ written p (32 ∷ (style_at W).head i) → q ≡ written p (32 ∷ text_at W i)
    unfolding form_text
    node-leaf e p v = v ∙ ap (λ (t : List ℕ). written p (32 ∷ t)) (sym (append-nil ((style_at W).head i)) ∙ node-text e)

  module _ (h : LeafAt W i) where
    leaf-head : (style_at W).head i ≡ head_of (dag_in W) (widths_in W) (problem_in W).bits i
    unfolding plain
    leaf-head = planned-head (plan_in W) (plain (dag_in W) (widths_in W) (problem_in W).bits) i (leaf-unnamed W i h.leaf)

    pub leaf-text : text_at W i ≡ head_of (dag_in W) (widths_in W) (problem_in W).bits i
    unfolding plain dag_of
    leaf-text =
        let own : plan_in W i ≡ false = leaf-unnamed W i h.leaf in
        sym (node-text h.here (sym (planned-form (plan_in W) (plain (dag_in W) (widths_in W) (problem_in W).bits) i own)))
        ∙ ap (λ (t : List ℕ). (style_at W).head i ++ t) (leaf-form (node_within W i) (text_at W) (problem_in W).side (shape (node_within W i)) h.leaf)
        ∙ append-nil ((style_at W).head i) ∙ leaf-head

    pub leaf-opened : (p : Page) {q : Page} → q ≡ written p (32 ∷ head_of (dag_in W) (widths_in W) (problem_in W).bits i) → q ≡ written p (32 ∷ (style_at W).head i)
    leaf-opened p w = w ∙ ap (λ (t : List ℕ). written p (32 ∷ t)) (sym leaf-head)

    pub leaf-written : (p : Page) {q : Page} → q ≡ written p (32 ∷ head_of (dag_in W) (widths_in W) (problem_in W).bits i) → q ≡ written p (32 ∷ text_at W i)
    leaf-written p w = w ∙ ap (λ (t : List ℕ). written p (32 ∷ t)) (sym leaf-text)

-- a node with a name, and one without
module _ (W : Walk) (i : ℕ) {b : Bool} (e : b ≡ plan_in W i) where
  abbrev own : Style
  own = plain (dag_in W) (widths_in W) (problem_in W).bits

  pub head-named : b ≡ true → (p : Page) {q r : Page} → q ≡ written p (32 ∷ []) → r ≡ written q (named i) → r ≡ written p (32 ∷ (style_at W).head i)
  head-named f p v w = written_then p (32 ∷ []) (named i) v w ∙ ap (λ (t : List ℕ). written p (32 ∷ t)) (sym (named-head (plan_in W) own i (sym e ∙ f)))

  pub head-own : b ≡ false → (p : Page) {r : Page} → r ≡ written p (32 ∷ head_of (dag_in W) (widths_in W) (problem_in W).bits i)
      → r ≡ written p (32 ∷ (style_at W).head i)
  unfolding plain
  head-own f p w = w ∙ ap (λ (t : List ℕ). written p (32 ∷ t)) (sym (planned-head (plan_in W) own i (sym e ∙ f)))

  pub form-named : b ≡ true → Leaf ≡ (style_at W).form i
  form-named f = sym (named-form (plan_in W) own i (sym e ∙ f))

  pub form-own : b ≡ false → {f : Form} → f ≡ form_as (node_within W i) (shape (node_within W i)) → f ≡ (style_at W).form i
  unfolding plain dag_of
  form-own f w = w ∙ sym (planned-form (plan_in W) own i (sym e ∙ f))
