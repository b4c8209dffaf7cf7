-- Laws of styles: a node's text from its head and its form, and the plain style's text as the text of the node's tree.
use Prim.Native.Nat.{ℕ, zero, suc, ◌+◌, ◌<◌}
use Rattle.std.specs.Prelude.{◌≡◌, Bool, true, false, length, take, drop}
use Rattle.std.proofs.Math.Path.{refl, ap, sym}
use Rattle.std.proofs.Common.{◌∙◌, arith, add-one, drop-cons}
use mathlib.Core.List.{List, [], ◌∷◌, ◌++◌, append_assoc, append-nil}
use Rattle.std.proofs.Math.ListN.{get_or}
use Rattle.lists.specs.Bytes.{bytes}
use Rattle.lists.specs.Build.{upto-below}
use Rattle.reading.specs.Trees.{Tree, constant}
use Rattle.echo_spec.specs.Shapes.{
  Shape,
  var,
  const,
  binary,
  rotation,
  extraction,
  concat,
  extension,
  ite,
  comparison,
  negation,
  connective,
  unary,
  unknown,
}
use Rattle.echo_spec.specs.Input.{Node, shape, no_node, Dag, aname_table, fname_table}
use Rattle.echo_spec.specs.Widths.{ext_wf_of}
use Rattle.echo_spec.specs.NodeLaws.{Formed, Facts}
use Rattle.echo_spec.proofs.NodeLaws.{facts}
use Rattle.echo_spec.specs.Trees.{constant_bits, amount_of, variable_name, trees_over, stores_over, tree_as, tree_step, trees_below, tree_of}
use Rattle.echo_spec.specs.Walk.{operands_as}
use Rattle.echo_spec.specs.Render.{symbol_of, binary_digits, quoted, operator_text, call_text, term, terms, stores}
use Rattle.echo_lines.specs.Heads.{repeated, call_head}
use Rattle.echo_tables.specs.declared.Form.{Form}
use Rattle.echo_tables.specs.declared.Form.TheVariants.{Leaf, One, Two, Choice, Chain, Arguments}
use Rattle.echo_tables.specs.Forms.{call_form, form_as, form-operands}
use Rattle.echo_tables.specs.Uses.{form-inside}
use Rattle.echo_walk.specs.Operands.{Entries, OverForm, over-form, low-each}
use Rattle.echo_walk.specs.Texts.{head_as, head_of, one_text, two_text, choice_text, levels_text, args_text, form_text, Style, text_step, texts_below, text_in, plain, named, planned}
use Rattle.echo_walk.specs.declared.Walk.{Walk}
use Rattle.echo_walk.specs.Walks.{problem_in, dag_in, widths_in, plan_in, style_at, text_at, Plain}

-- the operands of a form are nodes below i
abbrev pub FormBelow : ℕ → List ℕ → Form → Type 0
FormBelow i side f = OverForm (λ j. j < i) side f

-- ---------------------------------------------------------------- texts that agree below i

module _ (g h : ℕ → List ℕ) (i : ℕ) (same : (j : ℕ) → j < i → g j ≡ h j) (side : List ℕ) where
  one_same : (a : ℕ) → a < i → one_text g a ≡ one_text h a
  unfolding one_text
  one_same a l = λ k. 32 ∷ (same a l k ++ (41 ∷ []))

  two-same : (a b : ℕ) → a < i → b < i → two_text g a b ≡ two_text h a b
  unfolding two_text
  two-same a b l m = λ k. 32 ∷ (same a l k ++ one_same b m k)

  levels-same : (s n : ℕ) → Entries (λ j. j < i) side s (n + n) → levels_text g side s n ≡ levels_text h side s n
  unfolding levels_text
  levels-same s zero l = refl
  levels-same s (suc n) l =
      let e = l.inside in
      let a = two-same (get_or side (s + (n + n)) 0) (get_or side (s + (n + n + 1)) 0) (l.each (s + (n + n)) (omega arith) (omega arith)) (l.each (s + (n + n + 1)) (omega arith) (omega arith)) in
      let b = levels-same s n (record { inside = omega arith; each = λ k p q. l.each k p (omega arith) }) in
      λ k. a k ++ b k

  args-same : (s n : ℕ) → Entries (λ j. j < i) side s n → args_text g side s n ≡ args_text h side s n
  unfolding args_text
  args-same s zero l = refl
  args-same s (suc n) l =
      let e = l.inside in
      let a = same (get_or side s 0) (l.each s (omega arith) (omega arith)) in
      let b = args-same (s + 1) n (record { inside = omega arith; each = λ k p q. l.each k (omega arith) (omega arith) }) in
      λ k. 32 ∷ (a k ++ b k)

  pub form-same : (f : Form) → FormBelow i side f → form_text g side f ≡ form_text h side f
  unfolding form_text choice_text
  form-same Leaf l = refl
  form-same (One a w) l = one_same a l
  form-same (Two a b w) l = two-same a b l.0 l.1
  form-same (Choice a b c) l =
      let p = same a l.0 in
      let q = two-same b c l.1 l.2 in
      λ k. 32 ∷ (p k ++ q k)
  form-same (Chain j s n) l =
      let p = levels-same s n l.1 in
      let q = one_same j l.0 in
      λ k. p k ++ q k
  form-same (Arguments s n) l = args-same s n l

-- ---------------------------------------------------------------- a node's text

pub text-passed : (s : Style) (i : ℕ) → FormBelow i s.side (s.form i) → text_in s i ≡ s.head i ++ form_text (text_in s) s.side (s.form i)
unfolding text_in text_step
text-passed s i l =
    ap (λ (t : List ℕ). s.head i ++ t) (form-same (texts_below s i) (text_in s) i (λ j m. upto-below (text_step s) [] i j m) s.side (s.form i) l)

-- ---------------------------------------------------------------- the text of a tree

pub entry_first : (side : List ℕ) (s : ℕ) → s < length side → drop s side ≡ get_or side s 0 ∷ drop (s + 1) side
entry_first side s h = rw (add-one, drop-cons side s 0 h) refl

-- the first pair stands last
pub levels-first : (g : ℕ → List ℕ) (side : List ℕ) (s n : ℕ) → levels_text g side s (suc n) ≡ levels_text g side (s + 1 + 1) n ++ two_text g (get_or side s 0) (get_or side (s + 1) 0)
unfolding levels_text
levels-first g side s zero =
    let a : s + (0 + 0) ≡ s = omega arith in
    let b : s + (0 + 0 + 1) ≡ s + 1 = omega arith in
    rw (append-nil, a, b) refl
levels-first g side s (suc n) =
    let a : s + (suc n + suc n) ≡ s + 1 + 1 + (n + n) = omega arith in
    let b : s + (suc n + suc n + 1) ≡ s + 1 + 1 + (n + n + 1) = omega arith in
    let t : List ℕ = two_text g (get_or side (s + 1 + 1 + (n + n)) 0) (get_or side (s + 1 + 1 + (n + n + 1)) 0) in
    (λ k. two_text g (get_or side (a k) 0) (get_or side (b k) 0) ++ levels-first g side s n k)
    ∙ sym (append_assoc t (levels_text g side (s + 1 + 1) n) (two_text g (get_or side s 0) (get_or side (s + 1) 0)))

-- Over the nodes below i: their trees, and their texts g.
module _ (trees : ℕ → Tree) (g : ℕ → List ℕ) (i : ℕ) (agree : (j : ℕ) → j < i → term (trees j) ≡ g j) where
  one-text : (a : ℕ) → a < i → terms (trees_over trees (a ∷ [])) ++ bytes ")" ≡ one_text g a
  unfolding trees_over term one_text bytes
  one-text a l = simp (append_assoc, agree a l)

  two-text : (a b : ℕ) → a < i → b < i → terms (trees_over trees (a ∷ b ∷ [])) ++ bytes ")" ≡ two_text g a b
  unfolding trees_over term one_text two_text bytes
  two-text a b l m = simp (append_assoc, agree a l, agree b m)

  three-text : (a b c : ℕ) → a < i → b < i → c < i → terms (trees_over trees (a ∷ b ∷ c ∷ [])) ++ bytes ")" ≡ choice_text g a b c
  unfolding trees_over term one_text two_text choice_text bytes
  three-text a b c l m n = simp (append_assoc, agree a l, agree b m, agree c n)

  module _ (side : List ℕ) where
    args-text : (s n : ℕ) → Entries (λ j. j < i) side s n → terms (trees_over trees (take n (drop s side))) ++ bytes ")" ≡ args_text g side s n
    unfolding trees_over term args_text bytes
    args-text s zero l = refl
    args-text s (suc n) l =
        let e = l.inside in
        let here : get_or side s 0 < i = l.each s (omega arith) (omega arith) in
        let rest = args-text (s + 1) n (record { inside = omega arith; each = λ k p q. l.each k (omega arith) (omega arith) }) in
        let x : ℕ = get_or side s 0 in
        rw (entry_first side s (omega arith), agree x here) (ap (λ (t : List ℕ). 32 ∷ t) (append_assoc (g x) (terms (trees_over trees (take n (drop (s + 1) side)))) (bytes ")") ∙ ap (λ (t : List ℕ). g x ++ t) rest))

    stores-text : (a : List ℕ) (s n : ℕ) → Entries (λ j. j < i) side s (n + n)
        → stores a (stores_over trees n (drop s side)) ≡ repeated n (bytes "(store ") ++ (quoted a ++ levels_text g side s n)
    unfolding stores_over term repeated
    stores-text a s zero l = unfold levels_text in sym (append-nil (quoted a))
    stores-text a s (suc n) l =
        let e = l.inside in
        let x : ℕ = get_or side s 0 in
        let v : ℕ = get_or side (s + 1) 0 in
        let rest = stores-text a (s + 1 + 1) n (record { inside = omega arith; each = λ k p q. l.each k (omega arith) (omega arith) }) in
        let two = two-text x v (l.each s (omega arith) (omega arith)) (l.each (s + 1) (omega arith) (omega arith)) in
        rw (entry_first side s (omega arith), entry_first side (s + 1) (omega arith), levels-first g side s n, ← two, rest) (unfold trees_over in simp (append_assoc, append-nil))

  module _ (d : Dag) (ws bits : List ℕ) where
    call-text : (name : List ℕ) (s n : ℕ) → FormBelow i d.side (call_form s n)
        → call_text name (trees_over trees (take n (drop s d.side))) (terms (trees_over trees (take n (drop s d.side)))) ≡ call_head n (quoted name) ++ form_text g d.side (call_form s n)
    unfolding call_text trees_over call_head call_form form_text bytes
    call-text name s zero l = sym (append-nil (quoted name))
    call-text name s (suc n) l =
        let e = l.inside in
        let some : (t : List ℕ) → call_text name (trees_over trees (take (suc n) (drop s d.side))) t ≡ bytes "(" ++ (quoted name ++ (t ++ bytes ")")) = λ t. rw (entry_first d.side s (omega arith)) refl in
        some (terms (trees_over trees (take (suc n) (drop s d.side)))) ∙ ap (λ (t : List ℕ). bytes "(" ++ (quoted name ++ t)) (args-text d.side s (suc n) l)

    select-text : (a : List ℕ) (j s n : ℕ) → FormBelow i d.side (Chain j s n)
        → term (Tree.select a (trees j) (stores_over trees n (drop s d.side))) ≡ (bytes "(select " ++ (repeated n (bytes "(store ") ++ quoted a)) ++ form_text g d.side (Chain j s n)
    unfolding term form_text one_text bytes
    select-text a j s n l = rw (stores-text d.side a s n l.1, agree j l.0) (simp append_assoc)

    -- a node that is well formed: its head, and then its form
    pub form-text : (n : Node) (s : Shape) (nbits : ℕ) → Formed ws i nbits d.array-widths d.side n s → FormBelow i d.side (form_as n s)
        → term (tree_as d ws bits trees i n s) ≡ head_as d ws bits i n s ++ form_text g d.side (form_as n s)
    unfolding tree_as head_as form_as form_text term operator_text bytes
    form-text n var nbits f l = sym (append-nil (quoted (variable_name d i)))
    form-text n const nbits f l = sym (append-nil (bytes "#b" ++ binary_digits (constant_bits bits n)))
    form-text n binary nbits f l = ap (λ (t : List ℕ). (40 ∷ symbol_of n.kind) ++ t) (two-text n.a n.b l.0 l.1)
    form-text n rotation nbits f l = ap (λ (t : List ℕ). (40 ∷ operator_text (symbol_of n.kind) (amount_of d ws bits i n ∷ [])) ++ t) (one-text n.a l)
    form-text n extraction nbits f l = ap (λ (t : List ℕ). (40 ∷ operator_text (symbol_of n.kind) (n.a ∷ n.b ∷ [])) ++ t) (one-text n.c l)
    form-text n concat nbits f l = ap (λ (t : List ℕ). (40 ∷ symbol_of n.kind) ++ t) (two-text n.a n.b l.0 l.1)
    form-text n extension nbits f l = ap (λ (t : List ℕ). (40 ∷ operator_text (symbol_of n.kind) (n.b ∷ [])) ++ t) (one-text n.a l)
    form-text n ite nbits f l = ap (λ (t : List ℕ). (40 ∷ symbol_of n.kind) ++ t) (three-text n.a n.b n.c l.0 l.1 l.2)
    form-text n comparison nbits f l = ap (λ (t : List ℕ). (40 ∷ symbol_of n.kind) ++ t) (two-text n.a n.b l.0 l.1)
    form-text n negation nbits f l = ap (λ (t : List ℕ). (40 ∷ symbol_of n.kind) ++ t) (one-text n.a l)
    form-text n connective nbits f l = ap (λ (t : List ℕ). (40 ∷ symbol_of n.kind) ++ t) (two-text n.a n.b l.0 l.1)
    form-text n unary nbits f l = ap (λ (t : List ℕ). (40 ∷ symbol_of n.kind) ++ t) (one-text n.a l)
    form-text n Shape.select nbits f l = select-text (get_or (aname_table d) n.a []) n.b n.c n.d l
    form-text n Shape.call nbits f l = call-text (get_or (fname_table d) n.a []) n.c n.d l
    form-text n unknown nbits f l = absurd f

-- ---------------------------------------------------------------- the plain style

module _ (d : Dag) (nbits : ℕ) (ws bits : List ℕ) (widths : ws ≡ ext_wf_of nbits d.array-widths d.side d.nodes) where
  abbrev node : ℕ → Node
  node i = get_or d.nodes i no_node

  pub node-facts : (i : ℕ) → i < length ws → Facts nbits d.array-widths d.side ws i (node i)
  node-facts i h = rw widths (facts nbits d.array-widths d.side d.nodes i (rw widths at h))

  pub own_below : (i : ℕ) → i < length ws → FormBelow i d.side (form_as (node i) (shape (node i)))
  own_below i h =
      let z = node-facts i h in
      over-form (λ j. j < i) d.side (form_as (node i) (shape (node i))) (form-inside ws i nbits d.array-widths d.side (node i) (shape (node i)) z.form)
      (rw (form-operands d.side (node i) (shape (node i))) (low-each i (operands_as d.side (node i) (shape (node i))) z.low))

  plain-upto : (m i : ℕ) → i < m → i < length ws → text_in (plain d ws bits) i ≡ term (tree_of d ws bits i)
  unfolding plain tree_of tree_step head_of
  plain-upto zero i l h = absurd (omega arith)
  plain-upto (suc m) i l h =
      let agree : (j : ℕ) → j < i → term (trees_below d ws bits i j) ≡ text_in (plain d ws bits) j =
      λ j k. ap term (upto-below (tree_step d ws bits) (constant []) i j k) ∙ sym (plain-upto m j (omega arith) (omega arith)) in
      text-passed (plain d ws bits) i (own_below i h)
      ∙ sym (form-text (trees_below d ws bits i) (text_in (plain d ws bits)) i agree d ws bits (node i) (shape (node i)) nbits (node-facts i h).form (own_below i h))

  -- the plain style's text is that of the node's tree
  pub plain-is : (i : ℕ) → i < length ws → text_in (plain d ws bits) i ≡ term (tree_of d ws bits i)
  plain-is i h = plain-upto (suc i) i (omega arith) h

-- ---------------------------------------------------------------- names

module _ (plan : ℕ → Bool) (s : Style) where
  module _ (i : ℕ) (e : plan i ≡ false) where
    pub planned-head : (planned plan s).head i ≡ s.head i
    unfolding planned
    planned-head = rw (e, planned)

    pub planned-form : (planned plan s).form i ≡ s.form i
    unfolding planned
    planned-form = rw (e, planned)

  module _ (i : ℕ) (e : plan i ≡ true) where
    pub named-head : (planned plan s).head i ≡ named i
    unfolding planned
    named-head = rw (e, planned)

    pub named-form : (planned plan s).form i ≡ Leaf
    unfolding planned
    named-form = rw (e, planned)

  -- without a name nothing changes
  pub planned-none : ((i : ℕ) → plan i ≡ false) → planned plan s ≡ s
  unfolding planned
  planned-none h = λ k. record { side = s.side; head = λ i. planned-head i (h i) k; form = λ i. planned-form i (h i) k }

-- with no names the walk writes the plain text
pub text-plain : (W : Walk) → Plain W → (i : ℕ) → i < length (widths_in W)
    → text_at W i ≡ term (tree_of (dag_in W) (widths_in W) (problem_in W).bits i)
text-plain W p i h =
    let d : Dag = dag_in W in
    let ws : List ℕ = widths_in W in
    let own : style_at W ≡ plain d ws (problem_in W).bits = planned-none (plan_in W) (plain d ws (problem_in W).bits) p.plan in
    ap (λ (s : Style). text_in s i) own ∙ plain-is d (length (problem_in W).bits) ws (problem_in W).bits W.ready.widths i h
