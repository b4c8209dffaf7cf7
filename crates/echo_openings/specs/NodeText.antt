-- The opening of a node and the text of its pieces are the formula of its tree.
use Prim.Native.Nat.{ℕ, zero, suc, ◌+◌, ◌≤◌, ◌<◌}
use Rattle.std.specs.Prelude.{◌≡◌, Bool, T, leb, length, get_or, take, drop}
use Rattle.std.proofs.Math.Path.{refl, ap, sym}
use Rattle.std.proofs.Common.{◌∙◌, subst, leb→le, ltb→lt, nltb→le, drop-cons}
use Rattle.std.proofs.Math.Bool.{true, false}
use mathlib.Core.List.{List, [], ◌∷◌, ◌++◌, map, append_assoc, append-nil}
use native.Mathlib.Omega.{arith}
use Rattle.std.proofs.Math.Numerals.{add-one}
use Rattle.std.proofs.Math.Dec.{ltb}
use Rattle.std.proofs.Math.ListN.{length-drop, get_or-eq_default}
use Rattle.lists.specs.Bytes.{bytes}
use Rattle.lists.specs.Tests.{every_from, every-at, true→T, T→true, no→false}
use Rattle.lists.specs.Build.{upto-below}
use Rattle.reading.specs.Trees.{Name, Tree, constant}
use Rattle.echo_spec.specs.Shapes.{
  Shape,
  var,
  const,
  binary,
  rotation,
  extraction,
  concat,
  extension,
  ite,
  comparison,
  negation,
  connective,
  unary,
  unknown,
  shapes,
  shape_of,
}
use Rattle.echo_spec.specs.Input.{Node, shape, no_node, Dag, aname_table, fname_table}
use Rattle.echo_spec.specs.Widths.{ext_wf_of}
use Rattle.echo_spec.specs.NodeLaws.{Formed, Facts}
use Rattle.echo_spec.proofs.NodeLaws.{facts}
use Rattle.echo_spec.specs.Trees.{constant_bits, variable_name, amount_of, trees_over, stores_over, tree_as, tree_step, trees_below, tree_of}
use Rattle.echo_spec.specs.Render.{symbol_of, decimal, binary_digits, quoted}
use Rattle.echo_lines.specs.Heads.{repeated}
use Rattle.echo_tables.specs.Forms.{call_form, form_as}
use Rattle.echo_tables.specs.Uses.{FormInside, form-inside}
use Rattle.echo_tables.specs.Refused.{Each}
use Rattle.echo_walk.specs.StyleLaws.{own_below}
use Rattle.formula_text.specs.Notation.{
  Notation,
  between,
  before,
  named,
  notations,
  notation_of,
  level_as,
  level,
  Operand,
  placed,
  later,
  parted,
  application,
  call_text,
  operand_texts,
  applied,
  formula,
  operands,
  array_text,
}
use Rattle.echo_pieces.specs.Signs.{sign_text, sign_of, level_of}
use Rattle.echo_pieces.specs.declared.Behind.TheVariants.{Nothing, Sign, Comma, Close}
use Rattle.echo_pieces.specs.declared.Piece.{Piece}
use Rattle.echo_pieces.specs.Pieces.{piece, behind_text, one_pieces, two_pieces, choice_pieces, store_pieces, chain_pieces, arg_pieces, pieces_of, pieces_text}
use Rattle.echo_pieces.specs.PieceLaws.{Wanted, pieces-each, text_same}
use Rattle.echo_openings.specs.Openings.{plain_opening, numbered, call_opening, opening_as}

-- a tree where level l or a tighter one may stand as it is
unfoldable pub placed_tree : ℕ → Tree → List ℕ
placed_tree l t = placed l (record { level = level t; text = formula t })

pub placed-none : (t : Tree) → placed_tree 0 t ≡ formula t
unfolding placed_tree placed
placed-none t =
    let e : ltb (level t) 0 ≡ false = no→false (ltb (level t) 0) (λ h. let z = ltb→lt (level t) 0 h in omega arith) in
    rw (e, placed)

-- ---------------------------------------------------------------- the notation of a kind fits its shape

abbrev for_two : Notation → Bool
for_two (between l s) = ltb l 10
for_two (before s) = false
for_two named = true

abbrev for_before : Notation → Bool
for_before (before s) = true
for_before _ = false

abbrev for_name : Notation → Bool
for_name named = true
for_name _ = false

abbrev for_shape : Shape → Notation → Bool
for_shape binary x = for_two x
for_shape concat x = for_two x
for_shape comparison x = for_two x
for_shape negation x = for_before x
for_shape connective x = for_two x
for_shape unary x = for_before x
for_shape unknown x = true
for_shape _ x = for_name x

-- a kind has it
abbrev pub known : Shape → Bool
known unknown = false
known _ = true

kinds-fit : T (every_from (λ k. for_shape (shape_of k) (notation_of k)) 0 39)
unfolding shapes notations
kinds-fit = tt

kind_fits : (k : ℕ) (s : Shape) → shape_of k ≡ s → T (known s) → T (for_shape s (notation_of k))
unfolding shapes
kind_fits k s e f = by_size (ltb k 39) refl
  where
    by_size : (b : Bool) → ltb k 39 ≡ b → T (for_shape s (notation_of k))
    by_size true q =
        subst (λ (x : Shape). T (for_shape x (notation_of k))) e
        (every-at (λ k. for_shape (shape_of k) (notation_of k)) 0 39 kinds-fit k (omega arith) (omega (arith, ltb→lt k 39 (true→T q))))
    by_size false q = absurd (subst (λ (x : Shape). T (known x)) (sym e ∙ get_or-eq_default shapes unknown (nltb→le k 39 (rw q tt))) f)

-- a kind that has a shape is one of the 39
pub kind-known : (k : ℕ) {s : Shape} → shape_of k ≡ s → T (known s) → k < 39
unfolding shapes
kind-known k {s} e f = by_size (ltb k 39) refl
  where
    by_size : (b : Bool) → ltb k 39 ≡ b → k < 39
    by_size true q = ltb→lt k 39 (true→T q)
    by_size false q = absurd (subst (λ (x : Shape). T (known x)) (sym e ∙ get_or-eq_default shapes unknown (nltb→le k 39 (rw q tt))) f)

levels-small : T (every_from (λ k. leb (level_of k) 11) 0 39)
unfolding notations
levels-small = tt

pub level-bound : (k : ℕ) → level_of k ≤ 11
unfolding notations
level-bound k = by_size (ltb k 39) refl
  where
    by_size : (b : Bool) → ltb k 39 ≡ b → level_of k ≤ 11
    by_size true q = leb→le (level_of k) 11 (every-at (λ k. leb (level_of k) 11) 0 39 levels-small k (omega arith) (omega (arith, ltb→lt k 39 (true→T q))))
    by_size false q =
        let h : 37 ≤ k = omega (arith, nltb→le k 39 (rw q tt)) in
        let z : notation_of k ≡ named = get_or-eq_default notations named h in
        let w : level_as (notation_of k) ≡ 11 = ap level_as z in
        omega arith

each_of : {P Q : ℕ → Type 0} → ((j : ℕ) → P j → Q j) → (xs : List Piece) → Each (Wanted P) xs → Each (Wanted Q) xs
each_of f [] h = tt
each_of f (x ∷ xs) h = (record { node_is = f x.node h.0.node_is; level_is = h.0.level_is }, each_of f xs h.1)

-- ---------------------------------------------------------------- over the trees of the nodes below

entry_first : (side : List ℕ) (s : ℕ) → s < length side → drop s side ≡ get_or side s 0 ∷ drop (s + 1) side
entry_first side s h = rw (add-one, drop-cons side s 0 h) refl

module _ (trees : ℕ → Tree) where
  abbrev below : ℕ → ℕ → List ℕ
  below l j = placed_tree l (trees j)

  bare : (j : ℕ) → placed_tree 0 (trees j) ≡ formula (trees j)
  bare j = placed-none (trees j)

  operand_at : ℕ → Operand
  operand_at j = record { level = level (trees j); text = formula (trees j) }

  two-text : (x : Notation) (name : Name) (a b : ℕ) → T (for_two x)
      → elim (ltb (level_as x) 10) [ true ↦ [] | false ↦ sign_text x name ] ++ pieces_text below (sign_text x name) (two_pieces (level_as x) a b)
      ≡ applied x name [] (operand_at a ∷ operand_at b ∷ [])
  unfolding two_pieces pieces_text behind_text applied operand_at placed_tree sign_text bytes
  two-text (between l s) name a b h =
      let e : ltb l 10 ≡ true = T→true (ltb l 10) h in
      let n : l + 1 ≡ suc l = add-one l in
      let body : (Bool → List ℕ) =
      λ t. elim t [ true ↦ [] | false ↦ 32 ∷ (bytes s ++ (32 ∷ [])) ] ++ pieces_text below (32 ∷ (bytes s ++ (32 ∷ []))) (elim t [ true ↦ piece a l Sign ∷ piece b (l + 1) Nothing ∷ [] | false ↦ piece a 0 Comma ∷ piece b 0 Close ∷ [] ]) in
      ap body e
      ∙ ap (λ (z : List ℕ). below l a ++ (32 ∷ z))
      (append_assoc (bytes s) (32 ∷ []) (below (l + 1) b ++ []) ∙ ap (λ (z : List ℕ). bytes s ++ (32 ∷ z)) (append-nil (below (l + 1) b) ∙ ap (λ (k : ℕ). below k b) n))
  two-text (before s) name a b h = absurd h
  two-text named name a b h = unfold application parted later operand_texts in rw (bare a, bare b) (simp (append_assoc, append-nil))

  before_text : (x : Notation) (name : Name) (a : ℕ) → T (for_before x)
      → elim (ltb (level_as x) 10) [ true ↦ [] | false ↦ sign_text x name ] ++ pieces_text below (sign_text x name) (one_pieces (level_as x) a) ≡ applied x name [] (operand_at a ∷ [])
  unfolding one_pieces pieces_text behind_text applied operand_at placed_tree sign_text
  before_text (between l s) name a h = absurd h
  before_text (before s) name a h = simp append-nil
  before_text named name a h = absurd h

  -- numerals before one operand
  numbered-text : (ks : List ℕ) (x : List ℕ) → numbered ks ++ x ≡ parted (map decimal ks ++ (x ∷ []))
  unfolding numbered parted later bytes
  numbered-text [] x = sym (append-nil x)
  numbered-text (k ∷ ks) x = simp append_assoc (ap (λ (z : List ℕ). decimal k ++ z) (after ks))
    where
      after : (js : List ℕ) → 44 ∷ 32 ∷ (numbered js ++ x) ≡ later (map decimal js ++ (x ∷ []))
      after [] = ap (λ (z : List ℕ). 44 ∷ 32 ∷ z) (sym (append-nil x))
      after (j ∷ js) = simp append_assoc (ap (λ (z : List ℕ). 44 ∷ 32 ∷ (decimal j ++ z)) (after js))

  named-text : (x : Notation) (name : Name) (ks : List ℕ) (a : ℕ) → T (for_name x)
      → (sign_text x name ++ numbered ks) ++ pieces_text below (sign_text x name) (one_pieces (level_as x) a) ≡ applied x name ks (operand_at a ∷ [])
  unfolding one_pieces pieces_text behind_text applied operand_at sign_text application operand_texts bytes
  named-text (between l s) name ks a h = absurd h
  named-text (before s) name ks a h = absurd h
  named-text named name ks a h =
      rw (bare a, ← numbered-text ks (formula (trees a))) (simp (append_assoc, append-nil))

  three-text : (x : Notation) (name : Name) (a b c : ℕ) → T (for_name x)
      → elim (ltb (level_as x) 10) [ true ↦ [] | false ↦ sign_text x name ] ++ pieces_text below (sign_text x name) (choice_pieces a b c) ≡ applied x name [] (operand_at a ∷ operand_at b ∷ operand_at c ∷ [])
  unfolding choice_pieces pieces_text behind_text applied operand_at sign_text application parted later operand_texts bytes
  three-text (between l s) name a b c h = absurd h
  three-text (before s) name a b c h = absurd h
  three-text named name a b c h = rw (bare a, bare b, bare c) (simp (append_assoc, append-nil))

  text-append : (g : ℕ → ℕ → List ℕ) (sign : List ℕ) (xs ys : List Piece) → pieces_text g sign (xs ++ ys) ≡ pieces_text g sign xs ++ pieces_text g sign ys
  unfolding pieces_text
  text-append g sign [] ys = refl
  text-append g sign (x ∷ xs) ys = simp append_assoc (ap (λ (z : List ℕ). g x.level x.node ++ (behind_text sign x.behind ++ z)) (text-append g sign xs ys))

  module _ (sign : List ℕ) (side : List ℕ) where
    -- the first pair stands last
    stores-first : (s n : ℕ) → pieces_text below sign (store_pieces side s (suc n))
        ≡ pieces_text below sign (store_pieces side (s + 1 + 1) n) ++ (formula (trees (get_or side s 0)) ++ (bytes ", " ++ (formula (trees (get_or side (s + 1) 0)) ++ bytes "), ")))
    unfolding store_pieces pieces_text behind_text bytes
    stores-first s zero =
        let a : s + (0 + 0) ≡ s = omega arith in
        let b : s + (0 + 0 + 1) ≡ s + 1 = omega arith in
        rw (a, b, bare (get_or side s 0), bare (get_or side (s + 1) 0)) refl
    stores-first s (suc n) =
        let a : s + (suc n + suc n) ≡ s + 1 + 1 + (n + n) = omega arith in
        let b : s + (suc n + suc n + 1) ≡ s + 1 + 1 + (n + n + 1) = omega arith in
        rw (a, b) (simp append_assoc (ap (λ (z : List ℕ). placed_tree 0 (trees (get_or side (s + 1 + 1 + (n + n)) 0)) ++ (44 ∷ 32 ∷ (placed_tree 0 (trees (get_or side (s + 1 + 1 + (n + n + 1)) 0)) ++ (41 ∷ 44 ∷ 32 ∷ z)))) (stores-first s n)))

    stores-text : (a : Name) (s n : ℕ) → n + n ≤ length (drop s side)
        → array_text a (stores_over trees n (drop s side)) ++ bytes ", " ≡ repeated n (bytes "store(") ++ (quoted a ++ (bytes ", " ++ pieces_text below sign (store_pieces side s n)))
    unfolding stores_over formula repeated application parted later bytes
    stores-text a s zero h = unfold store_pieces pieces_text in refl
    stores-text a s (suc n) h =
        let l = length-drop s side in
        let m = length-drop (s + 1 + 1) side in
        let x : List ℕ = formula (trees (get_or side s 0)) in
        let v : List ℕ = formula (trees (get_or side (s + 1) 0)) in
        let rest = stores-text a (s + 1 + 1) n (omega arith) in
        rw (entry_first side s (omega arith), entry_first side (s + 1) (omega arith), stores-first s n)
        (simp (append_assoc, append-nil)
        (ap (λ (z : List ℕ). bytes "store(" ++ z) (sym (append_assoc (array_text a (stores_over trees n (drop (s + 1 + 1) side))) (44 ∷ 32 ∷ []) (x ++ (44 ∷ 32 ∷ (v ++ (41 ∷ 44 ∷ 32 ∷ []))))) ∙ ap (λ (z : List ℕ). z ++ (x ++ (44 ∷ 32 ∷ (v ++ (41 ∷ 44 ∷ 32 ∷ []))))) rest ∙ simp append_assoc)))

    args-text : (s n : ℕ) → s + suc n ≤ length side
        → pieces_text below sign (arg_pieces side s (suc n)) ≡ parted (operand_texts (operands (trees_over trees (take (suc n) (drop s side))))) ++ bytes ")"
    unfolding arg_pieces pieces_text behind_text trees_over formula operand_texts parted later bytes
    args-text s zero h = rw (entry_first side s (omega arith), bare (get_or side s 0)) (simp append-nil)
    args-text s (suc n) h =
        rw (entry_first side s (omega arith), bare (get_or side s 0), args-text (s + 1) n (omega arith), entry_first side (s + 1) (omega arith)) (simp append_assoc)

  module _ (d : Dag) (ws bits : List ℕ) (i : ℕ) where
    call-some : (name : Name) (x : ℕ) (xs : List ℕ) → (quoted name ++ bytes "(") ++ (parted (operand_texts (operands (trees_over trees (x ∷ xs)))) ++ bytes ")")
        ≡ call_text (quoted name) (operand_texts (operands (trees_over trees (x ∷ xs))))
    unfolding trees_over formula operand_texts call_text application bytes
    call-some name x xs = append_assoc (quoted name) (40 ∷ []) (parted (operand_texts (operands (trees_over trees (x ∷ xs)))) ++ (41 ∷ []))

    call-text : (sign : List ℕ) (l : ℕ) (name : Name) (s n : ℕ) → FormInside d.side (call_form s n)
        → call_opening n (quoted name) ++ pieces_text below sign (pieces_of l d.side (call_form s n)) ≡ call_text (quoted name) (operand_texts (operands (trees_over trees (take n (drop s d.side)))))
    unfolding call_opening call_form pieces_of call_text
    call-text sign l name s zero h = unfold pieces_text trees_over formula operand_texts in append-nil (quoted name)
    call-text sign l name s (suc n) h =
        rw (args-text sign d.side s n h, entry_first d.side s (omega arith))
        (call-some name (get_or d.side s 0) (take n (drop (s + 1) d.side)))

    select-text : (sign : List ℕ) (a : Name) (j s n : ℕ) → n + n ≤ length (drop s d.side)
        → (bytes "select(" ++ (repeated n (bytes "store(") ++ (quoted a ++ bytes ", "))) ++ pieces_text below sign (chain_pieces d.side j s n)
        ≡ application (bytes "select") (array_text a (stores_over trees n (drop s d.side)) ∷ formula (trees j) ∷ [])
    unfolding chain_pieces application parted later bytes
    select-text sign a j s n h =
        let A : List ℕ = array_text a (stores_over trees n (drop s d.side)) in
        let P : List ℕ = pieces_text below sign (store_pieces d.side s n) in
        let R : List ℕ = repeated n (bytes "store(") in
        let last : pieces_text below sign (store_pieces d.side s n ++ (piece j 0 Close ∷ [])) ≡ P ++ (formula (trees j) ++ (41 ∷ [])) =
        text-append below sign (store_pieces d.side s n) (piece j 0 Close ∷ []) ∙ (unfold pieces_text behind_text bytes in rw (bare j, append-nil) refl) in
        let e : R ++ (quoted a ++ (44 ∷ 32 ∷ (P ++ (formula (trees j) ++ (41 ∷ []))))) ≡ A ++ (44 ∷ 32 ∷ (formula (trees j) ++ (41 ∷ []))) =
        simp append_assoc at (ap (λ (z : List ℕ). z ++ (formula (trees j) ++ (41 ∷ []))) (sym (stores-text sign d.side a s n h))) in
        let X : List ℕ = P ++ (formula (trees j) ++ (41 ∷ [])) in
        let left : (R ++ (quoted a ++ (44 ∷ 32 ∷ []))) ++ X ≡ R ++ (quoted a ++ (44 ∷ 32 ∷ X)) =
        append_assoc R (quoted a ++ (44 ∷ 32 ∷ [])) X ∙ ap (λ (z : List ℕ). R ++ z) (append_assoc (quoted a) (44 ∷ 32 ∷ []) X) in
        let right : (A ++ (44 ∷ 32 ∷ (formula (trees j) ++ []))) ++ (41 ∷ []) ≡ A ++ (44 ∷ 32 ∷ (formula (trees j) ++ (41 ∷ []))) =
        append_assoc A (44 ∷ 32 ∷ (formula (trees j) ++ [])) (41 ∷ []) ∙ ap (λ (z : List ℕ). A ++ (44 ∷ 32 ∷ (z ++ (41 ∷ [])))) (append-nil (formula (trees j))) in
        rw last (ap (λ (z : List ℕ). bytes "select(" ++ z) (left ∙ e ∙ sym right))

    name-level : (x : Notation) → T (for_name x) → 11 ≡ level_as x
    name-level (between l s) h = absurd h
    name-level (before s) h = absurd h
    name-level named h = refl

    -- the level of its tree
    tree-level : (n : Node) (s : Shape) → shape n ≡ s → T (known s) → level (tree_as d ws bits trees i n s) ≡ level_of n.kind
    unfolding tree_as level
    tree-level n var e f = name-level (notation_of n.kind) (kind_fits n.kind var e tt)
    tree-level n const e f = name-level (notation_of n.kind) (kind_fits n.kind const e tt)
    tree-level n Shape.select e f = name-level (notation_of n.kind) (kind_fits n.kind Shape.select e tt)
    tree-level n Shape.call e f = name-level (notation_of n.kind) (kind_fits n.kind Shape.call e tt)
    tree-level n unknown e f = absurd f
    tree-level n _ e f = refl

    -- a node of this shape that is well formed
    opened-text : (n : Node) (s : Shape) (nbits : ℕ) → shape n ≡ s → Formed ws i nbits d.array-widths d.side n s → FormInside d.side (form_as n s)
        → opening_as d ws bits i n s ++ pieces_text below (sign_of n.kind) (pieces_of (level_of n.kind) d.side (form_as n s)) ≡ formula (tree_as d ws bits trees i n s)
    unfolding opening_as plain_opening sign_of form_as pieces_of tree_as formula trees_over operand_at
    opened-text n var nbits e f h = unfold pieces_text in append-nil (quoted (variable_name d i))
    opened-text n const nbits e f h = unfold pieces_text in append-nil (bytes "#b" ++ binary_digits (constant_bits bits n))
    opened-text n binary nbits e f h = two-text (notation_of n.kind) (symbol_of n.kind) n.a n.b (kind_fits n.kind binary e tt)
    opened-text n rotation nbits e f h = named-text (notation_of n.kind) (symbol_of n.kind) (amount_of d ws bits i n ∷ []) n.a (kind_fits n.kind rotation e tt)
    opened-text n extraction nbits e f h = named-text (notation_of n.kind) (symbol_of n.kind) (n.a ∷ n.b ∷ []) n.c (kind_fits n.kind extraction e tt)
    opened-text n concat nbits e f h = two-text (notation_of n.kind) (symbol_of n.kind) n.a n.b (kind_fits n.kind concat e tt)
    opened-text n extension nbits e f h = named-text (notation_of n.kind) (symbol_of n.kind) (n.b ∷ []) n.a (kind_fits n.kind extension e tt)
    opened-text n ite nbits e f h = three-text (notation_of n.kind) (symbol_of n.kind) n.a n.b n.c (kind_fits n.kind ite e tt)
    opened-text n comparison nbits e f h = two-text (notation_of n.kind) (symbol_of n.kind) n.a n.b (kind_fits n.kind comparison e tt)
    opened-text n negation nbits e f h = before_text (notation_of n.kind) (symbol_of n.kind) n.a (kind_fits n.kind negation e tt)
    opened-text n connective nbits e f h = two-text (notation_of n.kind) (symbol_of n.kind) n.a n.b (kind_fits n.kind connective e tt)
    opened-text n unary nbits e f h = before_text (notation_of n.kind) (symbol_of n.kind) n.a (kind_fits n.kind unary e tt)
    opened-text n Shape.select nbits e f h = select-text (sign_of n.kind) (get_or (aname_table d) n.a []) n.b n.c n.d h
    opened-text n Shape.call nbits e f h = call-text (sign_of n.kind) (level_of n.kind) (get_or (fname_table d) n.a []) n.c n.d h
    opened-text n unknown nbits e f h = absurd f

-- ---------------------------------------------------------------- node i

module _ (d : Dag) (nbits : ℕ) (ws bits : List ℕ) (widths : ws ≡ ext_wf_of nbits d.array-widths d.side d.nodes) (i : ℕ) (here : i < length ws) where
  abbrev m : Node
  m = get_or d.nodes i no_node

  pub own-formed : Formed ws i nbits d.array-widths d.side m (shape m)
  own-formed =
      let z : Facts nbits d.array-widths d.side ws i m = rw widths (facts nbits d.array-widths d.side d.nodes i (rw widths at here)) in
      z.form

  pub own-inside : FormInside d.side (form_as m (shape m))
  own-inside = form-inside ws i nbits d.array-widths d.side m (shape m) own-formed

  pub own-known : T (known (shape m))
  own-known = by_shape (shape m) own-formed
    where
      by_shape : (s : Shape) → Formed ws i nbits d.array-widths d.side m s → T (known s)
      by_shape unknown f = absurd f
      by_shape _ f = tt

  pub node-level : level (tree_of d ws bits i) ≡ level_of m.kind
  unfolding tree_of tree_step
  node-level = tree-level (trees_below d ws bits i) d ws bits i m (shape m) refl own-known

  pub node-kind : m.kind < 39
  node-kind = kind-known m.kind refl own-known

  -- its opening, and then its pieces over the formulas of its operands
  pub node-text : opening_as d ws bits i m (shape m) ++ pieces_text (λ l j. placed_tree l (tree_of d ws bits j)) (sign_of m.kind) (pieces_of (level_of m.kind) d.side (form_as m (shape m)))
      ≡ formula (tree_of d ws bits i)
  unfolding tree_of tree_step
  node-text =
      let xs : List Piece = pieces_of (level_of m.kind) d.side (form_as m (shape m)) in
      let trees : (ℕ → Tree) = trees_below d ws bits i in
      let same : pieces_text (λ l j. placed_tree l (tree_of d ws bits j)) (sign_of m.kind) xs ≡ pieces_text (λ l j. placed_tree l (trees j)) (sign_of m.kind) xs =
      text_same _ _ (sign_of m.kind) xs
      (each_of (λ j h l. ap (placed_tree l) (sym (upto-below (tree_step d ws bits) (constant []) i j h))) xs
      (pieces-each (λ j. j < i) (level_of m.kind) (level-bound m.kind) d.side (form_as m (shape m)) (own_below d nbits ws bits widths i here))) in
      ap (λ (z : List ℕ). opening_as d ws bits i m (shape m) ++ z) same ∙ opened-text trees d ws bits i m (shape m) nbits refl own-formed own-inside
