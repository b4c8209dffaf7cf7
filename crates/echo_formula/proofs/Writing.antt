-- The laws of the writer of formulas: a leaf, an operator between its operands, the operands of a node one after the other,
-- and the node between its brackets. Assumes nothing.
use Prim.Native.Nat.{ℕ, zero, suc, ◌+◌, ◌-◌, ◌^◌, ◌≤◌, ◌<◌}
use mathlib.Core.Path.{◌≡◌, refl, sym, ap, ◌∙◌, subst}
use mathlib.Core.Bool.{Bool, true, false}
use mathlib.Core.List.{List, [], ◌∷◌, ◌++◌, append-nil}
use native.Mathlib.Omega.{arith}
use borrow.Author.Tests.{lt-ltb, le-ltb}
use lib.Dec.{T, ltb, eqb, ltb→lt, eqb→eq}
use lib.ListN.{length, get_or, drop, length-drop}
use lib.Seq.{drop-length}
use Rattle.lists.specs.Bytes.{bytes}
use Rattle.lists.specs.Tests.{every_from, every-at, true→T, T→true}
use Rattle.reading.specs.Trees.{Tree}
use Rattle.echo_spec.specs.Shapes.{Shape, var, const, binary, rotation, extraction, concat, extension, comparison, negation, connective, unary, select, call, shapes, shape_of, is_leaf}
use Rattle.echo_spec.specs.Input.{Node, shape, nodes_of, Dag, dag_of}
use Rattle.echo_spec.specs.Trees.{tree_as, tree_step, tree_of}
use Rattle.echo_spec.specs.Walk.{Operand}
use Rattle.std.proofs.Common.{◌⊎◌, inl, inr}
use Rattle.blast_kernel.specs.Kinds.{shape_in}
use Rattle.blast_kernel.specs.declared.Extension as extensions
use Rattle.blast_kernel.specs.declared.Rotation as rotations
use Rattle.blast_kernel.specs.declared.Shape as code
use Rattle.blast_kernel.specs.declared.Shape.TheVariants as codes
use Rattle.echo_bytes.specs.declared.Place.{Place}
use Rattle.echo_bytes.specs.Page.{Page, page, written}
use Rattle.echo_bytes.specs.Laws.{written-nil, written_then, need-written}
use Rattle.echo_tables.specs.declared.Form.{Form}
use Rattle.echo_tables.specs.declared.Form.TheVariants.{Leaf, One, Two, Choice, Chain, Arguments}
use Rattle.echo_tables.specs.Forms.{form_as, form_operands, call-some}
use Rattle.echo_tables.specs.Uses.{FormInside}
use Rattle.echo_tables.specs.Refused.{Each, form-passes}
use Rattle.echo_walk.specs.Operands.{Entries, OverForm, over-form}
use Rattle.echo_walk.specs.declared.Walk.{Walk}
use Rattle.echo_walk.specs.Walks.{problem_in, dag_in, widths_in, node_within, Fine, Under, LeafAt}
use Rattle.echo_walk.proofs.Laws.{node-count, Begun, begun-next, begun-none}
use Rattle.formula_text.specs.Notation.{notations, level, placed, formula}
use Rattle.echo_pieces.specs.Signs.{sign_of, level_of}
use Rattle.echo_pieces.specs.declared.Behind.TheVariants.{Comma, Close, CloseComma}
use Rattle.echo_pieces.specs.declared.Piece.{Piece}
use Rattle.echo_pieces.specs.Pieces.{piece, behind_text, one_pieces, two_pieces, store_pieces, chain_pieces, arg_pieces, pieces_of, count_of, pieces_text}
use Rattle.echo_pieces.specs.PieceLaws.{no_piece, pieces-count, arg-more, arg-last, Wanted, pieces-each, each_at, text-step}
use Rattle.echo_openings.specs.Openings.{plain_opening, opening_as}
use Rattle.echo_openings.specs.NodeText.{placed_tree, own-inside, node-level, node-kind, node-text}
use Rattle.echo_openings.specs.Placed.{opening_of, placed_at}
use Rattle.echo_formula.specs.Texts.{bracket_text, form_at, list_text, operands_text}

-- ---------------------------------------------------------------- leaves

by_leaf : (P : Shape → Type 0) → P var → P const → (s : Shape) → T (is_leaf s) → P s
unfolding is_leaf
by_leaf P v c var h = v
by_leaf P v c const h = c
by_leaf P v c _ h = absurd h

leaf-level : (d : Dag) (ws bits : List ℕ) (trees : ℕ → Tree) (i : ℕ) (n : Node) (s : Shape) → T (is_leaf s) → level (tree_as d ws bits trees i n s) ≡ 11
unfolding tree_as level
leaf-level d ws bits trees i n s h = by_leaf (λ s. level (tree_as d ws bits trees i n s) ≡ 11) refl refl s h

leaf-opening : (d : Dag) (ws bits : List ℕ) (trees : ℕ → Tree) (i : ℕ) (n : Node) (s : Shape) → T (is_leaf s) → opening_as d ws bits i n s ≡ formula (tree_as d ws bits trees i n s)
unfolding tree_as opening_as formula
leaf-opening d ws bits trees i n s h = by_leaf (λ s. opening_as d ws bits i n s ≡ formula (tree_as d ws bits trees i n s)) refl refl s h

-- as tight as wanted
placed-bare : (l : ℕ) (t : Tree) → l ≤ level t → formula t ≡ placed_tree l t
unfolding placed_tree placed
placed-bare l t h = sym (rw (le-ltb (level t) l h, placed))

pub leaf-done : (W : Walk) (i l : ℕ) → LeafAt W i → l ≤ 11 → {q : Page} (P : Page) → q ≡ written P (opening_of W i) → q ≡ written P (placed_at W l i)
unfolding tree_of tree_step dag_of
leaf-done W i l h m P w =
    let e : level (tree_of (dag_in W) (widths_in W) (problem_in W).bits i) ≡ 11 = leaf-level (dag_in W) (widths_in W) (problem_in W).bits _ i (node_within W i) (shape (node_within W i)) h.leaf in
    w ∙ ap (written P)
    (leaf-opening (dag_in W) (widths_in W) (problem_in W).bits _ i (node_within W i) (shape (node_within W i)) h.leaf
    ∙ placed-bare l (tree_of (dag_in W) (widths_in W) (problem_in W).bits i) (omega arith))

-- ---------------------------------------------------------------- brackets

placed_by : (l : ℕ) (t : Tree) {own : ℕ} → own ≡ level t → bracket_text (ltb own l) 40 ++ (formula t ++ bracket_text (ltb own l) 41) ≡ placed_tree l t
unfolding placed_tree placed bracket_text bytes
placed_by l t e = rw e (by_level (ltb (level t) l))
  where
    by_level : (b : Bool) → bracket_text b 40 ++ (formula t ++ bracket_text b 41) ≡ elim b [ true ↦ 40 ∷ (formula t ++ (41 ∷ [])) | false ↦ formula t ]
    by_level true = refl
    by_level false = append-nil (formula t)

each_of : {P Q : Operand → Type 0} → ((x : Operand) → P x → Q x) → (xs : List Operand) → Each P xs → Each Q xs
each_of f [] h = tt
each_of f (x ∷ xs) h = (f x h.0, each_of f xs h.1)

-- ---------------------------------------------------------------- tests of every kind

abbrev fits : Bool → Bool → Bool
fits a b = elim a [ true ↦ b | false ↦ true ]

-- what follows for each kind by a computed test of all
of-kind : (p q : ℕ → Bool) → T (every_from (λ k. fits (p k) (q k)) 0 39) → (k : ℕ) → k < 39 → p k ≡ true → T (q k)
of-kind p q t k h e = subst (λ (b : Bool). T (fits b (q k))) e (every-at (λ k. fits (p k) (q k)) 0 39 t k (omega arith) (omega arith))

-- ---------------------------------------------------------------- operators between their operands

-- the shapes that they have
abbrev two : Shape → Bool
two binary = true
two concat = true
two comparison = true
two connective = true
two _ = false

by_two : (P : Shape → Type 0) → P binary → P concat → P comparison → P connective → (s : Shape) → T (two s) → P s
by_two P b c r o binary h = b
by_two P b c r o concat h = c
by_two P b c r o comparison h = r
by_two P b c r o connective h = o
by_two P b c r o _ h = absurd h

infix-kinds : T (every_from (λ k. fits (ltb (level_of k) 10) (two (shape_of k))) 0 39)
unfolding shapes notations
infix-kinds = tt

infix-kind : (k : ℕ) → k < 39 → level_of k < 10 → T (two (shape_of k))
infix-kind k h l = of-kind (λ k. ltb (level_of k) 10) (λ k. two (shape_of k)) infix-kinds k h (lt-ltb (level_of k) 10 l)

-- ---------------------------------------------------------------- named shapes that are told apart

abbrev pub is_named : Shape → Bool
is_named rotation = true
is_named extraction = true
is_named extension = true
is_named select = true
is_named call = true
is_named _ = false

named-kinds : T (every_from (λ k. fits (is_named (shape_of k)) (eqb (level_of k) 11)) 0 39)
unfolding shapes notations
named-kinds = tt

named-level : (k : ℕ) → k < 39 → T (is_named (shape_of k)) → level_of k ≡ 11
named-level k h n =
    eqb→eq (level_of k) 11 (of-kind (λ k. is_named (shape_of k)) (λ k. eqb (level_of k) 11) named-kinds k h (T→true (is_named (shape_of k)) n))

-- ---------------------------------------------------------------- an operator before its operand

abbrev pub is_prefix : Shape → Bool
is_prefix negation = true
is_prefix unary = true
is_prefix _ = false

prefix-kinds : T (every_from (λ k. fits (eqb (level_of k) 10) (is_prefix (shape_of k))) 0 39)
unfolding shapes notations
prefix-kinds = tt

prefix-kind : (k : ℕ) → k < 39 → level_of k ≡ 10 → T (is_prefix (shape_of k))
prefix-kind k h l = of-kind (λ k. eqb (level_of k) 10) (λ k. is_prefix (shape_of k)) prefix-kinds k h (ap (λ (n : ℕ). eqb n 10) l)

by_prefix : (P : Shape → Type 0) → P negation → P unary → (s : Shape) → T (is_prefix s) → P s
by_prefix P n u negation h = n
by_prefix P n u unary h = u
by_prefix P n u _ h = absurd h

-- the sign, and the operand behind it
prefix-text : (d : Dag) (ws bits : List ℕ) (i : ℕ) (n : Node) (g : ℕ → ℕ → List ℕ) → level_of n.kind ≡ 10 → (s : Shape) → T (is_prefix s)
    → opening_as d ws bits i n s ++ pieces_text g (sign_of n.kind) (pieces_of (level_of n.kind) d.side (form_as n s)) ≡ sign_of n.kind ++ g 10 n.a
unfolding opening_as plain_opening form_as pieces_of one_pieces pieces_text behind_text
prefix-text d ws bits i n g l = by_prefix _ text text
  where
    text : plain_opening n.kind ++ pieces_text g (sign_of n.kind) (one_pieces (level_of n.kind) n.a) ≡ sign_of n.kind ++ g 10 n.a
    text = rw (l, plain_opening, one_pieces) (ap (λ (z : List ℕ). sign_of n.kind ++ z) (append-nil (g 10 n.a)))

-- no opening, and the sign between the operands
infix-text : (d : Dag) (ws bits : List ℕ) (i : ℕ) (n : Node) (g : ℕ → ℕ → List ℕ) → level_of n.kind < 10 → (s : Shape) → T (two s)
    → opening_as d ws bits i n s ++ pieces_text g (sign_of n.kind) (pieces_of (level_of n.kind) d.side (form_as n s))
    ≡ g (level_of n.kind) n.a ++ (sign_of n.kind ++ g (level_of n.kind + 1) n.b)
unfolding opening_as plain_opening form_as pieces_of two_pieces pieces_text behind_text
infix-text d ws bits i n g l = by_two _ text text text text
  where
    text : plain_opening n.kind ++ pieces_text g (sign_of n.kind) (two_pieces (level_of n.kind) n.a n.b)
        ≡ g (level_of n.kind) n.a ++ (sign_of n.kind ++ g (level_of n.kind + 1) n.b)
    text =
        rw (lt-ltb (level_of n.kind) 10 l, plain_opening, two_pieces) (ap (λ (z : List ℕ). g (level_of n.kind) n.a ++ (sign_of n.kind ++ z)) (append-nil (g (level_of n.kind + 1) n.b)))

-- ---------------------------------------------------------------- pieces one after the other

module _ (g : ℕ → ℕ → List ℕ) (sign : List ℕ) (xs : List Piece) where
  -- a piece, and what is behind it
  piece-next : (k : ℕ) → k < length xs → {x : Piece} → x ≡ get_or xs k no_piece → {whole : List ℕ} {p q r s : Page} → Begun whole (pieces_text g sign (drop k xs)) p q
      → r ≡ written q (g x.level x.node) → s ≡ written r (behind_text sign x.behind) → Begun whole (pieces_text g sign (drop (k + 1) xs)) p s
  piece-next k m e b v w = begun-next b _ _ (text-step g sign xs k m e) (written_then _ _ _ v w)

  pieces_end : {k : ℕ} → k ≡ length xs → pieces_text g sign (drop k xs) ≡ []
  unfolding pieces_text
  pieces_end e = ap (λ (n : ℕ). pieces_text g sign (drop n xs)) e ∙ ap (pieces_text g sign) (drop-length xs)

-- ---------------------------------------------------------------- stores and arguments

pub entry_at : {P : ℕ → Type 0} {side : List ℕ} {s n : ℕ} → Entries P side s n → (k : ℕ) → k < n → {x : ℕ} → x ≡ get_or side (s + k) 0 → P x
entry_at {s} h k l e = rw e (h.each (s + k) (omega arith) (omega arith))

-- no sign is written behind one of them, so any may stand for it
module _ (g : ℕ → ℕ → List ℕ) (sign side : List ℕ) where
  chain-any : (j s n : ℕ) → pieces_text g [] (chain_pieces side j s n) ≡ pieces_text g sign (chain_pieces side j s n)
  unfolding pieces_text chain_pieces store_pieces behind_text
  chain-any j s zero = refl
  chain-any j s (suc n) =
      ap (λ (z : List ℕ). g 0 (get_or side (s + (n + n)) 0) ++ (bytes ", " ++ (g 0 (get_or side (s + (n + n + 1)) 0) ++ (bytes "), " ++ z)))) (chain-any j s n)

  args-any : (s n : ℕ) → pieces_text g [] (arg_pieces side s n) ≡ pieces_text g sign (arg_pieces side s n)
  unfolding pieces_text arg_pieces behind_text
  args-any s zero = refl
  args-any s (suc zero) = refl
  args-any s (suc (suc n)) = ap (λ (z : List ℕ). g 0 (get_or side s 0) ++ (bytes ", " ++ z)) (args-any (s + 1) (suc n))

-- the last pair, and then the others
chain_more : (side : List ℕ) (j s n : ℕ) → 0 < n → {x v : ℕ} → x ≡ get_or side (s + (n - 1 + (n - 1))) 0 → v ≡ get_or side (s + (n - 1 + (n - 1) + 1)) 0
    → chain_pieces side j s n ≡ piece x 0 Comma ∷ piece v 0 CloseComma ∷ chain_pieces side j s (n - 1)
unfolding chain_pieces store_pieces
chain_more side j s n h d e = let m : n ≡ suc (n - 1) = omega arith in ap (chain_pieces side j s) m ∙ rw (d, e) refl

module _ (W : Walk) where
  abbrev side : List ℕ
  side = (problem_in W).side

  abbrev g : ℕ → ℕ → List ℕ
  g l j = placed_at W l j

  args_count : (s n : ℕ) → length (arg_pieces side s n) ≡ n
  unfolding pieces_of count_of
  args_count s n = pieces-count 0 side (Arguments s n)

  pub args_none : (s : ℕ) {n : ℕ} → n ≡ 0 → (p : Place) (l : List ℕ) → p.need < 2 ^ 64 → page p l ≡ written (page p l) (list_text W (arg_pieces side s n))
  unfolding pieces_text arg_pieces
  args_none s e p l h = rw e (sym (written-nil (page p l) h))

  module _ {whole : List ℕ} {p q : Page} where
    pub chain_next : (j s n : ℕ) → 0 < n → {x v : ℕ} → x ≡ get_or side (s + (n - 1 + (n - 1))) 0 → v ≡ get_or side (s + (n - 1 + (n - 1) + 1)) 0
        → Begun whole (list_text W (chain_pieces side j s n)) p q → {a b c d : Page} → a ≡ written q (g 0 x) → b ≡ written a (44 ∷ 32 ∷ [])
        → c ≡ written b (g 0 v) → d ≡ written c (41 ∷ 44 ∷ 32 ∷ []) → Begun whole (list_text W (chain_pieces side j s (n - 1))) p d
    unfolding behind_text bytes
    chain_next j s n h {x} {v} d e b u w y z =
        let xs : List Piece = piece x 0 Comma ∷ piece v 0 CloseComma ∷ chain_pieces side j s (n - 1) in
        let c : Begun whole (list_text W xs) p q = subst (λ (ys : List Piece). Begun whole (list_text W ys) p q) (chain_more side j s n h d e) b in
        piece-next g [] xs 1 (omega arith) refl (piece-next g [] xs 0 (omega arith) refl c u w) y z

    pub chain-done : (j s n : ℕ) → n ≡ 0 → Begun whole (list_text W (chain_pieces side j s n)) p q → {a b : Page} → a ≡ written q (g 0 j)
        → b ≡ written a (41 ∷ []) → b ≡ written p whole
    unfolding chain_pieces store_pieces pieces_text behind_text bytes
    chain-done j s n e b v w =
        let c : Begun whole (list_text W (chain_pieces side j s 0)) p q = subst (λ (m : ℕ). Begun whole (list_text W (chain_pieces side j s m)) p q) e b in
        begun-none (piece-next g [] (piece j 0 Close ∷ []) 0 (omega arith) refl c v w) refl

    module _ (s n k : ℕ) {x : ℕ} (e : x ≡ get_or side (s + k) 0) (t : Begun whole (list_text W (drop k (arg_pieces side s n))) p q) where
      pub args-next : k + 1 < n → {a b : Page} → a ≡ written q (g 0 x) → b ≡ written a (44 ∷ 32 ∷ [])
          → Begun whole (list_text W (drop (k + 1) (arg_pieces side s n))) p b
      unfolding behind_text bytes
      args-next h v w = piece-next g [] (arg_pieces side s n) k (omega (arith, args_count s n)) {x = piece x 0 Comma} (rw e (sym (arg-more side s n k h))) t v w

      pub args-done : k + 1 ≡ n → {a b : Page} → a ≡ written q (g 0 x) → b ≡ written a (41 ∷ []) → b ≡ written p whole
      unfolding behind_text bytes
      args-done h v w =
          begun-none
          (piece-next g [] (arg_pieces side s n) k (omega (arith, args_count s n)) {x = piece x 0 Close} (rw e (sym (arg-last side s n k h))) t v w)
          (pieces_end g [] (arg_pieces side s n) (omega (arith, args_count s n)))

  -- ---------------------------------------------------------------- the operands of a form

  pub count_fits : (f : Form) → FormInside side f → count_of f < 2 ^ 64
  unfolding count_of
  count_fits Leaf l = omega arith
  count_fits (One a w) l = omega arith
  count_fits (Two a b w) l = omega arith
  count_fits (Choice a b c) l = omega arith
  count_fits (Chain j s n) l = omega (arith, length-drop s side, W.ready.entries)
  count_fits (Arguments s n) l = omega (arith, W.ready.entries)

  module _ (kind own : ℕ) (f : Form) where
    -- one inside parentheses
    pub last-all : own ≡ 11 → {a : ℕ} {w : Bool} → f ≡ One a w → {q : Page} (p : Page) → q ≡ written p (placed_at W 0 a ++ bytes ")") → q ≡ written p (operands_text W kind (pieces_of own side f))
    unfolding pieces_of one_pieces pieces_text behind_text bytes
    last-all h e p w = rw (e, h) w

    -- stores, and arguments
    pub chain-all : {j s n : ℕ} → f ≡ Chain j s n → {q : Page} (p : Page) → q ≡ written p (list_text W (chain_pieces side j s n)) → q ≡ written p (operands_text W kind (pieces_of own side f))
    unfolding pieces_of
    chain-all e p w = rw e (w ∙ ap (written p) (chain-any g (sign_of kind) side _ _ _))

    pub args-all : {s n : ℕ} → f ≡ Arguments s n → {q : Page} (p : Page) → q ≡ written p (list_text W (arg_pieces side s n)) → q ≡ written p (operands_text W kind (pieces_of own side f))
    unfolding pieces_of
    args-all e p w = rw e (w ∙ ap (written p) (args-any g (sign_of kind) side _ _))

    module _ {k : ℕ} (m : k < count_of f) {x : Piece} (e : x ≡ get_or (pieces_of own side f) k no_piece) where
      inside : k < length (pieces_of own side f)
      inside = omega (arith, pieces-count own side f)

      pub wanted_at : {P : ℕ → Type 0} → own ≤ 11 → OverForm P side f → Wanted P x
      wanted_at {P} l h = each_at (Wanted P) (pieces_of own side f) (pieces-each P own l side f h) k inside e

      -- an operand, and what is behind it
      pub next-written : {whole : List ℕ} {p q r s : Page} → Begun whole (operands_text W kind (drop k (pieces_of own side f))) p q → r ≡ written q (g x.level x.node)
          → s ≡ written r (behind_text (sign_of kind) x.behind) → Begun whole (operands_text W kind (drop (k + 1) (pieces_of own side f))) p s
      next-written b v w = piece-next g (sign_of kind) (pieces_of own side f) k inside e b v w

    pub all-written : {k : ℕ} → k ≡ count_of f → {whole : List ℕ} {p q : Page} → Begun whole (operands_text W kind (drop k (pieces_of own side f))) p q → q ≡ written p whole
    all-written e b = begun-none b (pieces_end g (sign_of kind) (pieces_of own side f) (omega (arith, pieces-count own side f)))

-- ---------------------------------------------------------------- node i

module _ (W : Walk) (i : ℕ) (fine : Fine W i) where
  pub node-inside : i < length (nodes_of (problem_in W).nodes)
  node-inside = node-count W i fine.here

  kind_fits : (node_within W i).kind < 39
  unfolding dag_of
  kind_fits = node-kind (dag_in W) (length (problem_in W).bits) (widths_in W) (problem_in W).bits W.ready.widths i fine.here

  abbrev form : Form
  form = form_at W i

  pub inside-as : FormInside (problem_in W).side form
  unfolding dag_of
  inside-as = own-inside (dag_in W) (length (problem_in W).bits) (widths_in W) (problem_in W).bits W.ready.widths i fine.here

  pub under : OverForm (Under W i) (problem_in W).side form
  unfolding dag_of
  under =
      over-form (Under W i) (problem_in W).side form inside-as
      (each_of (λ o p. record { below = p.low; fine = record { here = omega (arith, p.low, fine.here); free = p.passed } }) (form_operands (problem_in W).side form)
      (form-passes (dag_in W) (widths_in W) (length (problem_in W).bits) W.ready.widths W.ready.counted i node-inside fine.free refl))

  -- its formula between its brackets
  node-placed : (l : ℕ) (p : Page) {own : ℕ} → own ≡ level_of (node_within W i).kind → {a q r : Page} → a ≡ written p (bracket_text (ltb own l) 40)
      → q ≡ written a (formula (tree_of (dag_in W) (widths_in W) (problem_in W).bits i)) → r ≡ written q (bracket_text (ltb own l) 41) → r ≡ written p (placed_at W l i)
  unfolding dag_of
  node-placed l p e {a} u v w =
      written_then p _ _ u (written_then a _ _ v w)
      ∙ ap (written p)
      (placed_by l (tree_of (dag_in W) (widths_in W) (problem_in W).bits i)
      (e ∙ sym (node-level (dag_in W) (length (problem_in W).bits) (widths_in W) (problem_in W).bits W.ready.widths i fine.here)))

  -- m is the record that was read
  module _ {m : Node} (e : m ≡ node_within W i) where
    pub level-low : true ≡ ltb (level_of m.kind) 10 → level_of (node_within W i).kind < 10
    level-low f = rw (← e) (ltb→lt (level_of m.kind) 10 (true→T (sym f)))

    pub level-own : {own : ℕ} → own ≡ level_of m.kind → own ≡ level_of (node_within W i).kind
    level-own f = f ∙ ap (λ (n : Node). level_of n.kind) e

    pub sign-own : {s : List ℕ} → s ≡ sign_of m.kind → s ≡ sign_of (node_within W i).kind
    sign-own f = f ∙ ap (λ (n : Node). sign_of n.kind) e

    pub named-own : T (is_named (shape (node_within W i))) → level_of m.kind ≡ 11
    named-own n = ap (λ (n : Node). level_of n.kind) e ∙ named-level (node_within W i).kind kind_fits n

    module _ {f : Form} (g : f ≡ form_as m (shape m)) where
      pub form-is : f ≡ form
      form-is = g ∙ ap (λ (n : Node). form_as n (shape n)) e

      pub form-count : {k : ℕ} → k < count_of form → k < count_of f
      form-count h = rw form-is h

      pub form-piece : (k : ℕ) {x : Piece} → x ≡ get_or (pieces_of (level_of m.kind) (problem_in W).side f) k no_piece → x ≡ get_or (pieces_of (level_of (node_within W i).kind) (problem_in W).side form) k no_piece
      form-piece k h = h ∙ rw (form-is, e) refl

      pub form-inside : FormInside (problem_in W).side f
      form-inside = rw form-is inside-as

      pub form-under : OverForm (Under W i) (problem_in W).side f
      form-under = rw form-is under

      -- the opening and the operands
      pub other-done : {own : ℕ} → own ≡ level_of m.kind → (l : ℕ) {r : Page} (p : Page) {a b c : Page} → a ≡ written p (bracket_text (ltb own l) 40) → b ≡ written a (opening_of W i)
          → c ≡ written b (operands_text W m.kind (pieces_of (level_of m.kind) (problem_in W).side f)) → r ≡ written c (bracket_text (ltb own l) 41) → r ≡ written p (placed_at W l i)
      unfolding dag_of
      other-done {own} h l p {a} u v w x =
          node-placed l p (h ∙ ap (λ (n : Node). level_of n.kind) e) u
          (written_then a (opening_of W i) (operands_text W m.kind (pieces_of (level_of m.kind) (problem_in W).side f)) v w
          ∙ ap (written a)
          (rw (form-is, e)
          (node-text (dag_in W) (length (problem_in W).bits) (widths_in W) (problem_in W).bits W.ready.widths i fine.here)))
          x

      -- the same where no level is tighter
      pub named-done : T (is_named (shape (node_within W i))) → {l : ℕ} → l ≤ 11 → (p : Page) → p.place.need < 2 ^ 64 → {b c : Page} → b ≡ written p (opening_of W i)
          → c ≡ written b (operands_text W m.kind (pieces_of (level_of m.kind) (problem_in W).side f)) → c ≡ written p (placed_at W l i)
      unfolding bracket_text
      named-done n {l} h p small {b} {c} v w =
          let k : level_of m.kind ≡ 11 = named-own n in
          let z : ltb (level_of m.kind) l ≡ false = le-ltb (level_of m.kind) l (omega arith) in
          let s : c.place.need < 2 ^ 64 = rw w (need-written b _) in
          other-done refl l p (rw (z, bracket_text) (sym (written-nil p small))) v w (rw (z, bracket_text) (sym (written-nil c s)))

    pub form-own : form ≡ form_as m (shape m)
    form-own = ap (λ (n : Node). form_as n (shape n)) (sym e)

    -- by its shape: that it is one of these, and its form
    form-of : {s : Shape} → shape (node_within W i) ≡ s → T (is_named s) → T (is_named (shape (node_within W i))) × (form_as m s ≡ form_as m (shape m))
    form-of h n = (rw h n, ap (form_as m) (sym (ap shape e ∙ h)))

    pub extraction-form : shape (node_within W i) ≡ extraction → T (is_named (shape (node_within W i))) × (One m.c false ≡ form_as m (shape m))
    unfolding form_as
    extraction-form h = form-of h tt

    pub select-form : shape (node_within W i) ≡ select → T (is_named (shape (node_within W i))) × (Chain m.b m.c m.d ≡ form_as m (shape m))
    unfolding form_as
    select-form h = form-of h tt

    pub call-form : shape (node_within W i) ≡ call → 0 < m.d → T (is_named (shape (node_within W i))) × (Arguments m.c m.d ≡ form_as m (shape m))
    unfolding form_as
    call-form h l = let x = form-of h tt in (x.0, call-some m.c m.d (λ z. absurd (omega arith)) ∙ x.1)

    pub first-form : {r : code.Shape} → shape (node_within W i) ≡ shape_in r → ((o : rotations.Rotation) × (r ≡ codes.Rotation o)) ⊎ ((o : extensions.Extension) × (r ≡ codes.Extension o))
        → T (is_named (shape (node_within W i))) × (One m.a false ≡ form_as m (shape m))
    unfolding form_as
    first-form h (inl (o, f)) = form-of (h ∙ ap shape_in f) tt
    first-form h (inr (o, f)) = form-of (h ∙ ap shape_in f) tt

    -- an operator before its operand
    module _ (mid : level_of (node_within W i).kind ≡ 10) where
      prefixed : T (is_prefix (shape (node_within W i)))
      prefixed = prefix-kind (node_within W i).kind kind_fits mid

      pub one_under : Under W i m.a
      unfolding form_as
      one_under =
          rw e
          (by_prefix (λ s. OverForm (Under W i) (problem_in W).side (form_as (node_within W i) s) → Under W i (node_within W i).a) (λ h. h) (λ h. h) (shape (node_within W i)) prefixed under)

      one-text : sign_of (node_within W i).kind ++ placed_at W 10 m.a ≡ formula (tree_of (dag_in W) (widths_in W) (problem_in W).bits i)
      unfolding dag_of
      one-text =
          rw e
          (sym (prefix-text (dag_in W) (widths_in W) (problem_in W).bits i (node_within W i) (λ l j. placed_at W l j) mid (shape (node_within W i)) prefixed)
          ∙ node-text (dag_in W) (length (problem_in W).bits) (widths_in W) (problem_in W).bits W.ready.widths i fine.here)

      pub prefix-done : (l : ℕ) {s : List ℕ} → s ≡ sign_of (node_within W i).kind → {r : Page} (p : Page) {a b c : Page} → a ≡ written p (bracket_text (ltb 10 l) 40)
          → b ≡ written a s → c ≡ written b (placed_at W 10 m.a) → r ≡ written c (bracket_text (ltb 10 l) 41) → r ≡ written p (placed_at W l i)
      prefix-done l {s} g p {a} u v w y =
          node-placed l p (sym mid) u
          (written_then a _ _ (v ∙ ap (written a) g) w ∙ ap (written a) one-text) y

    -- an operator between its operands
    module _ (low : level_of (node_within W i).kind < 10) where
      two_shaped : T (two (shape (node_within W i)))
      two_shaped = infix-kind (node_within W i).kind kind_fits low

      pub both_under : Under W i m.a × Under W i m.b
      unfolding form_as
      both_under =
          rw e
          (by_two (λ s. OverForm (Under W i) (problem_in W).side (form_as (node_within W i) s) → Under W i (node_within W i).a × Under W i (node_within W i).b)
          (λ h. h) (λ h. h) (λ h. h) (λ h. h) (shape (node_within W i)) two_shaped under)

      module _ {own : ℕ} (f : own ≡ level_of (node_within W i).kind) where
        pub own-low : own < 10
        own-low = rw f low

        both-text : placed_at W own m.a ++ (sign_of (node_within W i).kind ++ placed_at W (own + 1) m.b) ≡ formula (tree_of (dag_in W) (widths_in W) (problem_in W).bits i)
        unfolding dag_of
        both-text =
            rw (f, e)
            (sym (infix-text (dag_in W) (widths_in W) (problem_in W).bits i (node_within W i) (λ l j. placed_at W l j) low (shape (node_within W i)) two_shaped)
            ∙ node-text (dag_in W) (length (problem_in W).bits) (widths_in W) (problem_in W).bits W.ready.widths i fine.here)

        pub infix-done : (l : ℕ) {s : List ℕ} → s ≡ sign_of (node_within W i).kind → {r : Page} (p : Page) {a b c d : Page} → a ≡ written p (bracket_text (ltb own l) 40)
            → b ≡ written a (placed_at W own m.a) → c ≡ written b s → d ≡ written c (placed_at W (own + 1) m.b) → r ≡ written d (bracket_text (ltb own l) 41) → r ≡ written p (placed_at W l i)
        infix-done l g p {a} {b} u v w x y =
            node-placed l p f u
            (written_then a _ _ v (written_then b _ _ (w ∙ ap (written b) g) x) ∙ ap (written a) both-text) y
