-- Problems that differ in the bits of constants alone, of which no rotation's amount has any, have one hidden form.
use Prim.Native.Nat.{ℕ, zero, suc, ◌+◌, ◌%◌, ◌<◌}
use Rattle.std.specs.Prelude.{◌≡◌, Bool, T, ltb, length, take, drop, replicate}
use Rattle.std.proofs.Math.Path.{refl, sym, ap}
use Rattle.std.proofs.Common.{◌∙◌, ext_get_or}
use mathlib.Core.List.{List, [], ◌∷◌, map}
use Rattle.std.proofs.Math.Bool.{true, false}
use native.Mathlib.Omega.{arith}
use Rattle.std.proofs.Math.Dec.{leb, eqb, eqb→eq}
use Rattle.std.proofs.Math.ListN.{get_or, length-take, length-drop}
use Rattle.std.proofs.Math.Seq.{get_or-take, get_or-drop, take-append_seam}
use Rattle.lists.specs.Tests.{every, and-1, T→true}
use Rattle.lists.specs.Build.{upto}
use Rattle.reading.specs.Kinds.{Const}
use Rattle.reading.specs.Trees.{Tree, constant, apply, select, call, Trees, more, store}
use Rattle.echo_spec.specs.Refusals.{unless}
use Rattle.echo_spec.specs.Shapes.{
  Shape,
  var,
  const,
  binary,
  rotation,
  extraction,
  concat,
  extension,
  ite,
  comparison,
  negation,
  connective,
  unary,
  unknown,
}
use Rattle.echo_spec.specs.Input.{Problem, Node, shape, no_node, Dag, nodes_within, within_limits, encoded, dag_of, query_of, aname_table, fname_table}
use Rattle.echo_spec.specs.Widths.{width_at, widths_of}
use Rattle.echo_spec.specs.Tables.{declarations_of}
use Rattle.echo_spec.specs.Trees.{constant_bits, bits_value, amount_of, trees_over, stores_over, tree_as, tree_step, trees_below, tree_of, reading_of}
use Rattle.echo_spec.specs.Walk.{rotation_ok, asked_as, Operand, vector, formula, levels, operands_as, walk_all, step_of_walk, walks_below, walk, walk_roots}
use Rattle.echo_spec.specs.Render.{render}
use Rattle.echo_spec.specs.Answers.{endless_with, endless_refusal, text_refusal, echo_answer, text_answer}
use Rattle.echo_spec.specs.Accepted.{unless-passed, or_else-passed, walk-passed}
use Rattle.echo_spec.proofs.Accepted.{accepted}
use Rattle.echo_spec.proofs.SortedTrees.{walk-cons, walk-append}
use Rattle.hidden.specs.Hidden.{zeros, hidden, hidden_all, hidden_stores, hidden_reading, hidden_script, echo_hidden_answer}
use Rattle.hidden.specs.Alike.{with_bits, InAmount, Alike}

-- ---------------------------------------------------------------- trees

module _ (d : Dag) (ws bits bits' : List ℕ) (counted : length bits ≡ length bits')
    (amounts : (k : ℕ) → InAmount d.nodes k → get_or bits k 0 ≡ get_or bits' k 0) where
  constant-length : (n : Node) → length (constant_bits bits n) ≡ length (constant_bits bits' n)
  unfolding constant_bits
  constant-length n = simp (length-take, length-drop, counted) refl

  constant-agrees : (n : Node) → constant (zeros (constant_bits bits n)) ≡ constant (zeros (constant_bits bits' n))
  unfolding zeros
  constant-agrees n = ap (λ (k : ℕ). constant (replicate k 0)) (constant-length n)

  amount-agrees : (i : ℕ) → shape (get_or d.nodes i no_node) ≡ rotation → T (rotation_ok d ws i (get_or d.nodes i no_node))
      → amount_of d ws bits i (get_or d.nodes i no_node) ≡ amount_of d ws bits' i (get_or d.nodes i no_node)
  unfolding amount_of constant_bits rotation_ok
  amount-agrees i s t =
      let n : Node = get_or d.nodes i no_node in
      let m : Node = get_or d.nodes n.b no_node in
      let k : m.kind ≡ Const = eqb→eq m.kind Const (and-1 (leb (width_at ws i) 65536) _ (and-1 (ltb 0 (width_at ws i)) _ t)) in
      ap (λ (bs : List ℕ). bits_value bs % width_at ws i)
      (ext_get_or 0 (take m.b (drop m.a bits)) (take m.b (drop m.a bits')) (constant-length m)
      (λ j l.
      let short : j < m.b = omega (arith, length-take m.b (drop m.a bits)) in
      rw (get_or-take m.b (drop m.a bits) j 0 short, get_or-take m.b (drop m.a bits') j 0 short, get_or-drop m.a bits j 0, get_or-drop m.a bits' j 0)
      (amounts (m.a + j) (record { node = i; rotates = s; amount = k; from = omega arith; below = omega arith }))))

  -- over trees that agree where the walk passes
  module _ (below : ℕ → Bool → ℕ) (trees trees' : ℕ → Tree) (agree : (j : ℕ) (b : Bool) → below j b ≡ 0 → hidden (trees j) ≡ hidden (trees' j)) where
    operands-agree : (os : List Operand) → walk_all below os ≡ 0
        → hidden_all (trees_over trees (map (λ o. o.node) os)) ≡ hidden_all (trees_over trees' (map (λ o. o.node) os))
    unfolding trees_over hidden
    operands-agree [] e = refl
    operands-agree (o ∷ os) e =
        let (p, rest) = walk-cons below o os e in
        let first = agree o.node o.bool p in
        let later = operands-agree os rest in
        λ k. more (first k) (later k)

    arguments-agree : (xs : List ℕ) → walk_all below (map vector xs) ≡ 0 → hidden_all (trees_over trees xs) ≡ hidden_all (trees_over trees' xs)
    unfolding trees_over hidden
    arguments-agree [] e = refl
    arguments-agree (x ∷ xs) e =
        let (p, rest) = walk-cons below (vector x) (map vector xs) e in
        let first = agree x false p in
        let later = arguments-agree xs rest in
        λ k. more (first k) (later k)

    stores-agree : (n : ℕ) (side : List ℕ) → walk_all below (levels n side) ≡ 0 → hidden_stores (stores_over trees n side) ≡ hidden_stores (stores_over trees' n side)
    unfolding levels stores_over hidden
    stores-agree zero side e = refl
    stores-agree (suc n) [] e = refl
    stores-agree (suc n) (x ∷ []) e = refl
    stores-agree (suc n) (x ∷ v ∷ side) e =
        let (e₁, e₂) = walk-append below (levels n side) (vector x ∷ vector v ∷ []) e in
        let (ex, e₃) = walk-cons below (vector x) (vector v ∷ []) e₂ in
        let (ev, e₄) = walk-cons below (vector v) [] e₃ in
        let index = agree x false ex in
        let value = agree v false ev in
        let rest = stores-agree n side e₁ in
        λ k. store (index k) (value k) (rest k)

    operator-agrees : (kind : ℕ) (ks : List ℕ) (os : List Operand) → walk_all below os ≡ 0
        → apply kind ks (hidden_all (trees_over trees (map (λ o. o.node) os))) ≡ apply kind ks (hidden_all (trees_over trees' (map (λ o. o.node) os)))
    operator-agrees kind ks os e = ap (apply kind ks) (operands-agree os e)

    -- a node whose rotation, if it is one, has the same amount
    module _ (i : ℕ) (n : Node) (amount : shape n ≡ rotation → T (rotation_ok d ws i n) → amount_of d ws bits i n ≡ amount_of d ws bits' i n) where
      node-agrees : (s : Shape) → shape n ≡ s → asked_as d ws i n s ≡ 0 → walk_all below (operands_as d.side n s) ≡ 0
          → hidden (tree_as d ws bits trees i n s) ≡ hidden (tree_as d ws bits' trees' i n s)
      unfolding tree_as hidden asked_as operands_as
      node-agrees var e a o = refl
      node-agrees const e a o = constant-agrees n
      node-agrees binary e a o = operator-agrees n.kind [] (vector n.a ∷ vector n.b ∷ []) o
      node-agrees rotation e a o =
          let same = amount e (unless-passed (rotation_ok d ws i n) 4 a) in
          let operand = operands-agree (vector n.a ∷ []) o in
          λ k. apply n.kind (same k ∷ []) (operand k)
      node-agrees extraction e a o = operator-agrees n.kind (n.a ∷ n.b ∷ []) (vector n.c ∷ []) o
      node-agrees concat e a o = operator-agrees n.kind [] (vector n.a ∷ vector n.b ∷ []) o
      node-agrees extension e a o = operator-agrees n.kind (n.b ∷ []) (vector n.a ∷ []) o
      node-agrees ite e a o = operator-agrees n.kind [] (formula n.a ∷ vector n.b ∷ vector n.c ∷ []) o
      node-agrees comparison e a o = operator-agrees n.kind [] (vector n.a ∷ vector n.b ∷ []) o
      node-agrees negation e a o = operator-agrees n.kind [] (formula n.a ∷ []) o
      node-agrees connective e a o = operator-agrees n.kind [] (formula n.a ∷ formula n.b ∷ []) o
      node-agrees unary e a o = operator-agrees n.kind [] (vector n.a ∷ []) o
      node-agrees Shape.select e a o =
          let (ol, oi) = walk-append below (levels n.d (drop n.c d.side)) (vector n.b ∷ []) o in
          let index = agree n.b false (walk-cons below (vector n.b) [] oi).0 in
          let stores = stores-agree n.d (drop n.c d.side) ol in
          λ k. select (get_or (aname_table d) n.a []) (index k) (stores k)
      node-agrees Shape.call e a o = ap (call (get_or (fname_table d) n.a [])) (arguments-agree (take n.d (drop n.c d.side)) o)
      node-agrees unknown e a o = refl

    step-agrees : (i : ℕ) (b : Bool) → step_of_walk d ws below i b ≡ 0 → hidden (tree_step d ws bits trees i) ≡ hidden (tree_step d ws bits' trees' i)
    unfolding tree_step
    step-agrees i b e = let passed = walk-passed d ws below i b e in node-agrees i (get_or d.nodes i no_node) (amount-agrees i) (shape (get_or d.nodes i no_node)) refl passed.taken passed.operands

  below-agrees : (n j : ℕ) (b : Bool) → walks_below d ws n j b ≡ 0 → hidden (trees_below d ws bits n j) ≡ hidden (trees_below d ws bits' n j)
  unfolding upto
  below-agrees zero j b e = refl
  below-agrees (suc n) j b e =
      by_place (eqb j n) refl e (λ z. step-agrees (walks_below d ws n) (trees_below d ws bits n) (trees_below d ws bits' n) (below-agrees n) n b z) (below-agrees n j b)
    where
      by_place : (c : Bool) → eqb j n ≡ c → walks_below d ws (suc n) j b ≡ 0
          → (step_of_walk d ws (walks_below d ws n) n b ≡ 0 → hidden (tree_step d ws bits (trees_below d ws bits n) n) ≡ hidden (tree_step d ws bits' (trees_below d ws bits' n) n))
          → (walks_below d ws n j b ≡ 0 → hidden (trees_below d ws bits n j) ≡ hidden (trees_below d ws bits' n j))
          → hidden (trees_below d ws bits (suc n) j) ≡ hidden (trees_below d ws bits' (suc n) j)
      by_place true q e here lower = rw (q, upto) (here (rw (q, upto) at e))
      by_place false q e here lower = rw (q, upto) (lower (rw (q, upto) at e))

  tree-agrees : (i : ℕ) (b : Bool) → walk d ws i b ≡ 0 → hidden (tree_of d ws bits i) ≡ hidden (tree_of d ws bits' i)
  unfolding walk tree_of
  tree-agrees i b e = step-agrees (walks_below d ws i) (trees_below d ws bits i) (trees_below d ws bits' i) (below-agrees i) i b e

  roots-agree : (roots : List ℕ) → walk_roots d ws roots ≡ 0 → hidden_all (trees_over (tree_of d ws bits) roots) ≡ hidden_all (trees_over (tree_of d ws bits') roots)
  unfolding walk_roots trees_over hidden
  roots-agree [] e = refl
  roots-agree (r ∷ rs) e =
      let (p, rest) = walk-cons (walk d ws) (formula r) (map formula rs) e in
      let first = tree-agrees r true p in
      let later = roots-agree rs rest in
      λ k. more (first k) (later k)

-- ---------------------------------------------------------------- the answer

module _ (p : Problem) (bits : List ℕ) (alike : Alike p bits) where
  same-limits : within_limits (with_bits p bits) ≡ within_limits p
  unfolding within_limits nodes_within
  same-limits = rw alike.counted refl

  same-encoding : encoded p.nodes bits ≡ encoded p.nodes p.bits
  unfolding encoded
  same-encoding = rw (T→true (every (λ b. leb b 1) bits) alike.binary_too, T→true (every (λ b. leb b 1) p.bits) alike.binary) refl

  -- the number with endless room
  pub same_number : endless_refusal (with_bits p bits) ≡ endless_refusal p
  unfolding endless_refusal endless_with dag_of
  same_number = rw (same-limits, same-encoding, alike.counted) refl

  -- the hidden script, where there is one
  pub same-script : endless_refusal p ≡ 0 → hidden_script (query_of (with_bits p bits)) ≡ hidden_script (query_of p)
  unfolding endless_refusal endless_with hidden_script hidden_reading reading_of dag_of
  same-script e =
      let e₁ = or_else-passed (unless (within_limits p) 9) _ e in
      let e₂ = or_else-passed (unless (encoded p.nodes p.bits) 8) _ e₁.1 in
      let ws : List ℕ = widths_of (query_of p) in
      let walked : walk_roots (dag_of p) ws p.roots ≡ 0 = (accepted (dag_of p) ws p.roots e₂.1).walked in
      let trees = roots-agree (dag_of p) ws bits p.bits alike.counted alike.amounts p.roots walked in
      rw alike.counted (ap (λ (ts : Trees). render (record { declarations = declarations_of (dag_of p) ws; assertions = ts })) trees)

  pub same_answer : (lent : List ℕ) → echo_hidden_answer (with_bits p bits) lent ≡ echo_hidden_answer p lent
  unfolding echo_hidden_answer
  same_answer lent = ap (λ (n : ℕ). text_answer n (hidden_script (query_of (with_bits p bits))) lent) same_number ∙ by_number (endless_refusal p) refl
    where
      by_number : (n : ℕ) → endless_refusal p ≡ n → text_answer n (hidden_script (query_of (with_bits p bits))) lent ≡ text_answer n (hidden_script (query_of p)) lent
      by_number zero e = ap (λ (t : List ℕ). text_answer 0 t lent) (same-script e)
      by_number (suc n) e = unfold text_answer text_refusal echo_answer in refl

-- A text answered in two buffers of one length: number and count agree, and the bytes that are counted.
pub same-in-both : (n : ℕ) (text lent lent' : List ℕ) → length lent ≡ length lent'
    → ((text_answer n text lent).number ≡ (text_answer n text lent').number) × ((text_answer n text lent).count ≡ (text_answer n text lent').count)
    × (take (text_answer n text lent).count (text_answer n text lent).output ≡ take (text_answer n text lent').count (text_answer n text lent').output)
unfolding text_answer
same-in-both n text lent lent' e = rw e (by_number (text_refusal n text (length lent')))
  where
    by_number : (k : ℕ) → ((echo_answer k text lent).number ≡ (echo_answer k text lent').number) × ((echo_answer k text lent).count ≡ (echo_answer k text lent').count)
        × (take (echo_answer k text lent).count (echo_answer k text lent).output ≡ take (echo_answer k text lent').count (echo_answer k text lent').output)
    by_number zero = unfold echo_answer in (refl, refl, take-append_seam text (drop (length text) lent) ∙ sym (take-append_seam text (drop (length text) lent')))
    by_number (suc k) = unfold echo_answer in (refl, refl, refl)
