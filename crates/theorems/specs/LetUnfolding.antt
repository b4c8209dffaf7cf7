-- A node's term with names unfolds to the node's tree.
use Prim.Native.Nat.{ℕ, zero, suc, ◌<◌}
use Rattle.std.specs.Prelude.{◌≡◌, Bool, cond, T, take, get_or}
use Rattle.std.proofs.Math.Path.{refl, ap, sym}
use Rattle.std.proofs.Common.{◌∙◌, arith, ltb→lt}
use mathlib.Core.List.{List, [], ◌∷◌, map}
use Rattle.std.proofs.Math.Bool.{true, false}
use Rattle.std.proofs.Math.Option.{Option, none as nothing, some}
use Rattle.std.proofs.Math.Dec.{ltb}
use Rattle.std.proofs.Math.ListN.{length, drop}
use Rattle.lists.specs.Tests.{All, all_left, all_right, true→T}
use Rattle.lists.specs.Build.{upto-below}
use Rattle.reading.specs.Trees.{Tree, variable, constant, apply, select, call, more, store}
use Rattle.smtlib.specs.Scopes.{Scope, bound_to}
use Rattle.echo_spec.specs.Shapes.{Shape, var, const, binary, rotation, extraction, concat, extension, ite, comparison, negation, connective, unary, unknown}
use Rattle.echo_spec.specs.Input.{Node, shape, no_node, Dag, Query, aname_table, fname_table}
use Rattle.echo_spec.specs.Widths.{widths_of}
use Rattle.echo_spec.specs.Trees.{amount_of, variable_name, trees_over, stores_over, tree_as, tree_step, trees_below, tree_of}
use Rattle.echo_spec.specs.Walk.{Operand, vector, levels, operands_as}
use Rattle.echo_spec.specs.NodeLaws.{Low}
use Rattle.echo_spec.proofs.NodeLaws.{facts}
use Rattle.lets.specs.Lets.{let_name, named, named_step, named_below, named_of}
use Rattle.theorems.specs.Unfolding.{unfolded_name, unfolded, unfolded_all, unfolded_stores}

-- ---------------------------------------------------------------- one node

module _ (d : Dag) (bits ws : List ℕ) (E : Scope Tree) (i : ℕ) (f g : ℕ → Tree) (agree : (j : ℕ) → j < i → unfolded E (f j) ≡ g j)
    (unbound : bound_to E (variable_name d i) ≡ nothing) where
  unfold-trees : (xs : List ℕ) → All (λ x. ltb x i) xs → unfolded_all E (trees_over f xs) ≡ trees_over g xs
  unfolding trees_over unfolded
  unfold-trees [] h = refl
  unfold-trees (x ∷ xs) h = λ k. more (agree x (ltb→lt x i h.0) k) (unfold-trees xs h.1 k)

  unfold-arguments : (xs : List ℕ) → Low i (map vector xs) → unfolded_all E (trees_over f xs) ≡ trees_over g xs
  unfolding trees_over unfolded
  unfold-arguments [] h = refl
  unfold-arguments (x ∷ xs) h = λ k. more (agree x (ltb→lt x i h.0) k) (unfold-arguments xs h.1 k)

  unfold-stores : (n : ℕ) (side : List ℕ) → Low i (levels n side) → unfolded_stores E (stores_over f n side) ≡ stores_over g n side
  unfolding stores_over unfolded levels
  unfold-stores zero side h = refl
  unfold-stores (suc n) [] h = refl
  unfold-stores (suc n) (x ∷ []) h = refl
  unfold-stores (suc n) (x ∷ v ∷ side) h =
      let pair = all_right (λ (o : Operand). ltb o.node i) (levels n side) (vector x ∷ vector v ∷ []) h in
      let rest = unfold-stores n side (all_left (λ (o : Operand). ltb o.node i) (levels n side) (vector x ∷ vector v ∷ []) h) in
      λ k. store (agree x (ltb→lt x i pair.0) k) (agree v (ltb→lt v i pair.1.0) k) (rest k)

  unfold-variable : unfolded_name E (variable_name d i) ≡ variable (variable_name d i)
  unfold-variable = ap (λ (o : Option Tree). elim o [ nothing ↦ variable (variable_name d i) | some t ↦ t ]) unbound

  pub unfold-as : (n : Node) (s : Shape) → Low i (operands_as d.side n s) → unfolded E (tree_as d ws bits f i n s) ≡ tree_as d ws bits g i n s
  unfolding operands_as tree_as unfolded
  unfold-as n var l = unfold-variable
  unfold-as n const l = refl
  unfold-as n binary l = ap (apply n.kind []) (unfold-trees (n.a ∷ n.b ∷ []) l)
  unfold-as n rotation l = ap (apply n.kind (amount_of d ws bits i n ∷ [])) (unfold-trees (n.a ∷ []) l)
  unfold-as n extraction l = ap (apply n.kind (n.a ∷ n.b ∷ [])) (unfold-trees (n.c ∷ []) l)
  unfold-as n concat l = ap (apply n.kind []) (unfold-trees (n.a ∷ n.b ∷ []) l)
  unfold-as n extension l = ap (apply n.kind (n.b ∷ [])) (unfold-trees (n.a ∷ []) l)
  unfold-as n ite l = ap (apply n.kind []) (unfold-trees (n.a ∷ n.b ∷ n.c ∷ []) l)
  unfold-as n comparison l = ap (apply n.kind []) (unfold-trees (n.a ∷ n.b ∷ []) l)
  unfold-as n negation l = ap (apply n.kind []) (unfold-trees (n.a ∷ []) l)
  unfold-as n connective l = ap (apply n.kind []) (unfold-trees (n.a ∷ n.b ∷ []) l)
  unfold-as n unary l = ap (apply n.kind []) (unfold-trees (n.a ∷ []) l)
  unfold-as n Shape.select l =
      let side : List ℕ = drop n.c d.side in
      let index = all_right (λ (o : Operand). ltb o.node i) (levels n.d side) (vector n.b ∷ []) l in
      let ss = unfold-stores n.d side (all_left (λ (o : Operand). ltb o.node i) (levels n.d side) (vector n.b ∷ []) l) in
      λ k. select (get_or (aname_table d) n.a []) (agree n.b (ltb→lt n.b i index.0) k) (ss k)
  unfold-as n Shape.call l = ap (call (get_or (fname_table d) n.a [])) (unfold-arguments (take n.d (drop n.c d.side)) l)
  unfold-as n unknown l = refl

-- ---------------------------------------------------------------- every node

module _ (q : Query) (bound : ℕ → Bool) (E : Scope Tree) (unbound : (i : ℕ) → bound_to E (variable_name q.dag i) ≡ nothing) where
  abbrev d : Dag
  d = q.dag

  abbrev bits : List ℕ
  bits = q.bits

  abbrev ws : List ℕ
  ws = widths_of q

  abbrev Known : ℕ → Type 0
  Known i = (j : ℕ) → j < i → T (bound j) → bound_to E (let_name j) ≡ some (tree_of d ws bits j)

  -- a node where it is used
  pub unfold-use : (trees : ℕ → Tree) (j : ℕ) → (T (bound j) → bound_to E (let_name j) ≡ some (tree_of d ws bits j)) → unfolded E (trees j) ≡ tree_of d ws bits j
      → unfolded E (named bound trees j) ≡ tree_of d ws bits j
  unfolding named unfolded
  unfold-use trees j known rest = by-bound (bound j) refl
    where
      by-bound : (b : Bool) → bound j ≡ b → unfolded E (cond b (variable (let_name j)) (trees j)) ≡ tree_of d ws bits j
      by-bound true e = ap (λ (o : Option Tree). elim o [ nothing ↦ variable (let_name j) | some t ↦ t ]) (known (true→T e))
      by-bound false e = rest

  pub unfold-node : (n i : ℕ) → i < n → i < length ws → Known i → unfolded E (named_of d ws bits bound i) ≡ tree_of d ws bits i
  unfolding named_of named_step tree_of tree_step
  unfold-node zero i l here known = absurd (omega arith)
  unfold-node (suc n) i l here known =
      unfold-as d bits ws E i (named bound (named_below d ws bits bound i)) (trees_below d ws bits i)
      (λ j m.
      let same-tree : trees_below d ws bits i j ≡ tree_of d ws bits j = upto-below (tree_step d ws bits) (constant []) i j m in
      let same-named : named_below d ws bits bound i j ≡ named_of d ws bits bound j = upto-below (named_step d ws bits bound) (constant []) i j m in
      let below : unfolded E (named_below d ws bits bound i j) ≡ tree_of d ws bits j =
      ap (unfolded E) same-named ∙ unfold-node n j (omega arith) (omega arith) (λ k q. known k (omega arith)) in
      unfold-use (named_below d ws bits bound i) j (known j m) below ∙ sym same-tree)
      (unbound i) (get_or d.nodes i no_node) (shape (get_or d.nodes i no_node)) (facts (length bits) d.array-widths d.side d.nodes i here).low
