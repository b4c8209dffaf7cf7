-- What printing and 14 have checked, with a row that fits, is all that an evaluation asks; and its value is that of the tree.
use Prim.Native.Nat.{ℕ, zero, suc, ◌+◌, ◌^◌, ◌≤◌, ◌<◌}
use Rattle.std.specs.Prelude.{◌≡◌, leb, take, None, Some}
use Rattle.std.specs.Prelude.{Option as Found}
use Rattle.std.proofs.Math.Path.{refl, ap, sym, subst}
use Rattle.std.proofs.Common.{◌∙◌, lt→ltb}
use mathlib.Core.List.{List, [], ◌∷◌}
use Rattle.std.proofs.Math.Bool.{Bool, true, false}
use Rattle.std.proofs.Math.Option.{Option, none, some}
use native.Mathlib.Omega.{arith}
use Rattle.std.proofs.Math.Dec.{T, ltb, eqb, eqb→eq, eqb_refl}
use Rattle.std.proofs.Math.ListN.{length, get_or}
use Rattle.lists.specs.Tests.{every, and_0, and-1, and_T, T→true, true→T, not→false}
use Rattle.lists.specs.Build.{upto, find-bound}
use Rattle.echo_spec.specs.Shapes.{Shape, var, const, binary, rotation, extraction, concat, extension, ite, comparison, negation, connective, unary, select, call, unknown}
use Rattle.echo_spec.specs.Input.{Node, shape, no_node, Dag}
use Rattle.echo_spec.specs.Widths.{width_at, width_as, node_width}
use Rattle.echo_spec.specs.WidthLaws.{Sized}
use Rattle.echo_spec.specs.Tables.{find_node}
use Rattle.echo_spec.specs.Walk.{variable_ok, rotation_ok, asked_as, Operand, operands_as, sort_ok, walk_all, step_of_walk, walks_below, walk}
use Rattle.echo_spec.specs.Accepted.{unless-passed, or_else-passed, walk-passed}
use Rattle.echo_tables.specs.Found.{Entries, found_of}
use Rattle.trace_terms.specs.Ready.{variable_ready, own_as, bool_at, operand_ready, ready_step, ready_below, ready}
use Rattle.traces.specs.Trace.{plain, narrow_step, narrow_below, narrow}

-- the row, the table of the variables' places and the widths stand to the dag as they should
pub record Given (d : Dag) (ws : List ℕ) (entry : List (Found ℕ)) (row : List ℕ) : Type 0 where
  pub nbits : ℕ
  pub sized : (i : ℕ) → i < length d.nodes → Sized nbits d.array-widths d.side ws i (get_or d.nodes i no_node)
  pub entries : Entries d.var_node entry
  pub few : length d.nodes ≤ 2048
  pub columns : length d.var_node ≡ length row
  pub fits : (k : ℕ) → k < length row → get_or row k 0 < 2 ^ get_or d.var_width k 0

module _ (d : Dag) (ws : List ℕ) (entry : List (Found ℕ)) (row : List ℕ) (g : Given d ws entry row) where
  -- a variable's place in the table
  found : (i : ℕ) (n : Node) → i < length d.nodes → T (variable_ok d i n)
      → (k : ℕ) × (find_node d.var_node i ≡ some k) × (get_or entry i None ≡ Some k) × (k < length row) × (get_or d.var_width k 0 ≡ n.a)
  unfolding variable_ok find_node
  found i n h t = by-find (find_node d.var_node i) refl t
    where
      by-find : (o : Option ℕ) → find_node d.var_node i ≡ o → T (elim o [ none ↦ false | some k ↦ eqb (get_or d.var_width k 0) n.a ])
          → (k : ℕ) × (find_node d.var_node i ≡ some k) × (get_or entry i None ≡ Some k) × (k < length row) × (get_or d.var_width k 0 ≡ n.a)
      by-find none e t = absurd t
      by-find (some k) e t =
          let few : length d.nodes ≤ 2048 = g.few in
          let c : length d.var_node ≡ length row = g.columns in
          let b = find-bound (λ x. eqb x i) 0 d.var_node k e in
          let l : k < 0 + length d.var_node = b.1 in
          (k, e, g.entries.at i (omega arith) ∙ ap found_of e, omega arith, eqb→eq (get_or d.var_width k 0) n.a t)

  var-ready : (i : ℕ) (n : Node) → i < length d.nodes → width_at ws i ≡ n.a → T (variable_ok d i n) → T (variable_ready ws d.var_width entry row i)
  unfolding variable_ready
  var-ready i n h w t =
      let f = found i n h t in
      let k : ℕ = f.0 in
      let e : get_or entry i None ≡ Some k = f.2 in
      let l : k < length row = f.3 in
      let b : get_or row k 0 < 2 ^ width_at ws i = subst (λ (x : ℕ). get_or row k 0 < 2 ^ x) (f.4 ∙ sym w) (g.fits k l) in
      let v : eqb (get_or d.var_width k 0) (width_at ws i) ≡ true = rw (f.4 ∙ sym w) (T→true (eqb (width_at ws i) (width_at ws i)) (eqb_refl (width_at ws i))) in
      rw (e, v) (and_T (ltb k (length row)) (ltb (get_or row k 0) (2 ^ width_at ws i)) (lt→ltb k (length row) l) (lt→ltb (get_or row k 0) (2 ^ width_at ws i) b))

  own-ready : (i : ℕ) (n : Node) (s : Shape) → i < length d.nodes → width_at ws i ≡ width_as d.array-widths (take i ws) n s → asked_as d ws i n s ≡ 0 → T (plain s)
      → T (own_as d.nodes ws d.var_width entry row i n s)
  unfolding asked_as own_as plain width_as rotation_ok
  own-ready i n var h w e p = var-ready i n h w (unless-passed (variable_ok d i n) 3 e)
  own-ready i n const h w e p = tt
  own-ready i n binary h w e p = tt
  own-ready i n rotation h w e p =
      let t = unless-passed (rotation_ok d ws i n) 4 e in
      and-1 (leb (width_at ws i) 65536) _ (and-1 (ltb 0 (width_at ws i)) _ t)
  own-ready i n extraction h w e p = tt
  own-ready i n concat h w e p = tt
  own-ready i n extension h w e p = tt
  own-ready i n ite h w e p = tt
  own-ready i n comparison h w e p = tt
  own-ready i n negation h w e p = tt
  own-ready i n connective h w e p = tt
  own-ready i n unary h w e p = tt
  own-ready i n select h w e p = absurd p
  own-ready i n call h w e p = absurd p
  own-ready i n unknown h w e p = absurd p

  -- only selects and calls look at the side entries
  no-side : (n : Node) (s : Shape) → T (plain s) → operands_as d.side n s ≡ operands_as [] n s
  unfolding operands_as plain
  no-side n var p = refl
  no-side n const p = refl
  no-side n binary p = refl
  no-side n rotation p = refl
  no-side n extraction p = refl
  no-side n concat p = refl
  no-side n extension p = refl
  no-side n ite p = refl
  no-side n comparison p = refl
  no-side n negation p = refl
  no-side n connective p = refl
  no-side n unary p = refl
  no-side n select p = absurd p
  no-side n call p = absurd p
  no-side n unknown p = absurd p

  sort-ok : (wanted has : Bool) → has ≡ wanted → T (sort_ok wanted has)
  sort-ok true has e = true→T e
  sort-ok false has e = rw e tt

  -- what is known of the nodes below carries over to a list of operands
  operands-ready : (walks : ℕ → Bool → ℕ) (narrows readies : ℕ → Bool)
      → ((j : ℕ) (b : Bool) → walks j b ≡ 0 → T (narrows j) → T (readies j) × (bool_at d.nodes j ≡ b))
      → (os : List Operand) → walk_all walks os ≡ 0 → T (every (λ (o : Operand). narrows o.node) os) → T (every (operand_ready d.nodes readies) os)
  unfolding walk_all operand_ready
  operands-ready walks narrows readies h [] e t = tt
  operands-ready walks narrows readies h (o ∷ os) e t =
      let p = or_else-passed (walks o.node o.bool) (walk_all walks os) e in
      let r = h o.node o.bool p.0 (and_0 (narrows o.node) _ t) in
      and_T (operand_ready d.nodes readies o) (every (operand_ready d.nodes readies) os)
      (and_T (sort_ok o.bool (bool_at d.nodes o.node)) (readies o.node) (sort-ok o.bool (bool_at d.nodes o.node) r.1) r.0)
      (operands-ready walks narrows readies h os p.1 (and-1 (narrows o.node) _ t))

  sort-has : (wanted has : Bool) → T (sort_ok wanted has) → has ≡ wanted
  sort-has true has t = T→true has t
  sort-has false has t = not→false has t

  step-ready : (i : ℕ) (b : Bool)
      → ((j : ℕ) (c : Bool) → walks_below d ws i j c ≡ 0 → T (narrow_below d ws i j) → T (ready_below d.nodes ws d.var_width entry row i j) × (bool_at d.nodes j ≡ c))
      → step_of_walk d ws (walks_below d ws i) i b ≡ 0 → T (narrow_step d ws (narrow_below d ws i) i)
      → T (ready_step d.nodes ws d.var_width entry row (ready_below d.nodes ws d.var_width entry row i) i) × (bool_at d.nodes i ≡ b)
  unfolding ready_step narrow_step node_width
  step-ready i b ih e t =
      let n : Node = get_or d.nodes i no_node in
      let s : Shape = shape n in
      let w = walk-passed d ws (walks_below d ws i) i b e in
      let t₁ = and-1 (leb (width_at ws i) 64) _ t in
      let p : T (plain s) = and_0 (plain s) _ t₁ in
      let os = operands-ready (walks_below d ws i) (narrow_below d ws i) (ready_below d.nodes ws d.var_width entry row i) ih (operands_as d.side n s) w.operands (and-1 (plain s) _ t₁) in
      let own = own-ready i n s w.exists (g.sized i w.exists).width w.taken p in (
        and_T (ltb i (length d.nodes)) _ (lt→ltb i (length d.nodes) w.exists)
            (and_T (leb (width_at ws i) 64) _ (and_0 (leb (width_at ws i) 64) _ t)
            (and_T (own_as d.nodes ws d.var_width entry row i n s) _ own
            (subst (λ (x : List Operand). T (every (operand_ready d.nodes (ready_below d.nodes ws d.var_width entry row i)) x)) (no-side n s p) os))),
        sort-has b (bool_at d.nodes i) w.sort,
      )

  below-ready : (n j : ℕ) (b : Bool) → walks_below d ws n j b ≡ 0 → T (narrow_below d ws n j) → T (ready_below d.nodes ws d.var_width entry row n j) × (bool_at d.nodes j ≡ b)
  unfolding upto
  below-ready zero j b e t = absurd t
  below-ready (suc n) j b e t = by_place (eqb j n) refl (λ i c. below-ready n i c) e t
    where
      by_place : (c : Bool) → eqb j n ≡ c
          → ((i : ℕ) (a : Bool) → walks_below d ws n i a ≡ 0 → T (narrow_below d ws n i) → T (ready_below d.nodes ws d.var_width entry row n i) × (bool_at d.nodes i ≡ a))
          → (elim c as (λ _. Bool → ℕ) [ true ↦ step_of_walk d ws (walks_below d ws n) n | false ↦ walks_below d ws n j ]) b ≡ 0
          → T (elim c [ true ↦ narrow_step d ws (narrow_below d ws n) n | false ↦ narrow_below d ws n j ])
          → T (elim c [ true ↦ ready_step d.nodes ws d.var_width entry row (ready_below d.nodes ws d.var_width entry row n) n | false ↦ ready_below d.nodes ws d.var_width entry row n j ]) × (bool_at d.nodes j ≡ b)
      by_place true q ih e t =
          let r = step-ready n b ih e t in
          (r.0, ap (bool_at d.nodes) (eqb→eq j n (true→T q)) ∙ r.1)
      by_place false q ih e t = ih j b e t

  -- a node that the walk and 14 pass can be evaluated, and has the wanted sort
  pub walked-ready : (i : ℕ) (b : Bool) → walk d ws i b ≡ 0 → T (narrow d ws i) → T (ready d.nodes ws d.var_width entry row i) × (bool_at d.nodes i ≡ b)
  unfolding walk narrow ready
  walked-ready i b e t = step-ready i b (below-ready i) e t
