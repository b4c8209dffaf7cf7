-- The tree of a node that the walk passes has a sort under the query's declarations: the one that was wanted, of the node's width.
use Prim.Native.Nat.{ℕ, zero, suc, ◌+◌, ◌≤◌, ◌<◌}
use Rattle.std.specs.Prelude.{◌≡◌, ◌&&◌, ltb, drop}
use Rattle.std.proofs.Math.Path.{refl, ap, sym}
use Rattle.std.proofs.Common.{◌∙◌, subst, arith, le→leb, lt→ltb, length-take, length-drop}
use mathlib.Core.List.{List, [], ◌∷◌, ◌++◌, map}
use Rattle.std.proofs.Math.Bool.{Bool, true, false}
use Rattle.std.proofs.Math.Option.{Option, none, some}
use Rattle.std.proofs.Math.Nat.{mod-lt}
use Rattle.std.proofs.Math.Dec.{T, leb, eqb, eqb→eq, ltb→lt}
use Rattle.std.proofs.Math.ListN.{length, take, get_or}
use Rattle.lists.specs.Tests.{same, every, All, distinct, distinct-left, distinct-right, and_0, and-1, and_T, every-all, all_take, all_drop, same→eq, T→true}
use Rattle.lists.specs.Build.{tabulate, map-tabulate, tabulate-places, find, find-bound, upto-below}
use Rattle.lists.specs.Member.{member-tabulate, find-named}
use Rattle.reading.specs.Trees.{Name, Tree, variable, constant, apply, select, call, Trees, Stores, Variable, Array, Function, Declarations}
use Rattle.echo_spec.specs.Refusals.{unless}
use Rattle.echo_spec.specs.Shapes.{
  Shape,
  var,
  const,
  binary,
  rotation,
  extraction,
  concat,
  extension,
  ite,
  comparison,
  negation,
  connective,
  unary,
  unknown,
  is_bool,
}
use Rattle.echo_spec.specs.Input.{Node, shape, no_node, largest, fits64, Dag, Query, name_table, aname_table, fname_table}
use Rattle.echo_spec.specs.Widths.{index_width_of, value_width_of, array_widths_ok, width_at, widths_of}
use Rattle.echo_spec.specs.Tables.{find_node, find_call, arguments_inside, argument_widths, signature, declarations_of}
use Rattle.echo_spec.specs.Trees.{constant_bits, bits_value, amount_of, variable_name, trees_over, stores_over, tree_as, tree_step, trees_below, tree_of}
use Rattle.echo_spec.specs.Walk.{
  variable_ok,
  rotation_ok,
  args_match,
  call_ok,
  asked_as,
  Operand,
  vector,
  formula,
  levels,
  operands_as,
  walk_all,
  sort_ok,
  step_of_walk,
  walks_below,
  walk,
  walk_roots,
}
use Rattle.echo_spec.specs.TreeSorts.{
  TreeSort,
  bool,
  bits,
  proper,
  has_sort,
  have_sorts,
  rule_of,
  rule_for,
  variable_sort,
  select_sort,
  call_sort,
  BoundSorts,
  sort_under,
  sorts_under,
  stores_have,
  none_bound,
  tree_sort,
  all_bool,
}
use Rattle.echo_spec.specs.TreeSortLaws.{if-proper, has-own, have-own, operator-sort}
use Rattle.echo_spec.specs.Accepted.{unless-passed, or_else-passed, walk-passed, Checked}
use Rattle.echo_spec.specs.NodeLaws.{Lower, Pairs, Formed, Low}
use Rattle.echo_spec.proofs.NodeLaws.{facts, node_wide}
use Rattle.echo_spec.proofs.NameLaws.{names-distinct}
use Rattle.echo_spec.specs.ColumnLaws.{columns-aligned, names-counted}
use Rattle.echo_spec.specs.SortedTrees.{sort_as, declarations_in, SortedBelow}

-- ---------------------------------------------------------------- walks taken apart

pub sort-agrees : (wanted has : Bool) → T (sort_ok wanted has) → wanted ≡ has
sort-agrees true true t = refl
sort-agrees true false t = absurd t
sort-agrees false true t = absurd t
sort-agrees false false t = refl

pub walk-cons : (below : ℕ → Bool → ℕ) (o : Operand) (os : List Operand) → walk_all below (o ∷ os) ≡ 0 → (below o.node o.bool ≡ 0) × (walk_all below os ≡ 0)
unfolding walk_all
walk-cons below o os e = or_else-passed (below o.node o.bool) (walk_all below os) e

pub walk-append : (below : ℕ → Bool → ℕ) (os ps : List Operand) → walk_all below (os ++ ps) ≡ 0 → (walk_all below os ≡ 0) × (walk_all below ps ≡ 0)
unfolding walk_all
walk-append below [] ps e = (refl, e)
walk-append below (o ∷ os) ps e =
    let (p, rest) = or_else-passed (below o.node o.bool) (walk_all below (os ++ ps)) e in
    let (a, b) = walk-append below os ps rest in
    (rw p a, b)

-- ---------------------------------------------------------------- what the tables declare is found by its name

module _ {A : Type 0} (name : A → Name) (n : ℕ) (f : ℕ → A) (ns : List Name) (counted : length ns ≡ n) (named : (k : ℕ) → name (f k) ≡ get_or ns k []) (once : T (distinct ns)) where
  pub table-names : map name (tabulate n f) ≡ ns
  table-names = map-tabulate name n f ∙ ap (tabulate n) (λ i k. named k i) ∙ subst (λ (m : ℕ). tabulate m (λ k. get_or ns k []) ≡ ns) counted (tabulate-places [] ns)

  pub found_at : (k : ℕ) → k < n → find (λ (x : A). same (get_or ns k []) (name x)) (tabulate n f) ≡ some (f k)
  found_at k l =
      subst (λ (m : Name). find (λ (x : A). same m (name x)) (tabulate n f) ≡ some (f k)) (named k)
      (find-named name (tabulate n f) (rw table-names once) (f k) (member-tabulate n f k l))

module _ (q : Query) (ok : Checked q.dag (widths_of q)) where
  pub variable-found : (k : ℕ) → k < length (name_table q.dag)
      → find (λ (v : Variable). same (get_or (name_table q.dag) k []) v.name) (declarations_in q).variables
      ≡ some (record { name = get_or (name_table q.dag) k []; width = get_or q.dag.var_width k 0 })
  unfolding declarations_of
  variable-found k l =
      found_at (λ (v : Variable). v.name) (length (name_table q.dag)) _ (name_table q.dag) refl (λ k. refl)
      (distinct-left (name_table q.dag) _ (names-distinct q.dag ok.names)) k l

  pub array-found : (k : ℕ) → k < length (aname_table q.dag)
      → find (λ (a : Array). same (get_or (aname_table q.dag) k []) a.name) (declarations_in q).arrays
      ≡ some (record { name = get_or (aname_table q.dag) k []; index = index_width_of q.dag.array-widths.index k; value = value_width_of q.dag.array-widths.value k })
  unfolding declarations_of
  array-found k l =
      found_at (λ (a : Array). a.name) (length (aname_table q.dag)) _ (aname_table q.dag) refl (λ k. refl)
      (distinct-left (aname_table q.dag) (fname_table q.dag) (distinct-right (name_table q.dag) _ (names-distinct q.dag ok.names))) k l

  pub function-found : (g : ℕ) → g < length (fname_table q.dag)
      → find (λ (f : Function). same (get_or (fname_table q.dag) g []) f.name) (declarations_in q).functions
      ≡ some (record { name = get_or (fname_table q.dag) g []; arguments = signature q.dag (widths_of q) g; width = get_or q.dag.func_width g 0 })
  unfolding declarations_of
  function-found g l =
      found_at (λ (f : Function). f.name) (length (fname_table q.dag)) _ (fname_table q.dag) refl (λ g. refl)
      (distinct-right (aname_table q.dag) (fname_table q.dag) (distinct-right (name_table q.dag) _ (names-distinct q.dag ok.names))) g l

  -- the first entry that has a node is one of the table
  pub entry-bound : (i k : ℕ) → find_node q.dag.var_node i ≡ some k → k < length (name_table q.dag)
  unfolding find_node
  entry-bound i k e =
      let b : k < 0 + length q.dag.var_node = (find-bound (λ x. eqb x i) 0 q.dag.var_node k e).1 in
      omega (arith, names-counted q.dag.names q.dag.name_start q.dag.name_len, (columns-aligned q.dag ok.columns).var_node)

-- a call that agrees with its function has the declared argument widths and the declared width
pub call-agrees : (d : Dag) (ws : List ℕ) (n : Node) → T (call_ok d ws n)
    → (signature d ws n.a ≡ map (width_at ws) (take n.d (drop n.c d.side))) × (get_or d.func_width n.a 0 ≡ n.b)
unfolding call_ok signature args_match argument_widths
call-agrees d ws n t = (
  by_first (find_call d.nodes n.a) (and-1 (eqb (get_or d.func_width n.a 0) n.b) _ t),
  eqb→eq (get_or d.func_width n.a 0) n.b (and_0 (eqb (get_or d.func_width n.a 0) n.b) _ t),
)
  where
    by_first : (o : Option ℕ) → T (elim o [ none ↦ false | some c ↦ args_match ws d.side n (get_or d.nodes c no_node) ])
        → elim o [ none ↦ [] | some c ↦ argument_widths ws d.side (get_or d.nodes c no_node) ] ≡ argument_widths ws d.side n
    by_first none t = absurd t
    by_first (some c) t =
        let f : Node = get_or d.nodes c no_node in
        let t₁ = and-1 (eqb f.d n.d) _ t in
        let t₂ = and-1 (arguments_inside d.side n) _ t₁ in
        let t₃ = and-1 (arguments_inside d.side f) _ t₂ in
        sym (same→eq (argument_widths ws d.side n) (argument_widths ws d.side f) t₃)

-- ---------------------------------------------------------------- one node

module _ (q : Query) (ok : Checked q.dag (widths_of q)) (binaryIn : All (λ b. leb b 1) q.bits) (bound : BoundSorts)
    (clear : (k : ℕ) → k < length (name_table q.dag) → bound (get_or (name_table q.dag) k []) ≡ none) where
  module _ (below : ℕ → Bool → ℕ) (trees : ℕ → Tree) (i : ℕ) (sorted : SortedBelow q bound below trees i) where
    abbrev D : Declarations
    D = declarations_in q

    abbrev ws : List ℕ
    ws = widths_of q

    abbrev sort_of : Operand → TreeSort
    sort_of o = sort_as o.bool (width_at ws o.node)

    operands-sorted : (os : List Operand) → Low i os → walk_all below os ≡ 0 → sorts_under D bound (trees_over trees (map (λ o. o.node) os)) ≡ map some (map sort_of os)
    unfolding trees_over sort_under
    operands-sorted [] l e = refl
    operands-sorted (o ∷ os) l e =
        let (p, rest) = walk-cons below o os e in
        let first = sorted o.node o.bool (ltb→lt o.node i l.0) p in
        let later = operands-sorted os l.1 rest in
        λ k. first k ∷ later k

    arguments-sorted : (xs : List ℕ) → All (λ x. ltb x i) xs → walk_all below (map vector xs) ≡ 0
        → sorts_under D bound (trees_over trees xs) ≡ map some (map bits (map (width_at ws) xs))
    unfolding trees_over sort_under
    arguments-sorted [] l e = refl
    arguments-sorted (x ∷ xs) l e =
        let (p, rest) = walk-cons below (vector x) (map vector xs) e in
        let first = sorted x false (ltb→lt x i l.0) p in
        let later = arguments-sorted xs l.1 rest in
        λ k. first k ∷ later k

    -- a lower node of this width, where a bit-vector is wanted
    lower-sorted : (w x : ℕ) → Lower ws i w x → below x false ≡ 0 → T (has_sort (sort_under D bound (trees x)) (bits w))
    lower-sorted w x (l, e) p = has-own (sort_under D bound (trees x)) (bits w) (sorted x false l p ∙ ap (λ (w : ℕ). some (bits w)) e)

    stores-sorted : (iw vw n : ℕ) (side : List ℕ) → Pairs ws i iw vw n side → walk_all below (levels n side) ≡ 0 → T (stores_have D bound iw vw (stores_over trees n side))
    unfolding levels stores_over sort_under
    stores-sorted iw vw zero side p e = tt
    stores-sorted iw vw (suc n) [] p e = absurd p
    stores-sorted iw vw (suc n) (x ∷ []) p e = absurd p
    stores-sorted iw vw (suc n) (x ∷ v ∷ side) p e =
        let (px, pv, rest) = p in
        let (e₁, e₂) = walk-append below (levels n side) (vector x ∷ vector v ∷ []) e in
        let (ex, e₃) = walk-cons below (vector x) (vector v ∷ []) e₂ in
        let (ev, e₄) = walk-cons below (vector v) [] e₃ in
        and_T (has_sort (sort_under D bound (trees x)) (bits iw)) _ (lower-sorted iw x px ex)
        (and_T (has_sort (sort_under D bound (trees v)) (bits vw)) _ (lower-sorted vw v pv ev) (stores-sorted iw vw n side rest e₁))

    variable-sorted : (w : ℕ) → T (proper (bits w)) → T (elim (find_node q.dag.var_node i) [ none ↦ false | some k ↦ eqb (get_or q.dag.var_width k 0) w ])
        → sort_under D bound (variable (variable_name q.dag i)) ≡ some (bits w)
    unfolding variable_name sort_under variable_sort
    variable-sorted w p t = by-entry (find_node q.dag.var_node i) refl t
      where
        by-entry : (o : Option ℕ) → find_node q.dag.var_node i ≡ o → T (elim o [ none ↦ false | some k ↦ eqb (get_or q.dag.var_width k 0) w ])
            → sort_under D bound (variable (elim o [ none ↦ [] | some k ↦ get_or (name_table q.dag) k [] ])) ≡ some (bits w)
        by-entry none e t = absurd t
        by-entry (some k) e t =
            let l = entry-bound q ok i k e in
            rw (clear k l, variable-found q ok k l, eqb→eq (get_or q.dag.var_width k 0) w t) (if-proper (bits w) p)

    constant-sorted : (n : Node) → T (proper (bits n.b)) → n.a + n.b ≤ length q.bits → sort_under D bound (constant (constant_bits q.bits n)) ≡ some (bits n.b)
    unfolding constant_bits sort_under
    constant-sorted n p l =
        let part : List ℕ = take n.b (drop n.a q.bits) in
        let e : length part ≡ n.b = simp (length-take, length-drop) (omega arith) in
        let b : T (every (λ b. leb b 1) part) = every-all (λ b. leb b 1) part (all_take (λ b. leb b 1) n.b (drop n.a q.bits) (all_drop (λ b. leb b 1) n.a q.bits binaryIn)) in
        rw (T→true (every (λ b. leb b 1) part) b, e) (if-proper (bits n.b) p)

    select-sorted : (name : Name) (x : ℕ) (ss : Stores) (r : Array) → find (λ (a : Array). same name a.name) D.arrays ≡ some r
        → T (has_sort (sort_under D bound (trees x)) (bits r.index)) → T (stores_have D bound r.index r.value ss) → T (proper (bits r.value))
        → sort_under D bound (select name (trees x) ss) ≡ some (bits r.value)
    unfolding sort_under select_sort
    select-sorted name x ss r e h s p =
        let first : Bool = has_sort (sort_under D bound (trees x)) (bits r.index) in
        let rest : Bool = stores_have D bound r.index r.value ss in
        rw (e, T→true (first && rest) (and_T first rest h s)) (if-proper (bits r.value) p)

    call-sorted : (name : Name) (ts : Trees) (f : Function) (w : ℕ) → find (λ (f : Function). same name f.name) D.functions ≡ some f
        → sorts_under D bound ts ≡ map some (map bits f.arguments) → f.width ≡ w → T (proper (bits w)) → sort_under D bound (call name ts) ≡ some (bits w)
    unfolding sort_under call_sort
    call-sorted name ts f w e h v p =
        rw (e, h, T→true (have_sorts (map some (map bits f.arguments)) (map bits f.arguments)) (have-own (map bits f.arguments)), v) (if-proper (bits w) p)

    amount-below : (n : Node) → 0 < width_at ws i → amount_of q.dag ws q.bits i n < width_at ws i
    unfolding amount_of
    amount-below n p = mod-lt (bits_value (constant_bits q.bits (get_or q.dag.nodes n.b no_node))) p

    rotation-small : (n : Node) → T (rotation_ok q.dag ws i n) → T (leb (width_at ws i) 65536)
    unfolding rotation_ok
    rotation-small n t = and_0 (leb (width_at ws i) 65536) _ (and-1 (ltb 0 (width_at ws i)) _ t)

    -- a node of a shape, by what the width pass, the tables and the walk say of it
    module _ (n : Node) (positive : 0 < width_at ws i) (proper-here : (b : Bool) → T (proper (sort_as b (width_at ws i)))) where
      -- an operator over trees of the sorts of its rule
      operator-sorted : (s : Shape) (ks : List ℕ) (os : List Operand) → shape n ≡ s → Low i os → walk_all below os ≡ 0
          → (rule_for s ks (map some (map sort_of os))).numerals ≡ ks → (rule_for s ks (map some (map sort_of os))).operands ≡ map sort_of os
          → T (rule_for s ks (map some (map sort_of os))).condition → (rule_for s ks (map some (map sort_of os))).result ≡ sort_as (is_bool s) (width_at ws i)
          → sort_under D bound (apply n.kind ks (trees_over trees (map (λ o. o.node) os))) ≡ some (sort_as (is_bool s) (width_at ws i))
      unfolding sort_under
      operator-sorted s ks os e l o m f c r =
          rw (e, operands-sorted os l o) (operator-sort s ks (map sort_of os) (sort_as (is_bool s) (width_at ws i)) m f c r (proper-here (is_bool s)))

      node-sorted : (s : Shape) → shape n ≡ s → Formed ws i (length q.bits) q.dag.array-widths q.dag.side n s → Low i (operands_as q.dag.side n s)
          → asked_as q.dag ws i n s ≡ 0 → walk_all below (operands_as q.dag.side n s) ≡ 0
          → sort_under D bound (tree_as q.dag ws q.bits trees i n s) ≡ some (sort_as (is_bool s) (width_at ws i))
      unfolding asked_as operands_as tree_as is_bool rule_of
      node-sorted var e (p, b, w) low a o =
          rw w (variable-sorted n.a (rw w at (proper-here false)) (unfold variable_ok in unless-passed (variable_ok q.dag i n) 3 a))
      node-sorted const e (p, b, l, w) low a o = rw w (constant-sorted n (rw w at (proper-here false)) l)
      node-sorted binary e ((la, lb, p, eq), w) low a o = operator-sorted binary [] (vector n.a ∷ vector n.b ∷ []) e low o refl (cc) tt (cc)
      node-sorted rotation e ((la, lb, p, eq), w) low a o =
          let amount : ℕ = amount_of q.dag ws q.bits i n in
          let less : amount < width_at ws i = amount-below n positive in
          let small : T (leb (width_at ws i) 65536) = rotation-small n (unless-passed (rotation_ok q.dag ws i n) 4 a) in
          operator-sorted rotation (amount ∷ []) (vector n.a ∷ []) e low o refl refl
          (rw (← w) (and_T (ltb amount (width_at ws i)) (leb (width_at ws i) 65536) (lt→ltb amount (width_at ws i) less) small)) (cc)
      node-sorted extraction e (lc, lo, hi, w) low a o =
          operator-sorted extraction (n.a ∷ n.b ∷ []) (vector n.c ∷ []) e low o refl refl
          (and_T (leb n.b n.a) (ltb n.a (width_at ws n.c)) (le→leb n.b n.a lo) (lt→ltb n.a (width_at ws n.c) hi)) (cc)
      node-sorted concat e (la, lb, p, b, w) low a o = operator-sorted concat [] (vector n.a ∷ vector n.b ∷ []) e low o refl refl tt (cc)
      node-sorted extension e (la, p, b, w) low a o = operator-sorted extension (n.b ∷ []) (vector n.a ∷ []) e low o refl refl tt (cc)
      node-sorted ite e (l, (lb, lc, p, eq), w) low a o =
          operator-sorted ite [] (formula n.a ∷ vector n.b ∷ vector n.c ∷ []) e low o refl (cc) tt (cc)
      node-sorted comparison e ((la, lb, p, eq), w) low a o = operator-sorted comparison [] (vector n.a ∷ vector n.b ∷ []) e low o refl (cc) tt refl
      node-sorted negation e f low a o = operator-sorted negation [] (formula n.a ∷ []) e low o refl refl tt refl
      node-sorted connective e f low a o = operator-sorted connective [] (formula n.a ∷ formula n.b ∷ []) e low o refl refl tt refl
      node-sorted unary e (la, p, w) low a o = operator-sorted unary [] (vector n.a ∷ []) e low o refl refl tt (cc)
      node-sorted Shape.select e (l, pairs, w) low a o =
          let here = ltb→lt n.a (length (aname_table q.dag)) (unless-passed (ltb n.a (length (aname_table q.dag))) 0 a) in
          let (ol, oi) = walk-append below (levels n.d (drop n.c q.dag.side)) (vector n.b ∷ []) o in
          select-sorted (get_or (aname_table q.dag) n.a []) n.b (stores_over trees n.d (drop n.c q.dag.side)) _ (array-found q ok n.a here)
          (lower-sorted (index_width_of q.dag.array-widths.index n.a) n.b l (walk-cons below (vector n.b) [] oi).0)
          (stores-sorted (index_width_of q.dag.array-widths.index n.a) (value_width_of q.dag.array-widths.value n.a) n.d (drop n.c q.dag.side) pairs ol)
          (rw w at (proper-here false)) ∙ ap (λ (w : ℕ). some (bits w)) (sym w)
      node-sorted Shape.call e (p, b, args, inside, w) low a o =
          let (a₁, a₇) = or_else-passed (unless (ltb n.a (length (fname_table q.dag))) 1) (unless (call_ok q.dag ws n) 7) a in
          let here = ltb→lt n.a (length (fname_table q.dag)) (unless-passed (ltb n.a (length (fname_table q.dag))) 0 a₁) in
          let (sig, width) = call-agrees q.dag ws n (unless-passed (call_ok q.dag ws n) 6 a₇) in
          call-sorted (get_or (fname_table q.dag) n.a []) (trees_over trees (take n.d (drop n.c q.dag.side))) _ (width_at ws i) (function-found q ok n.a here)
          (arguments-sorted (take n.d (drop n.c q.dag.side)) args o ∙ ap (λ (vs : List ℕ). map some (map bits vs)) (sym sig))
          (width ∙ sym w) (proper-here false)
      node-sorted unknown e f low a o = absurd f

-- ---------------------------------------------------------------- every node

-- a node's width makes a proper sort
pub node-proper : (q : Query) → T (array_widths_ok q.dag.array-widths) → (i : ℕ) → i < length (widths_of q) → (b : Bool) → T (proper (sort_as b (width_at (widths_of q) i)))
node-proper q ok i here true = tt
node-proper q ok i here false =
    let w : ℕ = width_at (widths_of q) i in
    let (p, b) = node_wide (length q.bits) q.dag.array-widths q.dag.side q.dag.nodes ok i here in
    and_T (ltb 0 w) (fits64 w) (lt→ltb 0 w p) (le→leb w largest b)

module _ (q : Query) (ok : Checked q.dag (widths_of q)) (binaryIn : All (λ b. leb b 1) q.bits) where
  -- node i over trees that have their sorts, where names are bound that no table declares
  pub step-sorted : (bound : BoundSorts) → ((k : ℕ) → k < length (name_table q.dag) → bound (get_or (name_table q.dag) k []) ≡ none)
      → (below : ℕ → Bool → ℕ) (trees : ℕ → Tree) (i : ℕ) → SortedBelow q bound below trees i
      → (b : Bool) → step_of_walk q.dag (widths_of q) below i b ≡ 0
      → sort_under (declarations_in q) bound (tree_step q.dag (widths_of q) q.bits trees i) ≡ some (sort_as b (width_at (widths_of q) i))
  unfolding tree_step
  step-sorted bound clear below trees i sorted b e =
      let n : Node = get_or q.dag.nodes i no_node in
      let passed = walk-passed q.dag (widths_of q) below i b e in
      let here : i < length (widths_of q) = rw ok.widths passed.exists in
      let f = facts (length q.bits) q.dag.array-widths q.dag.side q.dag.nodes i here in
      let (positive, bounded) = node_wide (length q.bits) q.dag.array-widths q.dag.side q.dag.nodes ok.arrays i here in
      node-sorted q ok binaryIn bound clear below trees i sorted n positive (node-proper q ok.arrays i here) (shape n) refl f.form f.low passed.taken passed.operands
      ∙ ap (λ (c : Bool). some (sort_as c (width_at (widths_of q) i))) (sym (sort-agrees b (is_bool (shape n)) passed.sort))

  pub walk-sorted : (n i : ℕ) → i < n → (b : Bool) → walk q.dag (widths_of q) i b ≡ 0
      → tree_sort (declarations_in q) (tree_of q.dag (widths_of q) q.bits i) ≡ some (sort_as b (width_at (widths_of q) i))
  unfolding walk tree_of
  walk-sorted zero i h b e = absurd (omega arith)
  walk-sorted (suc n) i h b e =
      let d : Dag = q.dag in
      let ws : List ℕ = widths_of q in
      step-sorted none_bound (λ k l. refl) (walks_below d ws i) (trees_below d ws q.bits i) i
      (λ j c l p.
      let same-tree : trees_below d ws q.bits i j ≡ tree_step d ws q.bits (trees_below d ws q.bits j) j = upto-below (tree_step d ws q.bits) (constant []) i j l in
      let same-walk : walks_below d ws i j ≡ step_of_walk d ws (walks_below d ws j) j = upto-below (step_of_walk d ws) (λ _. 1) i j l in
      rw same-tree (walk-sorted n j (omega arith) c (sym (ap (λ (f : Bool → ℕ). f c) same-walk) ∙ p)))
      b e

  -- every root's tree is a Bool
  pub roots-sorted : (roots : List ℕ) → walk_roots q.dag (widths_of q) roots ≡ 0 → T (all_bool (declarations_in q) (trees_over (tree_of q.dag (widths_of q) q.bits) roots))
  unfolding walk_roots trees_over sort_under
  roots-sorted [] e = tt
  roots-sorted (r ∷ rs) e =
      let (p, rest) = walk-cons (walk q.dag (widths_of q)) (formula r) (map formula rs) e in
      let t : Option TreeSort = tree_sort (declarations_in q) (tree_of q.dag (widths_of q) q.bits r) in
      and_T (has_sort t bool) _ (has-own t bool (walk-sorted (suc r) r (omega arith) true p)) (roots-sorted rs rest)
