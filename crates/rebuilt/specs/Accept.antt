-- A rebuilt problem passes the width pass, the checks of declarations and the walk, and its trees are the reading's.
use Prim.Native.Nat.{ℕ, zero, suc, ◌+◌, ◌≤◌, ◌<◌}
use Rattle.std.proofs.Math.Path.{◌≡◌, refl, ap, sym, subst}
use Rattle.std.proofs.Common.{◌∙◌, arith, ltb→lt, lt→ltb}
use mathlib.Core.List.{List, [], ◌∷◌, ◌++◌, map, append_assoc, append-nil}
use Rattle.std.proofs.Math.Bool.{Bool, true, false}
use Rattle.std.specs.Prelude.{◌&&◌, take}
use Rattle.std.proofs.Math.Option.{Option, none, some}
use Rattle.std.proofs.Math.Dec.{T, ltb}
use Rattle.std.proofs.Math.ListN.{length, get_or, get_elem?, length-map, get_or-map}
use Rattle.lists.specs.Tests.{same, every, All, and_0, and-1, and_T, same→eq, T→true, every-from}
use Rattle.lists.specs.Build.{tabulate, find_from, find-bound, upto-below}
use Rattle.lists.specs.Places.{at_less, at-exists, at-get_or, get_or-at, find_at, Grows, grows_at}
use Rattle.reading.specs.Trees.{Name, Tree, variable, constant, apply, select, call, Trees, none as noTrees, more, Stores, base, store, Variable, Array, Function, Declarations}
use Rattle.echo_spec.specs.Shapes.{shapes, is_bool}
use Rattle.echo_spec.specs.Input.{Node, shape, no_node, ArrayWidths, Dag, fits64, name_table, aname_table, fname_table}
use Rattle.echo_spec.specs.Widths.{index_width_of, value_width_of, node_wf, node_width, ext_wf_from, ext_wf_of}
use Rattle.echo_spec.specs.Tables.{arguments_inside, signature, decl_vars_ok, decl_func_ok, decl_funcs_ok, declarations_of}
use Rattle.echo_spec.specs.Trees.{trees_over, tree_step, trees_below, tree_of}
use Rattle.echo_spec.specs.Walk.{asked, Operand, formula, operands_as, walk_all, sort_ok, step_of_walk, walks_below, walk}
use Rattle.echo_spec.specs.TreeSorts.{TreeSort, bool, bits, has_sort, sort_under, tree_sort, tree_sorts, all_bool}
use Rattle.echo_spec.specs.TreeSortLaws.{has-eq}
use Rattle.readback.specs.Printable.{variable_names_in, array_names_in, function_names_in, width_ok, variable_ok, function_ok}
use Rattle.readback.specs.Rebuild.{Pair, Item, a_variable, a_constant, an_operator, a_select, a_call, Ref, here, pending, node_of, flat, record_of, records_from, variable_number, dag_for}
use Rattle.rebuilt.specs.Layout.{Laid, laid, length-records, names-back}
use Rattle.rebuilt.specs.Built.{no-variable, no-array, no-function, variable_at, array_at, function_at, sort_at, below, PairsAt, Built, Fine}
use Rattle.rebuilt.specs.Constants.{constant-ok}
use Rattle.rebuilt.specs.Known.{Declared}
use Rattle.rebuilt.specs.Placing.{Placed, PlacedAll, PlacedStores, RefsOk}
use Rattle.rebuilt.specs.Start.{CalledBy, map_at}
use Rattle.rebuilt.specs.Nodes.{node_width_of, is_b, OperandsOk, stores_from, Facts, map-place, operator-node, variable-node, constant-node, select-node, call-node, call_at, found-call, find-called, W, B, S, A, width-of}

-- the nodes that an item uses
unfoldable pub uses_of : Item → List ℕ
uses_of (a_variable w) = []
uses_of (a_constant bs) = []
uses_of (an_operator k ks xs ms) = xs ++ ms
uses_of (a_select a j ps) = j ∷ flat ps
uses_of (a_call g w xs) = xs

-- the tree of item i over those of the nodes below
unfoldable pub tree_from : Declarations → ℕ → Item → (ℕ → Tree) → Tree
tree_from D i (a_variable w) f = variable (variable_at D i).name
tree_from D i (a_constant bs) f = constant bs
tree_from D i (an_operator k ks xs ms) f = apply k ks (trees_over f xs)
tree_from D i (a_select a j ps) f = select (array_at D a).name (f j) (stores_from f ps)
tree_from D i (a_call g w xs) f = call (function_at D g).name (trees_over f xs)

-- ---------------------------------------------------------------- the width pass, from facts by places

widths-from : (nbits : ℕ) (arrays : ArrayWidths) (side ws rest : List ℕ) (ns : List Node) → length ns ≡ length rest
    → ((j : ℕ) (n : Node) → get_elem? ns j ≡ some n → T (node_wf nbits arrays side (ws ++ take j rest) n) × (node_width arrays (ws ++ take j rest) n ≡ get_or rest j 0))
    → ext_wf_from nbits arrays side ws ns ≡ ws ++ rest
unfolding ext_wf_from
widths-from nbits arrays side ws [] [] e h = sym (append-nil ws)
widths-from nbits arrays side ws (w ∷ rest) [] e h = absurd (omega arith)
widths-from nbits arrays side ws [] (n ∷ ns) e h = absurd (omega arith)
widths-from nbits arrays side ws (w ∷ rest) (n ∷ ns) e h =
    let (t, q) = rw (append-nil ws) at (h 0 n refl) in
    let ih = widths-from nbits arrays side (ws ++ (w ∷ [])) rest ns (omega arith) (λ j m f. (let r = h (suc j) m f in rw (append_assoc ws (w ∷ []) (take j rest)) r)) in
    rw (T→true (node_wf nbits arrays side ws n) t, ext_wf_from, q) (ih ∙ append_assoc ws (w ∷ []) rest)

-- ---------------------------------------------------------------- each node

module _ (D : Declarations) (s : List Item) (ss : List TreeSort) (built : Built D s ss) where
  abbrev pub NodeFacts : ℕ → Item → Type 0
  NodeFacts i x =
      Facts D s ss built i (shape (get_or (records_from 0 0 s) i no_node)) (get_or (records_from 0 0 s) i no_node) (uses_of x) (tree_from D i x)

  inside : (i : ℕ) (x : Item) → get_elem? s i ≡ some x → i < length ss
  inside i x e =
      let l = at_less s i x e in
      let z : length s ≡ length ss = built.sized in
      omega arith

  pub node-facts : (i : ℕ) (x : Item) → get_elem? s i ≡ some x → NodeFacts i x
  unfolding record_of uses_of tree_from shapes
  node-facts i (a_variable w) e =
      let l = laid s i (a_variable w) e 0 0 in
      subst (λ (n : Node). Facts D s ss built i (shape n) n [] (tree_from D i (a_variable w))) (sym l.node)
      (variable-node D s ss built i (inside i (a_variable w) e) w (built.fine i (a_variable w) e))
  node-facts i (a_constant bs) e =
      let l = laid s i (a_constant bs) e 0 0 in
      subst (λ (n : Node). Facts D s ss built i (shape n) n [] (tree_from D i (a_constant bs))) (sym l.node)
      (constant-node D s ss built i (inside i (a_constant bs) e) bs e (built.fine i (a_constant bs) e) l)
  node-facts i (an_operator k ks xs ms) e =
      let l = laid s i (an_operator k ks xs ms) e 0 0 in
      subst (λ (n : Node). Facts D s ss built i (shape n) n (xs ++ ms) (tree_from D i (an_operator k ks xs ms))) (sym l.node)
      (operator-node D s ss built i (inside i (an_operator k ks xs ms) e) k ks xs ms (built.fine i (an_operator k ks xs ms) e))
  node-facts i (a_select a j ps) e =
      let l = laid s i (a_select a j ps) e 0 0 in
      subst (λ (n : Node). Facts D s ss built i (shape n) n (j ∷ flat ps) (tree_from D i (a_select a j ps))) (sym l.node)
      (select-node D s ss built i (inside i (a_select a j ps) e) a j ps (built.fine i (a_select a j ps) e) l)
  node-facts i (a_call g w xs) e =
      let l = laid s i (a_call g w xs) e 0 0 in
      subst (λ (n : Node). Facts D s ss built i (shape n) n xs (tree_from D i (a_call g w xs))) (sym l.node)
      (call-node D s ss built i g w xs e l)

  -- ---------------------------------------------------------------- widths

  pub widths : ext_wf_of (length (B D s ss built)) (A D s ss built) (S D s ss built) (records_from 0 0 s) ≡ W D s ss built
  unfolding ext_wf_of node_wf node_width
  widths =
      let z : length (records_from 0 0 s) ≡ length (map node_width_of ss) = length-records s 0 0 ∙ built.sized ∙ sym (length-map ss node_width_of) in
      widths-from _ _ _ [] (map node_width_of ss) (records_from 0 0 s) z (λ j n e.
      (let l : j < length s = rw (length-records s 0 0) at (at_less (records_from 0 0 s) j n e) in
      let (x, f) = at-exists s j l in
      let facts = node-facts j x f in
      let q : get_or (records_from 0 0 s) j no_node ≡ n = at-get_or (records_from 0 0 s) j n no_node e in
      subst (λ (n : Node). T (node_wf (length (B D s ss built)) (A D s ss built) (S D s ss built) (take j (map node_width_of ss)) n) × (node_width (A D s ss built) (take j (map node_width_of ss)) n ≡ get_or (map node_width_of ss) j 0)) q
      (facts.wf, facts.width ∙ sym (width-of D s ss built j (inside j x f)))))

  -- ---------------------------------------------------------------- the walk

  dag : Dag
  dag = dag_for D s

  walk-operands : (i : ℕ) → ((j : ℕ) → j < i → walks_below (dag_for D s) (map node_width_of ss) i j (is_b (sort_at ss j)) ≡ 0) → (os : List Operand) → OperandsOk ss i os
      → walk_all (walks_below (dag_for D s) (map node_width_of ss) i) os ≡ 0
  unfolding walk_all
  walk-operands i ih [] h = refl
  walk-operands i ih (o ∷ os) (l, e, h) =
      let p : walks_below (dag_for D s) (map node_width_of ss) i o.node o.bool ≡ 0 = subst (λ (b : Bool). walks_below (dag_for D s) (map node_width_of ss) i o.node b ≡ 0) e (ih o.node l) in
      rw p (walk-operands i ih os h)

  sort-ok : (b : Bool) → T (sort_ok b b)
  sort-ok true = tt
  sort-ok false = tt

  walk_step : (i : ℕ) → i < length s → ((j : ℕ) → j < i → walks_below (dag_for D s) (map node_width_of ss) i j (is_b (sort_at ss j)) ≡ 0)
      → step_of_walk (dag_for D s) (map node_width_of ss) (walks_below (dag_for D s) (map node_width_of ss) i) i (is_b (sort_at ss i)) ≡ 0
  unfolding step_of_walk asked dag_for
  walk_step i l ih =
      let (x, e) = at-exists s i l in
      let facts = node-facts i x e in
      let n : Node = get_or (records_from 0 0 s) i no_node in
      let a : ltb i (length (records_from 0 0 s)) ≡ true = T→true (ltb i (length (records_from 0 0 s))) (lt→ltb i (length (records_from 0 0 s)) (rw (length-records s 0 0) l)) in
      let b : sort_ok (is_b (sort_at ss i)) (is_bool (shape n)) ≡ true = T→true (sort_ok (is_b (sort_at ss i)) (is_bool (shape n))) (rw facts.sort (sort-ok (is_b (sort_at ss i)))) in
      let c = facts.taken in
      let w = walk-operands i ih (operands_as (S D s ss built) n (shape n)) facts.operands in
      rw (a, b, c) w

  pub walk-passes : (n i : ℕ) → i < n → i < length s → walk (dag_for D s) (map node_width_of ss) i (is_b (sort_at ss i)) ≡ 0
  unfolding walk
  walk-passes zero i l k = absurd (omega arith)
  walk-passes (suc n) i l k =
      walk_step i k (λ j m.
      (let e : walks_below (dag_for D s) (map node_width_of ss) i j ≡ step_of_walk (dag_for D s) (map node_width_of ss) (walks_below (dag_for D s) (map node_width_of ss) j) j =
      upto-below (step_of_walk (dag_for D s) (map node_width_of ss)) (λ _. 1) i j m in
      ap (λ (f : Bool → ℕ). f (is_b (sort_at ss j))) e ∙ walk-passes n j (omega arith) (omega arith)))

  -- ---------------------------------------------------------------- trees

  abbrev pub tree_at : ℕ → Tree
  tree_at i = tree_of (dag_for D s) (map node_width_of ss) (B D s ss built) i

  abbrev trees_under : ℕ → ℕ → Tree
  trees_under i = trees_below (dag_for D s) (map node_width_of ss) (B D s ss built) i

  under : (i j : ℕ) → j < i → trees_under i j ≡ tree_at j
  unfolding tree_of
  under i j l = upto-below (tree_step (dag_for D s) (map node_width_of ss) (B D s ss built)) (constant []) i j l

  tree-step : (i : ℕ) (x : Item) → get_elem? s i ≡ some x → tree_at i ≡ tree_from D i x (trees_under i)
  unfolding tree_of tree_step dag_for
  tree-step i x e = (node-facts i x e).term (trees_under i)

  found_name : {A : Type 0} (name : A → Name) (default : A) (n : Name) (xs : List A) (k : ℕ) → find_from (λ (x : A). same n (name x)) 0 xs ≡ some k → name (get_or xs k default) ≡ n
  found_name {A} name default n xs k e =
      let (i, x, p, q, h) = find_at (λ (x : A). same n (name x)) 0 xs k e in
      let z : k ≡ i = omega arith in
      let f : get_or xs k default ≡ x = subst (λ (j : ℕ). get_or xs j default ≡ x) (sym z) (at-get_or xs i x default q) in
      ap name f ∙ sym (same→eq n (name x) h)

  variable-item : Grows (map (λ (v : Variable). a_variable v.width) D.variables) s → (n : Name) (i : ℕ) → variable_number D n ≡ some i
      → (w : ℕ) × (get_elem? s i ≡ some (a_variable w))
  variable-item g n i e =
      let l = (find-bound (λ (v : Variable). same n v.name) 0 D.variables i e).1 in
      let v : Variable = variable_at D i in
      (v.width, grows_at (map (λ (v : Variable). a_variable v.width) D.variables) s g i (a_variable v.width) (map_at (λ (v : Variable). a_variable v.width) D.variables i v (get_or-at D.variables i no-variable (omega arith))))

  module _ (vars : Grows (map (λ (v : Variable). a_variable v.width) D.variables) s) where
    mutual
      unfolding tree_from trees_over stores_from

      pub tree_is : (t : Tree) (i : ℕ) → Placed D s t i → tree_at i ≡ t
      tree_is (variable n) i e =
          let (w, f) = variable-item vars n i e in
          tree-step i (a_variable w) f ∙ ap variable (found_name (λ (v : Variable). v.name) no-variable n D.variables i e)
      tree_is (constant bs) i e = tree-step i (a_constant bs) e
      tree_is (apply k ks ts) i (xs, ms, e, p) =
          tree-step i (an_operator k ks xs ms) e ∙ ap (apply k ks) (trees-are i ts xs (built.fine i (an_operator k ks xs ms) e).0 p)
      tree_is (select a j qs) i (m, x, ps, f, e, p, q) =
          let (la, lj, ej, pr, r) = built.fine i (a_select m x ps) e in
          let n = found_name (λ (y : Array). y.name) no-array a D.arrays m f in
          let tj : trees_under i x ≡ j = under i x lj ∙ tree_is j x p in
          let tq : stores_from (trees_under i) ps ≡ qs = stores-are i qs ps _ _ pr q in
          tree-step i (a_select m x ps) e ∙ (λ k. select (n k) (tj k) (tq k))
      tree_is (call n ts) i (g, w, xs, f, e, p) =
          let (lg, lo, es, we, r) = built.fine i (a_call g w xs) e in
          let m = found_name (λ (y : Function). y.name) no-function n D.functions g f in
          let tx = trees-are i ts xs lo p in
          tree-step i (a_call g w xs) e ∙ (λ k. call (m k) (tx k))

      trees-are : (i : ℕ) (ts : Trees) (xs : List ℕ) → All (below i) xs → PlacedAll D s ts xs → trees_over (trees_under i) xs ≡ ts
      trees-are i noTrees [] h p = refl
      trees-are i noTrees (x ∷ xs) h p = absurd p
      trees-are i (more t ts) [] h p = absurd p
      trees-are i (more t ts) (x ∷ xs) (h, k) (p, q) =
          let a = under i x (ltb→lt x i h) ∙ tree_is t x p in
          let b = trees-are i ts xs k q in
          λ j. more (a j) (b j)

      stores-are : (i : ℕ) (qs : Stores) (ps : List (Pair ℕ)) (iw vw : ℕ) → PairsAt ss i iw vw ps → PlacedStores D s qs ps → stores_from (trees_under i) ps ≡ qs
      stores-are i base [] iw vw h p = refl
      stores-are i base (p ∷ ps) iw vw h q = absurd q
      stores-are i (store x v qs) [] iw vw h q = absurd q
      stores-are i (store x v qs) (p ∷ ps) iw vw (lx, ex, lv, ev, h) (px, pv, q) =
          let a = under i p.index lx ∙ tree_is x p.index px in
          let b = under i p.value lv ∙ tree_is v p.value pv in
          let c = stores-are i qs ps iw vw h q in
          λ j. store (a j) (b j) (c j)

    -- ---------------------------------------------------------------- roots

    pub roots-walk : (ts : Trees) (rs : List Ref) → T (all_bool D ts) → RefsOk D s ss ts rs
        → (walk_all (walk (dag_for D s) (map node_width_of ss)) (map formula (map (node_of s) rs)) ≡ 0) × (trees_over tree_at (map (node_of s) rs) ≡ ts)
    unfolding walk_all trees_over node_of sort_under
    roots-walk noTrees [] h o = (refl, refl)
    roots-walk noTrees (r ∷ rs) h o = absurd o
    roots-walk (more t ts) [] h o = absurd o
    roots-walk (more t ts) (here i ∷ rs) h ((l, e, p), o) =
        let sb : tree_sort D t ≡ some bool = has-eq (tree_sort D t) bool (and_0 (has_sort (tree_sort D t) bool) _ h) in
        let sc : some (sort_at ss i) ≡ some bool = sym e ∙ sb in
        let sd : sort_at ss i ≡ bool = cc in
        let b : is_b (sort_at ss i) ≡ true = ap is_b sd in
        let w : walk (dag_for D s) (map node_width_of ss) i true ≡ 0 = subst (λ (c : Bool). walk (dag_for D s) (map node_width_of ss) i c ≡ 0) b (walk-passes (suc i) i (omega arith) l) in
        let (m, q) = roots-walk ts rs (and-1 (has_sort (tree_sort D t) bool) _ h) o in
        let a = tree_is t i p in
        (rw w m, λ j. more (a j) (q j))
    roots-walk (more t ts) (pending bs ∷ rs) h (e, o) =
        let sb : tree_sort D t ≡ some bool = has-eq (tree_sort D t) bool (and_0 (has_sort (tree_sort D t) bool) _ h) in
        let sc : tree_sort D (constant bs) ≡ some bool = ap (tree_sort D) (sym e) ∙ sb in
        let sd : bits (length bs) ≡ bool = (constant-ok D bs bool sc).1 in
        absurd (let z : ◌≡◌ {A = ℕ} 0 1 = cc in omega arith)

  -- ---------------------------------------------------------------- declarations

  module _ (dd : Declared D) where
    every-width : (vs : List Variable) → ((k : ℕ) → k < length vs → T (variable_ok (get_or vs k no-variable))) → T (every (ltb 0) (map (λ (v : Variable). v.width) vs))
    every-width [] h = tt
    every-width (v ∷ vs) h =
        and_T (ltb 0 v.width) _ (and_0 (ltb 0 v.width) (fits64 v.width) (h 0 (omega arith))) (every-width vs (λ k l. h (suc k) (omega arith)))

    pub variables-pass : T (decl_vars_ok (dag_for D s))
    unfolding decl_vars_ok dag_for
    variables-pass = every-width D.variables dd.variables

    wide-positive : (ws : List ℕ) → T (every width_ok ws) → T (every (ltb 0) ws)
    wide-positive [] h = tt
    wide-positive (w ∷ ws) h = and_T (ltb 0 w) _ (and_0 (ltb 0 w) (fits64 w) (and_0 (width_ok w) (every width_ok ws) h)) (wide-positive ws (and-1 (width_ok w) (every width_ok ws) h))

    module _ (called : (g : ℕ) → g < length D.functions → CalledBy s g) where
      pub signature-is : (g : ℕ) → g < length D.functions → signature (dag_for D s) (map node_width_of ss) g ≡ (function_at D g).arguments
      unfolding signature dag_for
      signature-is g l =
          let (c, e) = find-called D s ss built g (called g l) in
          let (w, xs, f) = found-call D s ss built g c e in
          rw (e, signature) (call_at D s ss built c g w xs f).widths

      function-passes : (g : ℕ) → g < length D.functions → T (decl_func_ok (dag_for D s) (map node_width_of ss) g)
      unfolding decl_func_ok dag_for
      function-passes g l =
          let f : Function = function_at D g in
          let (c, e) = find-called D s ss built g (called g l) in
          let (w, xs, q) = found-call D s ss built g c e in
          let ok = dd.functions g l in
          let wi : get_or (map (λ (f : Function). f.width) D.functions) g 0 ≡ f.width = get_or-map (λ (f : Function). f.width) D.functions g no-function in
          let positive : T (every (ltb 0) (signature (dag_for D s) (map node_width_of ss) g)) = rw (signature-is g l) (wide-positive f.arguments (and_0 (every width_ok f.arguments) (width_ok f.width) ok)) in
          and_T (ltb 0 (get_or (map (λ (f : Function). f.width) D.functions) g 0)) _ (rw wi (and_0 (ltb 0 f.width) (fits64 f.width) (and-1 (every width_ok f.arguments) (width_ok f.width) ok)))
          (subst (λ (o : Option ℕ). T (elim o as (λ _. Bool) [ none ↦ false | some c ↦ arguments_inside (S D s ss built) (get_or (records_from 0 0 s) c no_node) && every (ltb 0) (signature (dag_for D s) (map node_width_of ss) g) ])) (sym e)
          (and_T (arguments_inside (S D s ss built) (get_or (records_from 0 0 s) c no_node)) _ (call_at D s ss built c g w xs q).inside positive))

      pub functions-pass : T (decl_funcs_ok (dag_for D s) (map node_width_of ss))
      unfolding decl_funcs_ok dag_for
      functions-pass =
          let e : length (fname_table (dag_for D s)) ≡ length D.functions = ap length (names-back (function_names_in D)) ∙ length-map D.functions (λ (f : Function). f.name) in
          every-from (decl_func_ok (dag_for D s) (map node_width_of ss)) 0 (length (fname_table (dag_for D s))) (λ k l m. function-passes k (omega arith))

      tabulate-is : {A : Type 0} (xs : List A) (f : ℕ → A) (default : A) → ((k : ℕ) → k < length xs → f k ≡ get_or xs k default) → tabulate (length xs) f ≡ xs
      tabulate-is [] f default h = refl
      tabulate-is (x ∷ xs) f default h =
          let a = h 0 (omega arith) in
          let b = tabulate-is xs (λ i. f (suc i)) default (λ k l. h (suc k) (omega arith)) in
          λ j. a j ∷ b j

      pub declarations-are : declarations_of (dag_for D s) (map node_width_of ss) ≡ D
      unfolding declarations_of dag_for index_width_of value_width_of
      declarations-are =
          let d : Dag = dag_for D s in
          let vf : (ℕ → Variable) = λ (k : ℕ). record { name = get_or (name_table d) k []; width = get_or (map (λ (v : Variable). v.width) D.variables) k 0 } in
          let af : (ℕ → Array) = λ (k : ℕ). record { name = get_or (aname_table d) k []; index = get_or (map (λ (a : Array). a.index) D.arrays) k 32; value = get_or (map (λ (a : Array). a.value) D.arrays) k 8 } in
          let ff : (ℕ → Function) = λ (g : ℕ). record { name = get_or (fname_table d) g []; arguments = signature (dag_for D s) (map node_width_of ss) g; width = get_or (map (λ (f : Function). f.width) D.functions) g 0 } in
          let vn = names-back (variable_names_in D) in
          let an = names-back (array_names_in D) in
          let fn = names-back (function_names_in D) in
          let v : tabulate (length (name_table d)) vf ≡ D.variables =
          ap (λ (n : ℕ). tabulate n vf) (ap length vn ∙ length-map D.variables (λ (v : Variable). v.name)) ∙ tabulate-is D.variables vf no-variable (λ k l.
          (let a = ap (λ (ns : List Name). get_or ns k []) vn ∙ get_or-map (λ (v : Variable). v.name) D.variables k no-variable in
          let b = get_or-map (λ (v : Variable). v.width) D.variables k no-variable in
          λ j. record { name = a j; width = b j })) in
          let r : tabulate (length (aname_table d)) af ≡ D.arrays =
          ap (λ (n : ℕ). tabulate n af) (ap length an ∙ length-map D.arrays (λ (x : Array). x.name)) ∙ tabulate-is D.arrays af no-array (λ k l.
          (let a = ap (λ (ns : List Name). get_or ns k []) an ∙ get_or-map (λ (x : Array). x.name) D.arrays k no-array in
          let p = map-place (λ (x : Array). x.index) no-array 32 D.arrays k l in
          let q = map-place (λ (x : Array). x.value) no-array 8 D.arrays k l in
          λ j. record { name = a j; index = p j; value = q j })) in
          let f : tabulate (length (fname_table d)) ff ≡ D.functions =
          ap (λ (n : ℕ). tabulate n ff) (ap length fn ∙ length-map D.functions (λ (f : Function). f.name)) ∙ tabulate-is D.functions ff no-function (λ k l.
          (let a = ap (λ (ns : List Name). get_or ns k []) fn ∙ get_or-map (λ (f : Function). f.name) D.functions k no-function in
          let b = get_or-map (λ (f : Function). f.width) D.functions k no-function in
          let c = signature-is k l in
          λ j. record { name = a j; arguments = c j; width = b j })) in
          λ j. record { variables = v j; arrays = r j; functions = f j }
