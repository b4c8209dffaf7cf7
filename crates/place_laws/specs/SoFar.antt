-- A term whose operands are placed one after the other: what is placed so far, and that a part has room where the whole has.
use Prim.Native.Nat.{ℕ, zero, suc, ◌+◌, ◌*◌, ◌≤◌, ◌<◌}
use Rattle.std.proofs.Math.Path.{◌≡◌, refl, ap, sym, subst}
use Rattle.std.proofs.Common.{◌∙◌}
use mathlib.Core.List.{List, [], ◌∷◌, ◌++◌, map, append_assoc, append-nil}
use Rattle.std.proofs.Math.Option.{Option, some}
use native.Mathlib.Omega.{arith}
use Rattle.std.specs.Prelude.{T, get_or}
use Rattle.std.proofs.Math.ListN.{length, length-append, length-map}
use Rattle.lists.specs.Places.{Grows, grows-trans}
use Rattle.reading.specs.Trees.{Tree, variable, constant, apply, select, call, Trees, none as noTrees, more, Stores, base, store, Declarations}
use Rattle.echo_spec.specs.Shapes.{shape_of}
use Rattle.lists.specs.Tests.{and_0, and-1}
use Rattle.echo_spec.specs.TreeSorts.{TreeSort, bits, has_sort, rule_for, sort_under, none_bound, tree_sort, tree_sorts, stores_have}
use Rattle.echo_spec.specs.TreeSortLaws.{has-eq}
use Rattle.readback.specs.Rebuild.{Pair, Item, with_constants, Ref, here, node_of, Put, ended, number_or0, side_in, flat, put, put_all, array_number, function_number}
use Rattle.rebuilt.specs.Built.{array_at, function_at}
use Rattle.rebuilt.specs.Known.{select-known, call_known}
use Rattle.rebuilt.specs.Constants.{with-constants-grows}
use Rattle.heap_laws.specs.Heap.{pending_in, pairs_back}
use Rattle.place_laws.specs.Ahead.{stored_then, stores_in}
use Rattle.place_laws.specs.Operands.{operands_of, put-operator, put-call, put-select, select-refs}
use Rattle.place_laws.specs.Widths.{first_width, second_width, apply-sorts, few-operands}
use Rattle.place_laws.specs.Room.{Room, room-less, room-before, room-last, put-all-grows}

-- The operands all of a term that starts after the nodes s: the nodes now, the operands rs that are placed with their sorts os, and those
-- that are left.
pub record SoFar (D : Declarations) (all : Trees) (s now : List Item) (rs : List Ref) (os : List (Option TreeSort)) (left : Trees) : Type 0 where
  pub items : (put_all D all s).items ≡ (put_all D left now).items
  pub refs : (put_all D all s).refs ≡ rs ++ (put_all D left now).refs
  pub sorts : tree_sorts D all ≡ os ++ tree_sorts D left
  pub count : length os ≡ length rs

-- a term that becomes a node
abbrev pub NoLeaf : Tree → Type 0
NoLeaf (variable n) = ⊥
NoLeaf (constant bs) = ⊥
NoLeaf (apply k ks ts) = Unit
NoLeaf (select a j ss) = Unit
NoLeaf (call n ts) = Unit

-- how many of k operands that wait become side entries when the term ends
abbrev pub sides_of : Tree → ℕ → ℕ
sides_of (variable n) k = 0
sides_of (constant bs) k = 0
sides_of (apply m ks ts) k = 0
sides_of (select a j ss) k = k
sides_of (call n ts) k = k

module _ (D : Declarations) where
  pub so-far-start : (all : Trees) (s : List Item) → SoFar D all s s [] [] all
  so-far-start all s = record { items = refl; refs = refl; sorts = refl; count = refl }

  pub so-far-next : (all : Trees) (s now : List Item) (rs : List Ref) (os : List (Option TreeSort)) (t : Tree) (ts : Trees) → SoFar D all s now rs os (more t ts)
      → SoFar D all s (put D t now).items (rs ++ ((put D t now).ref ∷ [])) (os ++ (tree_sort D t ∷ [])) ts
  unfolding put sort_under
  so-far-next all s now rs os t ts h =
      let c : length os ≡ length rs = h.count in
      let a = length-append os (tree_sort D t ∷ []) in
      let b = length-append rs ((put D t now).ref ∷ []) in
      record {
        items = h.items;
        refs = h.refs ∙ sym (append_assoc rs ((put D t now).ref ∷ []) (put_all D ts (put D t now).items).refs);
        sorts = h.sorts ∙ sym (append_assoc os (tree_sort D t ∷ []) (tree_sorts D ts));
        count = omega arith;
      }

  pub so-far-end : (all : Trees) (s now : List Item) (rs : List Ref) (os : List (Option TreeSort)) → SoFar D all s now rs os noTrees
      → (put_all D all s ≡ record { items = now; refs = rs }) × (tree_sorts D all ≡ os)
  unfolding put sort_under
  so-far-end all s now rs os h = (
    (let a : (put_all D all s).items ≡ now = h.items in let b : (put_all D all s).refs ≡ rs = h.refs ∙ append-nil rs in λ i. record { items = a i; refs = b i }),
    h.sorts ∙ append-nil os,
  )

  -- ---------------------------------------------------------------- room

  -- what stands before the end of a term has room for its node
  ended-room : (n e : ℕ) (cs : List (List ℕ)) (term : (Ref → ℕ) → Item) (v u : List Item) → Grows v u → Room n e (ended cs term u).items
      → Room (suc n) (e + length (side_in (term (node_of (with_constants cs u))))) v
  unfolding ended
  ended-room n e cs term v u g h =
      let w : List Item = with_constants cs u in
      let x : Item = term (node_of w) in
      room-before (suc n) (e + length (side_in x)) v w (grows-trans v u w g (with-constants-grows cs u)) (room-last n e w x h)

  -- some operand is left
  module _ (all : Trees) (s now : List Item) (rs : List Ref) (os : List (Option TreeSort)) (t : Tree) (ts : Trees) (h : SoFar D all s now rs os (more t ts)) where
    rest-grows : Grows (put D t now).items (put_all D all s).items
    unfolding put
    rest-grows = subst (λ (u : List Item). Grows (put D t now).items u) (sym h.items) (put-all-grows D ts (put D t now).items)

    rest-count : length rs < length (put_all D all s).refs
    unfolding put
    rest-count =
        let e : length (put_all D all s).refs ≡ length (rs ++ ((put D t now).ref ∷ (put_all D ts (put D t now).items).refs)) = ap length h.refs in
        let f = length-append rs ((put D t now).ref ∷ (put_all D ts (put D t now).items).refs) in
        omega arith

  nothing_left : {C : Type 0} (s now : List Item) (rs : List Ref) (os : List (Option TreeSort)) (t : Tree) (ts : Trees) → SoFar D noTrees s now rs os (more t ts) → C
  unfolding put
  nothing_left s now rs os t ts h = absurd (let l = rest-count noTrees s now rs os t ts h in omega arith)

  flat-long : (ps : List (Pair ℕ)) → length (flat ps) ≡ 2 * length ps
  unfolding flat
  flat-long [] = omega arith
  flat-long (p ∷ ps) = let e = flat-long ps in omega arith

  back_long : (n : ℕ) (xs : List ℕ) → length (pairs_back n xs) ≡ n
  unfolding pairs_back
  back_long zero xs = refl
  back_long (suc n) xs = ap suc (back_long n xs)

  -- AN OPERAND has the room that its term has, less its term's node and the side entries that wait.
  pub operand-room : (n e : ℕ) (all : Tree) (s now : List Item) (rs : List Ref) (os : List (Option TreeSort)) (t : Tree) (ts : Trees) → SoFar D (operands_of all) s now rs os (more t ts)
      → Room n e (put D all s).items → Room (suc n) (e + sides_of all (length rs)) (put D t now).items
  unfolding operands_of side_in
  operand-room n e (variable m) s now rs os t ts h r = nothing_left s now rs os t ts h
  operand-room n e (constant bs) s now rs os t ts h r = nothing_left s now rs os t ts h
  operand-room n e (apply k ks us) s now rs os t ts h r =
      let q = put-operator D k ks us s in
      let a = ended-room n e _ _ (put D t now).items (put_all D us s).items (rest-grows us s now rs os t ts h) (subst (λ (p : Put). Room n e p.items) q r) in
      room-less (suc n) _ (suc n) (e + 0) (put D t now).items (omega arith) (omega arith) a
  operand-room n e (select b j ss) s now rs os t ts h r =
      let us : Trees = stored_then ss (more j noTrees) in
      let q = put-select D b j ss s in
      let a = ended-room n e _ _ (put D t now).items (put_all D us s).items (rest-grows us s now rs os t ts h) (subst (λ (p : Put). Room n e p.items) q r) in
      let l = rest-count us s now rs os t ts h in
      let m = select-refs D j ss s in
      let xs : List ℕ = map (node_of (with_constants (pending_in (put_all D us s).refs) (put_all D us s).items)) (put_all D us s).refs in
      let sides : length (flat (pairs_back (stores_in ss) xs)) ≡ 2 * stores_in ss = flat-long (pairs_back (stores_in ss) xs) ∙ ap (λ (k : ℕ). 2 * k) (back_long (stores_in ss) xs) in
      room-less (suc n) _ (suc n) (e + length rs) (put D t now).items (omega arith) (omega (arith, sides)) a
  operand-room n e (call f us) s now rs os t ts h r =
      let q = put-call D f us s in
      let node : (Ref → ℕ) = node_of (with_constants (pending_in (put_all D us s).refs) (put_all D us s).items) in
      let sides : length (map node (put_all D us s).refs) ≡ length (put_all D us s).refs = length-map (put_all D us s).refs node in
      let a = ended-room n e _ _ (put D t now).items (put_all D us s).items (rest-grows us s now rs os t ts h) (subst (λ (p : Put). Room n e p.items) q r) in
      let l = rest-count us s now rs os t ts h in
      room-less (suc n) _ (suc n) (e + length rs) (put D t now).items (omega arith) (omega (arith, sides)) a

  -- a term that is no leaf becomes a node
  pub open-room : (n e : ℕ) (all : Tree) (s : List Item) → NoLeaf all → Room n e (put D all s).items → length s + suc n ≤ 2048
  open-room n e (variable m) s f r = absurd f
  open-room n e (constant bs) s f r = absurd f
  open-room n e (apply k ks us) s f r =
      (ended-room n e _ _ s (put_all D us s).items (put-all-grows D us s) (subst (λ (p : Put). Room n e p.items) (put-operator D k ks us s) r)).nodes
  open-room n e (select b j ss) s f r =
      (ended-room n e _ _ s (put_all D (stored_then ss (more j noTrees)) s).items (put-all-grows D (stored_then ss (more j noTrees)) s)
      (subst (λ (p : Put). Room n e p.items) (put-select D b j ss s) r)).nodes
  open-room n e (call m us) s f r =
      (ended-room n e _ _ s (put_all D us s).items (put-all-grows D us s) (subst (λ (p : Put). Room n e p.items) (put-call D m us s) r)).nodes

  -- ---------------------------------------------------------------- how many operands wait

  sorts-long : (ts : Trees) (s : List Item) → length (tree_sorts D ts) ≡ length (put_all D ts s).refs
  unfolding put sort_under
  sorts-long noTrees s = refl
  sorts-long (more t ts) s = ap suc (sorts-long ts (put D t s).items)

  -- those of an operator are three at most, and all others become side entries
  pub few-wait : (all : Tree) (σ : TreeSort) → tree_sort D all ≡ some σ → (s now : List Item) (rs : List Ref) (os : List (Option TreeSort)) (t : Tree) (ts : Trees)
      → SoFar D (operands_of all) s now rs os (more t ts) → length rs ≤ sides_of all (length rs) + 2
  unfolding operands_of
  few-wait (variable m) σ e s now rs os t ts h = nothing_left s now rs os t ts h
  few-wait (constant bs) σ e s now rs os t ts h = nothing_left s now rs os t ts h
  few-wait (apply k ks us) σ e s now rs os t ts h =
      let l = rest-count us s now rs os t ts h in
      let m = sorts-long us s in
      let us' : List TreeSort = (rule_for (shape_of k) ks (tree_sorts D us)).operands in
      let q : length (tree_sorts D us) ≡ length (map some us') = ap length (apply-sorts D k ks us σ e) in
      let p : length (map some us') ≡ length us' = length-map {B = Option TreeSort} us' some in
      let f : length us' ≤ 3 = few-operands (shape_of k) (get_or ks 0 0) (get_or ks 1 0) (first_width (tree_sorts D us)) (second_width (tree_sorts D us)) in
      omega arith
  few-wait (select a j ss) σ e s now rs os t ts h = omega arith
  few-wait (call f us) σ e s now rs os t ts h = omega arith

  -- ---------------------------------------------------------------- the node of a term

  ended-low : (cs : List (List ℕ)) (term : (Ref → ℕ) → Item) (u : List Item) (i : ℕ) → (ended cs term u).ref ≡ here i → i < length (ended cs term u).items
  unfolding ended
  ended-low cs term u i e =
      let w : List Item = with_constants cs u in
      let q : here (length w) ≡ here i = e in
      let z : length w ≡ i = cc in
      let l = length-append w (term (node_of w) ∷ []) in
      omega arith

  -- a node is among the nodes
  pub node-low : (all : Tree) (s : List Item) (i : ℕ) → NoLeaf all → (put D all s).ref ≡ here i → i < length (put D all s).items
  node-low (variable m) s i f e = absurd f
  node-low (constant bs) s i f e = absurd f
  node-low (apply k ks us) s i f e = rw (put-operator D k ks us s) (ended-low _ _ (put_all D us s).items i (rw (put-operator D k ks us s) at e))
  node-low (select b j ss) s i f e = rw (put-select D b j ss s) (ended-low _ _ (put_all D (stored_then ss (more j noTrees)) s).items i (rw (put-select D b j ss s) at e))
  node-low (call m us) s i f e = rw (put-call D m us s) (ended-low _ _ (put_all D us s).items i (rw (put-call D m us s) at e))

-- ---------------------------------------------------------------- the operands have sorts

-- each of the trees has one
abbrev pub Sorts : Declarations → Trees → Type 0
Sorts D noTrees = Unit
Sorts D (more t ts) = ((σ : TreeSort) × (tree_sort D t ≡ some σ)) × Sorts D ts

module _ (D : Declarations) where
  sorts-from : (ts : Trees) (us : List TreeSort) → tree_sorts D ts ≡ map some us → Sorts D ts
  unfolding sort_under
  sorts-from noTrees us e = tt
  sorts-from (more t ts) [] e = absurd (let z : ◌≡◌ {A = ℕ} 0 1 = cc in omega arith)
  sorts-from (more t ts) (σ ∷ us) e =
      let a : tree_sort D t ≡ some σ = cc in
      let b : tree_sorts D ts ≡ map some us = cc in
      ((σ, a), sorts-from ts us b)

  stored-sorts : (i v : ℕ) (ss : Stores) (ts : Trees) → T (stores_have D none_bound i v ss) → Sorts D ts → Sorts D (stored_then ss ts)
  unfolding sort_under stored_then
  stored-sorts i v base ts h k = k
  stored-sorts i v (store x y ss) ts h k =
      let h₁ = and-1 (has_sort (tree_sort D x) (bits i)) _ h in
      let a : tree_sort D x ≡ some (bits i) = has-eq (tree_sort D x) (bits i) (and_0 (has_sort (tree_sort D x) (bits i)) _ h) in
      let b : tree_sort D y ≡ some (bits v) = has-eq (tree_sort D y) (bits v) (and_0 (has_sort (tree_sort D y) (bits v)) _ h₁) in
      stored-sorts i v ss (more x (more y ts)) (and-1 (has_sort (tree_sort D y) (bits v)) _ h₁) ((bits i, a), ((bits v, b), k))

  pub operand-sorts : (t : Tree) (σ : TreeSort) → tree_sort D t ≡ some σ → Sorts D (operands_of t)
  unfolding operands_of
  operand-sorts (variable n) σ e = tt
  operand-sorts (constant bs) σ e = tt
  operand-sorts (apply k ks ts) σ e = sorts-from ts (rule_for (shape_of k) ks (tree_sorts D ts)).operands (apply-sorts D k ks ts σ e)
  operand-sorts (select a j ss) σ e =
      let m : ℕ = number_or0 (array_number D a) in
      let (_, _, q, f, _) = select-known D a j ss σ e in
      stored-sorts (array_at D m).index (array_at D m).value ss (more j noTrees) f ((bits (array_at D m).index, q), tt)
  operand-sorts (call n ts) σ e =
      let (_, _, q, _) = call_known D n ts σ e in
      sorts-from ts (map bits (function_at D (number_or0 (function_number D n))).arguments) q
