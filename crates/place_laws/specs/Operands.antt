-- A term that is no leaf, by its operands in the order of the script: its node comes after those of the operands and of the constants
-- among them. One form for operators, calls and selects.
use Prim.Native.Nat.{ℕ, suc, ◌+◌, ◌*◌}
use Rattle.std.specs.Prelude.{◌≡◌}
use Rattle.std.proofs.Math.Path.{refl, ap, sym, subst}
use Rattle.std.proofs.Common.{◌∙◌}
use mathlib.Core.List.{List, [], ◌∷◌, ◌++◌, map, append_assoc, append-nil}
use native.Mathlib.Omega.{arith}
use Rattle.std.proofs.Math.ListN.{length, get_or}
use Rattle.reading.specs.Trees.{Name, Tree, variable, constant, apply, select, call, Trees, none as noTrees, more, Stores, base, store, Declarations}
use Rattle.echo_spec.specs.Shapes.{shape_of}
use Rattle.echo_spec.specs.TreeSorts.{width_of, tree_sort}
use Rattle.readback.specs.Rebuild.{Pair, Item, an_operator, a_select, a_call, Ref, here, pending, Put, PutAll, PutStores, ended, amounts, own_bits, constants_among, constants_stored, number_or0, pair_of, pendings, put, put_all, put_stores, array_number, function_number}
use Rattle.heap_laws.specs.Heap.{pending_in, pairs_back}
use Rattle.place_laws.specs.Ahead.{stored_then, stores_in}

-- ---------------------------------------------------------------- definitions

-- the operands in the order of the script; a leaf has none
unfoldable pub operands_of : Tree → Trees
operands_of (variable n) = noTrees
operands_of (constant bs) = noTrees
operands_of (apply k ks ts) = ts
operands_of (select a j ss) = stored_then ss (more j noTrees)
operands_of (call n ts) = ts

-- the amount of a rotation, as bits
abbrev pub amounts_of : Declarations → ℕ → List ℕ → Trees → List (List ℕ)
amounts_of D k ks ts = amounts (shape_of k) (width_of (tree_sort D (apply k ks ts))) ks

-- the pairs of stores, the outermost first, in the order of the script, and then others
unfoldable pub in_order : List (Pair Ref) → List Ref → List Ref
in_order [] rs = rs
in_order (p ∷ ps) rs = in_order ps (p.index ∷ p.value ∷ rs)

-- ---------------------------------------------------------------- the pairs of a select, from its operands

module _ (node : Ref → ℕ) where
  past_pairs : (ps : List (Pair Ref)) (rs : List Ref) (k : ℕ) → get_or (map node (in_order ps rs)) (2 * length ps + k) 0 ≡ get_or (map node rs) k 0
  unfolding in_order
  past_pairs [] rs k = let z : 2 * 0 + k ≡ k = omega arith in rw z
  past_pairs (p ∷ ps) rs k =
      let z : 2 * suc (length ps) + k ≡ 2 * length ps + suc (suc k) = omega arith in
      rw z (past_pairs ps (p.index ∷ p.value ∷ rs) (suc (suc k)))

  pub pairs-back : (ps : List (Pair Ref)) (rs : List Ref) → pairs_back (length ps) (map node (in_order ps rs)) ≡ map (pair_of node) ps
  unfolding in_order pairs_back
  pairs-back [] rs = refl
  pairs-back (p ∷ ps) rs =
      let rs' : List Ref = p.index ∷ p.value ∷ rs in
      let a : get_or (map node (in_order ps rs')) (2 * length ps) 0 ≡ node p.index = subst (λ (n : ℕ). get_or (map node (in_order ps rs')) n 0 ≡ node p.index) (omega arith) (past_pairs ps rs' 0) in
      let b : get_or (map node (in_order ps rs')) (2 * length ps + 1) 0 ≡ node p.value = past_pairs ps rs' 1 in
      let c = pairs-back ps rs' in
      λ i. record { index = a i; value = b i } ∷ c i

  pub own-index : (ps : List (Pair Ref)) (r : Ref) → get_or (map node (in_order ps (r ∷ []))) (2 * length ps) 0 ≡ node r
  own-index ps r = subst (λ (n : ℕ). get_or (map node (in_order ps (r ∷ []))) n 0 ≡ node r) (omega arith) (past_pairs ps (r ∷ []) 0)

pub length-in-order : (ps : List (Pair Ref)) (rs : List Ref) → length (in_order ps rs) ≡ 2 * length ps + length rs
unfolding in_order
length-in-order [] rs = omega arith
length-in-order (p ∷ ps) rs = let e = length-in-order ps (p.index ∷ p.value ∷ rs) in omega arith

-- ---------------------------------------------------------------- the constants among operands

pending-cons : (r : Ref) (rs : List Ref) → pending_in (r ∷ rs) ≡ pending_in (r ∷ []) ++ pending_in rs
unfolding pending_in
pending-cons (here i) rs = refl
pending-cons (pending bs) rs = refl

no-pending : pending_in [] ≡ []
unfolding pending_in
no-pending = refl

module _ (D : Declarations) where
  own-pending : (t : Tree) (s : List Item) → own_bits t ≡ pending_in ((put D t s).ref ∷ [])
  unfolding own_bits put ended pending_in
  own-pending (variable n) s = refl
  own-pending (constant bs) s = refl
  own-pending (apply k ks ts) s = refl
  own-pending (select a j ss) s = refl
  own-pending (call n ts) s = refl

  pub among-pending : (ts : Trees) (s : List Item) → constants_among ts ≡ pending_in (put_all D ts s).refs
  unfolding constants_among put
  among-pending noTrees s = sym no-pending
  among-pending (more t ts) s =
      (λ i. own-pending t s i ++ among-pending ts (put D t s).items i) ∙ sym (pending-cons (put D t s).ref (put_all D ts (put D t s).items).refs)

  stored-among : (ss : Stores) (ts : Trees) → constants_among (stored_then ss ts) ≡ constants_stored ss ++ constants_among ts
  unfolding constants_among constants_stored stored_then
  stored-among base ts = refl
  stored-among (store i v ss) ts =
      stored-among ss (more i (more v ts))
      ∙ ap (λ (l : List (List ℕ)). constants_stored ss ++ l) (sym (append_assoc (own_bits i) (own_bits v) (constants_among ts)))
      ∙ sym (append_assoc (constants_stored ss) (own_bits i ++ own_bits v) (constants_among ts))

  alone_among : (j : Tree) → constants_among (more j noTrees) ≡ own_bits j
  unfolding constants_among
  alone_among j = append-nil (own_bits j)

  -- ---------------------------------------------------------------- stores, in the order of the script

  -- what is placed of stores and then of others
  abbrev After : Stores → Trees → List Item → PutAll
  After ss ts s = record {
    items = (put_all D ts (put_stores D ss s).items).items;
    refs = in_order (put_stores D ss s).pairs (put_all D ts (put_stores D ss s).items).refs;
  }

  pub put-stored : (ss : Stores) (ts : Trees) (s : List Item) → put_all D (stored_then ss ts) s ≡ After ss ts s
  unfolding put stored_then in_order
  put-stored base ts s = refl
  put-stored (store i v ss) ts s = put-stored ss (more i (more v ts)) s

  -- ---------------------------------------------------------------- a term, by its operands

  -- AN OPERATOR: the operands, then its amount, then the constants among the operands, then its node.
  pub put-operator : (k : ℕ) (ks : List ℕ) (ts : Trees) (s : List Item) → let o : PutAll = put_all D ts s in let ms : List (List ℕ) = amounts_of D k ks ts in
      put D (apply k ks ts) s ≡ ended (ms ++ pending_in o.refs) (λ node. an_operator k ks (map node o.refs) (pendings node ms)) o.items
  unfolding put
  put-operator k ks ts s =
      let o : PutAll = put_all D ts s in
      let ms : List (List ℕ) = amounts_of D k ks ts in
      ap (λ (cs : List (List ℕ)). ended (ms ++ cs) (λ node. an_operator k ks (map node o.refs) (pendings node ms)) o.items) (among-pending ts s)

  -- A CALL: the arguments, then the constants among them, then its node.
  pub put-call : (n : Name) (ts : Trees) (s : List Item) → let o : PutAll = put_all D ts s in
      put D (call n ts) s ≡ ended (pending_in o.refs) (λ node. a_call (number_or0 (function_number D n)) (width_of (tree_sort D (call n ts))) (map node o.refs)) o.items
  unfolding put
  put-call n ts s =
      let o : PutAll = put_all D ts s in
      ap (λ (cs : List (List ℕ)). ended cs (λ node. a_call (number_or0 (function_number D n)) (width_of (tree_sort D (call n ts))) (map node o.refs)) o.items) (among-pending ts s)

  pairs-count : (ss : Stores) (s : List Item) → length (put_stores D ss s).pairs ≡ stores_in ss
  unfolding put
  pairs-count base s = refl
  pairs-count (store i v ss) s = ap suc (pairs-count ss s)

  -- A SELECT under stores: index and value of each, the innermost first, its own index, then the constants among them, then its node.
  pub put-select : (a : Name) (j : Tree) (ss : Stores) (s : List Item) → let o : PutAll = put_all D (stored_then ss (more j noTrees)) s in
      put D (select a j ss) s
      ≡ ended (pending_in o.refs)
      (λ node. a_select (number_or0 (array_number D a)) (get_or (map node o.refs) (2 * stores_in ss) 0) (pairs_back (stores_in ss) (map node o.refs))) o.items
  unfolding put
  put-select a j ss s =
      let os : PutStores = put_stores D ss s in
      let p : Put = put D j os.items in
      let rs : List Ref = in_order os.pairs (p.ref ∷ []) in
      let m : ℕ = number_or0 (array_number D a) in
      let q : put_all D (stored_then ss (more j noTrees)) s ≡ record { items = p.items; refs = rs } = put-stored ss (more j noTrees) s in
      let c : constants_stored ss ++ own_bits j ≡ pending_in rs =
      ap (λ (l : List (List ℕ)). constants_stored ss ++ l) (sym (alone_among j)) ∙ sym (stored-among ss (more j noTrees)) ∙ among-pending (stored_then ss (more j noTrees)) s
      ∙ ap (λ (o : PutAll). pending_in o.refs) q in
      let n : length os.pairs ≡ stores_in ss = pairs-count ss s in
      let x : ((node : Ref → ℕ) → node p.ref ≡ get_or (map node rs) (2 * stores_in ss) 0) =
      λ node. sym (own-index node os.pairs p.ref) ∙ ap (λ (k : ℕ). get_or (map node rs) (2 * k) 0) n in
      let y : ((node : Ref → ℕ) → map (pair_of node) os.pairs ≡ pairs_back (stores_in ss) (map node rs)) =
      λ node. sym (pairs-back node os.pairs (p.ref ∷ [])) ∙ ap (λ (k : ℕ). pairs_back k (map node rs)) n in
      let z : ended (constants_stored ss ++ own_bits j) (λ node. a_select m (node p.ref) (map (pair_of node) os.pairs)) p.items
      ≡ ended (pending_in rs) (λ node. a_select m (get_or (map node rs) (2 * stores_in ss) 0) (pairs_back (stores_in ss) (map node rs))) p.items =
      λ i. ended (c i) (λ node. a_select m (x node i) (y node i)) p.items in
      z
      ∙ ap (λ (o : PutAll). ended (pending_in o.refs) (λ node. a_select m (get_or (map node o.refs) (2 * stores_in ss) 0) (pairs_back (stores_in ss) (map node o.refs))) o.items) (sym q)

  pub select-refs : (j : Tree) (ss : Stores) (s : List Item) → length (put_all D (stored_then ss (more j noTrees)) s).refs ≡ 2 * stores_in ss + 1
  unfolding put
  select-refs j ss s =
      let ps : List (Pair Ref) = (put_stores D ss s).pairs in
      let e : length (put_all D (stored_then ss (more j noTrees)) s).refs ≡ length (in_order ps ((put D j (put_stores D ss s).items).ref ∷ [])) = ap (λ (o : PutAll). length o.refs) (put-stored ss (more j noTrees) s) in
      let f = length-in-order ps ((put D j (put_stores D ss s).items).ref ∷ []) in
      let g = pairs-count ss s in
      omega arith
