-- The term of a node, and the operands of a term that ends: each has a node of its sort once its constants have theirs.
use Rattle.std.specs.Prelude.{ℕ, zero, suc, ◌+◌, ◌≤◌, ◌<◌, refl, Bool, ◌&&◌, T, length}
use Rattle.std.proofs.Math.Path.{◌≡◌, subst}
use Rattle.std.proofs.Common.{ap, sym, ◌∙◌, arith, lt→ltb}
use mathlib.Core.List.{List, [], ◌∷◌, ◌++◌, map}
use Rattle.std.proofs.Math.Option.{Option, none, some}
use Rattle.std.proofs.Math.ListN.{get_elem?}
use Rattle.lists.specs.Tests.{All, and_0, and-1}
use Rattle.lists.specs.Places.{at_less, Grows, grows_at, grows-get_or, grows-length}
use Rattle.reading.specs.Trees.{Name, Tree, variable, constant, apply, select, call, Trees, none as noTrees, more, Stores, base, store, Variable, Array, Function, Declarations}
use Rattle.echo_spec.specs.TreeSorts.{TreeSort, bool, bits, has_sort, sort_under, none_bound, tree_sort, tree_sorts, stores_have}
use Rattle.echo_spec.specs.TreeSortLaws.{has-eq}
use Rattle.readback.specs.Rebuild.{Pair, Item, a_constant, an_operator, a_select, a_call, Ref, here, pending, node_of, own_bits, constants_among, constants_stored, pair_of, pendings, variable_number, array_number, function_number}
use Rattle.rebuilt.specs.Built.{sort_at, ConstantsAt, PairsAt, below, Built}
use Rattle.rebuilt.specs.Constants.{Has, HasAll, has_left, has_right, node-of-constant, constant-ok}

-- ---------------------------------------------------------------- the term of a node

module _ (D : Declarations) where
  abbrev mutual
    -- node i of s is the tree
    pub Placed : List Item → Tree → ℕ → Type 0
    Placed s (variable n) i = variable_number D n ≡ some i
    Placed s (constant bs) i = get_elem? s i ≡ some (a_constant bs)
    Placed s (apply k ks ts) i = (xs : List ℕ) × (ms : List ℕ) × (get_elem? s i ≡ some (an_operator k ks xs ms)) × PlacedAll s ts xs
    Placed s (select a j ss) i =
        (m : ℕ) × (x : ℕ) × (ps : List (Pair ℕ)) × (array_number D a ≡ some m) × (get_elem? s i ≡ some (a_select m x ps)) × Placed s j x × PlacedStores s ss ps
    Placed s (call n ts) i = (g : ℕ) × (w : ℕ) × (xs : List ℕ) × (function_number D n ≡ some g) × (get_elem? s i ≡ some (a_call g w xs)) × PlacedAll s ts xs

    pub PlacedAll : List Item → Trees → List ℕ → Type 0
    PlacedAll s noTrees [] = Unit
    PlacedAll s noTrees (x ∷ xs) = ⊥
    PlacedAll s (more t ts) [] = ⊥
    PlacedAll s (more t ts) (x ∷ xs) = Placed s t x × PlacedAll s ts xs

    pub PlacedStores : List Item → Stores → List (Pair ℕ) → Type 0
    PlacedStores s base [] = Unit
    PlacedStores s base (p ∷ ps) = ⊥
    PlacedStores s (store i v ss) [] = ⊥
    PlacedStores s (store i v ss) (p ∷ ps) = Placed s i p.index × Placed s v p.value × PlacedStores s ss ps

  module _ (s u : List Item) (g : Grows s u) where
    mutual
      pub placed-grow : (t : Tree) (i : ℕ) → Placed s t i → Placed u t i
      placed-grow (variable n) i h = h
      placed-grow (constant bs) i h = grows_at s u g i (a_constant bs) h
      placed-grow (apply k ks ts) i (xs, ms, e, h) = (xs, ms, grows_at s u g i (an_operator k ks xs ms) e, placed-all-grow ts xs h)
      placed-grow (select a j ss) i (m, x, ps, f, e, h, k) =
          (m, x, ps, f, grows_at s u g i (a_select m x ps) e, placed-grow j x h, placed-stores-grow ss ps k)
      placed-grow (call n ts) i (m, w, xs, f, e, h) = (m, w, xs, f, grows_at s u g i (a_call m w xs) e, placed-all-grow ts xs h)

      pub placed-all-grow : (ts : Trees) (xs : List ℕ) → PlacedAll s ts xs → PlacedAll u ts xs
      placed-all-grow noTrees [] h = tt
      placed-all-grow noTrees (x ∷ xs) h = absurd h
      placed-all-grow (more t ts) [] h = absurd h
      placed-all-grow (more t ts) (x ∷ xs) (h, k) = (placed-grow t x h, placed-all-grow ts xs k)

      pub placed-stores-grow : (ss : Stores) (ps : List (Pair ℕ)) → PlacedStores s ss ps → PlacedStores u ss ps
      placed-stores-grow base [] h = tt
      placed-stores-grow base (p ∷ ps) h = absurd h
      placed-stores-grow (store i v ss) [] h = absurd h
      placed-stores-grow (store i v ss) (p ∷ ps) (h, k, l) = (placed-grow i p.index h, placed-grow v p.value k, placed-stores-grow ss ps l)

  -- ---------------------------------------------------------------- operands, with and without a node

  -- node i is the tree, with its sort
  abbrev pub NumberOk : List Item → List TreeSort → Tree → ℕ → Type 0
  NumberOk s ss t i = (i < length s) × (tree_sort D t ≡ some (sort_at ss i)) × Placed s t i

  abbrev pub RefOk : List Item → List TreeSort → Tree → Ref → Type 0
  RefOk s ss t (here i) = NumberOk s ss t i
  RefOk s ss t (pending bs) = t ≡ constant bs

  abbrev pub RefsOk : List Item → List TreeSort → Trees → List Ref → Type 0
  RefsOk s ss noTrees [] = Unit
  RefsOk s ss noTrees (r ∷ rs) = ⊥
  RefsOk s ss (more t ts) [] = ⊥
  RefsOk s ss (more t ts) (r ∷ rs) = RefOk s ss t r × RefsOk s ss ts rs

  abbrev pub PairsOk : List Item → List TreeSort → Stores → List (Pair Ref) → Type 0
  PairsOk s ss base [] = Unit
  PairsOk s ss base (p ∷ ps) = ⊥
  PairsOk s ss (store i v qs) [] = ⊥
  PairsOk s ss (store i v qs) (p ∷ ps) = RefOk s ss i p.index × RefOk s ss v p.value × PairsOk s ss qs ps

  module _ (s u : List Item) (ss us : List TreeSort) (gi : Grows s u) (gs : Grows ss us) (e : length s ≡ length ss) where
    number-grow : (t : Tree) (i : ℕ) → NumberOk s ss t i → NumberOk u us t i
    number-grow t i (l, q, h) =
        let m = grows-length s u gi in
        (omega arith, q ∙ ap some (sym (grows-get_or ss us gs i bool (omega arith))), placed-grow s u gi t i h)

    pub ref-grow : (t : Tree) (r : Ref) → RefOk s ss t r → RefOk u us t r
    ref-grow t (here i) h = number-grow t i h
    ref-grow t (pending bs) h = h

    pub refs-grow : (ts : Trees) (rs : List Ref) → RefsOk s ss ts rs → RefsOk u us ts rs
    refs-grow noTrees [] h = tt
    refs-grow noTrees (r ∷ rs) h = absurd h
    refs-grow (more t ts) [] h = absurd h
    refs-grow (more t ts) (r ∷ rs) (h, k) = (ref-grow t r h, refs-grow ts rs k)

    pub pairs-ok-grow : (qs : Stores) (ps : List (Pair Ref)) → PairsOk s ss qs ps → PairsOk u us qs ps
    pairs-ok-grow base [] h = tt
    pairs-ok-grow base (p ∷ ps) h = absurd h
    pairs-ok-grow (store i v qs) [] h = absurd h
    pairs-ok-grow (store i v qs) (p ∷ ps) (h, k, l) = (ref-grow i p.index h, ref-grow v p.value k, pairs-ok-grow qs ps l)

  -- ---------------------------------------------------------------- operands once the constants have nodes

  module _ (s : List Item) (ss : List TreeSort) (b : Built D s ss) where
    constant_number : (bs : List ℕ) (σ : TreeSort) → tree_sort D (constant bs) ≡ some σ → Has s bs → NumberOk s ss (constant bs) (node_of s (pending bs))
    constant_number bs σ h k =
        let e = node-of-constant s bs k in
        let f = b.fine (node_of s (pending bs)) (a_constant bs) e in
        (at_less s (node_of s (pending bs)) (a_constant bs) e, h ∙ ap some (sym (constant-ok D bs σ h).1 ∙ sym f.1), e)

    pub number_of : (t : Tree) (r : Ref) (σ : TreeSort) → tree_sort D t ≡ some σ → HasAll s (own_bits t) → RefOk s ss t r → NumberOk s ss t (node_of s r)
    unfolding node_of own_bits
    number_of t (here i) σ h k o = o
    number_of t (pending bs) σ h k o =
        let h' : tree_sort D (constant bs) ≡ some σ = subst (λ (x : Tree). tree_sort D x ≡ some σ) o h in
        let k' : HasAll s (own_bits (constant bs)) = subst (λ (x : Tree). HasAll s (own_bits x)) o k in
        subst (λ (x : Tree). NumberOk s ss x (node_of s (pending bs))) (sym o) (constant_number bs σ h' k'.0)

    pub numbers_of : (ts : Trees) (rs : List Ref) (us : List TreeSort) → tree_sorts D ts ≡ map some us → HasAll s (constants_among ts) → RefsOk s ss ts rs
        → (tree_sorts D ts ≡ map some (map (sort_at ss) (map (node_of s) rs))) × All (below (length s)) (map (node_of s) rs) × PlacedAll s ts (map (node_of s) rs)
    unfolding sort_under constants_among
    numbers_of noTrees [] us h k o = (refl, tt, tt)
    numbers_of noTrees (r ∷ rs) us h k o = absurd o
    numbers_of (more t ts) [] us h k o = absurd o
    numbers_of (more t ts) (r ∷ rs) [] h k o = absurd (let z : ◌≡◌ {A = ℕ} 0 1 = cc in omega arith)
    numbers_of (more t ts) (r ∷ rs) (σ ∷ us) h k (o, q) =
        let e : tree_sort D t ≡ some σ = cc in
        let f : tree_sorts D ts ≡ map some us = cc in
        let n = number_of t r σ e (has_left s (own_bits t) (constants_among ts) k) o in
        let m = numbers_of ts rs us f (has_right s (own_bits t) (constants_among ts) k) q in
        let a : tree_sort D t ≡ some (sort_at ss (node_of s r)) = n.1 in
        let c : tree_sorts D ts ≡ map some (map (sort_at ss) (map (node_of s) rs)) = m.0 in
        ((λ i. a i ∷ c i), (lt→ltb (node_of s r) (length s) n.0, m.1), (n.2, m.2))

    -- the width of a node whose tree is as wide
    pub as_wide : (t : Tree) (w i : ℕ) → tree_sort D t ≡ some (bits w) → tree_sort D t ≡ some (sort_at ss i) → sort_at ss i ≡ bits w
    as_wide t w i e f = let q : some (bits w) ≡ some (sort_at ss i) = sym e ∙ f in cc

    pub pairs_of : (iw vw : ℕ) (qs : Stores) (ps : List (Pair Ref)) → T (stores_have D none_bound iw vw qs) → HasAll s (constants_stored qs) → PairsOk s ss qs ps
        → PairsAt ss (length s) iw vw (map (pair_of (node_of s)) ps) × PlacedStores s qs (map (pair_of (node_of s)) ps)
    unfolding sort_under constants_stored
    pairs_of iw vw base [] h k o = (tt, tt)
    pairs_of iw vw base (p ∷ ps) h k o = absurd o
    pairs_of iw vw (store i v qs) [] h k o = absurd o
    pairs_of iw vw (store i v qs) (p ∷ ps) h k (oi, ov, o) =
        let ei : tree_sort D i ≡ some (bits iw) = has-eq (tree_sort D i) (bits iw) (and_0 (has_sort (tree_sort D i) (bits iw)) _ h) in
        let h₁ = and-1 (has_sort (tree_sort D i) (bits iw)) _ h in
        let ev : tree_sort D v ≡ some (bits vw) = has-eq (tree_sort D v) (bits vw) (and_0 (has_sort (tree_sort D v) (bits vw)) _ h₁) in
        let k₁ = has_right s (constants_stored qs) (own_bits i ++ own_bits v) k in
        let (ai, bi, ci) = number_of i p.index (bits iw) ei (has_left s (own_bits i) (own_bits v) k₁) oi in
        let (av, bv, cv) = number_of v p.value (bits vw) ev (has_right s (own_bits i) (own_bits v) k₁) ov in
        let (r, q) = pairs_of iw vw qs ps (and-1 (has_sort (tree_sort D v) (bits vw)) _ h₁) (has_left s (constants_stored qs) (own_bits i ++ own_bits v) k) o in
        ((ai, as_wide i iw (node_of s p.index) ei bi, av, as_wide v vw (node_of s p.value) ev bv, r), (ci, cv, q))

    pub amounts-of : (cs : List (List ℕ)) → HasAll s cs → ConstantsAt s (length s) (pendings (node_of s) cs) cs
    amounts-of [] h = tt
    amounts-of (bs ∷ cs) (h, k) =
        let e = node-of-constant s bs h in
        (at_less s (node_of s (pending bs)) (a_constant bs) e, e, amounts-of cs k)
