-- Placing trees that have sorts, one after the other, keeps the nodes fine, and gives each tree its node.
use Prim.Native.Nat.{ℕ, zero, suc, ◌+◌, ◌≤◌, ◌<◌}
use Rattle.std.specs.Prelude.{◌≡◌, Bool, ◌&&◌, length}
use Rattle.std.proofs.Math.Path.{refl, ap, sym, subst}
use Rattle.std.proofs.Common.{◌∙◌, arith, length-append}
use mathlib.Core.List.{List, [], ◌∷◌, ◌++◌, map}
use Rattle.std.proofs.Math.Option.{Option, none, some}
use Rattle.std.proofs.Math.Dec.{T}
use Rattle.std.proofs.Math.ListN.{get_elem?}
use Rattle.lists.specs.Tests.{All, and_0, and-1, and_T, all_append}
use Rattle.lists.specs.Places.{at-seam, Grows, grows-snoc, grows-get_or, grows-length}
use Rattle.reading.specs.Trees.{Name, Tree, variable, constant, apply, select, call, Trees, none as noTrees, more, Stores, base, store, Variable, Array, Function, Declarations}
use Rattle.echo_spec.specs.Shapes.{Shape, shape_of}
use Rattle.echo_spec.specs.TreeSorts.{TreeSort, bool, bits, proper, width_of, has_sort, rule_for, operator_sort, sort_under, none_bound, tree_sort, tree_sorts, stores_have}
use Rattle.echo_spec.specs.TreeSortLaws.{has-eq, operator-met, sorted-proper}
use Rattle.readback.specs.Printable.{width_ok, array_ok}
use Rattle.readback.specs.Rebuild.{
  Pair,
  Item,
  an_operator,
  a_select,
  a_call,
  with_constants,
  Ref,
  here,
  pending,
  node_of,
  Put,
  PutAll,
  PutStores,
  ended,
  amounts,
  own_bits,
  constants_among,
  constants_stored,
  number_or0,
  pair_of,
  pendings,
  put,
  put_all,
  put_stores,
  variable_number,
  array_number,
  function_number,
}
use Rattle.rebuilt.specs.Built.{variable_at, array_at, function_at, sort_at, Built, Fine, built-snoc, last-sort, sorts-grow, constants-grow, pairs-grow}
use Rattle.rebuilt.specs.Constants.{HasAll, has_left, has_right, with-constants-has, constant_ok, Extended, extended_refl, extended_trans, with-constants-built, own-ok, among-ok, amounts-ok}
use Rattle.rebuilt.specs.Known.{operands-are, variable-known, select-known, call_known}
use Rattle.rebuilt.specs.Placing.{
  Placed,
  PlacedAll,
  PlacedStores,
  placed-grow,
  placed-all-grow,
  placed-stores-grow,
  RefOk,
  RefsOk,
  PairsOk,
  ref-grow,
  refs-grow,
  pairs-ok-grow,
  number_of,
  numbers_of,
  as_wide,
  pairs_of,
  amounts-of,
}

-- equal lists of sorts that are there
pub some-injective : (us vs : List TreeSort) → ◌≡◌ {A = List (Option TreeSort)} (map some us) (map some vs) → us ≡ vs
some-injective [] [] e = refl
some-injective [] (v ∷ vs) e = absurd (let z : ◌≡◌ {A = ℕ} 0 1 = cc in omega arith)
some-injective (u ∷ us) [] e = absurd (let z : ◌≡◌ {A = ℕ} 0 1 = cc in omega arith)
some-injective (u ∷ us) (v ∷ vs) e =
    let f : ◌≡◌ {A = Option TreeSort} (some u) (some v) = cc in
    let p : u ≡ v = cc in
    let g : ◌≡◌ {A = List (Option TreeSort)} (map some us) (map some vs) = cc in
    let q = some-injective us vs g in
    λ i. p i ∷ q i

module _ (D : Declarations) where
  pub record PutOk (s : List Item) (ss : List TreeSort) (t : Tree) (p : Put) : Type 0 where
    pub ext : Extended D s ss p.items
    pub ref : RefOk D p.items ext.sorts t p.ref

  pub record PutAllOk (s : List Item) (ss : List TreeSort) (ts : Trees) (o : PutAll) : Type 0 where
    pub ext : Extended D s ss o.items
    pub refs : RefsOk D o.items ext.sorts ts o.refs

  pub record PutStoresOk (s : List Item) (ss : List TreeSort) (qs : Stores) (o : PutStores) : Type 0 where
    pub ext : Extended D s ss o.items
    pub pairs : PairsOk D o.items ext.sorts qs o.pairs

  -- a node after those that are there
  pub record Last (s : List Item) (ss : List TreeSort) (x : Item) (σ : TreeSort) : Type 0 where
    pub ext : Extended D s ss (s ++ (x ∷ []))
    pub sort : sort_at ext.sorts (length s) ≡ σ
    pub item : get_elem? (s ++ (x ∷ [])) (length s) ≡ some x
    pub less : length s < length (s ++ (x ∷ []))
    pub grows : Grows s (s ++ (x ∷ []))

  pub last : (s : List Item) (ss : List TreeSort) (x : Item) (σ : TreeSort) → Built D s ss → T (proper σ) → Fine D (s ++ (x ∷ [])) (ss ++ (σ ∷ [])) (length s) x → Last s ss x σ
  last s ss x σ b h f = record {
    ext = record { sorts = ss ++ (σ ∷ []); items_grow = grows-snoc s x; sorts-grow = grows-snoc ss σ; built = built-snoc D s ss x σ b h f };
    sort = last-sort s ss σ b.sized;
    item = at-seam s x [];
    less = rw (length-append s (x ∷ [])) (omega arith);
    grows = grows-snoc s x;
  }

  -- a tree of the last node's sort
  at_last : (t : Tree) (σ : TreeSort) (s : List Item) (ss : List TreeSort) (x : Item) → tree_sort D t ≡ some σ → (l : Last s ss x σ) → tree_sort D t ≡ some (sort_at l.ext.sorts (length s))
  at_last t σ s ss x h l = h ∙ ap some (sym l.sort)

  -- ---------------------------------------------------------------- operators

  module _ (k : ℕ) (ks : List ℕ) (ts : Trees) (σ : TreeSort) (h : operator_sort (shape_of k) ks (tree_sorts D ts) ≡ some σ)
      (s : List Item) (ss : List TreeSort) (b : Built D s ss) (rs : List Ref) (ok : RefsOk D s ss ts rs) where
    operator-last : HasAll s (amounts (shape_of k) (width_of (some σ)) ks ++ constants_among ts)
        → Last s ss (an_operator k ks (map (node_of s) rs) (pendings (node_of s) (amounts (shape_of k) (width_of (some σ)) ks))) σ × PlacedAll D s ts (map (node_of s) rs)
    operator-last has =
        let ms : List (List ℕ) = amounts (shape_of k) (width_of (some σ)) ks in
        let xs : List ℕ = map (node_of s) rs in
        let x : Item = an_operator k ks xs (pendings (node_of s) ms) in
        let us : List TreeSort = (rule_for (shape_of k) ks (tree_sorts D ts)).operands in
        let (q, lo, pl) = numbers_of D s ss b ts rs us (operands-are (shape_of k) ks (tree_sorts D ts) σ h) (has_right s ms (constants_among ts) has) ok in
        let am = amounts-of D s ss b ms (has_left s ms (constants_among ts) has) in
        let e : sort_at (ss ++ (σ ∷ [])) (length s) ≡ σ = last-sort s ss σ b.sized in
        let z : length s ≡ length ss = b.sized in
        let g = sorts-grow ss (ss ++ (σ ∷ [])) (grows-snoc ss σ) (length s) (omega arith) xs lo in
        let f : Fine D (s ++ (x ∷ [])) (ss ++ (σ ∷ [])) (length s) x = (
          lo,
          ap (operator_sort (shape_of k) ks) (ap (map some) g ∙ sym q) ∙ h ∙ ap some (sym e),
          rw e (constants-grow s (s ++ (x ∷ [])) (grows-snoc s x) (length s) (pendings (node_of s) ms) ms am),
        ) in
        (last s ss x σ b (operator-met (shape_of k) ks (tree_sorts D ts) σ h).proper f, pl)

  -- a term has the nodes that its constants and it itself give, whatever its sort is called
  amounts-are : (k : ℕ) (ks : List ℕ) (ts : Trees) (σ : TreeSort) → tree_sort D (apply k ks ts) ≡ some σ
      → amounts (shape_of k) (width_of (tree_sort D (apply k ks ts))) ks ≡ amounts (shape_of k) (width_of (some σ)) ks
  amounts-are k ks ts σ h = ap (λ (o : Option TreeSort). amounts (shape_of k) (width_of o) ks) h

  operator-sort-is : (k : ℕ) (ks : List ℕ) (ts : Trees) → tree_sort D (apply k ks ts) ≡ operator_sort (shape_of k) ks (tree_sorts D ts)
  unfolding sort_under
  operator-sort-is k ks ts = refl

  -- the operator's node over nodes of its operands, with these amounts
  abbrev Applied : ℕ → List ℕ → Trees → List Item → List (List ℕ) → Put
  Applied k ks ts s ms = ended (ms ++ constants_among ts) (λ node. an_operator k ks (map node (put_all D ts s).refs) (pendings node ms)) (put_all D ts s).items

  apply-with : (k : ℕ) (ks : List ℕ) (ts : Trees) (σ : TreeSort) (s : List Item) (ss : List TreeSort) → tree_sort D (apply k ks ts) ≡ some σ → PutAllOk s ss ts (put_all D ts s)
      → PutOk s ss (apply k ks ts) (Applied k ks ts s (amounts (shape_of k) (width_of (some σ)) ks))
  unfolding ended
  apply-with k ks ts σ s ss h o =
      let hs : operator_sort (shape_of k) ks (tree_sorts D ts) ≡ some σ = sym (operator-sort-is k ks ts) ∙ h in
      let ms : List (List ℕ) = amounts (shape_of k) (width_of (some σ)) ks in
      let cs : List (List ℕ) = ms ++ constants_among ts in
      let s₁ : List Item = (put_all D ts s).items in
      let rs : List Ref = (put_all D ts s).refs in
      let us : List TreeSort = (rule_for (shape_of k) ks (tree_sorts D ts)).operands in
      let oks = all_append constant_ok ms (constants_among ts) (amounts-ok (shape_of k) ks (tree_sorts D ts) σ (operator-met (shape_of k) ks (tree_sorts D ts) σ hs)) (among-ok D ts us (operands-are (shape_of k) ks (tree_sorts D ts) σ hs)) in
      let c = with-constants-built D cs s₁ o.ext.sorts oks o.ext.built in
      let s₂ : List Item = with_constants cs s₁ in
      let ok = refs-grow D s₁ s₂ o.ext.sorts c.sorts c.items_grow c.sorts-grow o.ext.built.sized ts rs o.refs in
      let (l, pl) = operator-last k ks ts σ hs s₂ c.sorts c.built rs ok (with-constants-has cs s₁) in
      let x : Item = an_operator k ks (map (node_of s₂) rs) (pendings (node_of s₂) ms) in
      record {
        ext = extended_trans D s ss s₁ (s₂ ++ (x ∷ [])) o.ext (extended_trans D s₁ o.ext.sorts s₂ (s₂ ++ (x ∷ [])) c l.ext);
        ref = (
          l.less,
          at_last (apply k ks ts) σ s₂ c.sorts x h l,
          (map (node_of s₂) rs, pendings (node_of s₂) ms, l.item, placed-all-grow D s₂ (s₂ ++ (x ∷ [])) l.grows ts (map (node_of s₂) rs) pl),
        );
      }

  apply-ok : (k : ℕ) (ks : List ℕ) (ts : Trees) (σ : TreeSort) (s : List Item) (ss : List TreeSort) → tree_sort D (apply k ks ts) ≡ some σ → PutAllOk s ss ts (put_all D ts s)
      → PutOk s ss (apply k ks ts) (put D (apply k ks ts) s)
  unfolding put
  apply-ok k ks ts σ s ss h o =
      subst (λ (ms : List (List ℕ)). PutOk s ss (apply k ks ts) (Applied k ks ts s ms)) (sym (amounts-are k ks ts σ h)) (apply-with k ks ts σ s ss h o)

  -- ---------------------------------------------------------------- calls and selects

  pub call-last : (g w : ℕ) (ts : Trees) → g < length D.functions → tree_sorts D ts ≡ map some (map bits (function_at D g).arguments) → (function_at D g).width ≡ w → T (width_ok w)
      → (s : List Item) (ss : List TreeSort) → Built D s ss → (rs : List Ref) → RefsOk D s ss ts rs → HasAll s (constants_among ts)
      → Last s ss (a_call g w (map (node_of s) rs)) (bits w) × PlacedAll D s ts (map (node_of s) rs)
  call-last g w ts l e f h s ss b rs ok has =
      let xs : List ℕ = map (node_of s) rs in
      let us : List TreeSort = map bits (function_at D g).arguments in
      let (q, lo, pl) = numbers_of D s ss b ts rs us e has ok in
      let σ : TreeSort = bits w in
      let z : length s ≡ length ss = b.sized in
      let q' : map (sort_at ss) xs ≡ us = some-injective (map (sort_at ss) xs) us (sym q ∙ e) in
      let m = sorts-grow ss (ss ++ (σ ∷ [])) (grows-snoc ss σ) (length s) (omega arith) xs lo ∙ q' in
      (last s ss (a_call g w xs) σ b h (l, lo, m, f, last-sort s ss σ z), pl)

  -- the call's node, with this width
  abbrev Called : Name → Trees → List Item → ℕ → Put
  Called n ts s w = ended (constants_among ts) (λ node. a_call (number_or0 (function_number D n)) w (map node (put_all D ts s).refs)) (put_all D ts s).items

  call-with : (n : Name) (ts : Trees) (w : ℕ) (s : List Item) (ss : List TreeSort) → tree_sort D (call n ts) ≡ some (bits w) → PutAllOk s ss ts (put_all D ts s)
      → PutOk s ss (call n ts) (Called n ts s w)
  unfolding ended
  call-with n ts w s ss h o =
      let g : ℕ = number_or0 (function_number D n) in
      let (e, l, q, σe) = call_known D n ts (bits w) h in
      let we : (function_at D g).width ≡ w = ap (λ (σ : TreeSort). width_of (some σ)) σe in
      let cs : List (List ℕ) = constants_among ts in
      let s₁ : List Item = (put_all D ts s).items in
      let rs : List Ref = (put_all D ts s).refs in
      let us : List TreeSort = map bits (function_at D g).arguments in
      let c = with-constants-built D cs s₁ o.ext.sorts (among-ok D ts us q) o.ext.built in
      let s₂ : List Item = with_constants cs s₁ in
      let ok = refs-grow D s₁ s₂ o.ext.sorts c.sorts c.items_grow c.sorts-grow o.ext.built.sized ts rs o.refs in
      let (t, pl) = call-last g w ts l q we (sorted-proper D none_bound (call n ts) (bits w) h) s₂ c.sorts c.built rs ok (with-constants-has cs s₁) in
      let x : Item = a_call g w (map (node_of s₂) rs) in
      record {
        ext = extended_trans D s ss s₁ (s₂ ++ (x ∷ [])) o.ext (extended_trans D s₁ o.ext.sorts s₂ (s₂ ++ (x ∷ [])) c t.ext);
        ref = (
          t.less,
          at_last (call n ts) (bits w) s₂ c.sorts x h t,
          (g, w, map (node_of s₂) rs, e, t.item, placed-all-grow D s₂ (s₂ ++ (x ∷ [])) t.grows ts (map (node_of s₂) rs) pl),
        );
      }

  call_ok : (n : Name) (ts : Trees) (σ : TreeSort) (s : List Item) (ss : List TreeSort) → tree_sort D (call n ts) ≡ some σ → PutAllOk s ss ts (put_all D ts s)
      → PutOk s ss (call n ts) (put D (call n ts) s)
  unfolding put
  call_ok n ts σ s ss h o =
      let g : ℕ = number_or0 (function_number D n) in
      let (e, l, q, σe) = call_known D n ts σ h in
      let w : ℕ = (function_at D g).width in
      let h' : tree_sort D (call n ts) ≡ some (bits w) = h ∙ ap some (sym σe) in
      subst (λ (v : ℕ). PutOk s ss (call n ts) (Called n ts s v)) (sym (ap width_of h')) (call-with n ts w s ss h' o)

  stored_ok : (iw vw : ℕ) (qs : Stores) → T (stores_have D none_bound iw vw qs) → All constant_ok (constants_stored qs)
  unfolding constants_stored sort_under
  stored_ok iw vw base h = tt
  stored_ok iw vw (store i v qs) h =
      let ei : tree_sort D i ≡ some (bits iw) = has-eq (tree_sort D i) (bits iw) (and_0 (has_sort (tree_sort D i) (bits iw)) _ h) in
      let h₁ = and-1 (has_sort (tree_sort D i) (bits iw)) _ h in
      let ev : tree_sort D v ≡ some (bits vw) = has-eq (tree_sort D v) (bits vw) (and_0 (has_sort (tree_sort D v) (bits vw)) _ h₁) in
      all_append constant_ok (constants_stored qs) (own_bits i ++ own_bits v) (stored_ok iw vw qs (and-1 (has_sort (tree_sort D v) (bits vw)) _ h₁))
      (all_append constant_ok (own_bits i) (own_bits v) (own-ok D i (bits iw) ei) (own-ok D v (bits vw) ev))

  select-last : (m : ℕ) (j : Tree) (qs : Stores) → m < length D.arrays → tree_sort D j ≡ some (bits (array_at D m).index) → T (stores_have D none_bound (array_at D m).index (array_at D m).value qs)
      → T (width_ok (array_at D m).value) → (s : List Item) (ss : List TreeSort) → Built D s ss → (r : Ref) (ps : List (Pair Ref)) → RefOk D s ss j r → PairsOk D s ss qs ps
      → HasAll s (constants_stored qs ++ own_bits j)
      → Last s ss (a_select m (node_of s r) (map (pair_of (node_of s)) ps)) (bits (array_at D m).value) × Placed D s j (node_of s r) × PlacedStores D s qs (map (pair_of (node_of s)) ps)
  select-last m j qs l e f h s ss b r ps okj okp has =
      let iw : ℕ = (array_at D m).index in
      let vw : ℕ = (array_at D m).value in
      let σ : TreeSort = bits vw in
      let (aj, bj, cj) = number_of D s ss b j r (bits iw) e (has_right s (constants_stored qs) (own_bits j) has) okj in
      let (pa, pl) = pairs_of D s ss b iw vw qs ps f (has_left s (constants_stored qs) (own_bits j) has) okp in
      let z : length s ≡ length ss = b.sized in
      let g = grows-snoc ss σ in (
        last s ss (a_select m (node_of s r) (map (pair_of (node_of s)) ps)) σ b h (
          l,
          aj,
          grows-get_or ss (ss ++ (σ ∷ [])) g (node_of s r) bool (omega arith) ∙ as_wide D s ss b j iw (node_of s r) e bj,
          pairs-grow ss (ss ++ (σ ∷ [])) g (length s) iw vw (omega arith) (map (pair_of (node_of s)) ps) pa,
          last-sort s ss σ z,
        ),
        cj,
        pl,
      )

  select-ok : (a : Name) (j : Tree) (qs : Stores) (σ : TreeSort) (s : List Item) (ss : List TreeSort) → tree_sort D (select a j qs) ≡ some σ
      → (o : PutStoresOk s ss qs (put_stores D qs s)) → PutOk (put_stores D qs s).items o.ext.sorts j (put D j (put_stores D qs s).items)
      → PutOk s ss (select a j qs) (put D (select a j qs) s)
  unfolding put ended
  select-ok a j qs σ s ss h o p =
      let m : ℕ = number_or0 (array_number D a) in
      let (e, l, q, f, σe) = select-known D a j qs σ h in
      let cs : List (List ℕ) = constants_stored qs ++ own_bits j in
      let s₀ : List Item = (put_stores D qs s).items in
      let ps : List (Pair Ref) = (put_stores D qs s).pairs in
      let s₁ : List Item = (put D j s₀).items in
      let r : Ref = (put D j s₀).ref in
      let okc : All constant_ok cs = all_append constant_ok (constants_stored qs) (own_bits j) (stored_ok (array_at D m).index (array_at D m).value qs f) (own-ok D j (bits (array_at D m).index) q) in
      let c = with-constants-built D cs s₁ p.ext.sorts okc p.ext.built in
      let s₂ : List Item = with_constants cs s₁ in
      let okj = ref-grow D s₁ s₂ p.ext.sorts c.sorts c.items_grow c.sorts-grow p.ext.built.sized j r p.ref in
      let okp₁ = pairs-ok-grow D s₀ s₁ o.ext.sorts p.ext.sorts p.ext.items_grow p.ext.sorts-grow o.ext.built.sized qs ps o.pairs in
      let okp = pairs-ok-grow D s₁ s₂ p.ext.sorts c.sorts c.items_grow c.sorts-grow p.ext.built.sized qs ps okp₁ in
      let wide : T (width_ok (array_at D m).value) = subst (λ (τ : TreeSort). T (proper τ)) (sym σe) (sorted-proper D none_bound (select a j qs) σ h) in
      let (t, pj, pp) = select-last m j qs l q f wide s₂ c.sorts c.built r ps okj okp (with-constants-has cs s₁) in
      let x : Item = a_select m (node_of s₂ r) (map (pair_of (node_of s₂)) ps) in
      record {
        ext = extended_trans D s ss s₀ (s₂ ++ (x ∷ [])) o.ext (extended_trans D s₀ o.ext.sorts s₁ (s₂ ++ (x ∷ [])) p.ext (extended_trans D s₁ p.ext.sorts s₂ (s₂ ++ (x ∷ [])) c t.ext));
        ref = (
          t.less,
          at_last (select a j qs) (bits (array_at D m).value) s₂ c.sorts x (h ∙ ap some (sym σe)) t,
          (
            m,
            node_of s₂ r,
            map (pair_of (node_of s₂)) ps,
            e,
            t.item,
            placed-grow D s₂ (s₂ ++ (x ∷ [])) t.grows j (node_of s₂ r) pj,
            placed-stores-grow D s₂ (s₂ ++ (x ∷ [])) t.grows qs (map (pair_of (node_of s₂)) ps) pp,
          ),
        );
      }

  -- ---------------------------------------------------------------- every tree

  -- the declared variables are nodes
  abbrev pub Variables : List Item → List TreeSort → Type 0
  Variables s ss = (k : ℕ) → k < length D.variables → (k < length s) × (sort_at ss k ≡ bits (variable_at D k).width)

  pub variables-grow : (s : List Item) (ss : List TreeSort) (t : List Item) → Built D s ss → (e : Extended D s ss t) → Variables s ss → Variables t e.sorts
  variables-grow s ss t b e v k l =
      let (p, q) = v k l in
      let m = grows-length s t e.items_grow in
      let z : length s ≡ length ss = b.sized in
      (omega arith, grows-get_or ss e.sorts e.sorts-grow k bool (omega arith) ∙ q)

  mutual
    unfolding put sort_under

    pub put-ok : (t : Tree) (σ : TreeSort) (s : List Item) (ss : List TreeSort) → tree_sort D t ≡ some σ → Built D s ss → Variables s ss → PutOk s ss t (put D t s)
    put-ok (variable n) σ s ss h b v =
        let (e, l, q) = variable-known D n σ h in
        let (p, r) = v (number_or0 (variable_number D n)) l in
        record { ext = extended_refl D s ss b; ref = (p, h ∙ ap some (sym q ∙ sym r), e) }
    put-ok (constant bs) σ s ss h b v = record { ext = extended_refl D s ss b; ref = refl }
    put-ok (apply k ks ts) σ s ss h b v =
        apply-ok k ks ts σ s ss h (put-all-ok ts (rule_for (shape_of k) ks (tree_sorts D ts)).operands s ss (operands-are (shape_of k) ks (tree_sorts D ts) σ h) b v)
    put-ok (select a j qs) σ s ss h b v =
        let m : ℕ = number_or0 (array_number D a) in
        let (e, l, q, f, σe) = select-known D a j qs σ h in
        let o = put-stores-ok (array_at D m).index (array_at D m).value qs s ss f b v in
        let p = put-ok j (bits (array_at D m).index) (put_stores D qs s).items o.ext.sorts q o.ext.built (variables-grow s ss (put_stores D qs s).items b o.ext v) in
        select-ok a j qs σ s ss h o p
    put-ok (call n ts) σ s ss h b v =
        let (e, l, q, σe) = call_known D n ts σ h in
        call_ok n ts σ s ss h (put-all-ok ts (map bits (function_at D (number_or0 (function_number D n))).arguments) s ss q b v)

    pub put-all-ok : (ts : Trees) (us : List TreeSort) (s : List Item) (ss : List TreeSort) → tree_sorts D ts ≡ map some us → Built D s ss → Variables s ss → PutAllOk s ss ts (put_all D ts s)
    put-all-ok noTrees us s ss h b v = record { ext = extended_refl D s ss b; refs = tt }
    put-all-ok (more t ts) [] s ss h b v = absurd (let z : ◌≡◌ {A = ℕ} 0 1 = cc in omega arith)
    put-all-ok (more t ts) (σ ∷ us) s ss h b v =
        let e : tree_sort D t ≡ some σ = cc in
        let f : tree_sorts D ts ≡ map some us = cc in
        let p = put-ok t σ s ss e b v in
        let s₁ : List Item = (put D t s).items in
        let o = put-all-ok ts us s₁ p.ext.sorts f p.ext.built (variables-grow s ss s₁ b p.ext v) in
        let s₂ : List Item = (put_all D ts s₁).items in
        record {
          ext = extended_trans D s ss s₁ s₂ p.ext o.ext;
          refs = (ref-grow D s₁ s₂ p.ext.sorts o.ext.sorts o.ext.items_grow o.ext.sorts-grow p.ext.built.sized t (put D t s).ref p.ref, o.refs);
        }

    pub put-stores-ok : (iw vw : ℕ) (qs : Stores) (s : List Item) (ss : List TreeSort) → T (stores_have D none_bound iw vw qs) → Built D s ss → Variables s ss
        → PutStoresOk s ss qs (put_stores D qs s)
    put-stores-ok iw vw base s ss h b v = record { ext = extended_refl D s ss b; pairs = tt }
    put-stores-ok iw vw (store i w qs) s ss h b v =
        let h' : T (has_sort (tree_sort D i) (bits iw) && (has_sort (tree_sort D w) (bits vw) && stores_have D none_bound iw vw qs)) = h in
        let ei : tree_sort D i ≡ some (bits iw) = has-eq (tree_sort D i) (bits iw) (and_0 (has_sort (tree_sort D i) (bits iw)) _ h') in
        let h₁ = and-1 (has_sort (tree_sort D i) (bits iw)) _ h' in
        let ew : tree_sort D w ≡ some (bits vw) = has-eq (tree_sort D w) (bits vw) (and_0 (has_sort (tree_sort D w) (bits vw)) _ h₁) in
        let o = put-stores-ok iw vw qs s ss (and-1 (has_sort (tree_sort D w) (bits vw)) _ h₁) b v in
        let s₀ : List Item = (put_stores D qs s).items in
        let v₀ = variables-grow s ss s₀ b o.ext v in
        let p = put-ok i (bits iw) s₀ o.ext.sorts ei o.ext.built v₀ in
        let s₁ : List Item = (put D i s₀).items in
        let v₁ = variables-grow s₀ o.ext.sorts s₁ o.ext.built p.ext v₀ in
        let q = put-ok w (bits vw) s₁ p.ext.sorts ew p.ext.built v₁ in
        let s₂ : List Item = (put D w s₁).items in
        let both = extended_trans D s₀ o.ext.sorts s₁ s₂ p.ext q.ext in
        record {
          ext = extended_trans D s ss s₀ s₂ o.ext both;
          pairs = (
            ref-grow D s₁ s₂ p.ext.sorts q.ext.sorts q.ext.items_grow q.ext.sorts-grow p.ext.built.sized i (put D i s₀).ref p.ref,
            q.ref,
            pairs-ok-grow D s₀ s₂ o.ext.sorts q.ext.sorts both.items_grow both.sorts-grow o.ext.built.sized qs (put_stores D qs s).pairs o.pairs,
          );
        }
