-- Sharing: a term of a rebuilt problem is used once at most.
use Rattle.std.specs.Prelude.{ℕ, zero, suc, ◌+◌, ◌≤◌, ◌<◌, ◌≡◌, Bool, ◌&&◌, ◌⊎◌, ◌≢◌}
use Rattle.std.proofs.Math.Path.{refl, ap, sym, subst}
use Rattle.std.proofs.Common.{◌∙◌, eqb→eq, ltb→lt, nltb→le}
use mathlib.Core.List.{List, [], ◌∷◌, ◌++◌, map, append-nil}
use Rattle.std.proofs.Math.Bool.{true, false}
use Rattle.std.proofs.Math.Option.{Option, none, some}
use Rattle.std.proofs.Math.Logic.{inl, inr}
use native.Mathlib.Omega.{arith}
use Rattle.std.proofs.Math.Dec.{T, ltb, eqb, eqb_refl}
use Rattle.std.proofs.Math.ListN.{length, get_elem?, length-append}
use Rattle.lists.specs.Tests.{and_0, and-1, true→T}
use Rattle.lists.specs.Places.{at-seam, Grows, grows-refl, grows-snoc, grows-trans, grows_at}
use Rattle.reading.specs.Trees.{Name, Tree, variable, constant, apply, select, call, Trees, none as noTrees, more, Stores, base, store, Variable, Function, Declarations}
use Rattle.echo_spec.specs.Shapes.{shape_of}
use Rattle.echo_spec.specs.Sharing.{count}
use Rattle.echo_spec.specs.TreeSorts.{TreeSort, bits, width_of, has_sort, rule_for, sort_under, none_bound, tree_sort, tree_sorts, stores_have}
use Rattle.echo_spec.specs.TreeSortLaws.{has-eq}
use Rattle.readback.specs.Rebuild.{
  Pair,
  Item,
  a_constant,
  an_operator,
  a_select,
  a_call,
  find_constant,
  with_constant,
  with_constants,
  Ref,
  here,
  pending,
  node_of,
  ended,
  amounts,
  own_bits,
  constants_among,
  constants_stored,
  number_or0,
  pair_of,
  pendings,
  put,
  put_all,
  put_stores,
  zeros,
  calls_any,
  call_on_zeros,
  with_uncalled,
  variable_items,
  joined,
  flat,
  variable_number,
  array_number,
  function_number,
}
use Rattle.rebuilt.specs.Built.{array_at, function_at, Built}
use Rattle.rebuilt.specs.Constants.{Has, HasAll, has_left, has_right, node-of-constant, with-constants-grows, with-constants-has, Extended}
use Rattle.rebuilt.specs.Known.{operands-are, variable-known, select-known, call_known}
use Rattle.rebuilt.specs.Placing.{RefOk, RefsOk, PairsOk}
use Rattle.rebuilt.specs.Puts.{PutOk, PutAllOk, PutStoresOk, Variables, variables-grow, put-ok, put-all-ok, put-stores-ok}
use Rattle.rebuilt.specs.Accept.{uses_of}

-- ---------------------------------------------------------------- counting

module _ (j : ℕ) where
  pub count-cons : (x : ℕ) (xs : List ℕ) → count j (x ∷ xs) ≡ count j (x ∷ []) + count j xs
  unfolding count
  count-cons x xs = by_first (eqb x j) refl
    where
      by_first : (b : Bool) → eqb x j ≡ b → count j (x ∷ xs) ≡ count j (x ∷ []) + count j xs
      by_first true e = rw (e, count) (omega arith)
      by_first false e = rw (e, count) (omega arith)

  pub count-append : (xs ys : List ℕ) → count j (xs ++ ys) ≡ count j xs + count j ys
  unfolding count
  count-append [] ys = omega arith
  count-append (x ∷ xs) ys =
      let a = count-cons x (xs ++ ys) in
      let b = count-cons x xs in
      let c = count-append xs ys in
      omega arith

  pub count-one : (x : ℕ) → ((x ≡ j) × (count j (x ∷ []) ≡ 1)) ⊎ ((x ≢ j) × (count j (x ∷ []) ≡ 0))
  unfolding count
  count-one x = by_first (eqb x j) refl
    where
      by_first : (b : Bool) → eqb x j ≡ b → ((x ≡ j) × (count j (x ∷ []) ≡ 1)) ⊎ ((x ≢ j) × (count j (x ∷ []) ≡ 0))
      by_first true e = inl (eqb→eq x j (true→T e), rw (e, count))
      by_first false e = inr ((λ q. subst T e (subst (λ (y : ℕ). T (eqb x y)) q (eqb_refl x))), rw (e, count))

  pub count-other : (x : ℕ) → x ≢ j → count j (x ∷ []) ≡ 0
  count-other x h = by-case (count-one x)
    where
      by-case : ((x ≡ j) × (count j (x ∷ []) ≡ 1)) ⊎ ((x ≢ j) × (count j (x ∷ []) ≡ 0)) → count j (x ∷ []) ≡ 0
      by-case (inl (e, q)) = absurd (h e)
      by-case (inr (e, q)) = q

  -- 1 if j is below n, and else 0
  unfoldable pub under : ℕ → ℕ
  under n = elim (ltb j n) [ true ↦ 1 | false ↦ 0 ]

  pub under-cases : (n : ℕ) → ((j < n) × (under n ≡ 1)) ⊎ ((n ≤ j) × (under n ≡ 0))
  unfolding under
  under-cases n = by-test (ltb j n) refl
    where
      by-test : (b : Bool) → ltb j n ≡ b → ((j < n) × (under n ≡ 1)) ⊎ ((n ≤ j) × (under n ≡ 0))
      by-test true e = inl (ltb→lt j n (true→T e), rw (e, under))
      by-test false e = inr (nltb→le j n (rw e tt), rw (e, under))

  -- ---------------------------------------------------------------- uses of items

  abbrev pub uses : List Item → ℕ
  uses s = count j (joined uses_of s)

  pub uses-append : (s t : List Item) → uses (s ++ t) ≡ uses s + uses t
  unfolding joined count
  uses-append [] t = omega arith
  uses-append (x ∷ s) t =
      let a = count-append (uses_of x) (joined uses_of (s ++ t)) in
      let b = count-append (uses_of x) (joined uses_of s) in
      let c = uses-append s t in
      omega arith

  pub uses-snoc : (s : List Item) (x : Item) → uses (s ++ (x ∷ [])) ≡ uses s + count j (uses_of x)
  unfolding joined
  uses-snoc s x = uses-append s (x ∷ []) ∙ ap (λ (l : List ℕ). uses s + count j l) (append-nil (uses_of x))

  with-constant-uses : (bs : List ℕ) (s : List Item) → uses (with_constant bs s) ≡ uses s
  unfolding with_constant uses_of count
  with-constant-uses bs s = by-found (find_constant bs s) refl
    where
      by-found : (o : Option ℕ) → find_constant bs s ≡ o → uses (with_constant bs s) ≡ uses s
      by-found none e =
          let a : uses (s ++ (a_constant bs ∷ [])) ≡ uses s + 0 = uses-snoc s (a_constant bs) in
          rw (e, with_constant) (omega arith)
      by-found (some i) e = rw (e, with_constant)

  pub with-constants-uses : (cs : List (List ℕ)) (s : List Item) → uses (with_constants cs s) ≡ uses s
  unfolding with_constants
  with-constants-uses [] s = refl
  with-constants-uses (bs ∷ cs) s = with-constants-uses cs (with_constant bs s) ∙ with-constant-uses bs s

  -- ---------------------------------------------------------------- j is no constant

  abbrev pub NoConstant : List Item → Type 0
  NoConstant s = (bs : List ℕ) → get_elem? s j ≡ some (a_constant bs) → ⊥

  pub no-constant-before : (s t : List Item) → Grows s t → NoConstant t → NoConstant s
  no-constant-before s t g h bs e = h bs (grows_at s t g j (a_constant bs) e)

  -- what is added for constants is constants
  with-constant-only : (bs : List ℕ) (s : List Item) → NoConstant (with_constant bs s) → under (length (with_constant bs s)) ≡ under (length s)
  unfolding with_constant
  with-constant-only bs s h = by-found (find_constant bs s) refl h
    where
      by-found : (o : Option ℕ) → find_constant bs s ≡ o → NoConstant (with_constant bs s) → under (length (with_constant bs s)) ≡ under (length s)
      by-found (some i) e h = rw (e, with_constant)
      by-found none e h =
          let h' : NoConstant (s ++ (a_constant bs ∷ [])) = rw (e, with_constant) at h in
          let l : length (s ++ (a_constant bs ∷ [])) ≡ length s + 1 = length-append s (a_constant bs ∷ []) in
          let far : length s ≢ j = λ q. h' bs (subst (λ (k : ℕ). get_elem? (s ++ (a_constant bs ∷ [])) k ≡ some (a_constant bs)) q (at-seam s (a_constant bs) [])) in
          rw (e, with_constant) (by_cases l far (under-cases (length (s ++ (a_constant bs ∷ [])))) (under-cases (length s)))
        where
          by_cases : length (s ++ (a_constant bs ∷ [])) ≡ length s + 1 → length s ≢ j
              → ((j < length (s ++ (a_constant bs ∷ []))) × (under (length (s ++ (a_constant bs ∷ []))) ≡ 1)) ⊎ ((length (s ++ (a_constant bs ∷ [])) ≤ j) × (under (length (s ++ (a_constant bs ∷ []))) ≡ 0))
              → ((j < length s) × (under (length s) ≡ 1)) ⊎ ((length s ≤ j) × (under (length s) ≡ 0))
              → under (length (s ++ (a_constant bs ∷ []))) ≡ under (length s)
          by_cases l f (inl (a, b)) (inl (c, d)) = b ∙ sym d
          by_cases l f (inl (a, b)) (inr (c, d)) = absurd (omega arith)
          by_cases l f (inr (a, b)) (inl (c, d)) = absurd (omega arith)
          by_cases l f (inr (a, b)) (inr (c, d)) = b ∙ sym d

  pub with-constants-only : (cs : List (List ℕ)) (s : List Item) → NoConstant (with_constants cs s) → under (length (with_constants cs s)) ≡ under (length s)
  unfolding with_constants
  with-constants-only [] s h = refl
  with-constants-only (bs ∷ cs) s h =
      with-constants-only cs (with_constant bs s) h
      ∙ with-constant-only bs s (no-constant-before (with_constant bs s) (with_constants cs (with_constant bs s)) (with-constants-grows cs (with_constant bs s)) h)

  -- one node more
  pub under_next : (s : List Item) (x : Item) → under (length (s ++ (x ∷ []))) ≡ under (length s) + count j (length s ∷ [])
  under_next s x =
      by_cases (length-append s (x ∷ [])) (under-cases (length (s ++ (x ∷ [])))) (under-cases (length s)) (count-one (length s))
    where
      by_cases : length (s ++ (x ∷ [])) ≡ length s + 1
          → ((j < length (s ++ (x ∷ []))) × (under (length (s ++ (x ∷ []))) ≡ 1)) ⊎ ((length (s ++ (x ∷ [])) ≤ j) × (under (length (s ++ (x ∷ []))) ≡ 0))
          → ((j < length s) × (under (length s) ≡ 1)) ⊎ ((length s ≤ j) × (under (length s) ≡ 0))
          → ((length s ≡ j) × (count j (length s ∷ []) ≡ 1)) ⊎ ((length s ≢ j) × (count j (length s ∷ []) ≡ 0))
          → under (length (s ++ (x ∷ []))) ≡ under (length s) + count j (length s ∷ [])
      by_cases l (inl (a, b)) (inl (c, e)) (inl (f, g)) = absurd (omega arith)
      by_cases l (inl (a, b)) (inl (c, e)) (inr (f, g)) = omega arith
      by_cases l (inl (a, b)) (inr (c, e)) (inl (f, g)) = omega arith
      by_cases l (inl (a, b)) (inr (c, e)) (inr (f, g)) = absurd (omega arith)
      by_cases l (inr (a, b)) (inl (c, e)) (inl (f, g)) = absurd (omega arith)
      by_cases l (inr (a, b)) (inl (c, e)) (inr (f, g)) = absurd (omega arith)
      by_cases l (inr (a, b)) (inr (c, e)) (inl (f, g)) = absurd (omega arith)
      by_cases l (inr (a, b)) (inr (c, e)) (inr (f, g)) = omega arith

  -- ---------------------------------------------------------------- uses by operands

  unfoldable pub ref_use : Ref → ℕ
  ref_use (here i) = count j (i ∷ [])
  ref_use (pending bs) = 0

  unfoldable pub ref_uses : List Ref → ℕ
  ref_uses [] = 0
  ref_uses (r ∷ rs) = ref_use r + ref_uses rs

  unfoldable pub pair_uses : List (Pair Ref) → ℕ
  pair_uses [] = 0
  pair_uses (p ∷ ps) = ref_use p.index + ref_use p.value + pair_uses ps

  -- a constant's node is not j
  constant-use : (s : List Item) (bs : List ℕ) → NoConstant s → Has s bs → count j (node_of s (pending bs) ∷ []) ≡ 0
  constant-use s bs h k =
      count-other (node_of s (pending bs)) (λ q. h bs (subst (λ (i : ℕ). get_elem? s i ≡ some (a_constant bs)) q (node-of-constant s bs k)))

  pub constants-use : (s : List Item) (cs : List (List ℕ)) → NoConstant s → HasAll s cs → count j (pendings (node_of s) cs) ≡ 0
  unfolding count
  constants-use s [] h k = refl
  constants-use s (bs ∷ cs) h (k, l) =
      let a = constant-use s bs h k in
      let b = constants-use s cs h l in
      let c = count-cons (node_of s (pending bs)) (pendings (node_of s) cs) in
      omega arith

  module _ (D : Declarations) where
    ref-use : (s : List Item) (u : List Item) (ss : List TreeSort) (t : Tree) (r : Ref) → NoConstant s → HasAll s (own_bits t) → RefOk D u ss t r → count j (node_of s r ∷ []) ≡ ref_use r
    unfolding ref_use node_of own_bits
    ref-use s u ss t (here i) h k o = refl
    ref-use s u ss t (pending bs) h k o =
        let k' : HasAll s (own_bits (constant bs)) = subst (λ (x : Tree). HasAll s (own_bits x)) o k in
        constant-use s bs h k'.0

    refs-use : (s : List Item) (u : List Item) (ss : List TreeSort) (ts : Trees) (rs : List Ref) → NoConstant s → HasAll s (constants_among ts) → RefsOk D u ss ts rs
        → count j (map (node_of s) rs) ≡ ref_uses rs
    unfolding ref_uses constants_among count
    refs-use s u ss noTrees [] h k o = refl
    refs-use s u ss noTrees (r ∷ rs) h k o = absurd o
    refs-use s u ss (more t ts) [] h k o = absurd o
    refs-use s u ss (more t ts) (r ∷ rs) h k (o, q) =
        let a = ref-use s u ss t r h (has_left s (own_bits t) (constants_among ts) k) o in
        let b = refs-use s u ss ts rs h (has_right s (own_bits t) (constants_among ts) k) q in
        let c = count-cons (node_of s r) (map (node_of s) rs) in
        omega arith

    pairs-use : (s : List Item) (u : List Item) (ss : List TreeSort) (qs : Stores) (ps : List (Pair Ref)) → NoConstant s → HasAll s (constants_stored qs) → PairsOk D u ss qs ps
        → count j (flat (map (pair_of (node_of s)) ps)) ≡ pair_uses ps
    unfolding pair_uses constants_stored flat count
    pairs-use s u ss base [] h k o = refl
    pairs-use s u ss base (p ∷ ps) h k o = absurd o
    pairs-use s u ss (store i v qs) [] h k o = absurd o
    pairs-use s u ss (store i v qs) (p ∷ ps) h k (oi, ov, o) =
        let k₁ = has_right s (constants_stored qs) (own_bits i ++ own_bits v) k in
        let a = ref-use s u ss i p.index h (has_left s (own_bits i) (own_bits v) k₁) oi in
        let b = ref-use s u ss v p.value h (has_right s (own_bits i) (own_bits v) k₁) ov in
        let c = pairs-use s u ss qs ps h (has_left s (constants_stored qs) (own_bits i ++ own_bits v) k) o in
        let d = count-cons (node_of s p.index) (node_of s p.value ∷ flat (map (pair_of (node_of s)) ps)) in
        let e = count-cons (node_of s p.value) (flat (map (pair_of (node_of s)) ps)) in
        omega arith

    -- Placing a tree: each new node but the tree's own is used once more, and no other.
    abbrev pub Balanced : List Item → List Item → ℕ → Type 0
    Balanced s t refs = uses t + refs + under (length s) ≡ uses s + under (length t)

    -- a term that ends over operands with so many uses of j
    ended-balanced : (s s₁ : List Item) (cs : List (List ℕ)) (x : Item) (refs : ℕ) → NoConstant (with_constants cs s₁)
        → Balanced s s₁ refs → count j (uses_of x) ≡ refs → Balanced s (with_constants cs s₁ ++ (x ∷ [])) (ref_use (here (length (with_constants cs s₁))))
    unfolding ref_use
    ended-balanced s s₁ cs x refs h b e =
        let s₂ : List Item = with_constants cs s₁ in
        let p = uses-snoc s₂ x in
        let q = with-constants-uses cs s₁ in
        let r = under_next s₂ x in
        let t = with-constants-only cs s₁ h in
        omega arith

    -- the nodes of a term come after those of its operands
    apply-grows : (k : ℕ) (ks : List ℕ) (ts : Trees) (s : List Item) → Grows (put_all D ts s).items (put D (apply k ks ts) s).items
    unfolding put ended
    apply-grows k ks ts s =
        let cs : List (List ℕ) = amounts (shape_of k) (width_of (tree_sort D (apply k ks ts))) ks ++ constants_among ts in
        let s₁ : List Item = (put_all D ts s).items in
        let s₂ : List Item = with_constants cs s₁ in
        grows-trans s₁ s₂ (put D (apply k ks ts) s).items (with-constants-grows cs s₁) (grows-snoc s₂ _)

    call-grows : (n : Name) (ts : Trees) (s : List Item) → Grows (put_all D ts s).items (put D (call n ts) s).items
    unfolding put ended
    call-grows n ts s =
        let cs : List (List ℕ) = constants_among ts in
        let s₁ : List Item = (put_all D ts s).items in
        let s₂ : List Item = with_constants cs s₁ in
        grows-trans s₁ s₂ (put D (call n ts) s).items (with-constants-grows cs s₁) (grows-snoc s₂ _)

    select-grows : (a : Name) (t : Tree) (qs : Stores) (s : List Item) → Grows (put D t (put_stores D qs s).items).items (put D (select a t qs) s).items
    unfolding put ended
    select-grows a t qs s =
        let cs : List (List ℕ) = constants_stored qs ++ own_bits t in
        let s₁ : List Item = (put D t (put_stores D qs s).items).items in
        let s₂ : List Item = with_constants cs s₁ in
        grows-trans s₁ s₂ (put D (select a t qs) s).items (with-constants-grows cs s₁) (grows-snoc s₂ _)

    apply-balanced : (k : ℕ) (ks : List ℕ) (ts : Trees) (s : List Item) (ss : List TreeSort) → NoConstant (put D (apply k ks ts) s).items → (o : PutAllOk D s ss ts (put_all D ts s))
        → Balanced s (put_all D ts s).items (ref_uses (put_all D ts s).refs) → Balanced s (put D (apply k ks ts) s).items (ref_use (put D (apply k ks ts) s).ref)
    unfolding put ended uses_of
    apply-balanced k ks ts s ss h o b =
        let ms : List (List ℕ) = amounts (shape_of k) (width_of (tree_sort D (apply k ks ts))) ks in
        let cs : List (List ℕ) = ms ++ constants_among ts in
        let s₁ : List Item = (put_all D ts s).items in
        let rs : List Ref = (put_all D ts s).refs in
        let s₂ : List Item = with_constants cs s₁ in
        let x : Item = an_operator k ks (map (node_of s₂) rs) (pendings (node_of s₂) ms) in
        let h₂ = no-constant-before s₂ (s₂ ++ (x ∷ [])) (grows-snoc s₂ x) h in
        let has = with-constants-has cs s₁ in
        let p = refs-use s₂ s₁ o.ext.sorts ts rs h₂ (has_right s₂ ms (constants_among ts) has) o.refs in
        let q = constants-use s₂ ms h₂ (has_left s₂ ms (constants_among ts) has) in
        let e = count-append (map (node_of s₂) rs) (pendings (node_of s₂) ms) in
        ended-balanced s s₁ cs x (ref_uses rs) h₂ b (omega arith)

    call-balanced : (n : Name) (ts : Trees) (s : List Item) (ss : List TreeSort) → NoConstant (put D (call n ts) s).items → (o : PutAllOk D s ss ts (put_all D ts s))
        → Balanced s (put_all D ts s).items (ref_uses (put_all D ts s).refs) → Balanced s (put D (call n ts) s).items (ref_use (put D (call n ts) s).ref)
    unfolding put ended uses_of
    call-balanced n ts s ss h o b =
        let cs : List (List ℕ) = constants_among ts in
        let s₁ : List Item = (put_all D ts s).items in
        let rs : List Ref = (put_all D ts s).refs in
        let s₂ : List Item = with_constants cs s₁ in
        let x : Item = a_call (number_or0 (function_number D n)) (width_of (tree_sort D (call n ts))) (map (node_of s₂) rs) in
        let h₂ = no-constant-before s₂ (s₂ ++ (x ∷ [])) (grows-snoc s₂ x) h in
        let p = refs-use s₂ s₁ o.ext.sorts ts rs h₂ (with-constants-has cs s₁) o.refs in
        ended-balanced s s₁ cs x (ref_uses rs) h₂ b p

    select-balanced : (a : Name) (t : Tree) (qs : Stores) (s : List Item) (ss : List TreeSort) → NoConstant (put D (select a t qs) s).items
        → (o : PutStoresOk D s ss qs (put_stores D qs s)) → PutOk D (put_stores D qs s).items o.ext.sorts t (put D t (put_stores D qs s).items)
        → Balanced s (put_stores D qs s).items (pair_uses (put_stores D qs s).pairs)
        → Balanced (put_stores D qs s).items (put D t (put_stores D qs s).items).items (ref_use (put D t (put_stores D qs s).items).ref)
        → Balanced s (put D (select a t qs) s).items (ref_use (put D (select a t qs) s).ref)
    unfolding put ended uses_of
    select-balanced a t qs s ss h o p b c =
        let cs : List (List ℕ) = constants_stored qs ++ own_bits t in
        let s₀ : List Item = (put_stores D qs s).items in
        let ps : List (Pair Ref) = (put_stores D qs s).pairs in
        let s₁ : List Item = (put D t s₀).items in
        let r : Ref = (put D t s₀).ref in
        let s₂ : List Item = with_constants cs s₁ in
        let x : Item = a_select (number_or0 (array_number D a)) (node_of s₂ r) (map (pair_of (node_of s₂)) ps) in
        let h₂ = no-constant-before s₂ (s₂ ++ (x ∷ [])) (grows-snoc s₂ x) h in
        let has = with-constants-has cs s₁ in
        let ur = ref-use s₂ s₁ p.ext.sorts t r h₂ (has_right s₂ (constants_stored qs) (own_bits t) has) p.ref in
        let up = pairs-use s₂ s₀ o.ext.sorts qs ps h₂ (has_left s₂ (constants_stored qs) (own_bits t) has) o.pairs in
        let e = count-cons (node_of s₂ r) (flat (map (pair_of (node_of s₂)) ps)) in
        let both : Balanced s s₁ (ref_use r + pair_uses ps) = omega arith in
        ended-balanced s s₁ cs x (ref_use r + pair_uses ps) h₂ both (omega arith)

    module _ (past : length D.variables ≤ j) where
      mutual
        unfolding put sort_under ref_use ref_uses pair_uses

        pub put-balanced : (t : Tree) (σ : TreeSort) (s : List Item) (ss : List TreeSort) → tree_sort D t ≡ some σ → Built D s ss → Variables D s ss → NoConstant (put D t s).items
            → Balanced s (put D t s).items (ref_use (put D t s).ref)
        put-balanced (variable n) σ s ss h b v c =
            let (e, l, q) = variable-known D n σ h in
            let z = count-other (number_or0 (variable_number D n)) (λ e. omega arith) in
            omega arith
        put-balanced (constant bs) σ s ss h b v c = omega arith
        put-balanced (apply k ks ts) σ s ss h b v c =
            let us : List TreeSort = (rule_for (shape_of k) ks (tree_sorts D ts)).operands in
            let e : tree_sorts D ts ≡ map some us = operands-are (shape_of k) ks (tree_sorts D ts) σ h in
            let o = put-all-ok D ts us s ss e b v in
            apply-balanced k ks ts s ss c o (put-all-balanced ts us s ss e b v (no-constant-before (put_all D ts s).items (put D (apply k ks ts) s).items (apply-grows k ks ts s) c))
        put-balanced (select a t qs) σ s ss h b v c =
            let m : ℕ = number_or0 (array_number D a) in
            let (e, l, q, f, σe) = select-known D a t qs σ h in
            let o = put-stores-ok D (array_at D m).index (array_at D m).value qs s ss f b v in
            let s₀ : List Item = (put_stores D qs s).items in
            let v₀ = variables-grow D s ss s₀ b o.ext v in
            let p = put-ok D t (bits (array_at D m).index) s₀ o.ext.sorts q o.ext.built v₀ in
            let s₁ : List Item = (put D t s₀).items in
            let c₁ = no-constant-before s₁ (put D (select a t qs) s).items (select-grows a t qs s) c in
            select-balanced a t qs s ss c o p
            (put-stores-balanced (array_at D m).index (array_at D m).value qs s ss f b v (no-constant-before s₀ s₁ p.ext.items_grow c₁))
            (put-balanced t (bits (array_at D m).index) s₀ o.ext.sorts q o.ext.built v₀ c₁)
        put-balanced (call n ts) σ s ss h b v c =
            let (e, l, q, σe) = call_known D n ts σ h in
            let us : List TreeSort = map bits (function_at D (number_or0 (function_number D n))).arguments in
            let o = put-all-ok D ts us s ss q b v in
            call-balanced n ts s ss c o (put-all-balanced ts us s ss q b v (no-constant-before (put_all D ts s).items (put D (call n ts) s).items (call-grows n ts s) c))

        pub put-all-balanced : (ts : Trees) (us : List TreeSort) (s : List Item) (ss : List TreeSort) → tree_sorts D ts ≡ map some us → Built D s ss → Variables D s ss → NoConstant (put_all D ts s).items
            → Balanced s (put_all D ts s).items (ref_uses (put_all D ts s).refs)
        put-all-balanced noTrees us s ss h b v c = omega arith
        put-all-balanced (more t ts) [] s ss h b v c = absurd (let z : ◌≡◌ {A = ℕ} 0 1 = cc in omega arith)
        put-all-balanced (more t ts) (σ ∷ us) s ss h b v c =
            let e : tree_sort D t ≡ some σ = cc in
            let f : tree_sorts D ts ≡ map some us = cc in
            let p = put-ok D t σ s ss e b v in
            let s₁ : List Item = (put D t s).items in
            let v₁ = variables-grow D s ss s₁ b p.ext v in
            let o = put-all-ok D ts us s₁ p.ext.sorts f p.ext.built v₁ in
            let s₂ : List Item = (put_all D ts s₁).items in
            let x = put-balanced t σ s ss e b v (no-constant-before s₁ s₂ o.ext.items_grow c) in
            let y = put-all-balanced ts us s₁ p.ext.sorts f p.ext.built v₁ c in
            omega arith

        put-stores-balanced : (iw vw : ℕ) (qs : Stores) (s : List Item) (ss : List TreeSort) → T (stores_have D none_bound iw vw qs) → Built D s ss → Variables D s ss
            → NoConstant (put_stores D qs s).items → Balanced s (put_stores D qs s).items (pair_uses (put_stores D qs s).pairs)
        put-stores-balanced iw vw base s ss h b v c = omega arith
        put-stores-balanced iw vw (store i w qs) s ss h b v c =
            let h' : T (has_sort (tree_sort D i) (bits iw) && (has_sort (tree_sort D w) (bits vw) && stores_have D none_bound iw vw qs)) = h in
            let ei : tree_sort D i ≡ some (bits iw) = has-eq (tree_sort D i) (bits iw) (and_0 (has_sort (tree_sort D i) (bits iw)) _ h') in
            let h₁ = and-1 (has_sort (tree_sort D i) (bits iw)) _ h' in
            let ew : tree_sort D w ≡ some (bits vw) = has-eq (tree_sort D w) (bits vw) (and_0 (has_sort (tree_sort D w) (bits vw)) _ h₁) in
            let f = and-1 (has_sort (tree_sort D w) (bits vw)) _ h₁ in
            let o = put-stores-ok D iw vw qs s ss f b v in
            let s₀ : List Item = (put_stores D qs s).items in
            let v₀ = variables-grow D s ss s₀ b o.ext v in
            let p = put-ok D i (bits iw) s₀ o.ext.sorts ei o.ext.built v₀ in
            let s₁ : List Item = (put D i s₀).items in
            let v₁ = variables-grow D s₀ o.ext.sorts s₁ o.ext.built p.ext v₀ in
            let q = put-ok D w (bits vw) s₁ p.ext.sorts ew p.ext.built v₁ in
            let s₂ : List Item = (put D w s₁).items in
            let c₁ = no-constant-before s₁ s₂ q.ext.items_grow c in
            let c₀ = no-constant-before s₀ s₁ p.ext.items_grow c₁ in
            let x = put-stores-balanced iw vw qs s ss f b v c₀ in
            let y = put-balanced i (bits iw) s₀ o.ext.sorts ei o.ext.built v₀ c₁ in
            let z = put-balanced w (bits vw) s₁ p.ext.sorts ew p.ext.built v₁ c in
            omega arith

  -- ---------------------------------------------------------------- variables and calls on zeros

  pub variables-unused : (vs : List Variable) → uses (variable_items vs) ≡ 0
  unfolding joined uses_of count
  variables-unused [] = refl
  variables-unused (v ∷ vs) = variables-unused vs

  call-on-zeros-uses : (g : ℕ) (f : Function) (s : List Item) → NoConstant (call_on_zeros g f s) → uses (call_on_zeros g f s) ≡ uses s
  unfolding call_on_zeros ended uses_of
  call-on-zeros-uses g f s h =
      let cs : List (List ℕ) = map zeros f.arguments in
      let s₂ : List Item = with_constants cs s in
      let x : Item = a_call g f.width (pendings (node_of s₂) cs) in
      let a = uses-snoc s₂ x in
      let b = constants-use s₂ cs (no-constant-before s₂ (s₂ ++ (x ∷ [])) (grows-snoc s₂ x) h) (with-constants-has cs s) in
      let c = with-constants-uses cs s in
      omega arith

  call-on-zeros-grows : (g : ℕ) (f : Function) (s : List Item) → Grows s (call_on_zeros g f s)
  unfolding call_on_zeros ended
  call-on-zeros-grows g f s =
      let cs : List (List ℕ) = map zeros f.arguments in
      let s₂ : List Item = with_constants cs s in
      grows-trans s s₂ (call_on_zeros g f s) (with-constants-grows cs s) (grows-snoc s₂ _)

  with-uncalled-grows : (ts : Trees) (g : ℕ) (fs : List Function) (s : List Item) → Grows s (with_uncalled ts g fs s)
  unfolding with_uncalled
  with-uncalled-grows ts g [] s = grows-refl s
  with-uncalled-grows ts g (f ∷ fs) s = by-called (calls_any f.name ts) refl (λ u. with-uncalled-grows ts (suc g) fs u)
    where
      by-called : (b : Bool) → calls_any f.name ts ≡ b → ((u : List Item) → Grows u (with_uncalled ts (suc g) fs u)) → Grows s (with_uncalled ts g (f ∷ fs) s)
      by-called true e rest = rw e (rest s)
      by-called false e rest = rw e (grows-trans s (call_on_zeros g f s) (with_uncalled ts (suc g) fs (call_on_zeros g f s)) (call-on-zeros-grows g f s) (rest (call_on_zeros g f s)))

  pub with-uncalled-uses : (ts : Trees) (g : ℕ) (fs : List Function) (s : List Item) → NoConstant (with_uncalled ts g fs s) → uses (with_uncalled ts g fs s) ≡ uses s
  unfolding with_uncalled
  with-uncalled-uses ts g [] s h = refl
  with-uncalled-uses ts g (f ∷ fs) s h = by-called (calls_any f.name ts) refl h (λ u. with-uncalled-uses ts (suc g) fs u)
    where
      by-called : (b : Bool) → calls_any f.name ts ≡ b → NoConstant (with_uncalled ts g (f ∷ fs) s) → ((u : List Item) → NoConstant (with_uncalled ts (suc g) fs u) → uses (with_uncalled ts (suc g) fs u) ≡ uses u)
          → uses (with_uncalled ts g (f ∷ fs) s) ≡ uses s
      by-called true e h rest = rw e (rest s (rw e at h))
      by-called false e h rest =
          let h' : NoConstant (with_uncalled ts (suc g) fs (call_on_zeros g f s)) = rw e at h in
          rw e (rest (call_on_zeros g f s) h' ∙ call-on-zeros-uses g f s (no-constant-before (call_on_zeros g f s) (with_uncalled ts (suc g) fs (call_on_zeros g f s)) (with-uncalled-grows ts (suc g) fs (call_on_zeros g f s)) h'))
