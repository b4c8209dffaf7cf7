-- The bindings and the body of an assertion that the walk passes fit the declarations, and unfold to the root's tree.
use Prim.Native.Nat.{ℕ, zero, suc, ◌+◌, ◌<◌}
use Rattle.std.specs.Prelude.{◌≡◌, ◌||◌, ◌≢◌, T, leb, eqb}
use Rattle.std.proofs.Math.Path.{refl, ap, subst}
use Rattle.std.proofs.Common.{sym, ◌∙◌, arith, eqb→eq}
use mathlib.Core.List.{List, [], ◌∷◌, ◌++◌, map}
use Rattle.std.proofs.Math.Bool.{Bool, true, false, cond}
use Rattle.std.proofs.Math.Option.{Option, none as nothing, some}
use Rattle.std.proofs.Math.Dec.{eqb_refl}
use Rattle.std.proofs.Math.ListN.{length, get_or}
use Rattle.lists.specs.Bytes.{bytes}
use Rattle.lists.specs.Tests.{same, among, in_list, All, or_l, or_r, in_left, in_place, place-or-none, true→T}
use Rattle.lists.specs.Build.{upto-below}
use Rattle.reading.specs.Trees.{Name, Tree, variable, constant, Declarations}
use Rattle.smtlib.specs.Scopes.{Scope, bound_to, bound_names}
use Rattle.smtlib.specs.ScopeLaws.{bound-none}
use Rattle.smtlib.specs.Sorts.{TermSort, bool}
use Rattle.echo_spec.specs.TreeSorts.{TreeSort, variable_sort, BoundSorts, sort_under, none_bound}
use Rattle.echo_spec.specs.TreeSortLaws.{if-proper}
use Rattle.echo_spec.specs.SortedTrees.{sort_as, declarations_in}
use Rattle.echo_spec.proofs.SortedTrees.{sort-agrees, node-proper, step-sorted}
use Rattle.echo_spec.specs.Refusals.{unless}
use Rattle.echo_spec.specs.Input.{Dag, Query, name_table, aname_table, fname_table}
use Rattle.echo_spec.specs.Widths.{width_at, widths_of}
use Rattle.echo_spec.specs.Tables.{find_node}
use Rattle.echo_spec.specs.Trees.{variable_name, tree_of}
use Rattle.echo_spec.specs.Walk.{walk_all, sort_ok}
use Rattle.echo_spec.specs.Accepted.{unless-passed, or_else-passed, Checked, walk-passed}
use Rattle.lets.specs.Lets.{
  rising,
  let_name,
  named,
  named_step,
  named_below,
  named_of,
  binding_of,
  assertion_of,
  bool_at,
  used_as,
  let_step,
  let_walks_below,
  let_walk,
  own_sort,
  assertion_refusal,
}
use Rattle.theorems.specs.Terms.{Fresh}
use Rattle.theorems.specs.Unfolding.{unfolded}
use Rattle.theorems.specs.Fitting.{as_term, SameScope, fits}
use Rattle.theorems.specs.Printed.{declared-names}
use Rattle.theorems.specs.LetTerms.{unfolded_let, FreshName, FitsLet}
use Rattle.theorems.specs.LetNames.{entries, entry_found, entries-map, entries-fresh}
use Rattle.theorems.specs.LetUnfolding.{unfold-use, unfold-node}

-- q's nodes are bound where `bound` says so, under names that are free for it
module _ (q : Query) (ok : Checked q.dag (widths_of q)) (binaryIn : All (λ b. leb b 1) q.bits) (bound : ℕ → Bool)
    (bound-below : (j : ℕ) → T (bound j) → j < length q.dag.nodes) (fresh-bound : (j : ℕ) → T (bound j) → FreshName (declarations_in q) (let_name j)) where
  abbrev d : Dag
  d = q.dag

  abbrev bits_in : List ℕ
  bits_in = q.bits

  abbrev ws : List ℕ
  ws = widths_of q

  abbrev D : Declarations
  D = declarations_in q

  abbrev sort_at : ℕ → TreeSort
  sort_at j = sort_as (bool_at d j) (width_at ws j)

  abbrev tree_at : ℕ → Tree
  tree_at j = tree_of d ws bits_in j

  -- ---------------------------------------------------------------- where names are bound

  module _ (E : BoundSorts) (clear : (k : ℕ) → k < length (name_table d) → E (get_or (name_table d) k []) ≡ nothing) where
    -- the bound nodes below i have their sorts
    abbrev Known : ℕ → Type 0
    Known i = (j : ℕ) → j < i → T (bound j) → E (let_name j) ≡ some (sort_at j)

    use-sorted : (below : ℕ → Bool → ℕ) (trees : ℕ → Tree) (j : ℕ) (b : Bool) → (T (bound j) → E (let_name j) ≡ some (sort_at j))
        → (below j b ≡ 0 → sort_under D E (trees j) ≡ some (sort_as b (width_at ws j))) → used_as d bound below j b ≡ 0
        → sort_under D E (named bound trees j) ≡ some (sort_as b (width_at ws j))
    unfolding used_as named sort_under variable_sort
    use-sorted below trees j b known rest e = by-bound (bound j) refl e
      where
        by-bound : (t : Bool) → bound j ≡ t → cond t (unless (sort_ok b (bool_at d j)) 3) (below j b) ≡ 0
            → sort_under D E (cond t (variable (let_name j)) (trees j)) ≡ some (sort_as b (width_at ws j))
        by-bound true is e =
            let agrees = sort-agrees b (bool_at d j) (unless-passed (sort_ok b (bool_at d j)) 2 e) in
            rw (known (true→T is), agrees) (if-proper (sort_at j) (node-proper q ok.arrays j (rw ok.widths (bound-below j (true→T is))) (bool_at d j)))
        by-bound false is e = rest e

    node-sorted : (n i : ℕ) → i < n → Known i → (b : Bool) → let_walk d ws bound i b ≡ 0 → sort_under D E (named_of d ws bits_in bound i) ≡ some (sort_as b (width_at ws i))
    unfolding let_walk let_step named_of named_step
    node-sorted zero i l known b e = absurd (omega arith)
    node-sorted (suc n) i l known b e =
        step-sorted q ok binaryIn E clear (used_as d bound (let_walks_below d ws bound i)) (named bound (named_below d ws bits_in bound i)) i
        (λ j c m p.
        use-sorted (let_walks_below d ws bound i) (named_below d ws bits_in bound i) j c (known j m)
        (λ q.
        let same-named : named_below d ws bits_in bound i j ≡ named_of d ws bits_in bound j = upto-below (named_step d ws bits_in bound) (constant []) i j m in
        let same-walk : let_walks_below d ws bound i j ≡ let_walk d ws bound j = upto-below (let_step d ws bound) (λ _. 1) i j m in
        ap (sort_under D E) same-named ∙ node-sorted n j (omega arith) (λ k r. known k (omega arith)) c (sym (ap (λ (f : Bool → ℕ). f c) same-walk) ∙ q))
        p)
        b e

    exists : (i : ℕ) (b : Bool) → let_walk d ws bound i b ≡ 0 → i < length d.nodes
    unfolding let_walk let_step
    exists i b e = (walk-passed d ws (used_as d bound (let_walks_below d ws bound i)) i b e).exists

    body-sorted : (root : ℕ) → Known (length d.nodes) → used_as d bound (let_walk d ws bound) root true ≡ 0
        → sort_under D E (named bound (named_of d ws bits_in bound) root) ≡ some TreeSort.bool
    body-sorted root known e =
        use-sorted (let_walk d ws bound) (named_of d ws bits_in bound) root true (λ t. known root (bound-below root t) t)
        (λ q. node-sorted (suc root) root (omega arith) (λ j l t. known j (bound-below j t) t) true q) e

  -- ---------------------------------------------------------------- the scopes of the nodes that are bound so far

  fresh-done : {A : Type 0} (f : ℕ → A) (done : List ℕ) → All bound done → Fresh D (bound_names (entries f done))
  fresh-done f done a = entries-fresh D bound fresh-bound f done a

  clear-done : {A : Type 0} (f : ℕ → A) (done : List ℕ) → All bound done → (n : Name) → T (in_list n (name_table d)) → bound_to (entries f done) n ≡ nothing
  clear-done f done a n h =
      bound-none (entries f done) n
      (λ q. (fresh-done f done a).undeclared n q (rw (declared-names d ws) (in_left n (name_table d) (aname_table d ++ fname_table d) h)))

  -- the names that are bound so far, with their sorts as the printer and as the standard has them
  abbrev names : List ℕ → BoundSorts
  names done = bound_to (entries sort_at done)

  abbrev scope : List ℕ → Scope TermSort
  scope done = entries (λ j. as_term (sort_at j)) done

  same-scope : (done : List ℕ) → SameScope (scope done) (names done)
  same-scope done n = entries-map as_term sort_at done n

  clear-names : (done : List ℕ) → All bound done → (k : ℕ) → k < length (name_table d) → names done (get_or (name_table d) k []) ≡ nothing
  clear-names done a k l = clear-done sort_at done a (get_or (name_table d) k []) (in_place (name_table d) k l)

  abbrev Done : ℕ → List ℕ → Type 0
  Done a done = (j : ℕ) → j < a → T (bound j) → T (among done j)

  done_more : (a : ℕ) (done : List ℕ) → Done a done → Done (suc a) (a ∷ done)
  done_more a done h j l t = by_place (eqb j a) refl (λ m. h j m t)
    where
      by_place : (b : Bool) → eqb j a ≡ b → (j < a → T (among done j)) → T (eqb j a || among done j)
      by_place true e rest = or_l (eqb j a) (among done j) (true→T e)
      by_place false e rest =
          let far : j ≢ a = λ q. subst T e (subst (λ (x : ℕ). T (eqb j x)) q (eqb_refl j)) in
          or_r (eqb j a) (among done j) (rest (omega arith))

  done-skip : (a : ℕ) (done : List ℕ) → Done a done → bound a ≡ false → Done (suc a) done
  done-skip a done h e j l t = by_place (eqb j a) refl (λ m. h j m t)
    where
      by_place : (b : Bool) → eqb j a ≡ b → (j < a → T (among done j)) → T (among done j)
      by_place true q rest = absurd (subst T e (subst (λ (x : ℕ). T (bound x)) (eqb→eq j a (true→T q)) t))
      by_place false q rest =
          let far : j ≢ a = λ z. subst T q (subst (λ (x : ℕ). T (eqb j x)) z (eqb_refl j)) in
          rest (omega arith)

  known-done : {A : Type 0} (f : ℕ → A) (a : ℕ) (done : List ℕ) → Done a done → (j : ℕ) → j < a → T (bound j) → bound_to (entries f done) (let_name j) ≡ some (f j)
  known-done f a done h j l t = entry_found f done j (h j l t)

  -- ---------------------------------------------------------------- the bindings in rising order

  bindings-fit : (root n a : ℕ) (done : List ℕ) → a + n ≡ length d.nodes → All bound done → Done a done
      → walk_all (let_walk d ws bound) (map (own_sort d) (rising bound a n)) ≡ 0 → used_as d bound (let_walk d ws bound) root true ≡ 0
      → FitsLet D (scope done) (map (binding_of d ws bits_in bound) (rising bound a n)) (named bound (named_of d ws bits_in bound) root) bool
  unfolding rising walk_all own_sort binding_of
  bindings-fit root zero a done z all h w e =
      fits D (names done) (scope done) (same-scope done) (named bound (named_of d ws bits_in bound) root) TreeSort.bool
      (body-sorted (names done) (clear-names done all) root (λ j l t. known-done sort_at a done h j (omega arith) t) e)
  bindings-fit root (suc n) a done z all h w e =
      by-bound (bound a) refl w (λ all' h' w'. bindings-fit root n (suc a) (a ∷ done) (omega arith) all' h' w' e)
      (λ h' w'. bindings-fit root n (suc a) done (omega arith) all h' w' e)
    where
      by-bound : (t : Bool) → bound a ≡ t
          → walk_all (let_walk d ws bound) (map (own_sort d) (cond t (a ∷ rising bound (suc a) n) (rising bound (suc a) n))) ≡ 0
          → (All bound (a ∷ done) → Done (suc a) (a ∷ done) → walk_all (let_walk d ws bound) (map (own_sort d) (rising bound (suc a) n)) ≡ 0
          → FitsLet D (scope (a ∷ done)) (map (binding_of d ws bits_in bound) (rising bound (suc a) n)) (named bound (named_of d ws bits_in bound) root) bool)
          → (Done (suc a) done → walk_all (let_walk d ws bound) (map (own_sort d) (rising bound (suc a) n)) ≡ 0
          → FitsLet D (scope done) (map (binding_of d ws bits_in bound) (rising bound (suc a) n)) (named bound (named_of d ws bits_in bound) root) bool)
          → FitsLet D (scope done) (map (binding_of d ws bits_in bound) (cond t (a ∷ rising bound (suc a) n) (rising bound (suc a) n)))
          (named bound (named_of d ws bits_in bound) root) bool
      by-bound true is w rest skip =
          let (here, later) = or_else-passed (let_walk d ws bound a (bool_at d a)) _ w in (
            as_term (sort_at a),
            fresh-bound a (true→T is),
            fits D (names done) (scope done) (same-scope done) (named_of d ws bits_in bound a) (sort_at a)
                (node-sorted (names done) (clear-names done all) (suc a) a (omega arith) (λ j l t. known-done sort_at a done h j l t) (bool_at d a) here),
            rest (true→T is, all) (done_more a done h) later,
          )
      by-bound false is w rest skip = skip (done-skip a done h is) w

  -- ---------------------------------------------------------------- and what they unfold to

  -- no name is empty
  empty-unbound : {A : Type 0} (f : ℕ → A) (done : List ℕ) → bound_to (entries f done) [] ≡ nothing
  unfolding let_name same bytes
  empty-unbound f [] = refl
  empty-unbound f (j ∷ done) = empty-unbound f done

  table-unbound : (done : List ℕ) → All bound done → (k : ℕ) → bound_to (entries tree_at done) (get_or (name_table d) k []) ≡ nothing
  table-unbound done all k = by_in (in_list (get_or (name_table d) k []) (name_table d)) refl
    where
      by_in : (b : Bool) → in_list (get_or (name_table d) k []) (name_table d) ≡ b → bound_to (entries tree_at done) (get_or (name_table d) k []) ≡ nothing
      by_in true e = clear-done tree_at done all (get_or (name_table d) k []) (true→T e)
      by_in false e =
          subst (λ (m : Name). bound_to (entries tree_at done) m ≡ nothing) (sym (place-or-none (name_table d) k (λ q. subst T e q))) (empty-unbound tree_at done)

  variable-unbound : (done : List ℕ) → All bound done → (i : ℕ) → bound_to (entries tree_at done) (variable_name d i) ≡ nothing
  unfolding variable_name
  variable-unbound done all i = by-entry (find_node d.var_node i)
    where
      by-entry : (o : Option ℕ) → bound_to (entries tree_at done) (elim o [ nothing ↦ [] | some k ↦ get_or (name_table d) k [] ]) ≡ nothing
      by-entry nothing = empty-unbound tree_at done
      by-entry (some k) = table-unbound done all k

  bindings-unfold : (root n a : ℕ) (done : List ℕ) → a + n ≡ length d.nodes → All bound done → Done a done → root < length d.nodes
      → unfolded_let (entries tree_at done) (map (binding_of d ws bits_in bound) (rising bound a n)) (named bound (named_of d ws bits_in bound) root) ≡ tree_at root
  unfolding rising unfolded_let binding_of
  bindings-unfold root zero a done z all h l =
      unfold-use q bound (entries tree_at done) (variable-unbound done all) (named_of d ws bits_in bound) root
      (λ t. known-done tree_at a done h root (omega arith) t)
      (unfold-node q bound (entries tree_at done) (variable-unbound done all) (suc root) root (omega arith) (omega arith)
      (λ j m t. known-done tree_at a done h j (omega arith) t))
  bindings-unfold root (suc n) a done z all h l =
      by-bound (bound a) refl (λ all' h'. bindings-unfold root n (suc a) (a ∷ done) (omega arith) all' h' l)
      (λ h'. bindings-unfold root n (suc a) done (omega arith) all h' l)
    where
      by-bound : (t : Bool) → bound a ≡ t
          → (All bound (a ∷ done) → Done (suc a) (a ∷ done)
          → unfolded_let (entries tree_at (a ∷ done)) (map (binding_of d ws bits_in bound) (rising bound (suc a) n)) (named bound (named_of d ws bits_in bound) root) ≡ tree_at root)
          → (Done (suc a) done
          → unfolded_let (entries tree_at done) (map (binding_of d ws bits_in bound) (rising bound (suc a) n)) (named bound (named_of d ws bits_in bound) root) ≡ tree_at root)
          → unfolded_let (entries tree_at done) (map (binding_of d ws bits_in bound) (cond t (a ∷ rising bound (suc a) n) (rising bound (suc a) n)))
          (named bound (named_of d ws bits_in bound) root) ≡ tree_at root
      by-bound true is rest skip =
          let u : unfolded (entries tree_at done) (named_of d ws bits_in bound a) ≡ tree_at a =
          unfold-node q bound (entries tree_at done) (variable-unbound done all) (suc a) a (omega arith) (omega arith)
          (λ j m t. known-done tree_at a done h j m t) in
          subst (λ (x : Tree). unfolded_let (record { name = let_name a; value = x } ∷ entries tree_at done) (map (binding_of d ws bits_in bound) (rising bound (suc a) n))
          (named bound (named_of d ws bits_in bound) root) ≡ tree_at root) (sym u) (rest (true→T is, all) (done_more a done h))
      by-bound false is rest skip = skip (done-skip a done h is)

  -- ---------------------------------------------------------------- an assertion

  root-exists : (root : ℕ) → used_as d bound (let_walk d ws bound) root true ≡ 0 → root < length d.nodes
  unfolding used_as
  root-exists root e = by-bound (bound root) refl e
    where
      by-bound : (t : Bool) → bound root ≡ t → cond t (unless (sort_ok true (bool_at d root)) 3) (let_walk d ws bound root true) ≡ 0 → root < length d.nodes
      by-bound true is e = bound-below root (true→T is)
      by-bound false is e = exists none_bound (λ k l. refl) root true e

  pub assertion-fits : (root : ℕ) → assertion_refusal d ws bound root ≡ 0
      → FitsLet D [] (assertion_of d ws bits_in bound root).bindings (assertion_of d ws bits_in bound root).body bool
  unfolding assertion_refusal assertion_of
  assertion-fits root e =
      let (w, r) = or_else-passed (walk_all (let_walk d ws bound) (map (own_sort d) (rising bound 0 (length d.nodes)))) _ e in
      bindings-fit root (length d.nodes) 0 [] (omega arith) tt (λ j l t. absurd (omega arith)) w r

  pub assertion-unfolds : (root : ℕ) → assertion_refusal d ws bound root ≡ 0
      → unfolded_let [] (assertion_of d ws bits_in bound root).bindings (assertion_of d ws bits_in bound root).body ≡ tree_at root
  unfolding assertion_refusal assertion_of
  assertion-unfolds root e =
      let (w, r) = or_else-passed (walk_all (let_walk d ws bound) (map (own_sort d) (rising bound 0 (length d.nodes)))) _ e in
      bindings-unfold root (length d.nodes) 0 [] (omega arith) tt (λ j l t. absurd (omega arith)) (root-exists root r)
