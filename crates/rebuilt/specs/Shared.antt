-- No term of a rebuilt problem is used twice: 6 does not occur.
use Prim.Native.Nat.{ℕ, zero, suc, ◌+◌, ◌≤◌, ◌<◌}
use Rattle.std.proofs.Math.Path.{◌≡◌, ap, subst}
use Rattle.std.specs.Prelude.{refl, Bool, true, false, ◌&&◌, ◌||◌, ◌⊎◌, T, leb, ltb}
use Rattle.std.proofs.Common.{sym, ◌∙◌, inl, inr, le→leb, ltb→lt, nltb→le}
use mathlib.Core.List.{List, [], ◌∷◌, ◌++◌, map}
use Rattle.std.proofs.Math.Option.{Option, none, some}
use native.Mathlib.Omega.{arith}
use Rattle.std.proofs.Math.ListN.{length, get_or, get_elem?}
use Rattle.std.proofs.lemmas.List.{length-map}
use Rattle.lists.specs.Tests.{and_0, and-1, or_l, or_r, true→T, every-from}
use Rattle.lists.specs.Places.{at-exists, at-get_or, get_or-at, one_place, grows_at, grows-length}
use Rattle.reading.specs.Trees.{Tree, constant, Trees, none as noTrees, more, Variable, Declarations, Reading}
use Rattle.echo_spec.specs.Shapes.{shapes, is_leaf}
use Rattle.echo_spec.specs.Input.{Node, shape, no_node}
use Rattle.echo_spec.specs.Sharing.{uses_as, uses_of_all, count, used_once, unshared}
use Rattle.echo_spec.specs.TreeSorts.{TreeSort, bool, bits, has_sort, sort_under, tree_sort, all_bool}
use Rattle.echo_spec.specs.TreeSortLaws.{has-eq}
use Rattle.readback.specs.Printable.{printable}
use Rattle.readback.specs.Rebuild.{Item, a_variable, a_constant, an_operator, a_select, a_call, Ref, here, pending, node_of, put_all, with_uncalled, variable_items, placed, joined, side_in, record_of, records_from}
use Rattle.rebuilt.specs.Layout.{Laid, laid, length-records}
use Rattle.rebuilt.specs.Built.{no-variable, variable_at, Built}
use Rattle.rebuilt.specs.Constants.{constant-ok}
use Rattle.rebuilt.specs.Placing.{RefsOk}
use Rattle.rebuilt.specs.Start.{map_at, Checked, checked, bools_of, bools-sorted, started, Rebuilt, rebuilt}
use Rattle.rebuilt.specs.Accept.{uses_of, node-facts}
use Rattle.rebuilt.specs.Uses.{count-append, count-cons, under, under-cases, uses, NoConstant, no-constant-before, ref_use, ref_uses, Balanced, put-all-balanced, variables-unused, with-uncalled-uses}

-- ---------------------------------------------------------------- uses of nodes and of items

uses-from : (side : List ℕ) (ns : List Node) (s : List Item) → length ns ≡ length s
    → ((i : ℕ) (n : Node) (x : Item) → get_elem? ns i ≡ some n → get_elem? s i ≡ some x → uses_as side n (shape n) ≡ uses_of x) → uses_of_all side ns ≡ joined uses_of s
unfolding uses_of_all joined
uses-from side [] [] e h = refl
uses-from side [] (x ∷ s) e h = absurd (omega arith)
uses-from side (n ∷ ns) [] e h = absurd (omega arith)
uses-from side (n ∷ ns) (x ∷ s) e h =
    let a = h 0 n x refl refl in
    let b = uses-from side ns s (omega arith) (λ i m y p q. h (suc i) m y p q) in
    λ k. a k ++ b k

-- ---------------------------------------------------------------- roots

root-uses : (D : Declarations) (j : ℕ) (s : List Item) (ss : List TreeSort) (ts : Trees) (rs : List Ref) → T (all_bool D ts) → RefsOk D s ss ts rs
    → count j (map (node_of s) rs) ≡ ref_uses j rs
unfolding ref_uses ref_use node_of sort_under count
root-uses D j s ss noTrees [] h o = refl
root-uses D j s ss noTrees (r ∷ rs) h o = absurd o
root-uses D j s ss (more t ts) [] h o = absurd o
root-uses D j s ss (more t ts) (here i ∷ rs) h (p, o) =
    let a = root-uses D j s ss ts rs (and-1 (has_sort (tree_sort D t) bool) _ h) o in
    let b = count-cons j i (map (node_of s) rs) in
    omega arith
root-uses D j s ss (more t ts) (pending bs ∷ rs) h (e, o) =
    let sb : tree_sort D t ≡ some bool = has-eq (tree_sort D t) bool (and_0 (has_sort (tree_sort D t) bool) _ h) in
    let sc : tree_sort D (constant bs) ≡ some bool = ap (tree_sort D) (sym e) ∙ sb in
    let sd : bits (length bs) ≡ bool = (constant-ok D bs bool sc).1 in
    absurd (let z : ◌≡◌ {A = ℕ} 0 1 = cc in omega arith)

-- ---------------------------------------------------------------- each term

module _ (r : Reading) (h : T (printable r)) where
  abbrev D : Declarations
  D = r.declarations

  abbrev s : List Item
  s = (placed r).items

  abbrev rs : List Ref
  rs = (placed r).refs

  used-once : (j : ℕ) → length r.declarations.variables ≤ j → NoConstant j (placed r).items → count j (joined uses_of (placed r).items ++ map (node_of (placed r).items) (placed r).refs) ≤ 1
  unfolding placed
  used-once j past c =
      let b = rebuilt r h in
      let k = checked r h in
      let ts : Trees = r.assertions in
      let s₁ : List Item = started r in
      let x = put-all-balanced j r.declarations past ts (bools_of ts) s₁ b.before (bools-sorted r.declarations ts k.assertions) b.before_built b.before_variables c in
      let c₁ = no-constant-before j s₁ (placed r).items b.before_grows c in
      let y = with-uncalled-uses j ts 0 r.declarations.functions (variable_items r.declarations.variables) c₁ in
      let z = variables-unused j r.declarations.variables in
      let a = count-append j (joined uses_of (placed r).items) (map (node_of (placed r).items) (placed r).refs) in
      let u = root-uses r.declarations j (placed r).items b.sorts ts (placed r).refs k.assertions b.refs in
      by_cases (count j (joined uses_of (placed r).items ++ map (node_of (placed r).items) (placed r).refs)) (uses j (placed r).items) (count j (map (node_of (placed r).items) (placed r).refs))
      (uses j s₁) (uses j (variable_items r.declarations.variables)) (ref_uses j (placed r).refs) (length s₁) (length (placed r).items) a u x y z (under-cases j (length s₁)) (under-cases j (length (placed r).items))
    where
      by_cases : (c cu cr u₁ u₀ rf n m : ℕ) → c ≡ cu + cr → cr ≡ rf → cu + rf + under j n ≡ u₁ + under j m → u₁ ≡ u₀ → u₀ ≡ 0
          → ((j < n) × (under j n ≡ 1)) ⊎ ((n ≤ j) × (under j n ≡ 0)) → ((j < m) × (under j m ≡ 1)) ⊎ ((m ≤ j) × (under j m ≡ 0)) → c ≤ 1
      by_cases c cu cr u₁ u₀ rf n m a u x y z (inl (p, q)) (inl (v, w)) = omega arith
      by_cases c cu cr u₁ u₀ rf n m a u x y z (inl (p, q)) (inr (v, w)) = omega arith
      by_cases c cu cr u₁ u₀ rf n m a u x y z (inr (p, q)) (inl (v, w)) = omega arith
      by_cases c cu cr u₁ u₀ rf n m a u x y z (inr (p, q)) (inr (v, w)) = omega arith

  past-variables : (i : ℕ) (x : Item) → get_elem? (placed r).items i ≡ some x → ((w : ℕ) → x ≡ a_variable w → ⊥) → length r.declarations.variables ≤ i
  past-variables i x e far = by-test (ltb i (length r.declarations.variables)) refl
    where
      by-test : (b : Bool) → ltb i (length r.declarations.variables) ≡ b → length r.declarations.variables ≤ i
      by-test true q =
          let l : i < length r.declarations.variables = ltb→lt i (length r.declarations.variables) (true→T q) in
          let vs : List Variable = r.declarations.variables in
          let v : Variable = variable_at r.declarations i in
          let f = grows_at (variable_items vs) (placed r).items (rebuilt r h).variables i (a_variable v.width) (map_at (λ (v : Variable). a_variable v.width) vs i v (get_or-at vs i no-variable l)) in
          absurd (far v.width (one_place (placed r).items i x (a_variable v.width) e f))
      by-test false q = nltb→le i (length r.declarations.variables) (rw q tt)

  leaf-or-once : (i : ℕ) (x : Item) → get_elem? (placed r).items i ≡ some x → (us : List ℕ) → us ≡ joined uses_of (placed r).items ++ map (node_of (placed r).items) (placed r).refs
      → T (used_once (records_from 0 0 (placed r).items) us i)
  unfolding used_once record_of shapes is_leaf
  leaf-or-once i (a_variable w) e us q =
      let l = laid (placed r).items i (a_variable w) e 0 0 in
      or_l (is_leaf (shape (get_or (records_from 0 0 (placed r).items) i no_node))) _ (rw l.node tt)
  leaf-or-once i (a_constant bs) e us q =
      let l = laid (placed r).items i (a_constant bs) e 0 0 in
      or_l (is_leaf (shape (get_or (records_from 0 0 (placed r).items) i no_node))) _ (rw l.node tt)
  leaf-or-once i (an_operator k ks xs ms) e us q =
      or_r (is_leaf (shape (get_or (records_from 0 0 (placed r).items) i no_node))) _
      (le→leb (count i us) 1 (rw q (used-once i (past-variables i (an_operator k ks xs ms) e (λ w f. let z : ◌≡◌ {A = ℕ} 0 1 = cc in omega arith)) (λ bs f. let g = one_place (placed r).items i (an_operator k ks xs ms) (a_constant bs) e f in let z : ◌≡◌ {A = ℕ} 0 1 = cc in omega arith))))
  leaf-or-once i (a_select a j ps) e us q =
      or_r (is_leaf (shape (get_or (records_from 0 0 (placed r).items) i no_node))) _
      (le→leb (count i us) 1 (rw q (used-once i (past-variables i (a_select a j ps) e (λ w f. let z : ◌≡◌ {A = ℕ} 0 1 = cc in omega arith)) (λ bs f. let g = one_place (placed r).items i (a_select a j ps) (a_constant bs) e f in let z : ◌≡◌ {A = ℕ} 0 1 = cc in omega arith))))
  leaf-or-once i (a_call g w xs) e us q =
      or_r (is_leaf (shape (get_or (records_from 0 0 (placed r).items) i no_node))) _
      (le→leb (count i us) 1 (rw q (used-once i (past-variables i (a_call g w xs) e (λ w f. let z : ◌≡◌ {A = ℕ} 0 1 = cc in omega arith)) (λ bs f. let y = one_place (placed r).items i (a_call g w xs) (a_constant bs) e f in let z : ◌≡◌ {A = ℕ} 0 1 = cc in omega arith))))

  pub none-shared : T (unshared (records_from 0 0 (placed r).items) (joined side_in (placed r).items) (map (node_of (placed r).items) (placed r).refs))
  unfolding unshared
  none-shared =
      let b = rebuilt r h in
      let s : List Item = (placed r).items in
      let ns : List Node = records_from 0 0 s in
      let side : List ℕ = joined side_in s in
      let all : uses_of_all side ns ≡ joined uses_of s = uses-from side ns s (length-records s 0 0) (λ i n x p q.
      (let f = (node-facts r.declarations s b.sorts b.built i x q).uses in
      let m : get_or ns i no_node ≡ n = at-get_or ns i n no_node p in
      subst (λ (n : Node). uses_as side n (shape n) ≡ uses_of x) m f)) in
      let us : uses_of_all side ns ++ map (node_of s) (placed r).refs ≡ joined uses_of s ++ map (node_of s) (placed r).refs = ap (λ (l : List ℕ). l ++ map (node_of s) (placed r).refs) all in
      every-from (used_once ns (uses_of_all side ns ++ map (node_of s) (placed r).refs)) 0 (length ns) (λ k l m.
      (let y = length-records s 0 0 in
      let z : k < length s = omega arith in
      let (x, e) = at-exists s k z in
      leaf-or-once k x e (uses_of_all side ns ++ map (node_of s) (placed r).refs) us))
