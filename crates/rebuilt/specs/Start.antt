-- The nodes of a whole reading: variables, calls on zeros, terms. Each is fine, each root is its tree, each function is called.
use Prim.Native.Nat.{ℕ, zero, suc, ◌+◌, ◌≤◌, ◌<◌}
use Rattle.std.specs.Prelude.{◌≡◌, Bool, true, ◌&&◌, ◌||◌, not, get_or}
use Rattle.std.proofs.Math.Path.{refl, ap, sym, subst}
use Rattle.std.proofs.Common.{◌∙◌, T_not}
use mathlib.Core.List.{List, [], ◌∷◌, ◌++◌, map, append_assoc}
use Rattle.std.proofs.Math.Bool.{false}
use Rattle.std.proofs.Math.Option.{Option, none, some}
use native.Mathlib.Omega.{arith}
use Rattle.std.proofs.Math.Dec.{T, leb}
use Rattle.std.proofs.Math.ListN.{length, get_elem?, length-append, length-replicate}
use Rattle.std.proofs.lemmas.List.{length-map}
use Rattle.std.proofs.Math.Seq.{get_or-append_seam}
use Rattle.lists.specs.Tests.{same, in_list, every, All, and_0, and-1, or_elim, or_l, or_r, distinct, distinct-right, same→eq, same_refl, T→true, true→T, no→false, by-test, all_map}
use Rattle.lists.specs.Build.{find_from}
use Rattle.lists.specs.Places.{at_less, at-get_or, get_or-at, Grows, grows-trans, grows_at}
use Rattle.reading.specs.Trees.{Name, Tree, variable, constant, apply, select, call, Trees, none as noTrees, more, Stores, base, store, Variable, Array, Function, Declarations, Reading}
use Rattle.echo_spec.specs.Names.{table_ok, names_ok}
use Rattle.echo_spec.specs.TreeSorts.{TreeSort, bool, bits, proper, if_proper, has_sort, sort_under, tree_sort, tree_sorts, all_bool}
use Rattle.echo_spec.specs.TreeSortLaws.{if-proper, has-eq}
use Rattle.readback.specs.Printable.{variable_names_in, array_names_in, function_names_in, names_permitted, width_ok, variable_ok, array_ok, function_ok, declarable, printable}
use Rattle.readback.specs.Rebuild.{
  Pair,
  Item,
  a_variable,
  a_constant,
  an_operator,
  a_select,
  a_call,
  with_constants,
  Ref,
  here,
  pending,
  node_of,
  PutAll,
  ended,
  constants_among,
  own_bits,
  pendings,
  put_all,
  calls,
  calls_any,
  calls_stored,
  zeros,
  call_on_zeros,
  with_uncalled,
  variable_items,
  placed,
  function_number,
}
use Rattle.rebuilt.specs.NameTables.{tables-distinct}
use Rattle.rebuilt.specs.Built.{no-variable, no-function, variable_at, function_at, sort_at, Built, Fine}
use Rattle.rebuilt.specs.Constants.{constant_ok, zeros-binary, zeros-ok, Extended, extended_refl, extended_trans, with-constants-built, with-constants-has}
use Rattle.rebuilt.specs.Known.{Declared, declared}
use Rattle.rebuilt.specs.Placing.{Placed, PlacedAll, PlacedStores, RefsOk}
use Rattle.rebuilt.specs.Puts.{Last, call-last, Variables, variables-grow, put-all-ok}

-- ---------------------------------------------------------------- variables

module _ {A B : Type 0} (f : A → B) where
  at_map : (xs : List A) (i : ℕ) (y : B) → get_elem? (map f xs) i ≡ some y → (x : A) × (get_elem? xs i ≡ some x) × (f x ≡ y)
  at_map [] i y e = absurd (let z : ◌≡◌ {A = ℕ} 0 1 = cc in omega arith)
  at_map (x ∷ xs) zero y e = (x, refl, cc)
  at_map (x ∷ xs) (suc i) y e = at_map xs i y e

  pub map_at : (xs : List A) (i : ℕ) (x : A) → get_elem? xs i ≡ some x → get_elem? (map f xs) i ≡ some (f x)
  map_at [] i x e = absurd (let z : ◌≡◌ {A = ℕ} 0 1 = cc in omega arith)
  map_at (y ∷ xs) zero x e = let q : y ≡ x = cc in ap (λ (z : A). some (f z)) q
  map_at (y ∷ xs) (suc i) x e = map_at xs i x e

abbrev pub variable_sorts : List Variable → List TreeSort
variable_sorts vs = map (λ (v : Variable). bits v.width) vs

sorts-proper : (vs : List Variable) → ((k : ℕ) → k < length vs → T (variable_ok (get_or vs k no-variable))) → All proper (variable_sorts vs)
sorts-proper [] h = tt
sorts-proper (v ∷ vs) h = (h 0 (omega arith), sorts-proper vs (λ k l. h (suc k) (omega arith)))

variables-built : (D : Declarations) → Declared D → Built D (variable_items D.variables) (variable_sorts D.variables)
variables-built D dd = record {
  proper = sorts-proper D.variables dd.variables;
  sized = length-map D.variables (λ (v : Variable). a_variable v.width) ∙ sym (length-map D.variables (λ (v : Variable). bits v.width));
  fine = λ i x e.
      (let (v, p, q) = at_map (λ (v : Variable). a_variable v.width) D.variables i x e in
      let d : variable_at D i ≡ v = at-get_or D.variables i v no-variable p in
      let g : sort_at (variable_sorts D.variables) i ≡ bits v.width =
      at-get_or (variable_sorts D.variables) i (bits v.width) bool (map_at (λ (v : Variable). bits v.width) D.variables i v p) in
      subst (Fine D (variable_items D.variables) (variable_sorts D.variables) i) q
      (at_less D.variables i v p, ap (λ (v : Variable). v.width) d, g));
}

variables-there : (D : Declarations) → Variables D (variable_items D.variables) (variable_sorts D.variables)
variables-there D k l = (
  rw (length-map D.variables (λ (v : Variable). a_variable v.width)) l,
  at-get_or (variable_sorts D.variables) k (bits (variable_at D k).width) bool
      (map_at (λ (v : Variable). bits v.width) D.variables k (get_or D.variables k no-variable) (get_or-at D.variables k no-variable l)),
)

-- ---------------------------------------------------------------- calls on zeros

-- function g has a call
abbrev pub CalledBy : List Item → ℕ → Type 0
CalledBy s g = (c : ℕ) × (w : ℕ) × (xs : List ℕ) × (get_elem? s c ≡ some (a_call g w xs))

pub called-grow : (s t : List Item) → Grows s t → (g : ℕ) → CalledBy s g → CalledBy t g
called-grow s t r g (c, w, xs, e) = (c, w, xs, grows_at s t r c (a_call g w xs) e)

-- zeros as operands
zero_trees : List ℕ → Trees
zero_trees [] = noTrees
zero_trees (w ∷ ws) = more (constant (zeros w)) (zero_trees ws)

abbrev zero_refs : List ℕ → List Ref
zero_refs ws = map (λ w. pending (zeros w)) ws

module _ (D : Declarations) where
  zero-sort : (w : ℕ) → T (width_ok w) → tree_sort D (constant (zeros w)) ≡ some (bits w)
  unfolding sort_under
  zero-sort w h =
      let l : length (zeros w) ≡ w = length-replicate {A = ℕ} w 0 in
      rw (T→true (every (λ b. leb b 1) (zeros w)) (zeros-binary w), l) (if-proper (bits w) h)

  zero-sorts : (ws : List ℕ) → T (every width_ok ws) → tree_sorts D (zero_trees ws) ≡ map some (map bits ws)
  unfolding sort_under zero_trees
  zero-sorts [] h = refl
  zero-sorts (w ∷ ws) h =
      let e = zero-sort w (and_0 (width_ok w) (every width_ok ws) h) in
      let f = zero-sorts ws (and-1 (width_ok w) (every width_ok ws) h) in
      λ i. e i ∷ f i

  zero-constants : (ws : List ℕ) → constants_among (zero_trees ws) ≡ map zeros ws
  unfolding constants_among own_bits zero_trees
  zero-constants [] = refl
  zero-constants (w ∷ ws) = ap (λ (cs : List (List ℕ)). zeros w ∷ cs) (zero-constants ws)

  zero-refs : (s : List Item) (ss : List TreeSort) (ws : List ℕ) → RefsOk D s ss (zero_trees ws) (zero_refs ws)
  unfolding zero_trees
  zero-refs s ss [] = tt
  zero-refs s ss (w ∷ ws) = (refl, zero-refs s ss ws)

  zero-nodes : (node : Ref → ℕ) (ws : List ℕ) → map node (zero_refs ws) ≡ pendings node (map zeros ws)
  zero-nodes node [] = refl
  zero-nodes node (w ∷ ws) = ap (λ (xs : List ℕ). node (pending (zeros w)) ∷ xs) (zero-nodes node ws)

  zeros-all-ok : (ws : List ℕ) → T (every width_ok ws) → All constant_ok (map zeros ws)
  zeros-all-ok [] h = tt
  zeros-all-ok (w ∷ ws) h = (zeros-ok w (and_0 (width_ok w) (every width_ok ws) h), zeros-all-ok ws (and-1 (width_ok w) (every width_ok ws) h))

  call-on-zeros : (g : ℕ) (f : Function) → g < length D.functions → function_at D g ≡ f → T (function_ok f) → (s : List Item) (ss : List TreeSort) → Built D s ss
      → Extended D s ss (call_on_zeros g f s) × CalledBy (call_on_zeros g f s) g
  unfolding call_on_zeros ended
  call-on-zeros g f l e h s ss b =
      let ws : List ℕ = f.arguments in
      let ok : T (every width_ok ws) = and_0 (every width_ok ws) (width_ok f.width) h in
      let cs : List (List ℕ) = map zeros ws in
      let c = with-constants-built D cs s ss (zeros-all-ok ws ok) b in
      let s₂ : List Item = with_constants cs s in
      let q : tree_sorts D (zero_trees ws) ≡ map some (map bits (function_at D g).arguments) = zero-sorts ws ok ∙ ap (λ (f : Function). map some (map bits f.arguments)) (sym e) in
      let (t, pl) = call-last D g f.width (zero_trees ws) l q (ap (λ (f : Function). f.width) e) (and-1 (every width_ok ws) (width_ok f.width) h) s₂ c.sorts c.built (zero_refs ws)
      (zero-refs s₂ c.sorts ws) (rw (zero-constants ws) (with-constants-has cs s)) in
      let xs : List ℕ = pendings (node_of s₂) cs in
      let x : Item = a_call g f.width xs in
      let t' : Last D s₂ c.sorts x (bits f.width) =
      subst (λ (ys : List ℕ). Last D s₂ c.sorts (a_call g f.width ys) (bits f.width)) (zero-nodes (node_of s₂) ws) t in
      (extended_trans D s ss s₂ (s₂ ++ (x ∷ [])) c t'.ext, (length s₂, f.width, xs, t'.item))

  seam-entry : (pre : List Function) (f : Function) (fs : List Function) → D.functions ≡ pre ++ f ∷ fs
      → (length pre < length D.functions) × (function_at D (length pre) ≡ f)
  seam-entry pre f fs e =
      let l : length D.functions ≡ length pre + length (f ∷ fs) = ap length e ∙ length-append pre (f ∷ fs) in
      (omega arith, rw e (get_or-append_seam pre f fs no-function))

  -- each function from number g on that is not called has a call
  record Uncalled (ts : Trees) (g : ℕ) (fs : List Function) (s : List Item) (ss : List TreeSort) : Type 0 where
    ext : Extended D s ss (with_uncalled ts g fs s)
    called : (j : ℕ) → j < length fs → calls_any (get_or fs j no-function).name ts ≡ false → CalledBy (with_uncalled ts g fs s) (g + j)

  with-uncalled : Declared D → (ts : Trees) (fs pre : List Function) → D.functions ≡ pre ++ fs → (s : List Item) (ss : List TreeSort) → Built D s ss → Uncalled ts (length pre) fs s ss
  unfolding with_uncalled
  with-uncalled d ts [] pre e s ss b = record { ext = extended_refl D s ss b; called = λ j l q. absurd (omega arith) }
  with-uncalled d ts (f ∷ fs) pre e s ss b =
      let e' : D.functions ≡ (pre ++ (f ∷ [])) ++ fs = e ∙ sym (append_assoc pre (f ∷ []) fs) in
      let g : ℕ = length pre in
      let n : length (pre ++ (f ∷ [])) ≡ suc g = length-append pre (f ∷ []) ∙ (omega arith) in
      by-called (calls_any f.name ts) refl (λ (s : List Item) (ss : List TreeSort) (b : Built D s ss). subst (λ (k : ℕ). Uncalled ts k fs s ss) n (with-uncalled d ts fs (pre ++ (f ∷ [])) e' s ss b))
    where
      by_place : (s' : List Item) (ss' : List TreeSort) → Uncalled ts (suc (length pre)) fs s' ss' → (calls_any f.name ts ≡ false → CalledBy s' (length pre))
          → (j : ℕ) → j < length (f ∷ fs) → calls_any (get_or (f ∷ fs) j no-function).name ts ≡ false → CalledBy (with_uncalled ts (suc (length pre)) fs s') (length pre + j)
      by_place s' ss' u first zero l q =
          let z : length pre + 0 ≡ length pre = omega arith in
          rw z (called-grow s' (with_uncalled ts (suc (length pre)) fs s') u.ext.items_grow (length pre) (first q))
      by_place s' ss' u first (suc j) l q =
          let z : length pre + suc j ≡ suc (length pre) + j = omega arith in
          rw z (u.called j (omega arith) q)

      by-called : (c : Bool) → calls_any f.name ts ≡ c → ((s : List Item) (ss : List TreeSort) → Built D s ss → Uncalled ts (suc (length pre)) fs s ss) → Uncalled ts (length pre) (f ∷ fs) s ss
      by-called true q rest =
          let u = rest s ss b in
          let w : with_uncalled ts (length pre) (f ∷ fs) s ≡ with_uncalled ts (suc (length pre)) fs s = rw q in
          record {
            ext = rw w u.ext;
            called = rw w (by_place s ss u (λ p. absurd (let z : true ≡ false = sym q ∙ p in let y : ◌≡◌ {A = ℕ} 0 1 = cc in omega arith)));
          }
      by-called false q rest =
          let (l, gf) = seam-entry pre f fs e in
          let g : ℕ = length pre in
          let (x, c) = call-on-zeros g f l gf (subst (λ (f : Function). T (function_ok f)) gf (d.functions g l)) s ss b in
          let s₁ : List Item = call_on_zeros g f s in
          let u = rest s₁ x.sorts x.built in
          let w : with_uncalled ts (length pre) (f ∷ fs) s ≡ with_uncalled ts (suc (length pre)) fs s₁ = rw q in
          record {
            ext = rw w (extended_trans D s ss s₁ (with_uncalled ts (suc g) fs s₁) x u.ext);
            called = rw w (by_place s₁ x.sorts u (λ p. c));
          }

  -- ---------------------------------------------------------------- a function that an assertion calls has a call

  module _ (s : List Item) (f : Name) (g : ℕ) (e : function_number D f ≡ some g) where
    mutual
      unfolding calls

      placed-calls : (t : Tree) (i : ℕ) → T (calls f t) → Placed D s t i → CalledBy s g
      placed-calls (variable n) i h p = absurd h
      placed-calls (constant bs) i h p = absurd h
      placed-calls (apply k ks ts) i h (xs, ms, q, p) = placed-calls-all ts xs h p
      placed-calls (select a j ss) i h (m, x, ps, u, v, p, q) =
          or_elim (calls_stored f ss) (calls f j) h (λ c. placed-calls-stored ss ps c q) (λ c. placed-calls j x c p)
      placed-calls (call n ts) i h (m, w, xs, u, v, p) =
          or_elim (same f n) (calls_any f ts) h
          (λ c.
          let q : f ≡ n = same→eq f n c in
          let r : some g ≡ some m = sym e ∙ ap (function_number D) q ∙ u in
          let z : g ≡ m = cc in
          (i, w, xs, rw z v))
          (λ c. placed-calls-all ts xs c p)

      placed-calls-all : (ts : Trees) (xs : List ℕ) → T (calls_any f ts) → PlacedAll D s ts xs → CalledBy s g
      placed-calls-all noTrees xs h p = absurd h
      placed-calls-all (more t ts) [] h p = absurd p
      placed-calls-all (more t ts) (x ∷ xs) h (p, q) =
          or_elim (calls f t) (calls_any f ts) h (λ c. placed-calls t x c p) (λ c. placed-calls-all ts xs c q)

      placed-calls-stored : (ss : Stores) (ps : List (Pair ℕ)) → T (calls_stored f ss) → PlacedStores D s ss ps → CalledBy s g
      placed-calls-stored base ps h p = absurd h
      placed-calls-stored (store i v ss) [] h p = absurd p
      placed-calls-stored (store i v ss) (q ∷ ps) h (a, b, c) =
          or_elim (calls_stored f ss) (calls f i || calls f v) h (λ k. placed-calls-stored ss ps k c)
          (λ k. or_elim (calls f i) (calls f v) k (λ l. placed-calls i q.index l a) (λ l. placed-calls v q.value l b))

    refs-call : (ss : List TreeSort) (ts : Trees) (rs : List Ref) → T (calls_any f ts) → RefsOk D s ss ts rs → CalledBy s g
    unfolding calls
    refs-call ss noTrees rs h p = absurd h
    refs-call ss (more t ts) [] h p = absurd p
    refs-call ss (more t ts) (here i ∷ rs) h (p, q) =
        or_elim (calls f t) (calls_any f ts) h (λ c. placed-calls t i c p.2) (λ c. refs-call ss ts rs c q)
    refs-call ss (more t ts) (pending bs ∷ rs) h (p, q) =
        or_elim (calls f t) (calls_any f ts) h (λ c. absurd (subst (λ (x : Tree). T (calls f x)) p c)) (λ c. refs-call ss ts rs c q)

-- ---------------------------------------------------------------- a function's own name finds it

abbrev function_name : Function → Name
function_name f = f.name

in-names : (fs : List Function) (g : ℕ) → g < length fs → T (in_list (get_or fs g no-function).name (map function_name fs))
in-names [] g l = absurd (omega arith)
in-names (f ∷ fs) zero l = or_l (same f.name f.name) (in_list f.name (map function_name fs)) (same_refl f.name)
in-names (f ∷ fs) (suc g) l = or_r (same (get_or fs g no-function).name f.name) (in_list (get_or fs g no-function).name (map function_name fs)) (in-names fs g (omega arith))

own-number : (k : ℕ) (fs : List Function) → T (distinct (map function_name fs)) → (g : ℕ) → g < length fs
    → find_from (λ (f : Function). same (get_or fs g no-function).name f.name) k fs ≡ some (k + g)
unfolding find_from
own-number k [] h g l = absurd (omega arith)
own-number k (f ∷ fs) h zero l =
    let z : k + 0 ≡ k = omega arith in
    rw (T→true (same f.name f.name) (same_refl f.name), find_from, z)
own-number k (f ∷ fs) h (suc g) l =
    let n : Name = (get_or fs g no-function).name in
    let far : same n f.name ≡ false = no→false (same n f.name) (λ c.
    let q : n ≡ f.name = same→eq n f.name c in
    T_not (in_list f.name (map function_name fs)) (and_0 (not (in_list f.name (map function_name fs))) (distinct (map function_name fs)) h)
    (subst (λ (x : Name). T (in_list x (map function_name fs))) q (in-names fs g (omega arith)))) in
    let ih = own-number (suc k) fs (and-1 (not (in_list f.name (map function_name fs))) (distinct (map function_name fs)) h) g (omega arith) in
    let z : suc k + g ≡ k + suc g = omega arith in
    rw (far, find_from) (ih ∙ ap (λ (n : ℕ). some n) z)

-- ---------------------------------------------------------------- the whole reading

pub record Checked (r : Reading) : Type 0 where
  pub names : T (names_permitted (variable_names_in r.declarations) (array_names_in r.declarations) (function_names_in r.declarations))
  pub declares : Declared r.declarations
  pub assertions : T (all_bool r.declarations r.assertions)

pub checked : (r : Reading) → T (printable r) → Checked r
unfolding printable declarable
checked r h =
    let D : Declarations = r.declarations in
    let n : Bool = names_permitted (variable_names_in D) (array_names_in D) (function_names_in D) in
    let v : Bool = every variable_ok D.variables in
    let a : Bool = every array_ok D.arrays in
    let f : Bool = every function_ok D.functions in
    let d : T (n && (v && (a && f))) = and_0 (n && (v && (a && f))) (all_bool D r.assertions) h in
    let d₁ = and-1 n (v && (a && f)) d in
    let d₂ = and-1 v (a && f) d₁ in
    record {
      names = and_0 n (v && (a && f)) d;
      declares = declared D (and_0 v (a && f) d₁) (and_0 a f d₂) (and-1 a f d₂);
      assertions = and-1 (n && (v && (a && f))) (all_bool D r.assertions) h;
    }

-- the sorts of assertions
pub bools_of : Trees → List TreeSort
bools_of noTrees = []
bools_of (more t ts) = bool ∷ bools_of ts

pub bools-sorted : (D : Declarations) (ts : Trees) → T (all_bool D ts) → tree_sorts D ts ≡ map some (bools_of ts)
unfolding bools_of sort_under
bools-sorted D noTrees h = refl
bools-sorted D (more t ts) h =
    let o : Option TreeSort = tree_sort D t in
    let a = has-eq o bool (and_0 (has_sort o bool) _ h) in
    let b = bools-sorted D ts (and-1 (has_sort o bool) _ h) in
    λ i. a i ∷ b i

-- the nodes before the assertions'
abbrev pub started : Reading → List Item
started r = with_uncalled r.assertions 0 r.declarations.functions (variable_items r.declarations.variables)

pub record Rebuilt (r : Reading) : Type 0 where
  pub before : List TreeSort
  pub before_built : Built r.declarations (started r) before
  pub before_variables : Variables r.declarations (started r) before
  pub before_grows : Grows (started r) (placed r).items
  pub sorts : List TreeSort
  pub built : Built r.declarations (placed r).items sorts
  pub variables : Grows (variable_items r.declarations.variables) (placed r).items
  pub refs : RefsOk r.declarations (placed r).items sorts r.assertions (placed r).refs
  pub called : (g : ℕ) → g < length r.declarations.functions → CalledBy (placed r).items g

functions-distinct : (D : Declarations) → T (names_permitted (variable_names_in D) (array_names_in D) (function_names_in D)) → T (distinct (function_names_in D))
functions-distinct D h =
    distinct-right (array_names_in D) (function_names_in D) (distinct-right (variable_names_in D) (array_names_in D ++ function_names_in D) (tables-distinct (variable_names_in D) (array_names_in D) (function_names_in D) h))

pub rebuilt : (r : Reading) → T (printable r) → Rebuilt r
unfolding placed
rebuilt r h =
    let D : Declarations = r.declarations in
    let ts : Trees = r.assertions in
    let c = checked r h in
    let s₀ : List Item = variable_items D.variables in
    let ss₀ : List TreeSort = variable_sorts D.variables in
    let u = with-uncalled D c.declares ts D.functions [] refl s₀ ss₀ (variables-built D c.declares) in
    let s₁ : List Item = with_uncalled ts 0 D.functions s₀ in
    let o = put-all-ok D ts (bools_of ts) s₁ u.ext.sorts (bools-sorted D ts c.assertions) u.ext.built (variables-grow D s₀ ss₀ s₁ (variables-built D c.declares) u.ext (variables-there D)) in
    let s₂ : List Item = (put_all D ts s₁).items in
    record {
      before = u.ext.sorts;
      before_built = u.ext.built;
      before_variables = variables-grow D s₀ ss₀ s₁ (variables-built D c.declares) u.ext (variables-there D);
      before_grows = o.ext.items_grow;
      sorts = o.ext.sorts;
      built = o.ext.built;
      variables = grows-trans s₀ s₁ s₂ u.ext.items_grow o.ext.items_grow;
      refs = o.refs;
      called = λ g l. by-calls g l s₁ s₂ o.ext.items_grow (λ q. (let z : 0 + g ≡ g = omega arith in rw z at (u.called g l q))) o.ext.sorts (put_all D ts s₁).refs o.refs (calls_any (get_or D.functions g no-function).name ts) refl;
    }
  where
    by-calls : (g : ℕ) → g < length r.declarations.functions → (s₁ s₂ : List Item) → Grows s₁ s₂
        → (calls_any (get_or r.declarations.functions g no-function).name r.assertions ≡ false → CalledBy s₁ g)
        → (ss : List TreeSort) (rs : List Ref) → RefsOk r.declarations s₂ ss r.assertions rs
        → (b : Bool) → calls_any (get_or r.declarations.functions g no-function).name r.assertions ≡ b → CalledBy s₂ g
    by-calls g l s₁ s₂ gr first ss rs ok true e =
        let D : Declarations = r.declarations in
        let z : 0 + g ≡ g = omega arith in
        let n = own-number 0 D.functions (functions-distinct D (checked r h).names) g l ∙ ap (λ (k : ℕ). some k) z in
        refs-call D s₂ (get_or D.functions g no-function).name g n ss r.assertions rs (true→T e) ok
    by-calls g l s₁ s₂ gr first ss rs ok false e = called-grow s₁ s₂ gr g (first e)
