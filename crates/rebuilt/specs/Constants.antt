-- Laws of constants: those that a term uses have nodes once it ends, and a node is added only at the end.
use Rattle.std.specs.Prelude.{ℕ, zero, suc, ◌+◌, ◌*◌, ◌/◌, ◌%◌, ◌≤◌, ◌<◌, Bool, true, false, ◌&&◌, length}
use Rattle.std.proofs.Math.Path.{◌≡◌, refl}
use Rattle.std.proofs.Common.{ap, sym, ◌∙◌, subst, arith, le→leb}
use mathlib.Core.List.{List, [], ◌∷◌, ◌++◌, map}
use Rattle.std.proofs.Math.Option.{Option, none, some}
use Rattle.std.proofs.Math.Dec.{T, leb}
use Rattle.std.proofs.Math.ListN.{get_elem?}
use Rattle.std.proofs.lemmas.List.{length-replicate}
use Rattle.lists.specs.Tests.{same, every, All, and_0, and-1, and_T, by-test, same→eq, same_refl, all_append}
use Rattle.lists.specs.Places.{Grows, grows-refl, grows-snoc, grows-trans, find_at, find-append, find-snoc}
use Rattle.reading.specs.Trees.{Tree, variable, constant, apply, select, call, Trees, none as noTrees, more, Declarations}
use Rattle.echo_spec.specs.Shapes.{
  Shape,
  var,
  const,
  binary,
  rotation,
  extraction,
  concat,
  extension,
  ite,
  comparison,
  negation,
  connective,
  unary,
  unknown,
}
use Rattle.echo_spec.specs.Trees.{bits_value}
use Rattle.echo_spec.specs.TreeSorts.{TreeSort, bool, bits, proper, if_proper, width_of, rule_of, rule_for, sort_under, tree_sort, tree_sorts}
use Rattle.echo_spec.specs.TreeSortLaws.{cond-some, proper-if, Met}
use Rattle.readback.specs.Printable.{width_ok}
use Rattle.readback.specs.Rebuild.{
  Item,
  a_variable,
  a_constant,
  an_operator,
  a_select,
  a_call,
  is_constant,
  find_constant,
  with_constant,
  with_constants,
  pending,
  node_of,
  low_bits,
  amounts,
  own_bits,
  constants_among,
  zeros,
}
use Rattle.rebuilt.specs.Built.{Built, Fine, built-snoc, last-sort}

-- ---------------------------------------------------------------- a constant has a node

abbrev pub Has : List Item → List ℕ → Type 0
Has s bs = (i : ℕ) × (find_constant bs s ≡ some i)

abbrev pub HasAll : List Item → List (List ℕ) → Type 0
HasAll s [] = Unit
HasAll s (bs ∷ cs) = Has s bs × HasAll s cs

pub has-grow : (s t : List Item) → Grows s t → (bs : List ℕ) → Has s bs → Has t bs
has-grow s t (r, e) bs (i, f) = (i, rw e (find-append (is_constant bs) 0 s r i f))

pub has_left : (s : List Item) (cs ds : List (List ℕ)) → HasAll s (cs ++ ds) → HasAll s cs
has_left s [] ds h = tt
has_left s (bs ∷ cs) ds h = (h.0, has_left s cs ds h.1)

pub has_right : (s : List Item) (cs ds : List (List ℕ)) → HasAll s (cs ++ ds) → HasAll s ds
has_right s [] ds h = h
has_right s (bs ∷ cs) ds h = has_right s cs ds h.1

-- the item that passes is the constant
is-constant : (bs : List ℕ) (x : Item) → T (is_constant bs x) → x ≡ a_constant bs
unfolding is_constant
is-constant bs (a_variable w) h = absurd h
is-constant bs (a_constant cs) h = ap a_constant (sym (same→eq bs cs h))
is-constant bs (an_operator k ks xs ms) h = absurd h
is-constant bs (a_select a i ps) h = absurd h
is-constant bs (a_call g w xs) h = absurd h

-- the node of a constant that has one
pub node-of-constant : (s : List Item) (bs : List ℕ) → Has s bs → get_elem? s (node_of s (pending bs)) ≡ some (a_constant bs)
unfolding node_of
node-of-constant s bs (i, e) =
    let (j, x, p, q, h) = find_at (is_constant bs) 0 s i e in
    let z : i ≡ j = omega arith in
    let f : node_of s (pending bs) ≡ j = rw (e, node_of) z in
    rw f (q ∙ ap some (is-constant bs x h))

pub with-constant-grows : (bs : List ℕ) (s : List Item) → Grows s (with_constant bs s)
unfolding with_constant
with-constant-grows bs s = by-found (find_constant bs s) refl
  where
    by-found : (o : Option ℕ) → find_constant bs s ≡ o → Grows s (with_constant bs s)
    by-found none e = rw (e, with_constant) (grows-snoc s (a_constant bs))
    by-found (some i) e = rw (e, with_constant) (grows-refl s)

with-constant-has : (bs : List ℕ) (s : List Item) → Has (with_constant bs s) bs
unfolding with_constant is_constant
with-constant-has bs s = by-found (find_constant bs s) refl
  where
    by-found : (o : Option ℕ) → find_constant bs s ≡ o → Has (with_constant bs s) bs
    by-found none e = rw (e, with_constant) (0 + length s, find-snoc (is_constant bs) 0 s (a_constant bs) e (same_refl bs))
    by-found (some i) e = rw (e, with_constant) (i, e)

pub with-constants-grows : (cs : List (List ℕ)) (s : List Item) → Grows s (with_constants cs s)
unfolding with_constants
with-constants-grows [] s = grows-refl s
with-constants-grows (bs ∷ cs) s =
    grows-trans s (with_constant bs s) (with_constants cs (with_constant bs s)) (with-constant-grows bs s) (with-constants-grows cs (with_constant bs s))

pub with-constants-has : (cs : List (List ℕ)) (s : List Item) → HasAll (with_constants cs s) cs
unfolding with_constants
with-constants-has [] s = tt
with-constants-has (bs ∷ cs) s = (
  has-grow (with_constant bs s) (with_constants cs (with_constant bs s)) (with-constants-grows cs (with_constant bs s)) bs (with-constant-has bs s),
  with-constants-has cs (with_constant bs s),
)

-- ---------------------------------------------------------------- their sorts

-- a digit or more, not past 64 bits, each 0 or 1
abbrev pub constant_ok : List ℕ → Bool
constant_ok bs = width_ok (length bs) && every (λ b. leb b 1) bs

-- nodes with their sorts after others with theirs
pub record Extended (D : Declarations) (s : List Item) (ss : List TreeSort) (t : List Item) : Type 0 where
  pub sorts : List TreeSort
  pub items_grow : Grows s t
  pub sorts-grow : Grows ss sorts
  pub built : Built D t sorts

abbrev pub extended_refl : (D : Declarations) (s : List Item) (ss : List TreeSort) → Built D s ss → Extended D s ss s
extended_refl D s ss b = record { sorts = ss; items_grow = grows-refl s; sorts-grow = grows-refl ss; built = b }

abbrev pub extended_trans : (D : Declarations) (s : List Item) (ss : List TreeSort) (t u : List Item) (e : Extended D s ss t) → Extended D t e.sorts u → Extended D s ss u
extended_trans D s ss t u e f = record {
  sorts = f.sorts;
  items_grow = grows-trans s t u e.items_grow f.items_grow;
  sorts-grow = grows-trans ss e.sorts f.sorts e.sorts-grow f.sorts-grow;
  built = f.built;
}

module _ (D : Declarations) where
  with-constant-built : (bs : List ℕ) (s : List Item) (ss : List TreeSort) → T (constant_ok bs) → Built D s ss → Extended D s ss (with_constant bs s)
  unfolding with_constant
  with-constant-built bs s ss h b = by-found (find_constant bs s) refl
    where
      by-found : (o : Option ℕ) → find_constant bs s ≡ o → Extended D s ss (with_constant bs s)
      by-found none e =
          let σ : TreeSort = bits (length bs) in
          let x : Extended D s ss (s ++ (a_constant bs ∷ [])) = record {
            sorts = ss ++ (σ ∷ []);
            items_grow = grows-snoc s (a_constant bs);
            sorts-grow = grows-snoc ss σ;
            built =
                built-snoc D s ss (a_constant bs) σ b (and_0 (width_ok (length bs)) (every (λ b. leb b 1) bs) h)
                (by-test (λ b. leb b 1) bs (and-1 (width_ok (length bs)) (every (λ b. leb b 1) bs) h), last-sort s ss σ b.sized);
          } in
          rw (e, with_constant) x
      by-found (some i) e = rw (e, with_constant) (extended_refl D s ss b)

  pub with-constants-built : (cs : List (List ℕ)) (s : List Item) (ss : List TreeSort) → All constant_ok cs → Built D s ss → Extended D s ss (with_constants cs s)
  unfolding with_constants
  with-constants-built [] s ss h b = extended_refl D s ss b
  with-constants-built (bs ∷ cs) s ss h b =
      let e = with-constant-built bs s ss h.0 b in
      extended_trans D s ss (with_constant bs s) (with_constants cs (with_constant bs s)) e (with-constants-built cs (with_constant bs s) e.sorts h.1 e.built)

  -- ---------------------------------------------------------------- constants of a tree that has a sort

  pub constant-ok : (bs : List ℕ) (σ : TreeSort) → tree_sort D (constant bs) ≡ some σ → T (constant_ok bs) × (bits (length bs) ≡ σ)
  unfolding sort_under
  constant-ok bs σ e =
      let (b, f) = cond-some (every (λ b. leb b 1) bs) (if_proper (bits (length bs))) σ e in
      let (q, p) = proper-if (bits (length bs)) σ f in
      (and_T (width_ok (length bs)) (every (λ b. leb b 1) bs) (subst (λ (τ : TreeSort). T (proper τ)) (sym q) p) b, q)

  pub own-ok : (t : Tree) (σ : TreeSort) → tree_sort D t ≡ some σ → All constant_ok (own_bits t)
  unfolding own_bits
  own-ok (variable n) σ h = tt
  own-ok (constant bs) σ h = ((constant-ok bs σ h).0, tt)
  own-ok (apply k ks ts) σ h = tt
  own-ok (select a j ss) σ h = tt
  own-ok (call n ts) σ h = tt

  pub among-ok : (ts : Trees) (us : List TreeSort) → tree_sorts D ts ≡ map some us → All constant_ok (constants_among ts)
  unfolding constants_among sort_under
  among-ok noTrees us h = tt
  among-ok (more t ts) [] h = absurd (let z : ◌≡◌ {A = ℕ} 0 1 = cc in omega arith)
  among-ok (more t ts) (σ ∷ us) h =
      let e : tree_sort D t ≡ some σ = cc in
      let f : tree_sorts D ts ≡ map some us = cc in
      all_append constant_ok (own_bits t) (constants_among ts) (own-ok t σ e) (among-ok ts us f)

-- ---------------------------------------------------------------- amounts

pub length-low-bits : (w k : ℕ) → length (low_bits w k) ≡ w
unfolding low_bits
length-low-bits zero k = refl
length-low-bits (suc w) k = ap suc (length-low-bits w (k / 2))

low-bits-binary : (w k : ℕ) → T (every (λ b. leb b 1) (low_bits w k))
unfolding low_bits
low-bits-binary zero k = tt
low-bits-binary (suc w) k = and_T (leb (k % 2) 1) _ (le→leb (k % 2) 1 (omega arith)) (low-bits-binary w (k / 2))

low-bits-ok : (w k : ℕ) → T (width_ok w) → T (constant_ok (low_bits w k))
low-bits-ok w k h = and_T (width_ok (length (low_bits w k))) _ (subst (λ (n : ℕ). T (width_ok n)) (sym (length-low-bits w k)) h) (low-bits-binary w k)

-- the bits of a number that is no larger than their count
pub low-bits-value : (w k : ℕ) → k ≤ w → bits_value (low_bits w k) ≡ k
unfolding low_bits bits_value
low-bits-value zero k h = omega arith
low-bits-value (suc w) k h =
    let e : bits_value (low_bits w (k / 2)) ≡ k / 2 = low-bits-value w (k / 2) (omega arith) in
    rw e (omega arith)

map-low-bits-ok : (w : ℕ) → T (width_ok w) → (ks : List ℕ) → All constant_ok (map (low_bits w) ks)
map-low-bits-ok w h [] = tt
map-low-bits-ok w h (k ∷ ks) = (low-bits-ok w k h, map-low-bits-ok w h ks)

pub amounts-ok : (h : Shape) (ks : List ℕ) (os : List (Option TreeSort)) (σ : TreeSort) → Met h ks os σ → All constant_ok (amounts h (width_of (some σ)) ks)
unfolding amounts rule_of
amounts-ok var ks os σ m = tt
amounts-ok const ks os σ m = tt
amounts-ok binary ks os σ m = tt
amounts-ok rotation ks os σ m =
    let e : (rule_for rotation ks os).result ≡ σ = m.result in
    subst (λ (τ : TreeSort). All constant_ok (map (low_bits (width_of (some τ))) ks)) e (map-low-bits-ok (width_of (some (rule_for rotation ks os).result)) (subst (λ (τ : TreeSort). T (proper τ)) (sym e) m.proper) ks)
amounts-ok extraction ks os σ m = tt
amounts-ok concat ks os σ m = tt
amounts-ok extension ks os σ m = tt
amounts-ok ite ks os σ m = tt
amounts-ok comparison ks os σ m = tt
amounts-ok negation ks os σ m = tt
amounts-ok connective ks os σ m = tt
amounts-ok unary ks os σ m = tt
amounts-ok Shape.select ks os σ m = tt
amounts-ok Shape.call ks os σ m = tt
amounts-ok unknown ks os σ m = tt

-- ---------------------------------------------------------------- zeros

pub zeros-binary : (w : ℕ) → T (every (λ b. leb b 1) (zeros w))
zeros-binary zero = tt
zeros-binary (suc w) = zeros-binary w

pub zeros-ok : (w : ℕ) → T (width_ok w) → T (constant_ok (zeros w))
zeros-ok w h = and_T (width_ok (length (zeros w))) _ (subst (λ (n : ℕ). T (width_ok n)) (sym (length-replicate {A = ℕ} w 0)) h) (zeros-binary w)
