-- Constants that wait and get their nodes: what that adds, and that a node's number stays. Assumes nothing.
use Rattle.std.specs.Prelude.{ℕ, zero, suc, ◌+◌, ◌<◌, ◌≡◌, refl, false}
use Rattle.std.proofs.Math.Path.{ap}
use Rattle.std.proofs.Common.{sym, ◌∙◌, subst}
use mathlib.Core.List.{List, [], ◌∷◌, ◌++◌}
use Rattle.std.proofs.Math.Option.{none, some}
use native.Mathlib.Omega.{arith}
use Rattle.std.proofs.Math.ListN.{length, length-append}
use Rattle.lists.specs.Tests.{same_refl}
use Rattle.lists.specs.Places.{Grows, find-append, find-snoc}
use Rattle.readback.specs.Rebuild.{Item, a_constant, is_constant, find_constant, with_constant, with_constants, Ref, here, pending, node_of, low_bits, zeros, bits_in}
use Rattle.rebuilt.specs.Layout.{laid}
use Rattle.rebuilt.specs.Constants.{Has, HasAll, node-of-constant, with-constants-grows, with-constants-has}
use Rattle.heap_laws.specs.Heap.{within, pending_in, settled}
use Rattle.heap_laws.specs.Within.{over_by, over-grows}

-- ---------------------------------------------------------------- constants after others

pub with-constants-append : (cs ds : List (List ℕ)) (s : List Item) → with_constants (cs ++ ds) s ≡ with_constants ds (with_constants cs s)
unfolding with_constants
with-constants-append [] ds s = refl
with-constants-append (bs ∷ cs) ds s = with-constants-append cs ds (with_constant bs s)

pub pending-append : (rs qs : List Ref) → pending_in (rs ++ qs) ≡ pending_in rs ++ pending_in qs
unfolding pending_in
pending-append [] qs = refl
pending-append (here i ∷ rs) qs = pending-append rs qs
pending-append (pending bs ∷ rs) qs = ap (λ (l : List (List ℕ)). bs ∷ l) (pending-append rs qs)

-- ---------------------------------------------------------------- a node's number stays

pub node-grows : (s t : List Item) → Grows s t → (bs : List ℕ) → Has s bs → node_of t (pending bs) ≡ node_of s (pending bs)
unfolding node_of
node-grows s t (r, e) bs (i, f) =
    let g : find_constant bs t ≡ some i = rw e (find-append (is_constant bs) 0 s r i f) in
    rw (f, g, node_of)

pub settled-grows : (s t : List Item) → Grows s t → (rs : List Ref) → HasAll s (pending_in rs) → settled t rs ≡ settled s rs
unfolding pending_in node_of
settled-grows s t g [] h = refl
settled-grows s t g (here i ∷ rs) h = ap (λ (l : List Ref). here i ∷ l) (settled-grows s t g rs h)
settled-grows s t g (pending bs ∷ rs) h =
    let e = node-grows s t g bs h.0 in
    let f = settled-grows s t g rs h.1 in
    λ i. here (e i) ∷ f i

-- ---------------------------------------------------------------- one constant

module _ (bs : List ℕ) (s : List Item) where
  pub constant-found : (k : ℕ) → find_constant bs s ≡ some k → (with_constant bs s ≡ s) × (node_of (with_constant bs s) (pending bs) ≡ k)
  unfolding with_constant node_of
  constant-found k e =
      let f : with_constant bs s ≡ s = rw (e, with_constant) in
      (f, ap (λ (t : List Item). node_of t (pending bs)) f ∙ rw (e, node_of))

  pub constant-new : find_constant bs s ≡ none → (with_constant bs s ≡ s ++ (a_constant bs ∷ [])) × (node_of (with_constant bs s) (pending bs) ≡ length s)
  unfolding with_constant node_of is_constant
  constant-new e =
      let f : with_constant bs s ≡ s ++ (a_constant bs ∷ []) = rw (e, with_constant) in
      let g : find_constant bs (s ++ (a_constant bs ∷ [])) ≡ some (0 + length s) = find-snoc (is_constant bs) 0 s (a_constant bs) e (same_refl bs) in
      let z : 0 + length s ≡ length s = omega arith in
      (f, ap (λ (t : List Item). node_of t (pending bs)) f ∙ rw (g, node_of) z)

  -- a constant of more bits than may be has no place
  pub over-wide : 131072 < length bs → within (with_constant bs s) ≡ false
  unfolding with_constants bits_in
  over-wide l =
      let t : List Item = with_constant bs s in
      let h : HasAll t (bs ∷ []) = with-constants-has (bs ∷ []) s in
      let d = laid t (node_of t (pending bs)) (a_constant bs) (node-of-constant t bs h.0) 0 0 in
      let e = ap length d.bits_split ∙ length-append d.bits_before (bs ++ d.bits_after) in
      let f = length-append bs d.bits_after in
      over_by t (λ w. omega (arith, w.bits))

-- those of a part of the constants are over a limit
pub over-part : (cs ds : List (List ℕ)) (s : List Item) → within (with_constants cs s) ≡ false → within (with_constants (cs ++ ds) s) ≡ false
over-part cs ds s e =
    over-grows (with_constants cs s) (with_constants (cs ++ ds) s)
    (subst (Grows (with_constants cs s)) (sym (with-constants-append cs ds s)) (with-constants-grows ds (with_constants cs s))) e

-- ---------------------------------------------------------------- zeros

pub low_zeros : (w : ℕ) → low_bits w 0 ≡ zeros w
unfolding low_bits
low_zeros zero = refl
low_zeros (suc w) = ap (λ (l : List ℕ). 0 ∷ l) (low_zeros w)
