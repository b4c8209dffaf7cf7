-- The pass over the nodes, one a turn. Assumes nothing.
use Prim.Native.Nat.{ℕ, suc, ◌+◌, ◌≤◌, ◌<◌}
use mathlib.Core.Path.{◌≡◌, refl, ap, sym, ◌∙◌}
use mathlib.Core.List.{List, ◌∷◌}
use mathlib.Core.Bool.{Bool, true, false}
use native.Mathlib.Omega.{arith}
use native.Mathlib.Numerals.{add-one}
use lib.ListN.{length, take, drop, get_or, set, length-set, drop_of_length-le}
use lib.Seq.{drop-cons, take-suc-set, length-take-le}
use Rattle.std.specs.Prelude.{None, Some}
use Rattle.std.specs.Bool.{then_some}
use Rattle.echo_spec.specs.Input.{ArrayWidths, Node, no_node}
use Rattle.echo_spec.specs.Widths.{node_wf, node_width, ext_wf_from, ext_wf_of}
use Rattle.sliver_kernel.specs.Pass.{Passed, from-formed, from-refused}

-- ---------------------------------------------------------------- an answer of a node

none : (b : Bool) (w : ℕ) → None ≡ then_some b w → b ≡ false
none true w e = cc
none false w e = refl

some : (b : Bool) (v w : ℕ) → Some v ≡ then_some b w → (b ≡ true) × (v ≡ w)
some true v w e = (refl, cc)
some false v w e = cc

-- ---------------------------------------------------------------- the loop

-- the first i places of ws, a table that was lent, have the widths of the first i of the n nodes, and the others are to come
pub record Going (nbits : ℕ) (arrays : ArrayWidths) (side : List ℕ) (ns : List Node) (n : ℕ) (lent ws : List ℕ) (i : ℕ) : Type 0 where
  pub all : n ≡ length ns
  pub size : length ws ≡ length lent
  pub within : i ≤ n
  pub rest : ext_wf_of nbits arrays side ns ≡ ext_wf_from nbits arrays side (take i ws) (drop i ns)

pub going_start : {nbits : ℕ} {arrays : ArrayWidths} {side : List ℕ} {ns : List Node} {n : ℕ} {ws : List ℕ} → n ≡ length ns → Going nbits arrays side ns n ws ws 0
unfolding ext_wf_of
going_start e = record { all = e; size = refl; within = omega arith; rest = refl }

module _ {nbits : ℕ} {arrays : ArrayWidths} {side : List ℕ} {ns : List Node} {n : ℕ} {lent ws : List ℕ} {i : ℕ}
    (h : Going nbits arrays side ns n lent ws i) (room : length ns ≤ length lent) where
  stopped : ext_wf_of nbits arrays side ns ≡ take i ws → Passed nbits arrays side ns i ws
  stopped e =
      let l : i ≤ length ws = omega (arith, h.all, h.size, h.within) in
      record { count = sym (ap length e ∙ length-take-le i ws l); table = sym e }

  pub going-ends : n ≤ i → Passed nbits arrays side ns n ws
  unfolding ext_wf_from
  going-ends l =
      let p : length ns ≤ i = omega (arith, h.all) in
      let e : n ≡ i = omega (arith, h.within) in
      rw e (stopped (h.rest ∙ rw (drop_of_length-le ns p) refl))

  module _ (x : Node) (at : get_or ns i no_node ≡ x) (l : i < n) where
    next : drop i ns ≡ x ∷ drop (suc i) ns
    next = drop-cons ns i no_node (omega (arith, h.all)) ∙ ap (λ (y : Node). y ∷ drop (suc i) ns) at

    pub going-stops : None ≡ then_some (node_wf nbits arrays side (take i ws) x) (node_width arrays (take i ws) x) → Passed nbits arrays side ns i ws
    going-stops e = stopped (h.rest ∙ rw next (from-refused nbits arrays side (take i ws) x (drop (suc i) ns) (none _ _ e)))

    pub going_next : {w : ℕ} → Some w ≡ then_some (node_wf nbits arrays side (take i ws) x) (node_width arrays (take i ws) x)
        → Going nbits arrays side ns n lent (set ws i w) (i + 1)
    going_next {w} e =
        let p = some _ _ _ e in
        let m : i < length ws = omega (arith, h.all, h.size) in
        record {
          all = h.all;
          size = length-set ws i w ∙ h.size;
          within = omega arith;
          rest =
              h.rest
              ∙ rw (next, add-one, take-suc-set ws i w m, p.1) (from-formed nbits arrays side (take i ws) x (drop (suc i) ns) p.0);
        }
