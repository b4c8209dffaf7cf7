-- What each way out of `ext_wf` answers. Assumes nothing.
use Prim.Native.Nat.{ℕ, ◌≤◌, ◌<◌}
use mathlib.Core.Path.{◌≡◌, refl, sym, ◌∙◌}
use mathlib.Core.List.{List, [], ◌∷◌}
use mathlib.Core.Bool.{Bool, true, false, not}
use native.Mathlib.Omega.{arith}
use borrow.Author.Tests.{not-true, not-false, eq-eqb, ne_eqb, le-leb, lt-leb}
use lib.Dec.{eqb}
use lib.ListN.{length, take}
use Rattle.lists.specs.Tests.{and-true, and_0, T→true, true→T}
use Rattle.echo_spec.specs.Input.{ArrayWidths, nodes_of, nodes_within, pass_within, encoded}
use Rattle.echo_spec.specs.Widths.{array_widths_ok}
use Rattle.echo_spec.specs.Tables.{one_length}
use Rattle.echo_spec.specs.Answers.{at_front, zeroed, width_refusal, refused_node, width_answer, ext_wf_answer}
use Rattle.std.specs.Prelude.{Ok, Err}
use Rattle.sliver_kernel.specs.declared.WidthError.TheVariants.{Malformed, Encoding, Limit, Room, ArrayWidth}
use Rattle.sliver_kernel.specs.Outcomes.{answered, Ready, AllFormed}
use Rattle.sliver_kernel.specs.Pass.{Passed, ext-wf-short}

-- two columns are of one length
pub two-lengths : (a b : List ℕ) → one_length (a ∷ b ∷ []) ≡ eqb (length b) (length a)
unfolding one_length
two-lengths a b = rw (eq-eqb (length a) (length a) refl, and-true) refl

pub even : (a b : List ℕ) → length a ≡ length b → one_length (a ∷ b ∷ []) ≡ true
even a b e = two-lengths a b ∙ eq-eqb (length b) (length a) (sym e)

pub odd : (a b : List ℕ) → (length a ≡ length b → ⊥) → one_length (a ∷ b ∷ []) ≡ false
odd a b e = two-lengths a b ∙ ne_eqb (length b) (length a) (λ q. e (sym q))

-- a test in the code, whose answer is that of a test in the definition
module _ {r b : Bool} (e : r ≡ b) where
  pub passed : not r ≡ false → b ≡ true
  passed q = sym e ∙ not-false r q

  pub failed : not r ≡ true → b ≡ false
  failed q = sym e ∙ not-true r q

-- the nodes' part of the limits
pub nodes-passed : (nodes bits side : List ℕ) (arrays : ArrayWidths) → pass_within nodes bits side arrays ≡ true → nodes_within nodes bits side ≡ true
unfolding pass_within
nodes-passed nodes bits side arrays e = T→true (nodes_within nodes bits side) (and_0 (nodes_within nodes bits side) _ (true→T e))

module _ (nodes bits side : List ℕ) (arrays : ArrayWidths) (lent : List ℕ) where
  pub over-limit : pass_within nodes bits side arrays ≡ false → answered (Err Limit) (zeroed lent) ≡ ext_wf_answer nodes bits side arrays lent
  unfolding ext_wf_answer width_refusal width_answer
  over-limit e = rw e refl

  module _ (e : pass_within nodes bits side arrays ≡ true) where
    pub ill-encoded : encoded nodes bits ≡ false → answered (Err Encoding) (zeroed lent) ≡ ext_wf_answer nodes bits side arrays lent
    unfolding ext_wf_answer width_refusal width_answer
    ill-encoded f = rw (e, f) refl

    module _ (f : encoded nodes bits ≡ true) where
      pub uneven : {n : ℕ} → n ≡ length (nodes_of nodes) → one_length (arrays.index ∷ arrays.value ∷ []) ≡ false
          → answered (Err (Malformed n)) (zeroed lent) ≡ ext_wf_answer nodes bits side arrays lent
      unfolding ext_wf_answer width_refusal refused_node width_answer
      uneven c g = rw (e, f, g, c) refl

      pub not-allowed : one_length (arrays.index ∷ arrays.value ∷ []) ≡ true → array_widths_ok arrays ≡ false
          → answered (Err ArrayWidth) (zeroed lent) ≡ ext_wf_answer nodes bits side arrays lent
      unfolding ext_wf_answer width_refusal width_answer
      not-allowed g h = rw (e, f, g, h) refl

module _ {nodes bits side : List ℕ} {arrays : ArrayWidths} (h : Ready nodes bits side arrays)
    {n : ℕ} {ws : List ℕ} (p : Passed (length bits) arrays side (nodes_of nodes) n ws) where
  pub node-refused : (lent : List ℕ) → n < length (nodes_of nodes)
      → answered (Err (Malformed n)) (zeroed lent) ≡ ext_wf_answer nodes bits side arrays lent
  unfolding ext_wf_answer width_refusal refused_node width_answer
  node-refused lent l =
      rw (h.within, h.well, h.even, h.allowed, ← p.count, ne_eqb n (length (nodes_of nodes)) (λ q. omega arith)) refl

  pub all-formed : length (nodes_of nodes) ≤ n → AllFormed nodes bits side arrays n ws
  all-formed l =
      record { ready = h; passed = p; all = omega (arith, p.count, ext-wf-short (length bits) arrays side (nodes_of nodes)) }

module _ {nodes bits side : List ℕ} {arrays : ArrayWidths} {n : ℕ} {ws : List ℕ} (a : AllFormed nodes bits side arrays n ws) (lent : List ℕ) where
  pub no_room : {out : List ℕ} → length lent < n → out ≡ zeroed lent → answered (Err Room) out ≡ ext_wf_answer nodes bits side arrays lent
  unfolding ext_wf_answer width_refusal width_answer
  no_room m z =
      rw (
        a.ready.within,
        a.ready.well,
        a.ready.even,
        a.ready.allowed,
        ← a.passed.count,
        eq-eqb n (length (nodes_of nodes)) a.all,
        lt-leb n (length lent) m,
        z,
      )
      refl

  pub accepted : {out : List ℕ} → n ≤ length lent → out ≡ at_front (take n ws) lent
      → answered (Ok n) out ≡ ext_wf_answer nodes bits side arrays lent
  unfolding ext_wf_answer width_refusal width_answer
  accepted m z =
      rw (
        a.ready.within,
        a.ready.well,
        a.ready.even,
        a.ready.allowed,
        ← a.passed.count,
        eq-eqb n (length (nodes_of nodes)) a.all,
        le-leb n (length lent) m,
        z,
        a.passed.table,
        ← a.passed.count,
      )
      refl
