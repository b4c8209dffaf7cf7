-- What the functions of the pass ask and say of the widths so far.
use Rattle.std.specs.Prelude.{ℕ, ◌+◌, ◌≤◌, ◌≡◌, List, [], ◌∷◌, ◌++◌, Bool, true, false, length, take}
use Rattle.std.proofs.Math.Path.{refl}
use Rattle.std.proofs.Common.{ap, sym, ◌∙◌, arith, length-append, length-take}
use Rattle.echo_spec.specs.Input.{ArrayWidths, Node}
use Rattle.echo_spec.specs.Widths.{node_wf, node_width, ext_wf_from, ext_wf_of}

-- r nodes come before the first that is not well formed, and the first r places of ws have their widths
pub record Passed (nbits : ℕ) (arrays : ArrayWidths) (side : List ℕ) (ns : List Node) (r : ℕ) (ws : List ℕ) : Type 0 where
  pub count : r ≡ length (ext_wf_of nbits arrays side ns)
  pub table : take r ws ≡ ext_wf_of nbits arrays side ns

-- ---------------------------------------------------------------- laws

-- one node more
module _ (nbits : ℕ) (arrays : ArrayWidths) (side ws : List ℕ) (n : Node) (ns : List Node) where
  pub from-formed : node_wf nbits arrays side ws n ≡ true
      → ext_wf_from nbits arrays side ws (n ∷ ns) ≡ ext_wf_from nbits arrays side (ws ++ (node_width arrays ws n ∷ [])) ns
  unfolding ext_wf_from
  from-formed e = rw (e, ext_wf_from) refl

  pub from-refused : node_wf nbits arrays side ws n ≡ false → ext_wf_from nbits arrays side ws (n ∷ ns) ≡ ws
  unfolding ext_wf_from
  from-refused e = rw (e, ext_wf_from) refl

-- no more widths than nodes
from-short : (nbits : ℕ) (arrays : ArrayWidths) (side ws : List ℕ) (ns : List Node) → length (ext_wf_from nbits arrays side ws ns) ≤ length ws + length ns
unfolding ext_wf_from
from-short nbits arrays side ws [] = omega arith
from-short nbits arrays side ws (n ∷ ns) =
    go (node_wf nbits arrays side ws n) refl (from-short nbits arrays side (ws ++ (node_width arrays ws n ∷ [])) ns)
  where
    go : (b : Bool) → node_wf nbits arrays side ws n ≡ b
        → length (ext_wf_from nbits arrays side (ws ++ (node_width arrays ws n ∷ [])) ns) ≤ length (ws ++ (node_width arrays ws n ∷ [])) + length ns
        → length (ext_wf_from nbits arrays side ws (n ∷ ns)) ≤ length ws + length (n ∷ ns)
    go true e h = rw (from-formed nbits arrays side ws n ns e) (omega (arith, length-append ws (node_width arrays ws n ∷ [])))
    go false e h = rw (from-refused nbits arrays side ws n ns e) (omega arith)

pub ext-wf-short : (nbits : ℕ) (arrays : ArrayWidths) (side : List ℕ) (ns : List Node) → length (ext_wf_of nbits arrays side ns) ≤ length ns
unfolding ext_wf_of
ext-wf-short nbits arrays side ns = omega (arith, from-short nbits arrays side [] ns)

module _ {nbits : ℕ} {arrays : ArrayWidths} {side : List ℕ} {ns : List Node} {r : ℕ} {ws : List ℕ} (p : Passed nbits arrays side ns r ws) where
  -- the widths lie within the table
  pub passed_length : r ≡ length (take r ws)
  passed_length = p.count ∙ sym (ap length p.table)

  pub passed-within : r ≤ length ws
  passed-within = omega (arith, passed_length, length-take r ws)
