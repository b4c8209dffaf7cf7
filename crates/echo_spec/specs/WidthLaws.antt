-- Laws of the width pass: each node whose width is known is well formed after the nodes before it, and has that width.
use Prim.Native.Nat.{ℕ, zero, suc, ◌+◌, ◌≤◌, ◌<◌}
use Rattle.std.specs.Prelude.{◌≡◌, Bool, take, get_or}
use Rattle.std.proofs.Math.Path.{refl, sym}
use Rattle.std.proofs.Common.{◌∙◌, length-take-le, get_or-take}
use mathlib.Core.List.{List, [], ◌∷◌, ◌++◌, append_assoc, append-nil}
use Rattle.std.proofs.Math.Bool.{true, false}
use native.Mathlib.Omega.{arith}
use lib.Dec.{T, ltb, eqb, eqb→eq, ltb→lt}
use Rattle.std.proofs.Math.ListN.{length, length-append}
use Rattle.std.proofs.Math.Seq.{take-append_seam, get_or-append_seam}
use Rattle.lists.specs.Tests.{All, and_0, and-1, true→T}
use Rattle.echo_spec.specs.Input.{ArrayWidths, Node, no_node}
use Rattle.echo_spec.specs.Widths.{width_at, earlier, earlier_of, un_wf, bin_wf, args_wf, node_wf, node_width, ext_wf_from, ext_wf_of}

-- node n, number i, after the first i of the widths
pub record Sized (nbits : ℕ) (arrays : ArrayWidths) (side ws : List ℕ) (i : ℕ) (n : Node) : Type 0 where
  pub wf : T (node_wf nbits arrays side (take i ws) n)
  pub width : get_or ws i 0 ≡ node_width arrays (take i ws) n

module _ (nbits : ℕ) (arrays : ArrayWidths) (side : List ℕ) where
  -- the pass only adds to the widths that it has
  from-prefix : (ns : List Node) (ws : List ℕ) → (rest : List ℕ) × (ext_wf_from nbits arrays side ws ns ≡ ws ++ rest)
  unfolding ext_wf_from
  from-prefix [] ws = ([], sym (append-nil ws))
  from-prefix (n ∷ ns) ws = by-node (node_wf nbits arrays side ws n) refl (from-prefix ns (ws ++ (node_width arrays ws n ∷ [])))
    where
      by-node : (b : Bool) → node_wf nbits arrays side ws n ≡ b
          → (rest : List ℕ) × (ext_wf_from nbits arrays side (ws ++ (node_width arrays ws n ∷ [])) ns ≡ (ws ++ (node_width arrays ws n ∷ [])) ++ rest)
          → (rest : List ℕ) × (ext_wf_from nbits arrays side ws (n ∷ ns) ≡ ws ++ rest)
      by-node true e (rest, q) = (node_width arrays ws n ∷ rest, rw (e, ext_wf_from) (q ∙ append_assoc ws (node_width arrays ws n ∷ []) rest))
      by-node false e (rest, q) = ([], rw (e, ext_wf_from) (sym (append-nil ws)))

  -- the node that the pass came to with the widths ws
  first-sized : (ws rest : List ℕ) (n : Node) → T (node_wf nbits arrays side ws n) → Sized nbits arrays side ((ws ++ (node_width arrays ws n ∷ [])) ++ rest) (length ws) n
  first-sized ws rest n h =
      let e : (ws ++ (node_width arrays ws n ∷ [])) ++ rest ≡ ws ++ (node_width arrays ws n ∷ rest) = append_assoc ws (node_width arrays ws n ∷ []) rest in
      let t : take (length ws) ((ws ++ (node_width arrays ws n ∷ [])) ++ rest) ≡ ws = rw e (take-append_seam ws (node_width arrays ws n ∷ rest)) in
      record { wf = rw t h; width = rw t (rw e (get_or-append_seam ws (node_width arrays ws n) rest 0)) }

  sized-from : (ns : List Node) (ws : List ℕ) (k : ℕ) → length ws + k < length (ext_wf_from nbits arrays side ws ns)
      → Sized nbits arrays side (ext_wf_from nbits arrays side ws ns) (length ws + k) (get_or ns k no_node)
  unfolding ext_wf_from
  sized-from [] ws k h = absurd (omega arith)
  sized-from (n ∷ ns) ws k h = by-node (node_wf nbits arrays side ws n) refl h (λ j. sized-from ns (ws ++ (node_width arrays ws n ∷ [])) j)
    where
      by_place : (k : ℕ) → T (node_wf nbits arrays side ws n) → length ws + k < length (ext_wf_from nbits arrays side (ws ++ (node_width arrays ws n ∷ [])) ns)
          → ((j : ℕ) → length (ws ++ (node_width arrays ws n ∷ [])) + j < length (ext_wf_from nbits arrays side (ws ++ (node_width arrays ws n ∷ [])) ns)
          → Sized nbits arrays side (ext_wf_from nbits arrays side (ws ++ (node_width arrays ws n ∷ [])) ns) (length (ws ++ (node_width arrays ws n ∷ [])) + j) (get_or ns j no_node))
          → Sized nbits arrays side (ext_wf_from nbits arrays side (ws ++ (node_width arrays ws n ∷ [])) ns) (length ws + k) (get_or (n ∷ ns) k no_node)
      by_place zero t h rest =
          let p = from-prefix ns (ws ++ (node_width arrays ws n ∷ [])) in
          let z : length ws + 0 ≡ length ws = omega arith in
          rw (p.1, z) (first-sized ws p.0 n t)
      by_place (suc k) t h rest =
          let l : length (ws ++ (node_width arrays ws n ∷ [])) ≡ length ws + 1 = length-append ws (node_width arrays ws n ∷ []) in
          let z : length ws + suc k ≡ length (ws ++ (node_width arrays ws n ∷ [])) + k = omega arith in
          rw z (rest k (rw z at h))

      by-node : (b : Bool) → node_wf nbits arrays side ws n ≡ b → length ws + k < length (ext_wf_from nbits arrays side ws (n ∷ ns))
          → ((j : ℕ) → length (ws ++ (node_width arrays ws n ∷ [])) + j < length (ext_wf_from nbits arrays side (ws ++ (node_width arrays ws n ∷ [])) ns)
          → Sized nbits arrays side (ext_wf_from nbits arrays side (ws ++ (node_width arrays ws n ∷ [])) ns) (length (ws ++ (node_width arrays ws n ∷ [])) + j) (get_or ns j no_node))
          → Sized nbits arrays side (ext_wf_from nbits arrays side ws (n ∷ ns)) (length ws + k) (get_or (n ∷ ns) k no_node)
      by-node true e h rest = rw (e, ext_wf_from) (by_place k (true→T e) (rw (e, ext_wf_from) at h) rest)
      by-node false e h rest = absurd (let h' : length ws + k < length ws = rw (e, ext_wf_from) at h in omega arith)

pub sized : (nbits : ℕ) (arrays : ArrayWidths) (side : List ℕ) (ns : List Node) (i : ℕ) → i < length (ext_wf_of nbits arrays side ns)
    → Sized nbits arrays side (ext_wf_of nbits arrays side ns) i (get_or ns i no_node)
unfolding ext_wf_of
sized nbits arrays side ns i h =
    let z : 0 + i ≡ i = omega arith in
    rw z at (sized-from nbits arrays side ns [] i (rw z h))

-- ---------------------------------------------------------------- operands of a well-formed node

module _ (ws : List ℕ) (i : ℕ) (h : i < length ws) where
  length_before : length (take i ws) ≡ i
  length_before = length-take-le i ws (omega arith)

  pub earlier-below : (j : ℕ) → T (earlier (take i ws) j) → j < i
  earlier-below j t =
      let l : j < length (take i ws) = ltb→lt j (length (take i ws)) t in
      rw length_before at l

  pub width-before : (j : ℕ) → j < i → width_at (take i ws) j ≡ width_at ws j
  width-before j l = get_or-take i ws j 0 l

  pub earlier-width : (w j : ℕ) → T (earlier_of (take i ws) w j) → (j < i) × (width_at ws j ≡ w)
  earlier-width w j t =
      let l = earlier-below j (and_0 (earlier (take i ws) j) (eqb (width_at (take i ws) j) w) t) in
      (l, sym (width-before j l) ∙ eqb→eq (width_at (take i ws) j) w (and-1 (earlier (take i ws) j) (eqb (width_at (take i ws) j) w) t))

  pub un-operand : (a : ℕ) → T (un_wf (take i ws) a) → (a < i) × (0 < width_at ws a)
  unfolding un_wf
  un-operand a t =
      let l = earlier-below a (and_0 (earlier (take i ws) a) (ltb 0 (width_at (take i ws) a)) t) in
      (l, rw (width-before a l) at (ltb→lt 0 (width_at (take i ws) a) (and-1 (earlier (take i ws) a) (ltb 0 (width_at (take i ws) a)) t)))

  pub bin-operands : (a b : ℕ) → T (bin_wf (take i ws) a b) → (a < i) × (b < i) × (0 < width_at ws a) × (width_at ws a ≡ width_at ws b)
  unfolding bin_wf
  bin-operands a b t =
      let t₁ = and-1 (earlier (take i ws) a) _ t in
      let t₂ = and-1 (earlier (take i ws) b) _ t₁ in
      let p = earlier-below a (and_0 (earlier (take i ws) a) _ t) in
      let q = earlier-below b (and_0 (earlier (take i ws) b) _ t₁) in (
        p,
        q,
        rw (width-before a p) at (ltb→lt 0 (width_at (take i ws) a) (and_0 (ltb 0 (width_at (take i ws) a)) _ t₂)),
        sym (width-before a p) ∙ eqb→eq (width_at (take i ws) a) (width_at (take i ws) b) (and-1 (ltb 0 (width_at (take i ws) a)) _ t₂) ∙ width-before b q,
      )

  pub args-operands : (n : ℕ) (side : List ℕ) → T (args_wf (take i ws) n side) → All (λ x. ltb x i) (take n side) × (n ≤ length side)
  unfolding args_wf
  args-operands zero side t = (tt, omega arith)
  args-operands (suc n) [] t = absurd t
  args-operands (suc n) (x ∷ side) t =
      let rest = args-operands n side (and-1 (earlier (take i ws) x) (args_wf (take i ws) n side) t) in
      ((lib.Dec.lt→ltb x i (earlier-below x (and_0 (earlier (take i ws) x) (args_wf (take i ws) n side) t)), rest.0), omega arith)
