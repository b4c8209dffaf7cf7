-- Laws of well-formed nodes: what specs/NodeLaws.antt says holds of each node that the width pass comes to.
use Prim.Native.Nat.{ℕ, zero, suc, ◌+◌, ◌≤◌, ◌<◌}
use Rattle.std.specs.Prelude.{◌≡◌, ◌&&◌, length, take, drop, get_or}
use Rattle.std.proofs.Common.{◌∙◌, arith, lt→ltb}
use mathlib.Core.List.{List, [], ◌∷◌, map}
use Rattle.std.proofs.Math.Bool.{Bool}
use Rattle.std.proofs.Math.Dec.{T, leb, ltb, leb→le, ltb→lt}
use Rattle.lists.specs.Tests.{every, All, and_0, and-1, all_append}
use Rattle.echo_spec.specs.Shapes.{
  Shape,
  var,
  const,
  binary,
  rotation,
  extraction,
  concat,
  extension,
  ite,
  comparison,
  negation,
  connective,
  unary,
  select,
  call,
  unknown,
}
use Rattle.echo_spec.specs.Input.{ArrayWidths, Node, shape, no_node, largest, fits64}
use Rattle.echo_spec.specs.Widths.{
  index_width_of,
  value_width_of,
  array_width_limit,
  array_width_ok,
  array_widths_ok,
  width_at,
  earlier,
  earlier_of,
  un_wf,
  bool_bin_wf,
  extend_wf,
  chain_wf,
  wf_as,
  node_wf,
  width_as,
  node_width,
  ext_wf_of,
}
use Rattle.echo_spec.specs.Walk.{Operand, vector, levels, operands_as}
use Rattle.echo_spec.specs.WidthLaws.{sized, earlier-below, width-before, earlier-width, un-operand, bin-operands, args-operands}
use Rattle.echo_spec.specs.NodeLaws.{Pairs, Formed, Low, Facts}

-- ---------------------------------------------------------------- from the width pass

module _ (ws : List ℕ) (i : ℕ) (here : i < length ws) where
  pairs : (iw vw n : ℕ) (side : List ℕ) → T (chain_wf iw vw (take i ws) n side) → Pairs ws i iw vw n side
  unfolding chain_wf
  pairs iw vw zero side t = tt
  pairs iw vw (suc n) [] t = t
  pairs iw vw (suc n) (x ∷ []) t = t
  pairs iw vw (suc n) (x ∷ v ∷ side) t =
      let t₁ = and-1 (earlier_of (take i ws) iw x) _ t in (
        earlier-width ws i here iw x (and_0 (earlier_of (take i ws) iw x) _ t),
        earlier-width ws i here vw v (and_0 (earlier_of (take i ws) vw v) _ t₁),
        pairs iw vw n side (and-1 (earlier_of (take i ws) vw v) _ t₁),
      )

  module _ (nbits : ℕ) (arrays : ArrayWidths) (side : List ℕ) (n : Node) where
    pub formed : (s : Shape) → T (wf_as nbits arrays side (take i ws) n s) → width_at ws i ≡ width_as arrays (take i ws) n s → Formed ws i nbits arrays side n s
    unfolding wf_as width_as
    formed var t w = (ltb→lt 0 n.a (and_0 (ltb 0 n.a) _ t), and-1 (ltb 0 n.a) _ t, w)
    formed const t w =
        let t₁ = and-1 (ltb 0 n.b) _ t in
        (ltb→lt 0 n.b (and_0 (ltb 0 n.b) _ t), and_0 (fits64 n.b) _ t₁, leb→le (n.a + n.b) nbits (and-1 (fits64 n.b) _ t₁), w)
    formed binary t w = let o = bin-operands ws i here n.a n.b t in (o, w ∙ width-before ws i here n.a o.0)
    formed rotation t w = let o = bin-operands ws i here n.a n.b t in (o, w ∙ width-before ws i here n.a o.0)
    formed extraction t w =
        let lc = earlier-below ws i here n.c (and_0 (earlier (take i ws) n.c) _ t) in
        let t₁ = and-1 (earlier (take i ws) n.c) _ t in
        let high = rw (width-before ws i here n.c lc) at (and-1 (leb n.b n.a) _ t₁) in
        (lc, leb→le n.b n.a (and_0 (leb n.b n.a) _ t₁), ltb→lt n.a (width_at ws n.c) high, w)
    formed concat t w =
        let t₁ = and-1 (un_wf (take i ws) n.a) _ t in
        let (la, p) = un-operand ws i here n.a (and_0 (un_wf (take i ws) n.a) _ t) in
        let (lb, q) = un-operand ws i here n.b (and_0 (un_wf (take i ws) n.b) _ t₁) in
        let sum = and-1 (un_wf (take i ws) n.b) _ t₁ in
        (la, lb, p, rw (width-before ws i here n.a la, width-before ws i here n.b lb) at sum, rw (width-before ws i here n.a la, width-before ws i here n.b lb) at w)
    formed extension t w =
        let t' : T (un_wf (take i ws) n.a && leb (width_at (take i ws) n.a + n.b) largest) = unfold extend_wf in t in
        let (la, p) = un-operand ws i here n.a (and_0 (un_wf (take i ws) n.a) _ t') in
        (la, p, rw (width-before ws i here n.a la) at (and-1 (un_wf (take i ws) n.a) _ t'), rw (width-before ws i here n.a la) at w)
    formed ite t w =
        let o = bin-operands ws i here n.b n.c (and-1 (earlier_of (take i ws) 1 n.a) _ t) in
        (earlier-width ws i here 1 n.a (and_0 (earlier_of (take i ws) 1 n.a) _ t), o, w ∙ width-before ws i here n.b o.0)
    formed comparison t w = (bin-operands ws i here n.a n.b t, w)
    formed negation t w = (earlier-width ws i here 1 n.a t, w)
    formed connective t w =
        let t' : T (earlier_of (take i ws) 1 n.a && earlier_of (take i ws) 1 n.b) = unfold bool_bin_wf in t in
        (earlier-width ws i here 1 n.a (and_0 (earlier_of (take i ws) 1 n.a) _ t'), earlier-width ws i here 1 n.b (and-1 (earlier_of (take i ws) 1 n.a) _ t'), w)
    formed unary t w = let (la, p) = un-operand ws i here n.a t in (la, p, w ∙ width-before ws i here n.a la)
    formed select t w =
        let first : Bool = earlier_of (take i ws) (index_width_of arrays.index n.a) n.b in
        (earlier-width ws i here (index_width_of arrays.index n.a) n.b (and_0 first _ t), pairs (index_width_of arrays.index n.a) (value_width_of arrays.value n.a) n.d (drop n.c side) (and-1 first _ t), w)
    formed call t w =
        let t₁ = and-1 (ltb 0 n.b) _ t in
        let (low, inside) = args-operands ws i here n.d (drop n.c side) (and-1 (fits64 n.b) _ t₁) in
        (ltb→lt 0 n.b (and_0 (ltb 0 n.b) _ t), and_0 (fits64 n.b) _ t₁, low, inside, w)
    formed unknown t w = t

-- ---------------------------------------------------------------- the widths of arrays

-- where those of the table are allowed, every array number's are: past the table too
allowed : (w : ℕ) → T (array_width_ok w) → (0 < w) × (w ≤ array_width_limit)
allowed w t = (ltb→lt 0 w (and_0 (ltb 0 w) _ t), leb→le w array_width_limit (and-1 (ltb 0 w) _ t))

column-bound : (c : List ℕ) (past : ℕ) → T (array_width_ok past) → T (every array_width_ok c) → (k : ℕ) → (0 < get_or c k past) × (get_or c k past ≤ array_width_limit)
column-bound [] past p t k = allowed past p
column-bound (w ∷ c) past p t zero = allowed w (and_0 (array_width_ok w) _ t)
column-bound (w ∷ c) past p t (suc k) = column-bound c past p (and-1 (array_width_ok w) _ t) k

module _ (arrays : ArrayWidths) (ok : T (array_widths_ok arrays)) where
  pub index-bound : (array : ℕ) → (0 < index_width_of arrays.index array) × (index_width_of arrays.index array ≤ array_width_limit)
  unfolding index_width_of array_widths_ok
  index-bound array = column-bound arrays.index 32 tt (and_0 (every array_width_ok arrays.index) _ ok) array

  pub value-bound : (array : ℕ) → (0 < value_width_of arrays.value array) × (value_width_of arrays.value array ≤ array_width_limit)
  unfolding value_width_of array_widths_ok
  value-bound array = column-bound arrays.value 8 tt (and-1 (every array_width_ok arrays.index) _ ok) array

module _ (ws : List ℕ) (i : ℕ) where
  low-pairs : (iw vw n : ℕ) (side : List ℕ) → Pairs ws i iw vw n side → Low i (levels n side)
  unfolding levels
  low-pairs iw vw zero side p = tt
  low-pairs iw vw (suc n) [] p = absurd p
  low-pairs iw vw (suc n) (x ∷ []) p = absurd p
  low-pairs iw vw (suc n) (x ∷ v ∷ side) p =
      let (px, pv, rest) = p in
      all_append (λ (o : Operand). ltb o.node i) (levels n side) (vector x ∷ vector v ∷ []) (low-pairs iw vw n side rest)
      (lt→ltb x i px.0, (lt→ltb v i pv.0, tt))

  low-vectors : (xs : List ℕ) → All (λ x. ltb x i) xs → Low i (map vector xs)
  low-vectors [] h = tt
  low-vectors (x ∷ xs) h = (h.0, low-vectors xs h.1)

  one : (a : ℕ) → a < i → All (λ x. ltb x i) (a ∷ [])
  one a l = (lt→ltb a i l, tt)

  two : (a b : ℕ) → a < i → b < i → All (λ x. ltb x i) (a ∷ b ∷ [])
  two a b l m = (lt→ltb a i l, one b m)

  module _ (nbits : ℕ) (arrays : ArrayWidths) (side : List ℕ) (n : Node) where
    pub formed-low : (s : Shape) → Formed ws i nbits arrays side n s → Low i (operands_as side n s)
    unfolding operands_as
    formed-low var f = tt
    formed-low const f = tt
    formed-low binary (o, w) = two n.a n.b o.0 o.1
    formed-low rotation (o, w) = one n.a o.0
    formed-low extraction f = one n.c f.0
    formed-low concat f = two n.a n.b f.0 f.1
    formed-low extension f = one n.a f.0
    formed-low ite (l, o, w) = (lt→ltb n.a i l.0, two n.b n.c o.0 o.1)
    formed-low comparison (o, w) = two n.a n.b o.0 o.1
    formed-low negation (l, w) = one n.a l.0
    formed-low connective (l, m, w) = two n.a n.b l.0 m.0
    formed-low unary f = one n.a f.0
    formed-low select (l, p, w) =
        all_append (λ (o : Operand). ltb o.node i) (levels n.d (drop n.c side)) (vector n.b ∷ [])
        (low-pairs (index_width_of arrays.index n.a) (value_width_of arrays.value n.a) n.d (drop n.c side) p) (one n.b l.0)
    formed-low call (p, b, low, inside, w) = low-vectors (take n.d (drop n.c side)) low
    formed-low unknown f = absurd f

    -- a width is above 0 and has 64 bits, if those of arrays and of lower nodes have
    pub formed-wide : T (array_widths_ok arrays) → ((j : ℕ) → j < i → width_at ws j ≤ largest) → (s : Shape) → Formed ws i nbits arrays side n s → (0 < width_at ws i) × (width_at ws i ≤ largest)
    formed-wide ok below var (p, b, w) = let l = leb→le n.a largest b in (omega arith, omega arith)
    formed-wide ok below const (p, b, l, w) = let l = leb→le n.b largest b in (omega arith, omega arith)
    formed-wide ok below binary (o, w) = let l = below n.a o.0 in let p = o.2 in (omega arith, omega arith)
    formed-wide ok below rotation (o, w) = let l = below n.a o.0 in let p = o.2 in (omega arith, omega arith)
    formed-wide ok below extraction (lc, low, high, w) = let l = below n.c lc in (omega arith, omega arith)
    formed-wide ok below concat (la, lb, p, b, w) = let l = leb→le (width_at ws n.a + width_at ws n.b) largest b in (omega arith, omega arith)
    formed-wide ok below extension (la, p, b, w) = let l = leb→le (width_at ws n.a + n.b) largest b in (omega arith, omega arith)
    formed-wide ok below ite (c, o, w) = let l = below n.b o.0 in let p = o.2 in (omega arith, omega arith)
    formed-wide ok below comparison (o, w) = (omega arith, omega arith)
    formed-wide ok below negation (l, w) = (omega arith, omega arith)
    formed-wide ok below connective (l, m, w) = (omega arith, omega arith)
    formed-wide ok below unary (la, p, w) = let l = below n.a la in (omega arith, omega arith)
    formed-wide ok below select (l, p, w) = let (p, b) = value-bound arrays ok n.a in (rw w p, rw w (omega arith))
    formed-wide ok below call (p, b, low, inside, w) = let l = leb→le n.b largest b in (omega arith, omega arith)
    formed-wide ok below unknown f = absurd f

-- ---------------------------------------------------------------- every node of a list that passes

module _ (nbits : ℕ) (arrays : ArrayWidths) (side : List ℕ) (ns : List Node) where
  abbrev ws : List ℕ
  ws = ext_wf_of nbits arrays side ns

  node-formed : (i : ℕ) → i < length ws → Formed ws i nbits arrays side (get_or ns i no_node) (shape (get_or ns i no_node))
  unfolding node_wf node_width
  node-formed i here =
      let z = sized nbits arrays side ns i here in
      formed ws i here nbits arrays side (get_or ns i no_node) (shape (get_or ns i no_node)) z.wf z.width

  wide_below : T (array_widths_ok arrays) → (k i : ℕ) → i < k → i < length ws → (0 < width_at ws i) × (width_at ws i ≤ largest)
  wide_below ok zero i l here = absurd (omega arith)
  wide_below ok (suc k) i l here =
      formed-wide ws i nbits arrays side (get_or ns i no_node) ok (λ j m. (wide_below ok k j (omega arith) (omega arith)).1) (shape (get_or ns i no_node)) (node-formed i here)

  pub facts : (i : ℕ) → i < length ws → Facts nbits arrays side ws i (get_or ns i no_node)
  facts i here =
      let n : Node = get_or ns i no_node in
      let f = node-formed i here in
      record { form = f; low = formed-low ws i nbits arrays side n (shape n) f }

  -- and its width is above 0 and has 64 bits, where those of the arrays are allowed
  pub node_wide : T (array_widths_ok arrays) → (i : ℕ) → i < length ws → (0 < width_at ws i) × (width_at ws i ≤ largest)
  node_wide ok i here = wide_below ok (suc i) i (omega arith) here
