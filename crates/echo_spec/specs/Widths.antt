-- The width pass: which nodes are well formed after the nodes before them, and how wide they are.
use Rattle.std.specs.Prelude.{ℕ, zero, suc, ◌+◌, ◌-◌, List, [], ◌∷◌, ◌++◌, Bool, true, false, ◌&&◌, leb, ltb, eqb, length, drop, get_or}
use Rattle.echo_spec.specs.Shapes.{
  Shape,
  var,
  const,
  binary,
  rotation,
  extraction,
  concat,
  extension,
  ite,
  comparison,
  negation,
  connective,
  unary,
  select,
  call,
  unknown,
}
use Rattle.lists.specs.Tests.{every}
use Rattle.echo_spec.specs.Input.{ArrayWidths, Node, shape, largest, fits64, Query}

-- ---------------------------------------------------------------- arrays

-- the widths of an array's index and value, by its number: what the table's column has, and past its end the Rust's
unfoldable pub index_width_of : List ℕ → ℕ → ℕ
index_width_of column array = get_or column array 32

unfoldable pub value_width_of : List ℕ → ℕ → ℕ
value_width_of column array = get_or column array 8

-- the widest index or value
abbrev pub array_width_limit : ℕ
array_width_limit = 65536

abbrev pub array_width_ok : ℕ → Bool
array_width_ok w = ltb 0 w && leb w array_width_limit

-- 12: each width of the table is from 1 to that, whether the array is used or not
unfoldable pub array_widths_ok : ArrayWidths → Bool
array_widths_ok arrays = every array_width_ok arrays.index && every array_width_ok arrays.value

-- ---------------------------------------------------------------- nodes

-- `width_at`: 0 past the list, and no node's width is 0
abbrev pub width_at : List ℕ → ℕ → ℕ
width_at ws i = get_or ws i 0

abbrev pub earlier : List ℕ → ℕ → Bool
earlier ws i = ltb i (length ws)

-- an earlier node of this width
abbrev pub earlier_of : List ℕ → ℕ → ℕ → Bool
earlier_of ws w i = earlier ws i && eqb (width_at ws i) w

unfoldable pub un_wf : List ℕ → ℕ → Bool
un_wf ws a = earlier ws a && ltb 0 (width_at ws a)

unfoldable pub bin_wf : List ℕ → ℕ → ℕ → Bool
bin_wf ws a b = earlier ws a && (earlier ws b && (ltb 0 (width_at ws a) && eqb (width_at ws a) (width_at ws b)))

unfoldable pub bool_bin_wf : List ℕ → ℕ → ℕ → Bool
bool_bin_wf ws a b = earlier_of ws 1 a && earlier_of ws 1 b

-- (the Rust's `ext_wf` of kernel.rs, which is not the pass of that name)
unfoldable pub extend_wf : List ℕ → ℕ → ℕ → Bool
extend_wf ws a by = un_wf ws a && leb (width_at ws a + by) largest

-- n pairs of an index and a value
unfoldable pub chain_wf : ℕ → ℕ → List ℕ → ℕ → List ℕ → Bool
chain_wf index value ws zero side = true
chain_wf index value ws (suc n) [] = false
chain_wf index value ws (suc n) (x ∷ []) = false
chain_wf index value ws (suc n) (x ∷ v ∷ side) = earlier_of ws index x && (earlier_of ws value v && chain_wf index value ws n side)

-- n arguments
unfoldable pub args_wf : List ℕ → ℕ → List ℕ → Bool
args_wf ws zero side = true
args_wf ws (suc n) [] = false
args_wf ws (suc n) (x ∷ side) = earlier ws x && args_wf ws n side

-- a node of this shape is well formed after nodes of the widths ws, with so many bits, arrays of these widths and these side entries;
-- every width has 64 bits (an array's by 12)
unfoldable pub wf_as : ℕ → ArrayWidths → List ℕ → List ℕ → Node → Shape → Bool
wf_as nbits arrays side ws n var = ltb 0 n.a && fits64 n.a
wf_as nbits arrays side ws n const = ltb 0 n.b && (fits64 n.b && leb (n.a + n.b) nbits)
wf_as nbits arrays side ws n binary = bin_wf ws n.a n.b
wf_as nbits arrays side ws n rotation = bin_wf ws n.a n.b
wf_as nbits arrays side ws n extraction = earlier ws n.c && (leb n.b n.a && ltb n.a (width_at ws n.c))
wf_as nbits arrays side ws n concat = un_wf ws n.a && (un_wf ws n.b && leb (width_at ws n.a + width_at ws n.b) largest)
wf_as nbits arrays side ws n extension = extend_wf ws n.a n.b
wf_as nbits arrays side ws n ite = earlier_of ws 1 n.a && bin_wf ws n.b n.c
wf_as nbits arrays side ws n comparison = bin_wf ws n.a n.b
wf_as nbits arrays side ws n negation = earlier_of ws 1 n.a
wf_as nbits arrays side ws n connective = bool_bin_wf ws n.a n.b
wf_as nbits arrays side ws n unary = un_wf ws n.a
wf_as nbits arrays side ws n select =
    earlier_of ws (index_width_of arrays.index n.a) n.b && chain_wf (index_width_of arrays.index n.a) (value_width_of arrays.value n.a) ws n.d (drop n.c side)
wf_as nbits arrays side ws n call = ltb 0 n.b && (fits64 n.b && args_wf ws n.d (drop n.c side))
wf_as nbits arrays side ws n unknown = false

-- `node_wf` and `ext_node_wf`
unfoldable pub node_wf : ℕ → ArrayWidths → List ℕ → List ℕ → Node → Bool
node_wf nbits arrays side ws n = wf_as nbits arrays side ws n (shape n)

-- the width of a node of this shape that is well formed
unfoldable pub width_as : ArrayWidths → List ℕ → Node → Shape → ℕ
width_as arrays ws n var = n.a
width_as arrays ws n const = n.b
width_as arrays ws n binary = width_at ws n.a
width_as arrays ws n rotation = width_at ws n.a
width_as arrays ws n extraction = n.a - n.b + 1
width_as arrays ws n concat = width_at ws n.a + width_at ws n.b
width_as arrays ws n extension = width_at ws n.a + n.b
width_as arrays ws n ite = width_at ws n.b
width_as arrays ws n comparison = 1
width_as arrays ws n negation = 1
width_as arrays ws n connective = 1
width_as arrays ws n unary = width_at ws n.a
width_as arrays ws n select = value_width_of arrays.value n.a
width_as arrays ws n call = n.b
width_as arrays ws n unknown = 0

-- `node_width` and `ext_node_width`
unfoldable pub node_width : ArrayWidths → List ℕ → Node → ℕ
node_width arrays ws n = width_as arrays ws n (shape n)

-- The widths of the nodes before the first that is not well formed: its length is the node count, or the number of the
-- node refused.
unfoldable pub ext_wf_from : ℕ → ArrayWidths → List ℕ → List ℕ → List Node → List ℕ
ext_wf_from nbits arrays side ws [] = ws
ext_wf_from nbits arrays side ws (n ∷ ns) =
    elim (node_wf nbits arrays side ws n) [ true ↦ ext_wf_from nbits arrays side (ws ++ (node_width arrays ws n ∷ [])) ns | false ↦ ws ]

unfoldable pub ext_wf_of : ℕ → ArrayWidths → List ℕ → List Node → List ℕ
ext_wf_of nbits arrays side ns = ext_wf_from nbits arrays side [] ns

-- the widths of a query's nodes
abbrev pub widths_of : Query → List ℕ
widths_of q = ext_wf_of (length q.bits) q.dag.array-widths q.dag.side q.dag.nodes
