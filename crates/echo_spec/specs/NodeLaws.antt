-- What holds of a well-formed node of each shape, stated once: its operands are lower nodes, of which widths, and its own width. All
-- widths are those of the whole list.
use Prim.Native.Nat.{ℕ, zero, suc, ◌+◌, ◌-◌, ◌≤◌, ◌<◌}
use Rattle.std.specs.Prelude.{◌≡◌, length, take, drop}
use mathlib.Core.List.{List, [], ◌∷◌}
use Rattle.std.proofs.Math.Dec.{T, ltb}
use Rattle.lists.specs.Tests.{All}
use Rattle.echo_spec.specs.Shapes.{
  Shape,
  var,
  const,
  binary,
  rotation,
  extraction,
  concat,
  extension,
  ite,
  comparison,
  negation,
  connective,
  unary,
  select,
  call,
  unknown,
}
use Rattle.echo_spec.specs.Input.{ArrayWidths, Node, shape, fits64}
use Rattle.echo_spec.specs.Widths.{index_width_of, value_width_of, width_at}
use Rattle.echo_spec.specs.Walk.{Operand, operands_as}

-- node i, of widths ws
module _ (ws : List ℕ) (i : ℕ) where
  -- a lower node of this width
  abbrev pub Lower : ℕ → ℕ → Type 0
  Lower w j = (j < i) × (width_at ws j ≡ w)

  -- two lower nodes of one width, which is not 0
  abbrev pub Alike : ℕ → ℕ → Type 0
  Alike a b = (a < i) × (b < i) × (0 < width_at ws a) × (width_at ws a ≡ width_at ws b)

  -- n pairs of an index and a value of these widths
  abbrev pub Pairs : ℕ → ℕ → ℕ → List ℕ → Type 0
  Pairs iw vw zero side = Unit
  Pairs iw vw (suc n) [] = ⊥
  Pairs iw vw (suc n) (x ∷ []) = ⊥
  Pairs iw vw (suc n) (x ∷ v ∷ side) = Lower iw x × Lower vw v × Pairs iw vw n side

  module _ (nbits : ℕ) (arrays : ArrayWidths) (side : List ℕ) (n : Node) where
    -- a node of this shape
    abbrev pub Formed : Shape → Type 0
    Formed var = (0 < n.a) × T (fits64 n.a) × (width_at ws i ≡ n.a)
    Formed const = (0 < n.b) × T (fits64 n.b) × (n.a + n.b ≤ nbits) × (width_at ws i ≡ n.b)
    Formed binary = Alike n.a n.b × (width_at ws i ≡ width_at ws n.a)
    Formed rotation = Alike n.a n.b × (width_at ws i ≡ width_at ws n.a)
    Formed extraction = (n.c < i) × (n.b ≤ n.a) × (n.a < width_at ws n.c) × (width_at ws i ≡ n.a - n.b + 1)
    Formed concat = (n.a < i) × (n.b < i) × (0 < width_at ws n.a) × T (fits64 (width_at ws n.a + width_at ws n.b)) × (width_at ws i ≡ width_at ws n.a + width_at ws n.b)
    Formed extension = (n.a < i) × (0 < width_at ws n.a) × T (fits64 (width_at ws n.a + n.b)) × (width_at ws i ≡ width_at ws n.a + n.b)
    Formed ite = Lower 1 n.a × Alike n.b n.c × (width_at ws i ≡ width_at ws n.b)
    Formed comparison = Alike n.a n.b × (width_at ws i ≡ 1)
    Formed negation = Lower 1 n.a × (width_at ws i ≡ 1)
    Formed connective = Lower 1 n.a × Lower 1 n.b × (width_at ws i ≡ 1)
    Formed unary = (n.a < i) × (0 < width_at ws n.a) × (width_at ws i ≡ width_at ws n.a)
    Formed select = Lower (index_width_of arrays.index n.a) n.b × Pairs (index_width_of arrays.index n.a) (value_width_of arrays.value n.a) n.d (drop n.c side) × (width_at ws i ≡ value_width_of arrays.value n.a)
    Formed call = (0 < n.b) × T (fits64 n.b) × All (λ x. ltb x i) (take n.d (drop n.c side)) × (n.d ≤ length (drop n.c side)) × (width_at ws i ≡ n.b)
    Formed unknown = ⊥

-- ---------------------------------------------------------------- what follows for every shape

-- the operands are lower nodes
abbrev pub Low : ℕ → List Operand → Type 0
Low i os = All (λ (o : Operand). ltb o.node i) os

-- ---------------------------------------------------------------- every node of a list that passes

-- node n, number i
pub record Facts (nbits : ℕ) (arrays : ArrayWidths) (side ws : List ℕ) (i : ℕ) (n : Node) : Type 0 where
  pub form : Formed ws i nbits arrays side n (shape n)
  pub low : Low i (operands_as side n (shape n))
