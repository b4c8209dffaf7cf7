-- The shapes of the code as the definitions have them.
use Rattle.std.specs.Prelude.{ℕ, zero, suc, ◌≤◌, ◌≡◌}
use Rattle.std.proofs.Common.{zero-le, sym}
use Rattle.std.proofs.Math.Arith.{lt_of_le-ne}
use Rattle.echo_spec.specs.Shapes as shapes
use Rattle.blast_kernel.specs.declared.Shape.{Shape}
use Rattle.blast_kernel.specs.declared.Shape.TheVariants.{
  Var,
  Const,
  Binary,
  Rotation,
  Extraction,
  Concat,
  Extension,
  Ite,
  Comparison,
  Negation,
  Connective,
  Unary,
  Select,
  Call,
  Unknown,
}
use Rattle.blast_kernel.specs.declared.Binary as binaries
use Rattle.blast_kernel.specs.declared.Binary.TheVariants as two
use Rattle.blast_kernel.specs.declared.Comparison as comparisons
use Rattle.blast_kernel.specs.declared.Comparison.TheVariants as tests
use Rattle.blast_kernel.specs.declared.Unary as unaries
use Rattle.blast_kernel.specs.declared.Unary.TheVariants as one
use Rattle.blast_kernel.specs.declared.Rotation as rotations
use Rattle.blast_kernel.specs.declared.Rotation.TheVariants as turns
use Rattle.blast_kernel.specs.declared.Extension as extensions
use Rattle.blast_kernel.specs.declared.Extension.TheVariants as longer
use Rattle.blast_kernel.specs.declared.Connective as connectives
use Rattle.blast_kernel.specs.declared.Connective.TheVariants as truths

abbrev pub shape_in : Shape → shapes.Shape
shape_in Var = shapes.var
shape_in Const = shapes.const
shape_in (Binary o) = shapes.binary
shape_in (Rotation o) = shapes.rotation
shape_in Extraction = shapes.extraction
shape_in Concat = shapes.concat
shape_in (Extension o) = shapes.extension
shape_in Ite = shapes.ite
shape_in (Comparison o) = shapes.comparison
shape_in Negation = shapes.negation
shape_in (Connective o) = shapes.connective
shape_in (Unary o) = shapes.unary
shape_in Select = shapes.select
shape_in Call = shapes.call
shape_in Unknown = shapes.unknown

-- the operators' kinds
abbrev pub binary_kind : binaries.Binary → ℕ
binary_kind two.Add = 2
binary_kind two.Sub = 3
binary_kind two.Mul = 4
binary_kind two.Udiv = 5
binary_kind two.Urem = 6
binary_kind two.And = 7
binary_kind two.Or = 8
binary_kind two.Xor = 9
binary_kind two.Shl = 10
binary_kind two.Lshr = 11
binary_kind two.Ashr = 12
binary_kind two.Sdiv = 35
binary_kind two.Srem = 36

abbrev pub comparison_kind : comparisons.Comparison → ℕ
comparison_kind tests.Equal = 19
comparison_kind tests.Different = 20
comparison_kind tests.Ult = 21
comparison_kind tests.Ule = 22
comparison_kind tests.Ugt = 23
comparison_kind tests.Uge = 24
comparison_kind tests.Slt = 25
comparison_kind tests.Sle = 26
comparison_kind tests.Sgt = 27
comparison_kind tests.Sge = 28

abbrev pub unary_kind : unaries.Unary → ℕ
unary_kind one.Not = 32
unary_kind one.Neg = 33

abbrev pub rotation_kind : rotations.Rotation → ℕ
rotation_kind turns.Right = 13
rotation_kind turns.Left = 34

abbrev pub extension_kind : extensions.Extension → ℕ
extension_kind longer.Zero = 16
extension_kind longer.Sign = 17

abbrev pub connective_kind : connectives.Connective → ℕ
connective_kind truths.And = 30
connective_kind truths.Or = 31

-- the kind that a shape has
abbrev pub IsKind : Shape → ℕ → Type 0
IsKind Var k = k ≡ 0
IsKind Const k = k ≡ 1
IsKind (Binary o) k = k ≡ binary_kind o
IsKind (Rotation o) k = k ≡ rotation_kind o
IsKind Extraction k = k ≡ 14
IsKind Concat k = k ≡ 15
IsKind (Extension o) k = k ≡ extension_kind o
IsKind Ite k = k ≡ 18
IsKind (Comparison o) k = k ≡ comparison_kind o
IsKind Negation k = k ≡ 29
IsKind (Connective o) k = k ≡ connective_kind o
IsKind (Unary o) k = k ≡ unary_kind o
IsKind Select k = k ≡ 37
IsKind Call k = k ≡ 38
IsKind Unknown k = 39 ≤ k

-- ---------------------------------------------------------------- laws: the last arm of a match

-- x is none of the numbers below n, as the last arm of a match is told
abbrev pub NoneOf : ℕ → ℕ → Type 0
NoneOf zero x = Unit {0}
NoneOf (suc n) x = NoneOf n x × (x ≡ n → ⊥)

pub none_of : (n x : ℕ) → NoneOf n x → n ≤ x
none_of zero x t = zero-le
none_of (suc n) x t = let h : n ≤ x = none_of n x t.0 in lt_of_le-ne h (λ e. t.1 (sym e))
