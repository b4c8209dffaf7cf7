-- The operators of each shape by the definitions of `vectors`, and what kinds mean.
use Rattle.std.specs.Prelude.{ℕ, ◌≡◌, refl, Bool, ◌&&◌, ◌||◌, not, eqb}
use Rattle.std.proofs.Common.{ap, ◌∙◌, arith, le_trans}
use Rattle.std.proofs.Math.ListN.{get_or-eq_default}
use Rattle.vectors.specs.Vectors as smt
use Rattle.vectors.specs.Values as values
use Rattle.blast_kernel.specs.Kinds.{IsKind, binary_kind, comparison_kind, unary_kind, rotation_kind, extension_kind, connective_kind}
use Rattle.blast_kernel.specs.declared.Shape as code
use Rattle.blast_kernel.specs.declared.Shape.TheVariants as codes
use Rattle.blast_kernel.specs.declared.Binary as binaries
use Rattle.blast_kernel.specs.declared.Binary.TheVariants as two
use Rattle.blast_kernel.specs.declared.Comparison as comparisons
use Rattle.blast_kernel.specs.declared.Comparison.TheVariants as tests
use Rattle.blast_kernel.specs.declared.Unary as unaries
use Rattle.blast_kernel.specs.declared.Unary.TheVariants as one
use Rattle.blast_kernel.specs.declared.Rotation as rotations
use Rattle.blast_kernel.specs.declared.Rotation.TheVariants as turns
use Rattle.blast_kernel.specs.declared.Extension as extensions
use Rattle.blast_kernel.specs.declared.Extension.TheVariants as longer
use Rattle.blast_kernel.specs.declared.Connective as connectives
use Rattle.blast_kernel.specs.declared.Connective.TheVariants as truths

abbrev pub binary_of : binaries.Binary → ℕ → ℕ → ℕ → ℕ
binary_of two.Add = smt.bvadd
binary_of two.Sub = smt.bvsub
binary_of two.Mul = smt.bvmul
binary_of two.Udiv = smt.bvudiv
binary_of two.Urem = smt.bvurem
binary_of two.And = smt.bvand
binary_of two.Or = smt.bvor
binary_of two.Xor = smt.bvxor
binary_of two.Shl = smt.bvshl
binary_of two.Lshr = smt.bvlshr
binary_of two.Ashr = smt.bvashr
binary_of two.Sdiv = smt.bvsdiv
binary_of two.Srem = smt.bvsrem

abbrev pub comparison_of : comparisons.Comparison → ℕ → ℕ → ℕ → Bool
comparison_of tests.Equal = λ m s t. eqb s t
comparison_of tests.Different = λ m s t. not (eqb s t)
comparison_of tests.Ult = λ m s t. smt.bvult s t
comparison_of tests.Ule = λ m s t. smt.bvule s t
comparison_of tests.Ugt = λ m s t. smt.bvugt s t
comparison_of tests.Uge = λ m s t. smt.bvuge s t
comparison_of tests.Slt = smt.bvslt
comparison_of tests.Sle = smt.bvsle
comparison_of tests.Sgt = smt.bvsgt
comparison_of tests.Sge = smt.bvsge

abbrev pub unary_of : unaries.Unary → ℕ → ℕ → ℕ
unary_of one.Not = smt.bvnot
unary_of one.Neg = smt.bvneg

abbrev pub rotation_of : rotations.Rotation → ℕ → ℕ → ℕ → ℕ
rotation_of turns.Right = smt.rotate_right
rotation_of turns.Left = smt.rotate_left

abbrev pub extension_of : extensions.Extension → ℕ → ℕ → ℕ → ℕ
extension_of longer.Zero = smt.zero_extend
extension_of longer.Sign = smt.sign_extend

abbrev pub connective_of : connectives.Connective → Bool → Bool → Bool
connective_of truths.And = ◌&&◌
connective_of truths.Or = ◌||◌

-- ---------------------------------------------------------------- what a kind means, by its shape

abbrev pub meaning_in : code.Shape → values.Meaning
meaning_in codes.Var = values.unknown
meaning_in codes.Const = values.unknown
meaning_in (codes.Binary o) = values.binary (binary_of o)
meaning_in (codes.Rotation o) = values.moved (rotation_of o) values.unchanged
meaning_in codes.Extraction = values.extraction
meaning_in codes.Concat = values.concatenation
meaning_in (codes.Extension o) = values.moved (extension_of o) values.longer
meaning_in codes.Ite = values.choice
meaning_in (codes.Comparison o) = values.comparison (comparison_of o)
meaning_in codes.Negation = values.negation
meaning_in (codes.Connective o) = values.connective (connective_of o)
meaning_in (codes.Unary o) = values.unary (unary_of o)
meaning_in codes.Select = values.unknown
meaning_in codes.Call = values.unknown
meaning_in codes.Unknown = values.unknown

binary-meaning : (o : binaries.Binary) → values.meaning (binary_kind o) ≡ values.binary (binary_of o)
unfolding values.meanings
binary-meaning two.Add = refl
binary-meaning two.Sub = refl
binary-meaning two.Mul = refl
binary-meaning two.Udiv = refl
binary-meaning two.Urem = refl
binary-meaning two.And = refl
binary-meaning two.Or = refl
binary-meaning two.Xor = refl
binary-meaning two.Shl = refl
binary-meaning two.Lshr = refl
binary-meaning two.Ashr = refl
binary-meaning two.Sdiv = refl
binary-meaning two.Srem = refl

comparison-meaning : (o : comparisons.Comparison) → values.meaning (comparison_kind o) ≡ values.comparison (comparison_of o)
unfolding values.meanings
comparison-meaning tests.Equal = refl
comparison-meaning tests.Different = refl
comparison-meaning tests.Ult = refl
comparison-meaning tests.Ule = refl
comparison-meaning tests.Ugt = refl
comparison-meaning tests.Uge = refl
comparison-meaning tests.Slt = refl
comparison-meaning tests.Sle = refl
comparison-meaning tests.Sgt = refl
comparison-meaning tests.Sge = refl

unary-meaning : (o : unaries.Unary) → values.meaning (unary_kind o) ≡ values.unary (unary_of o)
unfolding values.meanings
unary-meaning one.Not = refl
unary-meaning one.Neg = refl

rotation-meaning : (o : rotations.Rotation) → values.meaning (rotation_kind o) ≡ values.moved (rotation_of o) values.unchanged
unfolding values.meanings
rotation-meaning turns.Right = refl
rotation-meaning turns.Left = refl

extension-meaning : (o : extensions.Extension) → values.meaning (extension_kind o) ≡ values.moved (extension_of o) values.longer
unfolding values.meanings
extension-meaning longer.Zero = refl
extension-meaning longer.Sign = refl

connective-meaning : (o : connectives.Connective) → values.meaning (connective_kind o) ≡ values.connective (connective_of o)
unfolding values.meanings
connective-meaning truths.And = refl
connective-meaning truths.Or = refl

-- a kind has the meaning of its shape
pub kind-meaning : (s : code.Shape) (k : ℕ) → IsKind s k → values.meaning k ≡ meaning_in s
unfolding values.meanings
kind-meaning codes.Var k h = ap values.meaning h
kind-meaning codes.Const k h = ap values.meaning h
kind-meaning (codes.Binary o) k h = ap values.meaning h ∙ binary-meaning o
kind-meaning (codes.Rotation o) k h = ap values.meaning h ∙ rotation-meaning o
kind-meaning codes.Extraction k h = ap values.meaning h
kind-meaning codes.Concat k h = ap values.meaning h
kind-meaning (codes.Extension o) k h = ap values.meaning h ∙ extension-meaning o
kind-meaning codes.Ite k h = ap values.meaning h
kind-meaning (codes.Comparison o) k h = ap values.meaning h ∙ comparison-meaning o
kind-meaning codes.Negation k h = ap values.meaning h
kind-meaning (codes.Connective o) k h = ap values.meaning h ∙ connective-meaning o
kind-meaning (codes.Unary o) k h = ap values.meaning h ∙ unary-meaning o
kind-meaning codes.Select k h = ap values.meaning h
kind-meaning codes.Call k h = ap values.meaning h
kind-meaning codes.Unknown k h = get_or-eq_default values.meanings values.unknown (le_trans (omega arith) h)
