-- The nodes that the Rust's `DagNode` has: all but selects and calls, which need the side entries and are `ExtNode`'s own.
use Rattle.std.specs.Prelude.{ℕ, ◌≡◌, refl, List, [], Bool}
use Rattle.std.proofs.Common.{ap, ◌∙◌}
use Rattle.echo_spec.specs.Shapes.{
  Shape,
  var,
  const,
  binary,
  rotation,
  extraction,
  concat,
  extension,
  ite,
  comparison,
  negation,
  connective,
  unary,
  select,
  call,
  unknown,
}
use Rattle.blast_kernel.specs.declared.Shape as code
use Rattle.blast_kernel.specs.declared.Shape.TheVariants.{Var, Const, Binary, Rotation, Extraction, Concat, Extension, Ite, Comparison, Negation, Connective, Unary, Select, Call, Unknown}
use Rattle.blast_kernel.specs.Kinds.{shape_in}
use Rattle.echo_spec.specs.Input.{ArrayWidths, array_columns, Node, shape}
use Rattle.echo_spec.specs.Widths.{wf_as, width_as, node_wf, node_width}

-- the shape as `DagNode` knows it
unfoldable pub closed : Shape → Shape
closed var = var
closed const = const
closed binary = binary
closed rotation = rotation
closed extraction = extraction
closed concat = concat
closed extension = extension
closed ite = ite
closed comparison = comparison
closed negation = negation
closed connective = connective
closed unary = unary
closed select = unknown
closed call = unknown
closed unknown = unknown

-- an array table without entries
abbrev pub no_arrays : ArrayWidths
no_arrays = array_columns [] []

-- `node_wf` and `node_width`: no node looks at the side entries and the arrays
abbrev pub closed_wf : ℕ → List ℕ → Node → Bool
closed_wf nbits ws n = wf_as nbits no_arrays [] ws n (closed (shape n))

abbrev pub closed_width : List ℕ → Node → ℕ
closed_width ws n = width_as no_arrays ws n (closed (shape n))

-- ---------------------------------------------------------------- laws: how a node that is no select and no call is looked at

-- the shape is neither that of a select nor that of a call
abbrev pub IsClosed : Shape → Type 0
IsClosed s = (s ≡ select → ⊥) × (s ≡ call → ⊥)

closed_is : (s : Shape) → IsClosed s → closed s ≡ s
unfolding closed
closed_is var h = refl
closed_is const h = refl
closed_is binary h = refl
closed_is rotation h = refl
closed_is extraction h = refl
closed_is concat h = refl
closed_is extension h = refl
closed_is ite h = refl
closed_is comparison h = refl
closed_is negation h = refl
closed_is connective h = refl
closed_is unary h = refl
closed_is select h = absurd (h.0 refl)
closed_is call h = absurd (h.1 refl)
closed_is unknown h = refl

no-side : (nbits : ℕ) (arrays : ArrayWidths) (side ws : List ℕ) (n : Node) (s : Shape) → wf_as nbits no_arrays [] ws n (closed s) ≡ wf_as nbits arrays side ws n (closed s)
unfolding closed wf_as
no-side nbits arrays side ws n var = refl
no-side nbits arrays side ws n const = refl
no-side nbits arrays side ws n binary = refl
no-side nbits arrays side ws n rotation = refl
no-side nbits arrays side ws n extraction = refl
no-side nbits arrays side ws n concat = refl
no-side nbits arrays side ws n extension = refl
no-side nbits arrays side ws n ite = refl
no-side nbits arrays side ws n comparison = refl
no-side nbits arrays side ws n negation = refl
no-side nbits arrays side ws n connective = refl
no-side nbits arrays side ws n unary = refl
no-side nbits arrays side ws n select = refl
no-side nbits arrays side ws n call = refl
no-side nbits arrays side ws n unknown = refl

no-arrays : (arrays : ArrayWidths) (ws : List ℕ) (n : Node) (s : Shape) → width_as no_arrays ws n (closed s) ≡ width_as arrays ws n (closed s)
unfolding closed width_as
no-arrays arrays ws n var = refl
no-arrays arrays ws n const = refl
no-arrays arrays ws n binary = refl
no-arrays arrays ws n rotation = refl
no-arrays arrays ws n extraction = refl
no-arrays arrays ws n concat = refl
no-arrays arrays ws n extension = refl
no-arrays arrays ws n ite = refl
no-arrays arrays ws n comparison = refl
no-arrays arrays ws n negation = refl
no-arrays arrays ws n connective = refl
no-arrays arrays ws n unary = refl
no-arrays arrays ws n select = refl
no-arrays arrays ws n call = refl
no-arrays arrays ws n unknown = refl

-- the shape of a node that the code has found to be neither
pub shape-closed : (s : code.Shape) (t : Shape) → shape_in s ≡ t → (s ≡ Select → ⊥) → (s ≡ Call → ⊥) → IsClosed t
shape-closed Var t e f g = (λ h. cc, λ h. cc)
shape-closed Const t e f g = (λ h. cc, λ h. cc)
shape-closed (Binary o) t e f g = (λ h. cc, λ h. cc)
shape-closed (Rotation o) t e f g = (λ h. cc, λ h. cc)
shape-closed Extraction t e f g = (λ h. cc, λ h. cc)
shape-closed Concat t e f g = (λ h. cc, λ h. cc)
shape-closed (Extension o) t e f g = (λ h. cc, λ h. cc)
shape-closed Ite t e f g = (λ h. cc, λ h. cc)
shape-closed (Comparison o) t e f g = (λ h. cc, λ h. cc)
shape-closed Negation t e f g = (λ h. cc, λ h. cc)
shape-closed (Connective o) t e f g = (λ h. cc, λ h. cc)
shape-closed (Unary o) t e f g = (λ h. cc, λ h. cc)
shape-closed Select t e f g = absurd (f refl)
shape-closed Call t e f g = absurd (g refl)
shape-closed Unknown t e f g = (λ h. cc, λ h. cc)

pub closed-wf-is : (nbits : ℕ) (arrays : ArrayWidths) (side ws : List ℕ) (n : Node) → IsClosed (shape n) → closed_wf nbits ws n ≡ node_wf nbits arrays side ws n
unfolding node_wf
closed-wf-is nbits arrays side ws n h = no-side nbits arrays side ws n (shape n) ∙ ap (wf_as nbits arrays side ws n) (closed_is (shape n) h)

pub closed-width-is : (arrays : ArrayWidths) (ws : List ℕ) (n : Node) → IsClosed (shape n) → closed_width ws n ≡ node_width arrays ws n
unfolding node_width
closed-width-is arrays ws n h = no-arrays arrays ws n (shape n) ∙ ap (width_as arrays ws n) (closed_is (shape n) h)
