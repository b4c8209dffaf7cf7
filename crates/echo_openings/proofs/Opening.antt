-- The laws of openings: what is written of a node, by its shape. Assumes nothing.
use Prim.Native.Nat.{ℕ, ◌+◌, ◌<◌}
use mathlib.Core.Path.{◌≡◌, refl, sym, ap, ◌∙◌}
use mathlib.Core.Bool.{Bool, true, false}
use mathlib.Core.List.{List, [], ◌∷◌, ◌++◌, append_assoc}
use lib.Dec.{T, ltb}
use lib.ListN.{length, get_or, take}
use lib.Seq.{take-length}
use Rattle.std.proofs.lemmas.List.{take_more}
use Rattle.lists.specs.Bytes.{bytes}
use Rattle.echo_spec.specs.Shapes.{Shape, var, const, rotation, extraction, extension, select, call, is_leaf}
use Rattle.echo_spec.specs.Input.{array_widths, Node, shape, aname_table, fname_table}
use Rattle.echo_spec.specs.Widths.{wf_as}
use Rattle.echo_spec.specs.Trees.{constant_bits, amount_of, variable_name}
use Rattle.echo_spec.specs.Render.{decimal, binary_digits, quoted}
use Rattle.blast_kernel.specs.Kinds.{shape_in}
use Rattle.blast_kernel.specs.declared.Extension as extensions
use Rattle.blast_kernel.specs.declared.Rotation as rotations
use Rattle.blast_kernel.specs.declared.Shape as code
use Rattle.blast_kernel.specs.declared.Shape.TheVariants as codes
use Rattle.echo_bytes.specs.Page.{Page, written}
use Rattle.echo_lines.specs.Heads.{repeated}
use Rattle.echo_walk.specs.declared.Walk.{Walk}
use Rattle.echo_walk.specs.Walks.{problem_in, dag_in, widths_in, node_within, Taken}
use Rattle.echo_pieces.specs.Signs.{sign_of, level_of}
use Rattle.echo_openings.specs.Openings.{plain_opening, numbered, call_opening, opening_as}
use Rattle.echo_openings.specs.Placed.{opening_at, opening_of}

-- ---------------------------------------------------------------- texts

numbered-push : (ks : List ℕ) (k : ℕ) → numbered ks ++ (decimal k ++ bytes ", ") ≡ numbered (ks ++ (k ∷ []))
unfolding numbered bytes
numbered-push [] k = refl
numbered-push (j ∷ ks) k = simp append_assoc (ap (λ (z : List ℕ). decimal j ++ (44 ∷ 32 ∷ z)) (numbered-push ks k))

-- a sign, and a numeral more
pub numbered-more : (s ks : List ℕ) (i : ℕ) → i < length ks → (s ++ numbered (take i ks)) ++ (decimal (get_or ks i 0) ++ bytes ", ") ≡ s ++ numbered (take (i + 1) ks)
numbered-more s ks i h =
    append_assoc s (numbered (take i ks)) (decimal (get_or ks i 0) ++ bytes ", ")
    ∙ ap (λ (z : List ℕ). s ++ z) (numbered-push (take i ks) (get_or ks i 0) ∙ ap numbered (sym (take_more ks i 0 h)))

pub numbered-all : (s ks : List ℕ) (i : ℕ) → i ≡ length ks → s ++ numbered (take i ks) ≡ s ++ numbered ks
numbered-all s ks i e = rw (e, take-length ks) refl

-- a name with its bars, and a comma
pub quoted-comma : (s : List ℕ) → bytes "|" ++ (s ++ bytes "|, ") ≡ quoted s ++ bytes ", "
unfolding quoted bytes
quoted-comma s = ap (λ (z : List ℕ). 124 ∷ z) (sym (append_assoc s (124 ∷ []) (44 ∷ 32 ∷ [])))

-- between operands nothing, and else the sign
module _ (k : ℕ) where
  pub plain-none : true ≡ ltb (level_of k) 10 → [] ≡ plain_opening k
  unfolding plain_opening
  plain-none e = ap (λ (t : Bool). elim t [ true ↦ [] | false ↦ sign_of k ]) e

  pub plain-sign : false ≡ ltb (level_of k) 10 → sign_of k ≡ plain_opening k
  unfolding plain_opening
  plain-sign e = ap (λ (t : Bool). elim t [ true ↦ [] | false ↦ sign_of k ]) e

-- ---------------------------------------------------------------- nodes by shape

module _ (W : Walk) (i : ℕ) where
  -- by the shape, the opening
  pub of-shape : {s : Shape} → shape (node_within W i) ≡ s → {q : Page} (P : Page) → q ≡ written P (opening_at W i s) → q ≡ written P (opening_of W i)
  of-shape e P w = w ∙ ap (λ (s : Shape). written P (opening_at W i s)) (sym e)

  pub of-var : shape (node_within W i) ≡ var → {x : List ℕ} → x ≡ variable_name (dag_in W) i → {q : Page} (P : Page) → q ≡ written P (quoted x) → q ≡ written P (opening_of W i)
  unfolding opening_as
  of-var f e P w = of-shape f P (w ∙ ap (λ (m : List ℕ). written P (quoted m)) e)

  pub of-const : shape (node_within W i) ≡ const → {x : List ℕ} → x ≡ constant_bits (problem_in W).bits (node_within W i) → {q : Page} (P : Page) → q ≡ written P (bytes "#b" ++ binary_digits x)
      → q ≡ written P (opening_of W i)
  unfolding opening_as
  of-const f e P w = of-shape f P (w ∙ rw e refl)

  module _ {m : Node} (e : m ≡ node_within W i) {q : Page} (P : Page) where
    pub of-select : shape (node_within W i) ≡ select → {x : List ℕ} → x ≡ get_or (aname_table (dag_in W)) m.a []
        → q ≡ written P (bytes "select(" ++ (repeated m.d (bytes "store(") ++ (quoted x ++ bytes ", "))) → q ≡ written P (opening_of W i)
    unfolding opening_as
    of-select f ex w = of-shape f P (w ∙ rw (ex, e) refl)

    pub of-call : shape (node_within W i) ≡ call → {x : List ℕ} → x ≡ get_or (fname_table (dag_in W)) m.a []
        → q ≡ written P (call_opening m.d (quoted x)) → q ≡ written P (opening_of W i)
    unfolding opening_as
    of-call f ex w = of-shape f P (w ∙ rw (ex, e) refl)

    module _ {kind : ℕ} (own : kind ≡ (node_within W i).kind) where
      pub of-rotation : shape (node_within W i) ≡ rotation → {k : ℕ} → k ≡ amount_of (dag_in W) (widths_in W) (problem_in W).bits i (node_within W i)
          → q ≡ written P (sign_of kind ++ numbered (k ∷ [])) → q ≡ written P (opening_of W i)
      unfolding opening_as
      of-rotation f h w = of-shape f P (w ∙ rw (h, own) refl)

      pub of-extraction : shape (node_within W i) ≡ extraction → q ≡ written P (sign_of kind ++ numbered (m.a ∷ m.b ∷ [])) → q ≡ written P (opening_of W i)
      unfolding opening_as
      of-extraction f w = of-shape f P (w ∙ rw (e, own) refl)

      pub of-extension : shape (node_within W i) ≡ extension → q ≡ written P (sign_of kind ++ numbered (m.b ∷ [])) → q ≡ written P (opening_of W i)
      unfolding opening_as
      of-extension f w = of-shape f P (w ∙ rw (e, own) refl)

  -- the shapes that have no arm of their own
  plain-as : (s : code.Shape) → T (wf_as (length (problem_in W).bits) (array_widths (problem_in W)) (problem_in W).side (take i (widths_in W)) (node_within W i) (shape_in s))
      → is_leaf (shape_in s) ≡ false → ((o : rotations.Rotation) → s ≡ codes.Rotation o → ⊥) → (s ≡ codes.Extraction → ⊥) → ((o : extensions.Extension) → s ≡ codes.Extension o → ⊥) → (s ≡ codes.Select → ⊥) → (s ≡ codes.Call → ⊥)
      → plain_opening (node_within W i).kind ≡ opening_at W i (shape_in s)
  unfolding is_leaf opening_as wf_as
  plain-as codes.Var f a c g h j k = cc
  plain-as codes.Const f a c g h j k = cc
  plain-as (codes.Rotation o) f a c g h j k = absurd (c o refl)
  plain-as codes.Extraction f a c g h j k = absurd (g refl)
  plain-as (codes.Extension o) f a c g h j k = absurd (h o refl)
  plain-as codes.Select f a c g h j k = absurd (j refl)
  plain-as codes.Call f a c g h j k = absurd (k refl)
  plain-as codes.Unknown f a c g h j k = absurd f
  plain-as _ f a c g h j k = refl

  -- r is the shape of the node's mark
  module _ {r : code.Shape} (e : shape (node_within W i) ≡ shape_in r) (p : Taken W i (shape_in r)) (inner : is_leaf (shape (node_within W i)) ≡ false)
      (c : (o : rotations.Rotation) → r ≡ codes.Rotation o → ⊥) (g : r ≡ codes.Extraction → ⊥) (h : (o : extensions.Extension) → r ≡ codes.Extension o → ⊥) (j : r ≡ codes.Select → ⊥) (k : r ≡ codes.Call → ⊥)
      {kind : ℕ} (own : kind ≡ (node_within W i).kind) where
    pub of_plain : {q : Page} (P : Page) → q ≡ written P (plain_opening kind) → q ≡ written P (opening_of W i)
    of_plain P w =
        of-shape e P (w ∙ ap (λ (n : ℕ). written P (plain_opening n)) own ∙ ap (written P) (plain-as r p.formed (ap is_leaf (sym e) ∙ inner) c g h j k))
