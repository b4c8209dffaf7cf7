-- What is worked out of each node once, before the rows of a trace, and what is asked of the lent slices for it.
use Rattle.std.specs.Prelude.{ℕ, ◌+◌, ◌-◌, ◌≤◌, ◌<◌, ◌≡◌, List, Bool, ◌&&◌, cond, leb, ltb, eqb, length, get_or, take, drop, Option, None}
use Rattle.std.specs.Option.{unwrap_or}
use Rattle.std.proofs.Math.Path.{refl, ap, subst}
use Rattle.std.proofs.Common.{sym, ◌∙◌, arith, le-leb}
use Rattle.std.proofs.Math.Dec.{T, leb→le}
use Rattle.std.proofs.Math.Logic.{∥∥₁_elim}
use Rattle.std.proofs.Math.Bridge.{le_prop}
use Rattle.std.proofs.Math.Nat.{ℕ_set}
use Rattle.std.proofs.lemmas.Bool.{lt-leb}
use Rattle.lists.specs.Tests.{and-1}
use Rattle.reading.specs.Kinds.{Const}
use Rattle.echo_spec.specs.Shapes.{Shape, var, const, binary, rotation, extraction, concat, extension, ite, comparison, negation, connective, unary, select, call, unknown, shapes, shape_of}
use Rattle.echo_spec.specs.Input.{Problem, array_widths, Node, shape, no_node, nodes_of, ArrayWidths, fits64}
use Rattle.echo_spec.specs.Widths.{width_at, wf_as, node_wf}
use Rattle.echo_spec.specs.WidthLaws.{Sized, bin-operands}
use Rattle.echo_spec.specs.Trees.{constant_bits}
use Rattle.blast_kernel.specs.Kinds.{shape_in}
use Rattle.blast_kernel.specs.declared.Rotation as turns_in
use Rattle.blast_kernel.specs.declared.Shape as code
use Rattle.blast_kernel.specs.declared.Shape.TheVariants as codes
use Rattle.vectors.specs.Values.{number}
use Rattle.values.specs.NodeValues.{amount_in}

-- the widths are those of the width pass, and each bit is 0 or 1
pub record Lent (nodes bits ws : List ℕ) : Type 0 where
  pub arrays : ArrayWidths
  pub side : List ℕ
  pub widths : length ws ≡ length (nodes_of nodes)
  pub sized : (i : ℕ) → i < length ws → Sized (length bits) arrays side ws i (get_or (nodes_of nodes) i no_node)
  pub digits : (k : ℕ) → get_or bits k 0 ≤ 1

-- the same, with no choice of side entries and array widths
abbrev pub Usable : List ℕ → List ℕ → List ℕ → Type 0
Usable nodes bits ws = ∥ Lent nodes bits ws ∥₁

-- the same of a problem, by its own side entries and array widths
pub record Measured (p : Problem) (ws : List ℕ) : Type 0 where
  pub widths : length ws ≡ length (nodes_of p.nodes)
  pub sized : (i : ℕ) → i < length ws → Sized (length p.bits) (array_widths p) p.side ws i (get_or (nodes_of p.nodes) i no_node)
  pub digits : (k : ℕ) → get_or p.bits k 0 ≤ 1

pub measured-lent : {p : Problem} {ws : List ℕ} → Measured p ws → Lent p.nodes p.bits ws
measured-lent {p} m = record { arrays = array_widths p; side = p.side; widths = m.widths; sized = m.sized; digits = m.digits }

-- the bits of node b, taken for a constant, lie inside the bits
pub record Inside (nodes bits : List ℕ) (b : ℕ) : Type 0 where
  pub inside : (m : Node) → m ≡ get_or (nodes_of nodes) b no_node → m.a + m.b ≤ length bits

-- if node b is a constant, they do
pub record Steady (nodes bits : List ℕ) (b : ℕ) : Type 0 where
  pub steady : (get_or (nodes_of nodes) b no_node).kind ≡ Const → Inside nodes bits b

-- a rotation's width is one that a machine word holds, and its amount is a constant
abbrev pub turns : List Node → List ℕ → ℕ → Node → Bool
turns ns ws i n = (ltb 0 (width_at ws i) && leb (width_at ws i) 64) && eqb (get_or ns n.b no_node).kind Const

-- the place that a table of entries has for node i
abbrev pub place_in : List (Option ℕ) → ℕ → ℕ
place_in entry i = unwrap_or (get_or entry i None) 0

-- `entry` has a variable's place in its table. What does not fit a word is left out: 0.
unfoldable pub fixed_as : List Node → List ℕ → List ℕ → List (Option ℕ) → ℕ → Node → Shape → ℕ
fixed_as ns ws bits entry i n var = place_in entry i
fixed_as ns ws bits entry i n const = cond (leb n.b 64) (number (constant_bits bits n)) 0
fixed_as ns ws bits entry i n binary = 0
fixed_as ns ws bits entry i n rotation = cond (turns ns ws i n) (amount_in ns ws bits i n) 0
fixed_as ns ws bits entry i n extraction = 0
fixed_as ns ws bits entry i n concat = 0
fixed_as ns ws bits entry i n extension = 0
fixed_as ns ws bits entry i n ite = 0
fixed_as ns ws bits entry i n comparison = 0
fixed_as ns ws bits entry i n negation = 0
fixed_as ns ws bits entry i n connective = 0
fixed_as ns ws bits entry i n unary = 0
fixed_as ns ws bits entry i n select = 0
fixed_as ns ws bits entry i n call = 0
fixed_as ns ws bits entry i n unknown = 0

unfoldable pub fixed_of : List Node → List ℕ → List ℕ → List (Option ℕ) → ℕ → ℕ
fixed_of ns ws bits entry i = fixed_as ns ws bits entry i (get_or ns i no_node) (shape (get_or ns i no_node))

-- the table xs has it for the first n nodes
pub record Upto (nodes bits ws : List ℕ) (entry : List (Option ℕ)) (n : ℕ) (xs : List ℕ) : Type 0 where
  pub at : (i : ℕ) → i < n → get_or xs i 0 ≡ fixed_of (nodes_of nodes) ws bits entry i

abbrev pub Fixed : List ℕ → List ℕ → List ℕ → List (Option ℕ) → List ℕ → Type 0
Fixed nodes bits ws entry xs = Upto nodes bits ws entry (length (nodes_of nodes)) xs

-- ---------------------------------------------------------------- laws

module _ {nodes bits ws : List ℕ} (l : Lent nodes bits ws) where
  constant-inside : (i : ℕ) → i < length ws → (n : Node) → n ≡ get_or (nodes_of nodes) i no_node → shape n ≡ const → n.a + n.b ≤ length bits
  unfolding node_wf wf_as
  constant-inside i h n e s =
      let t : T (wf_as (length bits) l.arrays l.side (take i ws) n (shape n)) =
      subst (λ (x : Node). T (wf_as (length bits) l.arrays l.side (take i ws) x (shape x))) (sym e) (l.sized i h).wf in
      let t₁ : T (wf_as (length bits) l.arrays l.side (take i ws) n const) = subst (λ (x : Shape). T (wf_as (length bits) l.arrays l.side (take i ws) n x)) s t in
      leb→le (n.a + n.b) (length bits) (and-1 (fits64 n.b) _ (and-1 (ltb 0 n.b) _ t₁))

  steady-at : (i : ℕ) → i < length ws → (n : Node) → n ≡ get_or (nodes_of nodes) i no_node → shape n ≡ rotation → Steady nodes bits n.b
  unfolding node_wf wf_as shapes
  steady-at i h n e s =
      let t : T (wf_as (length bits) l.arrays l.side (take i ws) n (shape n)) =
      subst (λ (x : Node). T (wf_as (length bits) l.arrays l.side (take i ws) x (shape x))) (sym e) (l.sized i h).wf in
      let t₁ : T (wf_as (length bits) l.arrays l.side (take i ws) n rotation) = subst (λ (x : Shape). T (wf_as (length bits) l.arrays l.side (take i ws) n x)) s t in
      let lo : n.b < i = (bin-operands ws i h n.a n.b t₁).1 in
      record { steady = λ k. record { inside = λ m q. constant-inside n.b (omega arith) m q (ap shape_of (ap (λ (x : Node). x.kind) q ∙ k)) } }

-- whichever arrays and side entries the widths are of
module _ {nodes bits ws : List ℕ} (u : Usable nodes bits ws) where
  pub widths-all : length ws ≡ length (nodes_of nodes)
  widths-all = ∥∥₁_elim u (ℕ_set _ _) (λ (l : Lent nodes bits ws). l.widths)

  pub bit-small : (k : ℕ) → get_or bits k 0 ≤ 1
  bit-small k = ∥∥₁_elim u le_prop (λ (l : Lent nodes bits ws). l.digits k)

  -- a constant's bits lie inside the bits
  pub const-inside : (i : ℕ) → i < length ws → (n : Node) → n ≡ get_or (nodes_of nodes) i no_node → shape n ≡ const → n.a + n.b ≤ length bits
  const-inside i h n e s = ∥∥₁_elim u le_prop (λ (l : Lent nodes bits ws). constant-inside l i h n e s)

  pub rotation-steady : (i : ℕ) → i < length ws → (n : Node) → n ≡ get_or (nodes_of nodes) i no_node → shape n ≡ rotation → Steady nodes bits n.b
  rotation-steady i h n e s = record { steady = λ k. record { inside = λ m q. ∥∥₁_elim u le_prop (λ (l : Lent nodes bits ws). ((steady-at l i h n e s).steady k).inside m q) } }

module _ (nodes bits ws : List ℕ) (entry : List (Option ℕ)) (i : ℕ) (n : Node) (at : n ≡ get_or (nodes_of nodes) i no_node) where
  -- node i as it was read, whose shape is known
  pub fixed-at : (s : Shape) → shape n ≡ s → {r : ℕ} → r ≡ fixed_as (nodes_of nodes) ws bits entry i n s → r ≡ fixed_of (nodes_of nodes) ws bits entry i
  unfolding fixed_of
  fixed-at s e q =
      q ∙ ap (fixed_as (nodes_of nodes) ws bits entry i n) (sym e) ∙ ap (λ (x : Node). fixed_as (nodes_of nodes) ws bits entry i x (shape x)) at

  pub fixed-constant : shape n ≡ const → {r : ℕ} → n.b ≤ 64 → r ≡ number (take n.b (drop n.a bits)) → r ≡ fixed_of (nodes_of nodes) ws bits entry i
  unfolding fixed_as constant_bits
  fixed-constant e h q = fixed-at const e (rw (le-leb n.b 64 h) q)

  pub fixed-wide : shape n ≡ const → 64 < n.b → 0 ≡ fixed_of (nodes_of nodes) ws bits entry i
  unfolding fixed_as
  fixed-wide e h = fixed-at const e (rw (lt-leb n.b 64 h) refl)

  fixed-others : (s : code.Shape) → (s ≡ codes.Var → ⊥) → (s ≡ codes.Const → ⊥) → ((o : turns_in.Rotation) → s ≡ codes.Rotation o → ⊥) → 0 ≡ fixed_as (nodes_of nodes) ws bits entry i n (shape_in s)
  unfolding fixed_as
  fixed-others codes.Var h k l = absurd (h refl)
  fixed-others codes.Const h k l = absurd (k refl)
  fixed-others (codes.Binary o) h k l = refl
  fixed-others (codes.Rotation o) h k l = absurd (l o refl)
  fixed-others codes.Extraction h k l = refl
  fixed-others codes.Concat h k l = refl
  fixed-others (codes.Extension o) h k l = refl
  fixed-others codes.Ite h k l = refl
  fixed-others (codes.Comparison o) h k l = refl
  fixed-others codes.Negation h k l = refl
  fixed-others (codes.Connective o) h k l = refl
  fixed-others (codes.Unary o) h k l = refl
  fixed-others codes.Select h k l = refl
  fixed-others codes.Call h k l = refl
  fixed-others codes.Unknown h k l = refl

  pub fixed-other : {s : code.Shape} → shape_in s ≡ shape n → (s ≡ codes.Var → ⊥) → (s ≡ codes.Const → ⊥) → ((o : turns_in.Rotation) → s ≡ codes.Rotation o → ⊥) → 0 ≡ fixed_of (nodes_of nodes) ws bits entry i
  fixed-other {s} e h k l = fixed-at (shape_in s) (sym e) (fixed-others s h k l)
