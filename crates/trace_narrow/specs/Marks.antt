-- A table of the nodes that 14 passes, filled in node order.
use Prim.Native.Nat.{ℕ, zero, suc, ◌+◌, ◌≤◌, ◌<◌}
use Rattle.std.specs.Prelude.{◌≡◌, List, [], ◌∷◌, Bool, ◌&&◌, get_or, set, replicate}
use Rattle.std.proofs.Math.Path.{refl, ap, sym, subst}
use Rattle.std.proofs.Common.{◌∙◌, ◌⊎◌, inl, inr, arith, add-one, get_or-set_other}
use Rattle.std.proofs.Math.Bool.{true, false}
use lib.Dec.{T, ltb, leb, eqb, eqb→eq, eqb_refl}
use Rattle.std.proofs.Math.ListN.{length, get_or-eq_default}
use borrow.Author.Tests.{ltb-true, ltb-false, ne_eqb}
use Rattle.std.proofs.Math.Seq.{get_or-set_same}
use Rattle.lists.specs.Tests.{every, T→true, true→T}
use Rattle.lists.specs.Build.{upto, upto-below}
use Rattle.echo_spec.specs.Shapes.{Shape, shapes}
use Rattle.blast_kernel.specs.Kinds.{shape_in}
use Rattle.blast_kernel.specs.declared.Binary as binaries
use Rattle.blast_kernel.specs.declared.Comparison as comparisons
use Rattle.blast_kernel.specs.declared.Connective as connectives
use Rattle.blast_kernel.specs.declared.Extension as extensions
use Rattle.blast_kernel.specs.declared.Rotation as rotations
use Rattle.blast_kernel.specs.declared.Unary as unaries
use Rattle.blast_kernel.specs.declared.Shape as code
use Rattle.blast_kernel.specs.declared.Shape.TheVariants as codes
use Rattle.echo_spec.specs.Input.{Node, shape, no_node, nodes_of, Dag}
use Rattle.echo_spec.specs.Widths.{width_at}
use Rattle.echo_spec.specs.Walk.{Operand, operands_as}
use Rattle.traces.specs.Trace.{plain, narrow_step, narrow_below, narrow}

abbrev pub marking : List Bool → ℕ → Bool
marking marks j = get_or marks j false

-- what the test of node i answers, from the marks of the nodes before it
pub record Tested (nodes ws : List ℕ) (marks : List Bool) (i : ℕ) (r : Bool) : Type 0 where
  pub is : (d : Dag) → d.nodes ≡ nodes_of nodes → r ≡ narrow_step d ws (marking marks) i

-- the marks of the first n nodes, and none after them
pub record MarkedTo (nodes ws : List ℕ) (n : ℕ) (marks : List Bool) : Type 0 where
  pub at : (d : Dag) → d.nodes ≡ nodes_of nodes → (j : ℕ) → marking marks j ≡ narrow_below d ws n j

-- the marks of all nodes; what is no node is not marked
pub record Marked (nodes ws : List ℕ) (marks : List Bool) : Type 0 where
  pub at : (d : Dag) → d.nodes ≡ nodes_of nodes → (i : ℕ) → marking marks i ≡ narrow d ws i

-- r says whether 14 passes the roots
pub record RootsNarrow (nodes ws roots : List ℕ) (r : Bool) : Type 0 where
  pub is : (d : Dag) → d.nodes ≡ nodes_of nodes → r ≡ every (narrow d ws) roots

-- ---------------------------------------------------------------- laws

module _ {nodes ws : List ℕ} {marks : List Bool} {i : ℕ} where
  -- a node whose shape is known, and that is no wider than a word
  pub narrow-open : (m : Node) → m ≡ get_or (nodes_of nodes) i no_node → (s : Shape) → shape m ≡ s → width_at ws i ≤ 64
      → {r : Bool} → ((d : Dag) → r ≡ (plain s && every (λ (o : Operand). marking marks o.node) (operands_as d.side m s))) → Tested nodes ws marks i r
  unfolding narrow_step
  narrow-open m e s q h {r} k = record {
    is = λ d f.
        let w : leb (width_at ws i) 64 ≡ true = T→true (leb (width_at ws i) 64) (lib.Dec.le→leb (width_at ws i) 64 h) in
        let at : m ≡ get_or d.nodes i no_node = e ∙ ap (λ (ns : List Node). get_or ns i no_node) (sym f) in
        let t : (plain s && every (λ (o : Operand). marking marks o.node) (operands_as d.side m s))
        ≡ (plain (shape (get_or d.nodes i no_node)) && every (λ (o : Operand). marking marks o.node) (operands_as d.side (get_or d.nodes i no_node) (shape (get_or d.nodes i no_node)))) =
        ap (λ (x : Shape). plain x && every (λ (o : Operand). marking marks o.node) (operands_as d.side m x)) (sym q)
        ∙ ap (λ (x : Node). plain (shape x) && every (λ (o : Operand). marking marks o.node) (operands_as d.side x (shape x))) at in
        k d ∙ rw w t;
  }

  pub narrow_wide : 64 < width_at ws i → Tested nodes ws marks i false
  unfolding narrow_step
  narrow_wide h = record {
    is = λ d e.
        let w : leb (width_at ws i) 64 ≡ false =
        Rattle.lists.specs.Tests.no→false (leb (width_at ws i) 64) (λ t. let l : width_at ws i ≤ 64 = lib.Dec.leb→le (width_at ws i) 64 t in omega arith) in
        rw w refl;
  }

-- what is asked of a node's operands, by its shape in the code
module _ (d : Dag) (marks : List Bool) (m : Node) where
  abbrev passed : Shape → Bool
  passed s = plain s && every (λ (o : Operand). marking marks o.node) (operands_as d.side m s)

  pub leaf-passed : (k : code.Shape) → (k ≡ codes.Var) ⊎ (k ≡ codes.Const) → true ≡ passed (shape_in k)
  unfolding plain operands_as
  leaf-passed k (inl e) = rw e refl
  leaf-passed k (inr e) = rw e refl

  pub two-passed : (k : code.Shape) → ((o : binaries.Binary) × (k ≡ codes.Binary o)) ⊎ ((k ≡ codes.Concat) ⊎ (((o : comparisons.Comparison) × (k ≡ codes.Comparison o)) ⊎ ((o : connectives.Connective) × (k ≡ codes.Connective o))))
      → every (marking marks) (m.a ∷ m.b ∷ []) ≡ passed (shape_in k)
  unfolding plain operands_as
  two-passed k (inl (o, e)) = rw e refl
  two-passed k (inr (inl e)) = rw e refl
  two-passed k (inr (inr (inl (o, e)))) = rw e refl
  two-passed k (inr (inr (inr (o, e)))) = rw e refl

  pub one-passed : (k : code.Shape) → ((o : rotations.Rotation) × (k ≡ codes.Rotation o)) ⊎ (((o : extensions.Extension) × (k ≡ codes.Extension o)) ⊎ ((k ≡ codes.Negation) ⊎ ((o : unaries.Unary) × (k ≡ codes.Unary o))))
      → every (marking marks) (m.a ∷ []) ≡ passed (shape_in k)
  unfolding plain operands_as
  one-passed k (inl (o, e)) = rw e refl
  one-passed k (inr (inl (o, e))) = rw e refl
  one-passed k (inr (inr (inl e))) = rw e refl
  one-passed k (inr (inr (inr (o, e)))) = rw e refl

  pub extraction-passed : (k : code.Shape) → k ≡ codes.Extraction → every (marking marks) (m.c ∷ []) ≡ passed (shape_in k)
  unfolding plain operands_as
  extraction-passed k e = rw e refl

  pub ite-passed : (k : code.Shape) → k ≡ codes.Ite → every (marking marks) (m.a ∷ m.b ∷ m.c ∷ []) ≡ passed (shape_in k)
  unfolding plain operands_as
  ite-passed k e = rw e refl

  pub none-passed : (k : code.Shape) → (k ≡ codes.Select) ⊎ ((k ≡ codes.Call) ⊎ (k ≡ codes.Unknown)) → false ≡ passed (shape_in k)
  unfolding plain operands_as
  none-passed k (inl e) = rw e refl
  none-passed k (inr (inl e)) = rw e refl
  none-passed k (inr (inr e)) = rw e refl

module _ (nodes ws : List ℕ) where
  pub marks-start : MarkedTo nodes ws 0 (replicate 2048 false)
  unfolding upto
  marks-start = record { at = λ d e j. none 2048 j }
    where
      none : (n j : ℕ) → get_or (replicate n false) j false ≡ false
      none zero j = refl
      none (suc n) zero = refl
      none (suc n) (suc j) = none n j

  pub marks-next : (n : ℕ) (b : Bool) (marks : List Bool) → n < length marks → Tested nodes ws marks n b → MarkedTo nodes ws n marks
      → MarkedTo nodes ws (n + 1) (set marks n b)
  unfolding upto
  marks-next n b marks h t m = rw (add-one n) (record { at = λ d e j. by_place d e j (eqb j n) refl })
    where
      by_place : (d : Dag) → d.nodes ≡ nodes_of nodes → (j : ℕ) (c : Bool) → eqb j n ≡ c
          → get_or (set marks n b) j false ≡ elim c [ true ↦ narrow_step d ws (narrow_below d ws n) n | false ↦ narrow_below d ws n j ]
      by_place d e j true p =
          let z : j ≡ n = eqb→eq j n (true→T p) in
          rw (z, get_or-set_same marks n b false h) (t.is d e ∙ (λ k. narrow_step d ws (λ x. m.at d e x k) n))
      by_place d e j false p =
          let far : j ≡ n → ⊥ = λ z. subst T p (rw z (eqb_refl n)) in
          rw (get_or-set_other marks n j b false far) (m.at d e j)

  no-mark : (d : Dag) (i : ℕ) → length d.nodes ≤ i → narrow d ws i ≡ false
  unfolding narrow narrow_step plain shapes
  no-mark d i h = rw (get_or-eq_default d.nodes no_node h) (neither (leb (width_at ws i) 64))
    where
      neither : (b : Bool) → (b && false) ≡ false
      neither true = refl
      neither false = refl

  -- the table's default stands from n on
  upto-past : {A : Type 0} (step : (ℕ → A) → ℕ → A) (z : A) (n j : ℕ) → n ≤ j → upto step z n j ≡ z
  unfolding upto
  upto-past step z zero j h = refl
  upto-past step z (suc n) j h = rw (ne_eqb j n (λ e. omega arith), upto) (upto-past step z n j (omega arith))

  pub marks-whole : (n : ℕ) (marks : List Bool) → n ≡ length (nodes_of nodes) → MarkedTo nodes ws n marks → Marked nodes ws marks
  unfolding narrow
  marks-whole n marks q m = record { at = λ d e i. m.at d e i ∙ by_place d e i (ltb i n) refl }
    where
      by_place : (d : Dag) → d.nodes ≡ nodes_of nodes → (i : ℕ) (b : Bool) → ltb i n ≡ b → narrow_below d ws n i ≡ narrow d ws i
      by_place d e i true p = upto-below (narrow_step d ws) false n i (ltb-true i n p)
      by_place d e i false p =
          upto-past (narrow_step d ws) false n i (ltb-false i n p) ∙ sym (no-mark d i (let l : n ≤ i = ltb-false i n p in omega (arith, ap length e)))

pub passed-by : {nodes ws roots : List ℕ} {marks : List Bool} {r : Bool} → Marked nodes ws marks → r ≡ every (marking marks) roots → RootsNarrow nodes ws roots r
passed-by {roots = roots} m q = record { is = λ d e. q ∙ (λ k. every (λ i. m.at d e i k) roots) }
