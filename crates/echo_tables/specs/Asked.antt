-- What the tables ask of a node, by what is looked up in them.
use Rattle.std.specs.Prelude.{ℕ, ◌≡◌, List, Bool, true, false, ◌&&◌, ltb, leb, eqb, length, Some, None}
use Rattle.std.proofs.Math.Path.{refl}
use Rattle.std.proofs.Common.{sym, ◌∙◌, arith, get_or}
use Rattle.std.specs.Ordering.{nat_cmp, is_le}
use Rattle.std.proofs.lemmas.Bool.Decides.{nat_tests}
use borrow.Author.Tests.{eq-eqb, ne_eqb}
use Rattle.reading.specs.Kinds.{Const as const_kind}
use Rattle.echo_spec.specs.Refusals.{unless, ◌or_else◌}
use Rattle.echo_spec.specs.Shapes.{Shape, var, rotation, select, call}
use Rattle.echo_spec.specs.Input.{Node, no_node, Dag, aname_table, fname_table}
use Rattle.echo_spec.specs.Widths.{width_at}
use Rattle.echo_spec.specs.Tables.{find_node, find_call}
use Rattle.echo_spec.specs.Walk.{variable_ok, rotation_ok, args_match, call_ok, asked_as}
use Rattle.blast_kernel.specs.declared.Rotation as rotations
use Rattle.blast_kernel.specs.declared.Shape as code
use Rattle.blast_kernel.specs.declared.Shape.TheVariants.{Var, Const, Binary, Rotation, Extraction, Concat, Extension, Ite, Comparison, Negation, Connective, Unary, Select, Call, Unknown}
use Rattle.blast_kernel.specs.Kinds.{shape_in}
use Rattle.echo_tables.specs.Found.{found_of, found_none, found_some}

-- r is what was looked up of a variable's entry
module _ (d : Dag) (i : ℕ) (n : Node) where
  pub variable-absent : None ≡ found_of (find_node d.var_node i) → false ≡ variable_ok d i n
  unfolding variable_ok
  variable-absent e = rw (found_none (find_node d.var_node i) e, variable_ok) refl

  pub variable-known : {k w : ℕ} → Some k ≡ found_of (find_node d.var_node i) → w ≡ width_at d.var_width k → eqb w n.a ≡ variable_ok d i n
  unfolding variable_ok
  variable-known e q = rw (q, found_some (find_node d.var_node i) e, variable_ok) refl

-- a rotation's width is w, from 1 to 65,536 where b is true, and e tells whether its amount is a constant
pub le-cmp : (a b : ℕ) → is_le (nat_cmp a b) ≡ leb a b
le-cmp a b = grind (arith, nat_tests)

module _ (d : Dag) (ws : List ℕ) (i : ℕ) (n : Node) {w : ℕ} (is : w ≡ width_at ws i) {b : Bool} (range : b ≡ (leb 1 w && leb w 65536)) where
  from-one : (w : ℕ) → ltb 0 w ≡ leb 1 w
  from-one w = grind (arith, nat_tests)

  both : (p q r : Bool) → (p && q) ≡ true → r ≡ (p && (q && r))
  both true true r h = refl
  both true false r h = cc
  both false q r h = cc

  none : (p q r : Bool) → (p && q) ≡ false → false ≡ (p && (q && r))
  none true true r h = cc
  none true false r h = refl
  none false q r h = refl

  pub rotation-in : b ≡ true → {m : Node} → m ≡ get_or d.nodes n.b no_node → {e : Bool} → e ≡ eqb m.kind const_kind → e ≡ rotation_ok d ws i n
  unfolding rotation_ok
  rotation-in t q own = rw (← is, from-one w, ← q, own) (both (leb 1 w) (leb w 65536) _ (sym range ∙ t))

  pub rotation-out : b ≡ false → false ≡ rotation_ok d ws i n
  unfolding rotation_ok
  rotation-out t = rw (← is, from-one w) (none (leb 1 w) (leb w 65536) _ (sym range ∙ t))

-- a call's function has width w
module _ (d : Dag) (ws : List ℕ) (n : Node) {w : ℕ} (is : w ≡ width_at d.func_width n.a) where
  pub call-width : (w ≡ n.b → ⊥) → false ≡ call_ok d ws n
  unfolding call_ok
  call-width h = rw (← is, ne_eqb w n.b h) refl

  -- and this was looked up of its first call
  module _ (ok : w ≡ n.b) where
    pub call-absent : None ≡ found_of (find_call d.nodes n.a) → false ≡ call_ok d ws n
    unfolding call_ok
    call-absent e = rw (← is, eq-eqb w n.b ok, found_none (find_call d.nodes n.a) e) refl

    pub call_by : {c : ℕ} → Some c ≡ found_of (find_call d.nodes n.a) → {f : Node} {b : Bool} → f ≡ get_or d.nodes c no_node → b ≡ args_match ws d.side n f → b ≡ call_ok d ws n
    unfolding call_ok
    call_by q p e = rw (← is, eq-eqb w n.b ok, found_some (find_call d.nodes n.a) q, ← p) e

-- what is asked of node i by its shape
module _ (d : Dag) (ws : List ℕ) (i : ℕ) (n : Node) (s : Shape) where
  pub asked-variable : s ≡ var → {r : Bool} → r ≡ variable_ok d i n → unless r 4 ≡ asked_as d ws i n s
  unfolding asked_as
  asked-variable q e = rw (q, ← e) refl

  pub asked-rotation : s ≡ rotation → {r : Bool} → r ≡ rotation_ok d ws i n → unless r 5 ≡ asked_as d ws i n s
  unfolding asked_as
  asked-rotation q e = rw (q, ← e) refl

  pub asked-select : s ≡ select → {na : ℕ} → length (aname_table d) ≡ na → unless (ltb n.a na) 1 ≡ asked_as d ws i n s
  unfolding asked_as
  asked-select q e = rw (q, e) refl

  -- a function that is there, and its first call
  pub asked-call : s ≡ call → {nf : ℕ} → length (fname_table d) ≡ nf → {r : Bool} → r ≡ call_ok d ws n
      → (unless (ltb n.a nf) 1 or_else unless r 7) ≡ asked_as d ws i n s
  unfolding asked_as
  asked-call q f e = rw (q, f, ← e) refl

-- nothing is asked of the shapes that have no arm of their own
pub asked-nothing : (d : Dag) (ws : List ℕ) (i : ℕ) (n : Node) (s : code.Shape)
    → (s ≡ Var → ⊥) → ((o : rotations.Rotation) → s ≡ Rotation o → ⊥) → (s ≡ Select → ⊥) → (s ≡ Call → ⊥) → 0 ≡ asked_as d ws i n (shape_in s)
unfolding asked_as
asked-nothing d ws i n Var v r s c = absurd (v refl)
asked-nothing d ws i n Const v r s c = refl
asked-nothing d ws i n (Binary o) v r s c = refl
asked-nothing d ws i n (Rotation o) v r s c = absurd (r o refl)
asked-nothing d ws i n Extraction v r s c = refl
asked-nothing d ws i n Concat v r s c = refl
asked-nothing d ws i n (Extension o) v r s c = refl
asked-nothing d ws i n Ite v r s c = refl
asked-nothing d ws i n (Comparison o) v r s c = refl
asked-nothing d ws i n Negation v r s c = refl
asked-nothing d ws i n (Connective o) v r s c = refl
asked-nothing d ws i n (Unary o) v r s c = refl
asked-nothing d ws i n Select v r s c = absurd (s refl)
asked-nothing d ws i n Call v r s c = absurd (c refl)
asked-nothing d ws i n Unknown v r s c = refl
