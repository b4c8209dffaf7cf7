-- What a query has passed that is not refused, and which numbers a refusal can have: the laws of the checks are in proofs/Accepted.antt.
use Rattle.std.specs.Prelude.{ℕ, zero, suc, ◌≤◌, ◌<◌, ◌≡◌, refl, List, [], ◌∷◌, Bool, true, false, length, get_or}
use Rattle.std.proofs.Common.{arith}
use Rattle.lists.specs.Tests.{among, among-every}
use lib.Dec.{leb, leb→le, T, ltb, eqb, eqb→eq}
use Rattle.echo_spec.specs.Refusals.{unless, ◌or_else◌}
use Rattle.echo_spec.specs.Shapes.{
  Shape,
  var,
  const,
  binary,
  rotation,
  extraction,
  concat,
  extension,
  ite,
  comparison,
  negation,
  connective,
  unary,
  select,
  call,
  unknown,
  is_bool,
}
use Rattle.echo_spec.specs.Input.{Node, shape, no_node, Dag, aname_table, fname_table}
use Rattle.echo_spec.specs.Widths.{array_widths_ok}
use Rattle.echo_spec.specs.Names.{names_ok}
use Rattle.echo_spec.specs.Sharing.{unshared}
use Rattle.echo_spec.specs.Tables.{columns_ok, decl_vars_ok, decl_funcs_ok}
use Rattle.echo_spec.specs.Walk.{call_ok, variable_ok, rotation_ok, asked_as, asked, Operand, operands_as, walk_all, sort_ok, step_of_walk, walk_roots}

-- ---------------------------------------------------------------- refusals one after the other

pub unless-passed : (b : Bool) (n : ℕ) → unless b (suc n) ≡ 0 → T b
unless-passed true n e = tt
unless-passed false n e = absurd (omega arith)

pub or_else-passed : (m n : ℕ) → (m or_else n) ≡ 0 → (m ≡ 0) × (n ≡ 0)
or_else-passed zero n e = (refl, e)
or_else-passed (suc m) n e = absurd (omega arith)

pub or_else-either : (m n k : ℕ) → m ≤ k → n ≤ k → (m or_else n) ≤ k
or_else-either zero n k p q = q
or_else-either (suc m) n k p q = p

pub unless-bound : (b : Bool) (n k : ℕ) → n ≤ k → unless b n ≤ k
unless-bound true n k h = omega arith
unless-bound false n k h = h

-- ---------------------------------------------------------------- what an accepted query has passed

-- whatever way it is printed
pub record Checked (d : Dag) (ws : List ℕ) : Type 0 where
  pub columns : T (columns_ok d)
  pub arrays : T (array_widths_ok d.array-widths)
  pub widths : length ws ≡ length d.nodes
  pub names : T (names_ok d)
  pub variables : T (decl_vars_ok d)
  pub functions : T (decl_funcs_ok d ws)

-- and what the plain way to print asks besides
pub record Accepted (d : Dag) (ws roots : List ℕ) : Type 0 where
  pub checked : Checked d ws
  pub sharing : T (unshared d.nodes d.side roots)
  pub walked : walk_roots d ws roots ≡ 0

-- what a node has passed where it is not refused
pub record Walked (d : Dag) (ws : List ℕ) (below : ℕ → Bool → ℕ) (i : ℕ) (wanted : Bool) : Type 0 where
  pub exists : i < length d.nodes
  pub sort : T (sort_ok wanted (is_bool (shape (get_or d.nodes i no_node))))
  pub taken : asked_as d ws i (get_or d.nodes i no_node) (shape (get_or d.nodes i no_node)) ≡ 0
  pub operands : walk_all below (operands_as d.side (get_or d.nodes i no_node) (shape (get_or d.nodes i no_node))) ≡ 0

pub walk-passed : (d : Dag) (ws : List ℕ) (below : ℕ → Bool → ℕ) (i : ℕ) (wanted : Bool) → step_of_walk d ws below i wanted ≡ 0 → Walked d ws below i wanted
unfolding step_of_walk asked
walk-passed d ws below i wanted e =
    let e₁ = or_else-passed (unless (ltb i (length d.nodes)) 1) _ e in
    let e₂ = or_else-passed (unless (sort_ok wanted (is_bool (shape (get_or d.nodes i no_node)))) 3) _ e₁.1 in
    let e₃ = or_else-passed (asked d ws i) _ e₂.1 in
    record {
      exists = lib.Dec.ltb→lt i (length d.nodes) (unless-passed (ltb i (length d.nodes)) 0 e₁.0);
      sort = unless-passed (sort_ok wanted (is_bool (shape (get_or d.nodes i no_node)))) 2 e₂.0;
      taken = e₃.0;
      operands = e₃.1;
    }

-- ---------------------------------------------------------------- which numbers there are

-- what holds of each number holds of the first that is not 0
pub in-or_else : (t : ℕ → Bool) (m n : ℕ) → T (t m) → T (t n) → T (t (m or_else n))
in-or_else t zero n a b = b
in-or_else t (suc m) n a b = a

pub in-unless : (t : ℕ → Bool) (b : Bool) (n : ℕ) → T (t 0) → T (t n) → T (t (unless b n))
in-unless t true n a b = a
in-unless t false n a b = b

-- the numbers that a walk can tell
unfoldable pub walk_number : ℕ → Bool
walk_number n = among (0 ∷ 1 ∷ 3 ∷ 4 ∷ 5 ∷ 7 ∷ []) n

-- of each operand and either sort
abbrev pub WalkNumbers : (ℕ → Bool → ℕ) → Type 0
WalkNumbers below = (j : ℕ) (b : Bool) → T (walk_number (below j b))

pub asked-number : (d : Dag) (ws : List ℕ) (i : ℕ) (n : Node) (s : Shape) → T (walk_number (asked_as d ws i n s))
unfolding asked_as walk_number
asked-number d ws i n var = in-unless walk_number (variable_ok d i n) 4 tt tt
asked-number d ws i n const = tt
asked-number d ws i n binary = tt
asked-number d ws i n rotation = in-unless walk_number (rotation_ok d ws i n) 5 tt tt
asked-number d ws i n extraction = tt
asked-number d ws i n concat = tt
asked-number d ws i n extension = tt
asked-number d ws i n ite = tt
asked-number d ws i n comparison = tt
asked-number d ws i n negation = tt
asked-number d ws i n connective = tt
asked-number d ws i n unary = tt
asked-number d ws i n select = in-unless walk_number (ltb n.a (length (aname_table d))) 1 tt tt
asked-number d ws i n call =
    in-or_else walk_number (unless (ltb n.a (length (fname_table d))) 1) (unless (call_ok d ws n) 7) (in-unless walk_number (ltb n.a (length (fname_table d))) 1 tt tt)
    (in-unless walk_number (call_ok d ws n) 7 tt tt)
asked-number d ws i n unknown = tt

pub asked-bound : (d : Dag) (ws : List ℕ) (i : ℕ) (n : Node) (s : Shape) → asked_as d ws i n s ≤ 7
unfolding walk_number
asked-bound d ws i n s = leb→le (asked_as d ws i n s) 7 (among-every (λ n. leb n 7) (0 ∷ 1 ∷ 3 ∷ 4 ∷ 5 ∷ 7 ∷ []) tt (asked_as d ws i n s) (asked-number d ws i n s))

pub all-number : (below : ℕ → Bool → ℕ) → WalkNumbers below → (os : List Operand) → T (walk_number (walk_all below os))
unfolding walk_all walk_number
all-number below h [] = tt
all-number below h (o ∷ os) = in-or_else walk_number (below o.node o.bool) (walk_all below os) (h o.node o.bool) (all-number below h os)

pub step-number : (d : Dag) (ws : List ℕ) (below : ℕ → Bool → ℕ) → WalkNumbers below → WalkNumbers (step_of_walk d ws below)
unfolding step_of_walk asked walk_number
step-number d ws below h i w =
    let n : Node = get_or d.nodes i no_node in
    in-or_else walk_number (unless (ltb i (length d.nodes)) 1) _ (in-unless walk_number (ltb i (length d.nodes)) 1 tt tt)
    (in-or_else walk_number (unless (sort_ok w (is_bool (shape n))) 3) _ (in-unless walk_number (sort_ok w (is_bool (shape n))) 3 tt tt)
    (in-or_else walk_number (asked_as d ws i n (shape n)) _ (asked-number d ws i n (shape n)) (all-number below h (operands_as d.side n (shape n)))))

-- a query's refusals are 1 to 7 and 12
unfoldable pub query_number : ℕ → Bool
query_number n = among (0 ∷ 1 ∷ 2 ∷ 3 ∷ 4 ∷ 5 ∷ 6 ∷ 7 ∷ 12 ∷ []) n

-- with endless room a problem is accepted or refused with 1 to 9 or 12
unfoldable pub endless_number : ℕ → Bool
endless_number n = among (0 ∷ 1 ∷ 2 ∷ 3 ∷ 4 ∷ 5 ∷ 6 ∷ 7 ∷ 8 ∷ 9 ∷ 12 ∷ []) n
