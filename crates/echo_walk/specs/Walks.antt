-- The walk's tables by what they say of a node, and the texts that are written by them.
use Rattle.std.specs.Prelude.{ℕ, ◌+◌, ◌≤◌, ◌<◌, ◌≡◌, Bool, false, List, T, leb, length, get_or, take}
use Rattle.lists.specs.Tests.{every}
use Rattle.echo_spec.specs.Shapes.{Shape, is_leaf}
use Rattle.echo_spec.specs.Input.{array_widths, Node, shape, no_node, nodes_of, Problem, Dag}
use Rattle.echo_spec.specs.Widths.{wf_as}
use Rattle.echo_spec.specs.Walk.{asked_as, asked}
use Rattle.lent.specs.Lent.{problem_at, dag_at}
use Rattle.echo_tables.specs.declared.Mark.{Mark}
use Rattle.echo_tables.specs.Marks.{mark_at}
use Rattle.echo_tables.specs.Refused.{refused_at}
use Rattle.echo_walk.specs.declared.Walk.{Walk}
use Rattle.echo_walk.specs.Texts.{head_as, Style, plain, planned, text_in}

abbrev pub problem_in : Walk → Problem
problem_in W = problem_at W.problem.now

abbrev pub dag_in : Walk → Dag
dag_in W = dag_at W.problem.now

abbrev pub widths_in : Walk → List ℕ
widths_in W = W.widths.now

-- the mark of node i
abbrev pub mark_in : Walk → ℕ → Mark
mark_in W i = mark_at W.marks.now i

-- is the node's name to be written, and not its term
abbrev pub plan_in : Walk → ℕ → Bool
plan_in W i = (mark_in W i).named

-- the record of node i
abbrev pub node_within : Walk → ℕ → Node
node_within W i = get_or (nodes_of (problem_in W).nodes) i no_node

abbrev pub style_at : Walk → Style
style_at W = planned (plan_in W) (plain (dag_in W) (widths_in W) (problem_in W).bits)

-- the text of a node of that problem
abbrev pub text_at : Walk → ℕ → List ℕ
text_at W = text_in (style_at W)

-- no node is written as its name
pub record Plain (W : Walk) : Type 0 where
  pub plan : (i : ℕ) → plan_in W i ≡ false

-- node i is there, and its term is not refused
pub record Fine (W : Walk) (i : ℕ) : Type 0 where
  pub here : i < length (widths_in W)
  pub free : refused_at (dag_in W) (widths_in W) i ≡ 0

-- and it is below lim
pub record Under (W : Walk) (lim i : ℕ) : Type 0 where
  pub below : i < lim
  pub fine : Fine W i

-- the head of node i, taken as one of this shape
abbrev pub head_found_at : Walk → ℕ → Shape → List ℕ
head_found_at W i s = head_as (dag_in W) (widths_in W) (problem_in W).bits i (node_within W i) s

-- node i is of this shape, is well formed, and the tables take it
pub record Taken (W : Walk) (i : ℕ) (s : Shape) : Type 0 where
  pub here : i < length (widths_in W)
  pub shaped : shape (node_within W i) ≡ s
  pub formed : T (wf_as (length (problem_in W).bits) (array_widths (problem_in W)) (problem_in W).side (take i (widths_in W)) (node_within W i) s)
  pub taken : asked_as (dag_in W) (widths_in W) i (node_within W i) s ≡ 0

-- node i is a constant whose bits lie inside the bits
pub record Constant (W : Walk) (i : ℕ) : Type 0 where
  pub here : i < length (nodes_of (problem_in W).nodes)
  pub within : (node_within W i).a + (node_within W i).b ≤ length (problem_in W).bits
  pub binary : T (every (λ b. leb b 1) (problem_in W).bits)

-- node i is a variable or a constant, and the tables take it
pub record LeafAt (W : Walk) (i : ℕ) : Type 0 where
  pub here : i < length (widths_in W)
  pub leaf : T (is_leaf (shape (node_within W i)))
  pub taken : asked (dag_in W) (widths_in W) i ≡ 0

-- node i is neither, and the tables take it
pub record TermAt (W : Walk) (i : ℕ) : Type 0 where
  pub here : i < length (widths_in W)
  pub inner : is_leaf (shape (node_within W i)) ≡ false
  pub taken : asked (dag_in W) (widths_in W) i ≡ 0
