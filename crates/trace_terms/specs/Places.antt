-- What is asked and promised of an evaluation.
use Rattle.std.specs.Prelude.{ℕ, ◌+◌, ◌*◌, ◌≤◌, ◌<◌, ◌≡◌, List, T, ltb, length}
use Rattle.std.proofs.Common.{sym, ◌∙◌, arith}
use Rattle.std.proofs.Math.Dec.{ltb→lt}
use Rattle.lists.specs.Tests.{and_0}
use Rattle.lent.specs.Records.{nodes-length, nodes-at}
use Rattle.echo_spec.specs.Input.{Node, no_node, node_at, nodes_of}
use Rattle.bv.specs.declared.Vector.{Vector}
use Rattle.trace_terms.specs.declared.Evaluation.{Evaluation}
use Rattle.trace_terms.specs.Ready.{ready, ready_step}
use Rattle.trace_terms.specs.Arms.{Held, Whole, whole}

-- node i can be evaluated on the row
abbrev pub Good : Evaluation → List ℕ → ℕ → Type 0
Good e row i = T (ready (nodes_of e.terms.problem.nodes.now) e.terms.widths.now e.terms.problem.var_width.now e.entries.now row i)

-- r is its value
abbrev pub Valued : Evaluation → List ℕ → ℕ → Vector → Type 0
Valued e row i r = Held e.terms.problem.nodes.now e.terms.problem.bits.now e.terms.widths.now e.terms.problem.var_width.now e.entries.now row i r

-- ---------------------------------------------------------------- laws: the node as it is read

module _ (e : Evaluation) (row : List ℕ) (i : ℕ) (g : Good e row i) where
  inside : i < length (nodes_of e.terms.problem.nodes.now)
  unfolding ready ready_step
  inside = ltb→lt i (length (nodes_of e.terms.problem.nodes.now)) (and_0 (ltb i (length (nodes_of e.terms.problem.nodes.now))) _ g)

  pub record-inside : 17 * i + 17 ≤ length e.terms.problem.nodes.now
  record-inside = omega (arith, inside, nodes-length e.terms.problem.nodes.now)

  -- all that is known of it
  pub known : (m : Node) → m ≡ node_at e.terms.problem.nodes.now i
      → Whole e.terms.problem.nodes.now e.terms.problem.bits.now e.terms.widths.now e.terms.problem.var_width.now e.entries.now row i m
  known m q =
      whole e.terms.problem.nodes.now e.terms.problem.bits.now e.terms.widths.now e.terms.problem.var_width.now e.entries.now row
      e.terms.usable i g m
      (q ∙ sym (nodes-at e.terms.problem.nodes.now no_node i (omega (arith, inside, nodes-length e.terms.problem.nodes.now))))
