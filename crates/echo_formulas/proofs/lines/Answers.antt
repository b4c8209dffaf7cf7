-- `echo_formulas::lines` meets its contract: one root a turn. Assumes nothing.
use native.Mathlib.Omega.{arith}
use Rattle.echo_bytes.specs.Laws.{written_then}
use Rattle.echo_walk.proofs.Laws.{begun, begun-next, begun-none}
use Rattle.echo_openings.specs.Placed.{placed_at}
use Rattle.echo_formulas.proofs.Lining.{line_step, lines_none}
use Rattle.echo_formulas.proofs.lines.Goals as goal

pub loop-root-init : goal.loop-root-init
loop-root-init c = begun _ (omega arith)

pub formula_node-r-requires : goal.formula_node-r-requires
formula_node-r-requires c = (c.requires.at _ (omega arith), omega arith)

pub loop-root-preserved : goal.loop-root-preserved
loop-root-preserved c =
    begun-next c.loop-root.invariant _ _ (line_step (placed_at c.args.walk.now 0) c.args.roots.now _ (omega arith))
    (written_then _ _ _ c.formula_node-r.ensures c.byte-q.ensures)

pub returns : goal.returns
returns c = begun-none c.loop-root.invariant (lines_none (placed_at c.args.walk.now 0) c.args.roots.now (omega arith))
