-- `replay_trace::evaluate` meets its contract. Assumes nothing.
use Rattle.lent.specs.Lent.{problem_at}
use Rattle.trace_theorems.specs.Accepting.{few}
use Rattle.replay_trace.proofs.Replaying.{trace, written}
use Rattle.replay_trace.proofs.evaluate.Goals as goal

pub fill-requires : goal.fill-requires
fill-requires c = few (problem_at c.args.terms.now.problem) c.requires.widths.passed

pub rows-requires-clause-trace : goal.rows-requires-clause-trace
rows-requires-clause-trace c = trace (problem_at c.args.terms.now.problem) c.requires.widths c.entries.ensures c.args.values.now c.args.n c.requires.traceable

pub returns : goal.returns
returns c =
    written (problem_at c.args.terms.now.problem) c.requires.widths c.entries.ensures c.args.values.now c.args.n c.requires.traceable
    c.requires.traceable.masks_room c.requires.traceable.counts_room c.rows.ensures
