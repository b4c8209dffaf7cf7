-- `replay_trace::replay_trace` meets its contract. Assumes nothing.
use Rattle.lent.specs.Lent.{problem_at}
use Rattle.replay_trace.proofs.Replaying.{settled}
use Rattle.replay_trace.proofs.replay_trace.Goals as goal

pub returns : goal.returns
returns c =
    rw (c.clear_on_refusal.ensures, c.clear_on_refusal-2.ensures)
    (settled (problem_at c.args.problem.now) c.args.values.now c.args.masks.now c.args.counts.now c.replay-told.new.masks c.replay-told.new.counts c.replay-told.result c.replay-told.ensures c.replay-told.auto.masks c.replay-told.auto.counts)
