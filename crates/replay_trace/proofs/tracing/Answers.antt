-- `replay_trace::tracing` meets its contract. Assumes nothing.
use Rattle.lent.specs.Lent.{problem_at}
use Rattle.trace_theorems.specs.Accepting.{few}
use Rattle.replay_trace.proofs.Replaying.{narrow-is, too_wide, no-values, no-room, all_pass}
use Rattle.replay_trace.proofs.tracing.Goals as goal

pub roots_narrow-requires : goal.roots_narrow-requires
roots_narrow-requires c = few (problem_at c.args.terms.now.problem) c.requires.passed

pub returns-then-not-roots_narrow : goal.returns-then-not-roots_narrow
returns-then-not-roots_narrow c = too_wide (problem_at c.args.terms.now.problem) c.args.values.now c.args.n c.args.masks c.args.counts (narrow-is (problem_at c.args.terms.now.problem) c.requires c.roots_narrow.ensures) c.if-not-roots_narrow.true

pub returns-then-not-values_fit : goal.returns-then-not-values_fit
returns-then-not-values_fit c = no-values (problem_at c.args.terms.now.problem) c.args.values.now c.args.n c.args.masks c.args.counts (narrow-is (problem_at c.args.terms.now.problem) c.requires c.roots_narrow.ensures) c.if-not-roots_narrow.false c.values_fit.ensures c.if-not-values_fit.true

pub returns-then-n-masks : goal.returns-then-n-masks
returns-then-n-masks c = no-room (problem_at c.args.terms.now.problem) c.args.values.now c.args.n c.args.masks c.args.counts (narrow-is (problem_at c.args.terms.now.problem) c.requires c.roots_narrow.ensures) c.if-not-roots_narrow.false c.values_fit.ensures c.if-not-values_fit.false c.then-n-masks.either

pub returns : goal.returns
returns c = all_pass (problem_at c.args.terms.now.problem) c.args.values.now c.args.n c.args.masks c.args.counts (narrow-is (problem_at c.args.terms.now.problem) c.requires c.roots_narrow.ensures) c.if-not-roots_narrow.false c.values_fit.ensures c.if-not-values_fit.false c.if-n-masks.false c.if-n-counts.false
