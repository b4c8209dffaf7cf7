-- `replay_trace::replay` meets its contract. Assumes nothing.
use Rattle.std.proofs.Common.{◌≡◌, Err, length, arith, rules}
use Rattle.lent.specs.Lent.{problem_at}
use Rattle.replay_trace.specs.Errors.{Refused}
use Rattle.trace_tables.specs.Fixed.{measured-lent}
use Rattle.replay_trace.proofs.Replaying.{few_nodes, by_first, by-later, ran-refused, passes, widths-are, measured-at}
use Rattle.replay_trace.proofs.replay.Goals as goal

pub returns-in_err-printing : goal.returns-in_err-printing
returns-in_err-printing c =
    let p = problem_at c.args.problem.now in
    let e : c.from_residual.result ≡ Err (Refused c.in_err-printing.field-0.0) = search rules in
    ran-refused p c.args.values.now c.args.masks.now c.args.counts.now c.args.masks.now c.args.counts.now e
    (by_first p c.args.values.now (length c.args.masks.now) (length c.args.counts.now) c.in_err-printing.field-0.0 c.in_err-printing.ensures)

pub widths-count-requires : goal.widths-count-requires
widths-count-requires c = few_nodes (problem_at c.args.problem.now) c.in_ok-printing.ensures

pub invariant_of-terms : goal.invariant_of-terms
invariant_of-terms c = let p = problem_at c.args.problem.now in record { usable = ∣ measured-lent (measured-at p (widths-are p c.in_ok-printing.ensures (rw (c.of.ensures.bits, c.of.ensures.side, c.of.ensures.arrays) at c.widths-count.ensures))) ∣₁ }

pub tracing-requires : goal.tracing-requires
tracing-requires c = widths-are (problem_at c.args.problem.now) c.in_ok-printing.ensures (rw (c.of.ensures.bits, c.of.ensures.side, c.of.ensures.arrays) at c.widths-count.ensures)

pub returns-in_err-tracing : goal.returns-in_err-tracing
returns-in_err-tracing c =
    let p = problem_at c.args.problem.now in
    let e : c.from_residual-in_err-tracing.result ≡ Err c.in_err-tracing.field-0.0 = search rules in
    ran-refused p c.args.values.now c.args.masks.now c.args.counts.now c.args.masks.now c.args.counts.now e
    (by-later p c.args.values.now (length c.args.masks.now) (length c.args.counts.now) c.in_ok-printing.ensures c.row_count-n.ensures c.in_err-tracing.ensures)

pub evaluate-requires-clause-widths : goal.evaluate-requires-clause-widths
evaluate-requires-clause-widths c = widths-are (problem_at c.args.problem.now) c.in_ok-printing.ensures (rw (c.of.ensures.bits, c.of.ensures.side, c.of.ensures.arrays) at c.widths-count.ensures)

pub evaluate-requires-clause-traceable : goal.evaluate-requires-clause-traceable
evaluate-requires-clause-traceable c =
    passes (problem_at c.args.problem.now) c.args.values.now c.in_ok-printing.ensures (record { at = λ k. omega (arith, c.type_inv.values k) }) c.row_count-n.ensures
    c.in_ok-tracing.ensures

pub returns : goal.returns
returns c = (
  by-later (problem_at c.args.problem.now) c.args.values.now (length c.args.masks.now) (length c.args.counts.now) c.in_ok-printing.ensures c.row_count-n.ensures c.in_ok-tracing.ensures,
  c.row_count-n.ensures,
  c.evaluate.ensures,
)
