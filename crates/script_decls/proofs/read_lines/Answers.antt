-- `read_lines` meets its contract: at each turn, what is read from the place reached tells what is read from the start.
use Rattle.std.specs.Prelude.{ℕ, Some, None}
use Rattle.std.proofs.Common.{sym, ◌∙◌, subst}
use Rattle.script_decls.specs.Lines.{stage_number}
use Rattle.script_decls.specs.Going.{stage-end, stage-bad, stage-more, ready-more}
use Rattle.script_decls.specs.Told.{NotedFrom, noted_more}
use Rattle.script_decls.proofs.read_lines.Goals as goal

pub returns-then-not-declare-clause-stage : goal.returns-then-not-declare-clause-stage
returns-then-not-declare-clause-stage c = c.loop-d.invariant.3 c.loop-d.t None (stage-bad (stage_number c.args.stage) c.args.s.now c.loop-d.so_far.first c.loop-d.so_far.count c.loop-d.p c.in-Some.d.line.name c.in-Some.d.line.name_end c.in-Some.d.line.end c.in-Some.ensures.line c.loop-d.t (sym c.declare.ensures.0 ∙ c.if-not-declare.true))

pub loop-d-preserved : goal.loop-d-preserved
loop-d-preserved c = (
  ready-more (stage_number c.args.stage) c.args.s.now c.loop-d.so_far.first c.loop-d.so_far.count c.loop-d.p c.in-Some.d.line.name c.in-Some.d.line.name_end c.in-Some.d.line.end c.in-Some.ensures.line c.loop-d.t _ c.loop-d.invariant.0 (c.declare.ensures.1 c.if-not-declare.false).0,
  c.loop-d.invariant.1,
  noted_more c.in-Some.d c.loop-d.invariant.2 c.loop-d.invariant.0 c.in-Some.ensures.line c.in-Some.ensures.told (c.declare.ensures.1 c.if-not-declare.false).1,
  λ u r h. c.loop-d.invariant.3 u r (stage-more (stage_number c.args.stage) c.args.s.now c.loop-d.so_far.first c.loop-d.so_far.count c.loop-d.p c.in-Some.d.line.name c.in-Some.d.line.name_end c.in-Some.d.line.end c.in-Some.ensures.line c.loop-d.t c.loop-d.t c.loop-d.invariant.0 u (sym c.declare.ensures.0 ∙ c.if-not-declare.false) r h),
)

pub returns-clause-stage : goal.returns-clause-stage
returns-clause-stage c = c.loop-d.invariant.3 c.loop-d.t (Some (record { names = c.loop-d.so_far.count; end = c.loop-d.p })) (stage-end (stage_number c.args.stage) c.args.s.now c.loop-d.so_far.first c.loop-d.t c.loop-d.so_far.count c.loop-d.p c.loop-d.invariant.0 c.in_default.ensures.line)

pub returns-clause-noted : goal.returns-clause-noted
returns-clause-noted c = subst (λ (i : ℕ). NotedFrom (stage_number c.args.stage) c.args.s.now i c.args.lines.count c.args.t.now c.loop-d.t c.loop-d.so_far.count) c.loop-d.invariant.1 c.loop-d.invariant.2
