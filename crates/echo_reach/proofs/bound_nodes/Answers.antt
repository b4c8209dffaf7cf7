-- `bound_nodes` meets its contract: from the root down, the nodes that are reached are marked.
use Rattle.std.proofs.Common.{rules, arith, ◌≡◌, false, length, replicate}
use Rattle.lent.specs.Lent.{dag_at}
use Rattle.echo_reach.specs.Marks.{few-nodes, reaching-root, reaching-down, reaching-ends, above-root, above-down, lower-operands, both-all}
use Rattle.echo_reach.proofs.bound_nodes.Goals as goal

pub overflow_step-i : goal.overflow_step-i
overflow_step-i c = omega (arith, c.requires.1, few-nodes c.requires.0)

pub loop-i-init : goal.loop-i-init
loop-i-init c =
    let cleared : c.fill.new.self ≡ replicate (length c.args.bound.now) false = search rules in (
      reaching-root (dag_at c.args.problem.now) c.args.root _ c.told-bound c.requires.1 cleared c.mark_one.ensures,
      above-root c.args.root _ cleared c.mark_one.ensures,
    )

pub visit-requires : goal.visit-requires
visit-requires c = (c.requires.0, omega (arith, c.requires.1), c.loop-i.invariant.0.size)

pub loop-i-preserved : goal.loop-i-preserved
loop-i-preserved c = (
  reaching-down (dag_at c.args.problem.now) c.args.root _ (omega arith) (omega (arith, c.requires.1, few-nodes c.requires.0)) c.loop-i.invariant.0
      c.visit.ensures,
  above-down _ c.args.root _ (omega arith) (lower-operands c.requires.0 _ (omega (arith, c.requires.1))) c.loop-i.invariant.1 c.visit.ensures,
)

pub overflow_add-root : goal.overflow_add-root
overflow_add-root c = omega (arith, c.requires.1, few-nodes c.requires.0)

pub keep-requires : goal.keep-requires
keep-requires c = omega (arith, c.loop-i.invariant.0.size, c.requires.1, few-nodes c.requires.0)

pub returns : goal.returns
returns c =
    reaching-ends c.requires.0 _ c.args.root _ c.requires.2 c.loop-i.invariant.0 (omega arith)
    (both-all c.keep.ensures (λ j l. c.loop-i.invariant.1.above j (omega arith)))
