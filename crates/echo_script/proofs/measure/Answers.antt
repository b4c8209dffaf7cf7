-- `measure` meets its contract: the checks before the names, in order. Assumes nothing.
use Rattle.std.proofs.Common.{sym, ◌∙◌, arith}
use Rattle.lent.specs.Lent.{problem_at}
use Rattle.lent.specs.Records.{nodes-length}
use Rattle.echo_script.proofs.Checking.{few-nodes, measured}
use Rattle.echo_script.proofs.measure.Goals as goal

pub widths-n-requires : goal.widths-n-requires
widths-n-requires c =
    let p = problem_at c.args.problem.now in
    omega (arith, nodes-length p.nodes, few-nodes p (sym c.within_limits.ensures ∙ c.if-not-within_limits.false))

pub returns : goal.returns
returns c =
    let of = c.of-pass.ensures in
    let allowed = rw of.arrays at c.allowed.ensures in
    let passed = rw (of.bits, of.side, of.arrays) at c.widths-n.ensures in
    measured (problem_at c.args.problem.now) (sym c.within_limits.ensures ∙ c.if-not-within_limits.false) (sym c.encoded.ensures ∙ c.if-not-encoded.false)
    (sym c.columns_ok.ensures ∙ c.if-not-columns_ok.false) (sym allowed ∙ c.if-not-allowed.false) passed (omega arith)
