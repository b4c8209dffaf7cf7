-- `term` meets its contract. The measure is what is left of the script; the loop keeps what the head said of the term.
use Rattle.std.proofs.Common.{arith, subst}
use Rattle.script_terms.specs.declared.TermState.{TermState}
use Rattle.script_terms.specs.States.{SortAt, told_at}
use Rattle.script_terms.specs.TurnLaws.{held-usable, came, went, asking-of, sorted_of, told-none}
use Rattle.script_terms.specs.Lengths.{none-by, early-by, gone-by}
use Rattle.script_terms.proofs.+term.Goals as goal

pub returns-then-at-end : goal.returns-then-at-end
returns-then-at-end t c = λ D κ. early-by c.args.script.now.text.now D c.args.at.now c.args.end c.if-at-end.true c.requires.1

pub more-requires : goal.more-requires
more-requires t c = let g = c.loop-at.invariant c.requires.0.0 c.requires.0.1 c.args.at.now (c.begin.ensures c.requires.0.0 c.requires.0.1) in (g.high, held-usable g.held)

pub term-requires : goal.term-requires
term-requires t c =
    let q = asking-of c.args.script.now.text.now c.requires.0.0 c.args.at.now c.more.new.at c.more.new.w (c.more.ensures.0 c.requires.0.0 c.args.at.now (c.loop-at.invariant c.requires.0.0 c.requires.0.1 c.args.at.now (c.begin.ensures c.requires.0.0 c.requires.0.1))).turn.turned c.loop-at-test.true in
    ((let low = q.low in let high = q.high in omega arith), (c.requires.0, q.high))

pub returns-in_err-n : goal.returns-in_err-n
returns-in_err-n t c = λ D κ. rw c.from_residual.ensures (gone-by (asking-of c.args.script.now.text.now D c.args.at.now c.more.new.at c.more.new.w (c.more.ensures.0 D c.args.at.now (c.loop-at.invariant D κ c.args.at.now (c.begin.ensures D κ))).turn.turned c.loop-at-test.true) (c.in_err-n.ensures D κ) c.inner_end.ensures)

pub step-requires : goal.step-requires
step-requires t c = let q = asking-of c.args.script.now.text.now c.requires.0.0 c.args.at.now c.more.new.at c.more.new.w (c.more.ensures.0 c.requires.0.0 c.args.at.now (c.loop-at.invariant c.requires.0.0 c.requires.0.1 c.args.at.now (c.begin.ensures c.requires.0.0 c.requires.0.1))).turn.turned c.loop-at-test.true in (q.state, q.held)

pub loop-at-smaller : goal.loop-at-smaller
loop-at-smaller t c =
    let x = c.in_ok-n.ensures c.requires.0.0 c.requires.0.1 in
    let low = x.0 in
    let high = x.1 in
    let further = (c.more.ensures.0 c.requires.0.0 c.args.at.now (c.loop-at.invariant c.requires.0.0 c.requires.0.1 c.args.at.now (c.begin.ensures c.requires.0.0 c.requires.0.1))).turn.further c.loop-at-test.true in
    omega arith

pub loop-at-preserved : goal.loop-at-preserved
loop-at-preserved t c = λ D κ a x.
    let q = asking-of c.args.script.now.text.now D a c.more.new.at c.more.new.w (c.more.ensures.0 D a (c.loop-at.invariant D κ a x)).turn.turned c.loop-at-test.true in
    let u = came {n = c.in_ok-n.n} {e = c.term.new.at} q (c.in_ok-n.ensures D κ) in
    went u (c.step.ensures u.state u.held)

pub returns-in-Done : goal.returns-in-Done
returns-in-Done t c = λ D κ.
    subst (λ (w : TermState). SortAt c.args.script.now.text.now D c.args.at.now (told_at w c.more.new.at)) c.in-Done.is
    (sorted_of c.args.script.now.text.now D c.args.at.now c.more.new.at c.more.new.w (c.more.ensures.0 D c.args.at.now (c.loop-at.invariant D κ c.args.at.now (c.begin.ensures D κ))).turn.turned c.loop-at-test.false)

pub returns-in_default : goal.returns-in_default
returns-in_default t c = λ D κ.
    none-by c.args.script.now.text.now D c.args.at.now c.args.end
    (subst (SortAt c.args.script.now.text.now D c.args.at.now) (told-none c.more.new.w c.more.new.at c.in_default.not-Done)
    (sorted_of c.args.script.now.text.now D c.args.at.now c.more.new.at c.more.new.w (c.more.ensures.0 D c.args.at.now (c.loop-at.invariant D κ c.args.at.now (c.begin.ensures D κ))).turn.turned c.loop-at-test.false))
