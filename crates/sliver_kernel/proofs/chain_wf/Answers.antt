-- `sliver_kernel::chain_wf` meets its contract: the answer is what the pairs that are left give. Assumes nothing.
use Rattle.std.proofs.Common.{◌≡◌, ◌+◌, ◌-◌, suc, sym, ◌∙◌, arith, refl}
use Rattle.echo_spec.specs.Widths.{chain_wf}
use Rattle.sliver_kernel.proofs.Turns.{chain-short, chain-pair}
use Rattle.sliver_kernel.proofs.chain_wf.Goals as goal

pub returns-in_default : goal.returns-in_default
returns-in_default c =
    let e : c.args.n - c.loop-pair._pair ≡ suc (c.args.n - (c.loop-pair._pair + 1)) = omega arith in
    sym (c.loop-pair.invariant ∙ chain-short c.args.index c.args.value c.args.ws.now e c.loop-pair.rest.now c.in_default.len_below)

pub returns-then-not-earlier_of : goal.returns-then-not-earlier_of
returns-then-not-earlier_of c =
    let e : c.args.n - c.loop-pair._pair ≡ suc (c.args.n - (c.loop-pair._pair + 1)) = omega arith in
    sym (c.loop-pair.invariant
    ∙ chain-pair c.args.index c.args.value c.args.ws.now e c.loop-pair.rest.now c.in-len2-up.len_at_least
    ∙ rw (← c.earlier_of.ensures, c.if-not-earlier_of.true) refl)

pub returns-then-not-earlier_of-2 : goal.returns-then-not-earlier_of-2
returns-then-not-earlier_of-2 c =
    let e : c.args.n - c.loop-pair._pair ≡ suc (c.args.n - (c.loop-pair._pair + 1)) = omega arith in
    sym (c.loop-pair.invariant
    ∙ chain-pair c.args.index c.args.value c.args.ws.now e c.loop-pair.rest.now c.in-len2-up.len_at_least
    ∙ rw (← c.earlier_of.ensures, c.if-not-earlier_of.false, ← c.earlier_of-in-loop-pair.ensures, c.if-not-earlier_of-2.true) refl)

pub loop-pair-preserved : goal.loop-pair-preserved
loop-pair-preserved c =
    let e : c.args.n - c.loop-pair._pair ≡ suc (c.args.n - (c.loop-pair._pair + 1)) = omega arith in
    c.loop-pair.invariant
    ∙ chain-pair c.args.index c.args.value c.args.ws.now e c.loop-pair.rest.now c.in-len2-up.len_at_least
    ∙ rw (← c.earlier_of.ensures, c.if-not-earlier_of.false, ← c.earlier_of-in-loop-pair.ensures, c.if-not-earlier_of-2.false) refl

pub returns : goal.returns
unfolding chain_wf
returns c =
    let e : c.args.n - c.loop-pair._pair ≡ 0 = omega arith in
    sym (c.loop-pair.invariant ∙ rw e refl)
