-- `literal` meets its contract: at each turn what is left of the word is expected at the place reached.
use Rattle.std.proofs.Common.{◌≡◌, ◌+◌, sym, ap, ◌∙◌, arith, [], length, drop, length-drop, drop_of_length-le}
use Rattle.readback.specs.Reader.{expect, took}
use Rattle.script_tokens.specs.Stretches.{expect-short, expect-empty, expect-on, expect-off}
use Rattle.script_tokens.proofs.literal.Goals as goal

pub returns-then-s-at : goal.returns-then-s-at
returns-then-s-at c = expect-short c.args.w.now (drop c.args.at c.args.s.now) (omega (arith, length-drop c.args.at c.args.s.now, c.if-s-at.true))

pub loop-k-init : goal.loop-k-init
loop-k-init c =
    let z : c.args.at + 0 ≡ c.args.at = omega arith in
    ap (λ n. expect c.args.w.now (drop n c.args.s.now)) (sym z)

pub returns-then-s-at-2 : goal.returns-then-s-at-2
returns-then-s-at-2 c = c.loop-k.invariant ∙ expect-off c.args.w.now c.args.s.now c.args.at c.loop-k.k c.loop-k-test.true (omega (arith, c.requires, c.if-s-at.false, c.loop-k-test.true)) c.if-s-at-2.true

pub loop-k-preserved : goal.loop-k-preserved
loop-k-preserved c = c.loop-k.invariant ∙ expect-on c.args.w.now c.args.s.now c.args.at c.loop-k.k c.loop-k-test.true (omega (arith, c.requires, c.if-s-at.false, c.loop-k-test.true)) c.if-s-at-2.false

pub returns : goal.returns
returns c =
    let w = c.args.w.now in
    let e : c.loop-k.k ≡ length w = omega (arith, c.loop-k.auto.k-end, c.loop-k-test.false) in
    let z : drop c.loop-k.k w ≡ [] = drop_of_length-le w (omega (arith, e)) in
    (omega (arith, c.requires, c.if-s-at.false), c.loop-k.invariant ∙ rw z (expect-empty _) ∙ ap (λ n. took [] (drop (c.args.at + n) c.args.s.now)) e)
