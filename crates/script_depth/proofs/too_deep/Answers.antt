-- `script_depth::too_deep` meets its contract: the rest of the bytes decides. Assumes nothing.
use Prim.Native.Nat.{◌+◌}
use mathlib.Core.Path.{sym, ◌∙◌}
use native.Mathlib.Omega.{arith}
use lib.ListN.{get_or, drop}
use Rattle.script_depth.specs.Nesting.{deep_from, too_deep}
use Rattle.script_depth.proofs.Nested.{one_more, deep-over, deep_step, deep-end}
use Rattle.script_depth.proofs.too_deep.Goals as goal

pub loop-b-init : goal.loop-b-init
unfolding too_deep
loop-b-init c = let e = c.default-nest.ensures in (omega (arith, e.1), λ i. deep_from (e.0 i) (e.1 i) c.args.s.now)

pub returns-then-nest-gt-DEEPEST : goal.returns-then-nest-gt-DEEPEST
returns-then-nest-gt-DEEPEST c = sym (deep-over _ _ _ (omega arith)) ∙ c.loop-b.invariant.1

pub loop-b-preserved : goal.loop-b-preserved
loop-b-preserved c =
    let s = c.args.s.now in
    let n = c.loop-b.nest in
    let i = c.loop-b.b-index in
    let d = deep_step s n.named n.depth i (omega arith) (omega arith) in (
      omega (arith, c.after-nest.ensures.depth, one_more n.named n.depth (get_or s i 0)),
      (λ k. deep_from (c.after-nest.ensures.named k) (c.after-nest.ensures.depth k) (drop (i + 1) s)) ∙ sym d ∙ c.loop-b.invariant.1,
    )

pub returns : goal.returns
returns c = sym (deep-end c.args.s.now c.loop-b.nest.named c.loop-b.nest.depth c.loop-b.b-index (omega arith)) ∙ c.loop-b.invariant.1
