-- `copy_operands` meets its contract: at each turn the first i operands are side entries.
use Rattle.std.proofs.Common.{ℕ, ◌≡◌, ◌<◌, ◌+◌, ◌-◌, ◌/◌, ◌∙◌, ap, take, drop, set, get_or-take, get_or-drop, length-take, length-drop, arith}
use Rattle.heap_laws.specs.Heap.{halves}
use Rattle.heap_laws.specs.Filled.{filled}
use Rattle.heap_laws.specs.Pairs.{copied_none, copied_more}
use Rattle.script_heap.proofs.copy_operands.Goals as goal

pub loop-i-init : goal.loop-i-init
loop-i-init c = copied_none c.args.side.now c.args.stack.now c.args.from c.args.base c.args.count c.requires.side_room c.requires.operands

pub loop-i-preserved : goal.loop-i-preserved
loop-i-preserved c =
    let n : ℕ = c.args.base + c.args.count - c.args.base in
    let l : c.loop-i.i < c.args.count = omega (arith, length-take n (drop c.args.base c.args.stack.now), c.loop-i-test.true) in
    ap (λ (x : ℕ). set c.loop-i.side (c.args.from + c.loop-i.i) (x / 2))
    (get_or-take n (drop c.args.base c.args.stack.now) c.loop-i.i 0 (omega arith) ∙ get_or-drop c.args.base c.args.stack.now c.loop-i.i 0)
    ∙ copied_more c.args.side.now c.args.stack.now c.args.from c.args.base c.args.count c.requires.side_room c.requires.operands c.loop-i.i l c.loop-i.invariant

pub returns : goal.returns
returns c =
    let z : c.loop-i.i ≡ c.args.count = omega (arith, length-take (c.args.base + c.args.count - c.args.base) (drop c.args.base c.args.stack.now), length-drop c.args.base c.args.stack.now, c.loop-i.auto.i-end, c.loop-i-test.false, c.requires.operands) in
    c.loop-i.invariant ∙ ap (λ (k : ℕ). filled c.args.side.now c.args.from (halves (take k (drop c.args.base c.args.stack.now)))) z
