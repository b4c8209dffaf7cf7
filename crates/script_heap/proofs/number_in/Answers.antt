-- `number_in` meets its contract: at each turn the bits so far are stored, and v is left of the number.
use Rattle.std.proofs.Common.{ℕ, ◌≡◌, ◌+◌, ◌-◌, ◌∙◌, ap, drop, length, length-take, length-drop, arith}
use Rattle.readback.specs.Rebuild.{low_bits}
use Rattle.heap_laws.specs.Filled.{filled}
use Rattle.heap_laws.specs.Candidates.{bits-next, bits-last, put-filled}
use Rattle.script_heap.proofs.number_in.Goals as goal

pub loop-bit-init : goal.loop-bit-init
loop-bit-init c =
    let z : c.args.w - 0 ≡ c.args.w = omega arith in
    ap (λ (n : ℕ). low_bits n c.args.value) z

pub loop-bit-preserved : goal.loop-bit-preserved
loop-bit-preserved c =
    let n = length-take (c.args.at + c.args.w - c.args.at) (drop c.args.at c.args.bits.now) in
    bits-next c.loop-bit.bit-items c.args.w c.loop-bit.bit-index c.loop-bit.v (omega (arith, c.loop-bit-test.true)) (omega (arith, c.loop-bit-test.true, c.loop-bit.auto.bit-items)) c.loop-bit.invariant

pub returns : goal.returns
returns c =
    let n = length-take (c.args.at + c.args.w - c.args.at) (drop c.args.at c.args.bits.now) in
    let l : length c.loop-bit.bit-items ≡ c.args.w = omega (arith, c.loop-bit.auto.bit-items, length-drop c.args.at c.args.bits.now, c.requires) in
    put-filled c.args.bits.now c.loop-bit.bit-items c.args.at (c.args.at + c.args.w - c.args.at) (omega arith)
    ∙ ap (filled c.args.bits.now c.args.at) (bits-last c.loop-bit.bit-items c.args.w c.loop-bit.bit-index c.loop-bit.v (omega (arith, c.loop-bit-test.false, c.loop-bit.auto.bit-items)) (omega (arith, c.loop-bit-test.false, c.loop-bit.auto.bit-items)) c.loop-bit.invariant)
