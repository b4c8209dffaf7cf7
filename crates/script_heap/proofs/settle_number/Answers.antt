-- `settle_number` meets its contract: too many bits, or they are stored behind those in use and settled.
use Rattle.std.proofs.Common.{arith}
use Rattle.readback.specs.Rebuild.{low_bits}
use Rattle.rebuilt.specs.Constants.{length-low-bits}
use Rattle.heap_laws.specs.Settling.{over-wide}
use Rattle.script_heap.specs.Constants.{bit-room, held-filled, told-filled}
use Rattle.script_heap.proofs.settle_number.Goals as goal

pub returns-then-w-gt-MAX_BITS : goal.returns-then-w-gt-MAX_BITS
returns-then-w-gt-MAX_BITS c = λ s h. over-wide (low_bits c.args.width c.args.value) s (omega (arith, length-low-bits c.args.width c.args.value, c.if-w-gt-MAX_BITS.true))

pub number_in-requires : goal.number_in-requires
number_in-requires c = omega (arith, bit-room c.requires.1, c.requires.1.bits-long, c.if-w-gt-MAX_BITS.false)

pub settle-requires : goal.settle-requires
settle-requires c = record {
  holds = (c.requires.0, held-filled c.requires.1 _ (low_bits c.args.width c.args.value) c.args.width c.if-w-gt-MAX_BITS.false (length-low-bits c.args.width c.args.value) (λ _. c.number_in.ensures));
  few = c.if-w-gt-MAX_BITS.false;
}

pub returns : goal.returns
returns c = λ s h. told-filled h _ (low_bits c.args.width c.args.value) c.args.width c.if-w-gt-MAX_BITS.false (length-low-bits c.args.width c.args.value) (λ _. c.number_in.ensures) c.settle.new.heap c.settle.result (c.settle.ensures s (held-filled h _ (low_bits c.args.width c.args.value) c.args.width c.if-w-gt-MAX_BITS.false (length-low-bits c.args.width c.args.value) (λ _. c.number_in.ensures)))
