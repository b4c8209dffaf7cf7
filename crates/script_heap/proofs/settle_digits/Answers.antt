-- `settle_digits` meets its contract: too many bits, or they are stored behind those in use and settled.
use Rattle.std.proofs.Common.{◌-◌, arith}
use Rattle.smtlib.specs.Readings.{bits_of}
use Rattle.script_tokens.specs.Reached.{between}
use Rattle.heap_laws.specs.Candidates.{length-between}
use Rattle.script_heap.specs.Constants.{bit-room, held-filled, told-filled}
use Rattle.heap_laws.specs.Settling.{over-wide}
use Rattle.script_heap.proofs.settle_digits.Goals as goal

pub returns-then-w-gt-MAX_BITS : goal.returns-then-w-gt-MAX_BITS
returns-then-w-gt-MAX_BITS c = λ t h. over-wide (bits_of (between c.args.s.now c.args.p c.args.e)) t (omega (arith, (length-between c.args.s.now c.args.p c.args.e c.requires.inside), c.if-w-gt-MAX_BITS.true))

pub digits_in-requires : goal.digits_in-requires
digits_in-requires c = record { low = c.requires.low; inside = c.requires.inside; room = omega (arith, bit-room c.requires.holds.1, c.requires.holds.1.bits-long, c.if-w-gt-MAX_BITS.false) }

pub settle-requires : goal.settle-requires
settle-requires c = record {
  holds = (c.requires.holds.0, held-filled c.requires.holds.1 _ (bits_of (between c.args.s.now c.args.p c.args.e)) (c.args.e - c.args.p) c.if-w-gt-MAX_BITS.false (length-between c.args.s.now c.args.p c.args.e c.requires.inside) (λ _. c.digits_in.ensures));
  few = c.if-w-gt-MAX_BITS.false;
}

pub returns : goal.returns
returns c = λ t h. told-filled h _ (bits_of (between c.args.s.now c.args.p c.args.e)) (c.args.e - c.args.p) c.if-w-gt-MAX_BITS.false (length-between c.args.s.now c.args.p c.args.e c.requires.inside) (λ _. c.digits_in.ensures) c.settle.new.heap c.settle.result
    (c.settle.ensures t (held-filled h _ (bits_of (between c.args.s.now c.args.p c.args.e)) (c.args.e - c.args.p) c.if-w-gt-MAX_BITS.false (length-between c.args.s.now c.args.p c.args.e c.requires.inside) (λ _. c.digits_in.ensures)))
