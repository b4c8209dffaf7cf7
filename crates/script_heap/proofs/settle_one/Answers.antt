-- `settle_one` meets its contract: a node is itself, and a constant is settled from its digits.
use Rattle.std.proofs.Common.{◌/◌, arith}
use Rattle.heap_laws.specs.Heap.{ref_at}
use Rattle.heap_laws.specs.Stacks.{ref-even}
use Rattle.script_heap.specs.Constants.{told-node, told-constant, half-constant, ref-span, ref-counted}
use Rattle.script_heap.proofs.settle_one.Goals as goal

pub returns-then-c-eq1 : goal.returns-then-c-eq1
returns-then-c-eq1 c = record {
  told = λ t h. told-constant c.args.heap.now c.settle_digits.new.heap t (ref_at c.args.s.now c.args.c) _ c.settle_digits.result (ref-counted c.args.s.now c.args.c c.digits_to-e.result c.if-c-eq1.true c.digits_to-e.ensures) (c.settle_digits.ensures t h);
  half = half-constant c.args.heap.now c.settle_digits.new.heap _ c.requires.0 c.settle_digits.result (c.settle_digits.ensures c.requires.0 c.requires.1);
}

pub returns-then-half-lt-SPANNED : goal.returns-then-half-lt-SPANNED
returns-then-half-lt-SPANNED c = record {
  told = λ t h. told-node (ref_at c.args.s.now c.args.c) h (c.args.c / 2) (ref-even c.args.s.now c.args.c (omega (arith, c.if-c-eq1.false)) c.if-half-lt-SPANNED.true);
  half = c.if-half-lt-SPANNED.true;
}

pub returns : goal.returns
returns c = record {
  told = λ t h. told-constant c.args.heap.now c.settle_digits-2.new.heap t (ref_at c.args.s.now c.args.c) _ c.settle_digits-2.result
      (ref-span c.args.s.now c.args.c c.min-e.result c.min.result (omega (arith, c.if-c-eq1.false)) (omega (arith, c.if-half-lt-SPANNED.false)) c.min-e.ensures c.min.ensures) (c.settle_digits-2.ensures t h);
  half = half-constant c.args.heap.now c.settle_digits-2.new.heap _ c.requires.0 c.settle_digits-2.result (c.settle_digits-2.ensures c.requires.0 c.requires.1);
}
