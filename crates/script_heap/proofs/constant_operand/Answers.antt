-- `constant_operand` meets its contract: the digits are those that are read from the place on.
use Rattle.std.proofs.Common.{ap, ◌∙◌}
use Rattle.readback.specs.Rebuild.{pending}
use Rattle.heap_laws.specs.Stacks.{ref-digits, ref-constant}
use Rattle.script_heap.proofs.constant_operand.Goals as goal

pub returns-then-w-lt-COUNTS : goal.returns-then-w-lt-COUNTS
returns-then-w-lt-COUNTS c = ref-digits c.args.s.now c.args.p c.args.w c.if-p-lt-PLACES.true ∙ ap pending c.requires.1

pub returns : goal.returns
returns c = ref-constant c.args.s.now c.args.p
