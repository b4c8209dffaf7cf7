-- `end_operator` meets its contract: a rotation's amount has its node before the constants among the operands.
use mathlib.Core.Path.{◌≡◌, subst}
use Rattle.std.proofs.lemmas.Result.{err_from_is_err_and}
use Rattle.echo_spec.specs.Shapes.{rotation, shape_of}
use Rattle.script_ends.specs.Parts.{shape-at, no-rotation}
use Rattle.readback.specs.Rebuild.{Put, with_constant, low_bits}
use Rattle.heap_laws.specs.Heap.{pending_in}
use Rattle.script_ends.specs.Ends.{EndedAs, operator_item, amount-ending, rotation-over, plain_over, rotation-ended, plain-ended, amount-over}
use Rattle.script_ends.proofs.end_operator.Goals as goal

pub returns-in_err-m-in-Rotation : goal.returns-in_err-m-in-Rotation
returns-in_err-m-in-Rotation c = λ s refs rs ks ms e o. rw (err_from_is_err_and c.from_residual.result c.from_residual.ensures.1).1 (amount-over (low_bits c.args.w c.args.o.first) ms (pending_in rs) (operator_item c.args.o.kind ks rs ms) s (o.turns (shape-at c.args.o.kind c.from.ensures.shape c.in-Rotation.is)) (c.in_err-m-in-Rotation.ensures s e.held))

pub returns-in_ok-m-in-Rotation : goal.returns-in_ok-m-in-Rotation
returns-in_ok-m-in-Rotation c = λ s refs rs ks ms e o.
    let a = c.in_ok-m-in-Rotation.ensures s e.held in
    subst (λ (p : Put). EndedAs c.args.script.now c.end_over.new.heap refs p c.end_over.result)
    (rotation-ended (low_bits c.args.w c.args.o.first) ms (pending_in rs) (operator_item c.args.o.kind ks rs ms) s (o.turns (shape-at c.args.o.kind c.from.ensures.shape c.in-Rotation.is)))
    (c.end_over.ensures (with_constant (low_bits c.args.w c.args.o.first) s) refs rs ks ms (amount-ending e c.settle_number.new.heap (with_constant (low_bits c.args.w c.args.o.first) s) a.1 a.2 a.3) (rotation-over s c.in_ok-m-in-Rotation.m o (shape-at c.args.o.kind c.from.ensures.shape c.in-Rotation.is) a.0))

pub returns-in_default : goal.returns-in_default
returns-in_default c = λ s refs rs ks ms e o.
    let n : (shape_of c.args.o.kind ≡ rotation → ⊥) = no-rotation c.args.o.kind c.from.result c.from.ensures.shape c.in_default.not-Rotation in
    subst (λ (p : Put). EndedAs c.args.script.now c.end_over-in_default.new.heap refs p c.end_over-in_default.result)
    (plain-ended ms (pending_in rs) (operator_item c.args.o.kind ks rs ms) s (o.plain n))
    (c.end_over-in_default.ensures s refs rs ks ms e (plain_over s o n))
