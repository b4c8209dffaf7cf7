-- A kind past the last has no shape. Assumes nothing.
use Rattle.std.proofs.Common.{sym}
use Rattle.std.proofs.Math.ListN.{get_or-eq_default}
use Rattle.echo_spec.specs.Shapes.{shapes, unknown}
use Rattle.blast_kernel.specs.Kinds.{none_of}
use Rattle.blast_kernel.proofs.ShapeFromU8.from.Goals as goal

pub returns-in_default : goal.returns-in_default
unfolding shapes
returns-in_default c =
    let far = none_of 39 c.args.kind c.in_default.in_default-own.rest in
    record { shape = sym (get_or-eq_default shapes unknown far); kind = far }
