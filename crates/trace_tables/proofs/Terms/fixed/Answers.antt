-- `trace_tables::Terms::fixed` meets its contract, shape by shape. Assumes nothing.
use Rattle.std.specs.Option.{unwrap_or}
use Rattle.std.proofs.Common.{ℕ, Option, sym, ap, ◌∙◌, arith}
use Rattle.echo_spec.specs.Shapes.{var, rotation}
use Rattle.lent.specs.Records.{node_of}
use Rattle.blast_kernel.specs.Kinds.{shape_in}
use Rattle.vectors.specs.Values.{number}
use Rattle.trace_tables.specs.Fixed.{fixed_as, widths-all, bit-small, const-inside, rotation-steady, fixed-at, fixed-constant, fixed-wide, fixed-other}
use Rattle.trace_tables.specs.Digits.{part-digits}
use Rattle.trace_tables.proofs.Terms.fixed.Goals as goal

pub returns-then-n-gt64 : goal.returns-then-n-gt64
returns-then-n-gt64 c = fixed-wide c.args.self.now.problem.nodes.now c.args.self.now.problem.bits.now c.args.self.now.widths.now c.args.entries.now c.args.i (node_of c.node_of-n.result) c.node_of-n.ensures (sym c.from.ensures.shape ∙ ap shape_in c.in-Const.is) c.if-n-gt64.true

pub bits_of-requires : goal.bits_of-requires
bits_of-requires c = const-inside c.args.self.now.usable c.args.i (omega (arith, (widths-all c.args.self.now.usable), c.requires)) (node_of c.node_of-n.result) c.node_of-n.ensures (sym c.from.ensures.shape ∙ ap shape_in c.in-Const.is)

pub constant-requires-clause-digits : goal.constant-requires-clause-digits
constant-requires-clause-digits c k = rw c.bits_of.ensures (part-digits c.args.self.now.problem.bits.now (bit-small c.args.self.now.usable) _ _ k)

pub turned-requires : goal.turned-requires
turned-requires c = rotation-steady c.args.self.now.usable c.args.i (omega (arith, (widths-all c.args.self.now.usable), c.requires)) (node_of c.node_of-n.result) c.node_of-n.ensures (sym c.from.ensures.shape ∙ ap shape_in c.in-Rotation.is)

pub returns-in-Var : goal.returns-in-Var
unfolding fixed_as
returns-in-Var c = fixed-at c.args.self.now.problem.nodes.now c.args.self.now.problem.bits.now c.args.self.now.widths.now c.args.entries.now c.args.i (node_of c.node_of-n.result) c.node_of-n.ensures var (sym c.from.ensures.shape ∙ ap shape_in c.in-Var.is) (c.unwrap_or.ensures ∙ ap (λ (o : Option ℕ). unwrap_or o 0) c.looked_up.ensures)

pub returns-else-n-gt64 : goal.returns-else-n-gt64
returns-else-n-gt64 c = fixed-constant c.args.self.now.problem.nodes.now c.args.self.now.problem.bits.now c.args.self.now.widths.now c.args.entries.now c.args.i (node_of c.node_of-n.result) c.node_of-n.ensures (sym c.from.ensures.shape ∙ ap shape_in c.in-Const.is) c.if-n-gt64.false (c.constant.ensures.number ∙ ap number c.bits_of.ensures)

pub returns-in-Rotation : goal.returns-in-Rotation
unfolding fixed_as
returns-in-Rotation c = fixed-at c.args.self.now.problem.nodes.now c.args.self.now.problem.bits.now c.args.self.now.widths.now c.args.entries.now c.args.i (node_of c.node_of-n.result) c.node_of-n.ensures rotation (sym c.from.ensures.shape ∙ ap shape_in c.in-Rotation.is) (rw c.get.ensures at c.turned.ensures)

pub returns-in_default : goal.returns-in_default
returns-in_default c = fixed-other c.args.self.now.problem.nodes.now c.args.self.now.problem.bits.now c.args.self.now.widths.now c.args.entries.now c.args.i (node_of c.node_of-n.result) c.node_of-n.ensures c.from.ensures.shape c.in_default.not-Var c.in_default.not-Const c.in_default.not-Rotation
