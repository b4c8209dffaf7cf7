use mathlib.Core.Path.{ap, ◌∙◌}
use Rattle.echo_spec.specs.Input.{Node, shape}
use Rattle.echo_tables.specs.declared.Mark.{Mark}
use Rattle.echo_tables.specs.Forms.{form_as}
use Rattle.echo_walk.proofs.Laws.{node-count, form-named, form-own}
use Rattle.echo_walk.proofs.Walk.operands_at.Goals as goal

pub returns-then-mark : goal.returns-then-mark
returns-then-mark c = form-named c.args.self.now c.args.i (ap (λ (m : Mark). m.named) c.mark-mark.ensures) c.if-mark.true

pub node-requires : goal.node-requires
node-requires c = node-count c.args.self.now c.args.i c.requires

pub returns : goal.returns
returns c = form-own c.args.self.now c.args.i (ap (λ (m : Mark). m.named) c.mark-mark.ensures) c.if-mark.false (c.operands.ensures ∙ ap (λ (x : Node). form_as x (shape x)) c.node.ensures)
