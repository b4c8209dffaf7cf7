use mathlib.Core.Path.{ap, ◌∙◌}
use Rattle.echo_spec.specs.Shapes.{is_leaf}
use Rattle.blast_kernel.specs.Kinds.{shape_in}
use Rattle.echo_tables.specs.declared.Mark.{Mark}
use Rattle.echo_walk.proofs.Laws.{leaf-found, term_found, leaf-opened, head-named, head-own}
use Rattle.echo_walk.proofs.Walk.open_head.Goals as goal

pub echo_leaf-requires : goal.echo_leaf-requires
echo_leaf-requires c = leaf-found c.args.self.now c.args.i c.requires (c.is_leaf.ensures ∙ ap (λ (m : Mark). is_leaf (shape_in m.shape)) c.mark-mark.ensures) c.if-is_leaf.true

pub returns-then-is_leaf : goal.returns-then-is_leaf
returns-then-is_leaf c = leaf-opened c.args.self.now c.args.i (leaf-found c.args.self.now c.args.i c.requires (c.is_leaf.ensures ∙ ap (λ (m : Mark). is_leaf (shape_in m.shape)) c.mark-mark.ensures) c.if-is_leaf.true) _ c.echo_leaf.ensures

pub returns-then-mark : goal.returns-then-mark
returns-then-mark c = head-named c.args.self.now c.args.i (ap (λ (m : Mark). m.named) c.mark-mark.ensures) c.if-mark.true _ c.byte.ensures c.push_named.ensures

pub own_head-requires : goal.own_head-requires
own_head-requires c = term_found c.args.self.now c.args.i c.requires (c.is_leaf.ensures ∙ ap (λ (m : Mark). is_leaf (shape_in m.shape)) c.mark-mark.ensures) c.if-is_leaf.false

pub returns : goal.returns
returns c = head-own c.args.self.now c.args.i (ap (λ (m : Mark). m.named) c.mark-mark.ensures) c.if-mark.false _ c.own_head.ensures
