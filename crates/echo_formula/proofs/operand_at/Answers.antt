use Rattle.echo_formula.proofs.Writing.{node-inside, form-count, form-piece, form-inside}
use Rattle.echo_formula.proofs.operand_at.Goals as goal

pub node-n-requires : goal.node-n-requires
node-n-requires c = node-inside c.args.walk.now c.args.i c.requires.0

pub operand-requires : goal.operand-requires
operand-requires c =
    let e = c.node-n.ensures in
    let f = c.operands.ensures in
    (form-count c.args.walk.now c.args.i c.requires.0 e f c.requires.1, form-inside c.args.walk.now c.args.i c.requires.0 e f)

pub returns : goal.returns
returns c = form-piece c.args.walk.now c.args.i c.requires.0 c.node-n.ensures c.operands.ensures c.args.k c.operand.ensures
