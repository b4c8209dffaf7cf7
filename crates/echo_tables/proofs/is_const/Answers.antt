-- `echo_tables::is_const` meets its contract: one kind has the shape. Assumes nothing.
use Rattle.echo_tables.specs.KindOf.{const-is, const-not}
use Rattle.echo_tables.proofs.is_const.Goals as goal

pub returns-in-Const : goal.returns-in-Const
returns-in-Const c = const-is c.args.n.kind c.in-Const.ensures.shape

pub returns-in_default : goal.returns-in_default
returns-in_default c = const-not c.from.result c.args.n.kind c.from.ensures.shape c.in_default.not-Const
