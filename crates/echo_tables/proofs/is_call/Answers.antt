-- `echo_tables::is_call` meets its contract: one kind has the shape. Assumes nothing.
use Rattle.echo_tables.specs.KindOf.{call-is, call-not}
use Rattle.echo_tables.proofs.is_call.Goals as goal

pub returns-in-Call : goal.returns-in-Call
returns-in-Call c = call-is c.args.n.kind c.in-Call.ensures.shape

pub returns-in_default : goal.returns-in_default
returns-in_default c = call-not c.from.result c.args.n.kind c.from.ensures.shape c.in_default.not-Call
