-- `echo_checks::arguments_ok` meets its contract: the part of the side entries that is cut out is the arguments. Assumes nothing.
use Rattle.std.proofs.Common.{refl}
use Rattle.lent.specs.Records.{node_of}
use Rattle.echo_checks.specs.Functions.{arguments-cut}
use Rattle.echo_checks.proofs.arguments_ok.Goals as goal

pub returns-in-None : goal.returns-in-None
returns-in-None c = rw c.in-None.ensures refl

pub returns-in-Some : goal.returns-in-Some
returns-in-Some c = arguments-cut c.args.ws.now c.args.side.now (node_of c.args.f) c.in-Some.ensures c.have_widths.ensures
