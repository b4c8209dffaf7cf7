-- `trace_narrow::all_marked` meets its contract. Assumes nothing.
use Rattle.std.proofs.Common.{rules}
use Rattle.chains.specs.Tests.{every-told}
use Rattle.trace_narrow.specs.Marks.{marking}
use Rattle.trace_narrow.proofs.all_marked.Goals as goal

pub returns : goal.returns
returns c = every-told (marking c.args.marks.now) c.args.nodes.now c.all.result (search rules) (search rules)
