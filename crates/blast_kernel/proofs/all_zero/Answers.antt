-- `blast_kernel::all_zero` meets its contract. Assumes nothing.
use Rattle.std.proofs.Common.{rules}
use Rattle.chains.specs.Tests.{every-told}
use Rattle.blast_kernel.specs.Records.{unused}
use Rattle.blast_kernel.proofs.all_zero.Goals as goal

pub returns : goal.returns
returns c = every-told unused c.args.operands.now c.all.result (search rules) (search rules)
