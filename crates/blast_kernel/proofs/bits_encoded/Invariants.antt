-- `blast_kernel::bits_encoded` meets its contract: what was seen and what is left decide. Assumes nothing.
use Rattle.std.proofs.Common.{◌≡◌, ◌&&◌, drop}
use Rattle.lists.specs.Tests.{every}
use Rattle.blast_kernel.specs.Records.{bit}
use Rattle.blast_kernel.proofs.bits_encoded.Given as goal

abbrev pub invariant-loop-b : goal.invariant-loop-b
invariant-loop-b l = (l.ok && every bit (drop l.b-index l.bits)) ≡ every bit l.bits
