-- `input_parts::word64` meets its contract: two words of 32 bits. Assumes nothing.
use Rattle.std.proofs.Common.{arith}
use Rattle.input_parts.specs.Parts as parts
use Rattle.input_parts.proofs.word64.Goals as goal

pub returns : goal.returns
unfolding parts.word64
returns c = omega arith
