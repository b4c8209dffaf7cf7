-- `column` meets its contract: one number a turn. Assumes nothing.
use Rattle.std.proofs.Common.{◌+◌, ◌*◌}
use Rattle.input_parts.specs.Parts.{word64}
use Rattle.input_parts.proofs.Laws.{Filling}
use Rattle.input_parts.proofs.Parts.column.Given as goal

abbrev pub invariant-loop-i : goal.invariant-loop-i
invariant-loop-i g l = Filling (λ j. word64 l.self.bytes.now (l.part.start + 8 * j)) l.initial.x-items l.x-items l.i
