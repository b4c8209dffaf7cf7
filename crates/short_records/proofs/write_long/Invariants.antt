-- `short_records::write_long` meets its contract. Assumes nothing.
use Prim.Native.Nat.{◌-◌}
use lib.ListN.{length}
use Rattle.short_records.proofs.Lengthening.{Filling}
use Rattle.short_records.proofs.write_long.Given as goal

abbrev pub invariant-loop-from : goal.invariant-loop-from
invariant-loop-from l = Filling l.new l.initial.out l.out 2048 l.from l.at

abbrev pub decreases-loop-from : goal.decreases-loop-from
decreases-loop-from l = length l.new - l.from
