-- `short_records::write_short` meets its contract. Assumes nothing.
use Prim.Native.Nat.{◌/◌}
use lib.ListN.{length}
use Rattle.short_records.proofs.Shortening.{Writing}
use Rattle.short_records.proofs.write_short.Given as goal

abbrev pub invariant-loop-i : goal.invariant-loop-i
invariant-loop-i l = Writing l.old l.initial.out l.out (length l.old / 17) l.i l.at
