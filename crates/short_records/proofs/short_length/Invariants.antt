-- `short_records::short_length` meets its contract. Assumes nothing.
use Prim.Native.Nat.{◌/◌}
use lib.ListN.{length}
use Rattle.short_records.proofs.Shortening.{Begun}
use Rattle.short_records.proofs.short_length.Given as goal

abbrev pub invariant-loop-i : goal.invariant-loop-i
invariant-loop-i l = Begun l.old (length l.old / 17) l.i l.total
