-- `Mark::of` meets its contract: at each turn the mark so far goes on over the bytes that are left.
use Prim.Native.Nat.{◌<◌}
use mathlib.Core.Path.{◌≡◌}
use lib.ListN.{drop}
use Rattle.release_names.specs.Marks.{mark_from, mark_of}
use Rattle.release_names.proofs.Mark.of.Given as goal

abbrev pub invariant-loop-b : goal.invariant-loop-b
invariant-loop-b l = (l.h < 134217728) × (mark_of l.name ≡ mark_from l.h (drop l.b-index l.name))
