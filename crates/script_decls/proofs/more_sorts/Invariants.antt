-- `more_sorts` meets its contract: at each turn, what is read from the place reached tells what is read from the start.
use Prim.Native.Nat.{◌-◌, ◌≤◌}
use lib.ListN.{length}
use mathlib.Core.Bool.{false}
use Rattle.std.specs.Prelude.{Option, ℕ}
use Rattle.script_decls.specs.Tails.{SortsTo}
use Rattle.script_decls.proofs.more_sorts.Given as goal

abbrev pub invariant-loop-p : goal.invariant-loop-p
invariant-loop-p l = (l.p ≤ length l.s) × ((r : Option ℕ) → SortsTo false l.s l.p r → SortsTo false l.s l.at r)

abbrev pub decreases-loop-p : goal.decreases-loop-p
decreases-loop-p l = length l.s - l.p
