-- `called_in` meets its contract: at each turn a function is flagged, or its name stands further on, exactly if it stands from the start on.
use Prim.Native.Nat.{ℕ, ◌-◌, ◌≤◌, ◌<◌}
use mathlib.Core.Path.{◌≡◌}
use mathlib.Core.Bool.{true, false}
use lib.ListN.{length, get_or}
use Rattle.reading.specs.Trees.{Declarations}
use Rattle.script_entries.specs.Entries.{Declares}
use Rattle.script_calls.specs.Scan.{Scanned}
use Rattle.script_calls.proofs.called_in.Given as goal

abbrev pub invariant-loop-done : goal.invariant-loop-done
invariant-loop-done l = (l.p ≤ length l.script.text.now) × ((D : Declarations) → Declares l.script D → Scanned l.script.text.now D l.from l.p l.flags) × (l.done ≤ l.n) × ((g : ℕ) → g < l.done → get_or l.flags g false ≡ true)

abbrev pub decreases-loop-done : goal.decreases-loop-done
decreases-loop-done l = length l.script.text.now - l.p
