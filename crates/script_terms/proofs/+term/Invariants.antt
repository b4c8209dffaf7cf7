-- `term` meets its contract. The measure is what is left of the script; the loop keeps what the head said of the term.
use Prim.Native.Nat.{ℕ, ◌-◌}
use lib.ListN.{length}
use Rattle.reading.specs.Trees.{Declarations}
use Rattle.script_entries.specs.Entries.{Declares}
use Rattle.script_terms.specs.States.{Going}
use Rattle.script_terms.proofs.+term.Given as goal

abbrev pub decreases-term : goal.decreases-term
decreases-term l = length l.script.now.text.now - l.at.now

abbrev pub invariant-loop-at : goal.invariant-loop-at
invariant-loop-at l = (D : Declarations) → Declares l.script D → (a : ℕ) → Going l.script.text.now D a l.initial.w l.initial.at → Going l.script.text.now D a l.w l.at

abbrev pub decreases-loop-at : goal.decreases-loop-at
decreases-loop-at l = length l.script.text.now - l.at
