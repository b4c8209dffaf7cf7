-- `put_numbers` meets its contract: the first i numbers are written.
use Rattle.std.proofs.Common.{◌≡◌, ℕ, List, ◌<◌, length, get_or}
use Rattle.script_fill.specs.Laws.{Going}
use Rattle.script_fill.proofs.put_numbers.Given as goal

abbrev pub invariant-loop-i : goal.invariant-loop-i
invariant-loop-i g l =
    (length l.out ≡ length l.initial.out)
    × ((m : List ℕ) → length m ≡ l.count → ((i x : ℕ) → i < l.count → goal.F-post g l.number i x → get_or m i 0 ≡ x) → Going m l.initial.out l.out l.i)
