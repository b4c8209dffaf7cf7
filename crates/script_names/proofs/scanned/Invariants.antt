-- At each turn the place is that of the next name, and no line before it has the name.
use Rattle.std.proofs.Common.{◌≡◌, ℕ, ◌-◌, ◌≤◌, ◌<◌, false, length, drop}
use Rattle.lists.specs.Tests.{same}
use Rattle.script_tokens.specs.Reached.{between}
use Rattle.script_names.specs.Entries.{entry_from, name_at}
use Rattle.script_names.proofs.scanned.Given as goal

abbrev pub invariant-loop-k : goal.invariant-loop-k
invariant-loop-k l = (l.p ≤ length l.s) × (drop l.p l.s ≡ entry_from l.k (drop l.fn.lines.first l.s)) × ((j : ℕ) → j < l.k → same (between l.s l.a (l.f - 1)) (name_at (drop l.fn.lines.first l.s) j) ≡ false)
