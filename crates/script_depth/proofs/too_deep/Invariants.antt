-- `script_depth::too_deep` meets its contract: the rest of the bytes decides. Assumes nothing.
use Prim.Native.Nat.{◌≤◌}
use mathlib.Core.Path.{◌≡◌}
use lib.ListN.{drop}
use Rattle.script_depth.specs.Nesting.{deep_from, too_deep}
use Rattle.script_depth.proofs.too_deep.Given as goal

abbrev pub invariant-loop-b : goal.invariant-loop-b
invariant-loop-b l = (l.nest.depth ≤ 6147) × (deep_from l.nest.named l.nest.depth (drop l.b-index l.s) ≡ too_deep l.s)
