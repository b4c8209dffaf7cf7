-- `copy` meets its contract: the first i elements are copied.
use Rattle.std.proofs.Common.{◌≡◌, take}
use Rattle.script_fill.proofs.copy.Given as goal

abbrev pub invariant-loop-i : goal.invariant-loop-i
invariant-loop-i g l = take l.i l.to ≡ take l.i l.from
