-- `operand_or_zero` meets its contract: the operand is there exactly if its place is below the top.
use Rattle.std.proofs.Common.{◌++◌, map, get_or, length-append, arith}
use Rattle.std.proofs.lemmas.List.{length-map}
use Rattle.readback.specs.Rebuild.{here}
use Rattle.script_ends.specs.Ends.{here-at}
use Rattle.script_ends.proofs.operand_or_zero.Goals as goal

pub returns-then-i-heap : goal.returns-then-i-heap
returns-then-i-heap c =
    λ script refs ys k st e. c.operand.ensures.waits script (refs ++ map here ys) (get_or ys k 0) st
    (here-at refs ys c.args.i k e (omega (arith, c.if-i-heap.true, st.top, length-append refs (map here ys), length-map ys here)))
