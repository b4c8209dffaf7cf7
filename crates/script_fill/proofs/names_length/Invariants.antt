-- `names_length` meets its contract: n is the length of the first i names, within the limit.
use Rattle.script_fill.specs.Turns.{Summed}
use Rattle.script_fill.proofs.names_length.Given as goal

abbrev pub invariant-loop-i : goal.invariant-loop-i
invariant-loop-i l = Summed l.script.text.now l.script.table.now l.from l.i l.n
