-- `put_names` meets its contract: the first i names are written, and the next goes to place `at`.
use Rattle.script_fill.specs.Turns.{Written}
use Rattle.script_fill.proofs.put_names.Given as goal

abbrev pub invariant-loop-i : goal.invariant-loop-i
invariant-loop-i l = Written l.script.text.now l.script.table.now l.from l.i l.at l.initial.names l.initial.starts l.initial.lengths l.names l.starts l.lengths
