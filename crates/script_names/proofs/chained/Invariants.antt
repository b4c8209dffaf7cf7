-- `chained` meets its contract: at each turn no line from the linked one on has the name.
use Prim.Native.Nat.{◌-◌}
use lib.ListN.{drop}
use Rattle.script_tokens.specs.Reached.{between}
use Rattle.script_names.specs.Entries.{link_of}
use Rattle.script_names.specs.Laws.{Walked}
use Rattle.script_names.proofs.chained.Given as goal

abbrev pub invariant-loop-link : goal.invariant-loop-link
invariant-loop-link l = Walked (drop l.fn.lines.first l.s) (between l.s l.a (l.f - 1)) l.fn.lines.count (link_of l.link)

abbrev pub decreases-loop-link : goal.decreases-loop-link
decreases-loop-link l = link_of l.link
