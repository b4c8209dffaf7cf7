-- At each turn nothing so far ends the stretch, or it is told.
use Rattle.std.proofs.Common.{◌≡◌, ◌+◌, true}
use Rattle.script_tokens.specs.Stretches.{Runs}
use Rattle.script_tokens.proofs.none_ends.Given as goal

abbrev pub invariant-loop-c : goal.invariant-loop-c
invariant-loop-c g l = l.ok ≡ true → Runs g.E.Ending.ends l.fn.s l.fn.e (l.fn.e + l.c-index)
