-- `find` meets its contract: at each turn no entry from the number on has the name.
use Prim.Native.Nat.{◌-◌}
use Rattle.script_tokens.specs.Reached.{between}
use Rattle.release_names.specs.Chains.{Walks}
use Rattle.release_names.proofs.Names.find.Given as goal

abbrev pub invariant-loop-c : goal.invariant-loop-c
invariant-loop-c l = Walks l.s l.self.places l.self.links l.self.heads (between l.s l.a (l.f - 1)) l.c

abbrev pub decreases-loop-c : goal.decreases-loop-c
decreases-loop-c l = l.c
