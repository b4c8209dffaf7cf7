-- `unname` meets its contract: the first marks have no name. Assumes nothing.
use Rattle.std.proofs.Common.{◌≡◌, ◌++◌, map, take, drop}
use Rattle.echo_bindings.specs.Naming.{unnamed}
use Rattle.echo_bindings.proofs.unname.Given as goal

abbrev pub invariant-loop-m : goal.invariant-loop-m
invariant-loop-m l = l.marks ≡ map unnamed (take l.m-index l.initial.marks) ++ drop l.m-index l.initial.marks
