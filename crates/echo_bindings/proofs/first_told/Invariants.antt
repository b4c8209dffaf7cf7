-- `first_told` meets its contract: the nodes that are left decide the answer. Assumes nothing.
use Rattle.std.proofs.Common.{◌≡◌}
use Rattle.std.specs.Iterator.Adapters.{zip_first, zip_second}
use Rattle.std.specs.Slice.Iter.{iter_rest}
use Rattle.echo_bindings.specs.Checking.{left_told}
use Rattle.echo_bindings.proofs.first_told.Given as goal

abbrev pub invariant-loop-m : goal.invariant-loop-m
invariant-loop-m l = left_told (iter_rest (zip_first l.m-iterator)) (iter_rest (zip_second l.m-iterator)) ≡ left_told l.marks l.bound
