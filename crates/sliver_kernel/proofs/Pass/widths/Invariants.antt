-- `sliver_kernel::Pass::widths` meets its contract. The loop keeps: the first i places have the widths of the first i nodes. Assumes nothing.
use Rattle.echo_spec.specs.Input.{nodes_of}
use Rattle.sliver_kernel.specs.Arrays.{columns_of}
use Rattle.sliver_kernel.proofs.Passing.{Going}
use Rattle.sliver_kernel.proofs.Pass.widths.Given as goal

abbrev pub invariant-loop-i : goal.invariant-loop-i
invariant-loop-i l = Going l.self.nbits (columns_of l.self.arrays) l.self.side.now (nodes_of l.nodes) l.count l.initial.ws l.ws l.i
