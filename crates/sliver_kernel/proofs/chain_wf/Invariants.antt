-- `sliver_kernel::chain_wf` meets its contract: the answer is what the pairs that are left give. Assumes nothing.
use Rattle.std.proofs.Common.{◌≡◌, ◌-◌, drop}
use Rattle.echo_spec.specs.Widths as widths
use Rattle.sliver_kernel.proofs.chain_wf.Given as goal

abbrev pub invariant-loop-pair : goal.invariant-loop-pair
invariant-loop-pair l = widths.chain_wf l.index l.value l.ws l.n (drop l.s l.side) ≡ widths.chain_wf l.index l.value l.ws (l.n - l._pair) l.rest
