-- `bytes_of` meets its contract: the part lies within the bytes. Assumes nothing.
use Rattle.std.proofs.Common.{arith}
use Rattle.input_parts.proofs.Laws.{lies_within}
use Rattle.input_parts.proofs.Parts.bytes_of.Goals as goal

pub overflow_add-result : goal.overflow_add-result
overflow_add-result c = omega (arith, lies_within c.args.k c.requires (c.args.self.now.inside c.args.k c.requires))

pub slice_bounds-result-end : goal.slice_bounds-result-end
slice_bounds-result-end c = omega (arith, lies_within c.args.k c.requires (c.args.self.now.inside c.args.k c.requires))
