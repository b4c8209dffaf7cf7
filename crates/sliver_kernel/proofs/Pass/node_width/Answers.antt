-- A node that is no select and no call. Assumes nothing.
use Rattle.std.specs.Bool.{then_some}
use Rattle.std.proofs.Common.{◌∙◌}
use Rattle.lent.specs.Records.{node_of}
use Rattle.kernel.specs.Closed.{shape-closed, closed-wf-is, closed-width-is}
use Rattle.sliver_kernel.specs.Arrays.{columns_of}
use Rattle.sliver_kernel.proofs.Pass.node_width.Goals as goal

pub returns-in_default : goal.returns-in_default
returns-in_default c =
    let s = c.args.self.now in
    let k = shape-closed _ _ c.from.ensures.shape c.in_default.not-Select c.in_default.not-Call in
    let accepted = closed-wf-is s.nbits (columns_of s.arrays) s.side.now c.args.ws.now (node_of c.args.n) k in
    let wide = closed-width-is (columns_of s.arrays) c.args.ws.now (node_of c.args.n) k in
    c.node_width.ensures ∙ (λ i. then_some (accepted i) (wide i))
