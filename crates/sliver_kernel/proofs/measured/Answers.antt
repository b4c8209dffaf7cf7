-- `sliver_kernel::measured` meets its contract. Each way out is one case of the answer. Assumes nothing.
use Rattle.std.proofs.Common.{arith}
use Rattle.lent.specs.Records.{nodes-length}
use Rattle.blast_kernel.specs.Records.{within-bytes}
use Rattle.sliver_kernel.proofs.Answering.{passed, failed, even, odd, nodes-passed, over-limit, ill-encoded, uneven, not-allowed, node-refused, all-formed}
use Rattle.sliver_kernel.proofs.measured.Goals as goal

pub returns-then-not-pass_within : goal.returns-then-not-pass_within
returns-then-not-pass_within c = λ lent. over-limit _ _ _ _ lent (failed c.pass_within.ensures c.if-not-pass_within.true-raw)

pub returns-then-not-encoded : goal.returns-then-not-encoded
returns-then-not-encoded c =
    λ lent. ill-encoded _ _ _ _ lent (passed c.pass_within.ensures c.if-not-pass_within.false-raw) (failed c.encoded.ensures c.if-not-encoded.true-raw)

pub returns-then-arrays : goal.returns-then-arrays
returns-then-arrays c =
    λ lent. uneven _ _ _ _ lent (passed c.pass_within.ensures c.if-not-pass_within.false-raw) (passed c.encoded.ensures c.if-not-encoded.false-raw) c.node_count.ensures (odd _ _ c.if-arrays.true)

pub returns-then-not-allowed : goal.returns-then-not-allowed
returns-then-not-allowed c =
    λ lent. not-allowed _ _ _ _ lent (passed c.pass_within.ensures c.if-not-pass_within.false-raw) (passed c.encoded.ensures c.if-not-encoded.false-raw) (even _ _ c.if-arrays.false) (failed c.allowed.ensures c.if-not-allowed.true-raw)

pub widths-n-requires : goal.widths-n-requires
widths-n-requires c =
    omega (arith, nodes-length c.args.nodes.now, within-bytes _ _ _ (nodes-passed _ _ _ _ (passed c.pass_within.ensures c.if-not-pass_within.false-raw)))

pub returns-then-n-node_count : goal.returns-then-n-node_count
returns-then-n-node_count c =
    λ lent. node-refused (record { within = passed c.pass_within.ensures c.if-not-pass_within.false-raw; well = passed c.encoded.ensures c.if-not-encoded.false-raw; even = even _ _ c.if-arrays.false; allowed = passed c.allowed.ensures c.if-not-allowed.false-raw }) c.widths-n.ensures lent (omega arith)

pub returns : goal.returns
returns c =
    all-formed (record { within = passed c.pass_within.ensures c.if-not-pass_within.false-raw; well = passed c.encoded.ensures c.if-not-encoded.false-raw; even = even _ _ c.if-arrays.false; allowed = passed c.allowed.ensures c.if-not-allowed.false-raw }) c.widths-n.ensures (omega arith)
