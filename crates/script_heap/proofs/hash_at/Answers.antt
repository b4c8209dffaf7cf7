-- `hash_at` meets its contract: of a long constant the lowest 48 bits count.
use Rattle.std.proofs.Common.{◌+◌, ◌%◌, ◌≡◌, ◌∙◌, length, arith}
use Rattle.heap_laws.specs.Candidates.{hash-lowest}
use Rattle.script_heap.proofs.hash_at.Goals as goal

pub returns : goal.returns
returns c =
    let e : (c.hash_bits.result % 4093 + length c.args.bits.now) % 4093 ≡ (c.hash_bits.result + length c.args.bits.now) % 4093 = omega arith in
    e ∙ hash-lowest c.args.bits.now c.min.result c.min.ensures c.hash_bits.ensures
