-- `hash_bits` meets its contract: at each turn the hash so far goes on over the bits that are left.
use Rattle.std.proofs.Common.{ℕ, ◌+◌, ◌*◌, ◌%◌, ◌≡◌, ◌∙◌, ap, sym, drop, get_or, arith}
use Rattle.heap_laws.specs.Heap.{hash_from}
use Rattle.heap_laws.specs.Candidates.{hash-more, hash-end}
use Rattle.script_heap.proofs.hash_bits.Goals as goal

pub loop-b-preserved : goal.loop-b-preserved
loop-b-preserved c =
    let b : ℕ = get_or c.args.bits.now c.loop-b.b-index 0 in
    let e : (c.loop-b.h * 2 % 18446744073709551616 + c.from.result) % 18446744073709551616 ≡ (c.loop-b.h * 2 + b) % 18446744073709551616 = omega (arith, c.from.ensures) in
    ap (λ (x : ℕ). hash_from x (drop (c.loop-b.b-index + 1) c.args.bits.now)) e ∙ hash-more c.args.bits.now c.loop-b.h c.loop-b.b-index (omega arith) ∙ c.loop-b.invariant

pub returns : goal.returns
returns c = sym (hash-end c.args.bits.now c.loop-b.h c.loop-b.b-index (omega arith)) ∙ c.loop-b.invariant
