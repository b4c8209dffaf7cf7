use mathlib.Core.Path.{◌≡◌, ap, ◌∙◌}
use mathlib.Core.List.{List}
use Prim.Native.Nat.{ℕ, ◌+◌, ◌-◌, ◌%◌}
use native.Mathlib.Omega.{arith}
use lib.ListN.{take, drop}
use Rattle.echo_spec.specs.Input.{Node}
use Rattle.lent.specs.Records.{node_of}
use Rattle.echo_spec.specs.Trees.{constant_bits, bits_value}
use Rattle.trace_tables.proofs.amount.Goals as goal

part-is : (bits xs : List ℕ) (m k : Node) (w : ℕ) → xs ≡ take m.b (drop m.a bits) → m ≡ k → bits_value xs % w ≡ bits_value (constant_bits bits k) % w
unfolding constant_bits
part-is bits xs m k w q e =
    ap (λ (x : List ℕ). bits_value x % w) q ∙ ap (λ (n : Node). bits_value (take n.b (drop n.a bits)) % w) e

pub returns : goal.returns
unfolding constant_bits
returns c = c.rot_amount.ensures ∙ part-is c.args.bits.now _ (node_of c.node_of.result) _ c.args.w c.bits_of.ensures c.node_of.ensures
