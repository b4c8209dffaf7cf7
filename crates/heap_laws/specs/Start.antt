-- Before the first node: arrays that are 0 throughout hold no nodes, and no operand waits. Assumes nothing.
use Rattle.std.specs.Prelude.{ℕ, ◌≡◌, refl, List, [], length, get_or, None}
use Rattle.std.proofs.Common.{ap, arith}
use Rattle.echo_spec.specs.Input.{nodes_within}
use Rattle.readback.specs.Records.{records_bytes}
use Rattle.readback.specs.Rebuild.{joined, records_from}
use Rattle.heap_laws.specs.Heap.{within, stack_size, side_size, nodes_size, bits_size, past, Held, Stacked}
use Rattle.heap_laws.specs.declared.Heap.{Heap}

-- nothing is stored yet
pub record Blank (heap : Heap) : Type 0 where
  pub side_long : length heap.side ≡ side_size
  pub constants_long : length heap.constants ≡ 2048
  pub heads_long : length heap.heads ≡ 4096
  pub stack_long : length heap.stack ≡ stack_size
  pub nodes_long : length heap.records ≡ nodes_size
  pub bits-long : length heap.bits ≡ bits_size
  pub count : heap.count ≡ 0
  pub bit_count : heap.bit_count ≡ 0
  pub side_count : heap.side_count ≡ 0
  pub top : heap.top ≡ 0
  pub heads : (i : ℕ) → get_or heap.heads i None ≡ None

pub held_none : {heap : Heap} → Blank heap → Held heap []
unfolding within nodes_within records_bytes records_from joined
held_none b = record {
  side_long = b.side_long;
  constants_long = b.constants_long;
  heads_long = b.heads_long;
  stack_long = b.stack_long;
  nodes_long = b.nodes_long;
  bits-long = b.bits-long;
  inside = tt;
  count = b.count;
  bit_count = b.bit_count;
  side_count = b.side_count;
  records = refl;
  bits_held = refl;
  side_held = refl;
  constants = λ i bs e. absurd (let z : ◌≡◌ {A = ℕ} 0 1 = cc in omega arith);
  heads = λ h l. record { all = λ j bs k e q. absurd (omega arith); own = λ k e. absurd (omega (arith, ap past (b.heads h))) };
}

pub stacked-none : (script : List ℕ) {heap : Heap} → Blank heap → Stacked script heap []
stacked-none script b = record { room = omega arith; top = b.top; held = refl }
