-- `settle` meets its contract: the constant is found, or it is new and is entered, as far as there is room.
use Rattle.std.proofs.Common.{◌≡◌, ◌+◌, ◌-◌, ◌∙◌, ℕ, List, ap, refl, sym, subst, take, drop, arith, Some, Ok}
use Rattle.readback.specs.Rebuild.{Item, find_constant}
use Rattle.heap_laws.specs.Heap.{hash_of}
use Rattle.heap_laws.specs.Entering.{hash-small}
use Rattle.heap_laws.specs.Candidates.{part_at}
use Rattle.script_heap.specs.Constants.{bit-room, settle-found, settle-over, settle-enter}
use Rattle.script_heap.specs.Told.{ConstantTold, found_as}
use Rattle.script_heap.proofs.settle.Goals as goal

-- the part behind the bits in use, as a slice and as the definitions have it
same-part : (bits : List ℕ) (at w : ℕ) (s : List Item) → found_as (find_constant (take (at + w - at) (drop at bits)) s) ≡ found_as (find_constant (take w (drop at bits)) s)
same-part bits at w s = ap (λ (bs : List ℕ). found_as (find_constant bs s)) (part_at bits at w)

pub slice_bounds-bits-end : goal.slice_bounds-bits-end
slice_bounds-bits-end c = omega (arith, bit-room c.requires.holds.1, c.requires.few)

pub returns-in-Some : goal.returns-in-Some
returns-in-Some c = λ s h.
    subst (λ (m : ℕ). ConstantTold c.args.heap.now c.args.heap.now (take c.args.w (drop c.args.heap.now.bit_count c.args.heap.now.bits)) s (Ok m)) (sym c.from.ensures)
    (settle-found h c.args.w c.requires.few (Some c.in-Some.k) c.in-Some.k (c.in-Some.ensures s h ∙ same-part c.args.heap.now.bits c.args.heap.now.bit_count c.args.w s) refl)

pub overflow_sub-at : goal.overflow_sub-at
overflow_sub-at c = bit-room c.requires.holds.1

pub returns-then-w-at : goal.returns-then-w-at
returns-then-w-at c = λ s h. settle-over h c.args.w c.requires.few c.find_bits.result (c.find_bits.ensures s h ∙ same-part c.args.heap.now.bits c.args.heap.now.bit_count c.args.w s) c.in_default.is c.if-w-at.true

pub enter_constant-requires : goal.enter_constant-requires
enter_constant-requires c = record {
  small = omega (arith, c.hash_at-j.ensures, hash-small);
  room = omega (arith, bit-room c.requires.holds.1, c.if-w-at.false);
}

pub returns : goal.returns
returns c =
    λ s h. settle-enter h c.args.w c.requires.few c.find_bits.result (c.find_bits.ensures s h ∙ same-part c.args.heap.now.bits c.args.heap.now.bit_count c.args.w s) c.in_default.is c.hash_at-j.result c.enter_constant.new.heap c.enter_constant.result c.if-w-at.false
    (c.hash_at-j.ensures ∙ ap hash_of (part_at c.args.heap.now.bits c.args.heap.now.bit_count c.args.w)) c.enter_constant.ensures
