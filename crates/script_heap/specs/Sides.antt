-- Calls and selects: their operands become side entries, and wait no more. Assumes nothing.
use Prim.Native.Nat.{ℕ, ◌+◌, ◌*◌, ◌-◌, ◌/◌, ◌≤◌, ◌<◌}
use Rattle.std.specs.Prelude.{◌≡◌, false, take, drop, Result}
use Rattle.std.proofs.Math.Path.{refl, ap, sym}
use Rattle.std.proofs.Common.{◌∙◌, arith, length-drop, get_or-drop}
use mathlib.Core.List.{List, [], ◌∷◌, ◌++◌, map}
use Rattle.std.proofs.Math.ListN.{length, get_or, get_or-map}
use Rattle.std.proofs.lemmas.List.{length-map}
use Rattle.readback.specs.Rebuild.{Item, a_select, a_call, Ref, here, flat, side_in, record_of}
use Rattle.heap_laws.specs.Heap.{within, halves, pairs_back, Held, Stacked}
use Rattle.heap_laws.specs.declared.Heap.{Heap}
use Rattle.heap_laws.specs.declared.OverLimit.{OverLimit}
use Rattle.heap_laws.specs.Filled.{filled}
use Rattle.heap_laws.specs.Within.{within-parts, over-side}
use Rattle.heap_laws.specs.Adding.{plain-select, plain-call}
use Rattle.heap_laws.specs.Stacks.{stacked-nodes}
use Rattle.heap_laws.specs.Pairs.{length_pairs, length-flat, pairs-same, halves-front}
use Rattle.script_heap.specs.Told.{Told, Recorded}
use Rattle.script_heap.specs.Laws.{told-record}

pub side-room : {heap : Heap} {s : List Item} → Held heap s → heap.side_count ≤ 8192
side-room {s = s} h = omega (arith, h.side_count, (within-parts s h.inside).side)

-- where something waits from place base on, base is no more than how many wait
pub size_low : {script : List ℕ} {heap : Heap} {refs : List Ref} (base n : ℕ) (xs : List ℕ) → Stacked script heap refs → drop base refs ≡ map here xs → length xs ≡ n + 1 → base ≤ heap.top
size_low {refs = refs} base n xs w e l = omega (arith, w.top, length-drop base refs, ap length e, length-map xs here)

-- whatever the bits are
module _ (heap : Heap) {bits : List ℕ} {s : List Item} (h : Held (record heap { bits = bits }) s) (script : List ℕ) {refs : List Ref} (w : Stacked script heap refs) (base : ℕ) (xs : List ℕ)
    (low : base ≤ heap.top) (e : drop base refs ≡ map here xs) where
  size : length xs ≡ heap.top - base
  size = sym (length-map xs here) ∙ sym (ap length e) ∙ length-drop base refs ∙ ap (λ (n : ℕ). n - base) (sym w.top)

  nodes-are : halves (take (length xs) (drop base heap.stack)) ≡ xs
  nodes-are = stacked-nodes script base xs w (omega (arith, w.top)) e

  -- ---------------------------------------------------------------- calls

  pub call-over : (g width : ℕ) → 8192 - heap.side_count < heap.top - base → within (s ++ (a_call g width xs ∷ [])) ≡ false
  unfolding side_in
  call-over g width l = over-side s (a_call g width xs) (omega (arith, size, h.side_count, side-room h))

  pub told-call : (g width : ℕ) (side : List ℕ) (heap' : Heap) (r : Result ℕ OverLimit) → heap.top - base ≤ 8192 - heap.side_count
      → side ≡ filled heap.side heap.side_count (halves (take (heap.top - base) (drop base heap.stack)))
      → Recorded (record heap { side_count = heap.side_count + (heap.top - base); top = base; side = side }) heap' (record { kind = 38; a = g; b = width; c = heap.side_count; d = heap.top - base }) r
      → Told (record heap { bits = bits }) (record heap' { bits = bits }) base (s ++ (a_call g width xs ∷ [])) (length s) r
  unfolding side_in record_of
  told-call g width side heap' r room f v =
      let n : ℕ = heap.top - base in
      let a : halves (take n (drop base heap.stack)) ≡ xs = ap (λ (k : ℕ). halves (take k (drop base heap.stack))) (sym size) ∙ nodes-are in
      let b : side ≡ filled heap.side heap.side_count xs = f ∙ ap (filled heap.side heap.side_count) a in
      told-record heap h (a_call g width xs) (plain-call g width xs) xs base refl (omega (arith, size, side-room h)) (record heap { side_count = heap.side_count + n; top = base; side = side }) heap'
      (record { kind = 38; a = g; b = width; c = heap.side_count; d = n }) r
      (λ i. record heap { side_count = heap.side_count + sym size i; top = base; side = b i })
      (λ i. record { kind = 38; a = g; b = width; c = heap.side_count; d = sym size i }) v

  -- ---------------------------------------------------------------- selects

  module _ (stores : ℕ) (long : length xs ≡ 2 * stores + 1) where
    -- the pairs are those of the numbers that wait
    pairs-are : pairs_back stores (halves (drop base heap.stack)) ≡ pairs_back stores xs
    pairs-are =
        pairs-same stores (halves (drop base heap.stack)) (halves (take (length xs) (drop base heap.stack))) (λ j l. halves-front (length xs) (drop base heap.stack) j (omega arith))
        ∙ ap (pairs_back stores) nodes-are

    index_is : get_or heap.stack (base + 2 * stores) 0 / 2 ≡ get_or xs (2 * stores) 0
    index_is =
        ap (λ (k : ℕ). k / 2) (sym (get_or-drop base heap.stack (2 * stores) 0)) ∙ sym (get_or-map (λ c. c / 2) (drop base heap.stack) (2 * stores) 0)
        ∙ halves-front (length xs) (drop base heap.stack) (2 * stores) (omega arith) ∙ ap (λ (l : List ℕ). get_or l (2 * stores) 0) nodes-are

    side-size : length (flat (pairs_back stores xs)) ≡ 2 * stores
    side-size = length-flat (pairs_back stores xs) ∙ ap (λ (k : ℕ). 2 * k) (length_pairs stores xs)

    abbrev item : ℕ → Item
    item array = a_select array (get_or xs (2 * stores) 0) (pairs_back stores xs)

    pub select-over : (array : ℕ) → (8192 - heap.side_count) / 2 < stores → within (s ++ (a_select array (get_or xs (2 * stores) 0) (pairs_back stores xs) ∷ [])) ≡ false
    unfolding side_in
    select-over array l = over-side s (item array) (omega (arith, side-size, h.side_count, side-room h))

    pub told-select : (array index : ℕ) (side : List ℕ) (heap' : Heap) (r : Result ℕ OverLimit) → stores ≤ (8192 - heap.side_count) / 2 → index ≡ get_or heap.stack (base + 2 * stores) 0 / 2
        → side ≡ filled heap.side heap.side_count (flat (pairs_back stores (halves (drop base heap.stack))))
        → Recorded (record heap { side_count = heap.side_count + 2 * stores; top = base; side = side }) heap' (record { kind = 37; a = array; b = index; c = heap.side_count; d = stores }) r
        → Told (record heap { bits = bits }) (record heap' { bits = bits }) base (s ++ (a_select array (get_or xs (2 * stores) 0) (pairs_back stores xs) ∷ [])) (length s) r
    unfolding side_in record_of
    told-select array index side heap' r room q f v =
        let ys : List ℕ = flat (pairs_back stores xs) in
        let b : side ≡ filled heap.side heap.side_count ys = f ∙ ap (λ (ps : List _). filled heap.side heap.side_count (flat ps)) pairs-are in
        let i' : index ≡ get_or xs (2 * stores) 0 = q ∙ index_is in
        let d : stores ≡ length (pairs_back stores xs) = sym (length_pairs stores xs) in
        told-record heap h (item array) (plain-select array (get_or xs (2 * stores) 0) (pairs_back stores xs)) ys base refl (omega (arith, side-size, side-room h))
        (record heap { side_count = heap.side_count + 2 * stores; top = base; side = side }) heap' (record { kind = 37; a = array; b = index; c = heap.side_count; d = stores }) r
        (λ i. record heap { side_count = heap.side_count + sym side-size i; top = base; side = b i })
        (λ i. record { kind = 37; a = array; b = i' i; c = heap.side_count; d = d i }) v
