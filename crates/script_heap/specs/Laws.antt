-- Laws of single stores, and of a record that is written and counted. Assumes nothing.
use Rattle.std.specs.Prelude.{ℕ, ◌+◌, ◌*◌, ◌/◌, ◌%◌, ◌≤◌, ◌<◌, ◌≡◌, List, [], ◌∷◌, ◌++◌, false, T, leb, length, take, drop, set, Result, Ok, Err}
use Rattle.std.proofs.Common.{ap, sym, ◌∙◌, subst, inl, inr, arith, le-leb, leb→le}
use borrow.Rule.Slice.PartMut.{put_mid}
use lib.Seq.{drop-drop}
use Rattle.std.proofs.lemmas.Bool.{lt-leb}
use Rattle.lists.specs.Tests.{and_0, and-1}
use Rattle.echo_spec.specs.Input.{Node}
use Rattle.readback.specs.Records.{le32, record_bytes, holdable}
use Rattle.readback.specs.Rebuild.{Item, side_in, record_of}
use Rattle.heap_laws.specs.Heap.{Held}
use Rattle.heap_laws.specs.Filled.{filled, filled_none, filled_more, filled-filled}
use Rattle.heap_laws.specs.Within.{over-nodes, over-record}
use Rattle.heap_laws.specs.Adding.{Plain, added, held-added}
use Rattle.heap_laws.specs.declared.Heap.{Heap}
use Rattle.heap_laws.specs.declared.OverLimit.{OverLimit}
use Rattle.script_heap.specs.Told.{Told, Recorded}

-- ---------------------------------------------------------------- stores one after the other

pub store-first : (l : List ℕ) (at v : ℕ) → at < length l → set l at v ≡ filled l at (v ∷ [])
store-first l at v h =
    let z : at + 0 ≡ at = omega arith in
    (λ i. set (sym (filled_none l at) i) (sym z i) v) ∙ filled_more l at [] v (omega arith)

pub store-next : (l : List ℕ) {l' : List ℕ} (at : ℕ) (xs : List ℕ) (k v : ℕ) → l' ≡ filled l at xs → k ≡ at + length xs → k < length l → set l' k v ≡ filled l at (xs ++ (v ∷ []))
store-next l at xs k v e z h = (λ i. set (e i) (z i) v) ∙ filled_more l at xs v (omega arith)

pub fill-next : (l : List ℕ) {l' l'' : List ℕ} (at : ℕ) (xs : List ℕ) (k : ℕ) (ys : List ℕ) → l' ≡ filled l at xs → k ≡ at + length xs → k ≤ length l → l'' ≡ filled l' k ys
    → l'' ≡ filled l at (xs ++ ys)
fill-next l at xs k ys e z h f = f ∙ (λ i. filled (e i) (z i) ys) ∙ filled-filled l at xs ys (omega arith)

-- a word of four bytes, one byte after the other
pub word-stored : (l : List ℕ) (at v : ℕ) → at + 4 ≤ length l
    → set (set (set (set l at (v % 256)) (at + 1) (v / 256 % 256)) (at + 2) (v / 65536 % 256)) (at + 3) (v / 16777216) ≡ filled l at (le32 v)
word-stored l at v h =
    let a : ℕ = v % 256 in
    let b : ℕ = v / 256 % 256 in
    let c : ℕ = v / 65536 % 256 in
    let one = store-first l at a (omega arith) in
    let two = store-next l at (a ∷ []) (at + 1) b one (omega arith) (omega arith) in
    let three = store-next l at (a ∷ b ∷ []) (at + 2) c two (omega arith) (omega arith) in
    store-next l at (a ∷ b ∷ c ∷ []) (at + 3) (v / 16777216) three (omega arith) (omega arith)

-- a word's four bytes put there at once
pub word-put : (l ys : List ℕ) (at k v : ℕ) → v ≤ 4294967295 → k ≡ 4 → ys ≡ v % 256 ∷ v / 256 % 256 ∷ v / 65536 % 256 ∷ v / 16777216 % 256 ∷ []
    → put_mid at k l ys ≡ filled l at (le32 v)
unfolding filled
word-put l ys at k v small z e =
    let last : v / 16777216 % 256 ≡ v / 16777216 = omega arith in
    (λ i. take at l ++ (e i ++ drop (z i) (drop at l)))
    ∙ (λ i. take at l ++ ((v % 256 ∷ v / 256 % 256 ∷ v / 65536 % 256 ∷ last i ∷ []) ++ drop-drop 4 at l i))

-- a record of 17 bytes
pub record-stored : (l : List ℕ) {l₁ l₂ l₃ l₄ : List ℕ} (at : ℕ) (n : Node) → at + 17 ≤ length l
    → l₁ ≡ filled (set l at n.kind) (at + 1) (le32 n.a) → l₂ ≡ filled l₁ (at + 5) (le32 n.b)
    → l₃ ≡ filled l₂ (at + 9) (le32 n.c) → l₄ ≡ filled l₃ (at + 13) (le32 n.d) → l₄ ≡ filled l at (record_bytes n)
unfolding record_bytes
record-stored l at n h e₁ e₂ e₃ e₄ =
    let k : List ℕ = n.kind ∷ [] in
    let f₀ = store-first l at n.kind (omega arith) in
    let f₁ = fill-next l at k (at + 1) (le32 n.a) f₀ (omega arith) (omega arith) e₁ in
    let f₂ = fill-next l at (k ++ le32 n.a) (at + 5) (le32 n.b) f₁ (omega arith) (omega arith) e₂ in
    let f₃ = fill-next l at ((k ++ le32 n.a) ++ le32 n.b) (at + 9) (le32 n.c) f₂ (omega arith) (omega arith) e₃ in
    fill-next l at (((k ++ le32 n.a) ++ le32 n.b) ++ le32 n.c) (at + 13) (le32 n.d) f₃ (omega arith) (omega arith) e₄

-- ---------------------------------------------------------------- what a record can hold

module _ (n : Node) where
  pub fits-a : T (holdable n) → n.a ≤ 4294967295
  fits-a h = leb→le n.a 4294967295 (and_0 (leb n.a 4294967295) _ h)

  pub fits-b : T (holdable n) → n.b ≤ 4294967295
  fits-b h = leb→le n.b 4294967295 (and_0 (leb n.b 4294967295) _ (and-1 (leb n.a 4294967295) _ h))

  pub fits-c : T (holdable n) → n.c ≤ 4294967295
  fits-c h = leb→le n.c 4294967295 (and_0 (leb n.c 4294967295) _ (and-1 (leb n.b 4294967295) _ (and-1 (leb n.a 4294967295) _ h)))

  pub fits-d : T (holdable n) → n.d ≤ 4294967295
  fits-d h = leb→le n.d 4294967295 (and-1 (leb n.c 4294967295) _ (and-1 (leb n.b 4294967295) _ (and-1 (leb n.a 4294967295) _ h)))

  pub over-a : 4294967295 < n.a → false ≡ holdable n
  over-a h = rw (lt-leb n.a 4294967295 h)

  pub over-b : n.a ≤ 4294967295 → 4294967295 < n.b → false ≡ holdable n
  over-b g h = rw (le-leb n.a 4294967295 g, lt-leb n.b 4294967295 h)

  pub over-c : n.a ≤ 4294967295 → n.b ≤ 4294967295 → 4294967295 < n.c → false ≡ holdable n
  over-c f g h = rw (le-leb n.a 4294967295 f, le-leb n.b 4294967295 g, lt-leb n.c 4294967295 h)

  pub over-d : n.a ≤ 4294967295 → n.b ≤ 4294967295 → n.c ≤ 4294967295 → leb n.d 4294967295 ≡ holdable n
  over-d f g h = rw (le-leb n.a 4294967295 f, le-leb n.b 4294967295 g, le-leb n.c 4294967295 h)

-- ---------------------------------------------------------------- a node more

-- whatever the bits are
module _ (heap : Heap) {bits : List ℕ} {s : List Item} (h : Held (record heap { bits = bits }) s) (x : Item) (p : Plain x) where
  -- where the side entries, their number and the number of operands that are left stand already
  pub told-record : (xs : List ℕ) (top : ℕ) → side_in x ≡ xs → heap.side_count + length xs ≤ 8192 → (heap₁ heap' : Heap) (n : Node) (r : Result ℕ OverLimit)
      → heap₁ ≡ record heap { side_count = heap.side_count + length xs; top = top; side = filled heap.side heap.side_count xs } → n ≡ record_of heap.bit_count heap.side_count x
      → Recorded heap₁ heap' n r → Told (record heap { bits = bits }) (record heap' { bits = bits }) top (s ++ (x ∷ [])) (length s) r
  told-record xs top q room heap₁ heap' n r e f w = by_answer r w
    where
      same : heap₁.count ≡ length s
      same = ap (λ (y : Heap). y.count) e ∙ h.count

      by_answer : (r : Result ℕ OverLimit) → Recorded heap₁ heap' n r → Told (record heap { bits = bits }) (record heap' { bits = bits }) top (s ++ (x ∷ [])) (length s) r
      by_answer (Err _) (inl a) = over-nodes s x (omega (arith, same))
      by_answer (Err _) (inr a) = over-record s x (sym (λ i. holdable (record_of (h.bit_count i) (h.side_count i) x)) ∙ ap holdable (sym f) ∙ a)
      by_answer (Ok m) (a, b, c, d) =
          let n' : Node = record_of heap.bit_count heap.side_count x in
          let z : heap' ≡ added heap xs top n' =
          d ∙ (λ i. record (e i) { count = (e i).count + 1; records = filled (e i).records (17 * (e i).count) (record_bytes (f i)) }) in (
            a ∙ same,
            subst (λ (y : Heap). Held (record y { bits = bits }) (s ++ (x ∷ []))) (sym z) (held-added h xs top room x p q (omega (arith, same)) (subst (λ (y : Node). T (holdable y)) f c)),
            ap (λ (y : Heap). y.top) z,
            ap (λ (y : Heap). y.stack) z,
          )

-- of the bits, which are as they were, an addition tells what it tells of any
pub told-own : (heap heap' : Heap) (n : ℕ) (t : List Item) (k : ℕ) (r : Result ℕ OverLimit) → heap'.bits ≡ heap.bits → Told heap (record heap' { bits = heap.bits }) n t k r → Told heap heap' n t k r
told-own heap heap' n t k r e w = subst (λ (bits : List ℕ). Told heap (record heap' { bits = bits }) n t k r) (sym e) w

-- of the records and the bits, which are as they were, holds what holds of any
pub held-own : (heap heap' : Heap) (s : List Item) → heap'.records ≡ heap.records → heap'.bits ≡ heap.bits → Held (record heap' { records = heap.records; bits = heap.bits }) s → Held heap' s
held-own heap heap' s e f h =
    subst (λ (bits : List ℕ). Held (record heap' { bits = bits }) s) (sym f)
    (subst (λ (records : List ℕ). Held (record heap' { records = records; bits = heap.bits }) s) (sym e) h)

-- nothing is stored
pub same_heap : (heap : Heap) → heap ≡ record heap { side_count = heap.side_count + 0; side = filled heap.side heap.side_count [] }
same_heap heap =
    let z : heap.side_count ≡ heap.side_count + 0 = omega arith in
    λ i. record heap { side_count = z i; side = sym (filled_none heap.side heap.side_count) i }

-- the number of operands that wait
pub top-heap : (heap : Heap) (top : ℕ) → record heap { top = top } ≡ record heap { side_count = heap.side_count + 0; top = top; side = filled heap.side heap.side_count [] }
top-heap heap top =
    let z : heap.side_count ≡ heap.side_count + 0 = omega arith in
    λ i. record heap { side_count = z i; top = top; side = sym (filled_none heap.side heap.side_count) i }
