-- The arrays hold one constant more, whose bits stand behind those in use. Assumes nothing.
use Rattle.std.specs.Prelude.{ℕ, ◌+◌, ◌*◌, ◌≤◌, ◌<◌, ◌≡◌, ◌⊎◌, drop, get_or, set, Option, Some, None}
use Rattle.std.proofs.Math.Path.{ap, sym, subst}
use Rattle.std.proofs.Common.{◌∙◌, inl, inr, arith, length-set, get_or-set_same, get_or-set_other}
use mathlib.Core.List.{List, [], ◌∷◌, ◌++◌, append-nil}
use Rattle.std.proofs.Math.Option.{none, some}
use Rattle.std.proofs.Math.Dec.{T}
use Rattle.std.proofs.Math.ListN.{length, take, get_elem?, length-append}
use Rattle.std.proofs.Math.Seq.{take-add, take-length, drop-append_seam}
use Rattle.lists.specs.Tests.{same_refl}
use Rattle.lists.specs.Places.{at_less, at_snoc, find-snoc}
use Rattle.echo_spec.specs.Input.{Node}
use Rattle.readback.specs.Records.{record_bytes, holdable}
use Rattle.readback.specs.Rebuild.{Item, a_constant, is_constant, find_constant, bits_in, side_in, joined, record_of}
use Rattle.heap_laws.specs.Heap.{constant_at, past, hash_of, Latest, Kept, Held}
use Rattle.heap_laws.specs.declared.Constant.{Constant}
use Rattle.heap_laws.specs.declared.Heap.{Heap}
use Rattle.heap_laws.specs.Filled.{filled}
use Rattle.heap_laws.specs.Within.{within-parts, within-snoc, joined_snoc}
use Rattle.heap_laws.specs.Chains.{latest-grows, latest-skip, latest-new, kept-grows}
use Rattle.heap_laws.specs.Adding.{by_equal, records-more}

pub hash-small : (bs : List ℕ) → hash_of bs < 4096
unfolding hash_of
hash-small bs = omega arith

-- one node more with this record; where its bits start, their number, the constant before it with the same hash; the last with its hash; the number of bits
abbrev pub entered : Heap → ℕ → ℕ → Node → Heap
entered heap j w n = record heap {
  count = heap.count + 1;
  bit_count = heap.bit_count + w;
  constants = set heap.constants heap.count (record { start = heap.bit_count; width = w; before = get_or heap.heads j None });
  heads = set heap.heads j (Some heap.count);
  records = filled heap.records (17 * heap.count) (record_bytes n);
}

module _ {heap : Heap} {s : List Item} (h : Held heap s) (bs : List ℕ) (new : find_constant bs s ≡ none) (few : heap.count < 2048)
    (room : heap.bit_count + length bs ≤ 131072) (stands : take (length bs) (drop heap.bit_count heap.bits) ≡ bs) where
  abbrev latest : Option ℕ
  latest = get_or heap.heads (hash_of bs) None

  abbrev cell : Constant
  cell = record { start = heap.bit_count; width = length bs; before = latest }

  abbrev constants' : List Constant
  constants' = set heap.constants heap.count cell

  abbrev heads' : List (Option ℕ)
  heads' = set heap.heads (hash_of bs) (Some heap.count)

  abbrev t : List Item
  t = s ++ (a_constant bs ∷ [])

  small : hash_of bs < 4096
  small = hash-small bs

  bits-all : joined bits_in t ≡ joined bits_in s ++ bs
  unfolding bits_in
  bits-all = joined_snoc bits_in s (a_constant bs)

  side-all : joined side_in t ≡ joined side_in s
  unfolding side_in
  side-all = joined_snoc side_in s (a_constant bs) ∙ append-nil (joined side_in s)

  bits-size : length (joined bits_in t) ≡ heap.bit_count + length bs
  bits-size = ap length bits-all ∙ length-append (joined bits_in s) bs ∙ ap (λ (k : ℕ). k + length bs) (sym h.bit_count)

  -- an older constant
  older : (i : ℕ) (ds : List ℕ) → get_elem? s i ≡ some (a_constant ds) → Kept constants' t i ds
  older i ds e =
      let l = at_less s i (a_constant ds) e in
      let c = h.count in
      kept-grows heap.constants constants' s (a_constant bs ∷ []) i ds l
      (get_or-set_other heap.constants heap.count i cell (record { start = 0; width = 0; before = None }) (λ e. omega arith)) (h.constants i ds e)

  is_cell : constant_at constants' heap.count ≡ cell
  is_cell = get_or-set_same heap.constants heap.count cell (record { start = 0; width = 0; before = None }) (omega (arith, h.constants_long))

  -- the new one
  newest : Kept constants' t heap.count bs
  unfolding is_constant
  newest = record {
    end = omega (arith, ap (λ (x : Constant). x.start) is_cell, bits-size);
    size = ap (λ (x : Constant). x.width) is_cell;
    bits = (λ i. take (length bs) (drop ((ap (λ (x : Constant). x.start) is_cell ∙ h.bit_count) i) (bits-all i))) ∙ ap (take (length bs)) (drop-append_seam (joined bits_in s) bs) ∙ take-length bs;
    chain =
        subst (λ (o : Option ℕ). Latest (hash_of bs) t heap.count (past o)) (sym (ap (λ (x : Constant). x.before) is_cell))
        (latest-grows (hash_of bs) s (a_constant bs ∷ []) heap.count (past latest) (omega (arith, h.count))
        (subst (λ (i : ℕ). Latest (hash_of bs) s i (past latest)) (sym h.count) (h.heads (hash_of bs) small)));
    first = find-snoc (is_constant bs) 0 s (a_constant bs) new (same_refl bs) ∙ ap some (omega (arith, h.count));
  }

  by_place : (i : ℕ) (ds : List ℕ) → (get_elem? s i ≡ some (a_constant ds)) ⊎ ((i ≡ length s) × (a_constant bs ≡ a_constant ds)) → Kept constants' t i ds
  by_place i ds (inl e) = older i ds e
  by_place i ds (inr (e, f)) =
      let q : bs ≡ ds = cc in
      let z : heap.count ≡ i = h.count ∙ sym e in
      subst (λ (k : ℕ). Kept constants' t k ds) z (subst (Kept constants' t heap.count) q newest)

  head_at : (j : ℕ) → j < 4096 → Latest j t (length t) (past (get_or heads' j None))
  head_at j l =
      by_equal j (hash_of bs)
      (λ e. subst (λ (k : ℕ). Latest k t (length t) (past (get_or heads' k None))) (sym e)
      (subst (Latest (hash_of bs) t (length t))
      (sym (ap past (get_or-set_same heap.heads (hash_of bs) (Some heap.count) None (omega (arith, h.heads_long, small))) ∙ ap (λ (k : ℕ). k + 1) h.count)) (latest-new s bs)))
      (λ f. subst (λ (o : Option ℕ). Latest j t (length t) (past o)) (sym (get_or-set_other heap.heads (hash_of bs) j (Some heap.count) None f))
      (latest-skip j s (a_constant bs) (past (get_or heap.heads j None)) (λ ds e q. f (sym q ∙ (let z : ds ≡ bs = cc in ap hash_of z))) (h.heads j l)))

  pub held-entered : T (holdable (record_of heap.bit_count heap.side_count (a_constant bs)))
      → Held (entered heap (hash_of bs) (length bs) (record_of heap.bit_count heap.side_count (a_constant bs))) (s ++ (a_constant bs ∷ []))
  unfolding bits_in side_in
  held-entered fits =
      let w = within-parts s h.inside in
      let c = h.count in
      let more = records-more (a_constant bs) h (omega arith) in
      record {
        side_long = h.side_long;
        constants_long = length-set heap.constants heap.count cell ∙ h.constants_long;
        heads_long = length-set heap.heads (hash_of bs) (Some heap.count) ∙ h.heads_long;
        stack_long = h.stack_long;
        nodes_long = more.0;
        bits-long = h.bits-long;
        inside = within-snoc s (a_constant bs) h.inside (omega arith) (omega (arith, h.bit_count)) (omega (arith, w.side))
            (subst T (λ i. holdable (record_of (h.bit_count i) (h.side_count i) (a_constant bs))) fits);
        count = omega (arith, length-append s (a_constant bs ∷ []));
        bit_count = sym bits-size;
        side_count = h.side_count ∙ sym (ap length side-all);
        records = more.1;
        bits_held =
            ap (λ (k : ℕ). take k heap.bits) bits-size ∙ take-add heap.bit_count (length bs) heap.bits
            ∙ (λ i. (ap (λ (k : ℕ). take k heap.bits) h.bit_count ∙ h.bits_held) i ++ stands i) ∙ sym bits-all;
        side_held = ap (λ (l : List ℕ). take (length l) heap.side) side-all ∙ h.side_held ∙ sym side-all;
        constants = λ i ds f. by_place i ds (at_snoc s (a_constant bs) i (a_constant ds) f);
        heads = head_at;
      }
