-- Constants: found, or entered as the next node. Assumes nothing.
use Rattle.std.specs.Prelude.{ℕ, ◌+◌, ◌*◌, ◌-◌, ◌/◌, ◌%◌, ◌≤◌, ◌<◌, ◌≡◌, List, [], ◌∷◌, ◌++◌, Bool, true, false, T, leb, min, length, take, drop, get_or, set, Option, Some, None, Result, Ok, Err}
use Rattle.std.proofs.Math.Path.{refl, ap, sym, subst}
use Rattle.std.proofs.Common.{◌∙◌, inl, inr, arith, leb→le, length-drop, drop_of_length-le, length-take-le}
use Rattle.std.proofs.lemmas.Bool.{leb-false}
use Rattle.std.proofs.Math.Nat.{min-eq_left, min-eq_right}
use lib.Seq.{take_all, take-nil}
use Rattle.std.proofs.Math.Option as maybe
use Rattle.std.proofs.Math.Option.{none, some}
use Rattle.std.proofs.Math.ListN.{get_elem?}
use Rattle.lists.specs.Places.{at_less}
use Rattle.lists.specs.Tests.{same, same→eq, same_refl, true→T}
use Rattle.smtlib.specs.Readings.{bits_of}
use Rattle.echo_spec.specs.Input.{Node}
use Rattle.readback.specs.Reader.{Took, up_to}
use Rattle.readback.specs.Records.{record_bytes, holdable}
use Rattle.readback.specs.Rebuild.{Item, a_constant, find_constant, with_constant, with_constants, Ref, here, pending, node_of, bits_in, record_of}
use Rattle.rebuilt.specs.Constants.{HasAll, node-of-constant, with-constants-has}
use Rattle.script_tokens.specs.Reached.{between, ends_digits, Stretch}
use Rattle.heap_laws.specs.Heap.{within, bits_size, constant_at, past, hash_of, bits_at, bits_spanned, ref_at, pending_in, Held}
use Rattle.heap_laws.specs.Stacks.{ref-odd, ref-spanned}
use Rattle.heap_laws.specs.declared.Heap.{Heap}
use Rattle.heap_laws.specs.declared.OverLimit.{OverLimit}
use Rattle.heap_laws.specs.Filled.{filled, length-filled, front-filled, part_filled}
use Rattle.heap_laws.specs.Within.{within-parts, over-nodes, over-bits, over-record}
use Rattle.heap_laws.specs.Adding.{held-bits}
use Rattle.heap_laws.specs.Entering.{entered, held-entered}
use Rattle.heap_laws.specs.Settling.{constant-found, constant-new}
use Rattle.heap_laws.specs.Candidates.{bits-at-is}
use Rattle.heap_laws.specs.Chains.{Sought, sought-next, sought-less, sought-none, sought-found}
use Rattle.script_heap.specs.Told.{ConstantTold, RefTold, Entered, Half, constant_record, Compared, DigitsTo, found_as}

-- ---------------------------------------------------------------- a record that is added

-- the stores of a constant
pub entered-stores : (heap heap₁ : Heap) (j w m : ℕ) → m ≡ heap.count
    → heap₁ ≡ record heap { count = heap.count + 1; records = filled heap.records (17 * heap.count) (record_bytes (constant_record heap w)) }
    → record heap₁ {
      bit_count = heap.bit_count + w;
      constants = set heap₁.constants m (record { start = heap.bit_count; width = w; before = get_or heap.heads j None });
      heads = set heap₁.heads j (Some m);
    } ≡ entered heap j w (constant_record heap w)
entered-stores heap heap₁ j w m a e =
    λ i. record (e i) {
      bit_count = heap.bit_count + w;
      constants = set (e i).constants (a i) (record { start = heap.bit_count; width = w; before = get_or heap.heads j None });
      heads = set (e i).heads j (Some (a i));
    }

-- ---------------------------------------------------------------- the constant of the bits behind those in use

found_some : (o : maybe.Option ℕ) (k : ℕ) → Some k ≡ found_as o → o ≡ some k
found_some none k e = cc
found_some (some j) k e = let z : k ≡ j = cc in ap some (sym z)

found_none : (o : maybe.Option ℕ) → None ≡ found_as o → o ≡ none
found_none none e = refl
found_none (some j) e = cc

pub bit-room : {heap : Heap} {s : List Item} → Held heap s → heap.bit_count ≤ 131072
bit-room {s = s} h = omega (arith, h.bit_count, (within-parts s h.inside).bits)

module _ {heap : Heap} {s : List Item} (h : Held heap s) (w : ℕ) (few : w ≤ 131072) where
  abbrev bs : List ℕ
  bs = take w (drop heap.bit_count heap.bits)

  long : length bs ≡ w
  long = length-take-le w (drop heap.bit_count heap.bits) (omega (arith, h.bits-long, bit-room h, length-drop heap.bit_count heap.bits))

  pub settle-found : (r : Option ℕ) (k : ℕ) → r ≡ found_as (find_constant (take w (drop heap.bit_count heap.bits)) s) → r ≡ Some k
      → ConstantTold heap heap (take w (drop heap.bit_count heap.bits)) s (Ok k)
  settle-found r k e l =
      let (t, n) = constant-found bs s k (found_some (find_constant bs s) k (sym l ∙ e)) in
      (sym n, subst (Held heap) (sym t) h, refl, refl)

  module _ (r : Option ℕ) (e : r ≡ found_as (find_constant (take w (drop heap.bit_count heap.bits)) s)) (l : r ≡ None) where
    new : find_constant bs s ≡ none
    new = found_none (find_constant bs s) (sym l ∙ e)

    abbrev t : List Item
    t = s ++ (a_constant bs ∷ [])

    pub settle-over : 131072 - heap.bit_count < w → within (with_constant (take w (drop heap.bit_count heap.bits)) s) ≡ false
    unfolding bits_in
    settle-over k = ap within (constant-new bs s new).0 ∙ over-bits s (a_constant bs) (omega (arith, long, h.bit_count, bit-room h))

    record_is : constant_record heap w ≡ record_of heap.bit_count heap.side_count (a_constant bs)
    unfolding record_of
    record_is = λ i. record { kind = 1; a = heap.bit_count; b = sym long i; c = 0; d = 0 }

    pub settle-enter : (j : ℕ) (heap' : Heap) (q : Result ℕ OverLimit) → w ≤ 131072 - heap.bit_count → j ≡ hash_of (take w (drop heap.bit_count heap.bits)) → Entered heap heap' j w q
        → ConstantTold heap heap' (take w (drop heap.bit_count heap.bits)) s q
    settle-enter j heap' q room z v = by_answer q v
      where
        by_answer : (q : Result ℕ OverLimit) → Entered heap heap' j w q → ConstantTold heap heap' (take w (drop heap.bit_count heap.bits)) s q
        by_answer (Err _) (inl a) = ap within (constant-new bs s new).0 ∙ over-nodes s (a_constant bs) (omega (arith, h.count))
        by_answer (Err _) (inr a) =
            ap within (constant-new bs s new).0
            ∙ over-record s (a_constant bs) (sym (λ i. holdable (record_of (h.bit_count i) (h.side_count i) (a_constant bs))) ∙ ap holdable (sym record_is) ∙ a)
        by_answer (Ok m) (a, b, f, g) =
            let (u, n) = constant-new bs s new in
            let c : Node = record_of heap.bit_count heap.side_count (a_constant bs) in
            let y : heap' ≡ entered heap (hash_of bs) (length bs) c = g ∙ (λ i. entered heap (z i) (sym long i) (record_is i)) in
            let k : Held (entered heap (hash_of bs) (length bs) c) t =
            held-entered h bs new b (omega (arith, long, bit-room h)) (ap (λ (i : ℕ). take i (drop heap.bit_count heap.bits)) long)
            (subst (λ (x : Node). T (holdable x)) record_is f) in (
              a ∙ h.count ∙ sym n,
              subst (Held heap') (sym u) (subst (λ (x : Heap). Held x t) (sym y) k),
              ap (λ (x : Heap). x.top) y,
              ap (λ (x : Heap). x.stack) y,
            )

-- ---------------------------------------------------------------- bits that are stored behind those in use

module _ {heap : Heap} {s : List Item} (h : Held heap s) (bits : List ℕ) (bs : List ℕ) (w : ℕ) (few : w ≤ 131072) (size : length bs ≡ w)
    (e : length heap.bits ≡ bits_size → bits ≡ filled heap.bits heap.bit_count bs) where
  room : heap.bit_count + length bs ≤ length heap.bits
  room = omega (arith, bit-room h, h.bits-long)

  pub held-filled : Held (record heap { bits = bits }) s
  held-filled =
      let f = e h.bits-long in
      held-bits bits (ap length f ∙ length-filled heap.bits heap.bit_count bs room) (ap (take heap.bit_count) f ∙ front-filled heap.bits heap.bit_count bs (omega (arith, room))) h

  pub part-is : take w (drop heap.bit_count bits) ≡ bs
  part-is =
      ap (λ (k : ℕ). take k (drop heap.bit_count bits)) (sym size) ∙ ap (λ (l : List ℕ). take (length bs) (drop heap.bit_count l)) (e h.bits-long)
      ∙ part_filled heap.bits heap.bit_count bs (omega (arith, room))

  pub told-filled : (heap' : Heap) (r : Result ℕ OverLimit) → ConstantTold (record heap { bits = bits }) heap' (take w (drop heap.bit_count bits)) s r → ConstantTold heap heap' bs s r
  told-filled heap' r v = at_bits r (subst (λ (x : List ℕ). ConstantTold (record heap { bits = bits }) heap' x s r) part-is v)
    where
      at_bits : (r : Result ℕ OverLimit) → ConstantTold (record heap { bits = bits }) heap' bs s r → ConstantTold heap heap' bs s r
      at_bits (Err _) v = v
      at_bits (Ok m) v = v

-- ---------------------------------------------------------------- digits

pub digits-past : (script : List ℕ) (p : ℕ) → length script < p → DigitsTo script p p
unfolding up_to
digits-past script p l =
    let a : p - p ≡ 0 = omega arith in
    record {
      low = omega arith;
      high = λ k. absurd (omega arith);
      read = ap (λ (b : List ℕ). (up_to ends_digits b).value) (drop_of_length-le script {i = p} (omega arith)) ∙ sym (ap (λ (k : ℕ). take k (drop p script)) a);
    }

pub digits-stretch : {script : List ℕ} {p e : ℕ} → Stretch ends_digits script p e → DigitsTo script p e
digits-stretch v = record { low = v.low; high = λ k. v.high; read = ap (λ (t : Took (List ℕ)). t.value) v.read }

-- ---------------------------------------------------------------- operands

module _ {heap : Heap} {s : List Item} (x : Ref) where
  pub told-node : Held heap s → (k : ℕ) → x ≡ here k → RefTold heap heap x s (Ok k)
  unfolding pending_in with_constants node_of
  told-node h k e = subst (λ (y : Ref). RefTold heap heap y s (Ok k)) (sym e) (refl, h, refl, refl)

pub told-constant : (heap heap' : Heap) (s : List Item) (x : Ref) (bs : List ℕ) (r : Result ℕ OverLimit) → x ≡ pending bs → ConstantTold heap heap' bs s r → RefTold heap heap' x s r
unfolding pending_in with_constants
told-constant heap heap' s x _ r e v = subst (λ (y : Ref). RefTold heap heap' y s r) (sym e) v

-- ---------------------------------------------------------------- comparisons

-- a node along the chain
pub sought-at : {s : List Item} {bs : List ℕ} {link : Option ℕ} {k : ℕ} → link ≡ Some k → Sought s bs (past link) → Sought s bs (k + 1)
sought-at {s} {bs} e w = subst (λ (o : Option ℕ). Sought s bs (past o)) e w

module _ {heap : Heap} {s : List Item} (h : Held heap s) (bs : List ℕ) (k : ℕ) (w : Sought s bs (k + 1)) where
  pub chain-small : k < 2048
  chain-small = let (a, ds, e, q) = w.own k refl in omega (arith, (within-parts s h.inside).nodes)

  pub chain-constant : (s : List Item) × (ds : List ℕ) × Held heap s × (get_elem? s k ≡ some (a_constant ds))
  chain-constant = let (a, ds, e, q) = w.own k refl in (s, ds, h, e)

  module _ (v : (ds : List ℕ) → get_elem? s k ≡ some (a_constant ds) → Compared ds bs true) where
    pub chain-found : Some k ≡ found_as (find_constant bs s)
    chain-found =
        let (a, ds, e, q) = w.own k refl in
        let f : get_elem? s k ≡ some (a_constant bs) = e ∙ ap (λ (x : List ℕ). some (a_constant x)) (v ds e) in
        ap found_as (sym (sought-found h bs k f))

  module _ (v : (ds : List ℕ) → get_elem? s k ≡ some (a_constant ds) → Compared ds bs false) where
    pub chain_next : Sought s bs (past (constant_at heap.constants k).before)
    chain_next = sought-next h bs k w (λ f. v bs f refl)

  pub chain-less : past (constant_at heap.constants k).before < k + 1
  chain-less = let a = sought-less h bs k w in omega arith

pub chain-none : {heap : Heap} {s : List Item} (h : Held heap s) (bs : List ℕ) → Sought s bs 0 → None ≡ found_as (find_constant bs s)
chain-none h bs w = sym (ap found_as (sought-none h bs w))

-- the comparison's answer is known
pub compared-as : (xs ys : List ℕ) (r q : Bool) → r ≡ q → Compared xs ys r → Compared xs ys q
compared-as xs ys r q e v = subst (Compared xs ys) e v

-- digits between two places, as far as there are any
spanned-at : (script : List ℕ) (p e f q : ℕ) → p ≤ e → f ≡ min e (length script) → q ≡ min p f → bits_of (between script q f) ≡ bits_of (between script p e)
spanned-at script p e f q l a b = ap bits_of (by_end (leb e (length script)) refl)
  where
    by_end : (t : Bool) → leb e (length script) ≡ t → between script q f ≡ between script p e
    by_end true h =
        let c : f ≡ e = a ∙ min-eq_left (leb→le e (length script) (true→T h)) in
        let d : q ≡ p = b ∙ ap (min p) c ∙ min-eq_left l in
        λ i. between script (d i) (c i)
    by_end false h =
        let k : length script < e = leb-false e (length script) h in
        let c : f ≡ length script = a ∙ min-eq_right (omega arith) in
        by-start k c (leb p (length script)) refl
      where
        by-start : length script < e → f ≡ length script → (t : Bool) → leb p (length script) ≡ t → between script q f ≡ between script p e
        by-start k c true g =
            let m = leb→le p (length script) (true→T g) in
            let d : q ≡ p = b ∙ min-eq_left (omega arith) in
            let n = length-drop p script in
            (λ i. between script (d i) (c i)) ∙ take_all (length script - p) (drop p script) (omega arith) ∙ sym (take_all (e - p) (drop p script) (omega arith))
        by-start k c false g =
            let m = leb-false p (length script) g in
            let d : q ≡ length script = b ∙ ap (min p) c ∙ min-eq_right (omega arith) in
            let z : length script - length script ≡ 0 = omega arith in
            (λ i. between script (d i) (c i)) ∙ ap (λ (n : ℕ). take n (drop (length script) script)) z
            ∙ sym (ap (take (e - p)) (drop_of_length-le script {i = p} (omega arith)) ∙ take-nil (e - p))

-- the bits of digits that are read from a place on
spanned-all : (script : List ℕ) (p e : ℕ) → DigitsTo script p e → bits_of (between script p e) ≡ bits_at script p
spanned-all script p e d = sym (bits-at-is script p e d.read)

-- an operand that has the place of its digits and how many there are, with the digits that the script has
pub ref-span : (script : List ℕ) (c f q : ℕ) → c % 2 ≡ 0 → 4611686018427387904 ≤ c / 2
    → f ≡ min ((c / 2 - 4611686018427387904) % 17592186044416 + (c / 2 - 4611686018427387904) / 17592186044416) (length script) → q ≡ min ((c / 2 - 4611686018427387904) % 17592186044416) f
    → ref_at script c ≡ pending (bits_of (between script q f))
unfolding bits_spanned
ref-span script c f q e l a b =
    let x : ℕ = c / 2 - 4611686018427387904 in
    ref-spanned script c e l ∙ ap pending (sym (spanned-at script (x % 17592186044416) (x % 17592186044416 + x / 17592186044416) f q (omega arith) a b))

pub ref-counted : (script : List ℕ) (c e : ℕ) → c % 2 ≡ 1 → DigitsTo script (c / 2) e → ref_at script c ≡ pending (bits_of (between script (c / 2) e))
ref-counted script c e o d = ref-odd script c o ∙ ap pending (sym (spanned-all script (c / 2) e d))

-- the number of a constant's node is small
pub half-constant : (heap heap' : Heap) (bs : List ℕ) (s : List Item) (r : Result ℕ OverLimit) → ConstantTold heap heap' bs s r → Half r
unfolding with_constants
half-constant heap heap' bs s (Err _) v = tt
half-constant heap heap' bs s (Ok m) (e, h, a, b) =
    let t : List Item = with_constant bs s in
    let f : HasAll t (bs ∷ []) = with-constants-has (bs ∷ []) s in
    let l = at_less t (node_of t (pending bs)) (a_constant bs) (node-of-constant t bs f.0) in
    omega (arith, (within-parts t h.inside).nodes)

-- the answer of a comparison
pub compared-by : (xs ys : List ℕ) (r : Bool) → r ≡ same xs ys → Compared xs ys r
compared-by xs ys true e = same→eq xs ys (true→T (sym e))
compared-by xs ys false e = λ q. subst T (ap (same xs) q ∙ sym e) (same_refl xs)
