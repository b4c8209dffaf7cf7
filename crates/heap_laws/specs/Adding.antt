-- The arrays hold one node more, whatever its kind, and hold what they held where only waiting operands changed. Assumes nothing.
use Rattle.std.specs.Prelude.{ℕ, ◌+◌, ◌*◌, ◌≤◌, ◌<◌, ◌≡◌, refl, List, [], ◌∷◌, ◌++◌, Bool, true, false, ◌⊎◌, T, eqb, length, take, get_or, None}
use Rattle.std.proofs.Common.{ap, sym, ◌∙◌, subst, append-nil, inl, inr, arith, eqb→eq, length-append}
use Rattle.std.proofs.Math.Option.{some}
use Rattle.std.proofs.lemmas.Bool.{eqb-false}
use Rattle.std.proofs.Math.ListN.{get_elem?}
use Rattle.lists.specs.Tests.{true→T}
use Rattle.lists.specs.Places.{at_less, at_snoc}
use Rattle.echo_spec.specs.Input.{Node}
use Rattle.readback.specs.Records.{record_bytes, records_bytes, holdable}
use Rattle.readback.specs.Rebuild.{Item, a_variable, a_constant, an_operator, a_select, a_call, bits_in, side_in, joined, record_of, records_from}
use Rattle.heap_laws.specs.Heap.{nodes_size, past, Kept, Held}
use Rattle.heap_laws.specs.declared.Heap.{Heap}
use Rattle.heap_laws.specs.Filled.{filled, length-filled, take-filled}
use Rattle.heap_laws.specs.Within.{within-parts, within-snoc, joined_snoc, bytes-snoc, record-long}
use Rattle.heap_laws.specs.Chains.{latest-skip, kept-grows}

-- two numbers are equal or not
pub by_equal : {P : Type 0} (k c : ℕ) → (k ≡ c → P) → ((k ≡ c → ⊥) → P) → P
by_equal {P} k c f g = go (eqb k c) refl
  where
    go : (t : Bool) → eqb k c ≡ t → P
    go true e = f (eqb→eq k c (true→T e))
    go false e = g (eqb-false k c e)

-- ---------------------------------------------------------------- operands that wait

-- other operands that wait, or another number of them
pub held-stack : {heap : Heap} {s : List Item} (top : ℕ) (stack : List ℕ) → length stack ≡ length heap.stack → Held heap s → Held (record heap { top = top; stack = stack }) s
held-stack top stack e h = record {
  side_long = h.side_long;
  constants_long = h.constants_long;
  heads_long = h.heads_long;
  stack_long = e ∙ h.stack_long;
  nodes_long = h.nodes_long;
  bits-long = h.bits-long;
  inside = h.inside;
  count = h.count;
  bit_count = h.bit_count;
  side_count = h.side_count;
  records = h.records;
  bits_held = h.bits_held;
  side_held = h.side_held;
  constants = h.constants;
  heads = h.heads;
}

-- other bits behind those in use
pub held-bits : {heap : Heap} {s : List Item} (bits : List ℕ) → length bits ≡ length heap.bits → take heap.bit_count bits ≡ take heap.bit_count heap.bits → Held heap s
    → Held (record heap { bits = bits }) s
held-bits {heap} {s} bits e f h = record {
  side_long = h.side_long;
  constants_long = h.constants_long;
  heads_long = h.heads_long;
  stack_long = h.stack_long;
  nodes_long = h.nodes_long;
  bits-long = e ∙ h.bits-long;
  inside = h.inside;
  count = h.count;
  bit_count = h.bit_count;
  side_count = h.side_count;
  records = h.records;
  bits_held = subst (λ (n : ℕ). take n bits ≡ take n heap.bits) h.bit_count f ∙ h.bits_held;
  side_held = h.side_held;
  constants = h.constants;
  heads = h.heads;
}

-- ---------------------------------------------------------------- a node that is no constant

pub record Plain (x : Item) : Type 0 where
  pub none : bits_in x ≡ []
  pub other : (bs : List ℕ) → x ≡ a_constant bs → ⊥

pub plain-variable : (w : ℕ) → Plain (a_variable w)
unfolding bits_in
plain-variable w = record { none = refl; other = λ bs e. absurd (let z : ◌≡◌ {A = ℕ} 0 1 = cc in omega arith) }

pub plain-operator : (k : ℕ) (ks xs ms : List ℕ) → Plain (an_operator k ks xs ms)
unfolding bits_in
plain-operator k ks xs ms = record { none = refl; other = λ bs e. absurd (let z : ◌≡◌ {A = ℕ} 0 1 = cc in omega arith) }

pub plain-select : (a i : ℕ) (ps : List (Rattle.readback.specs.Rebuild.Pair ℕ)) → Plain (a_select a i ps)
unfolding bits_in
plain-select a i ps = record { none = refl; other = λ bs e. absurd (let z : ◌≡◌ {A = ℕ} 0 1 = cc in omega arith) }

pub plain-call : (g w : ℕ) (xs : List ℕ) → Plain (a_call g w xs)
unfolding bits_in
plain-call g w xs = record { none = refl; other = λ bs e. absurd (let z : ◌≡◌ {A = ℕ} 0 1 = cc in omega arith) }

-- the records with one more
pub records-more : {heap : Heap} {s : List Item} (x : Item) → Held heap s → length s < 2048
    → let nodes : List ℕ = filled heap.records (17 * heap.count) (record_bytes (record_of heap.bit_count heap.side_count x)) in
    (length nodes ≡ nodes_size) × (take (17 * length (s ++ (x ∷ []))) nodes ≡ records_bytes (records_from 0 0 (s ++ (x ∷ []))))
records-more {heap} {s} x h few =
    let r : List ℕ = record_bytes (record_of heap.bit_count heap.side_count x) in
    let nodes : List ℕ = filled heap.records (17 * heap.count) r in
    let e : nodes ≡ filled heap.records (17 * length s) r = ap (λ (n : ℕ). filled heap.records (17 * n) r) h.count in
    let long : length r ≡ 17 = record-long (record_of heap.bit_count heap.side_count x) in
    let m : 17 * length (s ++ (x ∷ [])) ≡ 17 * length s + length r = omega (arith, length-append s (x ∷ []), long) in (
      ap length e ∙ length-filled heap.records (17 * length s) r (omega (arith, long, h.nodes_long)) ∙ h.nodes_long,
      ap (λ (n : ℕ). take n nodes) m ∙ ap (take (17 * length s + length r)) e ∙ take-filled heap.records (17 * length s) r (omega (arith, h.nodes_long))
          ∙ (λ i. h.records i ++ record_bytes (record_of (h.bit_count i) (h.side_count i) x)) ∙ sym (bytes-snoc s x),
    )

-- side entries xs, the number of them, `top` operands that wait, one node more with this record
abbrev pub added : Heap → List ℕ → ℕ → Node → Heap
added heap xs top n = record heap {
  count = heap.count + 1;
  side_count = heap.side_count + length xs;
  top = top;
  side = filled heap.side heap.side_count xs;
  records = filled heap.records (17 * heap.count) (record_bytes n);
}

module _ {heap : Heap} {s : List Item} (h : Held heap s) (xs : List ℕ) (top : ℕ) (room : heap.side_count + length xs ≤ 8192) where
  pub held-added : (x : Item) → Plain x → side_in x ≡ xs → length s < 2048 → T (holdable (record_of heap.bit_count heap.side_count x))
      → Held (added heap xs top (record_of heap.bit_count heap.side_count x)) (s ++ (x ∷ []))
  held-added x p q few fits =
      let t : List Item = s ++ (x ∷ []) in
      let w = within-parts s h.inside in
      let more = records-more x h few in
      let bs : joined bits_in t ≡ joined bits_in s = joined_snoc bits_in s x ∙ ap (λ (l : List ℕ). joined bits_in s ++ l) p.none ∙ append-nil (joined bits_in s) in
      let ss : joined side_in t ≡ joined side_in s ++ xs = joined_snoc side_in s x ∙ ap (λ (l : List ℕ). joined side_in s ++ l) q in
      let sl : length (joined side_in t) ≡ length (joined side_in s) + length xs = ap length ss ∙ length-append (joined side_in s) xs in
      let sn : length (joined side_in t) ≡ heap.side_count + length xs = sl ∙ ap (λ (n : ℕ). n + length xs) (sym h.side_count) in
      record {
        side_long = length-filled heap.side heap.side_count xs (omega (arith, h.side_long)) ∙ h.side_long;
        constants_long = h.constants_long;
        heads_long = h.heads_long;
        stack_long = h.stack_long;
        nodes_long = more.0;
        bits-long = h.bits-long;
        inside = within-snoc s x h.inside few (omega (arith, ap length p.none, w.bits)) (omega (arith, ap length q, h.side_count, room))
            (subst T (λ i. holdable (record_of (h.bit_count i) (h.side_count i) x)) fits);
        count = omega (arith, h.count, length-append s (x ∷ []));
        bit_count = h.bit_count ∙ sym (ap length bs);
        side_count = sym sn;
        records = more.1;
        bits_held = subst (λ (l : List ℕ). take (length l) heap.bits ≡ l) (sym bs) h.bits_held;
        side_held = ap (λ (n : ℕ). take n (filled heap.side heap.side_count xs)) sn ∙ take-filled heap.side heap.side_count xs (omega (arith, h.side_long))
            ∙ ap (λ (n : ℕ). take n heap.side ++ xs) h.side_count ∙ ap (λ (l : List ℕ). l ++ xs) h.side_held ∙ sym ss;
        constants = λ i ds f. by_place i ds (at_snoc s x i (a_constant ds) f);
        heads = λ j l. latest-skip j s x (past (get_or heap.heads j None)) (λ ds f r. p.other ds f) (h.heads j l);
      }
    where
      by_place : (i : ℕ) (ds : List ℕ) → (get_elem? s i ≡ some (a_constant ds)) ⊎ ((i ≡ length s) × (x ≡ a_constant ds)) → Kept heap.constants (s ++ (x ∷ [])) i ds
      by_place i ds (inl f) = kept-grows heap.constants heap.constants s (x ∷ []) i ds (at_less s i (a_constant ds) f) refl (h.constants i ds f)
      by_place i ds (inr (a, b)) = absurd (p.other ds b)
