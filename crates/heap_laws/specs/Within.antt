-- Nodes laid out after others, and the limits: what is within them, so is what it begins with. Assumes nothing.
use Rattle.std.specs.Prelude.{ℕ, ◌+◌, ◌*◌, ◌≤◌, ◌<◌, ◌≡◌, refl, List, [], ◌∷◌, ◌++◌, true, false, ◌&&◌, T, leb, length}
use Rattle.std.proofs.Common.{ap, sym, ◌∙◌, subst, append_assoc, append-nil, arith, leb→le, le→leb, length-append}
use Rattle.lists.specs.Tests.{every, and_0, and-1, and_T, every_append, no→false}
use Rattle.lists.specs.Places.{Grows}
use Rattle.echo_spec.specs.Input.{Node, nodes_within}
use Rattle.readback.specs.Records.{record_bytes, records_bytes, holdable}
use Rattle.readback.specs.Rebuild.{Item, bits_in, side_in, joined, record_of, records_from}
use Rattle.rebuilt.specs.Layout.{length-records}
use Rattle.heap_laws.specs.Heap.{within}

-- ---------------------------------------------------------------- nodes after others

pub joined-append : (f : Item → List ℕ) (s t : List Item) → joined f (s ++ t) ≡ joined f s ++ joined f t
unfolding joined
joined-append f [] t = refl
joined-append f (x ∷ s) t = ap (λ (l : List ℕ). f x ++ l) (joined-append f s t) ∙ sym (append_assoc (f x) (joined f s) (joined f t))

pub joined_snoc : (f : Item → List ℕ) (s : List Item) (x : Item) → joined f (s ++ (x ∷ [])) ≡ joined f s ++ f x
unfolding joined
joined_snoc f s x = joined-append f s (x ∷ []) ∙ ap (λ (l : List ℕ). joined f s ++ l) (append-nil (f x))

records-append : (s t : List Item) (b c : ℕ)
    → records_from b c (s ++ t) ≡ records_from b c s ++ records_from (b + length (joined bits_in s)) (c + length (joined side_in s)) t
unfolding records_from joined
records-append [] t b c =
    let m : b + 0 ≡ b = omega arith in
    let n : c + 0 ≡ c = omega arith in
    λ i. records_from (sym m i) (sym n i) t
records-append (x ∷ s) t b c =
    let m : b + length (bits_in x) + length (joined bits_in s) ≡ b + length (bits_in x ++ joined bits_in s) = omega (arith, length-append (bits_in x) (joined bits_in s)) in
    let n : c + length (side_in x) + length (joined side_in s) ≡ c + length (side_in x ++ joined side_in s) = omega (arith, length-append (side_in x) (joined side_in s)) in
    let rest : List Node = records_from (b + length (bits_in x)) (c + length (side_in x)) s in
    ap (λ (l : List Node). record_of b c x ∷ l) (records-append s t (b + length (bits_in x)) (c + length (side_in x)) ∙ (λ i. rest ++ records_from (m i) (n i) t))

-- one more node
pub records-snoc : (s : List Item) (x : Item)
    → records_from 0 0 (s ++ (x ∷ [])) ≡ records_from 0 0 s ++ (record_of (length (joined bits_in s)) (length (joined side_in s)) x ∷ [])
unfolding records_from
records-snoc s x =
    let m : 0 + length (joined bits_in s) ≡ length (joined bits_in s) = omega arith in
    let n : 0 + length (joined side_in s) ≡ length (joined side_in s) = omega arith in
    records-append s (x ∷ []) 0 0 ∙ (λ i. records_from 0 0 s ++ (record_of (m i) (n i) x ∷ []))

bytes-append : (ms ns : List Node) → records_bytes (ms ++ ns) ≡ records_bytes ms ++ records_bytes ns
unfolding records_bytes
bytes-append [] ns = refl
bytes-append (m ∷ ms) ns = ap (λ (l : List ℕ). record_bytes m ++ l) (bytes-append ms ns) ∙ sym (append_assoc (record_bytes m) (records_bytes ms) (records_bytes ns))

pub bytes-snoc : (s : List Item) (x : Item)
    → records_bytes (records_from 0 0 (s ++ (x ∷ []))) ≡ records_bytes (records_from 0 0 s) ++ record_bytes (record_of (length (joined bits_in s)) (length (joined side_in s)) x)
unfolding records_bytes
bytes-snoc s x =
    let n : Node = record_of (length (joined bits_in s)) (length (joined side_in s)) x in
    ap records_bytes (records-snoc s x) ∙ bytes-append (records_from 0 0 s) (n ∷ []) ∙ ap (λ (l : List ℕ). records_bytes (records_from 0 0 s) ++ l) (append-nil (record_bytes n))

pub record-long : (n : Node) → length (record_bytes n) ≡ 17
unfolding record_bytes
record-long n = refl

length-bytes : (ns : List Node) → length (records_bytes ns) ≡ 17 * length ns
unfolding records_bytes
length-bytes [] = refl
length-bytes (n ∷ ns) =
    let a = length-bytes ns in
    let b = length-append (record_bytes n) (records_bytes ns) in
    let c = record-long n in
    omega arith

pub length-all : (s : List Item) → length (records_bytes (records_from 0 0 s)) ≡ 17 * length s
length-all s = length-bytes (records_from 0 0 s) ∙ ap (λ (n : ℕ). 17 * n) (length-records s 0 0)

-- ---------------------------------------------------------------- limits

-- what `within` tests
pub record Within (s : List Item) : Type 0 where
  pub nodes : length s ≤ 2048
  pub bits : length (joined bits_in s) ≤ 131072
  pub side : length (joined side_in s) ≤ 8192
  pub held : T (every holdable (records_from 0 0 s))

pub within-parts : (s : List Item) → T (within s) → Within s
unfolding within nodes_within
within-parts s h =
    let ns : List Node = records_from 0 0 s in
    let k = and-1 (every holdable ns) _ h in
    let b = and-1 (leb (length (records_bytes ns)) 34816) _ k in
    let n : length (records_bytes ns) ≤ 34816 = leb→le (length (records_bytes ns)) 34816 (and_0 (leb (length (records_bytes ns)) 34816) _ k) in
    record {
      nodes = omega (arith, length-all s);
      bits = leb→le (length (joined bits_in s)) 131072 (and_0 (leb (length (joined bits_in s)) 131072) _ b);
      side = leb→le (length (joined side_in s)) 8192 (and-1 (leb (length (joined bits_in s)) 131072) _ b);
      held = and_0 (every holdable ns) _ h;
    }

pub within_all : (s : List Item) → Within s → T (within s)
unfolding within nodes_within
within_all s w =
    let ns : List Node = records_from 0 0 s in
    and_T (every holdable ns) _ w.held
    (and_T (leb (length (records_bytes ns)) 34816) _ (le→leb (length (records_bytes ns)) 34816 (omega (arith, length-all s, w.nodes)))
    (and_T (leb (length (joined bits_in s)) 131072) _ (le→leb (length (joined bits_in s)) 131072 w.bits) (le→leb (length (joined side_in s)) 8192 w.side)))

-- nodes that pass no limit, however that is known
pub over_by : (s : List Item) → (Within s → ⊥) → within s ≡ false
over_by s f = no→false (within s) (λ h. f (within-parts s h))

pub within-grows : (s t : List Item) → Grows s t → T (within t) → T (within s)
within-grows s t (r, e) h =
    let w : Within (s ++ r) = within-parts (s ++ r) (subst (λ (u : List Item). T (within u)) e h) in
    let n = length-append s r in
    let b : length (joined bits_in (s ++ r)) ≡ length (joined bits_in s) + length (joined bits_in r) = ap length (joined-append bits_in s r) ∙ length-append (joined bits_in s) (joined bits_in r) in
    let d : length (joined side_in (s ++ r)) ≡ length (joined side_in s) + length (joined side_in r) = ap length (joined-append side_in s r) ∙ length-append (joined side_in s) (joined side_in r) in
    let more : List Node = records_from (0 + length (joined bits_in s)) (0 + length (joined side_in s)) r in
    let q : every holdable (records_from 0 0 (s ++ r)) ≡ (every holdable (records_from 0 0 s) && every holdable more) =
    ap (every holdable) (records-append s r 0 0) ∙ every_append holdable (records_from 0 0 s) more in
    within_all s (record {
      nodes = omega (arith, w.nodes);
      bits = omega (arith, w.bits);
      side = omega (arith, w.side);
      held = and_0 (every holdable (records_from 0 0 s)) (every holdable more) (subst T q w.held);
    })

pub over-grows : (s t : List Item) → Grows s t → within s ≡ false → within t ≡ false
over-grows s t g e = no→false (within t) (λ h. subst T e (within-grows s t g h))

-- ---------------------------------------------------------------- one more node

module _ (s : List Item) (x : Item) where
  -- its record, after the bits and side entries of those before it
  abbrev new_record : Node
  new_record = record_of (length (joined bits_in s)) (length (joined side_in s)) x

  bits-snoc : length (joined bits_in (s ++ (x ∷ []))) ≡ length (joined bits_in s) + length (bits_in x)
  bits-snoc = ap length (joined_snoc bits_in s x) ∙ length-append (joined bits_in s) (bits_in x)

  side-snoc : length (joined side_in (s ++ (x ∷ []))) ≡ length (joined side_in s) + length (side_in x)
  side-snoc = ap length (joined_snoc side_in s x) ∙ length-append (joined side_in s) (side_in x)

  held-snoc : every holdable (records_from 0 0 (s ++ (x ∷ []))) ≡ (every holdable (records_from 0 0 s) && every holdable (new_record ∷ []))
  held-snoc = ap (every holdable) (records-snoc s x) ∙ every_append holdable (records_from 0 0 s) (new_record ∷ [])

  pub within-snoc : T (within s) → length s < 2048 → length (joined bits_in s) + length (bits_in x) ≤ 131072 → length (joined side_in s) + length (side_in x) ≤ 8192 → T (holdable new_record)
      → T (within (s ++ (x ∷ [])))
  within-snoc h n b c r =
      let w = within-parts s h in
      let l = length-append s (x ∷ []) in
      within_all (s ++ (x ∷ [])) (record {
        nodes = omega arith;
        bits = omega (arith, bits-snoc);
        side = omega (arith, side-snoc);
        held = subst T (sym held-snoc) (and_T (every holdable (records_from 0 0 s)) _ w.held (and_T (holdable new_record) true r tt));
      })

  -- the ways to be over a limit
  pub over-nodes : 2048 ≤ length s → within (s ++ (x ∷ [])) ≡ false
  over-nodes n = over_by (s ++ (x ∷ [])) (λ w. omega (arith, w.nodes, length-append s (x ∷ [])))

  pub over-bits : 131072 < length (joined bits_in s) + length (bits_in x) → within (s ++ (x ∷ [])) ≡ false
  over-bits n = over_by (s ++ (x ∷ [])) (λ w. omega (arith, w.bits, bits-snoc))

  pub over-side : 8192 < length (joined side_in s) + length (side_in x) → within (s ++ (x ∷ [])) ≡ false
  over-side n = over_by (s ++ (x ∷ [])) (λ w. omega (arith, w.side, side-snoc))

  pub over-record : holdable new_record ≡ false → within (s ++ (x ∷ [])) ≡ false
  over-record e = over_by (s ++ (x ∷ [])) (λ w.
      subst T e (and_0 (holdable new_record) true (and-1 (every holdable (records_from 0 0 s)) _ (subst T held-snoc w.held))))
