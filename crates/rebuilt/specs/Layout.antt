-- Laws of the layout: where a node's bits and side entries lie, and what its record is; and the names in their arena.
use Rattle.std.specs.Prelude.{ℕ, zero, suc, ◌+◌, ◌≤◌, ◌<◌, ◌≡◌, refl, List, [], ◌∷◌, ◌++◌, map, Bool, true, false, T, leb, length, get_or, take, drop}
use Rattle.std.proofs.Common.{ap, sym, ◌∙◌, subst, append_assoc, append-nil, arith, le→leb, length-append, drop_at}
use Rattle.std.proofs.Math.Option.{Option, none, some}
use Rattle.std.proofs.Math.ListN.{get_elem?}
use Rattle.std.proofs.Math.Seq.{take-append_seam, drop-append_seam}
use Rattle.lists.specs.Tests.{T→true}
use Rattle.lists.specs.Build.{tabulate}
use Rattle.reading.specs.Trees.{Name}
use Rattle.echo_spec.specs.Input.{Node, no_node, part, names_of}
use Rattle.readback.specs.Rebuild.{Item, bits_in, side_in, joined, record_of, records_from, starts_counted_from, count_from, arena}

pub record Laid (b c : ℕ) (s : List Item) (i : ℕ) (x : Item) : Type 0 where
  pub bits_before : List ℕ
  pub bits_after : List ℕ
  pub side_before : List ℕ
  pub side_after : List ℕ
  pub bits_split : joined bits_in s ≡ bits_before ++ (bits_in x ++ bits_after)
  pub side_split : joined side_in s ≡ side_before ++ (side_in x ++ side_after)
  pub node : get_or (records_from b c s) i no_node ≡ record_of (b + length bits_before) (c + length side_before) x

pub laid : (s : List Item) (i : ℕ) (x : Item) → get_elem? s i ≡ some x → (b c : ℕ) → Laid b c s i x
unfolding joined records_from
laid [] i x e b c = absurd (let z : ◌≡◌ {A = ℕ} 0 1 = cc in omega arith)
laid (y ∷ s) zero x e b c =
    let q : y ≡ x = cc in
    let m : b + 0 ≡ b = omega arith in
    let n : c + 0 ≡ c = omega arith in
    record {
      bits_before = [];
      bits_after = joined bits_in s;
      side_before = [];
      side_after = joined side_in s;
      bits_split = rw q;
      side_split = rw q;
      node = rw (q, m, n);
    }
laid (y ∷ s) (suc i) x e b c =
    let l = laid s i x e (b + length (bits_in y)) (c + length (side_in y)) in
    let m : b + length (bits_in y) + length l.bits_before ≡ b + length (bits_in y ++ l.bits_before) = rw (length-append (bits_in y) l.bits_before) (omega arith) in
    let n : c + length (side_in y) + length l.side_before ≡ c + length (side_in y ++ l.side_before) = rw (length-append (side_in y) l.side_before) (omega arith) in
    record {
      bits_before = bits_in y ++ l.bits_before;
      bits_after = l.bits_after;
      side_before = side_in y ++ l.side_before;
      side_after = l.side_after;
      bits_split = ap (λ (r : List ℕ). bits_in y ++ r) l.bits_split ∙ sym (append_assoc (bits_in y) l.bits_before (bits_in x ++ l.bits_after));
      side_split = ap (λ (r : List ℕ). side_in y ++ r) l.side_split ∙ sym (append_assoc (side_in y) l.side_before (side_in x ++ l.side_after));
      node = l.node ∙ ap (λ (k : ℕ). record_of k (c + length (side_in y) + length l.side_before) x) m ∙ ap (λ (k : ℕ). record_of (b + length (bits_in y ++ l.bits_before)) k x) n;
    }

pub length-records : (s : List Item) (b c : ℕ) → length (records_from b c s) ≡ length s
unfolding records_from
length-records [] b c = refl
length-records (x ∷ s) b c = ap suc (length-records s (b + length (bits_in x)) (c + length (side_in x)))

-- ---------------------------------------------------------------- names

names-from : (ns : List Name) (pre : List ℕ)
    → tabulate (length (starts_counted_from (length pre) ns)) (λ k. part (pre ++ arena ns) (get_or (starts_counted_from (length pre) ns) k 0) (get_or (map length ns) k 0)) ≡ ns
unfolding starts_counted_from arena part
names-from [] pre = refl
names-from (n ∷ ns) pre =
    let rest : List ℕ = arena ns in
    let l : length (pre ++ (n ++ rest)) ≡ length pre + (length n + length rest) = length-append pre (n ++ rest) ∙ ap (λ (k : ℕ). length pre + k) (length-append n rest) in
    let inside : leb (length pre + length n) (length (pre ++ (n ++ rest))) ≡ true = T→true (leb (length pre + length n) (length (pre ++ (n ++ rest)))) (le→leb (length pre + length n) (length (pre ++ (n ++ rest))) (omega arith)) in
    let first : part (pre ++ (n ++ rest)) (length pre) (length n) ≡ n = rw (inside, part) (ap (take (length n)) (drop-append_seam pre (n ++ rest)) ∙ take-append_seam n rest) in
    let ih = names-from ns (pre ++ n) in
    let ih' : tabulate (length (starts_counted_from (length pre + length n) ns)) (λ k. part (pre ++ (n ++ rest)) (get_or (starts_counted_from (length pre + length n) ns) k 0) (get_or (map length ns) k 0)) ≡ ns = rw (length-append pre n, append_assoc pre n rest) at ih in
    λ i. first i ∷ ih' i

pub names-back : (ns : List Name) → names_of (arena ns) (starts_counted_from 0 ns) (map length ns) ≡ ns
unfolding names_of
names-back ns = names-from ns []

pub length-starts : (k : ℕ) (ns : List Name) → length (starts_counted_from k ns) ≡ length ns
unfolding starts_counted_from
length-starts k [] = refl
length-starts k (n ∷ ns) = ap suc (length-starts (k + length n) ns)

pub length-count : (k n : ℕ) → length (count_from k n) ≡ n
unfolding count_from
length-count k zero = refl
length-count k (suc n) = ap suc (length-count (suc k) n)
