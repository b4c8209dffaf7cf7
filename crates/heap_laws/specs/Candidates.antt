-- A constant that may be new, behind the bits in use: its hash, its comparison with a constant that has a node, its bits from digits and
-- from a number. Assumes nothing.
use Prim.Native.Nat.{ℕ, zero, suc, ◌+◌, ◌*◌, ◌-◌, ◌/◌, ◌%◌, ◌≤◌, ◌<◌, min}
use Rattle.std.specs.Prelude.{◌≡◌, refl, drop, get_or, set}
use Rattle.std.proofs.Math.Path.{ap, sym}
use Rattle.std.proofs.Common.{◌∙◌, arith, add-one, length-append, length-drop, length-take-le, take_all, take-suc-set, drop-cons, drop_of_length-le, get_or-take, get_or-drop, ext_get_or}
use mathlib.Core.List.{List, [], ◌∷◌, ◌++◌, append_assoc, append-nil}
use borrow.Rule.Slice.PartMut.{put_mid}
use lib.Seq.{drop-drop}
use Rattle.std.proofs.Math.Option.{some}
use Rattle.std.proofs.Math.ListN.{length, take, get_elem?}
use Rattle.lists.specs.Places.{at_less}
use Rattle.smtlib.specs.Readings.{bits_of}
use Rattle.readback.specs.Reader.{up_to}
use Rattle.readback.specs.Rebuild.{Item, a_constant, low_bits, bits_in, joined}
use Rattle.script_tokens.specs.Reached.{between, ends_digits}
use Rattle.heap_laws.specs.Heap.{constant_at, hash_from, hash_of, bits_at, Held}
use Rattle.heap_laws.specs.declared.Heap.{Heap}
use Rattle.heap_laws.specs.Filled.{filled, filled_none, filled_more}
use Rattle.heap_laws.specs.Within.{within-parts}
use Rattle.heap_laws.specs.Adding.{by_equal}

-- ---------------------------------------------------------------- hashes

-- at each turn the hash so far goes on over the bits that are left
pub hash-more : (l : List ℕ) (h i : ℕ) → i < length l → hash_from ((h * 2 + get_or l i 0) % 18446744073709551616) (drop (i + 1) l) ≡ hash_from h (drop i l)
unfolding hash_from
hash-more l h i k =
    ap (λ (n : ℕ). hash_from ((h * 2 + get_or l i 0) % 18446744073709551616) (drop n l)) (add-one i) ∙ sym (ap (hash_from h) (drop-cons l i 0 k))

pub hash-end : (l : List ℕ) (h i : ℕ) → length l ≤ i → hash_from h (drop i l) ≡ h
unfolding hash_from
hash-end l h i k = ap (hash_from h) (drop_of_length-le l k)

-- the first 48 of them, or all
take-lowest : (l : List ℕ) (n : ℕ) → n ≡ min (length l) 48 → take n l ≡ take 48 l
take-lowest l n e = by_equal n 48 (λ z. ap (λ (k : ℕ). take k l) z) (λ z. take_all n l (omega arith) ∙ sym (take_all 48 l (omega arith)))

pub hash-lowest : (l : List ℕ) (n : ℕ) {h : ℕ} → n ≡ min (length l) 48 → h ≡ hash_from 0 (take n l) → (h + length l) % 4093 ≡ hash_of l
unfolding hash_of
hash-lowest l n z e = (λ i. (e i + length l) % 4093) ∙ ap (λ (q : List ℕ). (hash_from 0 q + length l) % 4093) (take-lowest l n z)

-- a part of the bits
part-long : (l : List ℕ) (at w : ℕ) → at + w ≤ length l → length (take w (drop at l)) ≡ w
part-long l at w long = length-take-le w (drop at l) (omega (arith, length-drop at l))

pub part_at : (l : List ℕ) (at w : ℕ) → take (at + w - at) (drop at l) ≡ take w (drop at l)
part_at l at w =
    let e : at + w - at ≡ w = omega arith in
    ap (λ (n : ℕ). take n (drop at l)) e

-- ---------------------------------------------------------------- a constant's bits

module _ {heap : Heap} {s : List Item} (h : Held heap s) (k : ℕ) (ds : List ℕ) (e : get_elem? s k ≡ some (a_constant ds)) where
  pub node-small : k < 2048
  node-small = omega (arith, at_less s k (a_constant ds) e, (within-parts s h.inside).nodes)

  pub start_small : (constant_at heap.constants k).start + length ds ≤ 131072
  start_small = omega (arith, (h.constants k ds e).end, (within-parts s h.inside).bits)

  pub length-is : (constant_at heap.constants k).width ≡ length ds
  length-is = (h.constants k ds e).size

  -- its bits stand where its cells say
  pub bits_are : take (length ds) (drop (constant_at heap.constants k).start heap.bits) ≡ ds
  bits_are =
      let p : ℕ = (constant_at heap.constants k).start in
      let n : ℕ = length (joined bits_in s) in
      let m : p + length ds ≤ n = (h.constants k ds e).end in
      let c : n ≤ length heap.bits = omega (arith, h.bits-long, (within-parts s h.inside).bits) in
      sym (front heap.bits n p (length ds) c m) ∙ ap (λ (y : List ℕ). take (length ds) (drop p y)) h.bits_held ∙ (h.constants k ds e).bits
    where
      front : (l : List ℕ) (n p w : ℕ) → n ≤ length l → p + w ≤ n → take w (drop p (take n l)) ≡ take w (drop p l)
      front l n p w c m =
          let a : p + w ≤ length (take n l) = omega (arith, length-take-le n l c) in
          ext_get_or 0 (take w (drop p (take n l))) (take w (drop p l)) (part-long (take n l) p w a ∙ sym (part-long l p w (omega arith))) (λ i g. at i (omega (arith, part-long (take n l) p w a)))
        where
          at : (i : ℕ) → i < w → get_or (take w (drop p (take n l))) i 0 ≡ get_or (take w (drop p l)) i 0
          at i g =
              get_or-take w (drop p (take n l)) i 0 g ∙ get_or-drop p (take n l) i 0 ∙ get_or-take n l (p + i) 0 (omega arith) ∙ sym (get_or-drop p l i 0) ∙ sym (get_or-take w (drop p l) i 0 g)

-- ---------------------------------------------------------------- bits from digits

length-bits : (ds : List ℕ) → length (bits_of ds) ≡ length ds
length-bits [] = refl
length-bits (c ∷ ds) =
    let a = length-bits ds in
    let b = length-append (bits_of ds) ((c - 48) ∷ []) in
    omega arith

-- one digit before the last i
one-longer : (e i : ℕ) → i < e → e - (e - 1 - i) ≡ suc (e - (e - i))
one-longer e i l =
    let a : e - (e - i) ≡ i = omega arith in
    let b : e - (e - 1 - i) ≡ i + 1 = omega arith in
    b ∙ add-one i ∙ ap suc (sym a)

one-before : (e i : ℕ) → i < e → suc (e - 1 - i) ≡ e - i
one-before e i l = omega arith

one_less : (e i : ℕ) → e - (i + 1) ≡ e - 1 - i
one_less e i = omega arith

last-inside : (e i n : ℕ) → i < e → e ≤ n → e - 1 - i < n
last-inside e i n l h = omega arith

less-all : (e p i : ℕ) → i < e - p → i < e
less-all e p i l = omega arith

from_end : (e p i : ℕ) → p ≤ e → i < e - p → p + (e - p - 1 - i) ≡ e - 1 - i
from_end e p i k l = omega arith

module _ (script bits : List ℕ) (at p e : ℕ) (low : p ≤ e) (high : e ≤ length script) (long : at + (e - p) ≤ length bits) where
  between-long : (i : ℕ) → i ≤ e → length (bits_of (between script (e - i) e)) ≡ i
  between-long i l =
      let a : e - (e - i) ≡ i = omega arith in
      length-bits (between script (e - i) e) ∙ ap (λ (n : ℕ). length (take n (drop (e - i) script))) a ∙ length-take-le i (drop (e - i) script) (omega (arith, length-drop (e - i) script))

  pub digits_more : (i : ℕ) {bits' : List ℕ} → i < e - p → bits' ≡ filled bits at (bits_of (between script (e - i) e))
      → set bits' (at + i) (get_or script (p + (e - p - 1 - i)) 0 - 48) ≡ filled bits at (bits_of (between script (e - (i + 1)) e))
  digits_more i {bits'} l f =
      let y : p + (e - p - 1 - i) ≡ e - 1 - i = from_end e p i low l in
      let v : ℕ = get_or script (e - 1 - i) 0 - 48 in
      let xs : List ℕ = bits_of (between script (e - i) e) in
      let n : length xs ≡ i = between-long i (native.Mathlib.Nat.le_of_lt (less-all e p i l)) in
      let z : at + i ≡ at + length xs = omega arith in
      let q : e - (i + 1) ≡ e - 1 - i = one_less e i in
      let a : e - (e - 1 - i) ≡ suc (e - (e - i)) = one-longer e i (less-all e p i l) in
      let b : suc (e - 1 - i) ≡ e - i = one-before e i (less-all e p i l) in
      let opened : between script (e - (i + 1)) e ≡ get_or script (e - 1 - i) 0 ∷ between script (e - i) e =
      (λ j. take (e - q j) (drop (q j) script)) ∙ (λ j. take (a j) (drop-cons script (e - 1 - i) 0 (last-inside e i (length script) (less-all e p i l) high) j)) ∙ ap (λ (k : ℕ). get_or script (e - 1 - i) 0 ∷ take (e - (e - i)) (drop k script)) b in
      (λ j. set (f j) (z j) (get_or script (y j) 0 - 48)) ∙ filled_more bits at xs v (omega arith) ∙ ap (λ (y : List ℕ). filled bits at (bits_of y)) (sym opened)

pub digits-all : (script bits : List ℕ) (at p e i : ℕ) {bits' : List ℕ} → p ≤ e → i ≡ e - p → bits' ≡ filled bits at (bits_of (between script (e - i) e)) → bits' ≡ filled bits at (bits_of (between script p e))
digits-all script bits at p e i l z f =
    let a : e - i ≡ p = omega arith in
    f ∙ ap (λ (k : ℕ). filled bits at (bits_of (between script k e))) a

pub digits-none : (script bits : List ℕ) (at e : ℕ) → bits ≡ filled bits at (bits_of (between script (e - 0) e))
digits-none script bits at e =
    let a : e - (e - 0) ≡ 0 = omega arith in
    sym (ap (λ (n : ℕ). filled bits at (bits_of (take n (drop (e - 0) script)))) a ∙ filled_none bits at)

-- how many bits digits have
pub bits-at-is : (script : List ℕ) (p e : ℕ) → (up_to ends_digits (drop p script)).value ≡ between script p e → bits_at script p ≡ bits_of (between script p e)
unfolding bits_at
bits-at-is script p e q = ap bits_of q

pub length-between : (script : List ℕ) (p e : ℕ) → (p < e → e ≤ length script) → length (bits_of (between script p e)) ≡ e - p
length-between script p e high = length-bits (between script p e) ∙ by_size (e - p) refl
  where
    by_size : (n : ℕ) → e - p ≡ n → length (between script p e) ≡ e - p
    by_size zero z = ap (λ (n : ℕ). length (take n (drop p script))) z ∙ sym z
    by_size (suc n) z = let l : e ≤ length script = high (omega arith) in length-take-le (e - p) (drop p script) (omega (arith, length-drop p script))

-- ---------------------------------------------------------------- bits from a number

-- one bit more, where v is left of the number
pub bits-next : (l : List ℕ) (w i v : ℕ) {xs : List ℕ} → i < w → i < length l → take i l ++ low_bits (w - i) v ≡ xs → take (i + 1) (set l i (v % 2)) ++ low_bits (w - (i + 1)) (v / 2) ≡ xs
unfolding low_bits
bits-next l w i v h k e =
    let a : take (i + 1) (set l i (v % 2)) ≡ take i l ++ (v % 2 ∷ []) = ap (λ (n : ℕ). take n (set l i (v % 2))) (add-one i) ∙ take-suc-set l i (v % 2) k in
    let z : w - i ≡ suc (w - (i + 1)) = omega arith in
    ap (λ (y : List ℕ). y ++ low_bits (w - (i + 1)) (v / 2)) a ∙ append_assoc (take i l) (v % 2 ∷ []) (low_bits (w - (i + 1)) (v / 2)) ∙ ap (λ (n : ℕ). take i l ++ low_bits n v) (sym z) ∙ e

pub bits-last : (l : List ℕ) (w i v : ℕ) {xs : List ℕ} → w ≤ i → length l ≤ i → take i l ++ low_bits (w - i) v ≡ xs → l ≡ xs
unfolding low_bits
bits-last l w i v h k e =
    let z : w - i ≡ 0 = omega arith in
    sym (append-nil l) ∙ ap (λ (y : List ℕ). y ++ low_bits 0 v) (sym (take_all i l k)) ∙ ap (λ (n : ℕ). take i l ++ low_bits n v) (sym z) ∙ e

-- a part of a list is another
pub put-filled : (l ys : List ℕ) (at k : ℕ) → k ≡ length ys → put_mid at k l ys ≡ filled l at ys
unfolding filled
put-filled l ys at k e = (λ i. take at l ++ (ys ++ drop (e i) (drop at l))) ∙ (λ i. take at l ++ (ys ++ drop-drop (length ys) at l i))
