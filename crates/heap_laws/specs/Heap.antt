-- The nodes that are rebuilt so far, as the arrays of `Heap` hold them.
use Rattle.std.specs.Prelude.{ℕ, zero, suc, ◌+◌, ◌*◌, ◌-◌, ◌/◌, ◌%◌, ◌≤◌, ◌<◌, ◌≡◌, List, [], ◌∷◌, map, Bool, true, false, ◌&&◌, T, eqb, ltb, length, take, drop, get_or, Option, Some, None}
use Rattle.std.proofs.Math.Option.{some}
use Rattle.std.proofs.Math.ListN.{get_elem?}
use Rattle.lists.specs.Tests.{every}
use Rattle.smtlib.specs.Readings.{bits_of}
use Rattle.echo_spec.specs.Input.{nodes_within}
use Rattle.readback.specs.Reader.{up_to}
use Rattle.readback.specs.Records.{records_bytes, holdable}
use Rattle.readback.specs.Rebuild.{
  Pair,
  Item,
  a_constant,
  find_constant,
  Ref,
  here,
  pending,
  node_of,
  bits_in,
  side_in,
  joined,
  records_from,
}
use Rattle.script_tokens.specs.Reached.{between, ends_digits}
use Rattle.heap_laws.specs.declared.TheConstants.{NODES, BITS, SIDE, STACK}
use Rattle.heap_laws.specs.declared.Constant.{Constant}
use Rattle.heap_laws.specs.declared.Heap.{Heap}

-- ---------------------------------------------------------------- limits

-- the nodes keep to their limits, and a record can hold each
unfoldable pub within : List Item → Bool
within s = every holdable (records_from 0 0 s) && nodes_within (records_bytes (records_from 0 0 s)) (joined bits_in s) (joined side_in s)

-- ---------------------------------------------------------------- the arrays

-- operands that wait for the term around them to end
abbrev pub stack_size : ℕ
stack_size = STACK

abbrev pub side_size : ℕ
side_size = SIDE

abbrev pub nodes_size : ℕ
nodes_size = NODES

-- half of it for the bits, half for a constant that may be new
abbrev pub bits_size : ℕ
bits_size = BITS

-- what is known of a constant, by its node
abbrev pub constant_at : List Constant → ℕ → Constant
constant_at cs i = get_or cs i (record { start = 0; width = 0; before = None })

-- one more than the node that is told, or 0
abbrev pub past : Option ℕ → ℕ
past None = 0
past (Some k) = k + 1

-- ---------------------------------------------------------------- hashes of constants

-- the number goes on over the bits, as far as 64 bits hold it
unfoldable pub hash_from : ℕ → List ℕ → ℕ
hash_from h [] = h
hash_from h (b ∷ bs) = hash_from ((h * 2 + b) % 18446744073709551616) bs

-- by the lowest 48 bits and the width
unfoldable pub hash_of : List ℕ → ℕ
hash_of bs = (hash_from 0 (take 48 bs) + length bs) % 4093

-- c is 0 or one more than a place, and no constant with hash h stands from there on up to place i
pub record Latest (h : ℕ) (s : List Item) (i c : ℕ) : Type 0 where
  pub all : (j : ℕ) (bs : List ℕ) → j < i → get_elem? s j ≡ some (a_constant bs) → hash_of bs ≡ h → j < c
  pub own : (k : ℕ) → c ≡ k + 1 → (k < i) × (bs : List ℕ) × (get_elem? s k ≡ some (a_constant bs)) × (hash_of bs ≡ h)

-- ---------------------------------------------------------------- what the arrays hold

-- node i is the constant bs
pub record Kept (cs : List Constant) (s : List Item) (i : ℕ) (bs : List ℕ) : Type 0 where
  pub end : (constant_at cs i).start + length bs ≤ length (joined bits_in s)
  pub size : (constant_at cs i).width ≡ length bs
  pub bits : take (length bs) (drop (constant_at cs i).start (joined bits_in s)) ≡ bs
  pub chain : Latest (hash_of bs) s i (past (constant_at cs i).before)
  pub first : find_constant bs s ≡ some i

pub record Held (heap : Heap) (s : List Item) : Type 0 where
  pub side_long : length heap.side ≡ side_size
  pub constants_long : length heap.constants ≡ 2048
  pub heads_long : length heap.heads ≡ 4096
  pub stack_long : length heap.stack ≡ stack_size
  pub nodes_long : length heap.records ≡ nodes_size
  pub bits-long : length heap.bits ≡ bits_size
  pub inside : T (within s)
  pub count : heap.count ≡ length s
  pub bit_count : heap.bit_count ≡ length (joined bits_in s)
  pub side_count : heap.side_count ≡ length (joined side_in s)
  pub records : take (17 * length s) heap.records ≡ records_bytes (records_from 0 0 s)
  pub bits_held : take (length (joined bits_in s)) heap.bits ≡ joined bits_in s
  pub side_held : take (length (joined side_in s)) heap.side ≡ joined side_in s
  pub constants : (i : ℕ) (bs : List ℕ) → get_elem? s i ≡ some (a_constant bs) → Kept heap.constants s i bs
  pub heads : (h : ℕ) → h < 4096 → Latest h s (length s) (past (get_or heap.heads h None))

-- ---------------------------------------------------------------- operands that wait

-- the bits of the constant whose digits begin at place p
unfoldable pub bits_at : List ℕ → ℕ → List ℕ
bits_at s p = bits_of (up_to ends_digits (drop p s)).value

-- the bits of the digits that a number has: from place x modulo 2^44 on, x by 2^44 of them
unfoldable pub bits_spanned : List ℕ → ℕ → List ℕ
bits_spanned s x = bits_of (between s (x % 17592186044416) (x % 17592186044416 + x / 17592186044416))

-- 2 i is node i, 2 p + 1 a constant with its digits at place p of the script, wherever they end; from 2^63 on, 2 (2^62 + x) a constant whose digits x has
unfoldable pub ref_at : List ℕ → ℕ → Ref
ref_at s c =
    elim (eqb (c % 2) 0) [
      | true ↦ elim (ltb (c / 2) 4611686018427387904) [ true ↦ here (c / 2) | false ↦ pending (bits_spanned s (c / 2 - 4611686018427387904)) ]
      | false ↦ pending (bits_at s (c / 2))
    ]

-- the operands that wait, the first at the bottom
pub record Stacked (script : List ℕ) (heap : Heap) (refs : List Ref) : Type 0 where
  pub room : length refs ≤ stack_size
  pub top : heap.top ≡ length refs
  pub held : map (ref_at script) (take (length refs) heap.stack) ≡ refs

-- the constants among operands, in their order
unfoldable pub pending_in : List Ref → List (List ℕ)
pending_in [] = []
pending_in (here i ∷ rs) = pending_in rs
pending_in (pending bs ∷ rs) = bs ∷ pending_in rs

-- operands once the constants among them have their nodes
abbrev pub settled : List Item → List Ref → List Ref
settled s rs = map (λ r. here (node_of s r)) rs

-- the numbers of nodes that wait
abbrev pub halves : List ℕ → List ℕ
halves l = map (λ c. c / 2) l

-- the first n pairs, the last of them first
unfoldable pub pairs_back : ℕ → List ℕ → List (Pair ℕ)
pairs_back zero l = []
pairs_back (suc n) l = record { index = get_or l (2 * n) 0; value = get_or l (2 * n + 1) 0 } ∷ pairs_back n l
