-- What an addition to the nodes answers.
use Rattle.std.specs.Prelude.{ℕ, ◌+◌, ◌*◌, ◌≤◌, ◌<◌, ◌≡◌, List, [], ◌∷◌, ◌++◌, Bool, true, false, ◌⊎◌, T, length, take, drop, Option, Some, None, Result, Ok, Err, ⊤}
use Rattle.std.proofs.Math.Option as maybe
use Rattle.std.proofs.Math.Option.{none, some}
use Rattle.std.proofs.Math.ListN.{get_elem?}
use Rattle.echo_spec.specs.Input.{Node}
use Rattle.readback.specs.Reader.{up_to}
use Rattle.readback.specs.Records.{record_bytes, holdable}
use Rattle.readback.specs.Rebuild.{Item, a_constant, Ref, pending, node_of, with_constant, with_constants}
use Rattle.script_tokens.specs.Reached.{between, ends_digits}
use Rattle.heap_laws.specs.Heap.{within, stack_size, pending_in, settled, Held, Stacked}
use Rattle.heap_laws.specs.Filled.{filled}
use Rattle.heap_laws.specs.Entering.{entered}
use Rattle.heap_laws.specs.declared.Heap.{Heap}
use Rattle.heap_laws.specs.declared.OverLimit.{OverLimit}

-- some nodes are held
abbrev pub Holds : Heap → Type 0
Holds heap = (s : List Item) × Held heap s

-- the same but for the bits, whatever they are
abbrev pub HoldsNodes : Heap → Type 0
HoldsNodes heap = (bits : List ℕ) × Holds (record heap { bits = bits })

-- The nodes t are over a limit; or they are held, what was asked for is node k, and of the operands that wait the first n are left.
abbrev pub Told : Heap → Heap → ℕ → List Item → ℕ → Result ℕ OverLimit → Type 0
Told heap heap' n t k (Err _) = within t ≡ false
Told heap heap' n t k (Ok m) = (m ≡ k) × Held heap' t × (heap'.top ≡ n) × (heap'.stack ≡ heap.stack)

-- The constant has its node, and those that wait are as they were.
abbrev pub ConstantTold : Heap → Heap → List ℕ → List Item → Result ℕ OverLimit → Type 0
ConstantTold heap heap' bs s r = Told heap heap' heap.top (with_constant bs s) (node_of (with_constant bs s) (pending bs)) r

-- The operand has its node, and those that wait are as they were.
abbrev pub RefTold : Heap → Heap → Ref → List Item → Result ℕ OverLimit → Type 0
RefTold heap heap' x s r = Told heap heap' heap.top (with_constants (pending_in (x ∷ [])) s) (node_of (with_constants (pending_in (x ∷ [])) s) x) r

-- it is the number of a node, as an operand
abbrev pub Half : Result ℕ OverLimit → Type 0
Half (Err _) = Unit
Half (Ok m) = m < 4611686018427387904

-- The record is written and counted; or it is one too many, or cannot be written.
abbrev pub Recorded : Heap → Heap → Node → Result ℕ OverLimit → Type 0
Recorded heap heap' n (Err _) = (2048 ≤ heap.count) ⊎ (holdable n ≡ false)
Recorded heap heap' n (Ok m) =
    (m ≡ heap.count) × (heap.count < 2048) × T (holdable n)
    × (heap' ≡ record heap { count = heap.count + 1; records = filled heap.records (17 * heap.count) (record_bytes n) })

-- the record of a constant, of the bits behind those in use
abbrev pub constant_record : Heap → ℕ → Node
constant_record heap w = record { kind = 1; a = heap.bit_count; b = w; c = 0; d = 0 }

-- The constant is entered; or its record is one too many, or cannot be written.
abbrev pub Entered : Heap → Heap → ℕ → ℕ → Result ℕ OverLimit → Type 0
Entered heap heap' j w (Err _) = (2048 ≤ heap.count) ⊎ (holdable (constant_record heap w) ≡ false)
Entered heap heap' j w (Ok m) =
    (m ≡ heap.count) × (heap.count < 2048) × T (holdable (constant_record heap w)) × (heap' ≡ entered heap j w (constant_record heap w))

-- An operand more waits; or there is no room for it.
abbrev pub Pushed : List ℕ → Heap → List Ref → Ref → Result ⊤ OverLimit → Type 0
Pushed script heap' refs r (Ok _) = Stacked script heap' (refs ++ (r ∷ []))
Pushed script heap' refs r (Err _) = length refs ≡ stack_size

-- No record is stored, and no bit.
abbrev pub SameStores : Heap → Heap → Type 0
SameStores heap heap' = (heap'.records ≡ heap.records) × (heap'.bits ≡ heap.bits)

-- The same nodes are held, whatever records and bits are.
abbrev pub StillHeld : Heap → Heap → Type 0
StillHeld heap heap' = (records bits : List ℕ) (s : List Item) → Held (record heap { records = records; bits = bits }) s → Held (record heap' { records = records; bits = bits }) s

-- The operand waits last of a script's, whatever records and bits are; or there is no room for it.
abbrev pub Waits : List ℕ → Heap → Heap → Ref → Result ⊤ OverLimit → Type 0
Waits script heap heap' x r =
    (records bits : List ℕ) (s : List Item) (refs : List Ref) → Held (record heap { records = records; bits = bits }) s → Stacked script heap refs → Pushed script heap' refs x r

-- The constants among the operands from place `base` on have their nodes, and so has each operand; or the nodes are over a limit.
abbrev pub AllTold : List ℕ → Heap → ℕ → List Item → List Ref → Result ⊤ OverLimit → Type 0
AllTold script heap' base s refs (Err _) = within (with_constants (pending_in (drop base refs)) s) ≡ false
AllTold script heap' base s refs (Ok _) =
    Held heap' (with_constants (pending_in (drop base refs)) s)
    × Stacked script heap' (take base refs ++ settled (with_constants (pending_in (drop base refs)) s) (drop base refs))

-- the two lists are one
abbrev pub Compared : List ℕ → List ℕ → Bool → Type 0
Compared xs ys true = xs ≡ ys
Compared xs ys false = xs ≡ ys → ⊥

-- the digits from place p on end before place e
pub record DigitsTo (script : List ℕ) (p e : ℕ) : Type 0 where
  pub low : p ≤ e
  pub high : p < e → e ≤ length script
  pub read : (up_to ends_digits (drop p script)).value ≡ between script p e

-- node k is a constant of some nodes that are held
abbrev pub ConstantAt : Heap → ℕ → Type 0
ConstantAt heap k = (s : List Item) × (ds : List ℕ) × Held heap s × (get_elem? s k ≡ some (a_constant ds))

-- a place that is found, as code has it
abbrev pub found_as : maybe.Option ℕ → Option ℕ
found_as none = None
found_as (some k) = Some k
