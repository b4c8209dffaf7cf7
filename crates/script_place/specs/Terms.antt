-- A term at a place of a script, the nodes so far, and what placing the term answers.
use Rattle.std.specs.Prelude.{ℕ, ◌+◌, ◌*◌, ◌-◌, ◌≤◌, ◌<◌, ◌≡◌, List, [], ◌∷◌, ◌++◌, length, drop, Result, Ok, Err, Option as Maybe, Some, None, ⊤}
use Rattle.std.proofs.Math.Option.{Option, some}
use Rattle.reading.specs.Trees.{Tree, none as noTrees, Declarations}
use Rattle.echo_spec.specs.TreeSorts.{TreeSort, width_of, tree_sort}
use Rattle.readback.specs.Rebuild.{Item, Ref, here, pending, Put, put}
use Rattle.readback.specs.Reader.{took, read_term}
use Rattle.smtlib.specs.Readings.{bits_of}
use Rattle.script_tokens.specs.Reached.{between}
use Rattle.heap_laws.specs.Heap.{stack_size, bits_at, Held, Stacked}
use Rattle.heap_laws.specs.declared.Heap.{Heap}
use Rattle.heap_laws.specs.declared.OverLimit.{OverLimit}
use Rattle.place_laws.specs.Operands.{operands_of}
use Rattle.place_laws.specs.Room.{Room}
use Rattle.place_laws.specs.SoFar.{SoFar}
use Rattle.script_entries.specs.Entries.{Known}
use Rattle.script_heads.specs.declared.Head.{Head}
use Rattle.script_heads.specs.declared.Head.TheVariants.{Constant, Variable, Nullary, Operator, Call, Select}
use Rattle.script_heads.specs.Heads.{HeadAt}
use Rattle.script_terms.specs.States.{SortAt}
use Rattle.script_names.specs.declared.Table.{Table}
use Rattle.script_header.specs.declared.Header.{Header}
use Rattle.script_ends.specs.declared.Seen.{Seen}
use Rattle.script_ends.specs.Parts.{SeenOf}
use Rattle.script_place.specs.declared.Unread.{Unread}
use Rattle.script_place.specs.declared.Unread.TheVariants.{NoScript, Limit}
use Rattle.script_place.specs.declared.Operand.{Operand}
use Rattle.script_place.specs.declared.Operand.TheVariants.{Node, Constant as Digits}
use Rattle.script_place.specs.declared.Placed.{Placed}
use Rattle.script_place.specs.declared.Begun.{Begun}
use Rattle.script_place.specs.declared.Begun.TheVariants.{Done, Nullary as Alone, Open}

-- ---------------------------------------------------------------- what stands at a place, and what is there so far

-- a term that is read at a place and has a sort
pub record Term (s : List ℕ) (t : Table) (h : Header) (at : ℕ) : Type 0 where
  pub declarations : Declarations
  pub known : Known s t h declarations
  pub tree : Tree
  pub sort : TreeSort
  pub sorted : tree_sort declarations tree ≡ some sort
  pub steps : ℕ
  pub rest : List ℕ
  pub read : read_term steps declarations (drop at s) ≡ took tree rest

-- The nodes so far, the variables among them, and the operands that wait: those that become side entries, and three at most of each term
-- that is not ended.
pub record State (D : Declarations) (s : List ℕ) (heap : Heap) (levels : ℕ) : Type 0 where
  pub items : List Item
  pub held : Held heap items
  pub variables : length D.variables ≤ length items
  pub refs : List Ref
  pub stacked : Stacked s heap refs
  pub side : ℕ
  pub waiting : length refs ≤ side + 3 * levels
  pub few : levels ≤ 2048

-- ---------------------------------------------------------------- what placing a term answers

-- The term is placed: these are the nodes after it, it ends before place e, and the operands wait as before.
pub record After (s : List ℕ) (heap : Heap) (at : ℕ) (rest : List ℕ) (width : ℕ) (p : Put) (refs : List Ref) (ref : Ref) (w e : ℕ) : Type 0 where
  pub low : at < e
  pub high : e ≤ length s
  pub ends : rest ≡ drop e s
  pub wide : w ≡ width
  pub is : p.ref ≡ ref
  pub held : Held heap p.items
  pub stacked : Stacked s heap refs

-- an operand, as the definitions have it
abbrev pub ref_of : List ℕ → Operand → Ref
ref_of s (Node i) = here i
ref_of s (Digits q) = pending (bits_at s q)

-- it can wait, of width w
abbrev pub Pushable : List ℕ → ℕ → Operand → Type 0
Pushable s w (Node i) = i ≤ 2048
Pushable s w (Digits q) = (q ≤ length s) × (bits_of (between s q (q + w)) ≡ bits_at s q)

-- the sort of a term that is placed, whatever was there before
abbrev pub SortIs : List ℕ → Declarations → ℕ → Result Placed Unread → Type 0
SortIs s D at (Err NoScript) = SortAt s D at None
SortIs s D at (Err Limit) = Unit
SortIs s D at (Ok p) = SortAt s D at (Some (record { sort = p.width; end = p.end }))

-- There is no room for it, with the terms around it that are to become nodes and the operands that are to become side entries; or it is placed.
abbrev pub PlacedTo : (s : List ℕ) (heap : Heap) (at : ℕ) (rest : List ℕ) (width : ℕ) (p : Put) (refs : List Ref) (levels side : ℕ) → Result Placed Unread → Type 0
PlacedTo s heap at rest width p refs levels side (Err NoScript) = ⊥
PlacedTo s heap at rest width p refs levels side (Err Limit) = Room levels side p.items → ⊥
PlacedTo s heap at rest width p refs levels side (Ok z) = After s heap at rest width p refs (ref_of s z.operand) z.width z.end × Pushable s z.width z.operand

abbrev pub PlacedAs : {s : List ℕ} {t : Table} {h : Header} {heap : Heap} {at levels : ℕ} (q : Term s t h at) (g : State q.declarations s heap levels) (heap' : Heap) → Result Placed Unread → Type 0
PlacedAs {s} {t} {h} {heap} {at} {levels} q g heap' r =
    PlacedTo s heap' at q.rest (width_of (some q.sort)) (put q.declarations q.tree g.items) g.refs levels g.side r

-- What placing the term at a place says: its sort, whatever was there before; and its node, where a term stands there.
pub record PlacedAt (s : List ℕ) (t : Table) (h : Header) (heap : Heap) (at levels : ℕ) (heap' : Heap) (r : Result Placed Unread) : Type 0 where
  pub sorted : (D : Declarations) → Known s t h D → SortIs s D at r
  pub placed : (q : Term s t h at) (g : State q.declarations s heap levels) → PlacedAs q g heap' r

-- a leaf that is placed as it is, whatever was there before
abbrev pub LeafPlaced : List ℕ → Table → Header → ℕ → Maybe Placed → Type 0
LeafPlaced s t h at None = Unit
LeafPlaced s t h at (Some p) = (heap : Heap) (levels : ℕ) → PlacedAt s t h heap at levels heap (Ok p)

-- ---------------------------------------------------------------- heads

abbrev pub BegunTo : Head → ℕ → Begun → Type 0
BegunTo (Constant e) at r = r ≡ Done (record { operand = Digits (at + 2); width = e - (at + 2); end = e })
BegunTo (Variable k w e) at r = r ≡ Done (record { operand = Node k; width = w; end = e })
BegunTo (Nullary g w e) at r = r ≡ Alone (record { function = g; width = w; end = e })
BegunTo (Operator k m i j e) at r = r ≡ Open
BegunTo (Call g p w e) at r = r ≡ Open
BegunTo (Select a i v n e) at r = r ≡ Open

-- ---------------------------------------------------------------- operands

-- one operand more waits, or there is no room for it, whatever the records and the bits are, which stay as they were
abbrev pub MoreTo : List ℕ → Heap → Heap → Operand → Result ⊤ OverLimit → Type 0
MoreTo s heap heap' x (Err _) =
    (records bits : List ℕ) (t : List Item) (refs : List Ref) → Held (record heap { records = records; bits = bits }) t → Stacked s heap refs → length refs ≡ stack_size
MoreTo s heap heap' x (Ok _) =
    (heap'.records ≡ heap.records) × (heap'.bits ≡ heap.bits)
    × ((records bits : List ℕ) (t : List Item) → Held (record heap { records = records; bits = bits }) t → Held (record heap' { records = records; bits = bits }) t)
    × ((records bits : List ℕ) (t : List Item) (refs : List Ref) → Held (record heap { records = records; bits = bits }) t → Stacked s heap refs → Stacked s heap' (refs ++ (ref_of s x ∷ [])))

-- ---------------------------------------------------------------- ends

-- a term that ends has its node, if there was room for it
abbrev pub Finished : Result ℕ OverLimit → ℕ → ℕ → Result Placed Unread → Type 0
Finished (Err _) w e p = p ≡ Err Limit
Finished (Ok i) w e p = p ≡ Ok (record { operand = Node i; width = w; end = e })

-- a head whose operands follow
abbrev pub Opening : Head → Type 0
Opening (Constant e) = ⊥
Opening (Variable k w e) = ⊥
Opening (Nullary g w e) = ⊥
Opening (Operator k m i j e) = Unit
Opening (Call g p w e) = Unit
Opening (Select a i v n e) = Unit

-- A term whose operands all wait, at its bracket before the bytes `rest`: it began after the nodes `first`, with the operands refs.
pub record Closing (s : List ℕ) (heap : Heap) (x : Head) (base : ℕ) (v : Seen) (e : ℕ) (at : ℕ) (D : Declarations) (tree : Tree) (sort : TreeSort) (rest : List ℕ) (first : List Item) (refs : List Ref) : Type 0 where
  pub opens : Opening x
  pub head : HeadAt s D at (Some x)
  pub sorted : tree_sort D tree ≡ some sort
  pub steps : ℕ
  pub read : read_term steps D (drop at s) ≡ took tree rest
  pub now : List Item
  pub rs : List Ref
  pub os : List (Option TreeSort)
  pub far : SoFar D (operands_of tree) first now rs os noTrees
  pub held : Held heap now
  pub stacked : Stacked s heap (refs ++ rs)
  pub below : length refs ≡ base
  pub seen : SeenOf v os
  pub low : at < e
  pub bracket : drop e s ≡ 41 ∷ rest

-- some term is to close
pub record Closes (s : List ℕ) (heap : Heap) (x : Head) (base : ℕ) (v : Seen) (e : ℕ) : Type 0 where
  pub at : ℕ
  pub declarations : Declarations
  pub tree : Tree
  pub sort : TreeSort
  pub rest : List ℕ
  pub first : List Item
  pub refs : List Ref
  pub closing : Closing s heap x base v e at declarations tree sort rest first refs

abbrev pub ClosedTo : List ℕ → Heap → Heap → Head → ℕ → Seen → ℕ → Result Placed Unread → Type 0
ClosedTo s heap heap' x base v e r =
    (at : ℕ) (D : Declarations) (tree : Tree) (sort : TreeSort) (rest : List ℕ) (first : List Item) (refs : List Ref) → Closing s heap x base v e at D tree sort rest first refs
    → (levels side : ℕ) → PlacedTo s heap' at rest (width_of (some sort)) (put D tree first) refs levels side r
