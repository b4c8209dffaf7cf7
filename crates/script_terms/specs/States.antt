-- The state of a term whose operands are being read, and what is read from it on.
use Rattle.std.specs.Prelude.{ℕ, zero, suc, ◌+◌, ◌*◌, ◌≤◌, ◌<◌, ◌≡◌, List, [], ◌∷◌, cond, length, drop}
use Rattle.std.specs.Prelude.{Option as Maybe, Some, None}
use Rattle.std.proofs.Math.Option.{Option, none, some}
use Rattle.lists.specs.Bytes.{bytes}
use Rattle.reading.specs.Trees.{Array, Declarations}
use Rattle.echo_spec.specs.Shapes.{binary, rotation, extraction, concat, extension, ite, comparison, negation, connective, unary}
use Rattle.echo_spec.specs.TreeSorts.{TreeSort, bool, bits, if_proper, has_sort}
use Rattle.readback.specs.Reader.{Took, took, and_then, expect}
use Rattle.sort_reader.specs.Waits.{Wait, first, equal, joins, chosen, truth, ends, arguments, stuck, step}
use Rattle.sort_reader.specs.Sorted.{of_sort, sorted, operands}
use Rattle.sort_reader.specs.Selects.{operand_of, stores_then}
use Rattle.script_entries.specs.Entries.{ArgumentsAt}
use Rattle.script_terms.specs.declared.TermState.{TermState}
use Rattle.script_terms.specs.declared.TermState.TheVariants.{Failed, Done, Binary, Rotation, Extraction, Concat, Extension, Ite, Comparison, Negation, Connective, Unary, Same, Joins, Chosen, Truth, Bracket, Arguments, Index, Value, Stored, Own}
use Rattle.script_terms.specs.declared.Sorted.{Sorted}

-- ---------------------------------------------------------------- sorts as numbers

-- 0 is Bool, any other number the width of a bit-vector
abbrev pub sort_from : ℕ → TreeSort
sort_from zero = bool
sort_from (suc n) = bits (suc n)

-- ---------------------------------------------------------------- states

pub data State : Type 0 where
  -- the whole term was read, and has this sort
  done : TreeSort → State
  -- an operator or a call waits for operands or for its bracket
  waits : Wait → State
  -- Of a select with an index width and a value width: an index, with so many stores left to close;
  index : ℕ → ℕ → ℕ → State
  -- the value of a store, with so many left after it;
  value : ℕ → ℕ → ℕ → State
  -- the bracket of a store, with so many left after it;
  stored : ℕ → ℕ → ℕ → State
  -- the select's own bracket.
  own : ℕ → State

-- an array of these widths
abbrev pub widths : ℕ → ℕ → Array
widths i v = record { name = []; index = i; value = v }

-- the sort of the whole term and the bytes after it, from a state on
unfoldable pub rest : ℕ → Declarations → State → List ℕ → Option (Took TreeSort)
rest f D (done σ) b = took σ b
rest f D (waits w) b = operands f D w b
rest f D (index i v n) b = stores_then f D (widths i v) n b
rest f D (value i v n) b = and_then (operand_of f D v b) (λ _ x. and_then (expect (bytes ")") x) (λ _ z. stores_then (suc f) D (widths i v) n z))
rest f D (stored i v n) b = and_then (expect (bytes ")") b) (λ _ z. stores_then (suc f) D (widths i v) n z)
rest f D (own v) b = and_then (expect (bytes ")") b) (λ _ z. of_sort (if_proper (bits v)) z)

-- after an index: the select's own bracket, or the value
unfoldable pub after_index : ℕ → ℕ → ℕ → State
after_index i v zero = own v
after_index i v (suc n) = value i v n

-- one operand more, of this sort
unfoldable pub after : State → TreeSort → State
after (done σ) τ = waits stuck
after (waits w) τ = waits (step w τ)
after (index i v n) τ = cond (has_sort (some τ) (bits i)) (after_index i v n) (waits stuck)
after (value i v n) τ = cond (has_sort (some τ) (bits v)) (stored i v n) (waits stuck)
after (stored i v n) τ = waits stuck
after (own v) τ = waits stuck

-- ---------------------------------------------------------------- states of the enum

-- The state that a value of the enum is; a call's argument sorts ws stand in the script.
unfoldable pub state_of : List ℕ → TermState → State
state_of ws Failed = waits stuck
state_of ws (Done n) = done (sort_from n)
state_of ws Binary = waits (first binary [])
state_of ws (Rotation i) = waits (first rotation (i ∷ []))
state_of ws (Extraction i j) = waits (first extraction (i ∷ j ∷ []))
state_of ws Concat = waits (first concat [])
state_of ws (Extension n) = waits (first extension (n ∷ []))
state_of ws Ite = waits (first ite [])
state_of ws Comparison = waits (first comparison [])
state_of ws Negation = waits (first negation [])
state_of ws Connective = waits (first connective [])
state_of ws Unary = waits (first unary [])
state_of ws (Same m n) = waits (equal m (sort_from n))
state_of ws (Joins m) = waits (joins m)
state_of ws Chosen = waits chosen
state_of ws Truth = waits truth
state_of ws (Bracket n) = waits (ends (sort_from n))
state_of ws (Arguments p m) = waits (arguments ws m)
state_of ws (Index x) = index x.index x.value x.left
state_of ws (Value x) = value x.index x.value x.left
state_of ws (Stored x) = stored x.index x.value x.left
state_of ws (Own v) = own v

-- w is the state q
pub record Held (s : List ℕ) (w : TermState) (q : State) : Type 0 where
  pub sorts : List ℕ
  pub is : q ≡ state_of sorts w
  pub call : (p m : ℕ) → w ≡ Arguments p m → ArgumentsAt s p sorts

-- a call's argument sorts stand within the script
pub record Usable (s : List ℕ) (w : TermState) : Type 0 where
  pub call : (p m : ℕ) → w ≡ Arguments p m → p ≤ length s

-- ---------------------------------------------------------------- a term from place a on

-- steps enough for the bytes from a place on
abbrev pub enough : List ℕ → ℕ → ℕ
enough s a = 2 * length (drop a s) + 2

-- the term from place a on was read up to place p, and is in the state w
pub record Going (s : List ℕ) (D : Declarations) (a : ℕ) (w : TermState) (p : ℕ) : Type 0 where
  pub state : State
  pub held : Held s w state
  pub low : a ≤ p
  pub moved : (n : ℕ) → w ≡ Done n → a < p
  pub high : p ≤ length s
  pub reads : (f : ℕ) → enough s a ≤ f → (g : ℕ) × (2 * length (drop p s) < g) × (sorted f D (drop a s) ≡ rest g D state (drop p s))

-- an operand begins at place p
pub record Asking (s : List ℕ) (D : Declarations) (a : ℕ) (w : TermState) (p : ℕ) : Type 0 where
  pub state : State
  pub held : Held s w state
  pub low : a < p
  pub high : p ≤ length s
  pub reads : (f : ℕ) → enough s a ≤ f → (g : ℕ) × (enough s p ≤ g) × (sorted f D (drop a s) ≡ and_then (sorted g D (drop p s)) (λ σ r. rest g D (after state σ) r))

-- THE SORT of the term from place a on, and the place after it; or it has none.
abbrev pub SortAt : List ℕ → Declarations → ℕ → Maybe Sorted → Type 0
SortAt s D a None = (f : ℕ) → enough s a ≤ f → sorted f D (drop a s) ≡ none
SortAt s D a (Some r) = (a < r.end) × (r.end ≤ length s) × ((f : ℕ) → enough s a ≤ f → sorted f D (drop a s) ≡ took (sort_from r.sort) (drop r.end s))

-- what a state tells of the whole term, where it was read up to place p
abbrev pub told_at : TermState → ℕ → Maybe Sorted
told_at (Done n) p = Some (record { sort = n; end = p })
told_at w p = None

-- The same, where a term that ends after place l need not be told from one without a sort: its sort and the place e after it.
abbrev pub SortedBy : List ℕ → Declarations → ℕ → Maybe ℕ → ℕ → ℕ → Type 0
SortedBy s D a None e l = (f : ℕ) → enough s a ≤ f → (σ : TreeSort) (z : List ℕ) → sorted f D (drop a s) ≡ took σ z → l + length z < length s
SortedBy s D a (Some n) e l = SortAt s D a (Some (record { sort = n; end = e }))
