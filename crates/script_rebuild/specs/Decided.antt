-- What is decided of a script before anything is written: that it is refused, with the number, or that its problem stands in local arrays and each
-- output has room for its part.
use Rattle.std.specs.Prelude.{ℕ, ◌≡◌, List, [], ◌∷◌, map, Bool, true, false, ◌&&◌, T, leb, length, Result, Ok, Err}
use Rattle.echo_spec.specs.Input.{Problem}
use Rattle.readback.specs.Rebuild.{rebuild}
use Rattle.readback.specs.Records.{inputs}
use Rattle.readback.specs.ReadAnswers.{lists_of, read_as, nothing, read_script_answer}
use Rattle.header_laws.specs.Body.{reading_of}
use Rattle.heap_laws.specs.declared.Heap.{Heap}
use Rattle.script_names.specs.declared.Table.{Table}
use Rattle.script_header.specs.declared.Header.{Header}
use Rattle.script_place.specs.declared.Unread.{Unread}
use Rattle.script_place.specs.declared.Unread.TheVariants.{NoScript as NoneRebuilt, Limit as Over}
use Rattle.script_rebuild.specs.Rebuilt.{WholeProblem}
use Rattle.script_rebuild.specs.declared.Sizes.{Sizes}
use Rattle.script_rebuild.specs.declared.Decision.{Decision}
use Rattle.script_rebuild.specs.declared.ReadError.{ReadError}
use Rattle.script_rebuild.specs.declared.ReadError.TheVariants.{NoScript, Limit, Room}

-- the lengths of the eighteen lists of a problem
abbrev pub lengths_of : Problem → List ℕ
lengths_of p = map length (lists_of p)

-- what is needed of each output, the columns of a table alike
abbrev pub needs_of : Sizes → List ℕ
needs_of z =
    z.nodes
    ∷ z.bits
    ∷ z.side
    ∷ z.roots
    ∷ z.names
    ∷ z.variables
    ∷ z.variables
    ∷ z.variables
    ∷ z.variables
    ∷ z.anames
    ∷ z.arrays
    ∷ z.arrays
    ∷ z.arrays
    ∷ z.arrays
    ∷ z.fnames
    ∷ z.functions
    ∷ z.functions
    ∷ z.functions
    ∷ []

-- the number of a refusal
abbrev pub error_number : ReadError → ℕ
error_number NoScript = 13
error_number Limit = 9
error_number Room = 10

-- bytes that are not rebuilt as a problem are not read, for the same reason
abbrev pub refusal_of : Unread → ReadError
refusal_of NoneRebuilt = NoScript
refusal_of Over = Limit

-- each number is at most the one in its place
unfoldable pub all_within : List ℕ → List ℕ → Bool
all_within [] ms = true
all_within (n ∷ ns) [] = false
all_within (n ∷ ns) (m ∷ ms) = leb n m && all_within ns ms

-- the problem in the arrays, how many elements each output needs, and that they are there
pub record Ready (s : List ℕ) (t : Table) (h : Header) (heap : Heap) (roots need room : List ℕ) : Type 0 where
  pub count : ℕ
  pub whole : WholeProblem s t h heap roots count
  pub needed : need ≡ lengths_of (inputs (rebuild (reading_of whole.declarations whole.trees)))
  pub fits : T (all_within need room)

-- it is read, or refused with a number whatever is lent
abbrev pub Decided : List ℕ → Table → Heap → List ℕ → List ℕ → Result Decision ReadError → Type 0
Decided s t heap roots room (Ok x) = Ready s t x.header heap roots (needs_of x.sizes) room
Decided s t heap roots room (Err e) = (lent : Problem) → lengths_of lent ≡ room → read_script_answer s lent ≡ read_as (error_number e) nothing lent
