-- What the functions that go from state to state say.
use Rattle.std.specs.Prelude.{ℕ, suc, ◌+◌, ◌*◌, ◌≤◌, ◌<◌, ◌≡◌, List, ◌∷◌, Bool, true, false, ◌⊎◌, length, drop, get_or}
use Rattle.std.specs.Prelude.{Option as Maybe, Some, None}
use Rattle.std.proofs.Math.Option.{Option, none}
use Rattle.reading.specs.Trees.{Declarations}
use Rattle.echo_spec.specs.Shapes as shapes
use Rattle.echo_spec.specs.Shapes.{Shape, shape_of}
use Rattle.echo_spec.specs.TreeSorts.{TreeSort, bits, if_proper}
use Rattle.readback.specs.Reader.{Took, took, and_then}
use Rattle.sort_reader.specs.Waits.{first, ends_with}
use Rattle.sort_reader.specs.Sorted.{sorted, operands}
use Rattle.script_entries.specs.Entries.{ArgumentsAt}
use Rattle.script_heads.specs.declared.Head.{Head}
use Rattle.script_heads.specs.declared.Head.TheVariants.{Constant, Variable, Nullary, Operator, Call, Select}
use Rattle.script_heads.specs.Heads.{numerals_of}
use Rattle.script_terms.specs.States.{sort_from, State, waits, rest, after, state_of, Held, enough, Going, Asking, SortAt, told_at}
use Rattle.script_terms.specs.declared.TermState.{TermState}
use Rattle.script_terms.specs.declared.TermState.TheVariants.{Failed, Done, Binary, Rotation, Extraction, Concat, Extension, Ite, Comparison, Negation, Connective, Unary, Arguments, Stored}
use Rattle.script_terms.specs.declared.Stores.{Stores}
use Rattle.script_terms.specs.declared.Next.{Next}
use Rattle.script_terms.specs.declared.Next.TheVariants.{Done as Whole, Operand}
use Rattle.script_terms.specs.declared.Opened.{Opened}

-- ---------------------------------------------------------------- one operand more

-- w is no call's
abbrev pub Plain : TermState → Type 0
Plain w = (p m : ℕ) → w ≡ Arguments p m → ⊥

-- the state after an operand of the sort τ
pub record AfterIs (w : TermState) (τ : TreeSort) (r : TermState) : Type 0 where
  pub state : (ws : List ℕ) → state_of ws r ≡ after (state_of ws w) τ
  pub plain : Plain r

-- the end with the sum of two widths
pub record JoinedIs (a b : ℕ) (r : TermState) : Type 0 where
  pub state : (ws : List ℕ) → state_of ws r ≡ waits (ends_with (if_proper (bits (a + b))))
  pub plain : Plain r

-- ---------------------------------------------------------------- what follows

-- what a bracket makes of the term: nothing, or a sort
abbrev pub closed_as : Maybe ℕ → List ℕ → Option (Took TreeSort)
closed_as None b = none
closed_as (Some n) b = took (sort_from n) b

-- the state is neither that of a whole term nor that of a store to close
pub record ClosedIs (s : List ℕ) (w : TermState) (r : Maybe ℕ) : Type 0 where
  pub closes : (D : Declarations) (ws : List ℕ) → ((p m : ℕ) → w ≡ Arguments p m → ArgumentsAt s p ws) → ((n : ℕ) → w ≡ Done n → ⊥) → ((x : Stores) → w ≡ Stored x → ⊥) → (g : ℕ) (b : List ℕ)
      → rest (suc g) D (state_of ws w) (41 ∷ b) ≡ closed_as r b

-- from place p on, in state q: nothing that has a sort
pub record NoneFrom (s : List ℕ) (D : Declarations) (p : ℕ) (q : State) : Type 0 where
  pub reads : (g : ℕ) → 2 * length (drop p s) < g → rest g D q (drop p s) ≡ none

-- the whole term, up to place e
pub record DoneFrom (s : List ℕ) (D : Declarations) (p : ℕ) (q : State) (n e : ℕ) : Type 0 where
  pub high : e ≤ length s
  pub reads : (g : ℕ) → 2 * length (drop p s) < g → rest g D q (drop p s) ≡ took (sort_from n) (drop e s)

-- an operand at place e, for state o
pub record OperandFrom (s : List ℕ) (D : Declarations) (p : ℕ) (q o : State) (e : ℕ) : Type 0 where
  pub low : p < e
  pub high : e ≤ length s
  pub reads : (g : ℕ) → 2 * length (drop p s) < g → (k : ℕ) × (enough s e ≤ k) × (rest g D q (drop p s) ≡ and_then (sorted k D (drop e s)) (λ σ r. rest k D (after o σ) r))

abbrev pub NextSays : List ℕ → Declarations → ℕ → TermState → List ℕ → Maybe Next → Type 0
NextSays s D p w ws None = NoneFrom s D p (state_of ws w)
NextSays s D p w ws (Some (Whole n e)) = (p ≤ e) × (((m : ℕ) → w ≡ Done m → ⊥) → p < e) × DoneFrom s D p (state_of ws w) n e
NextSays s D p w ws (Some (Operand d e)) = ((q m : ℕ) → d ≡ Arguments q m → w ≡ Arguments q m) × OperandFrom s D p (state_of ws w) (state_of ws d) e

abbrev pub NextIs : List ℕ → ℕ → TermState → Maybe Next → Type 0
NextIs s p w r = (D : Declarations) (ws : List ℕ) → ((q m : ℕ) → w ≡ Arguments q m → ArgumentsAt s q ws) → NextSays s D p w ws r

-- an operand that begins at place e: after a blank at place p; or after the bracket of a store there, and a blank
abbrev pub Begun : List ℕ → ℕ → ℕ → Type 0
Begun s p e = ((get_or s p 0 ≡ 32) × (e ≡ p + 1)) ⊎ ((get_or s p 0 ≡ 41) × (get_or s (p + 1) 0 ≡ 32) × (e ≡ p + 2))

-- a term that ends before place e: at place p, or with the bracket there
abbrev pub Ended : List ℕ → ℕ → ℕ → Type 0
Ended s p e = (e ≡ p) ⊎ ((get_or s p 0 ≡ 41) × (e ≡ p + 1))

abbrev pub StandsAt : List ℕ → ℕ → Maybe Next → Type 0
StandsAt s p None = Unit
StandsAt s p (Some (Whole n e)) = Ended s p e
StandsAt s p (Some (Operand d e)) = Begun s p e

-- the bytes from place p to place e, where an operand follows or the whole term was read
abbrev pub MovedTo : List ℕ → ℕ → ℕ → TermState → Bool → Type 0
MovedTo s p e w true = Begun s p e
MovedTo s p e w false = (n : ℕ) → w ≡ Done n → Ended s p e

-- an operand of the term from place a on follows; or the term was read, or has no sort
abbrev pub Turned : List ℕ → Declarations → ℕ → ℕ → TermState → Bool → Type 0
Turned s D a p w true = Asking s D a w p
Turned s D a p w false = SortAt s D a (told_at w p)

-- one turn from place p to place p': an operand that follows is further on
pub record Turn (s : List ℕ) (D : Declarations) (a p p' : ℕ) (w' : TermState) (r : Bool) : Type 0 where
  pub turned : Turned s D a p' w' r
  pub further : r ≡ true → p < p'

-- one turn, and the place lies in the script, whether or not the term has a sort
pub record TurnWithin (s : List ℕ) (D : Declarations) (a p p' : ℕ) (w' : TermState) (r : Bool) : Type 0 where
  pub turn : Turn s D a p p' w' r
  pub high : p' ≤ length s

abbrev pub NextTo : List ℕ → ℕ → TermState → ℕ → TermState → Bool → Type 0
NextTo s p w p' w' r = (D : Declarations) (a : ℕ) → Going s D a w p → Turn s D a p p' w' r

abbrev pub NextWithin : List ℕ → ℕ → TermState → ℕ → TermState → Bool → Type 0
NextWithin s p w p' w' r = (D : Declarations) (a : ℕ) → Going s D a w p → TurnWithin s D a p p' w' r

-- ---------------------------------------------------------------- heads

-- how many numerals an operator of the shape has
abbrev pub numeral_count : Shape → ℕ
numeral_count shapes.var = 0
numeral_count shapes.const = 0
numeral_count shapes.binary = 0
numeral_count shapes.rotation = 1
numeral_count shapes.extraction = 2
numeral_count shapes.concat = 0
numeral_count shapes.extension = 1
numeral_count shapes.ite = 0
numeral_count shapes.comparison = 0
numeral_count shapes.negation = 0
numeral_count shapes.connective = 0
numeral_count shapes.unary = 0
numeral_count shapes.select = 0
numeral_count shapes.call = 0
numeral_count shapes.unknown = 0

-- the state of an operator of the shape with these numerals, or that of a term that has no sort
abbrev pub state_from : Shape → ℕ → ℕ → TermState
state_from shapes.var i j = Failed
state_from shapes.const i j = Failed
state_from shapes.binary i j = Binary
state_from shapes.rotation i j = Rotation i
state_from shapes.extraction i j = Extraction i j
state_from shapes.concat i j = Concat
state_from shapes.extension i j = Extension i
state_from shapes.ite i j = Ite
state_from shapes.comparison i j = Comparison
state_from shapes.negation i j = Negation
state_from shapes.connective i j = Connective
state_from shapes.unary i j = Unary
state_from shapes.select i j = Failed
state_from shapes.call i j = Failed
state_from shapes.unknown i j = Failed

-- w is the state of an operator of kind k with m of the numerals i and j, or such an operator has no sort
pub record StateIs (k m i j : ℕ) (w : TermState) : Type 0 where
  pub state : m ≤ 2 → (D : Declarations) (ws : List ℕ) (f : ℕ) (b : List ℕ) → operands f D (first (shape_of k) (numerals_of m i j)) b ≡ rest f D (state_of ws w) b
  pub plain : Plain w
  pub other : (n : ℕ) → w ≡ Done n → ⊥

abbrev pub OpenedIs : List ℕ → Declarations → ℕ → Maybe Opened → Type 0
OpenedIs s D a None = (f : ℕ) → enough s a ≤ f → sorted f D (drop a s) ≡ none
OpenedIs s D a (Some o) = Going s D a o.state o.end

-- the place after a head
abbrev pub head_end : Head → ℕ
head_end (Constant e) = e
head_end (Variable k w e) = e
head_end (Nullary g w e) = e
head_end (Operator k m i j e) = e
head_end (Call g p w e) = e
head_end (Select a i v n e) = e

-- ---------------------------------------------------------------- turns

-- an operand of the sort n came, up to place p, for the state w
pub record Came (s : List ℕ) (D : Declarations) (a : ℕ) (w : TermState) (n p : ℕ) : Type 0 where
  pub state : State
  pub held : Held s w state
  pub low : a < p
  pub high : p ≤ length s
  pub reads : (f : ℕ) → enough s a ≤ f → (g : ℕ) × (2 * length (drop p s) < g) × (sorted f D (drop a s) ≡ rest g D (after state (sort_from n)) (drop p s))

-- an operand of a term in the state w, where the term must not end after place l, must not end after place r
pub record BeforeIs (w : TermState) (l r : ℕ) : Type 0 where
  pub takes : (D : Declarations) (ws : List ℕ) (σ : TreeSort) (g : ℕ) (b : List ℕ) (τ : TreeSort) (z : List ℕ)
      → rest g D (after (state_of ws w) σ) b ≡ took τ z → l + length z ≤ r + length b
