-- The lines of declarations as they are read with every width and name checked: a reader for each of the three kinds of line, and as
-- many lines of one kind as there are.
use Rattle.std.specs.Prelude.{ℕ, zero, suc, ◌+◌, ◌-◌, ◌≤◌, ◌<◌, ◌≡◌, List, [], ◌∷◌, ◌++◌, map, Bool, true, false, ◌&&◌, cond, eqb, ltb, leb, length, drop}
use Rattle.std.specs.Prelude.{Option as Maybe, Some, None}
use Rattle.std.proofs.Math.Option.{Option, none, some}
use Rattle.lists.specs.Bytes.{bytes}
use Rattle.reading.specs.Trees.{Name, Variable, Array, Function}
use Rattle.echo_spec.specs.Names.{entry_ok}
use Rattle.echo_spec.specs.Input.{largest}
use Rattle.readback.specs.Reader.{Took, took, and_then, expect, name_read}
use Rattle.readback.specs.ScriptReader.{read_sort, separator}
use Rattle.script_tokens.specs.Reached.{between}
use Rattle.script_names.specs.Entries.{after_bar, entry_from, name_at, Named, Tabled}
use Rattle.script_decls.specs.declared.Declaration.{Declaration}
use Rattle.script_decls.specs.declared.Lines.{Lines}
use Rattle.script_decls.specs.declared.Stage.{Stage}
use Rattle.script_decls.specs.declared.Stage.TheVariants.{Variables, Arrays, Functions}
use Rattle.script_names.specs.declared.Table.{Table}

-- a sort of bit-vectors with a width from 1 to the limit
unfoldable pub sort_in : ℕ → List ℕ → Option (Took ℕ)
sort_in limit b = and_then (read_sort b) (λ w r. cond (ltb 0 w && leb w limit) (took w r) none)

-- ---------------------------------------------------------------- what follows a name

unfoldable pub variable_tail : Name → List ℕ → Option (Took Variable)
variable_tail n r =
    and_then (expect (bytes " ") r) (λ _ x. and_then (sort_in largest x) (λ w y. and_then (expect (bytes ")\n") y) (λ _ z. took (record { name = n; width = w }) z)))

unfoldable pub array_tail_of : Name → List ℕ → Option (Took Array)
array_tail_of n r =
    and_then (expect (bytes " (Array ") r) (λ _ x. and_then (sort_in 65536 x) (λ i y. and_then (expect (bytes " ") y) (λ _ u.
    and_then (sort_in 65536 u) (λ v t. and_then (expect (bytes "))\n") t) (λ _ z. took (record { name = n; index = i; value = v }) z)))))

-- as `read_sorts`
unfoldable pub sorts_in : ℕ → Bool → List ℕ → Option (Took (List ℕ))
sorts_in zero first b = none
sorts_in (suc f) first [] = none
sorts_in (suc f) first (c ∷ b) =
    elim (eqb c 41) [
      | true ↦ took [] b
      | false ↦ and_then (separator first (c ∷ b)) (λ _ q.
          and_then (sort_in largest q) (λ w r. and_then (sorts_in f false r) (λ ws z. took (w ∷ ws) z)))
    ]

unfoldable pub function_tail : Name → List ℕ → Option (Took Function)
function_tail n r =
    and_then (expect (bytes " (") r) (λ _ x. and_then (sorts_in (suc (length x)) true x) (λ ws y. and_then (expect (bytes " ") y) (λ _ u.
    and_then (sort_in largest u) (λ w t. and_then (expect (bytes ")\n") t) (λ _ z. took (record { name = n; arguments = ws; width = w }) z)))))

-- ---------------------------------------------------------------- lines

-- variables, arrays, functions: stages 0, 1 and 2
abbrev pub stage_number : Stage → ℕ
stage_number Variables = 0
stage_number Arrays = 1
stage_number Functions = 2

abbrev pub LineType : ℕ → Type 0
LineType zero = Variable
LineType (suc zero) = Array
LineType (suc (suc k)) = Function

abbrev pub name_in : (k : ℕ) → LineType k → Name
name_in zero v = v.name
name_in (suc zero) a = a.name
name_in (suc (suc k)) f = f.name

abbrev pub word_of : ℕ → List ℕ
word_of zero = bytes "(declare-const |"
word_of (suc zero) = bytes "(declare-const |"
word_of (suc (suc k)) = bytes "(declare-fun |"

abbrev pub tail_of : (k : ℕ) → Name → List ℕ → Option (Took (LineType k))
tail_of zero n r = variable_tail n r
tail_of (suc zero) n r = array_tail_of n r
tail_of (suc (suc k)) n r = function_tail n r

unfoldable pub line_of : (k : ℕ) → List ℕ → Option (Took (LineType k))
line_of k b = and_then (expect (word_of k) b) (λ _ q. and_then (name_read q) (λ n r. tail_of k n r))

-- as many lines as there are, each with a name that may be declared after those before it
unfoldable pub checked : (k : ℕ) → ℕ → List Name → List ℕ → Option (Took (List (LineType k)))
checked k zero before b = none
checked k (suc f) before b =
    elim (line_of k b) [
      | none ↦ took [] b
      | some t ↦ cond (entry_ok before (name_in k t.value)) (and_then (checked k f (before ++ (name_in k t.value ∷ [])) t.rest) (λ xs r. took (t.value ∷ xs) r)) none
    ]

-- ---------------------------------------------------------------- what the functions answer

-- the rest of a line from place f on, whatever its name, and the place after it; there is no bar in it
pub record TailAt (k : ℕ) (s : List ℕ) (f e : ℕ) : Type 0 where
  pub low : f ≤ e
  pub high : e ≤ length s
  pub tail : after_bar (drop f s) ≡ after_bar (drop e s)
  pub value : Name → LineType k
  pub read : (n : Name) → tail_of k n (drop f s) ≡ took (value n) (drop e s)
  pub name : (n : Name) → name_in k (value n) ≡ n

abbrev pub TailTo : ℕ → List ℕ → ℕ → Maybe ℕ → Type 0
TailTo k s f None = (n : Name) → tail_of k n (drop f s) ≡ none
TailTo k s f (Some e) = TailAt k s f e

-- a line from place `at` on: its name from place a up to and with its bar before place f, and the place e after it
pub record LineAt (k : ℕ) (s : List ℕ) (at a f e : ℕ) : Type 0 where
  pub named : Named s a f
  pub from : at < f
  pub low : f ≤ e
  pub high : e ≤ length s
  pub start : drop a s ≡ after_bar (drop at s)
  pub tail : after_bar (drop f s) ≡ after_bar (drop e s)
  pub value : LineType k
  pub read : line_of k (drop at s) ≡ took value (drop e s)
  pub name : name_in k value ≡ between s a (f - 1)

abbrev pub LineTo : ℕ → List ℕ → ℕ → Maybe Declaration → Type 0
LineTo k s at None = line_of k (drop at s) ≡ none
LineTo k s at (Some d) = LineAt k s at d.line.name d.line.name_end d.line.end

-- the first names
unfoldable pub names_to : List ℕ → ℕ → List Name
names_to b zero = []
names_to b (suc c) = names_to b c ++ (name_at b c ∷ [])

-- `count` lines from place `first` on are in the table, and place `at` is after them
pub record Ready (s : List ℕ) (first : ℕ) (t : Table) (count at : ℕ) : Type 0 where
  pub begin : first ≤ length s
  pub place : at ≤ length s
  pub few : count ≤ at
  pub tabled : Tabled s first t count
  pub here : entry_from count (drop first s) ≡ after_bar (drop at s)

-- what was read of one stage: lines xs, up to place e
pub record StageAt (k : ℕ) (s : List ℕ) (first count at : ℕ) (t : Table) (c e : ℕ) : Type 0 where
  pub lines : List (LineType k)
  pub read : (f : ℕ) → length (drop at s) < f → checked k f (names_to (drop first s) count) (drop at s) ≡ took lines (drop e s)
  pub counted : c ≡ count + length lines
  pub names : names_to (drop first s) c ≡ names_to (drop first s) count ++ map (name_in k) lines
  pub ready : Ready s first t c e

abbrev pub StageTo : ℕ → List ℕ → ℕ → ℕ → ℕ → Table → Maybe Lines → Type 0
StageTo k s first count at t None = (f : ℕ) → length (drop at s) < f → checked k f (names_to (drop first s) count) (drop at s) ≡ none
StageTo k s first count at t (Some l) = StageAt k s first count at t l.names l.end
