-- The lines of a script before its assertions, with everything that is asked of them: the logic that fits the declarations, and an
-- assertion or the last line after them.
use Rattle.std.specs.Prelude.{ℕ, zero, suc, ◌+◌, ◌≤◌, ◌<◌, ◌≡◌, List, [], ◌++◌, Bool, true, false, ◌&&◌, ◌||◌, cond, eqb, length, drop}
use Rattle.std.specs.Prelude.{Option as Maybe, Some, None}
use Rattle.std.proofs.Math.Option.{Option, none, some}
use Rattle.lists.specs.Bytes.{bytes}
use Rattle.lists.specs.Tests.{same}
use Rattle.reading.specs.Trees.{Declarations}
use Rattle.echo_spec.specs.Render.{logic_of}
use Rattle.readback.specs.Printable.{variable_names_in, array_names_in, function_names_in}
use Rattle.readback.specs.Reader.{Took, took, and_then, expect, up_to}
use Rattle.script_names.specs.Entries.{measure_of, Tabled}
use Rattle.script_decls.specs.Lines.{checked, names_to, stage_number}
use Rattle.script_decls.specs.Told.{LineNoted}
use Rattle.script_decls.specs.declared.Stage.{Stage}
use Rattle.script_decls.specs.declared.Stage.TheVariants.{Variables, Arrays, Functions}
use Rattle.script_header.specs.declared.Header.{Header}
use Rattle.script_names.specs.declared.Table.{Table}

-- what ends the logic's name
abbrev pub ends_logic : ℕ → Bool
ends_logic c = eqb c 41

unfoldable pub begins : Option (Took (List ℕ)) → Bool
begins none = false
begins (some t) = true

-- an assertion, or the last line
unfoldable pub begun : List ℕ → Bool
begun b = begins (expect (bytes "(assert ") b) || begins (expect (bytes "(check-sat)\n") b)

-- variables, then arrays, then functions, each name after those before it
unfoldable pub declared : ℕ → List ℕ → Option (Took Declarations)
declared f b =
    and_then (checked 0 f [] b) (λ vs b₁.
    and_then (checked 1 f (variable_names_in (record { variables = vs; arrays = []; functions = [] })) b₁) (λ rs b₂.
    and_then (checked 2 f (variable_names_in (record { variables = vs; arrays = rs; functions = [] }) ++ array_names_in (record { variables = vs; arrays = rs; functions = [] })) b₂) (λ fs b₃.
    took (record { variables = vs; arrays = rs; functions = fs }) b₃)))

unfoldable pub header_in : ℕ → List ℕ → Option (Took Declarations)
header_in f b =
    and_then (expect (bytes "(set-logic ") b) (λ _ b₁.
    and_then (expect (bytes ")\n") (up_to ends_logic b₁).rest) (λ _ b₂.
    and_then (declared f b₂) (λ D r.
    cond (same (up_to ends_logic b₁).value (logic_of D.functions D.arrays) && begun r) (took D r) none)))

-- the logic by how many functions and arrays there are
unfoldable pub logic_for : ℕ → ℕ → List ℕ
logic_for (suc f) a = bytes "QF_AUFBV"
logic_for zero (suc a) = bytes "QF_ABV"
logic_for zero zero = bytes "QF_BV"

-- what was read from place `at` on: declarations from place `first` on, with v variables, w variables and arrays, c names in all, up to place e
pub record HeaderAt (s : List ℕ) (at : ℕ) (t : Table) (first v w c e : ℕ) : Type 0 where
  pub value : Declarations
  pub read : (f : ℕ) → length s < f → header_in f (drop at s) ≡ took value (drop e s)
  pub lines : (f : ℕ) → length s < f → declared f (drop first s) ≡ took value (drop e s)
  pub begin : first ≤ length s
  pub place : e ≤ length s
  pub variables : v ≡ length value.variables
  pub arrays : w ≡ v + length value.arrays
  pub functions : c ≡ w + length value.functions
  pub names : names_to (drop first s) c ≡ (variable_names_in value ++ array_names_in value) ++ function_names_in value
  pub tabled : Tabled s first t c

-- nothing that a header is
abbrev pub NoHeader : List ℕ → ℕ → Type 0
NoHeader s at = (f : ℕ) → length s < f → header_in f (drop at s) ≡ none

abbrev pub HeaderTo : List ℕ → ℕ → Table → Maybe Header → Type 0
HeaderTo s at t None = NoHeader s at
HeaderTo s at t (Some h) = HeaderAt s at t h.first h.variables h.arrays h.names h.end

-- line k is of the stage
abbrev pub Within : Header → ℕ → Stage → Type 0
Within h k Variables = k < h.variables
Within h k Arrays = (h.variables ≤ k) × (k < h.arrays)
Within h k Functions = h.arrays ≤ k

-- the table has the numbers of every line, where it has room for all
abbrev pub HeaderNoted : List ℕ → Table → Maybe Header → Type 0
HeaderNoted s t None = Unit
HeaderNoted s t (Some h) = h.names ≤ 1536 → (k : ℕ) (S : Stage) → Within h k S → k < h.names → LineNoted (stage_number S) s h.first k (measure_of t k)
