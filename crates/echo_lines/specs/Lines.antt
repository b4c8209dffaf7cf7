-- The logic by the numbers of arrays and functions. Assumes nothing.
use Rattle.std.specs.Prelude.{ℕ, zero, suc, ◌≡◌, refl, List, [], ◌∷◌, ◌++◌, length}
use Rattle.lists.specs.Bytes.{bytes}
use Rattle.reading.specs.Trees.{Array, Function, Declarations}
use Rattle.echo_spec.specs.Render.{logic_of, logic_text}

-- `logic_of`, of the lists' lengths
unfoldable pub logic_name : ℕ → ℕ → List ℕ
logic_name arrays (suc functions) = bytes "QF_AUFBV"
logic_name (suc arrays) zero = bytes "QF_ABV"
logic_name zero zero = bytes "QF_BV"

unfoldable pub logic_for : ℕ → ℕ → List ℕ
logic_for arrays functions = bytes "(set-logic " ++ (logic_name arrays functions ++ bytes ")\n")

name-for : (functions : List Function) (arrays : List Array) → logic_name (length arrays) (length functions) ≡ logic_of functions arrays
unfolding logic_name logic_of
name-for (f ∷ fs) arrays = refl
name-for [] (a ∷ arrays) = refl
name-for [] [] = refl

-- how a caller of `push_logic` comes to the text of any declarations that have so many arrays and functions
pub logic-for : (ds : Declarations) {arrays functions : ℕ} → length ds.arrays ≡ arrays → length ds.functions ≡ functions
    → logic_for arrays functions ≡ logic_text ds
unfolding logic_for logic_text
logic-for ds p q = rw (← p, ← q, name-for ds.functions ds.arrays) refl
