-- What `check_release` answers of a file that joins scripts (document 02, L12): whether each name has one meaning in all of them.
use Rattle.std.specs.Prelude.{ℕ, zero, suc, List, [], ◌∷◌, ◌++◌, map, Bool, true, false, ◌&&◌, ◌||◌, not, cond, leb, eqb, length}
use Rattle.std.proofs.Math.Option.{Option, none, some}
use Rattle.lists.specs.Tests.{same}
use Rattle.reading.specs.Trees.{Name, Variable, Array, Function, Declarations, Reading}
use Rattle.echo_spec.specs.Refusals.{unless}
use Rattle.script_lines.specs.Lines.{Cut, scripts_of}
use Rattle.readback.specs.Rebuild.{rebuild}
use Rattle.readback.specs.ScriptReader.{reading_in}
use Rattle.readback.specs.ReadAnswers.{limits_passed}

-- ---------------------------------------------------------------- what a name means

-- what a declaration says of its name
pub data Meaning : Type 0 where
  -- width
  a_variable : ℕ → Meaning
  -- index width and value width
  an_array : ℕ → ℕ → Meaning
  -- argument widths in order, and the width
  a_function : List ℕ → ℕ → Meaning

-- the same kind, widths and arguments
unfoldable pub same_meaning : Meaning → Meaning → Bool
same_meaning (a_variable w) (a_variable w') = eqb w w'
same_meaning (a_variable w) (an_array i v) = false
same_meaning (a_variable w) (a_function ws v) = false
same_meaning (an_array i v) (a_variable w) = false
same_meaning (an_array i v) (an_array i' v') = eqb i i' && eqb v v'
same_meaning (an_array i v) (a_function ws w) = false
same_meaning (a_function ws w) (a_variable v) = false
same_meaning (a_function ws w) (an_array i v) = false
same_meaning (a_function ws w) (a_function ws' w') = same ws ws' && eqb w w'

pub record Declared : Type 0 where
  pub name : Name
  pub meaning : Meaning

abbrev pub of_variable : Variable → Declared
of_variable v = record { name = v.name; meaning = a_variable v.width }

abbrev pub of_array : Array → Declared
of_array a = record { name = a.name; meaning = an_array a.index a.value }

abbrev pub of_function : Function → Declared
of_function f = record { name = f.name; meaning = a_function f.arguments f.width }

-- the declarations of a script, whatever their kind
unfoldable pub all_declared : Declarations → List Declared
all_declared D = map of_variable D.variables ++ (map of_array D.arrays ++ map of_function D.functions)

-- ---------------------------------------------------------------- scripts that disagree

abbrev pub any_of : {A : Type 0} → (A → Bool) → List A → Bool
any_of p [] = false
any_of p (x ∷ xs) = p x || any_of p xs

-- two declarations of one name that differ
unfoldable pub differ : Declared → Declared → Bool
differ x y = same x.name y.name && not (same_meaning x.meaning y.meaning)

-- the two scripts have such declarations
unfoldable pub disagree : Declarations → Declarations → Bool
disagree D E = any_of (λ x. any_of (differ x) (all_declared E)) (all_declared D)

-- the earliest script, counted on from k, that disagrees with one before it
unfoldable pub earliest : ℕ → List Declarations → List Declarations → Option ℕ
earliest k before [] = none
earliest k before (D ∷ Ds) = elim (any_of (disagree D) before) [ true ↦ some k | false ↦ earliest (suc k) (before ++ (D ∷ [])) Ds ]

-- ---------------------------------------------------------------- the scripts of a release

-- the most scripts that a release may have
abbrev pub script_limit : ℕ
script_limit = 64

-- bytes after the last check-sat line are one more script
abbrev pub rest_script : List ℕ → List (List ℕ)
rest_script [] = []
rest_script (c ∷ b) = (c ∷ b) ∷ []

unfoldable pub to_read : Cut → List (List ℕ)
to_read c = c.scripts ++ rest_script c.rest

-- what reading a script is refused with, room left aside
unfoldable pub read_refusal : Option Reading → ℕ
read_refusal none = 13
read_refusal (some r) = unless (limits_passed (rebuild r)) 9

-- the declarations of a script that is read
unfoldable pub declarations_in : Option Reading → Declarations
declarations_in none = record { variables = []; arrays = []; functions = [] }
declarations_in (some r) = r.declarations

-- ---------------------------------------------------------------- the answer

-- a number, and the script that it is told of, from 0; both are 0 where the release is accepted
pub record ReleaseAnswer : Type 0 where
  pub number : ℕ
  pub script : ℕ

abbrev pub told : ℕ → ℕ → ReleaseAnswer
told n k = record { number = n; script = k }

-- 17 where a script disagrees with one before it
unfoldable pub meaning_answer : Option ℕ → ReleaseAnswer
meaning_answer none = told 0 0
meaning_answer (some k) = told 17 k

-- the first script, counted on from k, that reading refuses, or else what follows
unfoldable pub read_in_order : ℕ → List (List ℕ) → ReleaseAnswer → ReleaseAnswer
read_in_order k [] after = after
read_in_order k (s ∷ ss) after = elim (read_refusal (reading_in s)) [ zero ↦ read_in_order (suc k) ss after | suc n ↦ told (suc n) k ]

unfoldable pub scripts_answer : List (List ℕ) → ReleaseAnswer
scripts_answer ss = read_in_order 0 ss (meaning_answer (earliest 0 [] (map (λ s. declarations_in (reading_in s)) ss)))

-- more than 64 check-sat lines are told before all else
unfoldable pub release_answer : List ℕ → ReleaseAnswer
release_answer file =
    let c : Cut = scripts_of file in
    cond (leb (length c.scripts) script_limit) (scripts_answer (to_read c)) (told 9 script_limit)
