-- Computed examples of releases: what is told of each, and which clause it is for.
use Rattle.std.specs.Prelude.{ℕ, ◌≡◌, refl, List, [], ◌∷◌, ◌++◌, map, replicate}
use Prim.Native.String.{String}
use Rattle.lists.specs.Bytes.{bytes}
use Rattle.script_lines.specs.Lines.{joined, begins, until_check, following_script, cut_up_to, scripts_of}
use Rattle.echo_spec.specs.Input.{nodes_within, column_within, arena_within, within_limits}
use Rattle.readback.specs.Records.{record_bytes, records_bytes, inputs}
use Rattle.readback.specs.ReadAnswers.{limits_passed}
use Rattle.readback.specs.Examples.{all_read}
use Rattle.releases.specs.Release.{
  same_meaning,
  all_declared,
  differ,
  disagree,
  earliest,
  to_read,
  read_refusal,
  declarations_in,
  ReleaseAnswer,
  told,
  meaning_answer,
  read_in_order,
  scripts_answer,
  release_answer,
}

-- scripts of one or two declarations
abbrev x8 : String
x8 = "(set-logic QF_BV)\n(declare-const |x| (_ BitVec 8))\n(check-sat)\n"

abbrev x9 : String
x9 = "(set-logic QF_BV)\n(declare-const |x| (_ BitVec 9))\n(check-sat)\n"

abbrev y8 : String
y8 = "(set-logic QF_BV)\n(declare-const |y| (_ BitVec 8))\n(check-sat)\n"

abbrev x_as_array : String
x_as_array = "(set-logic QF_ABV)\n(declare-const |x| (Array (_ BitVec 8) (_ BitVec 8)))\n(check-sat)\n"

abbrev x_other_index : String
x_other_index = "(set-logic QF_ABV)\n(declare-const |x| (Array (_ BitVec 9) (_ BitVec 8)))\n(check-sat)\n"

abbrev x_other_value : String
x_other_value = "(set-logic QF_ABV)\n(declare-const |x| (Array (_ BitVec 8) (_ BitVec 9)))\n(check-sat)\n"

abbrev x_as_function : String
x_as_function = "(set-logic QF_AUFBV)\n(declare-fun |x| () (_ BitVec 8))\n(check-sat)\n"

abbrev x_of_two : String
x_of_two = "(set-logic QF_AUFBV)\n(declare-fun |x| ((_ BitVec 1) (_ BitVec 2)) (_ BitVec 8))\n(check-sat)\n"

abbrev x_of_two_turned : String
x_of_two_turned = "(set-logic QF_AUFBV)\n(declare-fun |x| ((_ BitVec 2) (_ BitVec 1)) (_ BitVec 8))\n(check-sat)\n"

abbrev x_of_two_wider : String
x_of_two_wider = "(set-logic QF_AUFBV)\n(declare-fun |x| ((_ BitVec 1) (_ BitVec 2)) (_ BitVec 9))\n(check-sat)\n"

-- x at the second place, after another name
abbrev yx9 : String
yx9 = "(set-logic QF_BV)\n(declare-const |y| (_ BitVec 8))\n(declare-const |x| (_ BitVec 9))\n(check-sat)\n"

-- read, and 9: the record of a variable has 32 bits for its width
abbrev wide : String
wide = "(set-logic QF_BV)\n(declare-const |x| (_ BitVec 4294967296))\n(check-sat)\n"

-- a check-sat line that ends no script
abbrev no_script : String
no_script = "(set-logic QF_BV) \n(check-sat)\n"

abbrev file : List String → List ℕ
file ts = joined (map bytes ts)

abbrev answers_of : List (List ℕ) → List ReleaseAnswer
answers_of fs = map release_answer fs

-- ---------------------------------------------------------------- accepted

abbrev accepted : List (List ℕ)
accepted =
    -- nothing, one script, one twice, names apart, a name declared alike beside others
    file []
    ∷ file (x8 ∷ [])
    ∷ file (x8 ∷ x8 ∷ [])
    ∷ file (x8 ∷ y8 ∷ x8 ∷ [])
    ∷ file (x9 ∷ yx9 ∷ y8 ∷ [])
    ∷ file (x_as_array ∷ x_as_array ∷ [])
    ∷ file (x_of_two ∷ y8 ∷ x_of_two ∷ [])
    ∷ []

accepted-are : answers_of accepted ≡ map (λ (f : List ℕ). told 0 0) accepted
unfolding
    joined begins until_check following_script cut_up_to scripts_of nodes_within column_within arena_within within_limits record_bytes records_bytes inputs limits_passed
    all_read same_meaning all_declared differ disagree earliest to_read read_refusal declarations_in meaning_answer read_in_order scripts_answer release_answer
accepted-are = refl

-- ---------------------------------------------------------------- refused

abbrev refused : List (List ℕ)
refused =
    -- 17: the widths of a variable, from the script before and from one further off; the later of the two is named
    file (x8 ∷ x9 ∷ [])
    ∷ file (x8 ∷ y8 ∷ x9 ∷ [])
    -- the earliest of several
    ∷ file (x8 ∷ x9 ∷ x_as_array ∷ [])
    -- a declaration that is not the script's first
    ∷ file (x8 ∷ yx9 ∷ [])
    ∷ file (yx9 ∷ x8 ∷ [])
    -- another kind
    ∷ file (x8 ∷ x_as_array ∷ [])
    ∷ file (x8 ∷ x_as_function ∷ [])
    ∷ file (x_as_array ∷ x_as_function ∷ [])
    -- the widths of an array; the arguments and the width of a function
    ∷ file (x_as_array ∷ x_other_index ∷ [])
    ∷ file (x_as_array ∷ x_other_value ∷ [])
    ∷ file (x_of_two ∷ x_of_two_turned ∷ [])
    ∷ file (x_of_two ∷ x_as_function ∷ [])
    ∷ file (x_of_two ∷ x_of_two_wider ∷ [])
    -- 13 and 9 of the first script that is refused, also where a name has two meanings before it
    ∷ file (x8 ∷ no_script ∷ wide ∷ [])
    ∷ file (x8 ∷ wide ∷ no_script ∷ [])
    ∷ file (x8 ∷ x9 ∷ no_script ∷ [])
    -- bytes after the last check-sat line
    ∷ (file (x8 ∷ x9 ∷ []) ++ bytes "x")
    ∷ bytes "(check-sat)"
    -- more than 64 check-sat lines, before all else
    ∷ file (replicate 65 "(check-sat)\n")
    ∷ file (replicate 64 "(check-sat)\n")
    ∷ []

refused-are : answers_of refused
    ≡ told 17 1 ∷ told 17 2 ∷ told 17 1 ∷ told 17 1 ∷ told 17 1 ∷ told 17 1 ∷ told 17 1 ∷ told 17 1 ∷ told 17 1 ∷ told 17 1 ∷ told 17 1 ∷ told 17 1 ∷ told 17 1 ∷ told 13 1 ∷ told 9 1 ∷ told 13 2 ∷ told 13 2 ∷ told 13 0 ∷ told 9 64 ∷ told 13 0 ∷ []
unfolding
    joined begins until_check following_script cut_up_to scripts_of nodes_within column_within arena_within within_limits record_bytes records_bytes inputs limits_passed
    all_read same_meaning all_declared differ disagree earliest to_read read_refusal declarations_in meaning_answer read_in_order scripts_answer release_answer
refused-are = refl
