-- Array widths chosen per array: where a width is refused, and what the arrays of a script are declared with.
use Rattle.std.specs.Prelude.{ℕ, ◌≤◌, ◌<◌, ◌≡◌, List, [], ◌∷◌, not, ◌↔◌, T, length, get_or}
use Rattle.reading.specs.Trees.{Array}
use Rattle.echo_spec.specs.Input.{Problem, ArrayWidths, array_widths, pass_within, within_limits, encoded, dag_of, aname_table}
use Rattle.echo_spec.specs.Widths.{array_widths_ok}
use Rattle.echo_spec.specs.Tables.{one_length, columns_ok}
use Rattle.echo_spec.specs.Answers.{reading, ext_wf_answer, echo_ext_answer}
use Rattle.theorems.specs.Answered.{accepted-whole, printed}
use Rattle.theorems.specs.ArrayAnswered.{array-refusal, width-array-refusal, array-declared}
use Rattle.claims.specs.Claims.{Accepts, equal-scripts}

-- 12 is answered only, and always, where the inputs are within their limits and encoded, all columns are of one length, and a width in
-- the array table is 0 or above 65,536: whether a node selects from the array or not, and whatever else is wrong.
pub array-widths-refused : (p : Problem) (lent : List ℕ) → ((echo_ext_answer p lent).number ≡ 12)
    ↔ (T (within_limits p) × T (encoded p.nodes p.bits) × T (columns_ok (dag_of p)) × T (not (array_widths_ok (array_widths p))))
array-widths-refused = array-refusal

-- So it is in the width pass called by itself, where the two columns have to be of one length.
pub pass-widths-refused : (nodes bits side : List ℕ) (arrays : ArrayWidths) (lent : List ℕ) → ((ext_wf_answer nodes bits side arrays lent).number ≡ 12)
    ↔ (T (pass_within nodes bits side arrays) × T (encoded nodes bits) × T (one_length (arrays.index ∷ arrays.value ∷ [])) × T (not (array_widths_ok arrays)))
pass-widths-refused = width-array-refusal

-- The arrays of an accepted problem are declared by their names and the widths that the table has for them, each from 1 to 65,536.
pub declared-widths : (p : Problem) (lent : List ℕ) → Accepts p lent → (k : ℕ) → k < length p.aname_start → (past : Array)
    → (get_or (reading p).declarations.arrays k past
    ≡ record { name = get_or (aname_table (dag_of p)) k []; index = get_or p.index_width k 32; value = get_or p.value_width k 8 })
    × (k < length p.index_width) × (k < length p.value_width)
    × (0 < get_or p.index_width k 32) × (get_or p.index_width k 32 ≤ 65536)
    × (0 < get_or p.value_width k 8) × (get_or p.value_width k 8 ≤ 65536)
declared-widths p lent a = array-declared p (accepted-whole p lent a).0

-- Two accepted problems whose arrays are declared differently, in a name or in a width, have different scripts.
pub other-arrays : (p p' : Problem) (lent lent' : List ℕ) → Accepts p lent → Accepts p' lent'
    → ((reading p).declarations.arrays ≡ (reading p').declarations.arrays → ⊥) → printed p ≡ printed p' → ⊥
other-arrays p p' lent lent' a a' far e = far (λ i. (((equal-scripts p p' lent lent' a a').0 e).0 i).arrays)
