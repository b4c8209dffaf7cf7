-- What the two entry points answer to every input: a number, a length or count, and the whole output.
use Rattle.std.specs.Prelude.{ℕ, zero, suc, List, [], ◌∷◌, ◌++◌, cond, leb, eqb, length, drop, replicate}
use Rattle.echo_spec.specs.Refusals.{unless, ◌or_else◌}
use Rattle.reading.specs.Trees.{Reading}
use Rattle.echo_spec.specs.Input.{Problem, ArrayWidths, pass_within, within_limits, nodes_of, encoded, dag_of, Query, query_of}
use Rattle.echo_spec.specs.Widths.{array_widths_ok, ext_wf_of}
use Rattle.echo_spec.specs.Tables.{one_length}
use Rattle.echo_spec.specs.Trees.{reading_of}
use Rattle.echo_spec.specs.Walk.{refusal}
use Rattle.echo_spec.specs.Render.{render}

-- number 0 is an acceptance
pub record Answer : Type 0 where
  pub number : ℕ
  pub count : ℕ
  pub output : List ℕ

-- the result at the front of what was lent, the rest of it unchanged
abbrev pub at_front : List ℕ → List ℕ → List ℕ
at_front result lent = result ++ drop (length result) lent

abbrev pub zeroed : List ℕ → List ℕ
zeroed lent = replicate (length lent) 0

-- ---------------------------------------------------------------- the width pass

-- ws are the widths of the nodes before the first that is not well formed; `room` is the length of the lent slice
unfoldable pub width_refusal : List ℕ → List ℕ → List ℕ → ArrayWidths → List ℕ → ℕ → ℕ
width_refusal nodes bits side arrays ws room =
    unless (pass_within nodes bits side arrays) 9
    or_else unless (encoded nodes bits) 8
    or_else unless (one_length (arrays.index ∷ arrays.value ∷ [])) 1
    or_else unless (array_widths_ok arrays) 12
    or_else unless (eqb (length ws) (length (nodes_of nodes))) 1
    or_else unless (leb (length ws) room) 10

-- what goes with 1: the number of the node refused, or the node count where the two columns of the array table differ in length
unfoldable pub refused_node : List ℕ → ArrayWidths → List ℕ → ℕ
refused_node nodes arrays ws = cond (one_length (arrays.index ∷ arrays.value ∷ [])) (length ws) (length (nodes_of nodes))

unfoldable pub width_answer : ℕ → ℕ → List ℕ → List ℕ → Answer
width_answer zero at ws lent = record { number = 0; count = length ws; output = at_front ws lent }
width_answer (suc zero) at ws lent = record { number = 1; count = at; output = zeroed lent }
width_answer (suc (suc n)) at ws lent = record { number = suc (suc n); count = 0; output = zeroed lent }

-- nodes, bits, side entries, the widths of the arrays
unfoldable pub ext_wf_answer : List ℕ → List ℕ → List ℕ → ArrayWidths → List ℕ → Answer
ext_wf_answer nodes bits side arrays lent =
    let ws : List ℕ = ext_wf_of (length bits) arrays side (nodes_of nodes) in
    width_answer (width_refusal nodes bits side arrays ws (length lent)) (refused_node nodes arrays ws) ws lent

-- ---------------------------------------------------------------- a printer

-- the reading of a problem
abbrev pub reading : Problem → Reading
reading p = reading_of (query_of p)

unfoldable pub script : Query → List ℕ
script q = render (reading_of q)

-- The number with endless room: every check but the one for room. `asked` is the refusal of the query, by the way in which it is printed.
unfoldable pub endless_with : Problem → ℕ → ℕ
endless_with p asked = unless (within_limits p) 9 or_else unless (encoded p.nodes p.bits) 8 or_else asked

unfoldable pub endless_refusal : Problem → ℕ
endless_refusal p = endless_with p (refusal (dag_of p) (length p.bits) p.roots)

-- what a text is refused with that has this number with endless room ("room" is document 01's term: the length of the lent buffer)
unfoldable pub text_refusal : ℕ → List ℕ → ℕ → ℕ
text_refusal number text room = number or_else unless (leb (length text) room) 10

unfoldable pub echo_answer : ℕ → List ℕ → List ℕ → Answer
echo_answer zero result lent = record { number = 0; count = length result; output = at_front result lent }
echo_answer (suc n) result lent = record { number = suc n; count = 0; output = zeroed lent }

-- a text printed whole into what is lent, or refused
unfoldable pub text_answer : ℕ → List ℕ → List ℕ → Answer
text_answer number text lent = echo_answer (text_refusal number text (length lent)) text lent

unfoldable pub echo_ext_answer : Problem → List ℕ → Answer
echo_ext_answer p lent = text_answer (endless_refusal p) (script (query_of p)) lent
