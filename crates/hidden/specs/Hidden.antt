-- What `echo_hidden` answers (document 02, L10): the plain script in which each constant shows zeros.
use Rattle.std.specs.Prelude.{List, length, replicate, ℕ}
use Rattle.reading.specs.Trees.{Tree, variable, constant, apply, select, call, Trees, none, more, Stores, base, store, Reading}
use Rattle.echo_spec.specs.Input.{Problem, Query, query_of}
use Rattle.echo_spec.specs.Trees.{reading_of}
use Rattle.echo_spec.specs.Render.{render}
use Rattle.echo_spec.specs.Answers.{Answer, endless_refusal, text_answer}

-- as many zeros
unfoldable pub zeros : List ℕ → List ℕ
zeros bits = replicate (length bits) 0

-- A tree with each constant's bits made zeros. The numerals of an operator stay: a rotation's amount, which is one of them, comes from the
-- true bits.
unfoldable mutual
  pub hidden : Tree → Tree
  hidden (variable name) = variable name
  hidden (constant bits) = constant (zeros bits)
  hidden (apply kind numerals ts) = apply kind numerals (hidden_all ts)
  hidden (select array index ss) = select array (hidden index) (hidden_stores ss)
  hidden (call name ts) = call name (hidden_all ts)

  pub hidden_all : Trees → Trees
  hidden_all none = none
  hidden_all (more t ts) = more (hidden t) (hidden_all ts)

  pub hidden_stores : Stores → Stores
  hidden_stores base = base
  hidden_stores (store index value ss) = store (hidden index) (hidden value) (hidden_stores ss)

unfoldable pub hidden_reading : Reading → Reading
hidden_reading r = record { declarations = r.declarations; assertions = hidden_all r.assertions }

unfoldable pub hidden_script : Query → List ℕ
hidden_script q = render (hidden_reading (reading_of q))

-- the plain script's number with endless room, and room for the hidden script
unfoldable pub echo_hidden_answer : Problem → List ℕ → Answer
echo_hidden_answer p lent = text_answer (endless_refusal p) (hidden_script (query_of p)) lent
