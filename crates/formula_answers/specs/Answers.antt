-- What `echo_formulas` answers to every input: the printer's refusals, and the map file's lines in place of the script.
use Rattle.std.specs.Prelude.{ℕ, List}
use Rattle.echo_spec.specs.Input.{Problem, Query, query_of}
use Rattle.echo_spec.specs.Trees.{reading_of}
use Rattle.echo_spec.specs.Answers.{Answer, endless_refusal, text_answer}
use Rattle.formula_text.specs.Notation.{formulas}

-- a line for each root
unfoldable pub formula_lines : Query → List ℕ
formula_lines q = formulas (reading_of q).assertions

unfoldable pub echo_formulas_answer : Problem → List ℕ → Answer
echo_formulas_answer p lent = text_answer (endless_refusal p) (formula_lines (query_of p)) lent
