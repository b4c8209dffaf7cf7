-- Computed examples of what `echo_formulas` answers.
use Rattle.std.specs.Prelude.{ℕ, List, [], ◌∷◌, ◌≡◌, refl}
use Prim.Native.String.{String}
use Rattle.reading.specs.Kinds.{Eq, Neg, Mul}
use Rattle.echo_spec.specs.Input.{Problem}
use Rattle.echo_spec.specs.Answers.{Answer}
use Rattle.echo_spec.specs.Examples.{node, problem, lent, refused, accepted, sum, Example, given, wanted, all_meet}
use Rattle.lets.specs.LetExamples.{over}
use Rattle.formula_text.specs.Notation.{notations, level, placed, later, parted, application, call_text, operand_texts, applied, formula, formulas}
use Rattle.formula_answers.specs.Answers.{formula_lines, echo_formulas_answer}

abbrev writes : String → Problem → ℕ → (ℕ → Answer) → Example Answer
writes label p room wanted = record { label = label; given = echo_formulas_answer p (lent room); wanted = wanted room }

pub formula_cases : List (Example Answer)
formula_cases =
    writes "no roots: length 0" (problem [] [] [] [] [] [] []) 40 (accepted 0 "")
    ∷ writes "a line" (over (sum ∷ node Eq 2 0 0 0 ∷ []) (3 ∷ []) "x") 40 (accepted 24 "|x| + #b00000101 == |x|\n")
    ∷ writes "room for it alone" (over (sum ∷ node Eq 2 0 0 0 ∷ []) (3 ∷ []) "x") 24 (accepted 24 "|x| + #b00000101 == |x|\n")
    ∷ writes "one byte short" (over (sum ∷ node Eq 2 0 0 0 ∷ []) (3 ∷ []) "x") 23 (refused 10)
    ∷ writes "a line for each root" (over (node Eq 0 1 0 0 ∷ node Neg 0 0 0 0 ∷ node Eq 3 1 0 0 ∷ []) (4 ∷ 2 ∷ []) "x") 60 (accepted 37 "-|x| == #b00000101\n|x| == #b00000101\n")
    ∷ writes "a pair of brackets" (over (sum ∷ node Mul 0 2 0 0 ∷ node Eq 3 0 0 0 ∷ []) (4 ∷ []) "x") 60 (accepted 32 "|x| * (|x| + #b00000101) == |x|\n")
    ∷ writes "a shared operator" (over (sum ∷ node Eq 2 2 0 0 ∷ []) (3 ∷ []) "x") 60 (refused 6)
    ∷ writes "a root that is no Bool" (over (sum ∷ []) (2 ∷ []) "x") 60 (refused 3)
    ∷ writes "the same without room: 10 comes last" (over (sum ∷ []) (2 ∷ []) "x") 0 (refused 3)
    ∷ []

-- (whoever unfolds this unfolds the definitions named under it)
unfoldable pub formulas_meet : List (Example Answer) → Type 0
unfolding all_meet echo_formulas_answer formula_lines formulas formula level notations placed later parted application call_text operand_texts applied
formulas_meet es = given es ≡ wanted es

pub formula-cases : given formula_cases ≡ wanted formula_cases
unfolding formulas_meet formula_cases
formula-cases = refl
