-- The signs of formulas: for each kind its level and what is written of it by itself. Assumes nothing.
use Rattle.std.specs.Prelude.{ℕ, List, ◌++◌}
use Rattle.lists.specs.Bytes.{bytes}
use Rattle.reading.specs.Trees.{Name}
use Rattle.echo_spec.specs.Render.{symbol_of}
use Rattle.formula_text.specs.Notation.{Notation, between, before, named, notation_of, level_as}

-- an operator between its operands with a blank on each side; one before its operand; a name with the parenthesis behind it
unfoldable pub sign_text : Notation → Name → List ℕ
sign_text (between l s) name = bytes " " ++ (bytes s ++ bytes " ")
sign_text (before s) name = bytes s
sign_text named name = name ++ bytes "("

unfoldable pub sign_of : ℕ → List ℕ
sign_of k = sign_text (notation_of k) (symbol_of k)

abbrev pub level_of : ℕ → ℕ
level_of k = level_as (notation_of k)
