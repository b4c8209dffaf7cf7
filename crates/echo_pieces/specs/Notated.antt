-- What the printer's table says of a kind is its notation. Assumes nothing.
use Rattle.std.specs.Prelude.{ℕ, ◌≡◌, Bool, true, false, List, ◌++◌, ltb}
use Rattle.lists.specs.Bytes.{bytes}
use Rattle.reading.specs.Trees.{Name}
use Rattle.echo_spec.specs.Render.{symbol_of}
use Rattle.echo_pieces.specs.declared.Notation.{Notation}
use Rattle.echo_pieces.specs.declared.Notation.TheVariants.{Between, Before, Named}
use Rattle.echo_pieces.specs.Signs.{sign_of, level_of}

abbrev pub level_in : Notation → ℕ
level_in (Between l s) = l
level_in (Before s) = 10
level_in Named = 11

-- the sign with its blanks, or the name with the parenthesis behind it
abbrev pub sign_in : Notation → Name → List ℕ
sign_in (Between l s) name = s.now
sign_in (Before s) name = s.now
sign_in Named name = name ++ bytes "("

abbrev pub is_between : Notation → Bool
is_between (Between l s) = true
is_between (Before s) = false
is_between Named = false

pub record Notated (k : ℕ) (n : Notation) : Type 0 where
  pub level : level_in n ≡ level_of k
  pub sign : sign_in n (symbol_of k) ≡ sign_of k
  -- the levels below 10 are those of operators between their operands
  pub between : is_between n ≡ ltb (level_of k) 10
