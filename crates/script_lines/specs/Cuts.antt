-- What a cut of a file at its check-sat lines is. That each file has one is in proofs/Cuts.antt.
use Rattle.std.specs.Prelude.{ℕ, ◌≡◌, List, ◌++◌}
use Rattle.std.proofs.Math.Option.{none}
use Rattle.script_lines.specs.Lines.{AllScripts, joined, following_script, Cut}

-- ---------------------------------------------------------------- any file

-- what a cut is: scripts, then what has no check-sat line, and together the file
pub record CutOf (f : List ℕ) (c : Cut) : Type 0 where
  pub scripts : AllScripts c.scripts
  pub rest : following_script c.rest ≡ none
  pub text : joined c.scripts ++ c.rest ≡ f
