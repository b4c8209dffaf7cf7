-- What is told of the meanings of names, as the code has it.
use Rattle.std.specs.Prelude.{Option, Some, None, ◌≡◌, List, [], ℕ}
use Rattle.std.proofs.Math.Option.{none, some}
use Rattle.script_lines.specs.Lines.{scripts_of}
use Rattle.releases.specs.Release.{earliest}
use Rattle.releases.specs.ReleaseScripts.{declarations_of_all}

-- the earliest script that disagrees with one before it, or that there is none
abbrev pub MeaningsTo : List ℕ → Option ℕ → Type 0
MeaningsTo file None = earliest 0 [] (declarations_of_all (scripts_of file).scripts) ≡ none
MeaningsTo file (Some k) = earliest 0 [] (declarations_of_all (scripts_of file).scripts) ≡ some k
