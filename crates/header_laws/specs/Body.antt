-- What follows the header: assertions, the last line, and nothing more. Each assertion is a Bool under the declarations.
use Rattle.std.specs.Prelude.{ℕ, ◌≤◌, ◌<◌, ◌≡◌, List, ◌&&◌, cond, T, length, drop}
use Rattle.std.proofs.Math.Option.{Option, none, some}
use Rattle.lists.specs.Bytes.{bytes}
use Rattle.reading.specs.Trees.{Tree, Declarations, Reading}
use Rattle.echo_spec.specs.TreeSorts.{all_bool}
use Rattle.readback.specs.Reader.{Took, took, and_then, expect}
use Rattle.readback.specs.ScriptReader.{many, read_assertion, trees_from, is_empty}

-- the last line
abbrev pub last_line : List ℕ
last_line = bytes "(check-sat)\n"

-- as many assertions as there are, and the last line
unfoldable pub assertions_in : ℕ → Declarations → List ℕ → Option (Took (List Tree))
assertions_in f D b = and_then (many (read_assertion D) f b) (λ ts q. and_then (expect last_line q) (λ _ z. took ts z))

abbrev pub reading_of : Declarations → List Tree → Reading
reading_of D ts = record { declarations = D; assertions = trees_from ts }

-- nothing may follow, and every assertion is a Bool
unfoldable pub if_bools : Declarations → Option (Took (List Tree)) → Option Reading
if_bools D none = none
if_bools D (some t) = cond (is_empty t.rest && all_bool D (trees_from t.value)) (some (reading_of D t.value)) none

-- the reading of a script with these declarations, by the bytes after its header
unfoldable pub body_in : ℕ → Declarations → List ℕ → Option Reading
body_in f D b = if_bools D (assertions_in f D b)

-- These trees are the assertions from place a on, each a Bool, and the last line ends the script.
pub record AssertionsAt (s : List ℕ) (D : Declarations) (a : ℕ) (ts : List Tree) : Type 0 where
  pub place : a ≤ length s
  pub read : (f : ℕ) → length s < f → many (read_assertion D) f (drop a s) ≡ took ts last_line
  pub bools : T (all_bool D (trees_from ts))
