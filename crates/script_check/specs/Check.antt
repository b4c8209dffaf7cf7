-- What checking a script tells: that it has no reading, or which it has and where its assertions begin.
use Rattle.std.specs.Prelude.{ℕ, suc, ◌≤◌, ◌<◌, ◌≡◌, List, Bool, true, false, length, drop}
use Rattle.std.specs.Prelude.{Option as Maybe, Some, None}
use Rattle.std.proofs.Math.Option.{none, some}
use Rattle.reading.specs.Trees.{Tree, Declarations}
use Rattle.readback.specs.Reader.{took}
use Rattle.readback.specs.ScriptReader.{reading_in}
use Rattle.script_names.specs.declared.Table.{Table}
use Rattle.script_header.specs.declared.Header.{Header}
use Rattle.script_header.specs.Header.{header_in}
use Rattle.script_entries.specs.Entries.{Known}
use Rattle.header_laws.specs.Body.{reading_of, body_in, AssertionsAt}

-- The script has a header up to place e; its declarations are known.
pub record Topped (s : List ℕ) (t : Table) (h : Header) (e : ℕ) : Type 0 where
  pub declarations : Declarations
  pub known : Known s t h declarations
  pub place : e ≤ length s
  pub read : header_in (suc (length s)) s ≡ took declarations (drop e s)

abbrev pub TopTo : List ℕ → Table → Maybe Header → Type 0
TopTo s t None = reading_in s ≡ none
TopTo s t (Some h) = Topped s t h h.end

-- The script has a reading; its declarations are known, and its n assertions begin at place a.
pub record Checked (s : List ℕ) (t : Table) (h : Header) (a n : ℕ) : Type 0 where
  pub declarations : Declarations
  pub trees : List Tree
  pub reading : reading_in s ≡ some (reading_of declarations trees)
  pub known : Known s t h declarations
  pub assertions : AssertionsAt s declarations a trees
  pub roots : n ≡ length trees

-- the same of the bytes after the header, under the declarations D
pub record BodyAt (s : List ℕ) (D : Declarations) (from a n : ℕ) : Type 0 where
  pub trees : List Tree
  pub start : a ≡ from
  pub read : (f : ℕ) → length s < f → body_in f D (drop from s) ≡ some (reading_of D trees)
  pub assertions : AssertionsAt s D from trees
  pub roots : n ≡ length trees

abbrev pub BodyTo : List ℕ → Declarations → ℕ → Maybe ℕ → Type 0
BodyTo s D from None = (f : ℕ) → length s < f → body_in f D (drop from s) ≡ none
BodyTo s D from (Some n) = BodyAt s D from from n

-- n assertions and the last line, or no reading
abbrev pub EndsTo : List ℕ → Declarations → ℕ → ℕ → Bool → Type 0
EndsTo s D from n true = BodyAt s D from from n
EndsTo s D from n false = BodyTo s D from None
