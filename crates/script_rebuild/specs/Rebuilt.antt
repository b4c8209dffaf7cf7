-- A script's problem in local arrays: what is told of it, and what the arrays hold.
use Rattle.std.specs.Prelude.{ℕ, ◌≡◌, List, map, false, length, take, Result, Ok, Err}
use Rattle.std.proofs.Math.Option.{none, some}
use Rattle.reading.specs.Trees.{Tree, Declarations, Reading}
use Rattle.readback.specs.Rebuild.{node_of, placed, rebuild}
use Rattle.readback.specs.ScriptReader.{reading_in}
use Rattle.readback.specs.ReadAnswers.{limits_passed}
use Rattle.script_entries.specs.Entries.{Known}
use Rattle.header_laws.specs.Body.{reading_of}
use Rattle.heap_laws.specs.Heap.{Held}
use Rattle.heap_laws.specs.declared.Heap.{Heap}
use Rattle.script_names.specs.declared.Table.{Table}
use Rattle.script_header.specs.declared.Header.{Header}
use Rattle.script_place.specs.declared.Unread.{Unread}
use Rattle.script_place.specs.declared.Unread.TheVariants.{NoScript, Limit}
use Rattle.script_rebuild.specs.declared.Rebuilt.{Rebuilt}
use Rattle.script_rebuild.specs.ArenaLengths.{ArenasAre}
use Rattle.script_rebuild.specs.Limits.{Passes}

-- the script has n assertions, and its problem keeps to the limits and stands in the arrays
pub record WholeProblem (s : List ℕ) (t : Table) (h : Header) (heap : Heap) (roots : List ℕ) (n : ℕ) : Type 0 where
  pub declarations : Declarations
  pub trees : List Tree
  pub reading : reading_in s ≡ some (reading_of declarations trees)
  pub known : Known s t h declarations
  pub passes : Passes (reading_of declarations trees)
  pub held : Held heap (placed (reading_of declarations trees)).items
  pub counted : n ≡ length trees
  pub rooted : take n roots ≡ map (node_of (placed (reading_of declarations trees)).items) (placed (reading_of declarations trees)).refs

abbrev pub RebuiltTo : List ℕ → Table → Heap → List ℕ → Result Rebuilt Unread → Type 0
RebuiltTo s t heap roots (Err NoScript) = reading_in s ≡ none
RebuiltTo s t heap roots (Err Limit) = (r : Reading) × (reading_in s ≡ some r) × (limits_passed (rebuild r) ≡ false)
RebuiltTo s t heap roots (Ok x) = (w : WholeProblem s t x.header heap roots x.roots) × ArenasAre w.declarations x.arenas
