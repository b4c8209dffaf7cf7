-- The nodes of a whole script: variables, functions that are not called, assertions.
use Rattle.std.specs.Prelude.{ℕ, ◌≤◌, ◌<◌, ◌≡◌, List, [], map, false, ◌⊎◌, length, take, Result, Ok, Err, None, Bool}
use Rattle.std.proofs.Math.Path.{ap}
use Rattle.std.proofs.Common.{subst, inl, arith}
use Rattle.std.proofs.lemmas.List.{length-map}
use Rattle.lists.specs.Places.{grows-length}
use Rattle.reading.specs.Trees.{Tree, Variable, Declarations}
use Rattle.readback.specs.ScriptReader.{trees_from}
use Rattle.readback.specs.Rebuild.{Item, a_variable, node_of, PutAll, put_all, variable_items, placed}
use Rattle.header_laws.specs.Body.{reading_of, AssertionsAt}
use Rattle.heap_laws.specs.Heap.{within, Held, Stacked}
use Rattle.heap_laws.specs.declared.Heap.{Heap}
use Rattle.heap_laws.specs.Within.{over-grows}
use Rattle.place_laws.specs.Room.{put-all-grows}
use Rattle.script_entries.specs.Entries.{Known}
use Rattle.script_calls.specs.Flags.{Flagged}
use Rattle.place_script.specs.Roots.{Asserted, RootsTo}
use Rattle.script_place.specs.declared.Unread.{Unread}
use Rattle.script_place.specs.declared.Unread.TheVariants.{NoScript, Limit}
use Rattle.script_names.specs.declared.Table.{Table}
use Rattle.script_header.specs.declared.Header.{Header}
use Rattle.script_check.specs.Check.{BodyAt, BodyTo}
use Rattle.place_script.specs.Uncalled.{unflagged, unflagged-grows, flagged-as}

-- What is known of a script whose nodes are to be placed, with nothing placed yet: its declarations, its assertions from place `from` on, and
-- which functions they call.
pub record Ready (s : List ℕ) (t : Table) (h : Header) (flags : List Bool) (heap : Heap) (roots : List ℕ) (from : ℕ) (D : Declarations) (ts : List Tree) : Type 0 where
  pub known : Known s t h D
  pub functions : length D.functions ≤ 512
  pub assertions : AssertionsAt s D from ts
  pub flagged : Flagged D (trees_from ts) flags
  pub held : Held heap []
  pub stacked : Stacked s heap []
  pub long : length roots ≡ 256

-- All nodes of the script are held, and the roots are those of its assertions; or the nodes or the roots are over a limit.
abbrev pub ScriptTo : Heap → List ℕ → Declarations → List Tree → Result ℕ Unread → Type 0
ScriptTo heap roots D ts (Err NoScript) = Unit
ScriptTo heap roots D ts (Err Limit) = (within (placed (reading_of D ts)).items ≡ false) ⊎ (256 < length ts)
ScriptTo heap roots D ts (Ok n) =
    Held heap (placed (reading_of D ts)).items × (take (length ts) roots ≡ map (node_of (placed (reading_of D ts)).items) (placed (reading_of D ts)).refs)

-- what the bytes from place `from` on are, whatever was placed
abbrev pub RootsIn : List ℕ → Declarations → ℕ → Result ℕ Unread → Type 0
RootsIn s D from (Err NoScript) = BodyTo s D from None
RootsIn s D from (Err Limit) = Unit
RootsIn s D from (Ok n) = BodyAt s D from from n × (n ≤ 256)

-- the variables, and the functions that are not flagged
abbrev pub variables_only : Declarations → List Item
variables_only D = variable_items D.variables

abbrev pub before_assertions : List Bool → Declarations → List Item
before_assertions flags D = unflagged flags 0 D.functions (variables_only D)

pub variables-before : (flags : List Bool) (D : Declarations) → length D.variables ≤ length (before_assertions flags D)
variables-before flags D =
    let a = grows-length (variables_only D) (before_assertions flags D) (unflagged-grows flags 0 D.functions (variables_only D)) in
    let b : length (variables_only D) ≡ length D.variables = length-map D.variables (λ (v : Variable). a_variable v.width) in
    omega arith

module _ {s : List ℕ} {t : Table} {h : Header} {flags : List Bool} {heap₀ : Heap} {roots : List ℕ} {from : ℕ} {D : Declarations} {ts : List Tree} (r : Ready s t h flags heap₀ roots from D ts) where
  placed-as : put_all D (trees_from ts) (before_assertions flags D) ≡ placed (reading_of D ts)
  unfolding placed
  placed-as = ap (put_all D (trees_from ts)) (flagged-as D (trees_from ts) flags (variables_only D) r.flagged r.functions)

  pub uncalled-over : within (before_assertions flags D) ≡ false → (within (placed (reading_of D ts)).items ≡ false) ⊎ (256 < length ts)
  uncalled-over h = inl (subst (λ (p : PutAll). within p.items ≡ false) placed-as (over-grows (before_assertions flags D) (put_all D (trees_from ts) (before_assertions flags D)).items (put-all-grows D (trees_from ts) (before_assertions flags D)) h))

  pub variables-over : within (variables_only D) ≡ false → (within (placed (reading_of D ts)).items ≡ false) ⊎ (256 < length ts)
  variables-over h = uncalled-over (over-grows (variables_only D) (before_assertions flags D) (unflagged-grows flags 0 D.functions (variables_only D)) h)

  pub script-roots : (heap : Heap) (roots : List ℕ) (b : Result ℕ Unread) → RootsTo s heap roots D ts (before_assertions flags D) b → ScriptTo heap roots D ts b
  script-roots heap roots (Err NoScript) h = tt
  script-roots heap roots (Err Limit) h = subst (λ (p : PutAll). (within p.items ≡ false) ⊎ (256 < length ts)) placed-as h
  script-roots heap roots (Ok n) h = subst (λ (p : PutAll). Held heap p.items × (take (length ts) roots ≡ map (node_of p.items) p.refs)) placed-as h

  pub asserted : (heap : Heap) → Held heap (before_assertions flags D) → Stacked s heap [] → Asserted s t h heap from D ts (before_assertions flags D)
  asserted heap h k = record { known = r.known; held = h; stacked = k; variables = variables-before flags D; assertions = r.assertions }
