-- The steps of rebuilding a script's problem.
use Rattle.std.specs.Prelude.{ℕ, ◌+◌, ◌-◌, ◌≤◌, ◌≡◌, List, [], map, T, length, take, Result, Ok, Err, None, Bool}
use Rattle.std.proofs.Common.{sym, subst, ⊎_elim, arith}
use Rattle.std.proofs.Math.Option.{none}
use Rattle.std.proofs.lemmas.List.{length-map}
use Rattle.lists.specs.Tests.{no→false}
use Rattle.reading.specs.Trees.{Tree, Variable, Array, Function, Declarations, Reading}
use Rattle.readback.specs.Printable.{variable_names_in, array_names_in, function_names_in}
use Rattle.readback.specs.Rebuild.{node_of, placed, rebuild}
use Rattle.readback.specs.ScriptReader.{reading_in, trees_from}
use Rattle.readback.specs.ReadAnswers.{limits_passed}
use Rattle.script_entries.specs.Entries.{variables_of, arrays_of, names_of, Known}
use Rattle.script_calls.specs.Flags.{Flagged}
use Rattle.script_fill.specs.Filling.{Few}
use Rattle.header_laws.specs.Body.{reading_of, AssertionsAt}
use Rattle.heap_laws.specs.Heap.{Held, Stacked}
use Rattle.heap_laws.specs.declared.Heap.{Heap}
use Rattle.script_names.specs.declared.Table.{Table}
use Rattle.script_header.specs.declared.Header.{Header}
use Rattle.script_place.specs.declared.Unread.{Unread}
use Rattle.script_place.specs.declared.Unread.TheVariants.{NoScript, Limit}
use Rattle.script_rebuild.specs.Limits.{TablesWithin, Passes, passes, roots-counted}
use Rattle.place_script.specs.Scripts.{Ready, ScriptTo, RootsIn}
use Rattle.script_rebuild.specs.ArenaLengths.{ArenasAre}
use Rattle.script_check.specs.Check.{Topped, BodyAt, BodyTo}
use Rattle.script_check.specs.Turns.{body-none, body_checked}
use Rattle.script_rebuild.specs.declared.Arenas.{Arenas}
use Rattle.script_rebuild.specs.Rebuilt.{RebuiltTo}

-- ---------------------------------------------------------------- tables

-- the header's numbers count the names
pub record Counts (h : Header) (D : Declarations) : Type 0 where
  pub variables : variables_of h ≡ length (variable_names_in D)
  pub arrays : arrays_of h ≡ variables_of h + length (array_names_in D)
  pub functions : names_of h ≡ arrays_of h + length (function_names_in D)

pub counts : (s : List ℕ) (t : Table) (h : Header) (D : Declarations) → Known s t h D → Counts h D
counts s t h D k =
    let v = length-map D.variables (λ (x : Variable). x.name) in
    let a = length-map D.arrays (λ (x : Array). x.name) in
    let f = length-map D.functions (λ (x : Function). x.name) in
    record { variables = omega (arith, v, k.variables); arrays = omega (arith, a, k.arrays); functions = omega (arith, f, k.functions) }

-- tables with so few entries have few names
pub few-entries : {s : List ℕ} {t : Table} {h : Header} {D : Declarations} → Known s t h D → variables_of h ≤ 512 → arrays_of h - variables_of h ≤ 512 → names_of h - arrays_of h ≤ 512
    → Few s t h D
few-entries k v a f = record { known = k; few = omega (arith, k.arrays, k.functions) }

-- ---------------------------------------------------------------- the answer

-- the names and the functions that tables within their limits have
pub few-names : {s : List ℕ} {t : Table} {h : Header} {D : Declarations} → Known s t h D → TablesWithin D → names_of h ≤ 1536
few-names {s} {t} {h} {D} k w =
    let c = counts s t h D k in
    omega (arith, c.variables, c.arrays, c.functions, w.variables.entries, w.arrays.entries, w.functions.entries)

pub few-functions : (D : Declarations) → TablesWithin D → length D.functions ≤ 512
few-functions D w = let f = length-map D.functions (λ (x : Function). x.name) in omega (arith, f, w.functions.entries)

-- the bytes from place `from` on are no script's, or they are
abbrev pub OverTo : List ℕ → Declarations → ℕ → Unread → Type 0
OverTo s D from NoScript = BodyTo s D from None
OverTo s D from Limit = (n : ℕ) × BodyAt s D from from n

module _ {s : List ℕ} {t : Table} {h : Header} {from : ℕ} (x : Topped s t h from) where
  abbrev D : Declarations
  D = x.declarations

  abbrev r : List Tree → Reading
  r ts = reading_of D ts

  -- every script that the bytes are passes a limit
  over : (heap : Heap) (roots : List ℕ) → ((ts : List Tree) → AssertionsAt s D from ts → Passes (r ts) → ⊥) → (o : Unread) → OverTo s D from o → RebuiltTo s t heap roots (Err o)
  over heap roots f NoScript b = body-none x b
  over heap roots f Limit (_, b) = (r b.trees, (body_checked x b).reading, no→false (limits_passed (rebuild (r b.trees))) (λ p. f b.trees b.assertions (passes (r b.trees) p)))

  pub over-tables : (heap : Heap) (roots : List ℕ) → (TablesWithin D → ⊥) → (o : Unread) → OverTo s D from o → RebuiltTo s t heap roots (Err o)
  over-tables heap roots w = over heap roots (λ ts _ p. w (record { variables = p.variables; arrays = p.arrays; functions = p.functions }))

  module _ {flags : List Bool} {heap₀ : Heap} {roots₀ : List ℕ} (w : TablesWithin D) (f : (D : Declarations) (ts : List Tree) → Known s t h D → AssertionsAt s D from ts → Flagged D (trees_from ts) flags)
      (k : Held heap₀ []) (m : Stacked s heap₀ []) (z : length roots₀ ≡ 256) (heap : Heap) (roots : List ℕ) (b : Result ℕ Unread) where
    -- what placing the script's nodes asks, and what it says
    ready : (ts : List Tree) → AssertionsAt s D from ts → Ready s t h flags heap₀ roots₀ from D ts
    ready ts a = record { known = x.known; functions = few-functions D w; assertions = a; flagged = f D ts x.known a; held = k; stacked = m; long = z }

    module _ (y : (D : Declarations) (ts : List Tree) → Ready s t h flags heap₀ roots₀ from D ts → ScriptTo heap roots D ts b) where
      placed_by : {c : Result ℕ Unread} → b ≡ c → (ts : List Tree) → AssertionsAt s D from ts → ScriptTo heap roots D ts c
      placed_by q ts a = subst (ScriptTo heap roots D ts) q (y D ts (ready ts a))

      pub over-items : b ≡ Err Limit → (o : Unread) → OverTo s D from o → RebuiltTo s t heap roots (Err o)
      over-items q = over heap roots (λ ts a p. ⊎_elim (λ e. subst T e p.items) (λ l. omega (arith, l, roots-counted D ts, p.roots)) (placed_by q ts a))

      pub whole : {n : ℕ} {a : Arenas} → ArenasAre D a → b ≡ Ok n → RootsIn s D from b → RebuiltTo s t heap roots (Ok (record { header = h; arenas = a; roots = n }))
      whole {n} y q v =
          let (c, l) = subst (RootsIn s D from) q v in
          let (i, j) = placed_by q c.trees c.assertions in (
            record {
              declarations = D;
              trees = c.trees;
              reading = (body_checked x c).reading;
              known = x.known;
              passes = record { items = i.inside; roots = omega (arith, l, roots-counted D c.trees, c.roots); variables = w.variables; arrays = w.arrays; functions = w.functions };
              held = i;
              counted = c.roots;
              rooted = subst (λ (k : ℕ). take k roots ≡ map (node_of (placed (r c.trees)).items) (placed (r c.trees)).refs) (sym c.roots) j;
            },
            y,
          )

  pub none-placed : {b : Result ℕ Unread} → RootsIn s D from b → b ≡ Err NoScript → reading_in s ≡ none
  none-placed v q = body-none x (subst (RootsIn s D from) q v)
