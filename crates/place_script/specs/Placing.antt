-- The assertions of a script, placed as they are checked: what holds at each turn, whether or not the bytes are a script.
use Rattle.std.specs.Prelude.{ℕ, ◌+◌, ◌≤◌, ◌<◌, ◌≡◌, List, [], Bool, true, false, length, drop, set, Result, Ok, Err, None}
use Rattle.std.proofs.Common.{ap, ◌∙◌, subst, arith, length-set}
use Rattle.std.proofs.Math.Option.{none, some}
use Rattle.lists.specs.Bytes.{bytes}
use Rattle.lists.specs.Places.{grows-length}
use Rattle.reading.specs.Trees.{Tree, variable, constant, apply, select, call, Declarations}
use Rattle.echo_spec.specs.TreeSorts.{bool, tree_sort}
use Rattle.readback.specs.Rebuild.{Item, pending, ended, put}
use Rattle.readback.specs.Reader.{took, expect}
use Rattle.readback.specs.ScriptReader.{read_assertion}
use Rattle.rebuilt.specs.Constants.{constant-ok}
use Rattle.heap_laws.specs.Heap.{bits_at, Held, Stacked}
use Rattle.heap_laws.specs.declared.Heap.{Heap}
use Rattle.place_laws.specs.Room.{put-grows}
use Rattle.script_entries.specs.Entries.{Known}
use Rattle.script_terms.specs.States.{sort_from}
use Rattle.script_check.specs.Check.{BodyTo, EndsTo}
use Rattle.script_check.specs.Steps.{Going, no_word, going_start}
use Rattle.script_check.specs.Turns.{turn-none, turn-bits, turn-open, turn-less, turn_more}
use Rattle.script_place.specs.declared.Unread.{Unread}
use Rattle.script_place.specs.declared.Unread.TheVariants.{NoScript, Limit}
use Rattle.script_place.specs.declared.Operand.{Operand}
use Rattle.script_place.specs.declared.Operand.TheVariants.{Node, Constant as Digits}
use Rattle.script_place.specs.declared.Placed.{Placed}
use Rattle.script_names.specs.declared.Table.{Table}
use Rattle.script_header.specs.declared.Header.{Header}
use Rattle.script_terms.specs.declared.Sorted.{Sorted}
use Rattle.script_place.specs.Terms.{Term, State, ref_of, PlacedAs, PlacedAt}
use Rattle.script_place.specs.Turning.{term_told}
use Rattle.place_script.specs.Roots.{Asserted, RootsTo, Asserting, asserting-start, asserting-end, assertion_term, assertion_state, assertion-over, assertion-many, assertion-next-one}
use Rattle.place_script.specs.Scripts.{RootsIn}

-- What placing the assertions says: what the bytes are, whatever was there before; and their nodes, where they are a script's.
pub record PlacedRoots (s : List ℕ) (t : Table) (h : Header) (heap : Heap) (from : ℕ) (heap' : Heap) (roots' : List ℕ) (r : Result ℕ Unread) : Type 0 where
  pub reads : (D : Declarations) → Known s t h D → RootsIn s D from r
  pub placed : (D : Declarations) (ts : List Tree) (first : List Item) → Asserted s t h heap from D ts first → RootsTo s heap' roots' D ts first r

-- k assertions are read and placed, and place p is after them
pub record Placing (s : List ℕ) (t : Table) (h : Header) (heap₀ : Heap) (from : ℕ) (heap : Heap) (roots : List ℕ) (k p : ℕ) : Type 0 where
  pub reads : (D : Declarations) → Known s t h D → Going s D from p k
  pub declarations : Declarations
  pub known : Known s t h declarations
  pub state : State declarations s heap 0
  pub asserting : (D : Declarations) (ts : List Tree) (first : List Item) → Asserted s t h heap₀ from D ts first → Asserting s t h heap roots D ts first k p
  pub long : length roots ≡ 256
  pub few : k ≤ 256

pub placing-start : {s : List ℕ} {t : Table} {h : Header} {heap : Heap} {from : ℕ} {D : Declarations} {first : List Item} (roots : List ℕ) → Known s t h D → Held heap first → Stacked s heap []
    → length D.variables ≤ length first → from ≤ length s → length roots ≡ 256 → Placing s t h heap from heap roots 0 from
placing-start {s} {t} {h} {heap} {from} {D} {first} roots κ k m v l z = record {
  reads = λ E _. going_start s E from l;
  declarations = D;
  known = κ;
  state = record { items = first; held = k; variables = v; refs = []; stacked = m; side = 0; waiting = omega arith; few = omega arith };
  asserting = λ E ts i a. asserting-start roots z a;
  long = z;
  few = omega arith;
}

-- an assertion is no constant
no-constant : {C : Type 0} (D : Declarations) (items : List Item) (u : Tree) (bs : List ℕ) → tree_sort D u ≡ some bool → (put D u items).ref ≡ pending bs → C
unfolding put ended
no-constant D items (variable n) bs e q = absurd (let z : ◌≡◌ {A = ℕ} 0 1 = cc in omega arith)
no-constant D items (constant cs) bs e q = let (_, z) = constant-ok D cs bool e in absurd (let y : ◌≡◌ {A = ℕ} 0 1 = cc in omega arith)
no-constant D items (apply m ks us) bs e q = absurd (let z : ◌≡◌ {A = ℕ} 0 1 = cc in omega arith)
no-constant D items (select x j ss) bs e q = absurd (let z : ◌≡◌ {A = ℕ} 0 1 = cc in omega arith)
no-constant D items (call n us) bs e q = absurd (let z : ◌≡◌ {A = ℕ} 0 1 = cc in omega arith)

no-roots : {s : List ℕ} {t : Table} {h : Header} {heap : Heap} {from : ℕ} {heap' : Heap} {roots' : List ℕ} → ((D : Declarations) → Known s t h D → BodyTo s D from None) → PlacedRoots s t h heap from heap' roots' (Err NoScript)
no-roots k = record { reads = k; placed = λ D ts first a. tt }

module _ {s : List ℕ} {t : Table} {h : Header} {heap₀ : Heap} {from : ℕ} {heap : Heap} {roots : List ℕ} {k p : ℕ} (x : Placing s t h heap₀ from heap roots k p) where
  -- ---------------------------------------------------------------- the last line

  module _ (e : expect (bytes "(assert ") (drop p s) ≡ none) (l : from ≤ length s) {r : Bool}
      (y : (D : Declarations) (from n : ℕ) → from ≤ length s → Going s D from p n → read_assertion D (drop p s) ≡ none → EndsTo s D from n r) where
    ends_as : {b : Bool} → r ≡ b → (D : Declarations) → Known s t h D → EndsTo s D from k b
    ends_as q D κ = subst (EndsTo s D from k) q (y D from k l (x.reads D κ) (no_word D (drop p s) e))

    pub last-roots : r ≡ true → PlacedRoots s t h heap₀ from heap roots (Ok k)
    last-roots q = record { reads = λ D κ. (ends_as q D κ, x.few); placed = λ D ts first a. asserting-end (x.asserting D ts first a) e k }

    pub last_none : r ≡ false → PlacedRoots s t h heap₀ from heap roots (Err NoScript)
    last_none q = no-roots (ends_as q)

  -- ---------------------------------------------------------------- an assertion

  module _ (b : ℕ) (e : expect (bytes "(assert ") (drop p s) ≡ took [] (drop b s)) {heap₁ : Heap} where
    -- NO TERM, or NO ROOM.
    pub not-roots : (u : Unread) → PlacedAt s t h heap b 0 heap₁ (Err u) → PlacedRoots s t h heap₀ from heap₁ roots (Err u)
    not-roots NoScript y = no-roots (λ D κ. turn-none (x.reads D κ) b e (y.sorted D κ))
    not-roots Limit y = record {
      reads = λ D κ. tt;
      placed = λ D ts first a. let u = x.asserting D ts first a in assertion-over u b e (y.placed (assertion_term u b e) (assertion_state u b e));
    }

    module _ (z : Placed) (y : PlacedAt s t h heap b 0 heap₁ (Ok z)) where
      abbrev sort : Sorted
      sort = record { sort = z.width; end = z.end }

      -- A CONSTANT is no Bool.
      pub constant-roots : (d : ℕ) → z.operand ≡ Digits d → PlacedRoots s t h heap₀ from heap₁ roots (Err NoScript)
      constant-roots d q = no-roots (λ D κ. turn-bits (x.reads D κ) b e sort (y.sorted D κ) no_bool)
        where
          no_bool : z.width ≡ 0 → ⊥
          no_bool i =
              let u : Term s t h b = term_told z.width z.end x.known (y.sorted x.declarations x.known) in
              no-constant x.declarations x.state.items u.tree (bits_at s d) (u.sorted ∙ ap (λ (n : ℕ). some (sort_from n)) i) ((y.placed u x.state).0.is ∙ ap (ref_of s) q)

      pub node-high : z.end ≤ length s
      node-high = (y.sorted x.declarations x.known).1

      -- A BIT-VECTOR.
      pub bits-roots : (z.width ≡ 0 → ⊥) → PlacedRoots s t h heap₀ from heap₁ roots (Err NoScript)
      bits-roots m = no-roots (λ D κ. turn-bits (x.reads D κ) b e sort (y.sorted D κ) m)

      -- A BOOL, and something else than the end of the line.
      pub open-roots : z.width ≡ 0 → expect (bytes ")\n") (drop z.end s) ≡ none → PlacedRoots s t h heap₀ from heap₁ roots (Err NoScript)
      open-roots m c = no-roots (λ D κ. turn-open (x.reads D κ) b e sort (y.sorted D κ) m c)

      -- A ROOT TOO MANY.
      pub many-roots : k ≡ 256 → PlacedRoots s t h heap₀ from heap₁ roots (Err Limit)
      many-roots m = record { reads = λ D κ. tt; placed = λ D ts first a. assertion-many (x.asserting D ts first a) b e m }

      -- ONE ROOT MORE.
      module _ (j : z.width ≡ 0) (l : b ≤ length s) (m : ℕ) (n : m ≤ length s) (c : expect (bytes ")\n") (drop z.end s) ≡ took [] (drop m s)) where
        pub roots-further : p < m
        roots-further = turn-less (x.reads x.declarations x.known) b e sort (y.sorted x.declarations x.known) l m n c

        pub roots-next : (i : ℕ) → z.operand ≡ Node i → (k ≡ 256 → ⊥) → Placing s t h heap₀ from heap₁ (set roots k i) (k + 1) m
        roots-next i q o =
            let u : Term s t h b = term_told z.width z.end x.known (y.sorted x.declarations x.known) in
            let (a, _) = y.placed u x.state in
            let g = grows-length x.state.items (put x.declarations u.tree x.state.items).items (put-grows x.declarations u.tree x.state.items) in
            let v = x.state.variables in
            let r = x.few in
            let less : k < 256 = below k o r in
            record {
              reads = λ D κ. turn_more (x.reads D κ) b e sort (y.sorted D κ) j l m n c;
              declarations = x.declarations;
              known = x.known;
              state = record {
                items = (put x.declarations u.tree x.state.items).items;
                held = a.held;
                variables = omega arith;
                refs = x.state.refs;
                stacked = a.stacked;
                side = x.state.side;
                waiting = x.state.waiting;
                few = x.state.few;
              };
              asserting = λ D ts first v.
                  let w = x.asserting D ts first v in
                  assertion-next-one w b e heap₁ i z.width z.end
                  (subst (λ (o : Operand). PlacedAs (assertion_term w b e) (assertion_state w b e) heap₁ (Ok (record { operand = o; width = z.width; end = z.end }))) q
                  (y.placed (assertion_term w b e) (assertion_state w b e))) less m n c;
              long = length-set roots k i ∙ x.long;
              few = omega arith;
            }
          where
            below : (k : ℕ) → (k ≡ 256 → ⊥) → k ≤ 256 → k < 256
            below k o r = omega arith
