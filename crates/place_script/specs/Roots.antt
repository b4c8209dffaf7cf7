-- The assertions of a script, placed one after the other, and their nodes.
use Rattle.std.specs.Prelude.{ℕ, ◌+◌, ◌*◌, ◌≤◌, ◌<◌, ◌≡◌, false, ◌⊎◌, drop, set, Result, Ok, Err}
use Rattle.std.proofs.Math.Path.{refl, ap, sym, subst}
use Rattle.std.proofs.Common.{◌∙◌, inl, inr, arith, add-one, length-set, take-suc-set}
use mathlib.Core.List.{List, [], ◌∷◌, ◌++◌, map}
use Rattle.std.proofs.Math.Option.{Option, none}
use Rattle.std.proofs.Math.ListN.{length, take}
use Rattle.lists.specs.Bytes.{bytes}
use Rattle.lists.specs.Places.{Grows, grows-length}
use Rattle.reading.specs.Trees.{Tree, none as noTrees, more, Declarations}
use Rattle.echo_spec.specs.TreeSorts.{TreeSort, bool, tree_sort}
use Rattle.readback.specs.Rebuild.{Item, Ref, here, node_of, PutAll, put, put_all}
use Rattle.readback.specs.Reader.{took, expect, read_term}
use Rattle.readback.specs.ScriptReader.{trees_from}
use Rattle.reader_laws.specs.TermsStrict.{impossible, took-both}
use Rattle.header_laws.specs.Body.{last_line, AssertionsAt}
use Rattle.header_laws.specs.Assertions.{NextAssertion, assertion-next, assertion-last}
use Rattle.heap_laws.specs.Heap.{within, Held, Stacked}
use Rattle.heap_laws.specs.declared.Heap.{Heap}
use Rattle.place_laws.specs.Room.{Room, room-before, no_room, put-grows, put-all-grows}
use Rattle.place_laws.specs.SoFar.{SoFar, so-far-start, so-far-next, so-far-end}
use Rattle.script_entries.specs.Entries.{Known}
use Rattle.script_place.specs.declared.Unread.{Unread}
use Rattle.script_place.specs.declared.Unread.TheVariants.{NoScript, Limit}
use Rattle.script_place.specs.declared.Operand.TheVariants.{Node}
use Rattle.script_names.specs.declared.Table.{Table}
use Rattle.script_header.specs.declared.Header.{Header}
use Rattle.script_place.specs.Terms.{Term, State, PlacedAs}

-- the nodes so far, before the assertions ts from place `from` on
pub record Asserted (s : List ℕ) (t : Table) (h : Header) (heap : Heap) (from : ℕ) (D : Declarations) (ts : List Tree) (first : List Item) : Type 0 where
  pub known : Known s t h D
  pub held : Held heap first
  pub stacked : Stacked s heap []
  pub variables : length D.variables ≤ length first
  pub assertions : AssertionsAt s D from ts

-- all are placed and these are their nodes, or there are too many
abbrev pub RootsTo : List ℕ → Heap → List ℕ → Declarations → List Tree → List Item → Result ℕ Unread → Type 0
RootsTo s heap roots D ts first (Err NoScript) = Unit
RootsTo s heap roots D ts first (Err Limit) = (within (put_all D (trees_from ts) first).items ≡ false) ⊎ (256 < length ts)
RootsTo s heap roots D ts first (Ok n) =
    Held heap (put_all D (trees_from ts) first).items × (take (length ts) roots ≡ map (node_of (put_all D (trees_from ts) first).items) (put_all D (trees_from ts) first).refs)

-- k assertions are placed, and the next stands at place p
pub record Asserting (s : List ℕ) (t : Table) (h : Header) (heap : Heap) (roots : List ℕ) (D : Declarations) (ts : List Tree) (first : List Item) (k p : ℕ) : Type 0 where
  pub known : Known s t h D
  pub now : List Item
  pub os : List (Option TreeSort)
  pub left : List Tree
  pub far : SoFar D (trees_from ts) first now (map here (take k roots)) os (trees_from left)
  pub held : Held heap now
  pub stacked : Stacked s heap []
  pub variables : length D.variables ≤ length now
  pub assertions : AssertionsAt s D p left
  pub count : k + length left ≡ length ts
  pub long : length roots ≡ 256

pub asserting-start : {s : List ℕ} {t : Table} {h : Header} {heap : Heap} {from : ℕ} {D : Declarations} {ts : List Tree} {first : List Item} (roots : List ℕ) → length roots ≡ 256 → Asserted s t h heap from D ts first
    → Asserting s t h heap roots D ts first 0 from
asserting-start {D = D} {ts} {first} roots l a = record {
  known = a.known;
  now = first;
  os = [];
  left = ts;
  far = so-far-start D (trees_from ts) first;
  held = a.held;
  stacked = a.stacked;
  variables = a.variables;
  assertions = a.assertions;
  count = omega arith;
  long = l;
}

-- ---------------------------------------------------------------- a turn

last-no-assertion : expect (bytes "(assert ") last_line ≡ none
unfolding expect bytes
last-no-assertion = refl

module _ {s : List ℕ} {t : Table} {h : Header} {heap : Heap} {roots : List ℕ} {D : Declarations} {ts : List Tree} {first : List Item} {k p : ℕ} (a : Asserting s t h heap roots D ts first k p) where
  -- what stands there, by what is left
  by_left : (l : List Tree) → AssertionsAt s D p l
      → (expect (bytes "(assert ") (drop p s) ≡ none → l ≡ []) × ((q : List ℕ) → expect (bytes "(assert ") (drop p s) ≡ took [] q → (u : Tree) × (us : List Tree) × (l ≡ u ∷ us))
  by_left [] x = ((λ e. refl), λ q e. absurd (impossible (sym last-no-assertion ∙ ap (expect (bytes "(assert ")) (sym (assertion-last s D p x)) ∙ e)))
  by_left (u ∷ us) x = ((λ e. absurd (impossible (sym e ∙ (assertion-next s D p u us x).one.opens))), λ q e. (u, us, refl))

  -- ---------------------------------------------------------------- the last line

  here-nodes : (q : List Item) (xs : List ℕ) → map (node_of q) (map here xs) ≡ xs
  unfolding node_of
  here-nodes q [] = refl
  here-nodes q (x ∷ xs) = ap (λ (l : List ℕ). x ∷ l) (here-nodes q xs)

  pub asserting-end : expect (bytes "(assert ") (drop p s) ≡ none → (n : ℕ) → RootsTo s heap roots D ts first (Ok n)
  unfolding trees_from
  asserting-end f _ =
      let e : a.left ≡ [] = (by_left a.left a.assertions).0 f in
      let z : SoFar D (trees_from ts) first a.now (map here (take k roots)) a.os noTrees = subst (λ (l : List Tree). SoFar D (trees_from ts) first a.now (map here (take k roots)) a.os (trees_from l)) e a.far in
      let (y, _) = so-far-end D (trees_from ts) first a.now (map here (take k roots)) a.os z in
      let n : k ≡ length ts = (let c = a.count in let d = ap length e in omega arith) in (
        subst (λ (o : PutAll). Held heap o.items) (sym y) a.held,
        ap (λ (m : ℕ). take m roots) (sym n) ∙ sym (here-nodes (put_all D (trees_from ts) first).items (take k roots)) ∙ ap (map (node_of (put_all D (trees_from ts) first).items)) (ap (λ (o : PutAll). o.refs) (sym y)),
      )

  -- ---------------------------------------------------------------- one more

  module _ (b : ℕ) (another : expect (bytes "(assert ") (drop p s) ≡ took [] (drop b s)) where
    pub one : Tree
    one = ((by_left a.left a.assertions).1 (drop b s) another).0

    pub others : List Tree
    others = ((by_left a.left a.assertions).1 (drop b s) another).1

    left_is : a.left ≡ one ∷ others
    unfolding one others
    left_is = ((by_left a.left a.assertions).1 (drop b s) another).2

    pub next_one : NextAssertion s D p one others
    next_one = assertion-next s D p one others (subst (λ (l : List Tree). AssertionsAt s D p l) left_is a.assertions)

    pub inside_is : next_one.one.inside ≡ drop b s
    inside_is = (took-both {A = List ℕ} [] [] next_one.one.inside (drop b s) (sym next_one.one.opens ∙ another)).1

    abbrev pub assertion_term : Term s t h b
    assertion_term = record {
      declarations = D;
      known = a.known;
      tree = one;
      sort = bool;
      sorted = next_one.sort;
      steps = _;
      rest = next_one.one.after;
      read = subst (λ (y : List ℕ). read_term (2 * length next_one.one.inside + 2) D y ≡ took one next_one.one.after) inside_is next_one.one.term;
    }

    abbrev pub assertion_state : State D s heap 0
    assertion_state = record {
      items = a.now;
      held = a.held;
      variables = a.variables;
      refs = [];
      stacked = a.stacked;
      side = 0;
      waiting = omega arith;
      few = omega arith;
    }

    far-one : SoFar D (trees_from ts) first a.now (map here (take k roots)) a.os (more one (trees_from others))
    unfolding trees_from
    far-one = subst (λ (l : List Tree). SoFar D (trees_from ts) first a.now (map here (take k roots)) a.os (trees_from l)) left_is a.far

    rest-grows : Grows (put D one a.now).items (put_all D (trees_from ts) first).items
    unfolding put
    rest-grows = subst (λ (u : List Item). Grows (put D one a.now).items u) (sym far-one.items) (put-all-grows D (trees_from others) (put D one a.now).items)

    -- too many
    pub assertion-over : (Room 0 0 (put D one a.now).items → ⊥) → (within (put_all D (trees_from ts) first).items ≡ false) ⊎ (256 < length ts)
    assertion-over f = inl (no_room (put_all D (trees_from ts) first).items (λ r. f (room-before 0 0 (put D one a.now).items (put_all D (trees_from ts) first).items rest-grows r)))

    -- a root too many
    pub assertion-many : k ≡ 256 → (within (put_all D (trees_from ts) first).items ≡ false) ⊎ (256 < length ts)
    assertion-many e = inr (let c = a.count in let d = ap length left_is in omega arith)

    module _ (heap' : Heap) (i w e : ℕ) (x : PlacedAs assertion_term assertion_state heap' (Ok (record { operand = Node i; width = w; end = e }))) (f : k < 256) (z : ℕ) (y : z ≤ length s)
        (closes : expect (bytes ")\n") (drop e s) ≡ took [] (drop z s)) where
      rest-is : next_one.rest ≡ drop z s
      rest-is = (took-both {A = List ℕ} [] [] next_one.rest (drop z s) (sym next_one.one.closes ∙ ap (expect (bytes ")\n")) x.0.ends ∙ closes)).1

      pub assertion-next-one : Asserting s t h heap' (set roots k i) D ts first (k + 1) z
      assertion-next-one =
          let long = a.long in
          let m = grows-length a.now (put D one a.now).items (put-grows D one a.now) in
          let v = a.variables in
          let c = a.count in
          let d = ap length left_is in
          let n : map here (take (k + 1) (set roots k i)) ≡ map here (take k roots) ++ ((put D one a.now).ref ∷ []) =
          ap (λ (j : ℕ). map here (take j (set roots k i))) (add-one k) ∙ ap (map here) (take-suc-set roots k i (omega arith)) ∙ map_snoc (take k roots) i ∙ ap (λ (r : Ref). map here (take k roots) ++ (r ∷ [])) (sym x.0.is) in
          record {
            known = a.known;
            now = (put D one a.now).items;
            os = a.os ++ (tree_sort D one ∷ []);
            left = others;
            far = subst (λ (rs : List Ref). SoFar D (trees_from ts) first (put D one a.now).items rs (a.os ++ (tree_sort D one ∷ [])) (trees_from others)) (sym n)
                (so-far-next D (trees_from ts) first a.now (map here (take k roots)) a.os one (trees_from others) far-one);
            held = x.0.held;
            stacked = x.0.stacked;
            variables = omega arith;
            assertions = next_one.later z y rest-is;
            count = omega arith;
            long = length-set roots k i ∙ a.long;
          }
        where
          map_snoc : (xs : List ℕ) (j : ℕ) → map here (xs ++ (j ∷ [])) ≡ map here xs ++ (here j ∷ [])
          map_snoc [] j = refl
          map_snoc (y ∷ xs) j = ap (λ (l : List Ref). here y ∷ l) (map_snoc xs j)
