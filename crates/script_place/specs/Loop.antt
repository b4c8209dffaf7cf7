-- The operands of a term, one after the other: what holds at each turn, and what a turn brings.
use Rattle.std.specs.Prelude.{ℕ, suc, ◌+◌, ◌-◌, ◌≤◌, ◌<◌, ◌≡◌, refl, List, [], ◌∷◌, ◌++◌, length, drop, get_or, Ok, Err, Some, None, ⊤}
use Rattle.std.proofs.Common.{ap, sym, ◌∙◌, subst, append_assoc, append-nil, arith, add-one, ne_eqb, length-append, drop-cons}
use Rattle.std.proofs.Math.Option.{Option}
use Rattle.lists.specs.Places.{grows-length}
use Rattle.reading.specs.Trees.{Trees, more, Declarations}
use Rattle.echo_spec.specs.TreeSorts.{TreeSort, width_of, tree_sort}
use Rattle.readback.specs.Rebuild.{Item, Ref, Put, put}
use Rattle.heap_laws.specs.Heap.{stack_size, Held, Stacked}
use Rattle.heap_laws.specs.declared.Heap.{Heap}
use Rattle.heap_laws.specs.declared.OverLimit.{OverLimit}
use Rattle.place_laws.specs.Ahead.{Ahead, Next, at-blank, at-close, at-end, begins}
use Rattle.place_laws.specs.Operands.{operands_of}
use Rattle.place_laws.specs.Room.{Room, put-grows}
use Rattle.place_laws.specs.SoFar.{SoFar, sides_of, so-far-start, so-far-next, operand-room, few-wait, Sorts, operand-sorts}
use Rattle.script_heads.specs.declared.Head.{Head}
use Rattle.script_heads.specs.Heads.{HeadAt}
use Rattle.script_names.specs.declared.Table.{Table}
use Rattle.script_header.specs.declared.Header.{Header}
use Rattle.script_ends.specs.declared.Seen.{Seen}
use Rattle.script_ends.specs.Parts.{SeenOf, OneMore}
use Rattle.script_ends.specs.Ends.{Ending}
use Rattle.script_place.specs.declared.Unread.{Unread}
use Rattle.script_place.specs.declared.Unread.TheVariants.{NoScript, Limit}
use Rattle.script_place.specs.declared.Placed.{Placed}
use Rattle.script_heap.specs.Laws.{held-own}
use Rattle.script_place.specs.Terms.{Term, State, ref_of, PlacedAs, MoreTo, Opening, Closing}
use Rattle.script_place.specs.Forms.{at_byte}
use Rattle.script_place.specs.Going.{Opened}

-- The operands are placed up to place e, with n stores left to close.
pub record Going {s : List ℕ} {t : Table} {h : Header} {heap₀ : Heap} {at levels : ℕ} (q : Term s t h at) (g : State q.declarations s heap₀ levels) (heap : Heap) (base e n : ℕ) (v : Seen) : Type 0 where
  pub now : List Item
  pub rs : List Ref
  pub os : List (Option TreeSort)
  pub left : Trees
  pub far : SoFar q.declarations (operands_of q.tree) g.items now rs os left
  pub held : Held heap now
  pub stacked : Stacked s heap (g.refs ++ rs)
  pub below : length g.refs ≡ base
  pub seen : SeenOf v os
  pub ahead : Ahead q.declarations n (drop e s) left q.rest
  pub sorts : Sorts q.declarations left
  pub variables : length q.declarations.variables ≤ length now
  pub room : length g.items + levels < 2048
  pub low : at < e

-- before the first operand
pub going_start : {s : List ℕ} {t : Table} {h : Header} {heap : Heap} {at levels : ℕ} (q : Term s t h at) (g : State q.declarations s heap levels) (x : Head) (e n base : ℕ) → Opened q x e n
    → heap.count + levels < 2048 → base ≡ heap.top → Going q g heap base e n (record { first = None; second = None })
going_start {s} {t} {h} {heap} {at} {levels} q g x e n base o l b = record {
  now = g.items;
  rs = [];
  os = [];
  left = operands_of q.tree;
  far = so-far-start q.declarations (operands_of q.tree) g.items;
  held = g.held;
  stacked = subst (λ (y : List Ref). Stacked s heap y) (sym (append-nil g.refs)) g.stacked;
  below = sym (b ∙ g.stacked.top);
  seen = record { first = refl; second = refl };
  ahead = o.ahead;
  sorts = operand-sorts q.declarations q.tree q.sort q.sorted;
  variables = g.variables;
  room = (let c = g.held.count in omega arith);
  low = o.low;
}

pub byte-here : (s : List ℕ) (e c : ℕ) → e < length s → get_or s e 0 ≡ c → drop e s ≡ c ∷ drop (e + 1) s
byte-here s e c l h = drop-cons s e 0 l ∙ (λ i. h i ∷ drop (sym (add-one e) i) s)

-- a term without operands ends at once
pub alone-ending : {D : Declarations} {s : List ℕ} {heap : Heap} {levels : ℕ} (g : State D s heap levels) → Ending s heap heap.top g.items g.refs []
alone-ending {D} {s} {heap} g = record {
  held = g.held;
  stacked = subst (λ (y : List Ref). Stacked s heap y) (sym (append-nil g.refs)) g.stacked;
  below = sym g.stacked.top;
}

module _ {s : List ℕ} {t : Table} {h : Header} {heap₀ : Heap} {heap : Heap} {at levels base e n : ℕ} {v : Seen} {q : Term s t h at} {g : State q.declarations s heap₀ levels} (w : Going q g heap base e n v) where
  pub inside : e < length s
  inside =
      let b = begins q.declarations w.ahead in
      (at_byte s e b.byte b.rest b.is).0

  byte-is : (c : ℕ) (r : List ℕ) → drop e s ≡ c ∷ r → get_or s e 0 ≡ c
  byte-is c r d =
      let f : get_or s e 0 ∷ drop (suc e) s ≡ c ∷ r = sym (drop-cons s e 0 inside) ∙ d in
      cc

  -- where no blank stands there is a bracket
  pub bracket-here : (get_or s e 0 ≡ 32 → ⊥) → drop e s ≡ 41 ∷ drop (e + 1) s
  bracket-here f =
      let b = begins q.declarations w.ahead in
      let k : get_or s e 0 ≡ b.byte = byte-is b.byte b.rest b.is in
      let m : b.byte ≡ 41 = b.either (ne_eqb b.byte 32 (λ z. f (k ∙ z))) in
      byte-here s e 41 inside (k ∙ m)

  module _ (blank : get_or s e 0 ≡ 32) where
    pub next_here : Next q.declarations n (drop (e + 1) s) w.left q.rest
    next_here = at-blank q.declarations w.ahead (drop (e + 1) s) (byte-here s e 32 inside blank)

    abbrev left_is : w.left ≡ more next_here.tree next_here.others
    left_is = next_here.are

    pub sorts-here : Sorts q.declarations (more next_here.tree next_here.others)
    sorts-here = subst (Sorts q.declarations) left_is w.sorts

    far-here : SoFar q.declarations (operands_of q.tree) g.items w.now w.rs w.os (more next_here.tree next_here.others)
    far-here = subst (SoFar q.declarations (operands_of q.tree) g.items w.now w.rs w.os) left_is w.far

    pub few-here : length w.rs ≤ sides_of q.tree (length w.rs) + 2
    few-here = few-wait q.declarations q.tree q.sort q.sorted g.items w.now w.rs w.os next_here.tree next_here.others far-here

    -- the operand
    abbrev pub operand_term : Term s t h (e + 1)
    operand_term = record {
      declarations = q.declarations;
      known = q.known;
      tree = next_here.tree;
      sort = sorts-here.0.0;
      sorted = sorts-here.0.1;
      steps = next_here.steps;
      rest = next_here.rest;
      read = next_here.read;
    }

    -- what is there before it
    abbrev pub operand_state : State q.declarations s heap (levels + 1)
    operand_state = record {
      items = w.now;
      held = w.held;
      variables = w.variables;
      refs = g.refs ++ w.rs;
      stacked = w.stacked;
      side = g.side + sides_of q.tree (length w.rs);
      waiting = (let a = g.waiting in let b = few-here in let c = length-append g.refs w.rs in omega arith);
      few = (let a = w.room in omega arith);
    }

    operand-has-room : Room levels g.side (put q.declarations q.tree g.items).items
        → Room (levels + 1) (g.side + sides_of q.tree (length w.rs)) (put q.declarations next_here.tree w.now).items
    operand-has-room r =
        subst (λ (k : ℕ). Room k (g.side + sides_of q.tree (length w.rs)) (put q.declarations next_here.tree w.now).items) (sym (add-one levels))
        (operand-room q.declarations levels g.side q.tree g.items w.now w.rs w.os next_here.tree next_here.others far-here r)

    stack-full : length (g.refs ++ w.rs) ≡ stack_size → Room levels g.side (put q.declarations q.tree g.items).items → ⊥
    stack-full z r =
        let k = operand-has-room r in
        let a = k.nodes in
        let b = k.sides in
        let c = operand_state.waiting in
        omega arith

    -- NOT PLACED: the term is not.
    pub step-not : (heap₁ : Heap) (u : Unread) → PlacedAs operand_term operand_state heap₁ (Err u) → PlacedAs q g heap₁ (Err u)
    step-not heap₁ NoScript p = p
    step-not heap₁ Limit p = λ r. p (operand-has-room r)

    -- NO ROOM for an operand that is placed: there is none for its term.
    pub step-over : (heap₁ heap₂ : Heap) (z : Placed) (u : OverLimit) → PlacedAs operand_term operand_state heap₁ (Ok z) → MoreTo s heap₁ heap₂ z.operand (Err u) → PlacedAs q g heap₂ (Err Limit)
    step-over heap₁ heap₂ z u (p, _) m = λ r. stack-full (m heap₁.records heap₁.bits _ (g.refs ++ w.rs) p.held p.stacked) r

    -- AN OPERAND that is placed and waits.
    pub step-going : (heap₁ heap₂ : Heap) (z : Placed) (u : ⊤) (v' : Seen) → PlacedAs operand_term operand_state heap₁ (Ok z) → MoreTo s heap₁ heap₂ z.operand (Ok u) → OneMore v z.width v'
        → Going q g heap₂ base z.end n v' × (e < z.end) × (z.end ≤ length s)
    step-going heap₁ heap₂ z u v' (a, _) (i, j, k, l) o =
        let low = a.low in
        let p : Put = put q.declarations next_here.tree w.now in
        let m = grows-length w.now p.items (put-grows q.declarations next_here.tree w.now) in
        let b = w.low in
        let c = w.variables in (
          record {
            now = p.items;
            rs = w.rs ++ (p.ref ∷ []);
            os = w.os ++ (tree_sort q.declarations next_here.tree ∷ []);
            left = next_here.others;
            far = so-far-next q.declarations (operands_of q.tree) g.items w.now w.rs w.os next_here.tree next_here.others far-here;
            held = held-own heap₁ heap₂ p.items i j (k heap₁.records heap₁.bits p.items a.held);
            stacked = subst (λ (y : List Ref). Stacked s heap₂ y) (append_assoc g.refs w.rs (ref_of s z.operand ∷ []) ∙ ap (λ (y : Ref). g.refs ++ (w.rs ++ (y ∷ []))) (sym a.is)) (l heap₁.records heap₁.bits p.items (g.refs ++ w.rs) a.held a.stacked);
            below = w.below;
            seen = o w.os (tree_sort q.declarations next_here.tree) w.seen (a.wide ∙ ap width_of (sym sorts-here.0.1));
            ahead = subst (λ (y : List ℕ). Ahead q.declarations n y next_here.others q.rest) a.ends next_here.ahead;
            sorts = sorts-here.1;
            variables = omega arith;
            room = w.room;
            low = omega arith;
          },
          omega arith,
          a.high,
        )

  -- A STORE'S BRACKET.
  pub close-going : (get_or s e 0 ≡ 32 → ⊥) → 0 < n → Going q g heap base (e + 1) (n - 1) v
  close-going f l = record {
    now = w.now;
    rs = w.rs;
    os = w.os;
    left = w.left;
    far = w.far;
    held = w.held;
    stacked = w.stacked;
    below = w.below;
    seen = w.seen;
    ahead = at-close q.declarations w.ahead (n - 1) (drop (e + 1) s) (omega arith) (bracket-here f);
    sorts = w.sorts;
    variables = w.variables;
    room = w.room;
    low = (let k = w.low in omega arith);
  }

  -- THE TERM'S OWN BRACKET.
  pub going-closing : (x : Head) → Opening x → HeadAt s q.declarations at (Some x) → (get_or s e 0 ≡ 32 → ⊥) → n ≡ 0
      → Closing s heap x base v e at q.declarations q.tree q.sort q.rest g.items g.refs
  going-closing x o k f z =
      let (a, b) = at-end q.declarations w.ahead (drop (e + 1) s) z (bracket-here f) in
      record {
        opens = o;
        head = k;
        sorted = q.sorted;
        steps = q.steps;
        read = q.read;
        now = w.now;
        rs = w.rs;
        os = w.os;
        far = subst (SoFar q.declarations (operands_of q.tree) g.items w.now w.rs w.os) a w.far;
        held = w.held;
        stacked = w.stacked;
        below = w.below;
        seen = w.seen;
        low = w.low;
        bracket = bracket-here f ∙ ap (λ (y : List ℕ). 41 ∷ y) b;
      }
