-- A term that is placed as it is checked: what holds at each turn of its operands, whether or not a term stands there.
use Rattle.std.specs.Prelude.{ℕ, zero, suc, ◌+◌, ◌-◌, ◌≤◌, ◌<◌, ◌≡◌, refl, List, [], ◌∷◌, ◌++◌, map, Bool, true, false, length, drop, get_or, Result, Ok, Err, Some, None, ⊤}
use Rattle.std.proofs.Common.{ap, sym, ◌∙◌, subst, inl, inr, arith, length-append, length-drop}
use Rattle.std.proofs.Math.Option.{Option, none, some}
use Rattle.lists.specs.Places.{grows-length}
use Rattle.reading.specs.Trees.{Trees, Declarations}
use Rattle.echo_spec.specs.Render.{term}
use Rattle.echo_spec.specs.TreeSorts.{TreeSort, width_of}
use Rattle.readback.specs.Rebuild.{Item, a_call, Ref, Put, ended as endedWith, put}
use Rattle.readback.specs.Reader.{Took, took, and_then}
use Rattle.reader_laws.specs.TermsStrict.{and-then, term-strict}
use Rattle.sort_reader.specs.Sorted.{sorted}
use Rattle.heap_laws.specs.Heap.{pending_in}
use Rattle.heap_laws.specs.declared.Heap.{Heap}
use Rattle.heap_laws.specs.declared.OverLimit.{OverLimit}
use Rattle.place_laws.specs.Ahead.{Ahead, ends, closes, next, at-close, at-end}
use Rattle.place_laws.specs.Room.{put-grows}
use Rattle.script_entries.specs.Entries.{Known}
use Rattle.script_heads.specs.declared.Head.{Head}
use Rattle.script_heads.specs.declared.Head.TheVariants.{Nullary}
use Rattle.script_heads.specs.Heads.{HeadAt}
use Rattle.script_names.specs.declared.Table.{Table}
use Rattle.script_header.specs.declared.Header.{Header}
use Rattle.script_terms.specs.declared.TermState.{TermState}
use Rattle.script_terms.specs.declared.TermState.TheVariants.{Done}
use Rattle.script_terms.specs.declared.Opened.{Opened as Begins}
use Rattle.script_terms.specs.States.{sort_from, State as Standing, rest, after, Held as HeldIn, enough, Going as Reads, Asking, SortAt, told_at}
use Rattle.script_terms.specs.SortLaws.{sorted-term}
use Rattle.script_terms.specs.Turns.{Begun, Ended, MovedTo, NextTo, head_end}
use Rattle.script_terms.specs.TurnLaws.{came, went, asking-of, sorted_of, told-none}
use Rattle.script_terms.specs.OperandLaws.{not-zero}
use Rattle.script_terms.specs.Lengths.{sorted-takes, after-takes}
use Rattle.script_ends.specs.declared.Seen.{Seen}
use Rattle.script_ends.specs.Ends.{EndedAs, Ending}
use Rattle.script_ends.specs.Parts.{SeenOf, OneMore}
use Rattle.script_place.specs.declared.Unread.{Unread}
use Rattle.script_place.specs.declared.Unread.TheVariants.{NoScript, Limit}
use Rattle.script_place.specs.declared.Placed.{Placed}
use Rattle.script_place.specs.declared.Begun.TheVariants.{Nullary as Alone}
use Rattle.script_place.specs.declared.Nullary.{Nullary as Applied}
use Rattle.script_heap.specs.Laws.{held-own}
use Rattle.script_place.specs.Terms.{Term, State, After, ref_of, SortIs, PlacedTo, PlacedAs, PlacedAt, BegunTo, Pushable, MoreTo, Finished, Opening, Closing, Closes, ClosedTo}
use Rattle.script_place.specs.Going.{sorted-at, unsorted, sorts-as, alone-sorts, alone-head, open-head}
use Rattle.script_place.specs.Closing.{alone-placed}
use Rattle.script_place.specs.Loop.{Going, going_start, alone-ending, bracket-here, operand_term, operand_state, step-not, step-over, step-going, close-going, going-closing}

-- ---------------------------------------------------------------- from a sort to a term

-- where a sort is told a term stands
abbrev pub term_told : {s : List ℕ} {t : Table} {h : Header} {D : Declarations} {at : ℕ} (n e : ℕ) → Known s t h D → SortAt s D at (Some (record { sort = n; end = e })) → Term s t h at
term_told {s} {t} {h} {D} {at} n e k x = record {
  declarations = D;
  known = k;
  tree = (sorted-term (enough s at) D (drop at s) (sort_from n) (drop e s) (x.2 (enough s at) (omega arith))).0;
  sort = sort_from n;
  sorted = (sorted-term (enough s at) D (drop at s) (sort_from n) (drop e s) (x.2 (enough s at) (omega arith))).2;
  steps = enough s at;
  rest = drop e s;
  read = (sorted-term (enough s at) D (drop at s) (sort_from n) (drop e s) (x.2 (enough s at) (omega arith))).1;
}

-- ---------------------------------------------------------------- lengths

-- the closing bracket is ahead
ahead-long : {D : Declarations} {n : ℕ} {b : List ℕ} {ts : Trees} {r : List ℕ} → Ahead D n b ts r → length r < length b
ahead-long (ends z e h) = omega (arith, ap length e)
ahead-long (closes m q z e a) = let k = ahead-long a in omega (arith, ap length e)
ahead-long {D} (next f q t y us e h k a) =
    let i = ahead-long a in
    let j : length q ≡ length (term t) + length y = ap length (term-strict D f q t y k) ∙ length-append (term t) y in
    omega (arith, ap length e)

-- a term that asks for an operand ends after it
asking-long : {s : List ℕ} {t : Table} {h : Header} {w : TermState} {at p : ℕ} (q : Term s t h at) → Asking s q.declarations at w p → length q.rest < length (drop p s)
asking-long {s} {t} {h} {w} {at} {p} q a =
    let (f, l, u) = sorted-at q in
    let (g, _, e) = a.reads f l in
    let (ρ, v, i, j) = and-then (sorted g q.declarations (drop p s)) (λ σ r. rest g q.declarations (after a.state σ) r) q.sort q.rest (sym e ∙ u) in
    let m = sorted-takes q.declarations g (drop p s) ρ v i in
    let n = after-takes q.declarations a.state ρ g v q.sort q.rest j in
    omega arith

-- ---------------------------------------------------------------- what is there so far

-- The arrays are such that an operand can be placed, and the operands that came wait in them.
pub record Ready (s : List ℕ) (t : Table) (h : Header) (heap : Heap) (levels : ℕ) (v : Seen) : Type 0 where
  pub declarations : Declarations
  pub known : Known s t h declarations
  pub state : State declarations s heap (levels + 1)
  pub sorts : List (Option TreeSort)
  pub seen : SeenOf v sorts
  pub many : length sorts ≤ length state.refs

module _ {s : List ℕ} {t : Table} {h : Header} {heap heap₁ : Heap} {levels p : ℕ} {v : Seen} (r : Ready s t h heap levels v) where
  pub ready-pushable : (z : Placed) → PlacedAt s t h heap p (levels + 1) heap₁ (Ok z) → Pushable s z.width z.operand
  ready-pushable z x = (x.placed (term_told z.width z.end r.known (x.sorted r.declarations r.known)) r.state).1

  ready-next : (z : Placed) (heap₂ : Heap) (u : ⊤) (v' : Seen) → PlacedAt s t h heap p (levels + 1) heap₁ (Ok z) → MoreTo s heap₁ heap₂ z.operand (Ok u) → OneMore v z.width v' → Ready s t h heap₂ levels v'
  ready-next z heap₂ u v' x (i, j, k, l) o =
      let q : Term s t h p = term_told z.width z.end r.known (x.sorted r.declarations r.known) in
      let a = (x.placed q r.state).0 in
      let p : Put = put r.declarations q.tree r.state.items in
      let m = grows-length r.state.items p.items (put-grows r.declarations q.tree r.state.items) in
      let b = r.state.variables in
      let c = r.many in
      let ref : Ref = ref_of s z.operand in
      let d = length-append r.state.refs (ref ∷ []) in
      let f = length-append r.sorts (some (sort_from z.width) ∷ []) in
      record {
        declarations = r.declarations;
        known = r.known;
        state = record {
          items = p.items;
          held = held-own heap₁ heap₂ p.items i j (k heap₁.records heap₁.bits p.items a.held);
          variables = omega arith;
          refs = r.state.refs ++ (ref ∷ []);
          stacked = l heap₁.records heap₁.bits p.items r.state.refs a.held a.stacked;
          side = length (r.state.refs ++ (ref ∷ []));
          waiting = omega arith;
          few = r.state.few;
        };
        sorts = r.sorts ++ (some (sort_from z.width) ∷ []);
        seen = o r.sorts (some (sort_from z.width)) r.seen a.wide;
        many = omega arith;
      }

-- ---------------------------------------------------------------- sorts

none_then : (o : Option (Took TreeSort)) (K : TreeSort → List ℕ → Option (Took TreeSort)) → o ≡ none → and_then o K ≡ none
unfolding and_then
none_then o K e = rw e

width-of : (n : ℕ) → width_of (some (sort_from n)) ≡ n
width-of zero = refl
width-of (suc n) = refl

-- a term that is placed has the sort that was told
after-sorts : {s : List ℕ} {heap : Heap} (D : Declarations) {at : ℕ} (n p : ℕ) {w e : ℕ} {u : Put} {refs : List Ref} {ref : Ref} → After s heap at (drop p s) (width_of (some (sort_from n))) u refs ref w e
    → SortAt s D at (Some (record { sort = n; end = p })) → SortAt s D at (Some (record { sort = w; end = e }))
after-sorts {s} {heap} D {at} n p {w} {e} a k =
    let i : n ≡ w = sym (a.wide ∙ width-of n) in
    (a.low, a.high, λ f l. k.2 f l ∙ (λ j. took (sort_from (i j)) (a.ends j)))

pub none-placed : {s : List ℕ} {t : Table} {h : Header} {heap : Heap} {at levels : ℕ} {heap' : Heap} → ((D : Declarations) → Known s t h D → SortAt s D at None) → PlacedAt s t h heap at levels heap' (Err NoScript)
none-placed k = record { sorted = k; placed = λ q g. unsorted q (k q.declarations q.known) }

-- A TERM WITH OPERANDS that does not begin.
-- A CALL WITHOUT ARGUMENTS.
pub alone_at : {s : List ℕ} {t : Table} {h : Header} {heap : Heap} {at levels : ℕ} {heap' : Heap} (x : Head) (c : Applied) → ((D : Declarations) → Known s t h D → HeadAt s D at (Some x)) → BegunTo x at (Alone c)
    → (r : Result ℕ OverLimit) (p : Result Placed Unread)
    → ((i : List Item) (refs rs : List Ref) → Ending s heap heap.top i refs rs → EndedAs s heap' refs (endedWith (pending_in rs) (λ node. a_call c.function c.width (map node rs)) i) r)
    → Finished r c.width c.end p → PlacedAt s t h heap at levels heap' p
alone_at {s} {t} {h} {heap} {at} {levels} {heap'} x c k b r p i j =
    let known-head : (D : Declarations) → Known s t h D → HeadAt s D at (Some (Nullary c.function c.width c.end)) = λ D κ. subst (λ (y : Head). HeadAt s D at (Some y)) (alone-head at x c b) (k D κ) in
    record {
      sorted = λ D κ. alone-sorts (known-head D κ) r p j;
      placed = λ q g.
          alone-placed (known-head q.declarations q.known) q.steps q.tree q.sort q.rest q.read q.sorted heap' g.items g.refs levels g.side r p (i g.items g.refs [] (alone-ending g)) j;
    }

-- ---------------------------------------------------------------- turns

-- What was read of the term, whatever it is; the arrays; and if a term stands there, its operands so far.
pub record Turning (s : List ℕ) (t : Table) (h : Header) (heap₀ : Heap) (at levels : ℕ) (x : Head) (heap : Heap) (base : ℕ) (w : TermState) (e : ℕ) (v : Seen) : Type 0 where
  pub opens : Opening x
  pub head : (D : Declarations) → Known s t h D → HeadAt s D at (Some x)
  pub reads : (D : Declarations) → Known s t h D → Reads s D at w e
  pub ready : Ready s t h heap levels v
  pub going : (q : Term s t h at) (g : State q.declarations s heap₀ levels) → (n : ℕ) × Going q g heap base e n v

-- BEFORE THE FIRST OPERAND.
pub turning-start : {s : List ℕ} {t : Table} {h : Header} {heap : Heap} {at levels : ℕ} {D : Declarations} → Known s t h D → State D s heap levels → (x : Head) → ((D : Declarations) → Known s t h D → HeadAt s D at (Some x))
    → Opening x → (w : Begins) → heap.count + levels < 2048 → w.end ≡ head_end x → ((s : List ℕ) (D : Declarations) → HeadAt s D at (Some x) → Reads s D at w.state w.end)
    → Turning s t h heap at levels x heap heap.top w.state w.end (record { first = None; second = None })
turning-start {s} {t} {h} {heap} {at} {levels} {D} known g x k o w l i j =
    let u = g.waiting in
    record {
      opens = o;
      head = k;
      reads = λ E κ. j s E (k E κ);
      ready = record {
        declarations = D;
        known = known;
        state = record {
          items = g.items;
          held = g.held;
          variables = g.variables;
          refs = g.refs;
          stacked = g.stacked;
          side = g.side;
          waiting = omega arith;
          few = omega arith;
        };
        sorts = [];
        seen = record { first = refl; second = refl };
        many = omega arith;
      };
      going = λ q y. let (n, p) = open-head q y x (k q.declarations q.known) o w.end i in (n, going_start q y x w.end n heap.top p l refl);
    }

module _ {s : List ℕ} {t : Table} {h : Header} {heap₀ : Heap} {at levels : ℕ} {x₀ : Head} {heap : Heap} {base : ℕ} {w : TermState} {e : ℕ} {v : Seen} (x : Turning s t h heap₀ at levels x₀ heap base w e v)
    {w' : TermState} {p : ℕ} {r : Bool} (m : NextTo s e w p w' r × MovedTo s e p w' r) where
  -- ---------------------------------------------------------------- an operand follows

  module _ (y : r ≡ true) where
    pub asking : (D : Declarations) → Known s t h D → Asking s D at w' p
    asking D k = asking-of s D at p w' (m.0 D at (x.reads D k)).turned y

    -- its blank
    ask-going : (q : Term s t h at) (g : State q.declarations s heap₀ levels) → (b : ℕ) × (n : ℕ) × Going q g heap base b n v × (get_or s b 0 ≡ 32) × (p ≡ b + 1)
    ask-going q g = let (n, z) = x.going q g in by_bytes n z (subst (MovedTo s e p w') y m.1)
      where
        by_bytes : (n : ℕ) → Going q g heap base e n v → Begun s e p → (b : ℕ) × (n : ℕ) × Going q g heap base b n v × (get_or s b 0 ≡ 32) × (p ≡ b + 1)
        by_bytes n z (inl (k, i)) = (e, n, z, k, i)
        by_bytes n z (inr (k, j, i)) = (e + 1, n - 1, close-going z other (not-zero n some_left), j, omega arith)
          where
            other : get_or s e 0 ≡ 32 → ⊥
            other u = let c : ◌≡◌ {A = ℕ} 41 32 = sym k ∙ u in omega arith

            some_left : n ≡ 0 → ⊥
            some_left u =
                let (_, b) = at-end q.declarations z.ahead (drop (e + 1) s) u (bracket-here z other) in
                let l = asking-long q (asking q.declarations q.known) in
                let a = ap length b in
                omega (arith, length-drop (e + 1) s, length-drop p s)

    module _ {heap₁ : Heap} {z : Result Placed Unread} (k : PlacedAt s t h heap p (levels + 1) heap₁ z) where
      moved : (b : ℕ) → p ≡ b + 1 → (q : Term s t h (b + 1)) (g : State q.declarations s heap (levels + 1)) → PlacedAs q g heap₁ z
      moved b i = subst (λ (j : ℕ). (q : Term s t h j) (g : State q.declarations s heap (levels + 1)) → PlacedAs q g heap₁ z) i k.placed

    -- IT IS NOT PLACED, and so the term is not.
    pub turn-not : {heap₁ : Heap} (u : Unread) → PlacedAt s t h heap p (levels + 1) heap₁ (Err u) → PlacedAt s t h heap₀ at levels heap₁ (Err u)
    turn-not NoScript k = none-placed λ D κ f l. let (g, j, u) = (asking D κ).reads f l in u ∙ none_then (sorted g D (drop p s)) _ (k.sorted D κ g j)
    turn-not {heap₁} Limit k = record {
      sorted = λ D κ. tt;
      placed = λ q g. let (b, n, u, l, i) = ask-going q g in step-not u l heap₁ Limit (moved k b i (operand_term u l) (operand_state u l));
    }

    module _ {heap₁ : Heap} {z : Placed} (k : PlacedAt s t h heap p (levels + 1) heap₁ (Ok z)) (heap₂ : Heap) where
      -- NO ROOM for it to wait: there is none for the term.
      pub turn-over : (e : OverLimit) → MoreTo s heap₁ heap₂ z.operand (Err e) → PlacedAt s t h heap₀ at levels heap₂ (Err Limit)
      turn-over e o = record {
        sorted = λ D κ. tt;
        placed = λ q g. let (b, n, u, l, i) = ask-going q g in step-over u l heap₁ heap₂ z e (moved k b i (operand_term u l) (operand_state u l)) o;
      }

      -- IT WAITS, and the term goes on.
      pub turn-next : {w'' : TermState} (u : ⊤) {v' : Seen} → MoreTo s heap₁ heap₂ z.operand (Ok u) → OneMore v z.width v' → ((u : Standing) → HeldIn s w' u → HeldIn s w'' (after u (sort_from z.width)))
          → Turning s t h heap₀ at levels x₀ heap₂ base w'' z.end v' × (e < z.end) × (z.end ≤ length s)
      turn-next {w''} unit {v'} o i j =
          let D : Declarations = x.ready.declarations in
          let κ = x.ready.known in
          let a = (m.0 D at (x.reads D κ)).further y in
          let b : SortAt s D p (Some (record { sort = z.width; end = z.end })) = k.sorted D κ in
          let c = b.0 in (
            record {
              opens = x.opens;
              head = x.head;
              reads = λ D κ.
                  let u = came {n = z.width} {e = z.end} (asking D κ) (k.sorted D κ) in
                  went u (j u.state u.held);
              ready = ready-next x.ready z heap₂ unit v' k o i;
              going = λ q g.
                  let (d, l, u, y, c) = ask-going q g in
                  (l, (step-going u y heap₁ heap₂ z unit v' (moved k d c (operand_term u y) (operand_state u y)) o i).0);
            },
            omega arith,
            b.1,
          )

  -- ---------------------------------------------------------------- none follows

  module _ (y : r ≡ false) where
    ended : (D : Declarations) → Known s t h D → SortAt s D at (told_at w' p)
    ended D k = sorted_of s D at p w' (m.0 D at (x.reads D k)).turned y

    -- NO SORT.
    pub end_none : ((n : ℕ) → w' ≡ Done n → ⊥) → PlacedAt s t h heap₀ at levels heap (Err NoScript)
    end_none z = none-placed λ D k. subst (SortAt s D at) (told-none w' p z) (ended D k)

    module _ (n : ℕ) (z : w' ≡ Done n) where
      ends_as : (D : Declarations) → Known s t h D → SortAt s D at (Some (record { sort = n; end = p }))
      ends_as D κ = subst (λ (u : TermState). SortAt s D at (told_at u p)) z (ended D κ)

      pub end-low : (D : Declarations) → Known s t h D → 0 < p
      end-low D κ = let l = (ends_as D κ).0 in omega arith

      -- THE BRACKET of the term.
      pub end-closing : (q : Term s t h at) (g : State q.declarations s heap₀ levels)
          → Closing s heap x₀ base v (p - 1) at q.declarations q.tree q.sort q.rest g.items g.refs
      end-closing q g = let (k, u) = x.going q g in by_bytes k u (subst (MovedTo s e p w') y m.1 n z)
        where
          rest-is : drop p s ≡ q.rest
          rest-is = (sorts-as q n p (ends_as q.declarations q.known)).1

          by_bytes : (n : ℕ) → Going q g heap base e n v → Ended s e p → Closing s heap x₀ base v (p - 1) at q.declarations q.tree q.sort q.rest g.items g.refs
          by_bytes n u (inl i) = absurd (let a = ahead-long u.ahead in let b = ap length rest-is in omega (arith, length-drop p s, length-drop e s))
          by_bytes n u (inr (a, i)) = subst (λ (j : ℕ). Closing s heap x₀ base v j at q.declarations q.tree q.sort q.rest g.items g.refs) (omega arith)
              (going-closing u x₀ x.opens (x.head q.declarations q.known) other (none_left n u))
            where
              other : get_or s e 0 ≡ 32 → ⊥
              other j = let c : ◌≡◌ {A = ℕ} 41 32 = sym a ∙ j in omega arith

              none_left : (n : ℕ) → Going q g heap base e n v → n ≡ 0
              none_left zero u = refl
              none_left (suc n) u = absurd
                  (let c = ahead-long (at-close q.declarations u.ahead n (drop (e + 1) s) refl (bracket-here u other)) in
                  let b = ap length rest-is in
                  omega (arith, length-drop p s, length-drop (e + 1) s))

      module _ {D₀ : Declarations} (κ₀ : Known s t h D₀) (g : State D₀ s heap₀ levels) where
        abbrev whole : Term s t h at
        whole = term_told n p κ₀ (ends_as D₀ κ₀)

        pub end-closes : Closes s heap x₀ base v (p - 1)
        end-closes = record {
          at = at;
          declarations = D₀;
          tree = whole.tree;
          sort = whole.sort;
          rest = whole.rest;
          first = g.items;
          refs = g.refs;
          closing = end-closing whole g;
        }

        -- IT IS PLACED.
        pub end-placed : (heap' : Heap) (b : Result Placed Unread) → ClosedTo s heap heap' x₀ base v (p - 1) b → PlacedAt s t h heap₀ at levels heap' b
        end-placed heap' b c = record {
          sorted = λ D κ. by-placed D κ b (c at D₀ whole.tree whole.sort whole.rest g.items g.refs (end-closing whole g) levels g.side);
          placed = λ q u. c at q.declarations q.tree q.sort q.rest u.items u.refs (end-closing q u) levels u.side;
        }
          where
            by-placed : (D : Declarations) → Known s t h D → (b : Result Placed Unread)
                → PlacedTo s heap' at (drop p s) (width_of (some (sort_from n))) (put D₀ whole.tree g.items) g.refs levels g.side b → SortIs s D at b
            by-placed D κ (Err NoScript) u = absurd u
            by-placed D κ (Err Limit) u = tt
            by-placed D κ (Ok z) u = after-sorts D n p u.0 (ends_as D κ)
