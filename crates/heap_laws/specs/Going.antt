-- Operands that get their nodes one after the other. Assumes nothing.
use Prim.Native.Nat.{ℕ, suc, ◌+◌, ◌*◌, ◌-◌, ◌≤◌, ◌<◌}
use Rattle.std.specs.Prelude.{◌≡◌, List, [], ◌∷◌, ◌++◌, map, false, length, drop, set}
use Rattle.std.proofs.Math.Path.{ap}
use Rattle.std.proofs.Common.{sym, ◌∙◌, subst, append_assoc, append-nil, arith, add-one, length-append, length-set, take-append-drop, drop_of_length-le, length-take-le, take_all, get_or-drop}
use Rattle.std.proofs.lemmas.List.{map-append, length-map}
use Rattle.std.proofs.Math.Option.{some}
use Rattle.std.proofs.Math.ListN.{take, get_or, get_elem?, length-drop}
use Rattle.std.proofs.Math.Seq.{take-suc, drop-cons}
use Rattle.lists.specs.Places.{Grows, at-seam}
use Rattle.readback.specs.Rebuild.{Item, with_constants, Ref, here, node_of}
use Rattle.rebuilt.specs.Constants.{with-constants-grows, with-constants-has}
use Rattle.heap_laws.specs.Heap.{within, stack_size, ref_at, pending_in, settled, Held, Stacked}
use Rattle.heap_laws.specs.declared.Heap.{Heap}
use Rattle.heap_laws.specs.Adding.{held-stack}
use Rattle.heap_laws.specs.Settling.{with-constants-append, pending-append, settled-grows, over-part}
use Rattle.heap_laws.specs.Stacks.{ref-node, stacked-same, stacked-at, stacked-set}

-- the operands from place base up to place i
abbrev pub done_to : List Ref → ℕ → ℕ → List Ref
done_to refs base i = take (i - base) (drop base refs)

-- the nodes once they have theirs
abbrev pub reached : List Item → List Ref → ℕ → ℕ → List Item
reached s refs base i = with_constants (pending_in (done_to refs base i)) s

-- up to place i each operand is a node, with the constants among them placed
pub record Going (script : List ℕ) (heap : Heap) (s : List Item) (refs : List Ref) (base i : ℕ) : Type 0 where
  pub low : base ≤ i
  pub held : Held heap (reached s refs base i)
  pub stacked : Stacked script heap (take base refs ++ (settled (reached s refs base i) (done_to refs base i) ++ drop i refs))

pub going-none : (script : List ℕ) {heap : Heap} {s : List Item} {refs : List Ref} (base : ℕ) → Held heap s → Stacked script heap refs → Going script heap s refs base base
unfolding pending_in with_constants
going-none script {heap} {s} {refs} base h w =
    let z : base - base ≡ 0 = omega arith in
    let d : done_to refs base base ≡ [] = ap (λ (k : ℕ). take k (drop base refs)) z in
    let e : reached s refs base base ≡ s = ap (λ (l : List Ref). with_constants (pending_in l) s) d in
    record {
      low = omega arith;
      held = subst (Held heap) (sym e) h;
      stacked = subst (Stacked script heap) (sym ((λ i. take base refs ++ (settled (e i) (d i) ++ drop base refs)) ∙ take-append-drop base refs)) w;
    }

module _ (script : List ℕ) {heap : Heap} {s : List Item} {refs : List Ref} {base i : ℕ} (g : Going script heap s refs base i) where
  abbrev done : List Ref
  done = done_to refs base i

  abbrev t : List Item
  t = reached s refs base i

  abbrev front : List Ref
  front = take base refs ++ settled t done

  module _ (l : i < length refs) where
    front_long : length front ≡ i
    front_long =
        let a = length-append (take base refs) (settled t done) in
        let b = length-take-le base refs (omega (arith, g.low)) in
        let c = length-map done (λ r. here (node_of t r)) in
        let d = length-take-le (i - base) (drop base refs) (omega (arith, length-drop base refs, g.low)) in
        omega (arith, g.low)

    pub next-ref : Ref
    next-ref = get_or refs i (here 0)

    rest : drop i refs ≡ next-ref ∷ drop (suc i) refs
    unfolding next-ref
    rest = drop-cons refs i (here 0) l

    waiting : Stacked script heap (front ++ (next-ref ∷ drop (suc i) refs))
    waiting = subst (Stacked script heap) (sym (append_assoc (take base refs) (settled t done) (drop i refs)) ∙ ap (λ (q : List Ref). front ++ q) rest) g.stacked

    -- what stands at the place is the operand
    pub going-ref : ref_at script (get_or heap.stack i 0) ≡ next-ref
    going-ref =
        stacked-at script waiting i next-ref
        (subst (λ (k : ℕ). get_elem? (front ++ (next-ref ∷ drop (suc i) refs)) k ≡ some next-ref) front_long (at-seam front next-ref (drop (suc i) refs)))

    done_more : done_to refs base (i + 1) ≡ done ++ (next-ref ∷ [])
    unfolding next-ref
    done_more =
        let k : ℕ = i - base in
        let a : i + 1 - base ≡ suc k = omega (arith, g.low) in
        let b : base + k ≡ i = omega (arith, g.low) in
        ap (λ (n : ℕ). take n (drop base refs)) a ∙ take-suc (drop base refs) k (here 0) (omega (arith, length-drop base refs, g.low))
        ∙ ap (λ (r : Ref). done ++ (r ∷ [])) (get_or-drop base refs k (here 0) ∙ ap (λ (n : ℕ). get_or refs n (here 0)) b)

    reached-more : reached s refs base (i + 1) ≡ with_constants (pending_in (next-ref ∷ [])) t
    reached-more =
        ap (λ (q : List Ref). with_constants (pending_in q) s) done_more ∙ ap (λ (q : List (List ℕ)). with_constants q s) (pending-append done (next-ref ∷ []))
        ∙ with-constants-append (pending_in done) (pending_in (next-ref ∷ [])) s

    -- with this operand the nodes are over a limit
    pub going-over : (x : Ref) → x ≡ next-ref → within (with_constants (pending_in (x ∷ [])) t) ≡ false → within (with_constants (pending_in (drop base refs)) s) ≡ false
    going-over x q e =
        let a : ℕ = i + 1 - base in
        let f : within (reached s refs base (i + 1)) ≡ false = ap within reached-more ∙ ap (λ (r : Ref). within (with_constants (pending_in (r ∷ [])) t)) (sym q) ∙ e in
        let b : drop base refs ≡ done_to refs base (i + 1) ++ drop a (drop base refs) = sym (take-append-drop a (drop base refs)) in
        ap (λ (r : List Ref). within (with_constants (pending_in r) s)) b
        ∙ ap (λ (q : List (List ℕ)). within (with_constants q s)) (pending-append (done_to refs base (i + 1)) (drop a (drop base refs)))
        ∙ over-part (pending_in (done_to refs base (i + 1))) (pending_in (drop a (drop base refs))) s f

    -- with this operand they are held
    pub going_more : {heap' : Heap} (x : Ref) (m : ℕ) → x ≡ next-ref → m ≡ node_of (with_constants (pending_in (x ∷ [])) t) x → Held heap' (with_constants (pending_in (x ∷ [])) t)
        → heap'.top ≡ heap.top → heap'.stack ≡ heap.stack → m < 4611686018427387904 → Going script (record heap' { stack = set heap'.stack i (2 * m) }) s refs base (i + 1)
    going_more {heap'} x m q e h a b few =
        let u : List Item = reached s refs base (i + 1) in
        let z : with_constants (pending_in (x ∷ [])) t ≡ u = ap (λ (r : Ref). with_constants (pending_in (r ∷ [])) t) q ∙ sym reached-more in
        let k : Held heap' u = subst (Held heap') z h in
        let n : m ≡ node_of u next-ref = e ∙ (λ j. node_of (z j) (q j)) in
        let grow : Grows t u = subst (Grows t) (sym reached-more) (with-constants-grows (pending_in (next-ref ∷ [])) t) in
        let old : settled u done ≡ settled t done = settled-grows t u grow done (with-constants-has (pending_in done) s) in
        let both : settled u (done_to refs base (i + 1)) ≡ settled t done ++ (here m ∷ []) =
        ap (settled u) done_more ∙ map-append (λ r. here (node_of u r)) done (next-ref ∷ []) ∙ (λ j. old j ++ (here (sym n j) ∷ [])) in
        let w : Stacked script (record heap' { stack = set heap'.stack i (2 * m) }) (front ++ (ref_at script (2 * m) ∷ drop (suc i) refs)) =
        stacked-set script {heap = heap'} front next-ref (drop (suc i) refs) i (2 * m) front_long (stacked-same script waiting {heap' = heap'} a b) in
        let f : front ++ (ref_at script (2 * m) ∷ drop (suc i) refs) ≡ take base refs ++ (settled u (done_to refs base (i + 1)) ++ drop (i + 1) refs) =
        (λ j. front ++ (ref-node script m few j ∷ drop (sym (add-one i) j) refs))
        ∙ append_assoc (take base refs) (settled t done) (here m ∷ drop (i + 1) refs)
        ∙ ap (λ (y : List Ref). take base refs ++ y) (sym (append_assoc (settled t done) (here m ∷ []) (drop (i + 1) refs)) ∙ ap (λ (y : List Ref). y ++ drop (i + 1) refs) (sym both)) in
        record {
          low = omega (arith, g.low);
          held = held-stack heap'.top (set heap'.stack i (2 * m)) (length-set heap'.stack i (2 * m)) k;
          stacked = subst (Stacked script (record heap' { stack = set heap'.stack i (2 * m) })) f w;
        }

  -- after the last
  pub going-all : length refs ≤ i → Held heap (with_constants (pending_in (drop base refs)) s)
      × Stacked script heap (take base refs ++ settled (with_constants (pending_in (drop base refs)) s) (drop base refs))
  going-all l =
      let d : done ≡ drop base refs = take_all (i - base) (drop base refs) (omega (arith, length-drop base refs)) in
      let e : drop i refs ≡ [] = drop_of_length-le refs l in
      let z : t ≡ with_constants (pending_in (drop base refs)) s = ap (λ (q : List Ref). with_constants (pending_in q) s) d in (
        subst (Held heap) z g.held,
        subst (Stacked script heap) ((λ j. take base refs ++ (settled (z j) (d j) ++ e j)) ∙ ap (λ (y : List Ref). take base refs ++ y) (append-nil (settled (with_constants (pending_in (drop base refs)) s) (drop base refs)))) g.stacked,
      )

-- whatever waits, it is some operands
pub stacked-any : (script : List ℕ) {heap : Heap} → length heap.stack ≡ stack_size → heap.top ≤ stack_size → Stacked script heap (map (ref_at script) (take heap.top heap.stack))
stacked-any script {heap} long l =
    let k : length (take heap.top heap.stack) ≡ heap.top = length-take-le heap.top heap.stack (omega arith) in
    let n : length (map (ref_at script) (take heap.top heap.stack)) ≡ heap.top = length-map (take heap.top heap.stack) (ref_at script) ∙ k in
    record { room = omega arith; top = sym n; held = ap (λ (j : ℕ). map (ref_at script) (take j heap.stack)) n }
