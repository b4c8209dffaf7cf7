-- A term that ends: the constants among its operands have their nodes, its own node comes after them, and its operands wait no more.
use Rattle.std.specs.Prelude.{ℕ, zero, suc, ◌+◌, ◌≤◌, ◌<◌, ◌≡◌, refl, false, take, drop, get_or, Result, Ok, Err}
use Rattle.std.proofs.Common.{ap, sym, ◌∙◌, arith, take_at, drop_at}
use Rattle.std.proofs.Math.Path.{subst}
use mathlib.Core.List.{List, [], ◌∷◌, ◌++◌, map}
use Rattle.std.proofs.Math.Option.{Option, some}
use Rattle.std.proofs.Math.ListN.{length, get_elem?, length-append}
use Rattle.std.proofs.lemmas.List.{length-map}
use Rattle.lists.specs.Places.{grows-snoc, grows-trans}
use Rattle.echo_spec.specs.Shapes.{rotation, shape_of}
use Rattle.echo_spec.specs.TreeSorts.{TreeSort}
use Rattle.echo_spec.specs.TreeSortLaws.{Met}
use Rattle.readback.specs.Rebuild.{Item, an_operator, with_constant, with_constants, Ref, here, pending, node_of, Put, ended, low_bits, pendings}
use Rattle.rebuilt.specs.Constants.{Has, with-constants-grows, with-constants-has}
use Rattle.heap_laws.specs.Heap.{within, stack_size, pending_in, settled, Held, Stacked}
use Rattle.heap_laws.specs.Within.{over-grows}
use Rattle.heap_laws.specs.Settling.{with-constants-append, node-grows}
use Rattle.heap_laws.specs.Stacks.{stacked-same, stacked-cut}
use Rattle.heap_laws.specs.declared.Heap.{Heap}
use Rattle.heap_laws.specs.declared.OverLimit.{OverLimit}
use Rattle.script_heap.specs.Told.{Told, AllTold}
use Rattle.script_ends.specs.Parts.{Made}

-- ---------------------------------------------------------------- what an end answers

-- The nodes would be over a limit; or the term has its node, and the operands refs still wait.
abbrev pub EndedAs : List ℕ → Heap → List Ref → Put → Result ℕ OverLimit → Type 0
EndedAs script heap' refs p (Err _) = within p.items ≡ false
EndedAs script heap' refs p (Ok m) = (p.ref ≡ here m) × Held heap' p.items × Stacked script heap' refs

-- the nodes s are held, the operands rs of a term wait behind others, whose number is base
pub record Ending (script : List ℕ) (heap : Heap) (base : ℕ) (s : List Item) (refs rs : List Ref) : Type 0 where
  pub held : Held heap s
  pub stacked : Stacked script heap (refs ++ rs)
  pub below : length refs ≡ base

-- some term is about to end
abbrev pub Ends : List ℕ → Heap → ℕ → Type 0
Ends script heap base = (s : List Item) × (refs : List Ref) × (rs : List Ref) × Ending script heap base s refs rs

-- ---------------------------------------------------------------- once the constants have their nodes

-- the nodes of operands
abbrev pub nodes_of : List Item → List Ref → List ℕ
nodes_of s rs = map (node_of s) rs

settled_here : (s : List Item) (rs : List Ref) → settled s rs ≡ map here (nodes_of s rs)
settled_here s [] = refl
settled_here s (r ∷ rs) = ap (λ (l : List Ref). here (node_of s r) ∷ l) (settled_here s rs)

module _ {script : List ℕ} {heap : Heap} {base : ℕ} {s : List Item} {refs rs : List Ref} (e : Ending script heap base s refs rs) where
  abbrev then : List Item
  then = with_constants (pending_in rs) s

  cut : drop base (refs ++ rs) ≡ rs
  cut = drop_at refs rs base e.below

  keep : take base (refs ++ rs) ≡ refs
  keep = take_at refs rs base e.below

  pub all-ended : (heap' : Heap) → AllTold script heap' base s (refs ++ rs) (Ok tt)
      → Held heap' then × Stacked script heap' (refs ++ map here (nodes_of then rs))
  all-ended heap' (h, k) =
      let a : with_constants (pending_in (drop base (refs ++ rs))) s ≡ then = ap (λ (l : List Ref). with_constants (pending_in l) s) cut in
      let b : take base (refs ++ rs) ++ settled (with_constants (pending_in (drop base (refs ++ rs))) s) (drop base (refs ++ rs)) ≡ refs ++ map here (nodes_of then rs) =
      (λ i. keep i ++ settled (a i) (cut i)) ∙ ap (λ (l : List Ref). refs ++ l) (settled_here then rs) in
      (subst (λ (t : List Item). Held heap' t) a h, subst (λ (l : List Ref). Stacked script heap' l) b k)

  pub all-over : (heap' : Heap) (u : OverLimit) → AllTold script heap' base s (refs ++ rs) (Err u) → within then ≡ false
  all-over heap' u h = subst (λ (l : List Ref). within (with_constants (pending_in l) s) ≡ false) cut h

  -- ---------------------------------------------------------------- the term's own node

  module _ (term : (Ref → ℕ) → Item) where
    pub ended-over : within then ≡ false → within (ended (pending_in rs) term s).items ≡ false
    unfolding ended
    ended-over h = over-grows then (then ++ (term (node_of then) ∷ [])) (grows-snoc then (term (node_of then))) h

    pub settle-fails : (heap' : Heap) (u : OverLimit) → AllTold script heap' base s (refs ++ rs) (Err u) → within (ended (pending_in rs) term s).items ≡ false
    settle-fails heap' u h = ended-over (all-over heap' u h)

    pub ended-told : (heap₁ heap' : Heap) (r : Result ℕ OverLimit) → Stacked script heap₁ (refs ++ map here (nodes_of then rs))
        → Told heap₁ heap' base (then ++ (term (node_of then) ∷ [])) (length then) r → EndedAs script heap' refs (ended (pending_in rs) term s) r
    unfolding ended
    ended-told heap₁ heap' (Err _) k h = h
    ended-told heap₁ heap' (Ok m) k (a, b, c, d) =
        let l : List Ref = map here (nodes_of then rs) in
        let z : base ≤ length (refs ++ l) = omega (arith, length-append refs l, e.below) in
        (ap here (sym a), b, subst (λ (x : List Ref). Stacked script heap' x) (take_at refs l base e.below) (stacked-cut script k base c d z))

-- the operands that wait behind others
pub behind : {script : List ℕ} {heap : Heap} (refs : List Ref) (ys : List ℕ) (base : ℕ) → Stacked script heap (refs ++ map here ys) → length refs ≡ base
    → (drop base (refs ++ map here ys) ≡ map here ys) × (base ≤ heap.top) × (heap.top ≤ stack_size) × (heap.top ≡ base + length ys)
behind {script} {heap} refs ys base k e =
    let l = length-append refs (map here ys) in
    let m : length (map here ys) ≡ length ys = length-map ys here in
    let t : heap.top ≡ length (refs ++ map here ys) = k.top in
    (drop_at refs (map here ys) base e, omega arith, omega (arith, k.room), omega arith)

-- ---------------------------------------------------------------- operands that have their nodes

at_map : (ys : List ℕ) (k : ℕ) → k < length ys → get_elem? (map here ys) k ≡ some (here (get_or ys k 0))
at_map [] k h = absurd (omega arith)
at_map (y ∷ ys) zero h = refl
at_map (y ∷ ys) (suc k) h = at_map ys k (omega arith)

pub here-at : (refs : List Ref) (ys : List ℕ) (i k : ℕ) → i ≡ length refs + k → k < length ys → get_elem? (refs ++ map here ys) i ≡ some (here (get_or ys k 0))
here-at [] ys i k e h = let z : i ≡ k = omega arith in rw z (at_map ys k h)
here-at (r ∷ refs) ys zero k e h = absurd (omega arith)
here-at (r ∷ refs) ys (suc i) k e h = here-at refs ys i k (omega arith) h

pub past-last : (ys : List ℕ) (k : ℕ) → length ys ≤ k → 0 ≡ get_or ys k 0
past-last [] k h = refl
past-last (y ∷ ys) zero h = absurd (omega arith)
past-last (y ∷ ys) (suc k) h = past-last ys k (omega arith)

-- ---------------------------------------------------------------- operators

-- an operator with these numerals over so many operands; of a rotation, its amount has a node
pub record OperatorOver (k i j amount : ℕ) (s : List Item) (ks : List ℕ) (ms : List (List ℕ)) (count : ℕ) : Type 0 where
  pub operands : List (Option TreeSort)
  pub sort : TreeSort
  pub met : Met (shape_of k) ks operands sort
  pub many : length operands ≡ count
  pub first-numeral : i ≡ get_or ks 0 0
  pub second-numeral : j ≡ get_or ks 1 0
  pub amounts : shape_of k ≡ rotation → (bs : List ℕ) × (ms ≡ bs ∷ []) × Has s bs × (node_of s (pending bs) ≡ amount)

-- the same before the amount has its node: it is the first numeral in as many bits as w
pub record OperatorEnds (k i j w : ℕ) (ks : List ℕ) (ms : List (List ℕ)) (count : ℕ) : Type 0 where
  pub operands : List (Option TreeSort)
  pub sort : TreeSort
  pub met : Met (shape_of k) ks operands sort
  pub many : length operands ≡ count
  pub first-numeral : i ≡ get_or ks 0 0
  pub second-numeral : j ≡ get_or ks 1 0
  pub turns : shape_of k ≡ rotation → ms ≡ low_bits w i ∷ []
  pub plain : (shape_of k ≡ rotation → ⊥) → ms ≡ []

abbrev pub operator_item : ℕ → List ℕ → List Ref → List (List ℕ) → (Ref → ℕ) → Item
operator_item k ks rs ms node = an_operator k ks (map node rs) (pendings node ms)

pub made-over : {k i j amount : ℕ} {s : List Item} {ks : List ℕ} {ms : List (List ℕ)} (rs : List Ref) → OperatorOver k i j amount s ks ms (length rs) → (x y z : ℕ)
    → let t : List Item = with_constants (pending_in rs) s in x ≡ get_or (nodes_of t rs) 0 0 → y ≡ get_or (nodes_of t rs) 1 0 → z ≡ get_or (nodes_of t rs) 2 0
    → Made k i j x y z amount ks (nodes_of t rs) (pendings (node_of t) ms)
made-over {k} {i} {j} {amount} {s} {ks} {ms} rs o x y z p₀ p₁ p₂ =
    let t : List Item = with_constants (pending_in rs) s in
    record {
      operands = o.operands;
      sort = o.sort;
      met = o.met;
      count = length-map rs (node_of t) ∙ sym o.many;
      first-numeral = o.first-numeral;
      second-numeral = o.second-numeral;
      first = p₀;
      second = p₁;
      third = p₂;
      amounts = λ h.
          (let (bs, e, f, g) = o.amounts h in
          ap (pendings (node_of t)) e ∙ ap (λ (n : ℕ). n ∷ []) (node-grows s t (with-constants-grows (pending_in rs) s) bs f ∙ g));
    }

-- constants first, and then others
pub ended-append : (cs ds : List (List ℕ)) (term : (Ref → ℕ) → Item) (s : List Item) → ended ds term (with_constants cs s) ≡ ended (cs ++ ds) term s
unfolding ended
ended-append cs ds term s =
    let e : with_constants ds (with_constants cs s) ≡ with_constants (cs ++ ds) s = sym (with-constants-append cs ds s) in
    λ i. record { items = e i ++ (term (node_of (e i)) ∷ []); ref = here (length (e i)) }

-- ---------------------------------------------------------------- the amount of a rotation

one-constant : (bs : List ℕ) (s : List Item) → with_constants (bs ∷ []) s ≡ with_constant bs s
unfolding with_constants
one-constant bs s = refl

no-constant : (s : List Item) → with_constants [] s ≡ s
unfolding with_constants
no-constant s = refl

-- once the amount has its node
pub amount-ending : {script : List ℕ} {heap : Heap} {base : ℕ} {s : List Item} {refs rs : List Ref} → Ending script heap base s refs rs → (heap' : Heap) (t : List Item)
    → Held heap' t → heap'.top ≡ heap.top → heap'.stack ≡ heap.stack → Ending script heap' base t refs rs
amount-ending {script} e heap' t h p q = record { held = h; stacked = stacked-same script e.stacked p q; below = e.below }

pub rotation-over : {k i j w : ℕ} {ks : List ℕ} {ms : List (List ℕ)} {c : ℕ} (s : List Item) (m : ℕ) → OperatorEnds k i j w ks ms c → shape_of k ≡ rotation → m ≡ node_of (with_constant (low_bits w i) s) (pending (low_bits w i))
    → OperatorOver k i j m (with_constant (low_bits w i) s) ks ms c
rotation-over {k} {i} {j} {w} s m o h e = record {
  operands = o.operands;
  sort = o.sort;
  met = o.met;
  many = o.many;
  first-numeral = o.first-numeral;
  second-numeral = o.second-numeral;
  amounts = λ _. (low_bits w i, o.turns h, subst (λ (t : List Item). Has t (low_bits w i)) (one-constant (low_bits w i) s) (with-constants-has (low_bits w i ∷ []) s).0, sym e);
}

pub plain_over : {k i j w : ℕ} {ks : List ℕ} {ms : List (List ℕ)} {c : ℕ} (s : List Item) → OperatorEnds k i j w ks ms c → (shape_of k ≡ rotation → ⊥) → OperatorOver k i j 0 s ks ms c
plain_over s o h = record {
  operands = o.operands;
  sort = o.sort;
  met = o.met;
  many = o.many;
  first-numeral = o.first-numeral;
  second-numeral = o.second-numeral;
  amounts = λ e. absurd (h e);
}

-- the amount is the first of the constants
pub rotation-ended : (bs : List ℕ) (ms cs : List (List ℕ)) (term : (Ref → ℕ) → Item) (s : List Item) → ms ≡ bs ∷ [] → ended cs term (with_constant bs s) ≡ ended (ms ++ cs) term s
rotation-ended bs ms cs term s e =
    ap (ended cs term) (sym (one-constant bs s)) ∙ ended-append (bs ∷ []) cs term s ∙ ap (λ (l : List (List ℕ)). ended (l ++ cs) term s) (sym e)

pub plain-ended : (ms cs : List (List ℕ)) (term : (Ref → ℕ) → Item) (s : List Item) → ms ≡ [] → ended cs term s ≡ ended (ms ++ cs) term s
plain-ended ms cs term s e = ap (λ (l : List (List ℕ)). ended (l ++ cs) term s) (sym e)

pub amount-over : (bs : List ℕ) (ms cs : List (List ℕ)) (term : (Ref → ℕ) → Item) (s : List Item) → ms ≡ bs ∷ [] → within (with_constant bs s) ≡ false → within (ended (ms ++ cs) term s).items ≡ false
unfolding ended
amount-over bs ms cs term s e h =
    let u : List Item = with_constant bs s in
    let v : List Item = with_constants cs u in
    subst (λ (p : Put). within p.items ≡ false) (rotation-ended bs ms cs term s e)
    (over-grows u (v ++ (term (node_of v) ∷ [])) (grows-trans u v (v ++ (term (node_of v) ∷ [])) (with-constants-grows cs u) (grows-snoc v (term (node_of v)))) h)
