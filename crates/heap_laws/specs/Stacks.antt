-- The operands that wait: one more, some fewer, one settled. Assumes nothing.
use Rattle.std.specs.Prelude.{ℕ, zero, suc, ◌+◌, ◌*◌, ◌-◌, ◌/◌, ◌%◌, ◌≤◌, ◌<◌, ◌≡◌, refl, List, [], ◌∷◌, ◌++◌, map, Bool, true, false, eqb, ltb, length, take, drop, get_or, set}
use Rattle.std.proofs.Common.{ap, sym, ◌∙◌, arith, add-one, lt-ltb, le-ltb, length-append, length-drop}
use Rattle.std.proofs.lemmas.List.{map-append, length-map}
use Rattle.std.proofs.Math.Option.{some}
use Rattle.std.proofs.Math.ListN.{get_elem?}
use lib.Seq.{length-take-le, take-take, take-suc-set, take-set-lt, drop-set-lt, drop-set-add, set_at, get_or-take, get_or-drop, get_or-set_same, get_or-set_other}
use Rattle.lists.specs.Places.{at_less}
use Rattle.readback.specs.Rebuild.{Ref, here, pending}
use Rattle.smtlib.specs.Readings.{bits_of}
use Rattle.script_tokens.specs.Reached.{between}
use Rattle.heap_laws.specs.Heap.{stack_size, bits_at, bits_spanned, ref_at, halves, Stacked}
use Rattle.heap_laws.specs.declared.Heap.{Heap}

-- ---------------------------------------------------------------- lists

map-take : {A B : Type 0} (f : A → B) (n : ℕ) (l : List A) → map f (take n l) ≡ take n (map f l)
map-take f zero l = refl
map-take f (suc n) [] = refl
map-take f (suc n) (x ∷ l) = ap (λ (m : List _). f x ∷ m) (map-take f n l)

map-set : {A B : Type 0} (f : A → B) (l : List A) (i : ℕ) (v : A) → map f (set l i v) ≡ set (map f l) i (f v)
map-set f [] i v = refl
map-set f (x ∷ l) zero v = refl
map-set f (x ∷ l) (suc i) v = ap (λ (m : List _). f x ∷ m) (map-set f l i v)

map_at : {A B : Type 0} (f : A → B) (l : List A) (i : ℕ) (d : A) (y : B) → get_elem? (map f l) i ≡ some y → f (get_or l i d) ≡ y
map_at f [] i d y e = absurd (let z : ◌≡◌ {A = ℕ} 0 1 = cc in omega arith)
map_at f (x ∷ l) zero d y e = cc
map_at f (x ∷ l) (suc i) d y e = map_at f l i d y e

-- ---------------------------------------------------------------- a number as an operand

pub ref-even : (script : List ℕ) (c : ℕ) → c % 2 ≡ 0 → c / 2 < 4611686018427387904 → ref_at script c ≡ here (c / 2)
unfolding ref_at
ref-even script c e l = rw (e, ref_at, lt-ltb (c / 2) 4611686018427387904 l)

pub ref-spanned : (script : List ℕ) (c : ℕ) → c % 2 ≡ 0 → 4611686018427387904 ≤ c / 2 → ref_at script c ≡ pending (bits_spanned script (c / 2 - 4611686018427387904))
unfolding ref_at
ref-spanned script c e l = rw (e, ref_at, le-ltb (c / 2) 4611686018427387904 l)

pub ref-odd : (script : List ℕ) (c : ℕ) → c % 2 ≡ 1 → ref_at script c ≡ pending (bits_at script (c / 2))
unfolding ref_at
ref-odd script c e = rw (e, ref_at)

pub ref-node : (script : List ℕ) (i : ℕ) → i < 4611686018427387904 → ref_at script (2 * i) ≡ here i
ref-node script i l =
    let b : 2 * i / 2 ≡ i = omega arith in
    ref-even script (2 * i) (omega arith) (omega arith) ∙ ap here b

pub ref-constant : (script : List ℕ) (p : ℕ) → ref_at script (2 * p + 1) ≡ pending (bits_at script p)
ref-constant script p =
    let b : (2 * p + 1) / 2 ≡ p = omega arith in
    ref-odd script (2 * p + 1) (omega arith) ∙ ap (λ (k : ℕ). pending (bits_at script k)) b

-- so many digits from a place on
pub ref-digits : (script : List ℕ) (p w : ℕ) → p < 17592186044416 → ref_at script (2 * (4611686018427387904 + (p + 17592186044416 * w))) ≡ pending (bits_of (between script p (p + w)))
unfolding bits_spanned
ref-digits script p w l =
    let x : ℕ = p + 17592186044416 * w in
    let a : 2 * (4611686018427387904 + x) / 2 - 4611686018427387904 ≡ x = omega arith in
    let b : x % 17592186044416 ≡ p = omega arith in
    let c : x / 17592186044416 ≡ w = omega arith in
    ref-spanned script (2 * (4611686018427387904 + x)) (omega arith) (omega arith)
    ∙ ap (λ (y : ℕ). pending (bits_spanned script y)) a ∙ (λ i. pending (bits_of (between script (b i) (b i + c i))))

-- the number of a node
pub ref-half : (script : List ℕ) (c i : ℕ) → ref_at script c ≡ here i → c / 2 ≡ i
unfolding ref_at
ref-half script c i e = by-rest (eqb (c % 2) 0) (ltb (c / 2) 4611686018427387904) e
  where
    by-rest : (t u : Bool)
        → elim t as (λ _. Ref) [
          | true ↦ elim u as (λ _. Ref) [ true ↦ here (c / 2) | false ↦ pending (bits_spanned script (c / 2 - 4611686018427387904)) ]
          | false ↦ pending (bits_at script (c / 2))
        ] ≡ here i
        → c / 2 ≡ i
    by-rest true true e = cc
    by-rest true false e = absurd (let z : ◌≡◌ {A = ℕ} 0 1 = cc in omega arith)
    by-rest false u e = absurd (let z : ◌≡◌ {A = ℕ} 0 1 = cc in omega arith)

-- ---------------------------------------------------------------- the operands that wait

module _ (script : List ℕ) {heap : Heap} {refs : List Ref} (w : Stacked script heap refs) where
  pub stacked-same : {heap' : Heap} → heap'.top ≡ heap.top → heap'.stack ≡ heap.stack → Stacked script heap' refs
  stacked-same e f = record { room = w.room; top = e ∙ w.top; held = ap (λ (l : List ℕ). map (ref_at script) (take (length refs) l)) f ∙ w.held }

  -- as many as n are left
  pub stacked-cut : {heap' : Heap} (n : ℕ) → heap'.top ≡ n → heap'.stack ≡ heap.stack → n ≤ length refs → Stacked script heap' (take n refs)
  stacked-cut {heap'} n e f l =
      let k : length (take n refs) ≡ n = length-take-le n refs l in
      record {
        room = omega (arith, w.room);
        top = e ∙ sym k;
        held = (λ i. map (ref_at script) (take (k i) (f i))) ∙ ap (map (ref_at script)) (sym (take-take n (length refs) heap.stack l))
            ∙ map-take (ref_at script) n (take (length refs) heap.stack) ∙ ap (take n) w.held;
      }

  -- one more
  pub stacked-push : (v : ℕ) → length heap.stack ≡ stack_size → heap.top < stack_size
      → Stacked script (record heap { top = heap.top + 1; stack = set heap.stack heap.top v }) (refs ++ (ref_at script v ∷ []))
  stacked-push v long free =
      let n : ℕ = length refs in
      let t : heap.top ≡ n = w.top in
      let size : length (refs ++ (ref_at script v ∷ [])) ≡ n + 1 = length-append refs (ref_at script v ∷ []) in
      record {
        room = omega arith;
        top = omega arith;
        held = (λ i. map (ref_at script) (take ((size ∙ add-one n) i) (set heap.stack (t i) v))) ∙ ap (map (ref_at script)) (take-suc-set heap.stack n v (omega arith))
            ∙ map-append (ref_at script) (take n heap.stack) (v ∷ []) ∙ ap (λ (l : List Ref). l ++ (ref_at script v ∷ [])) w.held;
      }

  -- the number that an operand stands as
  pub stacked-at : (i : ℕ) (r : Ref) → get_elem? refs i ≡ some r → ref_at script (get_or heap.stack i 0) ≡ r
  stacked-at i r e =
      let l : i < length refs = at_less refs i r e in
      let f : ref_at script (get_or (take (length refs) heap.stack) i 0) ≡ r =
      map_at (ref_at script) (take (length refs) heap.stack) i 0 r (ap (λ (q : List Ref). get_elem? q i) w.held ∙ e) in
      ap (ref_at script) (sym (get_or-take (length refs) heap.stack i 0 l)) ∙ f

-- one of them is another
pub stacked-set : (script : List ℕ) {heap : Heap} (xs : List Ref) (r : Ref) (ys : List Ref) (i v : ℕ) → length xs ≡ i → Stacked script heap (xs ++ (r ∷ ys))
    → Stacked script (record heap { stack = set heap.stack i v }) (xs ++ (ref_at script v ∷ ys))
stacked-set script {heap} xs r ys i v e w =
    let a : length (xs ++ (r ∷ ys)) ≡ length xs + suc (length ys) = length-append xs (r ∷ ys) in
    let b : length (xs ++ (ref_at script v ∷ ys)) ≡ length xs + suc (length ys) = length-append xs (ref_at script v ∷ ys) in
    let n : ℕ = length (xs ++ (r ∷ ys)) in
    let same : length (xs ++ (ref_at script v ∷ ys)) ≡ n = b ∙ sym a in
    record {
      room = omega (arith, w.room);
      top = w.top ∙ sym same;
      held = (λ j. map (ref_at script) (take (same j) (set heap.stack i v)))
          ∙ ap (map (ref_at script)) (take-set-lt n heap.stack i v (omega arith)) ∙ map-set (ref_at script) (take n heap.stack) i v
          ∙ ap (λ (l : List Ref). set l i (ref_at script v)) w.held ∙ set_at xs r ys (ref_at script v) i e;
    }

-- the numbers of nodes that wait from place base on
pub stacked-nodes : (script : List ℕ) {heap : Heap} {refs : List Ref} (base : ℕ) (xs : List ℕ) → Stacked script heap refs → base ≤ length refs → drop base refs ≡ map here xs
    → halves (take (length xs) (drop base heap.stack)) ≡ xs
stacked-nodes script {heap} {refs} base xs w l e =
    let n : ℕ = length refs in
    let size : length xs ≡ n - base = sym (length-map xs here) ∙ sym (ap length e) ∙ length-drop base refs in
    let f : drop base (map (ref_at script) (take n heap.stack)) ≡ map here xs = ap (drop base) w.held ∙ e in
    let g : drop base (take n heap.stack) ≡ take (length xs) (drop base heap.stack) = drop-take base (n - base) heap.stack n (omega arith) ∙ ap (λ (k : ℕ). take k (drop base heap.stack)) (sym size) in
    halved (take (length xs) (drop base heap.stack)) xs (ap (map (ref_at script)) (sym g) ∙ sym (drop-map (ref_at script) base (take n heap.stack)) ∙ f)
  where
    drop-map : {A B : Type 0} (f : A → B) (k : ℕ) (l : List A) → drop k (map f l) ≡ map f (drop k l)
    drop-map f zero l = refl
    drop-map f (suc k) [] = refl
    drop-map f (suc k) (x ∷ l) = drop-map f k l

    drop-take : (k m : ℕ) (l : List ℕ) (n : ℕ) → n ≡ k + m → drop k (take n l) ≡ take m (drop k l)
    drop-take zero m l n e =
        let z : n ≡ m = omega arith in
        ap (λ (i : ℕ). take i l) z
    drop-take (suc k) m [] n e = ap (drop (suc k)) (lib.Seq.take-nil n) ∙ sym (lib.Seq.take-nil m)
    drop-take (suc k) m (x ∷ l) zero e = absurd (omega arith)
    drop-take (suc k) m (x ∷ l) (suc n) e = drop-take k m l n (omega arith)

    halved : (cs xs : List ℕ) → map (ref_at script) cs ≡ map here xs → halves cs ≡ xs
    halved [] [] e = refl
    halved [] (x ∷ xs) e = absurd (let z : ◌≡◌ {A = ℕ} 0 1 = cc in omega arith)
    halved (c ∷ cs) [] e = absurd (let z : ◌≡◌ {A = ℕ} 0 1 = cc in omega arith)
    halved (c ∷ cs) (x ∷ xs) e =
        let p : ref_at script c ≡ here x = cc in
        let q : map (ref_at script) cs ≡ map here xs = cc in
        let a = ref-half script c x p in
        let b = halved cs xs q in
        λ i. a i ∷ b i
