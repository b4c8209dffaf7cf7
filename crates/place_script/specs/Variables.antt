-- The variables of a script as its first nodes.
use Rattle.std.specs.Prelude.{ℕ, zero, suc, ◌+◌, ◌≤◌, ◌<◌, ◌≡◌, refl, List, [], ◌∷◌, ◌++◌, map, false, length, take, drop, get_or, Result, Ok, Err, ⊤}
use Rattle.std.proofs.Common.{ap, sym, ◌∙◌, subst, arith, add-one, take-append-drop, take-suc}
use Rattle.lists.specs.Places.{Grows}
use Rattle.reading.specs.Trees.{Variable, Declarations}
use Rattle.readback.specs.Rebuild.{Item, a_variable, variable_items}
use Rattle.rebuilt.specs.Built.{no-variable}
use Rattle.heap_laws.specs.Heap.{within, Held, Stacked}
use Rattle.heap_laws.specs.declared.Heap.{Heap}
use Rattle.heap_laws.specs.declared.OverLimit.{OverLimit}
use Rattle.heap_laws.specs.Within.{over-grows}
use Rattle.heap_laws.specs.Stacks.{stacked-same}
use Rattle.script_heap.specs.Told.{Told}

-- the variables are nodes, or they are too many
abbrev pub VariablesTo : List ℕ → Heap → Declarations → Result ⊤ OverLimit → Type 0
VariablesTo script heap D (Ok _) = Held heap (variable_items D.variables) × Stacked script heap []
VariablesTo script heap D (Err _) = within (variable_items D.variables) ≡ false

-- the first k of them
pub record Declared (script : List ℕ) (heap : Heap) (vs : List Variable) (k : ℕ) : Type 0 where
  pub held : Held heap (variable_items (take k vs))
  pub stacked : Stacked script heap []

map-append : (f : Variable → Item) (xs ys : List Variable) → map f (xs ++ ys) ≡ map f xs ++ map f ys
map-append f [] ys = refl
map-append f (x ∷ xs) ys = ap (λ (l : List Item). f x ∷ l) (map-append f xs ys)

one-variable : (vs : List Variable) (k w : ℕ) → k < length vs → (get_or vs k no-variable).width ≡ w → variable_items (take k vs) ++ (a_variable w ∷ []) ≡ variable_items (take (k + 1) vs)
one-variable vs k w l e =
    let f : (Variable → Item) = λ (v : Variable). a_variable v.width in
    sym (ap (λ (n : ℕ). variable_items (take n vs)) (add-one k) ∙ ap (map f) (take-suc vs k no-variable l) ∙ map-append f (take k vs) (get_or vs k no-variable ∷ [])
    ∙ ap (λ (x : ℕ). variable_items (take k vs) ++ (a_variable x ∷ [])) e)

first-ones : (vs : List Variable) (n : ℕ) → Grows (variable_items (take n vs)) (variable_items vs)
first-ones vs n =
    let f : (Variable → Item) = λ (v : Variable). a_variable v.width in
    (variable_items (drop n vs), ap (map f) (sym (take-append-drop n vs)) ∙ map-append f (take n vs) (drop n vs))

module _ {script : List ℕ} {heap : Heap} {vs : List Variable} {k : ℕ} (d : Declared script heap vs k) (w : ℕ) (l : k < length vs) (e : (get_or vs k no-variable).width ≡ w) where
  pub variable-next : (heap' : Heap) (r : Result ℕ OverLimit) (m : ℕ) → r ≡ Ok m
      → Told heap heap' heap.top (variable_items (take k vs) ++ (a_variable w ∷ [])) (length (variable_items (take k vs))) r → Declared script heap' vs (k + 1)
  variable-next heap' r m q h =
      let (_, a, b, c) = subst (λ (x : Result ℕ OverLimit). Told heap heap' heap.top (variable_items (take k vs) ++ (a_variable w ∷ [])) (length (variable_items (take k vs))) x) q h in
      record { held = subst (λ (t : List Item). Held heap' t) (one-variable vs k w l e) a; stacked = stacked-same script d.stacked b c }

  pub variable-over : (heap' : Heap) (r : Result ℕ OverLimit) (u : OverLimit) → r ≡ Err u
      → Told heap heap' heap.top (variable_items (take k vs) ++ (a_variable w ∷ [])) (length (variable_items (take k vs))) r → within (variable_items vs) ≡ false
  variable-over heap' r u q h =
      let a : within (variable_items (take k vs) ++ (a_variable w ∷ [])) ≡ false =
      subst (λ (x : Result ℕ OverLimit). Told heap heap' heap.top (variable_items (take k vs) ++ (a_variable w ∷ [])) (length (variable_items (take k vs))) x) q h in
      over-grows (variable_items (take (k + 1) vs)) (variable_items vs) (first-ones vs (k + 1)) (subst (λ (t : List Item). within t ≡ false) (one-variable vs k w l e) a)

-- before the first
pub declared-start : {script : List ℕ} {heap : Heap} (vs : List Variable) → Held heap [] → Stacked script heap [] → Declared script heap vs 0
declared-start vs h k = record { held = h; stacked = k }

-- after the last
pub declared-end : {script : List ℕ} {heap : Heap} {vs : List Variable} (k : ℕ) → Declared script heap vs k → length vs ≤ k → Held heap (variable_items vs) × Stacked script heap []
declared-end {script} {heap} {vs} k d l = (subst (λ (x : List Variable). Held heap (variable_items x)) (all vs k l) d.held, d.stacked)
  where
    all : (vs : List Variable) (k : ℕ) → length vs ≤ k → take k vs ≡ vs
    all [] zero l = refl
    all [] (suc k) l = refl
    all (x ∷ vs) zero l = absurd (omega arith)
    all (x ∷ vs) (suc k) l = ap (λ (y : List Variable). x ∷ y) (all vs k (omega arith))
