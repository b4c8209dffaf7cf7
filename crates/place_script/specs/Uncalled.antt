-- The functions that no assertion calls, each called on zeros, one after the other.
use Rattle.std.specs.Prelude.{ℕ, suc, ◌+◌, ◌≤◌, ◌<◌, ◌≡◌, refl, Bool, true, false, Result, Ok, Err, ⊤}
use Rattle.std.proofs.Math.Path.{ap}
use Rattle.std.proofs.Common.{sym, ◌∙◌, subst, arith, add-one, drop-cons}
use mathlib.Core.List.{List, [], ◌∷◌, map}
use lib.ListN.{length, drop, get_or}
use Rattle.lists.specs.Places.{Grows, grows-refl, grows-snoc, grows-trans}
use Rattle.reading.specs.Trees.{Trees, Function, Declarations}
use Rattle.readback.specs.Rebuild.{Item, with_constants, ended, zeros, calls_any, call_on_zeros, with_uncalled}
use Rattle.rebuilt.specs.Built.{no-function, function_at}
use Rattle.rebuilt.specs.Constants.{with-constants-grows}
use Rattle.heap_laws.specs.Heap.{within, Held, Stacked}
use Rattle.heap_laws.specs.declared.Heap.{Heap}
use Rattle.heap_laws.specs.declared.OverLimit.{OverLimit}
use Rattle.heap_laws.specs.Within.{over-grows}
use Rattle.script_calls.specs.Flags.{Flagged}
use Rattle.place_script.specs.Zeros.{zeros_call, HeldTo}

pub zeros-call : (g : ℕ) (f : Function) (s : List Item) → zeros_call g f.width f.arguments s ≡ call_on_zeros g f s
unfolding zeros_call call_on_zeros
zeros-call g f s = refl

call-grows : (g : ℕ) (f : Function) (s : List Item) → Grows s (call_on_zeros g f s)
unfolding call_on_zeros ended
call-grows g f s = grows-trans s (with_constants (map zeros f.arguments) s) _ (with-constants-grows (map zeros f.arguments) s) (grows-snoc (with_constants (map zeros f.arguments) s) _)

-- the nodes after function g, by whether it is flagged
abbrev pub after_function : Bool → ℕ → Function → List Item → List Item
after_function true g f s = s
after_function false g f s = call_on_zeros g f s

-- the functions from g on that are not flagged, each called on zeros
unfoldable pub unflagged : List Bool → ℕ → List Function → List Item → List Item
unflagged l g [] s = s
unflagged l g (f ∷ fs) s = unflagged l (suc g) fs (after_function (get_or l g false) g f s)

pub unflagged-grows : (l : List Bool) (g : ℕ) (fs : List Function) (s : List Item) → Grows s (unflagged l g fs s)
unfolding unflagged
unflagged-grows l g [] s = grows-refl s
unflagged-grows l g (f ∷ fs) s = grows-trans s (after_function (get_or l g false) g f s) _ (by_flag (get_or l g false)) (unflagged-grows l (suc g) fs (after_function (get_or l g false) g f s))
  where
    by_flag : (b : Bool) → Grows s (after_function b g f s)
    by_flag true = grows-refl s
    by_flag false = call-grows g f s

-- where the flags are those of trees: the functions that no tree calls
flags_of : (ts : Trees) (l : List Bool) (fs : List Function) (g : ℕ) (s : List Item) → ((i : ℕ) → i < length fs → get_or l (g + i) false ≡ calls_any (get_or fs i no-function).name ts)
    → unflagged l g fs s ≡ with_uncalled ts g fs s
unfolding unflagged with_uncalled
flags_of ts l [] g s k = refl
flags_of ts l (f ∷ fs) g s k =
    let z : g + 0 ≡ g = omega arith in
    by_call (get_or l g false) (calls_any f.name ts) (ap (λ (i : ℕ). get_or l i false) (sym z) ∙ k 0 (omega arith))
    (λ u. flags_of ts l fs (suc g) u (λ i h. let z : suc g + i ≡ g + suc i = omega arith in ap (λ (j : ℕ). get_or l j false) z ∙ k (suc i) (omega arith)))
  where
    by_call : (a b : Bool) → a ≡ b → ((u : List Item) → unflagged l (suc g) fs u ≡ with_uncalled ts (suc g) fs u)
        → unflagged l (suc g) fs (after_function a g f s) ≡ with_uncalled ts (suc g) fs (elim b as (λ _. List Item) [ true ↦ s | false ↦ call_on_zeros g f s ])
    by_call true true e later = later s
    by_call true false e later = cc
    by_call false true e later = cc
    by_call false false e later = later (call_on_zeros g f s)

pub flagged-as : (D : Declarations) (ts : Trees) (l : List Bool) (s : List Item) → Flagged D ts l → length D.functions ≤ 512 → unflagged l 0 D.functions s ≡ with_uncalled ts 0 D.functions s
flagged-as D ts l s f n = flags_of ts l D.functions 0 s (λ i h. let z : 0 + i ≡ i = omega arith in ap (λ (j : ℕ). get_or l j false) z ∙ f.flags i (omega arith) h)

-- the first k functions are through
pub record Uncalling (s : List ℕ) (flags : List Bool) (heap : Heap) (D : Declarations) (first : List Item) (k : ℕ) : Type 0 where
  pub now : List Item
  pub same : unflagged flags 0 D.functions first ≡ unflagged flags k (drop k D.functions) now
  pub held : Held heap now
  pub stacked : Stacked s heap []

pub uncalling-start : {s : List ℕ} {flags : List Bool} {heap : Heap} (D : Declarations) {first : List Item} → Held heap first → Stacked s heap [] → Uncalling s flags heap D first 0
uncalling-start D {first} h k = record { now = first; same = refl; held = h; stacked = k }

module _ {s : List ℕ} {flags : List Bool} {heap : Heap} {D : Declarations} {first : List Item} {k : ℕ} (u : Uncalling s flags heap D first k) where
  pub uncalling-end : length D.functions ≤ k → HeldTo s heap (unflagged flags 0 D.functions first) (Ok tt)
  unfolding unflagged
  uncalling-end l =
      let e : unflagged flags 0 D.functions first ≡ u.now = u.same ∙ ap (λ (fs : List Function). unflagged flags k fs u.now) (lib.ListN.drop_of_length-le D.functions l) in
      (subst (λ (t : List Item). Held heap t) (sym e) u.held, u.stacked)

  module _ (l : k < length D.functions) where
    abbrev here_function : Function
    here_function = function_at D k

    step_is : (b : Bool) → get_or flags k false ≡ b → unflagged flags 0 D.functions first ≡ unflagged flags (k + 1) (drop (k + 1) D.functions) (after_function b k here_function u.now)
    unfolding unflagged
    step_is b e =
        u.same ∙ ap (λ (fs : List Function). unflagged flags k fs u.now) (drop-cons D.functions k no-function l)
        ∙ ap (λ (c : Bool). unflagged flags (suc k) (drop (suc k) D.functions) (after_function c k here_function u.now)) e
        ∙ ap (λ (n : ℕ). unflagged flags n (drop n D.functions) (after_function b k here_function u.now)) (sym (add-one k))

    -- a function that is flagged
    pub function-called : get_or flags k false ≡ true → Uncalling s flags heap D first (k + 1)
    function-called h = record { now = u.now; same = step_is true h; held = u.held; stacked = u.stacked }

    module _ (h : get_or flags k false ≡ false) (ws : List ℕ) (width : ℕ) (p : here_function.arguments ≡ ws) (q : here_function.width ≡ width) where
      step-zeros : unflagged flags 0 D.functions first ≡ unflagged flags (k + 1) (drop (k + 1) D.functions) (call_on_zeros k here_function u.now)
      step-zeros = step_is false h

      call-is : zeros_call k width ws u.now ≡ call_on_zeros k here_function u.now
      call-is = (λ i. zeros_call k (sym q i) (sym p i) u.now) ∙ zeros-call k here_function u.now

      pub function-zeros : (heap' : Heap) (b : Result ⊤ OverLimit) (v : ⊤) → b ≡ Ok v → HeldTo s heap' (zeros_call k width ws u.now) b → Uncalling s flags heap' D first (k + 1)
      function-zeros heap' b v e x =
          let (y, z) = subst (HeldTo s heap' (zeros_call k width ws u.now)) e x in
          record { now = call_on_zeros k here_function u.now; same = step-zeros; held = subst (λ (t : List Item). Held heap' t) call-is y; stacked = z }

      pub function-over : (heap' : Heap) (b : Result ⊤ OverLimit) (v : OverLimit) → b ≡ Err v → HeldTo s heap' (zeros_call k width ws u.now) b → within (unflagged flags 0 D.functions first) ≡ false
      function-over heap' b v e x =
          let y : within (zeros_call k width ws u.now) ≡ false = subst (HeldTo s heap' (zeros_call k width ws u.now)) e x in
          subst (λ (t : List Item). within t ≡ false) (sym step-zeros)
          (over-grows (call_on_zeros k here_function u.now) (unflagged flags (k + 1) (drop (k + 1) D.functions) (call_on_zeros k here_function u.now))
          (unflagged-grows flags (k + 1) (drop (k + 1) D.functions) (call_on_zeros k here_function u.now)) (subst (λ (t : List Item). within t ≡ false) call-is y))
