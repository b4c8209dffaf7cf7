-- A call on zeros, its arguments one after the other.
use Prim.Native.Nat.{ℕ, ◌+◌, ◌≤◌, ◌<◌}
use Rattle.std.specs.Prelude.{◌≡◌, refl, false, Option, Some, None, Result, Ok, Err, ⊤}
use Rattle.std.proofs.Math.Path.{ap, sym, subst}
use Rattle.std.proofs.Common.{◌∙◌, arith}
use mathlib.Core.List.{List, [], ◌∷◌, ◌++◌, map, append-nil, append_assoc}
use Rattle.std.proofs.Math.ListN.{length, length-append, length-map}
use Rattle.lists.specs.Tests.{no→false}
use Rattle.lists.specs.Places.{Grows, grows-snoc, grows-trans, at_less}
use Rattle.readback.specs.Rebuild.{Item, a_constant, a_call, with_constant, with_constants, Ref, here, pending, node_of, ended, low_bits, pendings, zeros, side_in, joined}
use Rattle.rebuilt.specs.Constants.{Has, HasAll, with-constants-grows, with-constants-has, node-of-constant}
use Rattle.heap_laws.specs.Heap.{within, stack_size, Held, Stacked}
use Rattle.heap_laws.specs.declared.Heap.{Heap}
use Rattle.heap_laws.specs.declared.OverLimit.{OverLimit}
use Rattle.heap_laws.specs.Within.{joined_snoc, within-parts, over-grows}
use Rattle.heap_laws.specs.Settling.{with-constants-append, node-grows, low_zeros}
use Rattle.heap_laws.specs.Stacks.{stacked-same, stacked-cut}
use Rattle.script_tokens.specs.declared.Number.{Number}
use Rattle.script_entries.specs.Entries.{ArgumentsAt, NextArgument}
use Rattle.script_heap.specs.Told.{Told, Pushed, ConstantTold}

-- the nodes with a call of function g on zeros of these widths
unfoldable pub zeros_call : ℕ → ℕ → List ℕ → List Item → List Item
zeros_call g width ws s = (ended (map zeros ws) (λ node. a_call g width (pendings node (map zeros ws))) s).items

-- these nodes are held, or they are too many
abbrev pub HeldTo : List ℕ → Heap → List Item → Result ⊤ OverLimit → Type 0
HeldTo s heap t (Ok _) = Held heap t × Stacked s heap []
HeldTo s heap t (Err _) = within t ≡ false

-- whether the node was added
abbrev pub added : Result ℕ OverLimit → Result ⊤ OverLimit
added (Err u) = Err u
added (Ok m) = Ok tt

abbrev Zeros : List ℕ → List (List ℕ)
Zeros ws = map zeros ws

map-zeros : (xs ys : List ℕ) → Zeros (xs ++ ys) ≡ Zeros xs ++ Zeros ys
map-zeros [] ys = refl
map-zeros (x ∷ xs) ys = ap (λ (l : List (List ℕ)). zeros x ∷ l) (map-zeros xs ys)

pendings-append : (node : Ref → ℕ) (cs ds : List (List ℕ)) → pendings node (cs ++ ds) ≡ pendings node cs ++ pendings node ds
pendings-append node [] ds = refl
pendings-append node (c ∷ cs) ds = ap (λ (l : List ℕ). node (pending c) ∷ l) (pendings-append node cs ds)

pendings-grow : (s t : List Item) → Grows s t → (cs : List (List ℕ)) → HasAll s cs → pendings (node_of s) cs ≡ pendings (node_of t) cs
pendings-grow s t g [] h = refl
pendings-grow s t g (c ∷ cs) (h, k) = let a = sym (node-grows s t g c h) in let b = pendings-grow s t g cs k in λ i. a i ∷ b i

map-here : (xs ys : List ℕ) → map here (xs ++ ys) ≡ map here xs ++ map here ys
map-here [] ys = refl
map-here (x ∷ xs) ys = ap (λ (l : List Ref). here x ∷ l) (map-here xs ys)

-- the arguments `done` have their nodes, and the sorts of the others stand at place a
pub record Zeroing (s : List ℕ) (heap : Heap) (ws : List ℕ) (first : List Item) (a : ℕ) : Type 0 where
  pub done : List ℕ
  pub left : List ℕ
  pub split : ws ≡ done ++ left
  pub held : Held heap (with_constants (Zeros done) first)
  pub stacked : Stacked s heap (map here (pendings (node_of (with_constants (Zeros done) first)) (Zeros done)))
  pub sorts : ArgumentsAt s a left

pub zeroing-start : {s : List ℕ} {heap : Heap} {ws : List ℕ} {first : List Item} {a : ℕ} → ArgumentsAt s a ws → Held heap first → Stacked s heap [] → Zeroing s heap ws first a
unfolding with_constants
zeroing-start {ws = ws} x h k = record { done = []; left = ws; split = refl; held = h; stacked = k; sorts = x }

module _ {s : List ℕ} {heap : Heap} {ws : List ℕ} {first : List Item} {a : ℕ} (z : Zeroing s heap ws first a) where
  abbrev pub now : List Item
  now = with_constants (Zeros z.done) first

  pub place-low : a ≤ length s
  place-low = z.sorts.begin

  pub top-low : heap.top ≤ stack_size
  top-low = let r = z.stacked.room in let t = z.stacked.top in omega arith

  -- ---------------------------------------------------------------- one argument more

  split-next : (w : ℕ) (l : List ℕ) → z.left ≡ w ∷ l → ws ≡ (z.done ++ (w ∷ [])) ++ l
  split-next w l e = z.split ∙ ap (λ (x : List ℕ). z.done ++ x) e ∙ sym (append_assoc z.done (w ∷ []) l)

  one_more : (w : ℕ) → with_constant (zeros w) now ≡ with_constants (Zeros (z.done ++ (w ∷ []))) first
  unfolding with_constants
  one_more w = sym (ap (λ (cs : List (List ℕ)). with_constants cs first) (map-zeros z.done (w ∷ [])) ∙ with-constants-append (Zeros z.done) (zeros w ∷ []) first)

  whole-grows : (g width w : ℕ) (l : List ℕ) → z.left ≡ w ∷ l → Grows (with_constants (Zeros (z.done ++ (w ∷ []))) first) (zeros_call g width ws first)
  unfolding zeros_call ended
  whole-grows g width w l e =
      let xs : List ℕ = z.done ++ (w ∷ []) in
      let q : with_constants (Zeros ws) first ≡ with_constants (Zeros l) (with_constants (Zeros xs) first) =
      ap (λ (y : List ℕ). with_constants (Zeros y) first) (split-next w l e) ∙ ap (λ (cs : List (List ℕ)). with_constants cs first) (map-zeros xs l) ∙ with-constants-append (Zeros xs) (Zeros l) first in
      grows-trans (with_constants (Zeros xs) first) (with_constants (Zeros ws) first) _
      (subst (λ (t : List Item). Grows (with_constants (Zeros xs) first) t) (sym q) (with-constants-grows (Zeros l) (with_constants (Zeros xs) first)))
      (grows-snoc (with_constants (Zeros ws) first) _)

  -- what `next_argument` told
  next-none : NextArgument s a z.left None → z.left ≡ []
  next-none h = by_left z.left h
    where
      by_left : (l : List ℕ) → NextArgument s a l None → l ≡ []
      by_left [] h = refl
      by_left (w ∷ l) h = absurd h

  next-some : (w e : ℕ) → NextArgument s a z.left (Some (record { value = w; end = e })) → (l : List ℕ) × (z.left ≡ w ∷ l) × (a < e) × (e ≤ length s) × ArgumentsAt s e l
  next-some w e h = by_left z.left h
    where
      by_left : (l : List ℕ) → NextArgument s a l (Some (record { value = w; end = e })) → (m : List ℕ) × (l ≡ w ∷ m) × (a < e) × (e ≤ length s) × ArgumentsAt s e m
      by_left [] h = absurd h
      by_left (v ∷ l) (p, q, r, x) = (l, ap (λ (y : ℕ). y ∷ l) (sym r), p, q, x)

  module _ (r : Option Number) (told : NextArgument s a z.left r) where
    argument : (w e : ℕ) → r ≡ Some (record { value = w; end = e }) → (l : List ℕ) × (z.left ≡ w ∷ l) × (a < e) × (e ≤ length s) × ArgumentsAt s e l
    argument w e q = next-some w e (subst (NextArgument s a z.left) q told)

    pub argument-on : (w e : ℕ) → r ≡ Some (record { value = w; end = e }) → (a < e) × (e ≤ length s)
    argument-on w e q = let (_, _, x, y, _) = argument w e q in (x, y)

    module _ (w e : ℕ) (q : r ≡ Some (record { value = w; end = e })) (heap₁ : Heap) (x : Result ℕ OverLimit) (h : ConstantTold heap heap₁ (low_bits w 0) now x) where
      zero-told : Told heap heap₁ heap.top (with_constant (zeros w) now) (node_of (with_constant (zeros w) now) (pending (zeros w))) x
      zero-told = subst (λ (bs : List ℕ). ConstantTold heap heap₁ bs now x) (low_zeros w) h

      pub zero-over : (g width : ℕ) (u : OverLimit) → x ≡ Err u → within (zeros_call g width ws first) ≡ false
      zero-over g width u f =
          let (l, k, _, _, _) = argument w e q in
          let b : within (with_constant (zeros w) now) ≡ false = subst (λ (y : Result ℕ OverLimit). Told heap heap₁ heap.top (with_constant (zeros w) now) (node_of (with_constant (zeros w) now) (pending (zeros w))) y) f zero-told in
          over-grows (with_constants (Zeros (z.done ++ (w ∷ []))) first) (zeros_call g width ws first) (whole-grows g width w l k) (subst (λ (t : List Item). within t ≡ false) (one_more w) b)

      module _ (m : ℕ) (f : x ≡ Ok m) where
        abbrev told_at : (m ≡ node_of (with_constant (zeros w) now) (pending (zeros w))) × Held heap₁ (with_constant (zeros w) now) × (heap₁.top ≡ heap.top) × (heap₁.stack ≡ heap.stack)
        told_at = subst (λ (y : Result ℕ OverLimit). Told heap heap₁ heap.top (with_constant (zeros w) now) (node_of (with_constant (zeros w) now) (pending (zeros w))) y) f zero-told

        now₁ : List Item
        now₁ = with_constants (Zeros (z.done ++ (w ∷ []))) first

        has_all : HasAll now₁ (Zeros (z.done ++ (w ∷ [])))
        unfolding now₁
        has_all = with-constants-has (Zeros (z.done ++ (w ∷ []))) first

        has_last : (xs : List ℕ) (t : List Item) → HasAll t (Zeros (xs ++ (w ∷ []))) → Has t (zeros w)
        has_last [] t k = k.0
        has_last (y ∷ xs) t k = has_last xs t k.1

        held₁ : Held heap₁ now₁
        unfolding now₁
        held₁ = subst (λ (t : List Item). Held heap₁ t) (one_more w) told_at.1

        m-is : m ≡ node_of now₁ (pending (zeros w))
        unfolding now₁
        m-is = told_at.0 ∙ ap (λ (t : List Item). node_of t (pending (zeros w))) (one_more w)

        pub zero-small : m < 2048
        zero-small =
            let k = node-of-constant now₁ (zeros w) (has_last z.done now₁ has_all) in
            let l = at_less now₁ (node_of now₁ (pending (zeros w))) (a_constant (zeros w)) k in
            let b = (within-parts now₁ held₁.inside).nodes in
            let c = m-is in
            omega arith

        grows₁ : Grows now now₁
        unfolding now₁ with_constants
        grows₁ = subst (λ (t : List Item). Grows now t) (one_more w) (with-constants-grows (zeros w ∷ []) now)

        stacked₁ : Stacked s heap₁ (map here (pendings (node_of now₁) (Zeros z.done)))
        stacked₁ =
            subst (λ (xs : List ℕ). Stacked s heap₁ (map here xs)) (pendings-grow now now₁ grows₁ (Zeros z.done) (with-constants-has (Zeros z.done) first))
            (stacked-same s z.stacked told_at.2 told_at.3)

        refs-next : map here (pendings (node_of now₁) (Zeros z.done)) ++ (here m ∷ []) ≡ map here (pendings (node_of now₁) (Zeros (z.done ++ (w ∷ []))))
        refs-next =
            sym (ap (λ (cs : List (List ℕ)). map here (pendings (node_of now₁) cs)) (map-zeros z.done (w ∷ [])) ∙ ap (map here) (pendings-append (node_of now₁) (Zeros z.done) (zeros w ∷ []))
            ∙ map-here (pendings (node_of now₁) (Zeros z.done)) (node_of now₁ (pending (zeros w)) ∷ []) ∙ ap (λ (n : ℕ). map here (pendings (node_of now₁) (Zeros z.done)) ++ (here n ∷ [])) (sym m-is))

        module _ (heap₂ : Heap) (keeps : (t : List Item) → Held heap₁ t → Held heap₂ t)
            (b : Result ⊤ OverLimit) (pushes : (t : List Item) (script : List ℕ) (refs : List Ref) → Held heap₁ t → Stacked script heap₁ refs → Pushed script heap₂ refs (here m) b) where
          pub zero-next : (u : ⊤) → b ≡ Ok u → Zeroing s heap₂ ws first e
          unfolding now₁
          zero-next u y =
              let (l, k, _, _, n) = argument w e q in
              record {
                done = z.done ++ (w ∷ []);
                left = l;
                split = split-next w l k;
                held = keeps now₁ held₁;
                stacked = subst (λ (rs : List Ref). Stacked s heap₂ rs) refs-next
                    (subst (λ (c : Result ⊤ OverLimit). Pushed s heap₂ (map here (pendings (node_of now₁) (Zeros z.done))) (here m) c) y (pushes now₁ s (map here (pendings (node_of now₁) (Zeros z.done))) held₁ stacked₁));
                sorts = n;
              }

          -- more arguments than side entries
          pub zero-full : (g width : ℕ) (u : OverLimit) → b ≡ Err u → within (zeros_call g width ws first) ≡ false
          unfolding zeros_call ended side_in
          zero-full g width u y =
              let (l, k, _, _, _) = argument w e q in
              let c : length (map here (pendings (node_of now₁) (Zeros z.done))) ≡ stack_size =
              subst (λ (c : Result ⊤ OverLimit). Pushed s heap₂ (map here (pendings (node_of now₁) (Zeros z.done))) (here m) c) y (pushes now₁ s (map here (pendings (node_of now₁) (Zeros z.done))) held₁ stacked₁) in
              let d : length z.done ≡ stack_size =
              sym (length-map (pendings (node_of now₁) (Zeros z.done)) here ∙ length-map (Zeros z.done) (λ bs. node_of now₁ (pending bs)) ∙ length-map z.done zeros) ∙ c in
              let f : length ws ≡ length z.done + length z.left = ap length z.split ∙ length-append z.done z.left in
              let t : List Item = with_constants (Zeros ws) first in
              let xs : List ℕ = pendings (node_of t) (Zeros ws) in
              let n : length xs ≡ length ws = length-map (Zeros ws) (λ bs. node_of t (pending bs)) ∙ length-map ws zeros in
              let o : length (joined side_in (t ++ (a_call g width xs ∷ []))) ≡ length (joined side_in t) + length xs = ap length (joined_snoc side_in t (a_call g width xs)) ∙ length-append (joined side_in t) xs in
              no→false (within (t ++ (a_call g width xs ∷ []))) (λ v. let u = (within-parts (t ++ (a_call g width xs ∷ [])) v).side in omega arith)

    -- ---------------------------------------------------------------- the call itself

    module _ (q : r ≡ None) where
      all_done : ws ≡ z.done
      all_done = z.split ∙ ap (λ (l : List ℕ). z.done ++ l) (next-none (subst (NextArgument s a z.left) q told)) ∙ append-nil z.done

      pub zero-nodes : List ℕ
      zero-nodes = pendings (node_of now) (Zeros z.done)

      pub zero-stack : Stacked s heap (map here zero-nodes)
      unfolding zero-nodes
      zero-stack = z.stacked

      pub zeros-called : (g width : ℕ) (heap' : Heap) (x : Result ℕ OverLimit) → Told heap heap' 0 (now ++ (a_call g width zero-nodes ∷ [])) (length now) x → HeldTo s heap' (zeros_call g width ws first) (added x)
      unfolding zero-nodes zeros_call ended
      zeros-called g width heap' x h = subst (λ (l : List ℕ). HeldTo s heap' (zeros_call g width l first) (added x)) (sym all_done) (by_answer x h)
        where
          by_answer : (x : Result ℕ OverLimit) → Told heap heap' 0 (now ++ (a_call g width zero-nodes ∷ [])) (length now) x → HeldTo s heap' (zeros_call g width z.done first) (added x)
          by_answer (Err u) h = h
          by_answer (Ok m) (_, c, d, e) = (c, stacked-cut s z.stacked 0 d e (omega arith))
