-- Room for what is still to come: terms that are not ended become nodes, and the operands that calls and selects hold become side
-- entries. What is placed first has the room that the whole leaves.
use Rattle.std.specs.Prelude.{ℕ, suc, ◌+◌, ◌≤◌, ◌≡◌, refl, List, [], ◌∷◌, ◌++◌, false, T, length}
use Rattle.std.proofs.Common.{ap, ◌∙◌, subst, arith, length-append}
use Rattle.lists.specs.Tests.{no→false}
use Rattle.lists.specs.Places.{Grows, grows-refl, grows-snoc, grows-trans}
use Rattle.reading.specs.Trees.{Tree, variable, constant, apply, select, call, Trees, none as noTrees, more, Stores, base, store, Declarations}
use Rattle.readback.specs.Rebuild.{Item, with_constants, Ref, ended, side_in, joined, put, put_all, put_stores}
use Rattle.rebuilt.specs.Constants.{with-constants-grows}
use Rattle.heap_laws.specs.Heap.{within}
use Rattle.heap_laws.specs.Within.{joined-append, joined_snoc, within-parts, within-grows}

-- the nodes keep to their limits with n nodes and e side entries more
pub record Room (n e : ℕ) (s : List Item) : Type 0 where
  pub keeps : T (within s)
  pub nodes : length s + n ≤ 2048
  pub sides : length (joined side_in s) + e ≤ 8192

-- nothing more is to come
pub room-now : (s : List Item) → T (within s) → Room 0 0 s
room-now s h =
    let w = within-parts s h in
    record { keeps = h; nodes = omega (arith, w.nodes); sides = omega (arith, w.side) }

-- no room at all is what `within` refuses
pub no_room : (s : List Item) → (Room 0 0 s → ⊥) → within s ≡ false
no_room s f = no→false (within s) (λ h. f (room-now s h))

-- and what it refuses has no room
pub over_none : (n e : ℕ) (s : List Item) → within s ≡ false → Room n e s → ⊥
over_none n e s q r = subst T q r.keeps

pub room-less : (n e m d : ℕ) (s : List Item) → m ≤ n → d ≤ e → Room n e s → Room m d s
room-less n e m d s p q r = record { keeps = r.keeps; nodes = omega (arith, r.nodes); sides = omega (arith, r.sides) }

pub room-before : (n e : ℕ) (s t : List Item) → Grows s t → Room n e t → Room n e s
room-before n e s t (r, q) h =
    let l : length t ≡ length s + length r = ap length q ∙ length-append s r in
    let d : length (joined side_in t) ≡ length (joined side_in s) + length (joined side_in r) =
    ap (λ (u : List Item). length (joined side_in u)) q ∙ ap length (joined-append side_in s r) ∙ length-append (joined side_in s) (joined side_in r) in
    record { keeps = within-grows s t (r, q) h.keeps; nodes = omega (arith, h.nodes); sides = omega (arith, h.sides) }

-- before the last node there is room for it
pub room-last : (n e : ℕ) (s : List Item) (x : Item) → Room n e (s ++ (x ∷ [])) → Room (suc n) (e + length (side_in x)) s
room-last n e s x h =
    let l : length (s ++ (x ∷ [])) ≡ length s + 1 = length-append s (x ∷ []) in
    let d : length (joined side_in (s ++ (x ∷ []))) ≡ length (joined side_in s) + length (side_in x) = ap length (joined_snoc side_in s x) ∙ length-append (joined side_in s) (side_in x) in
    record { keeps = within-grows s (s ++ (x ∷ [])) (x ∷ [], refl) h.keeps; nodes = omega (arith, h.nodes); sides = omega (arith, h.sides) }

-- ---------------------------------------------------------------- placing only adds nodes at the end

ended-grows : (cs : List (List ℕ)) (term : (Ref → ℕ) → Item) (s u : List Item) → Grows s u → Grows s (ended cs term u).items
unfolding ended
ended-grows cs term s u g =
    grows-trans s (with_constants cs u) (ended cs term u).items (grows-trans s u (with_constants cs u) g (with-constants-grows cs u)) (grows-snoc (with_constants cs u) _)

module _ (D : Declarations) where
  mutual
    unfolding put

    pub put-grows : (t : Tree) (s : List Item) → Grows s (put D t s).items
    put-grows (variable n) s = grows-refl s
    put-grows (constant bs) s = grows-refl s
    put-grows (apply k ks ts) s = ended-grows _ _ s (put_all D ts s).items (put-all-grows ts s)
    put-grows (select a j ss) s =
        ended-grows _ _ s (put D j (put_stores D ss s).items).items
        (grows-trans s (put_stores D ss s).items (put D j (put_stores D ss s).items).items (put-stores-grows ss s) (put-grows j (put_stores D ss s).items))
    put-grows (call n ts) s = ended-grows _ _ s (put_all D ts s).items (put-all-grows ts s)

    pub put-all-grows : (ts : Trees) (s : List Item) → Grows s (put_all D ts s).items
    put-all-grows noTrees s = grows-refl s
    put-all-grows (more t ts) s =
        grows-trans s (put D t s).items (put_all D ts (put D t s).items).items (put-grows t s) (put-all-grows ts (put D t s).items)

    pub put-stores-grows : (ss : Stores) (s : List Item) → Grows s (put_stores D ss s).items
    put-stores-grows base s = grows-refl s
    put-stores-grows (store i v ss) s =
        let o : List Item = (put_stores D ss s).items in
        let p : List Item = (put D i o).items in
        grows-trans s o (put D v p).items (put-stores-grows ss s) (grows-trans o p (put D v p).items (put-grows i o) (put-grows v p))
