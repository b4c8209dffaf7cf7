-- Constants found by hash: what is kept where nodes are added, and the walk along a chain. Assumes nothing.
use Rattle.std.specs.Prelude.{ℕ, zero, suc, ◌+◌, ◌≤◌, ◌<◌, ◌≡◌, refl, List, [], ◌∷◌, ◌++◌, ◌⊎◌, T, None}
use Rattle.std.proofs.Common.{ap, sym, ◌∙◌, subst, inl, inr, arith}
use Rattle.std.proofs.Math.Option.{Option, none, some}
use lib.ListN.{length, take, drop, get_or, get_elem?, length-append}
use Rattle.std.proofs.lemmas.List.{take-append-le, drop-append-le}
use Rattle.lists.specs.Tests.{same→eq}
use Rattle.lists.specs.Places.{at_less, at-exists, at-append, at_snoc, one_place, find_at, find-append}
use Rattle.readback.specs.Rebuild.{Item, a_variable, a_constant, an_operator, a_select, a_call, is_constant, find_constant, bits_in, joined}
use Rattle.heap_laws.specs.Heap.{hash_of, constant_at, past, Latest, Kept, Held}
use Rattle.heap_laws.specs.declared.Constant.{Constant}
use Rattle.heap_laws.specs.declared.Heap.{Heap}
use Rattle.heap_laws.specs.Within.{joined-append}

-- ---------------------------------------------------------------- places of a longer list

-- a place of the first part
at_left : (s t : List Item) (j : ℕ) (x : Item) → j < length s → get_elem? (s ++ t) j ≡ some x → get_elem? s j ≡ some x
at_left s t j x l e =
    let (y, f) = at-exists s j l in
    f ∙ ap some (one_place (s ++ t) j y x (at-append s t j y f) e)

-- ---------------------------------------------------------------- the last constant of a hash

pub latest-grows : (h : ℕ) (s t : List Item) (i c : ℕ) → i ≤ length s → Latest h s i c → Latest h (s ++ t) i c
latest-grows h s t i c l k = record {
  all = λ j bs m e q. k.all j bs m (at_left s t j (a_constant bs) (omega arith) e) q;
  own = λ m e. (let (a, bs, f, q) = k.own m e in (a, bs, at-append s t m (a_constant bs) f, q));
}

-- a node more, which is no constant of that hash
pub latest-skip : (h : ℕ) (s : List Item) (x : Item) (c : ℕ) → ((bs : List ℕ) → x ≡ a_constant bs → hash_of bs ≡ h → ⊥) → Latest h s (length s) c
    → Latest h (s ++ (x ∷ [])) (length (s ++ (x ∷ []))) c
latest-skip h s x c f k =
    let l : length (s ++ (x ∷ [])) ≡ length s + 1 = length-append s (x ∷ []) in
    record {
      all = λ j bs m e q. by_place j bs q (at_snoc s x j (a_constant bs) e);
      own = λ m e. (let (a, bs, g, q) = k.own m e in (omega arith, bs, at-append s (x ∷ []) m (a_constant bs) g, q));
    }
  where
    by_place : (j : ℕ) (bs : List ℕ) → hash_of bs ≡ h → (get_elem? s j ≡ some (a_constant bs)) ⊎ ((j ≡ length s) × (x ≡ a_constant bs)) → j < c
    by_place j bs q (inl e) = k.all j bs (at_less s j (a_constant bs) e) e q
    by_place j bs q (inr (a, b)) = absurd (f bs b q)

-- a node more, which is one
pub latest-new : (s : List Item) (bs : List ℕ) → Latest (hash_of bs) (s ++ (a_constant bs ∷ [])) (length (s ++ (a_constant bs ∷ []))) (length s + 1)
latest-new s bs =
    let l : length (s ++ (a_constant bs ∷ [])) ≡ length s + 1 = length-append s (a_constant bs ∷ []) in
    record {
      all = λ j cs m e q. omega arith;
      own = λ m e.
          (let z : m ≡ length s = omega arith in
          (omega arith, bs, subst (λ (i : ℕ). get_elem? (s ++ (a_constant bs ∷ [])) i ≡ some (a_constant bs)) (sym z) (Rattle.lists.specs.Places.at-seam s (a_constant bs) []), refl));
    }

-- ---------------------------------------------------------------- a constant's cells

-- the same cells, and more nodes
pub kept-grows : (cs cs' : List Constant) (s t : List Item) (i : ℕ) (bs : List ℕ) → i < length s → constant_at cs' i ≡ constant_at cs i → Kept cs s i bs → Kept cs' (s ++ t) i bs
kept-grows cs cs' s t i bs l e k =
    let p : ℕ = (constant_at cs i).start in
    let xs : List ℕ = joined bits_in s in
    let j : joined bits_in (s ++ t) ≡ xs ++ joined bits_in t = joined-append bits_in s t in
    let n : length (joined bits_in (s ++ t)) ≡ length xs + length (joined bits_in t) = ap length j ∙ length-append xs (joined bits_in t) in
    let low : p + length bs ≤ length xs = k.end in
    let d : drop p (xs ++ joined bits_in t) ≡ drop p xs ++ joined bits_in t = drop-append-le p xs (joined bits_in t) (omega arith) in
    let m : length bs ≤ length (drop p xs) = omega (arith, lib.ListN.length-drop p xs) in
    let b : take (length bs) (drop p (joined bits_in (s ++ t))) ≡ bs =
    ap (λ (y : List ℕ). take (length bs) (drop p y)) j ∙ ap (take (length bs)) d ∙ take-append-le (length bs) (drop p xs) (joined bits_in t) m ∙ k.bits in
    record {
      end = omega (arith, ap (λ (x : Constant). x.start) e, n, low);
      size = ap (λ (x : Constant). x.width) e ∙ k.size;
      bits = ap (λ (x : Constant). take (length bs) (drop x.start (joined bits_in (s ++ t)))) e ∙ b;
      chain = subst (λ (x : Constant). Latest (hash_of bs) (s ++ t) i (past x.before)) (sym e) (latest-grows (hash_of bs) s t i (past (constant_at cs i).before) (omega arith) k.chain);
      first = find-append (is_constant bs) 0 s t i k.first;
    }

-- ---------------------------------------------------------------- the search

is-constant : (bs : List ℕ) (x : Item) → T (is_constant bs x) → x ≡ a_constant bs
unfolding is_constant
is-constant bs (a_variable w) h = absurd h
is-constant bs (a_constant cs) h = ap a_constant (sym (same→eq bs cs h))
is-constant bs (an_operator k ks xs ms) h = absurd h
is-constant bs (a_select a i ps) h = absurd h
is-constant bs (a_call g w xs) h = absurd h

-- the constant, if it has a node, stands before place c, and the node before c is a constant of its hash
pub record Sought (s : List Item) (bs : List ℕ) (c : ℕ) : Type 0 where
  pub before : (j : ℕ) → get_elem? s j ≡ some (a_constant bs) → j < c
  pub own : (k : ℕ) → c ≡ k + 1 → (k < length s) × (ds : List ℕ) × (get_elem? s k ≡ some (a_constant ds)) × (hash_of ds ≡ hash_of bs)

module _ {heap : Heap} {s : List Item} (h : Held heap s) (bs : List ℕ) where
  pub sought-first : hash_of bs < 4096 → Sought s bs (past (get_or heap.heads (hash_of bs) None))
  sought-first l =
      let k = h.heads (hash_of bs) l in
      record { before = λ j e. k.all j bs (at_less s j (a_constant bs) e) e refl; own = k.own }

  pub sought-next : (k : ℕ) → Sought s bs (k + 1) → (get_elem? s k ≡ some (a_constant bs) → ⊥) → Sought s bs (past (constant_at heap.constants k).before)
  sought-next k w f =
      let (l, ds, e, q) = w.own k refl in
      let chain = (h.constants k ds e).chain in
      record {
        before = λ j m.
            (let a : j < k + 1 = w.before j m in
            let b : (j ≡ k → ⊥) = λ z. f (subst (λ (i : ℕ). get_elem? s i ≡ some (a_constant bs)) z m) in
            chain.all j bs (omega arith) m (sym q));
        own = λ j m. (let (a, cs, g, r) = chain.own j m in (omega arith, cs, g, r ∙ q));
      }

  -- the chain goes down
  pub sought-less : (k : ℕ) → Sought s bs (k + 1) → past (constant_at heap.constants k).before ≤ k
  sought-less k w =
      let (l, ds, e, q) = w.own k refl in
      by-cell (past (constant_at heap.constants k).before) (λ j m. ((h.constants k ds e).chain.own j m).0)
    where
      by-cell : (c : ℕ) → ((j : ℕ) → c ≡ j + 1 → j < k) → c ≤ k
      by-cell zero own = omega arith
      by-cell (suc j) own = let a = own j (omega arith) in omega arith

  pub sought-none : Sought s bs 0 → find_constant bs s ≡ none
  sought-none w = by-found (find_constant bs s) refl
    where
      by-found : (o : Option ℕ) → find_constant bs s ≡ o → find_constant bs s ≡ none
      by-found none e = e
      by-found (some i) e =
          let (j, x, p, q, t) = find_at (is_constant bs) 0 s i e in
          absurd (omega (arith, w.before j (q ∙ ap some (is-constant bs x t))))

  pub sought-found : (k : ℕ) → get_elem? s k ≡ some (a_constant bs) → find_constant bs s ≡ some k
  sought-found k e = (h.constants k bs e).first
