-- What an assertion with `let` is refused with, by what the nodes' whole terms are refused with: a bound term is checked before any use
-- of it, so that a use may ask it all again.
use Prim.Native.Nat.{ℕ, zero, suc, ◌+◌, ◌≤◌, ◌<◌}
use Rattle.std.proofs.Math.Path.{◌≡◌, refl, sym, ap, subst}
use Rattle.std.proofs.Common.{◌∙◌, le-ltb, ne_eqb}
use mathlib.Core.List.{List, [], ◌∷◌, map}
use Rattle.std.proofs.Math.Bool.{Bool, true, false, cond}
use Rattle.std.specs.Prelude.{eqb, ltb}
use native.Mathlib.Omega.{arith}
use Rattle.std.proofs.Math.Decide.{dec_lt}
use Rattle.std.proofs.Math.Dec.{T, eqb→eq, ltb→lt}
use Rattle.std.proofs.Math.ListN.{length}
use Rattle.lists.specs.Tests.{among, true→T, and_0, and-1, or_elim}
use Rattle.lists.specs.Build.{upto-below}
use Rattle.echo_spec.specs.Refusals.{unless, ◌or_else◌}
use Rattle.echo_spec.specs.Input.{Dag}
use Rattle.echo_spec.specs.Widths.{ext_wf_of}
use Rattle.echo_spec.specs.Walk.{asked, Operand, walk_all, sort_ok, step_of_walk, walks_below, walk, walk_roots}
use Rattle.echo_spec.specs.Accepted.{or_else-passed}
use Rattle.lets.specs.Lets as lets
use Rattle.lets.specs.Lets.{shared, reached_below, reached, binds, rising, bool_at, used_as, let_step, let_walks_below, let_walk, own_sort, assertion_refusal, let_roots}
use Rattle.lets.specs.ReachedLaws.{Reaches, itself, onward, reached-is}
use Rattle.echo_tables.specs.Refused.{operands_of, refused_at, Each, Passes, all_same, walk-past, operands-low, walk_is, operands-pass}

-- the first that is not 0, of the m numbers from a on
unfoldable pub first_from : (ℕ → ℕ) → ℕ → ℕ → ℕ
first_from f a zero = 0
first_from f a (suc m) = f a or_else first_from f (suc a) m

-- of the bound nodes alone
abbrev pub of_bound : (ℕ → Bool) → (ℕ → ℕ) → ℕ → ℕ
of_bound bound f i = cond (bound i) (f i) 0

-- ---------------------------------------------------------------- laws

none-else : (m : ℕ) → (m or_else 0) ≡ m
none-else zero = refl
none-else (suc m) = refl

own-sort : (b : Bool) → sort_ok b b ≡ true
own-sort true = refl
own-sort false = refl

module _ (d : Dag) (ws : List ℕ) (nbits : ℕ) (widths : ws ≡ ext_wf_of nbits d.array-widths d.side d.nodes) (counted : length ws ≡ length d.nodes) where
  -- a node with its own sort
  own-walk : (i : ℕ) → i < length d.nodes → walk d ws i (bool_at d i) ≡ refused_at d ws i
  own-walk i h = walk_is d ws nbits widths counted i h (bool_at d i) ∙ ap (λ (b : Bool). unless b 3 or_else refused_at d ws i) (own-sort (bool_at d i))

  module _ (bound : ℕ → Bool) (here : (i : ℕ) → T (bound i) → i < length d.nodes) where
    -- the bound nodes below i are not refused
    abbrev Clear : ℕ → Type 0
    Clear i = (k : ℕ) → k < i → T (bound k) → refused_at d ws k ≡ 0

    -- a use of a bound node that is not refused
    bound-use : (j : ℕ) (w : Bool) → T (bound j) → refused_at d ws j ≡ 0 → unless (sort_ok w (bool_at d j)) 3 ≡ walk d ws j w
    bound-use j w t e = sym (walk_is d ws nbits widths counted j (here j t) w ∙ ap (λ (m : ℕ). unless (sort_ok w (bool_at d j)) 3 or_else m) e ∙ none-else _)

    -- node i is refused as the plain walk refuses it
    abbrev Alike : ℕ → Type 0
    Alike i = (w : Bool) → let_walk d ws bound i w ≡ walk d ws i w

    by-bound : (j : ℕ) (v : Bool) → Alike j → (b : Bool) → bound j ≡ b → (T (bound j) → refused_at d ws j ≡ 0) → cond b (unless (sort_ok v (bool_at d j)) 3) (let_walk d ws bound j v) ≡ walk d ws j v
    by-bound j v h true q c = bound-use j v (true→T q) (c (true→T q))
    by-bound j v h false q c = h v

    below : (i : ℕ) → Clear i → ((j : ℕ) → j < i → Alike j) → (j : ℕ) (v : Bool) → j < i → used_as d bound (let_walks_below d ws bound i) j v ≡ walks_below d ws i j v
    unfolding used_as let_walk walk
    below i c h j v k =
        ap (λ (f : Bool → ℕ). cond (bound j) (unless (sort_ok v (bool_at d j)) 3) (f v)) (upto-below (let_step d ws bound) (λ _. 1) i j k)
        ∙ by-bound j v (h j k) (bound j) refl (c j k) ∙ sym (ap (λ (f : Bool → ℕ). f v) (upto-below (step_of_walk d ws) (λ _. 1) i j k))

    by_place : (i : ℕ) → Clear i → ((j : ℕ) → j < i → Alike j) → Dec (i < length d.nodes) → Alike i
    unfolding let_walk let_step walk step_of_walk
    by_place i c h (yes l) w =
        ap (λ (x : ℕ). unless (ltb i (length d.nodes)) 1 or_else unless (sort_ok w (bool_at d i)) 3 or_else asked d ws i or_else x)
        (all_same (used_as d bound (let_walks_below d ws bound i)) (walks_below d ws i) i (below i c h) (operands_of d i) (operands-low d ws nbits widths counted i l))
    by_place i c h (no l) w = rw (le-ltb i (length d.nodes) (omega arith)) refl

    let-upto : (m i : ℕ) → i < m → Clear i → Alike i
    let-upto zero i l c = absurd (omega arith)
    let-upto (suc m) i l c = by_place i c (λ j k. let-upto m j (omega arith) (λ x y t. c x (omega arith) t)) (dec_lt i (length d.nodes))

    let-walk : (i : ℕ) → Clear i → (w : Bool) → let_walk d ws bound i w ≡ walk d ws i w
    let-walk i = let-upto (suc i) i (omega arith)

    -- the root where it is used
    root-use : (root : ℕ) → Clear (length d.nodes) → used_as d bound (let_walk d ws bound) root true ≡ walk d ws root true
    unfolding used_as
    root-use root c = by-root (bound root) refl
      where
        by-root : (b : Bool) → bound root ≡ b → cond b (unless (sort_ok true (bool_at d root)) 3) (let_walk d ws bound root true) ≡ walk d ws root true
        by-root true q = bound-use root true (true→T q) (c root (here root (true→T q)) (true→T q))
        by-root false q = let-walk root (λ k l t. c k (here k t) t) true

    clear-more : (a : ℕ) → Clear a → (T (bound a) → refused_at d ws a ≡ 0) → Clear (suc a)
    clear-more a c z k l t = by_last (dec_lt k a)
      where
        by_last : Dec (k < a) → refused_at d ws k ≡ 0
        by_last (yes h) = c k h t
        by_last (no h) = let q : k ≡ a = omega arith in rw q (z (subst (λ (x : ℕ). T (bound x)) q t))

    -- the bound terms from a on, and then the root
    abbrev From : ℕ → ℕ → ℕ → Type 0
    From root a m = (walk_all (let_walk d ws bound) (map (own_sort d) (rising bound a m)) or_else used_as d bound (let_walk d ws bound) root true) ≡ (first_from (of_bound bound (refused_at d ws)) a m or_else walk d ws root true)

    by_number : (root a m : ℕ) (n : ℕ) → (n ≡ 0 → From root (suc a) m)
        → ((n or_else walk_all (let_walk d ws bound) (map (own_sort d) (rising bound (suc a) m))) or_else used_as d bound (let_walk d ws bound) root true)
        ≡ ((n or_else first_from (of_bound bound (refused_at d ws)) (suc a) m) or_else walk d ws root true)
    by_number root a m zero rest = rest refl
    by_number root a m (suc n) rest = refl

    from-node : (root a m : ℕ) → Clear a → a < length d.nodes → (Clear (suc a) → From root (suc a) m) → (b : Bool) → bound a ≡ b
        → (walk_all (let_walk d ws bound) (map (own_sort d) (cond b (a ∷ rising bound (suc a) m) (rising bound (suc a) m))) or_else used_as d bound (let_walk d ws bound) root true)
        ≡ ((cond b (refused_at d ws a) 0 or_else first_from (of_bound bound (refused_at d ws)) (suc a) m) or_else walk d ws root true)
    unfolding walk_all own_sort
    from-node root a m c h rest true q =
        ap (λ (x : ℕ). (x or_else walk_all (let_walk d ws bound) (map (own_sort d) (rising bound (suc a) m))) or_else used_as d bound (let_walk d ws bound) root true)
        (let-walk a c (bool_at d a) ∙ own-walk a h)
        ∙ by_number root a m (refused_at d ws a) (λ z. rest (clear-more a c (λ t. z)))
    from-node root a m c h rest false q = rest (clear-more a c (λ t. absurd (subst T q t)))

    from : (root a m : ℕ) → a + m ≡ length d.nodes → Clear a → From root a m
    unfolding rising walk_all first_from
    from root a zero e c = root-use root (λ k l t. c k (omega arith) t)
    from root a (suc m) e c = from-node root a m c (omega arith) (from root (suc a) m (omega arith)) (bound a) refl

    -- what an assertion is refused with
    pub assertion-is : (root : ℕ) → assertion_refusal d ws bound root ≡ (first_from (of_bound bound (refused_at d ws)) 0 (length d.nodes) or_else walk d ws root true)
    unfolding assertion_refusal
    assertion-is root = from root 0 (length d.nodes) (omega arith) (λ k l t. absurd (omega arith))

  -- ---------------------------------------------------------------- roots

  -- the terms of the operands of a term that is not refused are not refused
  passed-among : (i : ℕ) (os : List Operand) → Each (Passes d ws i) os → (j : ℕ) → T (among (map (λ (o : Operand). o.node) os) j) → (j < i) × (refused_at d ws j ≡ 0)
  passed-among i [] p j t = absurd t
  passed-among i (o ∷ os) p j t =
      or_elim (eqb j o.node) (among (map (λ (o : Operand). o.node) os) j) t
      (λ e. let q : j ≡ o.node = eqb→eq j o.node e in (rw q p.0.low, rw q p.0.passed)) (passed-among i os p.1 j)

  -- nor are those that a root reaches
  reaches-free : (root : ℕ) → root < length d.nodes → refused_at d ws root ≡ 0 → (j : ℕ) → Reaches d root j → (j < length d.nodes) × (refused_at d ws j ≡ 0)
  unfolding lets.operands_of
  reaches-free root h e _ (itself j q) = (rw q h, rw q e)
  reaches-free root h e _ (onward i j r l o) =
      let z = reaches-free root h e i r in
      let (k, f) = passed-among i (operands_of d i) (operands-pass d ws nbits widths counted i z.0 z.1).1 j o in
      (omega arith, f)

  pub reached-free : (root : ℕ) → root < length d.nodes → refused_at d ws root ≡ 0 → (j : ℕ) → T (among (reached d root) j) → refused_at d ws j ≡ 0
  reached-free root h e j t = (reaches-free root h e j ((reached-is d nbits (rw (← widths) counted) root j).0 t)).1

  bound-here : (us : List ℕ) (root i : ℕ) → T (binds d us root i) → i < length d.nodes
  unfolding binds shared
  bound-here us root i t = ltb→lt i (length d.nodes) (and_0 (ltb i (length d.nodes)) _ (and_0 (shared d us i) (among (reached d root) i) t))

  pub root_is : (us : List ℕ) (root : ℕ) → assertion_refusal d ws (binds d us root) root ≡ (first_from (of_bound (binds d us root) (refused_at d ws)) 0 (length d.nodes) or_else walk d ws root true)
  root_is us root = assertion-is (binds d us root) (bound-here us root) root

  first-none : (bound : ℕ → Bool) (f : ℕ → ℕ) → ((i : ℕ) → T (bound i) → f i ≡ 0) → (a m : ℕ) → first_from (of_bound bound f) a m ≡ 0
  unfolding first_from
  first-none bound f h a zero = refl
  first-none bound f h a (suc m) = ap (λ (x : ℕ). x or_else first_from (of_bound bound f) (suc a) m) (by-bound (bound a) refl) ∙ first-none bound f h (suc a) m
    where
      by-bound : (b : Bool) → bound a ≡ b → cond b (f a) 0 ≡ 0
      by-bound true q = h a (true→T q)
      by-bound false q = refl

  root-free : (us : List ℕ) (root : ℕ) → walk d ws root true ≡ 0 → assertion_refusal d ws (binds d us root) root ≡ 0
  unfolding binds
  root-free us root e = by_place (dec_lt root (length d.nodes))
    where
      by_place : Dec (root < length d.nodes) → assertion_refusal d ws (binds d us root) root ≡ 0
      by_place (no h) = let z : ◌≡◌ {A = ℕ} 1 0 = sym (walk-past d ws root (omega arith) true) ∙ e in absurd (omega arith)
      by_place (yes h) =
          let free : refused_at d ws root ≡ 0 = (or_else-passed (unless (sort_ok true (bool_at d root)) 3) (refused_at d ws root) (sym (walk_is d ws nbits widths counted root h true) ∙ e)).1 in
          root_is us root
          ∙ (λ k. first-none (binds d us root) (refused_at d ws) (λ i t. reached-free root h free i (and-1 (shared d us i) (among (reached d root) i) t)) 0 (length d.nodes) k or_else e k)

  -- where no root's whole term is refused, none is here
  pub roots-free : (us roots : List ℕ) → walk_roots d ws roots ≡ 0 → let_roots d ws us roots ≡ 0
  unfolding let_roots walk_roots walk_all
  roots-free us [] e = refl
  roots-free us (r ∷ rs) e =
      let (first, rest) = or_else-passed (walk d ws r true) (walk_roots d ws rs) e in
      λ k. root-free us r first k or_else roots-free us rs rest k

  -- and where one is, one is here
  pub roots-refused : (us roots : List ℕ) → let_roots d ws us roots ≡ 0 → walk_roots d ws roots ≡ 0
  unfolding let_roots walk_roots walk_all
  roots-refused us [] e = refl
  roots-refused us (r ∷ rs) e =
      let (first, rest) = or_else-passed (assertion_refusal d ws (binds d us r) r) (let_roots d ws us rs) e in
      let (_, own) = or_else-passed (first_from (of_bound (binds d us r) (refused_at d ws)) 0 (length d.nodes)) (walk d ws r true) (sym (root_is us r) ∙ first) in
      λ k. own k or_else roots-refused us rs rest k

  -- a root that is no node reaches none
  reach-none : (root m : ℕ) → m ≤ root → reached_below d m (root ∷ []) ≡ root ∷ []
  unfolding reached_below
  reach-none root zero l = refl
  reach-none root (suc m) l = rw (ne_eqb m root (λ z. let y : m ≡ root = z in omega arith)) (reach-none root m (omega arith))

  pub none-bound : (us : List ℕ) (root : ℕ) → length d.nodes ≤ root → first_from (of_bound (binds d us root) (refused_at d ws)) 0 (length d.nodes) ≡ 0
  unfolding reached
  none-bound us root l =
      first-none (binds d us root) (refused_at d ws)
      (λ i t.
      let h = bound-here us root i t in
      let m : T (among (root ∷ []) i) = subst (λ (ms : List ℕ). T (among ms i)) (reach-none root (length d.nodes) l) (and-1 (shared d us i) (among (reached d root) i) (unfold binds in t)) in
      absurd (or_elim (eqb i root) false m (λ e. let q : i ≡ root = eqb→eq i root e in omega arith) (λ z. z)))
      0 (length d.nodes)
