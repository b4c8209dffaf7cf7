-- Laws of the states of the enum: an operand that came, and what stands at a place.
use Rattle.std.specs.Prelude.{ℕ, suc, ◌+◌, ◌*◌, ◌-◌, ◌≤◌, ◌<◌, ◌≡◌, ◌⊎◌, Bool, true, false, T, length, drop, get_or}
use Rattle.std.proofs.Math.Path.{refl, ap, sym, subst}
use Rattle.std.proofs.Common.{inl, inr, ⊎_elim, ◌∙◌, eq-eqb, ne_eqb, length-drop}
use mathlib.Core.List.{List, [], ◌∷◌}
use Rattle.std.specs.Prelude.{Option as Maybe, Some, None}
use Rattle.std.proofs.Math.Option.{Option, none, some}
use native.Mathlib.Omega.{arith}
use Rattle.lists.specs.Bytes.{bytes}
use Rattle.reading.specs.Trees.{Declarations}
use Rattle.echo_spec.specs.Input.{largest}
use Rattle.echo_spec.specs.TreeSorts.{TreeSort, bool, bits, if_proper}
use Rattle.echo_spec.specs.TreeSortLaws.{if-proper}
use Rattle.readback.specs.Reader.{Took, took, and_then, expect}
use Rattle.sort_reader.specs.Waits.{Wait, ends, arguments, stuck, step, close}
use Rattle.sort_reader.specs.Sorted.{of_sort, sorted}
use Rattle.script_tokens.specs.declared.Number.{Number}
use Rattle.script_entries.specs.Entries.{ArgumentsAt, NextArgument}
use Rattle.script_heads.specs.HeadLaws.{byte-there, byte-here, byte-apart, Standing, ended, stands, standing, no-argument, no-sort, width-zero, width-proper}
use Rattle.script_terms.specs.States.{sort_from, State, waits, index, stored, rest, after, state_of, Held, Usable, enough, Going, Asking, SortAt, told_at}
use Rattle.script_terms.specs.StateLaws.{Asks, left, left-high, rest-next, close-rest, own-close, stored-close, index-else, value-else, stored-else, own-else, waits-empty, waits-else}
use Rattle.script_terms.specs.Turns.{AfterIs, closed_as, ClosedIs, NoneFrom, DoneFrom, OperandFrom, NextSays, NextIs, Turned, Turn, TurnWithin, NextTo, NextWithin, MovedTo, Came}
use Rattle.script_terms.specs.OperandLaws.{width-sort, not-zero}
use Rattle.script_terms.specs.declared.TermState.{TermState}
use Rattle.script_terms.specs.declared.Stores.{Stores}
use Rattle.script_terms.specs.declared.TermState.TheVariants.{Failed, Done, Bracket, Arguments, Index, Value, Stored, Own}
use Rattle.script_terms.specs.declared.Next.{Next}
use Rattle.script_terms.specs.declared.Next.TheVariants.{Done as Whole, Operand}

-- ---------------------------------------------------------------- an operand came

pub held-usable : {s : List ℕ} {w : TermState} {q : State} → Held s w q → Usable s w
held-usable h = record { call = λ p m e. (h.call p m e).begin }

module _ (s : List ℕ) (w : TermState) (q : State) (h : Held s w q) where
  held-after : (r : TermState) (τ : TreeSort) → AfterIs w τ r → Held s r (after q τ)
  held-after r τ a = record {
    sorts = h.sorts;
    is = ap (λ (o : State). after o τ) h.is ∙ sym (a.state h.sorts);
    call = λ p m k. absurd (a.plain p m k);
  }

  pub came-bool : (n : ℕ) (r : TermState) → n ≡ 0 → AfterIs w bool r → Held s r (after q (sort_from n))
  came-bool n r k a = subst (λ (m : ℕ). Held s r (after q (sort_from m))) (sym k) (held-after r bool a)

  pub came-vector : (n : ℕ) (r : TermState) → (n ≡ 0 → ⊥) → AfterIs w (bits n) r → Held s r (after q (sort_from n))
  came-vector n r k a = subst (λ (σ : TreeSort). Held s r (after q σ)) (sym (width-sort n (not-zero n k))) (held-after r (bits n) a)

  failed-held : (o : State) → o ≡ waits stuck → Held s Failed o
  unfolding state_of
  failed-held o g = record { sorts = []; is = g; call = λ p m k. absurd (let z : ⊥ = cc in z) }

  -- a call
  module _ {x y : ℕ} (e : w ≡ Arguments x y) (n : ℕ) (n' : n ≡ 0 → ⊥) where
    call-state : q ≡ waits (arguments h.sorts y)
    unfolding state_of
    call-state = h.is ∙ ap (state_of h.sorts) e

    vector : sort_from n ≡ bits n
    vector = width-sort n (not-zero n n')

    after_call : (ws : List ℕ) → h.sorts ≡ ws → after q (sort_from n) ≡ waits (step (arguments ws y) (bits n))
    unfolding after
    after_call ws k = (λ i. after (call-state i) (vector i)) ∙ ap (λ (l : List ℕ). waits (step (arguments l y) (bits n))) k

    pub call-past : NextArgument s x h.sorts None → Held s Failed (after q (sort_from n))
    unfolding step
    call-past a = failed-held (after q (sort_from n)) (after_call [] (no-argument s x h.sorts a))

    -- the sorts that are left, and the first of them
    pub record Split (m : Number) : Type 0 where
      pub others : List ℕ
      pub whole : h.sorts ≡ m.value ∷ others
      pub there : ArgumentsAt s m.end others

    split-of : (ws : List ℕ) (m : Number) → NextArgument s x ws (Some m) → (os : List ℕ) × (ws ≡ m.value ∷ os) × ArgumentsAt s m.end os
    split-of [] m a = absurd a
    split-of (u ∷ ws) m a = (ws, ap (λ (i : ℕ). i ∷ ws) (sym a.2), a.3)

    split : (m : Number) → NextArgument s x h.sorts (Some m) → Split m
    split m a = let (os, g, t) = split-of h.sorts m a in record { others = os; whole = g; there = t }

    pub call-other : (m : Number) → NextArgument s x h.sorts (Some m) → (m.value ≡ n → ⊥) → Held s Failed (after q (sort_from n))
    unfolding step
    call-other m a d =
        let b = split m a in
        failed-held (after q (sort_from n)) (after_call (m.value ∷ b.others) b.whole ∙ rw (ne_eqb n m.value (λ j. d (sym j))))

    pub call-on : (m : Number) → NextArgument s x h.sorts (Some m) → m.value ≡ n → Held s (Arguments m.end y) (after q (sort_from n))
    unfolding step state_of
    call-on m a d =
        let b = split m a in
        record {
          sorts = b.others;
          is = after_call (m.value ∷ b.others) b.whole ∙ rw (eq-eqb n m.value (sym d));
          call = λ p k i. let j : m.end ≡ p = cc in subst (λ (u : ℕ). ArgumentsAt s u b.others) j b.there;
        }

-- ---------------------------------------------------------------- a bracket

some_of : (b : List ℕ) (o : Option TreeSort) (n : ℕ) → o ≡ some (sort_from n) → of_sort o b ≡ took (sort_from n) b
unfolding of_sort
some_of b o n e = rw e

width_is : (z : ℕ) → (z ≡ 0 → ⊥) → z ≤ largest → if_proper (bits z) ≡ some (sort_from z)
width_is z f l = if-proper (bits z) (width-proper z (not-zero z f) l) ∙ ap (λ (σ : TreeSort). some σ) (sym (width-sort z (not-zero z f)))

call-close : (x y : ℕ) (D : Declarations) (g : ℕ) (ws b : List ℕ) (vs : List ℕ) → ws ≡ vs → rest (suc g) D (state_of ws (Arguments x y)) (41 ∷ b) ≡ of_sort (close (arguments vs y)) b
unfolding state_of
call-close x y D g ws b vs e = close-rest D (arguments ws y) g b ∙ ap (λ (l : List ℕ). of_sort (close (arguments l y)) b) e

module _ (s : List ℕ) {w : TermState} where
  -- at a state
  closed_at : (k : TermState) (r : Maybe ℕ) → w ≡ k → ClosedIs s k r → ClosedIs s w r
  closed_at k r e h = subst (λ (i : TermState). ClosedIs s i r) (sym e) h

  pub closed-ends : {x : ℕ} → w ≡ Bracket x → ClosedIs s w (Some x)
  unfolding state_of close
  closed-ends {x} e = closed_at (Bracket x) (Some x) e (record { closes = λ D ws a n m g b. close-rest D (ends (sort_from x)) g b ∙ some_of b (close (ends (sort_from x))) x refl })

  pub closed-own-none : {z : ℕ} → w ≡ Own z → z ≡ 0 → ClosedIs s w None
  unfolding state_of
  closed-own-none {z} e k = closed_at (Own z) None e (record { closes = λ D ws a n m g b. own-close D (suc g) z b ∙ no-sort b (if_proper (bits z)) (width-zero z k) })

  pub closed-own : {z : ℕ} → w ≡ Own z → (z ≡ 0 → ⊥) → z ≤ largest → ClosedIs s w (Some z)
  unfolding state_of
  closed-own {z} e k l = closed_at (Own z) (Some z) e (record { closes = λ D ws a n m g b. own-close D (suc g) z b ∙ some_of b (if_proper (bits z)) z (width_is z k l) })

  module _ {x y : ℕ} (e : w ≡ Arguments x y) where
    pub closed-call-more : (m : Number) → ((ws : List ℕ) → ArgumentsAt s x ws → NextArgument s x ws (Some m)) → ClosedIs s w None
    unfolding close
    closed-call-more m told = closed_at (Arguments x y) None e (record { closes = λ D ws a n o g b. by-sorts D g b ws (told ws (a x y refl)) })
      where
        by-sorts : (D : Declarations) (g : ℕ) (b ws : List ℕ) → NextArgument s x ws (Some m) → rest (suc g) D (state_of ws (Arguments x y)) (41 ∷ b) ≡ none
        by-sorts D g b [] t = absurd t
        by-sorts D g b (u ∷ ws) t = call-close x y D g (u ∷ ws) b (u ∷ ws) refl ∙ no-sort b (close (arguments (u ∷ ws) y)) refl

    module _ (told : (ws : List ℕ) → ArgumentsAt s x ws → NextArgument s x ws None) where
      pub closed-call-none : y ≡ 0 → ClosedIs s w None
      unfolding close
      closed-call-none f = closed_at (Arguments x y) None e (record {
        closes = λ D ws a n o g b. call-close x y D g ws b [] (no-argument s x ws (told ws (a x y refl))) ∙ no-sort b (close (arguments [] y)) (width-zero y f);
      })

      pub closed-call : (y ≡ 0 → ⊥) → y ≤ largest → ClosedIs s w (Some y)
      unfolding close
      closed-call f l = closed_at (Arguments x y) (Some y) e (record {
        closes = λ D ws a n o g b. call-close x y D g ws b [] (no-argument s x ws (told ws (a x y refl))) ∙ some_of b (close (arguments [] y)) y (width_is y f l);
      })

no-blank : (b : List ℕ) → expect (bytes " ") (41 ∷ b) ≡ none
unfolding bytes expect
no-blank b = refl

module _ (w : TermState) (bracket : (n : ℕ) → w ≡ Bracket n → ⊥) (own : (v : ℕ) → w ≡ Own v → ⊥) (call : (p m : ℕ) → w ≡ Arguments p m → ⊥) where
  not-closed : ((n : ℕ) → w ≡ Done n → ⊥) → ((x : Stores) → w ≡ Stored x → ⊥) → (D : Declarations) (ws : List ℕ) (g : ℕ) (b : List ℕ) (v : TermState) → w ≡ v → rest (suc g) D (state_of ws v) (41 ∷ b) ≡ none
  unfolding state_of close
  not-closed d t D ws g b (Done n) e = absurd (d n e)
  not-closed d t D ws g b (Bracket n) e = absurd (bracket n e)
  not-closed d t D ws g b (Arguments p m) e = absurd (call p m e)
  not-closed d t D ws g b (Index x) e = index-else D (suc g) x.index x.value x.left (41 ∷ b) (no-blank b)
  not-closed d t D ws g b (Value x) e = value-else D (suc g) x.index x.value x.left (41 ∷ b) (no-blank b)
  not-closed d t D ws g b (Stored x) e = absurd (t x e)
  not-closed d t D ws g b (Own v) e = absurd (own v e)
  not-closed d t D ws g b v e = close-rest D _ g b ∙ no-sort b _ refl

  pub closed-else : (s : List ℕ) → ClosedIs s w None
  closed-else s = record { closes = λ D ws a d t g b. not-closed d t D ws g b w refl }

-- ---------------------------------------------------------------- what stands at a place

no-bracket : (b : List ℕ) → expect (bytes ")") (32 ∷ b) ≡ none
unfolding bytes expect
no-bracket b = refl

module _ (w : TermState) (done : (n : ℕ) → w ≡ Done n → ⊥) where
  asks-operand : ((x : Stores) → w ≡ Stored x → ⊥) → ((v : ℕ) → w ≡ Own v → ⊥) → (ws : List ℕ) (D : Declarations) (v : TermState) → w ≡ v → Asks D (state_of ws v)
  unfolding state_of
  asks-operand t o ws D (Done n) e = absurd (done n e)
  asks-operand t o ws D (Stored x) e = absurd (t x e)
  asks-operand t o ws D (Own v) e = absurd (o v e)
  asks-operand t o ws D v e = tt

  no_byte : (D : Declarations) (ws : List ℕ) (g : ℕ) (s : List ℕ) (p : ℕ) → (get_or s p 0 ≡ 32 → ⊥) → (get_or s p 0 ≡ 41 → ⊥) → (v : TermState) → w ≡ v → rest g D (state_of ws v) (drop p s) ≡ none
  unfolding state_of bytes
  no_byte D ws g s p b c (Done n) e = absurd (done n e)
  no_byte D ws g s p b c (Index x) e = index-else D g x.index x.value x.left (drop p s) (byte-apart s p 32 b)
  no_byte D ws g s p b c (Value x) e = value-else D g x.index x.value x.left (drop p s) (byte-apart s p 32 b)
  no_byte D ws g s p b c (Stored x) e = stored-else D g x.index x.value x.left (drop p s) (byte-apart s p 41 c)
  no_byte D ws g s p b c (Own v) e = own-else D g v (drop p s) (byte-apart s p 41 c)
  no_byte D ws g s p b c v e = wait-byte D _ g s p b c
    where
      wait-byte : (D : Declarations) (w : Wait) (g : ℕ) (s : List ℕ) (p : ℕ) → (get_or s p 0 ≡ 32 → ⊥) → (get_or s p 0 ≡ 41 → ⊥) → rest g D (waits w) (drop p s) ≡ none
      wait-byte D w g s p e f = by-case (standing s p)
        where
          by-case : Standing s p → rest g D (waits w) (drop p s) ≡ none
          by-case (ended q) = ap (rest g D (waits w)) q ∙ waits-empty D g w
          by-case (stands l q) = ap (rest g D (waits w)) q ∙ waits-else D g w (get_or s p 0) (drop (p + 1) s) (ne_eqb (get_or s p 0) 41 f) (ne_eqb (get_or s p 0) 32 e)

module _ (s : List ℕ) (p : ℕ) {w : TermState} where
  pub next-done : {x : ℕ} → w ≡ Done x → p ≤ length s → NextIs s p w (Some (Whole x p))
  unfolding state_of rest
  next-done {x} e l D ws a = (omega arith, (λ n. absurd (n x e)), record { high = l; reads = λ g h. ap (λ (k : TermState). rest g D (state_of ws k) (drop p s)) e })

  pub next-own : {v : ℕ} → get_or s p 0 ≡ 32 → w ≡ Own v → NextIs s p w None
  unfolding state_of
  next-own {v} e k D ws a = record { reads = λ g h. (λ i. rest g D (state_of ws (k i)) (byte-here s p e (omega arith) i)) ∙ own-else D g v (32 ∷ drop (p + 1) s) (no-bracket (drop (p + 1) s)) }

  pub next-unclosed : {x : Stores} → get_or s p 0 ≡ 32 → w ≡ Stored x → NextIs s p w None
  unfolding state_of
  next-unclosed {x} e k D ws a = record { reads = λ g h. (λ j. rest g D (state_of ws (k j)) (byte-here s p e (omega arith) j)) ∙ stored-else D g x.index x.value x.left (32 ∷ drop (p + 1) s) (no-bracket (drop (p + 1) s)) }

  pub next-operand : get_or s p 0 ≡ 32 → ((n : ℕ) → w ≡ Done n → ⊥) → ((x : Stores) → w ≡ Stored x → ⊥) → ((v : ℕ) → w ≡ Own v → ⊥) → NextIs s p w (Some (Operand w (p + 1)))
  next-operand e d t o D ws a = ((λ q m k. k), record { low = omega arith; high = omega (arith, byte-there s p e (omega arith)); reads = reads })
    where
      q : State
      q = state_of ws w

      reads : (g : ℕ) → 2 * length (drop p s) < g → (k : ℕ) × (enough s (p + 1) ≤ k) × (rest g D q (drop p s) ≡ and_then (sorted k D (drop (p + 1) s)) (λ σ r. rest k D (after q σ) r))
      reads g h =
          let j : g ≡ suc (g - 1) = omega arith in
          let u : length (drop p s) ≡ suc (length (drop (p + 1) s)) = ap length (byte-here s p e (omega arith)) in
          let v = left-high D q (g - 1) in
          (left D q (g - 1), omega arith, ap (λ (m : ℕ). rest m D q (drop p s)) j ∙ ap (rest (suc (g - 1)) D q) (byte-here s p e (omega arith)) ∙ rest-next D q (asks-operand w d t o ws D w refl) (g - 1) (drop (p + 1) s))

  pub next-other : (get_or s p 0 ≡ 32 → ⊥) → (get_or s p 0 ≡ 41 → ⊥) → ((n : ℕ) → w ≡ Done n → ⊥) → NextIs s p w None
  next-other e f n D ws a = record { reads = λ g h. no_byte w n D ws g s p e f w refl }

  module _ {x : Stores} (k : w ≡ Stored x) (e : get_or s p 0 ≡ 41) where
    pub next-stored : get_or s (p + 1) 0 ≡ 32 → NextIs s p w (Some (Operand (Index x) (p + 2)))
    unfolding state_of
    next-stored f D ws a = ((λ q m i. absurd (let z : ⊥ = cc in z)), record { low = omega arith; high = omega (arith, byte-there s (p + 1) f (omega arith)); reads = reads })
      where
        q : State
        q = index x.index x.value x.left

        there : drop (p + 1) s ≡ 32 ∷ drop (p + 2) s
        there = let i : p + 1 + 1 ≡ p + 2 = omega arith in byte-here s (p + 1) f (omega arith) ∙ ap (λ (j : ℕ). 32 ∷ drop j s) i

        reads : (g : ℕ) → 2 * length (drop p s) < g
            → (k : ℕ) × (enough s (p + 2) ≤ k) × (rest g D (state_of ws w) (drop p s) ≡ and_then (sorted k D (drop (p + 2) s)) (λ σ r. rest k D (after q σ) r))
        reads g h =
            let u : length (drop p s) ≡ suc (length (drop (p + 1) s)) = ap length (byte-here s p e (omega arith)) in
            let v : length (drop (p + 1) s) ≡ suc (length (drop (p + 2) s)) = ap length there in (
              suc g,
              omega arith,
              ap (λ (i : TermState). rest g D (state_of ws i) (drop p s)) k ∙ ap (rest g D (stored x.index x.value x.left)) (byte-here s p e (omega arith)) ∙ stored-close D g x.index x.value x.left (drop (p + 1) s)
                  ∙ ap (rest (suc g) D q) there ∙ rest-next D q tt g (drop (p + 2) s),
            )

    pub next-stored-none : (get_or s (p + 1) 0 ≡ 32 → ⊥) → NextIs s p w None
    unfolding state_of bytes
    next-stored-none f D ws a = record {
      reads = λ g h.
          ap (λ (i : TermState). rest g D (state_of ws i) (drop p s)) k ∙ ap (rest g D (stored x.index x.value x.left)) (byte-here s p e (omega arith)) ∙ stored-close D g x.index x.value x.left (drop (p + 1) s)
          ∙ index-else D (suc g) x.index x.value x.left (drop (p + 1) s) (byte-apart s (p + 1) 32 f);
    }

  module _ (d : (n : ℕ) → w ≡ Done n → ⊥) (t : (x : Stores) → w ≡ Stored x → ⊥) (e : get_or s p 0 ≡ 41) where
    closing : (r : Maybe ℕ) → ClosedIs s w r → (D : Declarations) (ws : List ℕ) → ((q m : ℕ) → w ≡ Arguments q m → ArgumentsAt s q ws) → (g : ℕ) → 2 * length (drop p s) < g
        → rest g D (state_of ws w) (drop p s) ≡ closed_as r (drop (p + 1) s)
    closing r h D ws a g l =
        let z' : g ≡ suc (g - 1) = omega arith in
        ap (λ (k : ℕ). rest k D (state_of ws w) (drop p s)) z' ∙ ap (rest (suc (g - 1)) D (state_of ws w)) (byte-here s p e (omega arith)) ∙ h.closes D ws a d t (g - 1) (drop (p + 1) s)

    pub next-open : ClosedIs s w None → NextIs s p w None
    next-open h D ws a = record { reads = λ g l. closing None h D ws a g l }

    pub next-closed : (i : ℕ) → ClosedIs s w (Some i) → NextIs s p w (Some (Whole i (p + 1)))
    next-closed i h D ws a = (
      omega arith,
      (λ _. omega arith),
      record {
        high = omega (arith, byte-there s p e (omega arith));
        reads = λ g l. closing (Some i) h D ws a g l;
      },
    )

-- ---------------------------------------------------------------- what it tells

whether-done : (w : TermState) → ((n : ℕ) × (w ≡ Done n)) ⊎ ((n : ℕ) → w ≡ Done n → ⊥)
whether-done (Done n) = inl (n, refl)
whether-done w = inr (λ n q. cc)

module _ (s : List ℕ) (w : TermState) (p : ℕ) (D : Declarations) (a : ℕ) (x : Going s D a w p) (r : Maybe Next) (h : NextIs s p w r) where
  abbrev now : State
  now = state_of x.held.sorts w

  says : NextSays s D p w x.held.sorts r
  says = h D x.held.sorts x.held.call

  pub more-none : r ≡ None → TurnWithin s D a p p Failed false
  more-none q = record {
    turn = record {
      turned = λ f l. let (g, m, e) = x.reads f l in e ∙ ap (λ (o : State). rest g D o (drop p s)) x.held.is ∙ y.reads g m;
      further = λ e. absurd (subst T (sym e) tt);
    };
    high = x.high;
  }
    where
      y : NoneFrom s D p now
      y = subst (NextSays s D p w x.held.sorts) q says

  pub more-done : {n e : ℕ} → r ≡ Some (Whole n e) → TurnWithin s D a p e (Done n) false
  more-done {n} {e} q = record {
    turn = record {
      turned = (low, y.2.high, λ f l. let (g, k, t) = x.reads f l in t ∙ ap (λ (o : State). rest g D o (drop p s)) x.held.is ∙ y.2.reads g k);
      further = λ k. absurd (subst T (sym k) tt);
    };
    high = y.2.high;
  }
    where
      y : (p ≤ e) × (((m : ℕ) → w ≡ Done m → ⊥) → p < e) × DoneFrom s D p now n e
      y = subst (NextSays s D p w x.held.sorts) q says

      low : a < e
      low = ⊎_elim (λ k. let m = x.moved k.0 k.1 in let l = y.0 in omega arith) (λ k. let m = x.low in let l = y.1 k in omega arith) (whether-done w)

  pub more-operand : {d : TermState} {e : ℕ} → r ≡ Some (Operand d e) → TurnWithin s D a p e d true
  more-operand {d} {e} q = record {
    turn = record {
      turned = record {
        state = state_of x.held.sorts d;
        held = record { sorts = x.held.sorts; is = refl; call = λ p m k. x.held.call p m (y.0 p m k) };
        low = let m = x.low in let l = y.1.low in omega arith;
        high = y.1.high;
        reads = λ f l. let (g, m, t) = x.reads f l in let (k, n, u) = y.1.reads g m in (k, n, t ∙ ap (λ (o : State). rest g D o (drop p s)) x.held.is ∙ u);
      };
      further = λ _. y.1.low;
    };
    high = y.1.high;
  }
    where
      y : ((q m : ℕ) → d ≡ Arguments q m → w ≡ Arguments q m) × OperandFrom s D p now (state_of x.held.sorts d) e
      y = subst (NextSays s D p w x.held.sorts) q says

-- ---------------------------------------------------------------- turns

-- the turns alone, wherever the place lies
pub next-to : {s : List ℕ} {w w' : TermState} {p p' : ℕ} {r : Bool} → NextWithin s p w p' w' r × MovedTo s p p' w' r → NextTo s p w p' w' r × MovedTo s p p' w' r
next-to x = (λ D a g. (x.0 D a g).turn, x.1)

pub went : {s : List ℕ} {w w' : TermState} {D : Declarations} {a n p : ℕ} (x : Came s D a w n p) → Held s w' (after x.state (sort_from n)) → Going s D a w' p
went x h = record { state = _; held = h; low = let l = x.low in omega arith; moved = λ n k. x.low; high = x.high; reads = x.reads }

took-then : (n : ℕ) (r : List ℕ) (o : Option (Took TreeSort)) (K : TreeSort → List ℕ → Option (Took TreeSort)) → o ≡ took (sort_from n) r → and_then o K ≡ K (sort_from n) r
unfolding and_then
took-then n r o K e = rw e

pub came : {s : List ℕ} {w : TermState} {D : Declarations} {a p n e : ℕ} → Asking s D a w p → SortAt s D p (Some (record { sort = n; end = e })) → Came s D a w n e
came {s} {w} {D} {a} {p} {n} {e} x (i, j, y) = record {
  state = x.state;
  held = x.held;
  low = let m = x.low in omega arith;
  high = j;
  reads = λ f l.
      let (g, m, t) = x.reads f l in
      let u = length-drop p s in
      let v = length-drop e s in
      (g, omega arith, t ∙ took-then n (drop e s) (sorted g D (drop p s)) _ (y g m));
}

pub asking-of : (s : List ℕ) (D : Declarations) (a p : ℕ) (w : TermState) {r : Bool} → Turned s D a p w r → r ≡ true → Asking s D a w p
asking-of s D a p w x q = subst (Turned s D a p w) q x

pub sorted_of : (s : List ℕ) (D : Declarations) (a p : ℕ) (w : TermState) {r : Bool} → Turned s D a p w r → r ≡ false → SortAt s D a (told_at w p)
sorted_of s D a p w x q = subst (Turned s D a p w) q x

pub told-none : (w : TermState) (p : ℕ) → ((n : ℕ) → w ≡ Done n → ⊥) → told_at w p ≡ None
told-none (Done n) p d = absurd (d n refl)
told-none w p d = refl
