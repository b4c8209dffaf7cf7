-- One step further: a number stored in a table, two lists of widths compared, a bit before those that were read.
use Rattle.std.specs.Prelude.{ℕ, zero, suc, ◌+◌, ◌-◌, ◌*◌, ◌%◌, ◌≤◌, ◌<◌, ◌≡◌, List, [], ◌∷◌, map, Bool, true, false, eqb, length, get_or, slice_index_or, take, drop, reverse, Option, Some, None}
use Rattle.std.proofs.Math.Path.{refl}
use Rattle.std.proofs.Math.Bool.{and-false}
use Rattle.std.proofs.Common.{length-take, length-drop, ap, sym, ◌∙◌}
use Rattle.std.proofs.lemmas.List.{length-reverse, get_or-reverse, get_or_default}
use native.Mathlib.Omega.{arith}
use Rattle.std.proofs.Math.Nat.{mod-add-mod, zero-mod}
use Rattle.std.proofs.Math.Seq.{drop-cons, drop-length}
use borrow.Author.Tests.{eq-eqb, ne_eqb, leb-true}
use Rattle.lists.specs.Tests.{same}
use Rattle.echo_spec.specs.Input.{Node}
use Rattle.echo_spec.specs.Widths.{width_at}
use Rattle.echo_spec.specs.Tables.{arguments_inside, argument_widths}
use Rattle.echo_spec.specs.Walk.{args_match}
use Rattle.echo_spec.specs.Trees.{bits_value}

-- the widths of some nodes
abbrev pub widths : List ℕ → List ℕ → List ℕ
widths ws xs = map (width_at ws) xs

-- ---------------------------------------------------------------- arguments

-- the arguments of a call, where they lie inside the side entries
abbrev pub CutOut : List ℕ → Node → Option (List ℕ) → Type 0
CutOut side n None = arguments_inside side n ≡ false
CutOut side n (Some xs) = (arguments_inside side n ≡ true) × (xs ≡ take n.d (drop n.c side))

-- two lists of nodes have the same widths, or differ at a place
pub same-told : (ws a b : List ℕ) → length a ≡ length b → (r : Bool)
    → (r ≡ true → (k : ℕ) → k < length a → (d : ℕ) → eqb (width_at ws (slice_index_or a k d)) (width_at ws (slice_index_or b k d)) ≡ true)
    → (r ≡ false → (k : ℕ) × (k < length a) × ((d : ℕ) → eqb (width_at ws (slice_index_or a k d)) (width_at ws (slice_index_or b k d)) ≡ false))
    → r ≡ same (widths ws a) (widths ws b)
unfolding same
same-told ws [] [] l true h g = refl
same-told ws [] [] l false h g = absurd (omega (arith, (g refl).1))
same-told ws [] (y ∷ ys) l r h g = absurd (omega arith)
same-told ws (x ∷ xs) [] l r h g = absurd (omega arith)
same-told ws (x ∷ xs) (y ∷ ys) l true h g =
    rw (h refl 0 (omega arith) 0) (same-told ws xs ys (omega arith) true (λ e k m d. h refl (suc k) (omega (arith, m)) d) (λ e. absurd (cc)))
same-told ws (x ∷ xs) (y ∷ ys) l false h g =
    fails (g refl).0 (g refl).1 (g refl).2 (λ k m e. same-told ws xs ys (omega arith) false (λ z. absurd (cc)) (λ z. (k, m, e)))
  where
    fails : (k : ℕ) → k < length (x ∷ xs) → ((d : ℕ) → eqb (width_at ws (slice_index_or (x ∷ xs) k d)) (width_at ws (slice_index_or (y ∷ ys) k d)) ≡ false)
        → ((k : ℕ) → k < length xs → ((d : ℕ) → eqb (width_at ws (slice_index_or xs k d)) (width_at ws (slice_index_or ys k d)) ≡ false) → false ≡ same (widths ws xs) (widths ws ys))
        → false ≡ same (widths ws (x ∷ xs)) (widths ws (y ∷ ys))
    fails zero m e rest = rw (e 0) refl
    fails (suc k) m e rest = rw (← rest k (omega (arith, m)) e) (sym (and-false (eqb (width_at ws x) (width_at ws y))))

-- the tests of two calls, in order
module _ (ws side : List ℕ) (n f : Node) where
  pub match-count : (f.d ≡ n.d → ⊥) → false ≡ args_match ws side n f
  unfolding args_match
  match-count h = rw (ne_eqb f.d n.d h) refl

  module _ (as_many : f.d ≡ n.d) where
    pub match-own : arguments_inside side n ≡ false → false ≡ args_match ws side n f
    unfolding args_match
    match-own own = rw (eq-eqb f.d n.d as_many, own) refl

    module _ {xs : List ℕ} (own : CutOut side n (Some xs)) where
      pub match-first : arguments_inside side f ≡ false → false ≡ args_match ws side n f
      unfolding args_match
      match-first first = rw (eq-eqb f.d n.d as_many, own.0, first) refl

      module _ {ys : List ℕ} (first : CutOut side f (Some ys)) where
        pub match-long : length xs ≡ length ys
        match-long =
            let p = leb-true (n.c + n.d) (length side) own.0 in
            let q = leb-true (f.c + f.d) (length side) first.0 in
            rw (own.1, first.1, length-take, length-take, length-drop, length-drop) (omega arith)

        pub match-widths : {b : Bool} → b ≡ same (widths ws xs) (widths ws ys) → b ≡ args_match ws side n f
        unfolding args_match argument_widths
        match-widths e = rw (eq-eqb f.d n.d as_many, own.0, first.0, ← own.1, ← first.1) e

-- ---------------------------------------------------------------- bits

twice : (v b w : ℕ) → (2 * (v % w) + b) % w ≡ (b + 2 * v) % w
twice v b w =
    let p : 2 * (v % w) + b ≡ v % w + (v % w + b) = omega arith in
    let q : v + (v % w + b) ≡ v % w + (v + b) = omega arith in
    let r : v + (v + b) ≡ b + 2 * v = omega arith in
    ap (λ x. x % w) p ∙ mod-add-mod v w (v % w + b) ∙ ap (λ x. x % w) q ∙ mod-add-mod v w (v + b) ∙ ap (λ x. x % w) r

pub amount-none : (bits : List ℕ) (w : ℕ) → 0 ≡ bits_value (drop (length bits) bits) % w
unfolding bits_value
amount-none bits w = rw (drop-length bits, zero-mod w) refl

pub amount-more : (bits : List ℕ) (w j : ℕ) {k b : ℕ} → 0 < j → j ≤ length bits → k ≡ bits_value (drop j bits) % w → b ≡ get_or bits (j - 1) 0
    → (2 * k + b) % w ≡ bits_value (drop (j - 1) bits) % w
unfolding bits_value
amount-more bits w j p l e f =
    let s : suc (j - 1) ≡ j = omega arith in
    let o : drop (j - 1) bits ≡ get_or bits (j - 1) 0 ∷ drop j bits =
    drop-cons bits (j - 1) 0 (omega arith) ∙ ap (λ m. get_or bits (j - 1) 0 ∷ drop m bits) s
    in
    rw (o, e, f) (twice (bits_value (drop j bits)) (get_or bits (j - 1) 0) w)

-- b comes after n others, from the last one back
pub amount-turn : (bits : List ℕ) (w n : ℕ) {k b : ℕ} → (n < length (reverse bits)) × (b ≡ get_or (reverse bits) n b)
    → k ≡ bits_value (drop (length bits - n) bits) % w → (2 * k + b) % w ≡ bits_value (drop (length bits - (n + 1)) bits) % w
amount-turn bits w n {k} {b} t e =
    let l : n < length bits = omega (arith, t.0, length-reverse bits) in
    let y : length bits - 1 - n ≡ length bits - n - 1 = omega arith in
    let z : length bits - (n + 1) ≡ length bits - n - 1 = omega arith in
    let is : b ≡ get_or bits (length bits - n - 1) 0 =
    t.1 ∙ get_or-reverse bits n b l ∙ get_or_default bits (length bits - 1 - n) b 0 (omega arith) ∙ ap (λ (i : ℕ). get_or bits i 0) y in
    rw z (amount-more bits w (length bits - n) (omega arith) (omega arith) e is)
