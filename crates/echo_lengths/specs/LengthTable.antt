-- The lengths of the nodes' texts, held at the largest number, in a table that is filled node by node.
use Rattle.std.specs.Prelude.{ℕ, zero, suc, ◌+◌, ◌*◌, ◌≤◌, ◌<◌, ◌≡◌, refl, List, [], ◌∷◌, length, get_or, take, drop}
use Rattle.std.proofs.Common.{arith, length-append, length-drop}
use Rattle.lists.specs.Bytes.{bytes}
use Rattle.echo_spec.specs.Walk.{Operand, vector, levels}
use Rattle.echo_tables.specs.declared.Form.{Form}
use Rattle.echo_tables.specs.declared.Form.TheVariants.{Leaf, One, Two, Choice, Chain, Arguments}
use Rattle.echo_tables.specs.Forms.{form_operands}
use Rattle.echo_tables.specs.Uses.{FormInside}
use Rattle.echo_tables.specs.Refused.{Each}
use Rattle.echo_walk.specs.declared.Walk.{Walk}
use Rattle.echo_walk.specs.Texts.{one_text, two_text, choice_text, levels_text, args_text, form_text}
use Rattle.echo_walk.specs.StyleLaws.{entry_first, levels-first}
use Rattle.echo_walk.specs.Walks.{text_at, Fine}
use Rattle.sizes.specs.Sums.{sum_over, sum-append, sum-map}
use Rattle.echo_terms.specs.TermTable.{held, entry}
use Rattle.echo_roots.specs.Roots.{root_text, roots_text}

-- the closing brackets behind the operands of a form
unfoldable pub closings : Form → ℕ
closings Leaf = 0
closings (One a w) = 1
closings (Two a b w) = 1
closings (Choice a b c) = 1
closings (Chain j s n) = n + 1
closings (Arguments s n) = 1

-- the length of a blank and node i, where it is not refused
pub record Long (W : Walk) (i r : ℕ) : Type 0 where
  pub told : Fine W i → r ≡ held (length (32 ∷ text_at W i))

-- the table has those of the nodes below n
pub record Longs (W : Walk) (t : List ℕ) (n : ℕ) : Type 0 where
  pub at : (j : ℕ) → j < n → Long W j (entry t j)

-- ---------------------------------------------------------------- what stands behind a head

module _ (g : ℕ → List ℕ) where
  -- an operand, and the blank before it
  abbrev pub used : ℕ → ℕ
  used x = suc (length (g x))

  one-length : (a : ℕ) → length (one_text g a) ≡ used a + 1
  unfolding one_text
  one-length a = let e = length-append (g a) (41 ∷ []) in omega arith

  two-length : (a b : ℕ) → length (two_text g a b) ≡ used a + (used b + 1)
  unfolding two_text
  two-length a b =
      let e = length-append (g a) (one_text g b) in
      let f = one-length b in
      omega arith

  levels-length : (side : List ℕ) (s n : ℕ) → n + n ≤ length (drop s side)
      → length (levels_text g side s n) ≡ n + sum_over (λ (o : Operand). used o.node) (levels n (drop s side))
  unfolding levels
  levels-length side s zero h = unfold levels_text sum_over in refl
  levels-length side s (suc n) h =
      let d = length-drop s side in
      let d' = length-drop (s + 1 + 1) side in
      let x : ℕ = get_or side s 0 in
      let v : ℕ = get_or side (s + 1) 0 in
      let a = levels-length side (s + 1 + 1) n (omega arith) in
      let b = length-append (levels_text g side (s + 1 + 1) n) (two_text g x v) in
      let c = two-length x v in
      let e = sum-append (λ (o : Operand). used o.node) (levels n (drop (s + 1 + 1) side)) (vector x ∷ vector v ∷ []) in
      let f : sum_over (λ (o : Operand). used o.node) (vector x ∷ vector v ∷ []) ≡ used x + (used v + 0) = (unfold sum_over in refl) in
      rw (levels-first g side s n, entry_first side s (omega arith), entry_first side (s + 1) (omega arith)) (omega arith)

  args-length : (side : List ℕ) (s n : ℕ) → s + n ≤ length side
      → length (args_text g side s n) ≡ 1 + sum_over (λ (x : ℕ). used x) (take n (drop s side))
  unfolding args_text sum_over
  args-length side s zero h = refl
  args-length side s (suc n) h =
      let x : ℕ = get_or side s 0 in
      let a = args-length side (s + 1) n (omega arith) in
      let b = length-append (g x) (args_text g side (s + 1) n) in
      rw (entry_first side s (omega arith)) (omega arith)

  pub form-length : (side : List ℕ) (f : Form) → FormInside side f → length (form_text g side f) ≡ closings f + sum_over (λ (o : Operand). used o.node) (form_operands side f)
  unfolding form_text closings sum_over
  form-length side Leaf h = refl
  form-length side (One a w) h = let e = one-length a in omega arith
  form-length side (Two a b w) h = let e = two-length a b in omega arith
  form-length side (Choice a b c) h =
      unfold choice_text in
      let e = two-length b c in
      let f = length-append (g a) (two_text g b c) in
      omega arith
  form-length side (Chain j s n) h =
      let e = levels-length side s n h in
      let f = one-length j in
      let k = length-append (levels_text g side s n) (one_text g j) in
      let m = sum-append (λ (o : Operand). used o.node) (levels n (drop s side)) (vector j ∷ []) in
      omega arith
  form-length side (Arguments s n) h =
      let e = args-length side s n h in
      let f = sum-map (λ (o : Operand). used o.node) vector (take n (drop s side)) in
      omega arith

  -- ---------------------------------------------------------------- the lines of roots

  pub roots-length : (roots : List ℕ) → length (roots_text g roots) ≡ 9 * length roots + sum_over (λ (x : ℕ). used x) roots
  unfolding roots_text root_text sum_over bytes
  roots-length [] = refl
  roots-length (r ∷ rs) =
      let a = roots-length rs in
      let b = length-append (root_text g r) (roots_text g rs) in
      let c = length-append (g r) (bytes ")\n") in
      omega arith

-- ---------------------------------------------------------------- sums of entries that are held

module _ (t : List ℕ) (f : ℕ → ℕ) (c : ℕ) where
  pub operands-held : (os : List Operand) → Each (λ (o : Operand). entry t o.node ≡ held (f o.node)) os
      → held (c + sum_over (λ (o : Operand). entry t o.node) os) ≡ held (c + sum_over (λ (o : Operand). f o.node) os)
  unfolding sum_over
  operands-held [] h = refl
  operands-held (o ∷ os) h =
      let a = h.0 in
      let b = operands-held os h.1 in
      omega arith

  pub places-held : (xs : List ℕ) → ((k : ℕ) → k < length xs → entry t (get_or xs k 0) ≡ held (f (get_or xs k 0)))
      → held (c + sum_over (entry t) xs) ≡ held (c + sum_over f xs)
  unfolding sum_over
  places-held [] h = refl
  places-held (x ∷ xs) h =
      let a = h 0 (omega arith) in
      let b = places-held xs (λ k l. h (suc k) (omega arith)) in
      omega arith
