-- Laws of the states of the enum: one operand more.
use Prim.Native.Nat.{ℕ, zero, suc, ◌+◌, ◌-◌, ◌≤◌, ◌<◌}
use Rattle.std.specs.Prelude.{◌≡◌, List, [], ◌∷◌, Bool, ◌&&◌, cond, leb, ltb, eqb}
use Rattle.std.proofs.Math.Path.{refl, ap, sym, subst}
use Rattle.std.proofs.Common.{◌∙◌}
use Rattle.std.proofs.Math.Option.{Option}
use native.Mathlib.Omega.{arith}
use borrow.Author.Tests.{lt-ltb, le-ltb, le-leb, lt-leb, eq-eqb, ne_eqb}
use Rattle.echo_spec.specs.Input.{largest}
use Rattle.echo_spec.specs.TreeSorts.{TreeSort, bool, bits, if_proper, same_sort, has_sort}
use Rattle.echo_spec.specs.TreeSortLaws.{if-proper}
use Rattle.sort_reader.specs.Waits.{equal, ends, arguments, stuck, ends_with, after_vector, after_bool, step}
use Rattle.script_heads.specs.Numerals.{and_none, too_wide}
use Rattle.script_heads.specs.HeadLaws.{width-proper}
use Rattle.script_terms.specs.States.{sort_from, waits, stored, after_index, after, state_of}
use Rattle.script_terms.specs.Turns.{AfterIs, JoinedIs}
use Rattle.script_terms.specs.declared.TermState.{TermState}
use Rattle.script_terms.specs.declared.Stores.{Stores}
use Rattle.script_terms.specs.declared.TermState.TheVariants.{Failed, Binary, Rotation, Extraction, Concat, Extension, Ite, Comparison, Negation, Connective, Unary, Same, Joins, Chosen, Truth, Bracket, Arguments, Index, Value, Stored, Own}

pub width-sort : (m : ℕ) → 0 < m → sort_from m ≡ bits m
width-sort zero h = absurd (omega arith)
width-sort (suc m) h = refl

pub not-zero : (z : ℕ) → (z ≡ 0 → ⊥) → 0 < z
not-zero zero f = absurd (f refl)
not-zero (suc z) f = omega arith

-- ---------------------------------------------------------------- by state

failed-after : {w : TermState} {τ : TreeSort} → ((ws : List ℕ) → after (state_of ws w) τ ≡ waits stuck) → AfterIs w τ Failed
unfolding state_of
failed-after h = record { state = λ ws. sym (h ws); plain = λ p m q. cc }

ends-after : {w : TermState} {τ : TreeSort} (n : ℕ) → ((ws : List ℕ) → after (state_of ws w) τ ≡ waits (ends (sort_from n))) → AfterIs w τ (Bracket n)
unfolding state_of
ends-after n h = record { state = λ ws. sym (h ws); plain = λ p m q. cc }

pub joined-none : {a b : ℕ} → largest < a + b → JoinedIs a b Failed
unfolding ends_with state_of
joined-none {a} {b} l = record { state = λ ws. ap (λ (o : Option TreeSort). waits (ends_with o)) (sym (too_wide (a + b) l)); plain = λ p m q. cc }

pub joined_is : {a b : ℕ} → 0 < a + b → a + b ≤ largest → JoinedIs a b (Bracket (a + b))
unfolding ends_with state_of
joined_is {a} {b} h l = record {
  state = λ ws. ap (λ (σ : TreeSort). waits (ends σ)) (width-sort (a + b) h) ∙ ap (λ (o : Option TreeSort). waits (ends_with o)) (sym (if-proper (bits (a + b)) (width-proper (a + b) h l)));
  plain = λ p m q. cc;
}

-- an arm's own law, at its state
pub at-state : {w : TermState} {τ : TreeSort} {r : TermState} (k : TermState) → w ≡ k → AfterIs k τ r → AfterIs w τ r
at-state {τ = τ} {r = r} k e h = subst (λ (i : TermState). AfterIs i τ r) (sym e) h

-- ---------------------------------------------------------------- after a Bool

pub bool-ite : AfterIs Ite bool Chosen
unfolding state_of after step after_bool
bool-ite = record { state = λ ws. refl; plain = λ p m q. cc }

pub bool-negation : AfterIs Negation bool (Bracket 0)
unfolding state_of after step after_bool
bool-negation = ends-after 0 (λ ws. refl)

pub bool-connective : AfterIs Connective bool Truth
unfolding state_of after step after_bool
bool-connective = record { state = λ ws. refl; plain = λ p m q. cc }

pub bool-truth : AfterIs Truth bool (Bracket 0)
unfolding state_of after step
bool-truth = ends-after 0 (λ ws. refl)

call-bool : (ws : List ℕ) (w : ℕ) → waits (step (arguments ws w) bool) ≡ waits stuck
unfolding step
call-bool [] w = refl
call-bool (v ∷ ws) w = refl

no_bool : (w : TermState) → (w ≡ Ite → ⊥) → (w ≡ Negation → ⊥) → (w ≡ Connective → ⊥) → (w ≡ Truth → ⊥) → (ws : List ℕ) → after (state_of ws w) bool ≡ waits stuck
unfolding state_of after step after_bool has_sort same_sort
no_bool Ite n1 n2 n3 n4 ws = absurd (n1 refl)
no_bool Negation n1 n2 n3 n4 ws = absurd (n2 refl)
no_bool Connective n1 n2 n3 n4 ws = absurd (n3 refl)
no_bool Truth n1 n2 n3 n4 ws = absurd (n4 refl)
no_bool (Arguments p m) n1 n2 n3 n4 ws = call-bool ws m
no_bool w n1 n2 n3 n4 ws = refl

pub bool-else : {w : TermState} → (w ≡ Ite → ⊥) → (w ≡ Negation → ⊥) → (w ≡ Connective → ⊥) → (w ≡ Truth → ⊥) → AfterIs w bool Failed
bool-else {w} n1 n2 n3 n4 = failed-after (λ ws. no_bool w n1 n2 n3 n4 ws)

-- ---------------------------------------------------------------- after a bit-vector

module _ (m : ℕ) where
  module _ (i : ℕ) where
    rotation-step : (ws : List ℕ) → after (state_of ws (Rotation i)) (bits m) ≡ waits (cond (ltb i m && leb m 65536) (ends (bits m)) stuck)
    unfolding state_of after step after_vector
    rotation-step ws = refl

    pub rotation-far : m ≤ i → AfterIs (Rotation i) (bits m) Failed
    rotation-far l = failed-after (λ ws. rotation-step ws ∙ rw (le-ltb i m l))

    pub rotation-wide : 65536 < m → AfterIs (Rotation i) (bits m) Failed
    rotation-wide l = failed-after (λ ws. rotation-step ws ∙ ap (λ (b : Bool). waits (cond b (ends (bits m)) stuck)) (and_none (ltb i m) (leb m 65536) (lt-leb m 65536 l)))

    pub rotation-in : i < m → m ≤ 65536 → AfterIs (Rotation i) (bits m) (Bracket m)
    rotation-in l k = ends-after m (λ ws. rotation-step ws ∙ rw (lt-ltb i m l, le-leb m 65536 k) (ap (λ (σ : TreeSort). waits (ends σ)) (sym (width-sort m (omega arith)))))

    module _ (j : ℕ) where
      extraction-step : (ws : List ℕ) → after (state_of ws (Extraction i j)) (bits m) ≡ waits (cond (leb j i && ltb i m) (ends_with (if_proper (bits (i - j + 1)))) stuck)
      unfolding state_of after step after_vector
      extraction-step ws = refl

      pub extraction-back : i < j → AfterIs (Extraction i j) (bits m) Failed
      extraction-back l = failed-after (λ ws. extraction-step ws ∙ rw (lt-leb j i l))

      pub extraction-far : m ≤ i → AfterIs (Extraction i j) (bits m) Failed
      extraction-far l = failed-after (λ ws. extraction-step ws ∙ ap (λ (b : Bool). waits (cond b (ends_with (if_proper (bits (i - j + 1)))) stuck)) (and_none (leb j i) (ltb i m) (le-ltb i m l)))

      pub extraction-in : j ≤ i → i < m → m ≤ largest → AfterIs (Extraction i j) (bits m) (Bracket (i - j + 1))
      unfolding ends_with
      extraction-in l k p =
          ends-after (i - j + 1) (λ ws. extraction-step ws ∙ rw (le-leb j i l, lt-ltb i m k, if-proper (bits (i - j + 1)) (width-proper (i - j + 1) (omega arith) (omega arith)))
          (ap (λ (σ : TreeSort). waits (ends σ)) (sym (width-sort (i - j + 1) (omega arith)))))

  module _ (x y : ℕ) where
    same_step : (ws : List ℕ) → after (state_of ws (Same x y)) (bits m) ≡ waits (cond (eqb m x) (ends (sort_from y)) stuck)
    unfolding state_of after step
    same_step ws = refl

    pub same-other : (x ≡ m → ⊥) → AfterIs (Same x y) (bits m) Failed
    same-other n = failed-after (λ ws. same_step ws ∙ rw (ne_eqb m x (λ q. n (sym q))))

    pub same-is : x ≡ m → AfterIs (Same x y) (bits m) (Bracket y)
    same-is e = ends-after y (λ ws. same_step ws ∙ rw (eq-eqb m x (sym e)))

  module _ (x : Stores) where
    index-step : (ws : List ℕ) → after (state_of ws (Index x)) (bits m) ≡ cond (eqb m x.index) (after_index x.index x.value x.left) (waits stuck)
    unfolding state_of after has_sort same_sort
    index-step ws = refl

    pub index-other : (x.index ≡ m → ⊥) → AfterIs (Index x) (bits m) Failed
    index-other k = failed-after (λ ws. index-step ws ∙ rw (ne_eqb m x.index (λ q. k (sym q))))

    pub index-last : x.index ≡ m → x.left ≡ 0 → AfterIs (Index x) (bits m) (Own x.value)
    unfolding state_of after_index
    index-last e q = record { state = λ ws. sym (index-step ws ∙ rw (eq-eqb m x.index (sym e), q)); plain = λ p m k. cc }

    pub index-more : x.index ≡ m → (x.left ≡ 0 → ⊥) → AfterIs (Index x) (bits m) (Value (record x { left = x.left - 1 }))
    unfolding state_of after_index
    index-more e k =
        let q : x.left ≡ suc (x.left - 1) = not-none x.left k in
        record { state = λ ws. sym (index-step ws ∙ rw (eq-eqb m x.index (sym e)) (ap (after_index x.index x.value) q)); plain = λ p m k. cc }
      where
        not-none : (n : ℕ) → (n ≡ 0 → ⊥) → n ≡ suc (n - 1)
        not-none zero k = absurd (k refl)
        not-none (suc n) k = omega arith

    value-step : (ws : List ℕ) → after (state_of ws (Value x)) (bits m) ≡ cond (eqb m x.value) (stored x.index x.value x.left) (waits stuck)
    unfolding state_of after has_sort same_sort
    value-step ws = refl

    pub value-other : (x.value ≡ m → ⊥) → AfterIs (Value x) (bits m) Failed
    value-other k = failed-after (λ ws. value-step ws ∙ rw (ne_eqb m x.value (λ q. k (sym q))))

    pub value-is : x.value ≡ m → AfterIs (Value x) (bits m) (Stored x)
    unfolding state_of
    value-is e = record { state = λ ws. sym (value-step ws ∙ rw (eq-eqb m x.value (sym e))); plain = λ p m k. cc }

  pub vector-binary : 0 < m → AfterIs Binary (bits m) (Same m m)
  unfolding state_of after step after_vector
  vector-binary l = record { state = λ ws. ap (λ (σ : TreeSort). waits (equal m σ)) (width-sort m l); plain = λ p m q. cc }

  pub vector-comparison : AfterIs Comparison (bits m) (Same m 0)
  unfolding state_of after step after_vector
  vector-comparison = record { state = λ ws. refl; plain = λ p m q. cc }

  pub vector-chosen : 0 < m → AfterIs Chosen (bits m) (Same m m)
  unfolding state_of after step
  vector-chosen l = record { state = λ ws. ap (λ (σ : TreeSort). waits (equal m σ)) (width-sort m l); plain = λ p m q. cc }

  pub vector-unary : 0 < m → AfterIs Unary (bits m) (Bracket m)
  unfolding state_of after step after_vector
  vector-unary l = ends-after m (λ ws. ap (λ (σ : TreeSort). waits (ends σ)) (sym (width-sort m l)))

  pub vector-concat : AfterIs Concat (bits m) (Joins m)
  unfolding state_of after step after_vector
  vector-concat = record { state = λ ws. refl; plain = λ p m q. cc }

  pub vector-extension : (n : ℕ) {r : TermState} → JoinedIs m n r → AfterIs (Extension n) (bits m) r
  unfolding state_of after step after_vector
  vector-extension n h = record { state = h.state; plain = h.plain }

  pub vector-joins : (n : ℕ) {r : TermState} → JoinedIs n m r → AfterIs (Joins n) (bits m) r
  unfolding state_of after step
  vector-joins n h = record { state = h.state; plain = h.plain }

module _ (w : TermState) (binary : w ≡ Binary → ⊥) (rotation : (i : ℕ) → w ≡ Rotation i → ⊥) (extraction : (i j : ℕ) → w ≡ Extraction i j → ⊥) (concat : w ≡ Concat → ⊥)
    (extension : (n : ℕ) → w ≡ Extension n → ⊥) (comparison : w ≡ Comparison → ⊥) (unary : w ≡ Unary → ⊥) (same : (n y : ℕ) → w ≡ Same n y → ⊥) (joins : (n : ℕ) → w ≡ Joins n → ⊥)
    (chosen : w ≡ Chosen → ⊥) (call : (p n : ℕ) → w ≡ Arguments p n → ⊥) (index : (x : Stores) → w ≡ Index x → ⊥) (value : (x : Stores) → w ≡ Value x → ⊥) where
  no-vector : (m : ℕ) (v : TermState) → w ≡ v → (ws : List ℕ) → after (state_of ws v) (bits m) ≡ waits stuck
  unfolding state_of after step after_vector has_sort same_sort
  no-vector m Binary e ws = absurd (binary e)
  no-vector m (Rotation i) e ws = absurd (rotation i e)
  no-vector m (Extraction i j) e ws = absurd (extraction i j e)
  no-vector m Concat e ws = absurd (concat e)
  no-vector m (Extension n) e ws = absurd (extension n e)
  no-vector m Comparison e ws = absurd (comparison e)
  no-vector m Unary e ws = absurd (unary e)
  no-vector m (Same n y) e ws = absurd (same n y e)
  no-vector m (Joins n) e ws = absurd (joins n e)
  no-vector m Chosen e ws = absurd (chosen e)
  no-vector m (Arguments p n) e ws = absurd (call p n e)
  no-vector m (Index x) e ws = absurd (index x e)
  no-vector m (Value x) e ws = absurd (value x e)
  no-vector m v e ws = refl

  pub vector_else : (m : ℕ) → AfterIs w (bits m) Failed
  vector_else m = failed-after (λ ws. no-vector m w refl ws)
