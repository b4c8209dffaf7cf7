-- The operands of a form by the places where they stand: what holds of each.
use Prim.Native.Nat.{ℕ, zero, suc, ◌+◌, ◌-◌, ◌≤◌, ◌<◌}
use Rattle.std.specs.Prelude.{◌≡◌, length, get_or, take, drop}
use Rattle.std.proofs.Common.{subst, arith, ltb→lt, length-drop, get_or-drop}
use mathlib.Core.List.{List, [], ◌∷◌, map}
use Rattle.echo_spec.specs.NodeLaws.{Low}
use Rattle.echo_spec.specs.Walk.{Operand, vector, levels}
use Rattle.echo_tables.specs.declared.Form.{Form}
use Rattle.echo_tables.specs.declared.Form.TheVariants.{Leaf, One, Two, Choice, Chain, Arguments}
use Rattle.echo_tables.specs.Forms.{form_operands}
use Rattle.echo_tables.specs.Uses.{FormInside}
use Rattle.echo_tables.specs.Refused.{Each, each_left, each_right}

-- n side entries from place s on are there, and P holds of each
pub record Entries (P : ℕ → Type 0) (side : List ℕ) (s n : ℕ) : Type 0 where
  pub inside : n ≤ length side - s
  pub each : (k : ℕ) → s ≤ k → k < s + n → P (get_or side k 0)

-- P holds of each operand of a form
abbrev pub OverForm : (ℕ → Type 0) → List ℕ → Form → Type 0
OverForm P side Leaf = Unit {0}
OverForm P side (One a w) = P a
OverForm P side (Two a b w) = P a × P b
OverForm P side (Choice a b c) = P a × P b × P c
OverForm P side (Chain j s n) = P j × Entries P side s (n + n)
OverForm P side (Arguments s n) = Entries P side s n

-- ---------------------------------------------------------------- from a list of operands to places

module _ (P : ℕ → Type 0) where
  -- P of an operand's node
  abbrev Of : Operand → Type 0
  Of o = P o.node

  each-entry : (n : ℕ) (xs : List ℕ) → n ≤ length xs → Each Of (map vector (take n xs)) → (k : ℕ) → k < n → P (get_or xs k 0)
  each-entry zero xs l h k m = absurd (omega arith)
  each-entry (suc n) [] l h k m = absurd (omega arith)
  each-entry (suc n) (x ∷ xs) l h zero m = h.0
  each-entry (suc n) (x ∷ xs) l h (suc k) m = each-entry n xs (omega arith) h.1 k (omega arith)

  each-pair : (n : ℕ) (xs : List ℕ) → n + n ≤ length xs → Each Of (levels n xs) → (k : ℕ) → k < n + n → P (get_or xs k 0)
  unfolding levels
  each-pair zero xs l h k m = absurd (omega arith)
  each-pair (suc n) [] l h k m = absurd (omega arith)
  each-pair (suc n) (x ∷ []) l h k m = absurd (omega arith)
  each-pair (suc n) (x ∷ v ∷ xs) l h zero m = (each_right Of (levels n xs) (vector x ∷ vector v ∷ []) h).0
  each-pair (suc n) (x ∷ v ∷ xs) l h (suc zero) m = (each_right Of (levels n xs) (vector x ∷ vector v ∷ []) h).1.0
  each-pair (suc n) (x ∷ v ∷ xs) l h (suc (suc k)) m =
      each-pair n xs (omega arith) (each_left Of (levels n xs) (vector x ∷ vector v ∷ []) h) k (omega arith)

  -- from the part of the side entries to the whole
  from-part : (side : List ℕ) (s n : ℕ) → n ≤ length (drop s side) → ((k : ℕ) → k < n → P (get_or (drop s side) k 0)) → Entries P side s n
  from-part side s n l h = record {
    inside = omega (arith, length-drop s side);
    each = λ k a b. let e : s + (k - s) ≡ k = omega arith in subst (λ (j : ℕ). P (get_or side j 0)) e (rw get_or-drop at (h (k - s) (omega arith)));
  }

  pub over-form : (side : List ℕ) (f : Form) → FormInside side f → Each Of (form_operands side f) → OverForm P side f
  over-form side Leaf l h = tt
  over-form side (One a w) l h = h.0
  over-form side (Two a b w) l h = (h.0, h.1.0)
  over-form side (Choice a b c) l h = (h.0, h.1.0, h.1.1.0)
  over-form side (Chain j s n) l h = (
    (each_right Of (levels n (drop s side)) (vector j ∷ []) h).0,
    from-part side s (n + n) l (each-pair n (drop s side) l (each_left Of (levels n (drop s side)) (vector j ∷ []) h)),
  )
  over-form side (Arguments s n) l h =
      let m : n ≤ length (drop s side) = omega (arith, length-drop s side) in
      from-part side s n m (each-entry n (drop s side) m h)

-- lower nodes
pub low-each : (i : ℕ) (os : List Operand) → Low i os → Each (λ (o : Operand). o.node < i) os
low-each i [] h = tt
low-each i (o ∷ os) h = (ltb→lt o.node i h.0, low-each i os h.1)
