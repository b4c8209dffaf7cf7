-- The width of an operator's node, from its numerals and the widths of its first two operands.
use Rattle.std.specs.Prelude.{ℕ, ◌≤◌, ◌<◌, ◌≡◌, refl, length, get_or}
use Rattle.std.proofs.Math.Path.{ap}
use Rattle.std.proofs.Common.{sym, ◌∙◌, subst, arith}
use mathlib.Core.List.{List, [], ◌∷◌, ◌++◌, map}
use Rattle.std.proofs.Math.Option.{Option, none, some}
use Rattle.reading.specs.Trees.{apply, Trees, Declarations}
use Rattle.echo_spec.specs.Shapes.{Shape, var, const, binary, rotation, extraction, concat, extension, ite, comparison, negation, connective, unary, unknown, shape_of}
use Rattle.echo_spec.specs.TreeSorts.{TreeSort, width_of, rule_of, rule_for, operator_sort, sort_under, tree_sort, tree_sorts}
use Rattle.echo_spec.specs.TreeSortLaws.{Met, operator-met}
use Rattle.readback.specs.Rebuild.{low_bits, amounts}
use Rattle.rebuilt.specs.Known.{operands-are}
use Rattle.place_laws.specs.Operands.{amounts_of}

-- the width that an operator of this shape gives: i and j are its first numerals, m and n the widths of its first operands
abbrev pub result_width : Shape → ℕ → ℕ → ℕ → ℕ → ℕ
result_width h i j m n = width_of (some (rule_of h i j m n).result)

-- the widths of the first two operands; a Bool, or one that is not there, has width 0
abbrev pub first_width : List (Option TreeSort) → ℕ
first_width os = width_of (get_or os 0 none)

abbrev pub second_width : List (Option TreeSort) → ℕ
second_width os = width_of (get_or os 1 none)

module _ (D : Declarations) (k : ℕ) (ks : List ℕ) (ts : Trees) (σ : TreeSort) (sorted : tree_sort D (apply k ks ts) ≡ some σ) where
  operator-sorted : operator_sort (shape_of k) ks (tree_sorts D ts) ≡ some σ
  unfolding sort_under
  operator-sorted = sorted

  -- what its rule asks is met
  pub apply_met : Met (shape_of k) ks (tree_sorts D ts) σ
  apply_met = operator-met (shape_of k) ks (tree_sorts D ts) σ operator-sorted

  -- its operands have sorts
  pub apply-sorts : tree_sorts D ts ≡ map some (rule_for (shape_of k) ks (tree_sorts D ts)).operands
  apply-sorts = operands-are (shape_of k) ks (tree_sorts D ts) σ operator-sorted

  pub apply-width : width_of (tree_sort D (apply k ks ts)) ≡ result_width (shape_of k) (get_or ks 0 0) (get_or ks 1 0) (first_width (tree_sorts D ts)) (second_width (tree_sorts D ts))
  apply-width = ap width_of sorted ∙ ap (λ (τ : TreeSort). width_of (some τ)) (sym apply_met.result)

-- an operator takes three operands at most
pub few-operands : (h : Shape) (i j m n : ℕ) → length (rule_of h i j m n).operands ≤ 3
unfolding rule_of
few-operands var i j m n = omega arith
few-operands const i j m n = omega arith
few-operands binary i j m n = omega arith
few-operands rotation i j m n = omega arith
few-operands extraction i j m n = omega arith
few-operands concat i j m n = omega arith
few-operands extension i j m n = omega arith
few-operands ite i j m n = omega arith
few-operands comparison i j m n = omega arith
few-operands negation i j m n = omega arith
few-operands connective i j m n = omega arith
few-operands unary i j m n = omega arith
few-operands Shape.select i j m n = omega arith
few-operands Shape.call i j m n = omega arith
few-operands unknown i j m n = omega arith

-- ---------------------------------------------------------------- the amount of a rotation

-- only a rotation has one
pub no-amounts : (h : Shape) (w : ℕ) (ks : List ℕ) → (h ≡ rotation → ⊥) → amounts h w ks ≡ []
unfolding amounts
no-amounts var w ks n = refl
no-amounts const w ks n = refl
no-amounts binary w ks n = refl
no-amounts rotation w ks n = absurd (n refl)
no-amounts extraction w ks n = refl
no-amounts concat w ks n = refl
no-amounts extension w ks n = refl
no-amounts ite w ks n = refl
no-amounts comparison w ks n = refl
no-amounts negation w ks n = refl
no-amounts connective w ks n = refl
no-amounts unary w ks n = refl
no-amounts Shape.select w ks n = refl
no-amounts Shape.call w ks n = refl
no-amounts unknown w ks n = refl

module _ (D : Declarations) (k : ℕ) (ks : List ℕ) (ts : Trees) (σ : TreeSort) (sorted : tree_sort D (apply k ks ts) ≡ some σ) (turns : shape_of k ≡ rotation) where
  met-rotation : Met rotation ks (tree_sorts D ts) σ
  met-rotation = subst (λ (h : Shape). Met h ks (tree_sorts D ts) σ) turns (apply_met D k ks ts σ sorted)

  -- it has one numeral
  pub rotation-numeral : get_or ks 0 0 ∷ [] ≡ ks
  unfolding rule_of
  rotation-numeral = met-rotation.numerals

  -- as wide as its operand
  pub rotation-width : width_of (tree_sort D (apply k ks ts)) ≡ first_width (tree_sorts D ts)
  unfolding rule_of
  rotation-width = ap width_of sorted ∙ ap (λ (τ : TreeSort). width_of (some τ)) (sym met-rotation.result)

  -- THE AMOUNT of a rotation: its numeral in as many bits as its operand has.
  pub rotation-amount : amounts_of D k ks ts ≡ low_bits (first_width (tree_sorts D ts)) (get_or ks 0 0) ∷ []
  unfolding amounts
  rotation-amount =
      (λ i. amounts (turns i) (rotation-width i) ks) ∙ ap (λ (l : List ℕ). map (low_bits (first_width (tree_sorts D ts))) l) (sym rotation-numeral)

-- ---------------------------------------------------------------- widths, operand by operand

-- the first two operands' widths, once there are k operands
pub first-is : (os : List (Option TreeSort)) (o : Option TreeSort) → length os ≡ 0 → first_width (os ++ (o ∷ [])) ≡ width_of o
first-is [] o e = refl
first-is (x ∷ os) o e = absurd (omega arith)

pub first-stays : (os : List (Option TreeSort)) (o : Option TreeSort) → 0 < length os → first_width (os ++ (o ∷ [])) ≡ first_width os
first-stays [] o e = absurd (omega arith)
first-stays (x ∷ os) o e = refl

pub second_is : (os : List (Option TreeSort)) (o : Option TreeSort) → length os ≡ 1 → second_width (os ++ (o ∷ [])) ≡ width_of o
second_is [] o e = absurd (omega arith)
second_is (x ∷ []) o e = refl
second_is (x ∷ y ∷ os) o e = absurd (omega arith)

pub second-stays : (os : List (Option TreeSort)) (o : Option TreeSort) → (length os ≡ 1 → ⊥) → second_width (os ++ (o ∷ [])) ≡ second_width os
second-stays [] o e = refl
second-stays (x ∷ []) o e = absurd (e refl)
second-stays (x ∷ y ∷ os) o e = refl
