-- The kinds of a constant and of a call, by their shapes.
use Rattle.std.specs.Prelude.{ℕ, ◌≤◌, ◌<◌, ◌≡◌, Bool, true, false, not, T, eqb, length}
use Rattle.std.proofs.Math.Path.{refl}
use Rattle.std.proofs.Common.{sym, ap, ◌∙◌, arith, zero-le, ne_eqb}
use Rattle.std.proofs.Math.Decide.{dec_lt}
use Rattle.std.proofs.Math.ListN.{get_or-eq_default}
use Rattle.lists.specs.Tests.{every_from, every-at}
use Rattle.reading.specs.Kinds as kinds
use Rattle.echo_spec.specs.Shapes.{Shape, const, call, unknown, shapes, shape_of}
use Rattle.blast_kernel.specs.declared.Shape as code
use Rattle.blast_kernel.specs.declared.Shape.TheVariants.{Const, Call}
use Rattle.blast_kernel.specs.Kinds.{shape_in}

constant : Shape → Bool
constant const = true
constant _ = false

calls : Shape → Bool
calls call = true
calls _ = false

agree : Bool → Bool → Bool
agree true b = b
agree false b = not b

agreed : (a b : Bool) → T (agree a b) → a ≡ b
unfolding agree
agreed true true h = refl
agreed true false h = absurd h
agreed false true h = absurd h
agreed false false h = refl

-- one kind alone has a shape, where that holds of the kinds that there are
module _ (test : Shape → Bool) (kind : ℕ) (few : kind < 39) (none : test unknown ≡ false) (all : T (every_from (λ k. agree (test (shape_of k)) (eqb k kind)) 0 39)) where
  alone : (k : ℕ) → test (shape_of k) ≡ eqb k kind
  unfolding shapes
  alone k = by_place (dec_lt k 39)
    where
      by_place : Dec (k < 39) → test (shape_of k) ≡ eqb k kind
      by_place (yes l) = agreed (test (shape_of k)) (eqb k kind) (every-at (λ k. agree (test (shape_of k)) (eqb k kind)) 0 39 all k zero-le l)
      by_place (no l) = let past : length shapes ≤ k = omega arith in rw (get_or-eq_default shapes unknown past, ne_eqb k kind (λ e. omega arith)) none

const-alone : (k : ℕ) → constant (shape_of k) ≡ eqb k kinds.Const
unfolding constant agree shapes
const-alone = alone constant kinds.Const (omega arith) refl tt

call-alone : (k : ℕ) → calls (shape_of k) ≡ eqb k kinds.Call
unfolding calls agree shapes
call-alone = alone calls kinds.Call (omega arith) refl tt

-- by the shape that the code has for kind k
pub const-is : (k : ℕ) → const ≡ shape_of k → true ≡ eqb k kinds.Const
unfolding constant
const-is k e = ap constant e ∙ const-alone k

pub const-not : (s : code.Shape) (k : ℕ) → shape_in s ≡ shape_of k → (s ≡ Const → ⊥) → false ≡ eqb k kinds.Const
unfolding constant
const-not s k shaped e = sym (other s e) ∙ ap constant shaped ∙ const-alone k
  where
    other : (s : code.Shape) → (s ≡ Const → ⊥) → constant (shape_in s) ≡ false
    other Const e = absurd (e refl)
    other _ e = refl

pub call-is : (k : ℕ) → call ≡ shape_of k → true ≡ eqb k kinds.Call
unfolding calls
call-is k e = ap calls e ∙ call-alone k

pub call-not : (s : code.Shape) (k : ℕ) → shape_in s ≡ shape_of k → (s ≡ Call → ⊥) → false ≡ eqb k kinds.Call
unfolding calls
call-not s k shaped e = sym (other s e) ∙ ap calls shaped ∙ call-alone k
  where
    other : (s : code.Shape) → (s ≡ Call → ⊥) → calls (shape_in s) ≡ false
    other Call e = absurd (e refl)
    other _ e = refl
