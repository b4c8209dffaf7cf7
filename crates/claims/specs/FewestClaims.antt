-- The fewest roots that still refuse: what is promised of `fewest_roots`. Its definitions are those of crate `fewest`.
use Rattle.std.specs.Prelude.{ℕ, ◌≤◌, ◌<◌, ◌≡◌, refl, List, [], ◌∷◌, false, ◌≢◌, length, Option, Some, None}
use Rattle.std.proofs.Common.{sym, ap, ◌∙◌, inl, arith}
use borrow.Author.Tests.{eqb-true, eqb-false}
use Rattle.lists.specs.Build.{find}
use Rattle.echo_spec.specs.Input.{Problem}
use Rattle.echo_spec.specs.Examples.{var, all_meet}
use Rattle.echo_spec.specs.Answers.{endless_refusal}
use Rattle.lent.specs.Lent.{problem_at}
use Rattle.fewest.specs.Fewest.{with_roots, roots_at, same_number, rising, by_length, listed, fewest, FewestAnswer, fewest_roots_answer}
use Rattle.fewest.specs.FewestExamples.{with_nodes, x}
use Rattle.fewest.specs.Least.{RisingFrom, Earlier, least-passes, least-short, least-rises, none-shorter, none-earlier}
use Rattle.fewest.proofs.Always.{fewest-least}
use Rattle.fewest_roots.specs.declared.Fewest.{Fewest}
use Rattle.fewest_sharing.specs.declared.FewestRoots.{FewestRoots}
use Rattle.fewest_sharing.specs.declared.FewestRoots.TheVariants.{Empty, One, Two}
use Rattle.refusals.specs.declared.EchoError.{EchoError}
use Rattle.refusals.specs.declared.EchoError.TheVariants.{Malformed, Name, Shared}
use Rattle.refusals.specs.Numbers.{error_number, error-number}
use Rattle.fewest_roots.specs.Answered as told
use Rattle.fewest_roots.proofs.fewest_roots.Reads as fewest-roots-code

-- ---------------------------------------------------------------- every answer

-- The number is the printer's with endless room, whatever it is.
pub fewest-number : (p : Problem) → (fewest_roots_answer p).number ≡ endless_refusal p
unfolding fewest_roots_answer
fewest-number p = refl

-- An accepted problem has no list, and neither has one that is refused with another number than 1 to 7.
pub fewest-empty : (p : Problem) → listed (endless_refusal p) ≡ false → (fewest_roots_answer p).positions ≡ []
unfolding fewest_roots_answer fewest
fewest-empty p e = rw e refl

-- ---------------------------------------------------------------- refused with 1 to 7

module _ (p : Problem) (low : 1 ≤ endless_refusal p) (high : endless_refusal p ≤ 7) where
  -- Its positions are positions of roots, and they rise.
  pub fewest-rises : RisingFrom (length p.roots) 0 (fewest_roots_answer p).positions
  unfolding fewest_roots_answer
  fewest-rises = least-rises (fewest-least p low high)

  -- With the roots at these positions alone the problem has the same number.
  pub fewest-refuses : endless_refusal (with_roots p (roots_at p (fewest_roots_answer p).positions)) ≡ endless_refusal p
  unfolding fewest_roots_answer same_number
  fewest-refuses = eqb-true (endless_refusal (with_roots p (roots_at p (fewest p)))) (endless_refusal p) (least-passes (fewest-least p low high))

  -- Two roots always suffice.
  pub two-suffice : length (fewest_roots_answer p).positions ≤ 2
  unfolding fewest_roots_answer
  two-suffice = least-short (fewest-least p low high)

  -- With no shorter list has it the same number.
  pub fewest-shortest : (ks : List ℕ) → RisingFrom (length p.roots) 0 ks → length ks < length (fewest_roots_answer p).positions
      → endless_refusal (with_roots p (roots_at p ks)) ≢ endless_refusal p
  unfolding fewest_roots_answer same_number
  fewest-shortest ks r l = eqb-false (endless_refusal (with_roots p (roots_at p ks))) (endless_refusal p) (none-shorter (fewest-least p low high) ks r l)

  -- And with none as short that comes before it: its first position is as early as can be, and then its second.
  pub fewest-first : (ks : List ℕ) → RisingFrom (length p.roots) 0 ks → length ks ≡ length (fewest_roots_answer p).positions → Earlier ks (fewest_roots_answer p).positions
      → endless_refusal (with_roots p (roots_at p ks)) ≢ endless_refusal p
  unfolding fewest_roots_answer same_number
  fewest-first ks r l b = eqb-false (endless_refusal (with_roots p (roots_at p ks))) (endless_refusal p) (none-earlier (fewest-least p low high) ks r l b)

-- ---------------------------------------------------------------- the code

-- The contract of `fewest_roots`: its answer by the problem that was lent. It asks nothing of the caller.
abbrev pub FewestContract : Fewest → Problem → Type 0
FewestContract r p = told.answered r ≡ fewest_roots_answer p

-- It is what the function is proved to ensure: x are its arguments as they are passed, y as they are when it returns.
pub fewest-contract : (κs : _) (x : _) (r : _) (y : _) → fewest-roots-code.Post κs x r y
    → FewestContract r (problem_at x.0.now)
fewest-contract κs x r y h = h

-- a refusal, or none, and the roots at the positions
abbrev pub answer : Option EchoError → FewestRoots → Fewest
answer e roots = record { refusal = e; roots = roots }

-- What a call tells: the roots at its positions, in order and alone, are refused with the number that it tells.
pub told-refused : (p : Problem) (r : Fewest) → FewestContract r p → 1 ≤ told.number r → told.number r ≤ 7
    → endless_refusal (with_roots p (roots_at p (told.positions r))) ≡ told.number r
told-refused p r c low high =
    let e : told.number r ≡ endless_refusal p = ap (λ (a : FewestAnswer). a.number) c ∙ fewest-number p in
    let q : told.positions r ≡ (fewest_roots_answer p).positions = ap (λ (a : FewestAnswer). a.positions) c in
    ap (λ (ks : List ℕ). endless_refusal (with_roots p (roots_at p ks))) q ∙ fewest-refuses p (omega arith) (omega arith) ∙ sym e

-- So with two roots.
pub two-told : (p : Problem) (e : EchoError) (j k : ℕ) → FewestContract (answer (Some e) (Two j k)) p → error_number e ≤ 7
    → endless_refusal (with_roots p (roots_at p (j ∷ k ∷ []))) ≡ error_number e
two-told p e j k c high = told-refused p (answer (Some e) (Two j k)) c (let n = error-number e in omega (arith, n)) high

-- ---------------------------------------------------------------- instances

-- (whoever unfolds this unfolds the definitions named under it)
unfoldable computed : Type 0
unfolding all_meet find rising by_length same_number fewest fewest_roots_answer
computed = Unit {0}

-- A problem of four roots of which two are needed, one of which one is, one of which none is, and one that is accepted.
twice : Problem
twice = with_nodes x (1 ∷ 3 ∷ 3 ∷ 3 ∷ [])

two-called : FewestContract (answer (Some Shared) (Two 1 2)) twice
unfolding computed twice
two-called = refl

one-called : FewestContract (answer (Some Malformed) (One 1)) (with_nodes x (1 ∷ 9 ∷ 3 ∷ []))
unfolding computed
one-called = refl

none-called : FewestContract (answer (Some Name) Empty) (with_nodes (var "bvadd" 0 8 ∷ []) (1 ∷ 1 ∷ []))
unfolding computed
none-called = refl

accepted-called : FewestContract (answer None Empty) (with_nodes x (1 ∷ 3 ∷ []))
unfolding computed
accepted-called = refl

-- the two are refused alike; with neither alone nor with none is it 6; with an earlier pair it is not
two-alike : endless_refusal (with_roots twice (roots_at twice (1 ∷ 2 ∷ []))) ≡ 6
two-alike = two-told twice Shared 1 2 two-called (omega arith)

one-not : endless_refusal (with_roots twice (roots_at twice (1 ∷ []))) ≢ endless_refusal twice
unfolding computed twice
one-not = fewest-shortest twice (omega arith) (omega arith) (1 ∷ []) (omega arith, (omega arith, tt)) (omega arith)

earlier-not : endless_refusal (with_roots twice (roots_at twice (0 ∷ 3 ∷ []))) ≢ endless_refusal twice
unfolding computed twice
earlier-not = fewest-first twice (omega arith) (omega arith) (0 ∷ 3 ∷ []) (omega arith, (omega arith, (omega arith, (omega arith, tt)))) refl (inl (omega arith))
