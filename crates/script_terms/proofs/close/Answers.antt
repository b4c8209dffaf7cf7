-- `close` meets its contract, by the state.
use Rattle.std.proofs.Common.{ℕ, ◌≡◌, arith, Bool, true, false, not, nat_eq, List, Option, None, Some, refl, sym, subst}
use Rattle.std.proofs.lemmas.Bool.{eqb-true, eqb-false}
use Rattle.std.specs.Bool.{then_some}
use Rattle.script_terms.specs.declared.TermState.{TermState}
use Rattle.script_terms.specs.Turns.{ClosedIs}
use Rattle.script_terms.specs.TurnLaws.{closed-ends, closed-own-none, closed-own, closed-call-more, closed-call-none, closed-call, closed-else}
use Rattle.script_terms.proofs.close.Goals as goal

-- a width that is not 0
by-width : {s : List ℕ} {w : TermState} (z : ℕ) {r : Option ℕ} → r ≡ then_some (not (nat_eq z 0)) z → (z ≡ 0 → ClosedIs s w None) → ((z ≡ 0 → ⊥) → ClosedIs s w (Some z)) → ClosedIs s w r
by-width {s} {w} z e h k = subst (ClosedIs s w) (sym e) (by-test (nat_eq z 0) refl)
  where
    by-test : (b : Bool) → nat_eq z 0 ≡ b → ClosedIs s w (then_some (not b) z)
    by-test true t = h (eqb-true z 0 t)
    by-test false t = k (eqb-false z 0 t)

pub returns-in-Bracket : goal.returns-in-Bracket
returns-in-Bracket c = closed-ends c.args.s.now c.in-Bracket.is

pub returns-in-Own : goal.returns-in-Own
returns-in-Own c = by-width c.in-Own.width c.then_some.ensures (closed-own-none c.args.s.now c.in-Own.is) (λ n. closed-own c.args.s.now c.in-Own.is n (omega arith))

pub returns-in-Some : goal.returns-in-Some
returns-in-Some c = closed-call-more c.args.s.now c.in-Arguments.is _ c.in-Some.ensures

pub returns-in-None : goal.returns-in-None
returns-in-None c =
    by-width c.in-Arguments.width c.then_some-in-None.ensures (closed-call-none c.args.s.now c.in-Arguments.is c.in-None.ensures)
    (λ n. closed-call c.args.s.now c.in-Arguments.is c.in-None.ensures n (omega arith))

pub returns-in_default : goal.returns-in_default
returns-in_default c = closed-else c.args.w c.in_default.not-Bracket c.in_default.not-Own c.in_default.not-Arguments c.args.s.now
