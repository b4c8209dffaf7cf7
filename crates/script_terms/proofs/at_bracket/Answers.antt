-- `at_bracket` meets its contract, by the state.
use Rattle.std.proofs.Common.{refl, sym, ◌∙◌, inr}
use Rattle.script_terms.specs.TurnLaws.{next-stored, next-stored-none, next-open, next-closed}
use Rattle.script_terms.proofs.at_bracket.Goals as goal

pub returns-then-byte_at-eq32 : goal.returns-then-byte_at-eq32
returns-then-byte_at-eq32 c = (next-stored c.args.s.now c.args.p c.in-Stored.is c.requires.1 (sym c.byte_at.ensures ∙ c.if-byte_at-eq32.true), inr (c.requires.1, sym c.byte_at.ensures ∙ c.if-byte_at-eq32.true, refl))

pub returns-else-byte_at-eq32 : goal.returns-else-byte_at-eq32
returns-else-byte_at-eq32 c = (next-stored-none c.args.s.now c.args.p c.in-Stored.is c.requires.1 (λ q. c.if-byte_at-eq32.false (c.byte_at.ensures ∙ q)), tt)

pub returns-in_err-n-in_default : goal.returns-in_err-n-in_default
returns-in_err-n-in_default c = rw c.from_residual.ensures (next-open c.args.s.now c.args.p c.requires.2 c.in_default.not-Stored c.requires.1 c.in_err-n-in_default.ensures, tt)

pub returns-in_ok-n-in_default : goal.returns-in_ok-n-in_default
returns-in_ok-n-in_default c = (next-closed c.args.s.now c.args.p c.requires.2 c.in_default.not-Stored c.requires.1 c.in_ok-n-in_default.n c.in_ok-n-in_default.ensures, inr (c.requires.1, refl))
