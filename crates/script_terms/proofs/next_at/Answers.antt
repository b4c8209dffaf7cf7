-- `next_at` meets its contract, by the state and the byte.
use Rattle.std.proofs.Common.{refl, ◌∙◌, inl}
use Rattle.script_terms.specs.TurnLaws.{next-done, next-other}
use Rattle.script_terms.proofs.next_at.Goals as goal

pub returns-in-Done : goal.returns-in-Done
returns-in-Done c = (next-done c.args.s.now c.args.p c.in-Done.is c.requires.0, inl refl)

pub returns-else-b-eq41 : goal.returns-else-b-eq41
returns-else-b-eq41 c = (next-other c.args.s.now c.args.p (λ q. c.if-b-eq32.false (c.byte_at-b.ensures ∙ q)) (λ q. c.if-b-eq41.false (c.byte_at-b.ensures ∙ q)) c.in_default.not-Done, tt)
