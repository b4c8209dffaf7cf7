-- `joined` meets its contract: the sum is a width, or it is too wide.
use Rattle.std.proofs.Common.{ℕ, sym, subst, arith}
use Rattle.script_terms.specs.declared.TermState.TheVariants.{Bracket}
use Rattle.script_terms.specs.Turns.{JoinedIs}
use Rattle.script_terms.specs.OperandLaws.{joined-none, joined_is}
use Rattle.script_terms.proofs.joined.Goals as goal

pub returns-in-Some : goal.returns-in-Some
returns-in-Some c = subst (λ (n : ℕ). JoinedIs c.args.a c.args.b (Bracket n)) (sym c.in-Some.ensures.1) (joined_is c.requires (omega (arith, c.in-Some.ensures.0)))

pub returns-in-None : goal.returns-in-None
returns-in-None c = joined-none (omega (arith, c.in-None.ensures))
