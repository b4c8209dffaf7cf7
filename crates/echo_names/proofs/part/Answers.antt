-- `part` meets its contract: a start past the end and a count past what is left are told apart, so that no sum can wrap.
use native.Mathlib.Omega.{arith}
use Rattle.echo_names.specs.NameTables.{part-lent}
use Rattle.echo_names.proofs.part.Goals as goal

pub returns-then-count-n : goal.returns-then-count-n
returns-then-count-n c = part-lent c.args.arena.now c.args.start c.args.len (omega (arith, c.if-from-n.true, c.if-count-n.true))
