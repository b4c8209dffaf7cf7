use native.Mathlib.Omega.{arith}
use Rattle.echo_pieces.proofs.Notations.{not-between, left-piece, right-piece, first-piece, second-piece}
use Rattle.echo_pieces.proofs.two_piece.Goals as goal

pub returns-in-0 : goal.returns-in-0
returns-in-0 c = left-piece _ c.args.a c.args.b c.in-Between.ensures.between c.in-Between.ensures.level c.in-0.is c.new.ensures

pub returns-in_default : goal.returns-in_default
returns-in_default c = right-piece _ c.args.a c.args.b c.in-Between.ensures.between c.in-Between.ensures.level (omega arith) c.new-in_default.ensures

pub returns-in-0-k : goal.returns-in-0-k
returns-in-0-k c = first-piece _ c.args.a c.args.b (not-between c.from.ensures c.in-Before.is) c.in-0-k.is c.new-in-0-k.ensures

pub returns-in_default-k : goal.returns-in_default-k
returns-in_default-k c = second-piece _ c.args.a c.args.b (not-between c.from.ensures c.in-Before.is) (omega arith) c.new-in_default-k.ensures
