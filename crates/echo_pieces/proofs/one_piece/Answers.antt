use Rattle.echo_pieces.proofs.Notations.{not-before, before-piece, other-piece}
use Rattle.echo_pieces.proofs.one_piece.Goals as goal

pub returns-in-Before : goal.returns-in-Before
returns-in-Before c = before-piece _ c.args.a 0 c.in-Before.ensures.level c.new.ensures

pub returns-in-Between : goal.returns-in-Between
returns-in-Between c = other-piece _ c.args.a 0 (not-before c.from.ensures c.in-Between.is) c.new-in-Between.ensures
