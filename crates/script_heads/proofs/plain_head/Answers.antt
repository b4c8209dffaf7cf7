-- `plain_head` meets its contract: the word up to a blank or a bracket, and its kind.
use Rattle.std.proofs.Common.{arith}
use Rattle.script_heads.specs.HeadLaws.{open-end, plain-none, plain-head}
use Rattle.script_heads.proofs.plain_head.Goals as goal

pub returns-then-a-s : goal.returns-then-a-s
returns-then-a-s c = open-end c.args.s.now c.args.at c.requires.0 (omega (arith, c.if-a-s.true))

pub returns-in_err-kind : goal.returns-in_err-kind
returns-in_err-kind c = rw c.from_residual.ensures (plain-none c.args.s.now c.args.at c.word_end-end.result c.requires.0 c.requires.1 c.requires.2 (omega (arith, c.if-a-s.false)) c.word_end-end.ensures c.requires.3 c.in_err-kind.ensures)

pub returns : goal.returns
returns c = plain-head c.args.s.now c.args.at c.word_end-end.result c.requires.0 c.requires.1 c.requires.2 (omega (arith, c.if-a-s.false)) c.word_end-end.ensures c.requires.3 c.in_ok-kind.ensures
