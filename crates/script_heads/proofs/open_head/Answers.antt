-- `open_head` meets its contract, by the byte after the bracket.
use native.Mathlib.Omega.{arith}
use lib.Dec.{lit<}
use Rattle.lists.specs.Bytes.{bytes}
use Rattle.script_heads.specs.HeadLaws.{byte-there, select-there}
use Rattle.script_heads.proofs.open_head.Goals as goal

pub returns-in-40 : goal.returns-in-40
returns-in-40 c = λ D κ. c.indexed_head.ensures D

pub select_head-requires : goal.select_head-requires
unfolding bytes
select_head-requires c = (c.requires.0, (select-there c.args.script.now.text.now c.args.at (omega (arith, byte-there c.args.script.now.text.now c.args.at c.requires.1 (lit< tt))) c.in-Some.ensures.0 c.in-Some.ensures.1).0, (select-there c.args.script.now.text.now c.args.at (omega (arith, byte-there c.args.script.now.text.now c.args.at c.requires.1 (lit< tt))) c.in-Some.ensures.0 c.in-Some.ensures.1).1)

pub plain_head-requires : goal.plain_head-requires
unfolding bytes
plain_head-requires c = (c.requires.1, λ q. omega (arith, q), λ q. omega (arith, q), c.in-None.ensures)

pub returns-in-None : goal.returns-in-None
returns-in-None c = λ D κ. c.plain_head.ensures D
