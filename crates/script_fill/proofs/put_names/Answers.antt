-- `put_names` meets its contract: the first i names are written, and the next goes to place `at`.
use Rattle.std.proofs.Common.{arith}
use Rattle.script_fill.specs.Turns.{written_none, names-room, starts-room, lengths-room, written-more, written_all}
use Rattle.script_fill.proofs.put_names.Goals as goal

pub loop-i-init : goal.loop-i-init
loop-i-init c = written_none _ _ _ _ _ _

pub name_of-name-requires : goal.name_of-name-requires
name_of-name-requires c = c.requires.lines.place c.loop-i.i c.loop-i-test.true

pub slice_bounds-copy-end : goal.slice_bounds-copy-end
slice_bounds-copy-end c = names-room c.loop-i.invariant c.loop-i-test.true c.requires.room c.name_of-name.ensures

pub bounds-starts-i : goal.bounds-starts-i
bounds-starts-i c = starts-room c.loop-i.invariant c.loop-i-test.true c.requires.room

pub bounds-lengths-i : goal.bounds-lengths-i
bounds-lengths-i c = lengths-room c.loop-i.invariant c.loop-i-test.true c.requires.room

pub loop-i-preserved : goal.loop-i-preserved
loop-i-preserved c = written-more c.loop-i.invariant c.loop-i-test.true c.requires.room c.name_of-name.ensures c.copy.ensures

pub returns : goal.returns
returns c = written_all c.loop-i.invariant (omega arith)
