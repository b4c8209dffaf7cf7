-- `bind` meets its contract. Assumes nothing.
use Rattle.std.proofs.Common.{arith}
use Rattle.lists.specs.Bytes.{bytes}
use Rattle.echo_bytes.specs.Laws.{written_then}
use Rattle.echo_bindings.specs.LetLines.{open_text}
use Rattle.echo_bindings.specs.Checking.{few-widths}
use Rattle.echo_bindings.proofs.Assertions.bind.Goals as goal

pub offset_bounds-marks-i : goal.offset_bounds-marks-i
offset_bounds-marks-i c = omega (arith, c.requires.here, few-widths c.args.self.now.sharing.known)

pub bounds-marks-i : goal.bounds-marks-i
bounds-marks-i c = omega (arith, c.requires.here, few-widths c.args.self.now.sharing.known)

pub returns-clause-text : goal.returns-clause-text
unfolding bytes open_text
returns-clause-text c = written_then _ _ _ c.open_binding-opened.ensures (written_then _ _ _ c.term-written.ensures c.word-closed.ensures)
