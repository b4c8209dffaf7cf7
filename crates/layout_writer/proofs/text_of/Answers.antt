-- `layout_writer::text_of` meets its contract: each line as it is spelt. Assumes nothing.
use Rattle.std.proofs.Common.{sym, ap}
use Rattle.lists.specs.Bytes.{bytes}
use Rattle.layout_writer.specs.Lines.{too_large_line, too_deep_line}
use Rattle.layout_writer.specs.Telling.{line_of}
use Rattle.layout_writer.proofs.text_of.Goals as goal

pub returns-in-TooLarge : goal.returns-in-TooLarge
unfolding bytes too_large_line
returns-in-TooLarge c = sym (ap line_of c.in-TooLarge.is)

pub returns-in-TooDeep : goal.returns-in-TooDeep
unfolding bytes too_deep_line
returns-in-TooDeep c = sym (ap line_of c.in-TooDeep.is)
