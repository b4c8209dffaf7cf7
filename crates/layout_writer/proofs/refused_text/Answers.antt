-- `layout_writer::refused_text` meets its contract: each line as it is spelt. Assumes nothing.
use Rattle.std.proofs.Common.{sym, ap}
use Rattle.lists.specs.Bytes.{bytes}
use Rattle.script_rebuild.specs.declared.ReadError.{ReadError}
use Rattle.layout_writer.specs.declared.Unwritten.TheVariants.{Refused}
use Rattle.layout_writer.specs.Lines.{no_script_line, limit_line, room_line}
use Rattle.layout_writer.specs.Telling.{line_of}
use Rattle.layout_writer.proofs.refused_text.Goals as goal

pub returns-in-NoScript : goal.returns-in-NoScript
unfolding bytes no_script_line
returns-in-NoScript c = sym (ap (λ (x : ReadError). line_of (Refused x)) c.in-NoScript.is)

pub returns-in-Limit : goal.returns-in-Limit
unfolding bytes limit_line
returns-in-Limit c = sym (ap (λ (x : ReadError). line_of (Refused x)) c.in-Limit.is)

pub returns-in-Room : goal.returns-in-Room
unfolding bytes room_line
returns-in-Room c = sym (ap (λ (x : ReadError). line_of (Refused x)) c.in-Room.is)
