-- `echo_lines::logic_name` meets its contract: by whether there are functions, and whether there are arrays. Assumes nothing.
use Rattle.lists.specs.Bytes.{bytes}
use Rattle.echo_lines.proofs.Texts.{logic-functions, logic-arrays, logic-bits}
use Rattle.echo_lines.proofs.logic_name.Goals as goal

pub returns-then-nfuncs-gt0 : goal.returns-then-nfuncs-gt0
unfolding bytes
returns-then-nfuncs-gt0 c = logic-functions _ _ c.if-nfuncs-gt0.true

pub returns-then-narrays-gt0 : goal.returns-then-narrays-gt0
unfolding bytes
returns-then-narrays-gt0 c = logic-arrays _ _ c.if-nfuncs-gt0.false c.if-narrays-gt0.true

pub returns-else-narrays-gt0 : goal.returns-else-narrays-gt0
unfolding bytes
returns-else-narrays-gt0 c = logic-bits _ _ c.if-nfuncs-gt0.false c.if-narrays-gt0.false
