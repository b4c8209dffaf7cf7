-- `layout_bytes::put_number` meets its contract: eight bytes in one piece. Assumes nothing.
use mathlib.Core.Path.{ap, ◌∙◌}
use native.Mathlib.Omega.{arith}
use Rattle.echo_bytes.specs.Page.{written}
use Rattle.layout_bytes.proofs.Writing.{number-bytes}
use Rattle.layout_bytes.proofs.put_number.Goals as goal

pub returns : goal.returns
returns c =
    c.word.ensures
    ∙ ap (written _) (c.to_le_bytes.ensures ∙ number-bytes c.args.n (omega arith) (omega arith) (omega arith) (omega arith) (omega arith) (omega arith) (omega arith) (omega arith) (omega arith))
