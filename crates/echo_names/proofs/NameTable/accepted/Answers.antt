-- `accepted` meets its contract: the entries from k on, after all before them, decide the answer.
use mathlib.Core.Bool.{not}
use mathlib.Core.Path.{ap}
use native.Mathlib.Omega.{arith}
use Rattle.echo_names.specs.NameTables.{table-first, table-pass, table-fail, table-end}
use Rattle.echo_names.proofs.NameTable.accepted.Goals as goal

pub loop-k-init : goal.loop-k-init
loop-k-init c = table-first _ _ _ _ _ _ _ _ _

pub returns-then-not-entry_ok : goal.returns-then-not-entry_ok
returns-then-not-entry_ok c =
    table-fail _ _ _ _ _ _ _ _ _ _ c.loop-k.invariant (omega arith) c.entry_ok.ensures (ap not c.if-not-entry_ok.true)

pub loop-k-preserved : goal.loop-k-preserved
loop-k-preserved c =
    table-pass _ _ _ _ _ _ _ _ _ _ c.loop-k.invariant (omega arith) c.entry_ok.ensures (ap not c.if-not-entry_ok.false)

pub returns : goal.returns
returns c = table-end _ _ _ _ _ _ _ _ _ _ c.loop-k.invariant (omega arith)
