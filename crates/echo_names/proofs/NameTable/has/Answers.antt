-- `has` meets its contract: the names from j on decide the answer.
use native.Mathlib.Omega.{arith}
use mathlib.Core.Path.{refl}
use Rattle.echo_names.specs.NameTables.{has_first, has-next, has-found, has-none}
use Rattle.echo_names.proofs.NameTable.has.Goals as goal

pub loop-j-init : goal.loop-j-init
loop-j-init c = has_first _ _ _ _ _

pub returns-then-same_name : goal.returns-then-same_name
returns-then-same_name c =
    has-found _ _ _ _ _ _ c.requires c.loop-j.invariant (omega arith) refl c.same_name.ensures c.if-same_name.true

pub loop-j-preserved : goal.loop-j-preserved
loop-j-preserved c =
    has-next _ _ _ _ _ _ c.requires c.loop-j.invariant (omega arith) refl c.same_name.ensures c.if-same_name.false

pub returns : goal.returns
returns c = has-none _ _ _ _ _ _ c.requires c.loop-j.invariant (omega arith)
