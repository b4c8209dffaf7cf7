-- `same_name` meets its contract: a name of another length, an entry that is not inside its arena, and another last byte tell them apart.
use native.Mathlib.Omega.{arith}
use mathlib.Core.Path.{sym, ap, ◌∙◌}
use Rattle.lists.specs.Tests.{same}
use Rattle.echo_names.specs.NameTables.{other-length, not-inside, other-last, part-named}
use Rattle.echo_names.proofs.NameTable.same_name.Goals.{then-n-size-via-then-n-size, then-n-size-via-else-n-size+then-from-size}
use Rattle.echo_names.proofs.NameTable.same_name.Goals as goal

pub returns-then-self-k : goal.returns-then-self-k
returns-then-self-k c = sym (other-length _ _ _ _ c.if-n-eq0.false c.if-self-k.true)

pub returns-then-n-size : goal.returns-then-n-size
returns-then-n-size c =
    sym (not-inside _ _ _ _ c.if-n-eq0.false (elim c.then-n-size.branch [
      | then-n-size-via-then-n-size w ↦ omega (arith, w.if-n-size.true, c.if-self-k.false)
      | then-n-size-via-else-n-size+then-from-size w ↦ omega (arith, w.if-n-size.false, w.if-from-size.true, c.if-self-k.false)
    ]))

pub returns-then-self-from : goal.returns-then-self-from
returns-then-self-from c =
    sym (other-last _ _ _ _ c.if-n-eq0.false c.if-self-k.false (omega (arith, c.if-n-size.false, c.if-from-size.false, c.if-self-k.false)) c.if-self-from.true)

pub returns : goal.returns
returns c = c.same_bytes-2.ensures ∙ ap (same c.args.name.now) (part-named _ _ _ _ c.if-self-k.false (omega (arith, c.if-n-size.false, c.if-from-size.false, c.if-self-k.false)))
