-- `sliver_kernel::args_wf` meets its contract: there are as many entries, and each is an earlier node. Assumes nothing.
use Rattle.std.proofs.Common.{rules, sym, ◌∙◌, take, arith}
use Rattle.std.proofs.lemmas.Bool.{lt-leb}
use Rattle.chains.specs.Tests.{every-told}
use Rattle.echo_spec.specs.Widths.{earlier}
use Rattle.sliver_kernel.proofs.Turns.{args-short, args-every}
use Rattle.sliver_kernel.proofs.args_wf.Goals as goal

pub returns-then-count-rest : goal.returns-then-count-rest
returns-then-count-rest c =
    let rest = c.entries_from-rest.result.now in
    rw (← c.entries_from-rest.ensures)
    (every-told (earlier c.args.ws.now) (take c.args.n rest) c.all.result (search rules) (search rules)
    ∙ sym (args-every c.args.ws.now c.args.n rest (omega arith)))

pub returns-else-count-rest : goal.returns-else-count-rest
returns-else-count-rest c =
    let rest = c.entries_from-rest.result.now in
    rw (← c.entries_from-rest.ensures)
    (lt-leb c.args.n _ (omega arith) ∙ sym (args-short c.args.ws.now c.args.n rest (omega arith)))
