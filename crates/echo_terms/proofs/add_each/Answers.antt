-- `echo_terms::add_each` meets its contract. Assumes nothing.
use Rattle.std.specs.Prelude.{◌≡◌, ◌+◌}
use Rattle.std.specs.List.{fold}
use Rattle.std.proofs.Common.{rules, arith, ◌∙◌}
use Rattle.echo_terms.specs.TermTable.{held, entry, counted-fold}
use Rattle.echo_terms.proofs.add_each.Goals as goal

pub returns : goal.returns
returns c =
    let e : c.fold.result ≡ fold (λ s x. held (s + entry c.args.t.now x)) c.args.c c.args.xs.now = search rules in
    e ∙ counted-fold c.args.t.now c.args.c c.args.xs.now (omega (arith, c.well_formed))
