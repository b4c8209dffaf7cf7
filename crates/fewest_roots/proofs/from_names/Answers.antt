-- `fewest_roots::from_names` meets its contract: the check of names, and what the check of sharing found. Assumes nothing.
use Rattle.std.proofs.Common.{sym, ◌∙◌}
use Rattle.echo_spec.specs.ColumnLaws.{columns-aligned}
use Rattle.lent.specs.Lent.{problem_at}
use Rattle.echo_checks.specs.Limits.{bounds}
use Rattle.fewest.proofs.Refused.{bad-names}
use Rattle.fewest_roots.proofs.Telling.{numbered, shared-told}
use Rattle.fewest_roots.proofs.from_names.Goals as goal

pub names_ok-requires : goal.names_ok-requires
names_ok-requires c = columns-aligned _ c.args.formed.now.formed.columns

pub returns-then-not-names_ok : goal.returns-then-not-names_ok
returns-then-not-names_ok c =
    let p = problem_at c.args.formed.now.problem.now in
    rw c.from.ensures (bad-names p _ (numbered p _ c.args.formed.now.formed) (sym c.names_ok.ensures ∙ c.if-not-names_ok.true))

pub shared_roots-requires : goal.shared_roots-requires
shared_roots-requires c = (bounds (problem_at c.args.formed.now.problem.now) c.args.formed.now.formed.within).nodes

pub returns-in-Some : goal.returns-in-Some
returns-in-Some c =
    let p = problem_at c.args.formed.now.problem.now in
    shared-told p _ (numbered p _ c.args.formed.now.formed) (sym c.names_ok.ensures ∙ c.if-not-names_ok.false) c.in-Some.roots c.in-Some.ensures.0 c.in-Some.ensures.1
