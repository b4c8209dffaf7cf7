-- `all_ok` meets its contract: the functions from g on decide the answer. Assumes nothing.
use Rattle.std.proofs.Common.{◌≡◌, ◌-◌, length}
use Rattle.lists.specs.Tests.{every_from}
use Rattle.echo_spec.specs.Tables.{decl_func_ok, decl_funcs_ok}
use Rattle.lent.specs.Lent.{dag_at}
use Rattle.echo_checks.proofs.Signatures.all_ok.Given as goal

abbrev pub invariant-loop-g : goal.invariant-loop-g
invariant-loop-g l =
    decl_funcs_ok (dag_at l.self.problem.now) l.self.widths.now
    ≡ every_from (decl_func_ok (dag_at l.self.problem.now) l.self.widths.now) l.g (length l.self.problem.now.fname_start.now - l.g)
