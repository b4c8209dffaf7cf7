-- `all_ok` meets its contract: the functions from g on decide the answer. Assumes nothing.
use Rattle.std.proofs.Common.{◌≡◌, ◌+◌, ◌-◌, suc, refl, ◌∙◌, arith, length, add-one}
use Rattle.echo_spec.specs.Input.{dag_of}
use Rattle.echo_spec.specs.Tables.{decl_funcs_ok}
use Rattle.echo_spec.specs.ColumnLaws.{names-counted}
use Rattle.echo_checks.proofs.Signatures.all_ok.Goals as goal

pub loop-g-init : goal.loop-g-init
unfolding decl_funcs_ok dag_of
loop-g-init c =
    let p = c.args.self.now.problem.now in
    let n : length p.fname_start.now - 0 ≡ length p.fname_start.now = omega arith in
    rw (n, names-counted p.fnames.now p.fname_start.now p.fname_len.now) refl

pub loop-g-preserved : goal.loop-g-preserved
loop-g-preserved c =
    let n = length c.args.self.now.problem.now.fname_start.now in
    let k : n - c.loop-g.g ≡ suc (n - (c.loop-g.g + 1)) = omega arith in
    c.loop-g.invariant ∙ rw (k, ← c.function_ok.ensures, c.if-not-function_ok.false, add-one) refl
