-- `read` meets its contract: the arrays are fresh, and what the problem was rebuilt as tells the refusal.
use Rattle.std.proofs.Common.{ap, ◌∙◌}
use Rattle.std.proofs.lemmas.Result.{err_from_is_err_and}
use Rattle.release.specs.Told.{reason_number}
use Rattle.script_rebuild.specs.Fresh.{fresh-roots}
use Rattle.release.specs.Refusing.{refused-as, refused-whole}
use Rattle.release.proofs.read.Goals as goal

pub rebuild_script-requires : goal.rebuild_script-requires
rebuild_script-requires c = (c.new-t.ensures, c.new-heap.ensures.held, c.new-heap.ensures.stacked c.args.s.now, fresh-roots)

pub returns-in_err-rebuild_script : goal.returns-in_err-rebuild_script
returns-in_err-rebuild_script c =
    let p = err_from_is_err_and c.from_residual.result c.from_residual.ensures.1 in
    rw (p.1) (ap reason_number p.2 ∙ refused-as c.args.s.now c.rebuild_script.new.t c.rebuild_script.new.heap c.rebuild_script.new.roots _ c.in_err-rebuild_script.ensures)

pub returns : goal.returns
returns c = refused-whole c.args.s.now c.rebuild_script.new.t c.rebuild_script.new.heap c.rebuild_script.new.roots c.in_ok-rebuild_script.ensures
