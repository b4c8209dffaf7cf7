-- `layout_writer::read_into` meets its contract: by what `read_script` answered. Assumes nothing.
use Rattle.std.proofs.Common.{arith, ap}
use Rattle.std.specs.Prelude.{Err}
use Rattle.std.proofs.lemmas.Result.{err_from_is_err_and}
use Rattle.layout_writer.specs.declared.Unwritten.{Unwritten}
use Rattle.layout_writer.proofs.Reading.{accepts-as, refuses-as}
use Rattle.layout_writer.proofs.Saying.{reads-written, reads-room}
use Rattle.layout_writer.proofs.read_into.Goals as goal

pub returns-in_err-sizes : goal.returns-in_err-sizes
returns-in_err-sizes c =
    let p = err_from_is_err_and c.from_residual.result c.from_residual.ensures.1 in
    rw (p.1) (refuses-as c.args.script.now _ _ c.requires _ c.read_script.ensures.answer c.args.out.now _ c.in_err-sizes.was (ap (λ (u : Unwritten). Err u) p.2))

pub first-problem-requires : goal.first-problem-requires
first-problem-requires c = (accepts-as c.args.script.now _ _ c.requires _ c.read_script.ensures.answer _ c.in_ok-sizes.was).lies

pub returns-then-n-out : goal.returns-then-n-out
returns-then-n-out c =
    let a = accepts-as c.args.script.now _ _ c.requires _ c.read_script.ensures.answer _ c.in_ok-sizes.was in
    reads-room a c.args.out.now c.put_problem-n.new.out c.first-problem.ensures c.start.ensures (omega arith) c.put_problem-n.ensures c.if-n-out.true

pub returns : goal.returns
returns c =
    let a = accepts-as c.args.script.now _ _ c.requires _ c.read_script.ensures.answer _ c.in_ok-sizes.was in
    reads-written a c.args.out.now c.put_problem-n.new.out c.first-problem.ensures c.start.ensures (omega arith) c.put_problem-n.ensures c.if-n-out.false
