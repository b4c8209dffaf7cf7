-- `short_records::lengthen_into` meets its contract. Each way out is one case of the answer. Assumes nothing.
use native.Mathlib.Omega.{arith}
use mathlib.Core.Path.{refl, sym}
use Rattle.std.proofs.lemmas.Result.{err_from_is_err_and}
use Rattle.short_records.specs.Short.{lengthen_answer}
use Rattle.short_records.proofs.Answering.{refused, no_room, done}
use Rattle.short_records.proofs.lengthen_into.Goals as goal

pub returns-in_err-size : goal.returns-in_err-size
unfolding lengthen_answer
returns-in_err-size c =
    let p = err_from_is_err_and c.from_residual.result c.from_residual.ensures.1 in
    rw (p.1, p.2) (refused _ _ _ c.in_err-size.field-0.0 c.in_err-size.ensures.told refl)

pub returns-then-size-out : goal.returns-then-size-out
unfolding lengthen_answer
returns-then-size-out c =
    no_room _ _ _ c.in_ok-size.ensures.told.0 (omega (arith, c.in_ok-size.ensures.told.1, c.if-size-out.true)) refl

pub write_long-requires : goal.write_long-requires
write_long-requires c = (c.in_ok-size.ensures.told.0, omega (arith, c.in_ok-size.ensures.told.1, c.if-size-out.false))

pub returns : goal.returns
unfolding lengthen_answer
returns c =
    done _ _ _ c.in_ok-size.ensures.told.0 (sym c.in_ok-size.ensures.told.1) c.if-size-out.false c.write_long.ensures
