-- `decide` meets its contract.
use Rattle.std.proofs.Common.{ℕ, List, ap, sym, ◌∙◌, subst, length, arith}
use Rattle.std.proofs.lemmas.Result.{err_from_is_err_and}
use Rattle.std.specs.Prelude.{T}
use Rattle.lists.specs.Tests.{true→T}
use Rattle.script_rebuild.specs.Decided.{all_within}
use Rattle.script_rebuild.specs.Deciding.{refused, within-told, decided-ready, decided-short}
use Rattle.script_rebuild.proofs.decide.Goals as goal

pub needed-sizes-requires : goal.needed-sizes-requires
needed-sizes-requires c = (_, _, _, c.in_ok-x.ensures)

pub returns-in_err-x : goal.returns-in_err-x
returns-in_err-x c =
    let p = err_from_is_err_and c.from_residual.result c.from_residual.ensures.1 in
    rw (p.1, p.2) (refused c.args.s.now c.rebuild_script.new.t c.rebuild_script.new.heap c.rebuild_script.new.roots _ c.in_err-x.ensures)

pub returns-then-not-fits : goal.returns-then-not-fits
returns-then-not-fits c =
    let told = within-told c.lengths.result c.args.room.now (omega (arith, ap length c.lengths.ensures, c.requires)) _ c.fits.ensures in
    decided-short c.in_ok-x.ensures.0 c.needed-sizes.result (c.needed-sizes.ensures _ _ _ c.in_ok-x.ensures)
    (ap (λ (ns : List ℕ). all_within ns c.args.room.now) (sym c.lengths.ensures) ∙ sym told ∙ c.if-not-fits.true)

pub returns : goal.returns
returns c =
    let told = within-told c.lengths.result c.args.room.now (omega (arith, ap length c.lengths.ensures, c.requires)) _ c.fits.ensures in
    decided-ready c.in_ok-x.ensures.0 c.needed-sizes.result (c.needed-sizes.ensures _ _ _ c.in_ok-x.ensures)
    (subst (λ (ns : List ℕ). T (all_within ns c.args.room.now)) c.lengths.ensures (true→T (sym told ∙ c.if-not-fits.false)))
