-- `is_let_name` meets its contract. Assumes nothing.
use mathlib.Core.Path.{refl, sym, ap, ◌∙◌}
use native.Mathlib.Omega.{arith}
use lib.Seq.{length-take-le}
use Rattle.lists.specs.Tests.{same}
use Rattle.echo_names.specs.Steps.{pointwise_same}
use Rattle.echo_clash.specs.Clash.{name-written}
use Rattle.echo_clash.proofs.is_let_name.Goals as goal

pub slice_bounds-room-end : goal.slice_bounds-room-end
slice_bounds-room-end c =
    omega (arith, (name-written c.args.i c.requires _ refl c.start-p.ensures c.byte-q.ensures c.number-r.ensures).0)

pub slice_bounds-eq-end : goal.slice_bounds-eq-end
slice_bounds-eq-end c =
    let w = name-written c.args.i c.requires _ refl c.start-p.ensures c.byte-q.ensures c.number-r.ensures in
    sym (length-take-le _ _ (omega (arith, w.0, w.1)))

pub returns : goal.returns
returns c =
    c.eq.ensures ∙ pointwise_same _ _ ∙ ap (same c.args.name.now) (name-written c.args.i c.requires _ refl c.start-p.ensures c.byte-q.ensures c.number-r.ensures).2
