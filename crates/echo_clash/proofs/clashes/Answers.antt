-- `clashes` meets its contract. Assumes nothing.
use Rattle.std.proofs.Common.{arith, sym, ◌∙◌}
use Rattle.echo_clash.specs.Clash.{clash-empty, number-part, clash-other, clash-same, flag-inside}
use Rattle.echo_clash.proofs.clashes.Goals as goal

pub returns-in_default : goal.returns-in_default
returns-in_default c = clash-empty _ _ (omega (arith, c.in_default.len_below))

pub is_let_name-requires : goal.is_let_name-requires
is_let_name-requires c =
    omega (arith, flag-inside c.args.shared.now c.read_number-v.result (sym c.flagged.ensures ∙ c.if-flagged.true), c.requires)

pub returns-then-flagged : goal.returns-then-flagged
returns-then-flagged c =
    clash-same _ _ (number-part c.args.name.now c.read_number-v.ensures) (sym c.flagged.ensures ∙ c.if-flagged.true) c.is_let_name.ensures

pub returns-else-flagged : goal.returns-else-flagged
returns-else-flagged c =
    c.if-flagged.false ∙ clash-other _ _ (number-part c.args.name.now c.read_number-v.ensures) (sym c.flagged.ensures ∙ c.if-flagged.false)
