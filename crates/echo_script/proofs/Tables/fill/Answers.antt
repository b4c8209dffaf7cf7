-- `Tables::fill` meets its contract. Assumes nothing.
use Rattle.std.specs.Prelude.{refl}
use Rattle.std.proofs.Common.{sym, ◌∙◌}
use Rattle.lists.specs.Tests.{true→T}
use Rattle.echo_script.proofs.Checking.{first-called, looked, filled, filling-done}
use Rattle.echo_script.proofs.Tables.fill.Goals as goal

pub invariant_of-signatures : goal.invariant_of-signatures
invariant_of-signatures c = record { filled = first-called c.args.formed.now.formed c.first_calls.ensures }

pub invariant_of-lookups : goal.invariant_of-lookups
invariant_of-lookups c = record { filled = looked c.args.formed.now.formed c.first_calls.ensures c.entries.ensures }

pub returns : goal.returns
returns c =
    let v = sym c.decl_vars_ok.ensures ∙ c.if-not-decl_vars_ok.false in
    let f = sym c.all_ok.ensures ∙ c.if-not-all_ok.false in
    filling-done v f (filled c.args.formed.now.formed c.first_calls.ensures c.entries.ensures refl c.mark.ensures (true→T f))
