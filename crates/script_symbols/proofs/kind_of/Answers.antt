-- `kind_of` meets its contract: a short word by its number, a longer one by its bytes.
use mathlib.Core.Path.{ap, sym, ◌∙◌}
use native.Mathlib.Omega.{arith}
use Rattle.script_symbols.specs.Packed.{short_kind, kind-packed, all-bytes}
use Rattle.script_symbols.proofs.kind_of.Goals as goal

pub returns-then-w-le7 : goal.returns-then-w-le7
returns-then-w-le7 c = c.short_kind.ensures ∙ ap short_kind c.pack.ensures ∙ sym (kind-packed c.args.w.now (all-bytes c.args.w.now (λ i. omega (arith, c.type_inv.w i))))
