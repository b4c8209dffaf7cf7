use mathlib.Core.Path.{ap, ◌∙◌}
use mathlib.Core.List.{List, ◌++◌}
use Prim.Native.Nat.{ℕ}
use Rattle.lists.specs.Bytes.{bytes}
use Rattle.echo_bytes.specs.Page.{page, written}
use Rattle.echo_pieces.proofs.push_sign.Goals as goal

pub returns-in-Named : goal.returns-in-Named
unfolding bytes
returns-in-Named c =
    c.push_enclosed.ensures ∙ ap (written (page c.args.p c.args.out.now)) (ap (λ (t : List ℕ). t ++ bytes "(") c.symbol.ensures ∙ c.in-Named.ensures.sign)
