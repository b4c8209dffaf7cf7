-- `echo_lines::spaced_plain` meets its contract: the symbol stands behind two bytes. Assumes nothing.
use Prim.Native.Nat.{ℕ}
use mathlib.Core.Path.{ap, ◌∙◌}
use mathlib.Core.List.{List, ◌∷◌}
use Rattle.lists.specs.Bytes.{bytes}
use Rattle.echo_bytes.specs.Page.{written}
use Rattle.echo_lines.proofs.spaced_plain.Goals as goal

pub returns : goal.returns
unfolding bytes
returns c = c.led.ensures ∙ ap (written _) (ap (λ (s : List ℕ). 32 ∷ 40 ∷ s) c.symbol.ensures)
