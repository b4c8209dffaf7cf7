-- `next_script` meets its contract: the blocks that it has passed start no check-sat line.
use Prim.Native.Nat.{ℕ, ◌*◌, ◌/◌}
use mathlib.Core.Path.{◌≡◌, ap, ◌∙◌}
use native.Mathlib.Omega.{arith}
use lib.ListN.{length}
use Rattle.script_lines.specs.Scanning.{ahead, ahead-start, search-end}
use Rattle.script_lines.proofs.next_script.Goals as goal

pub loop-k-init : goal.loop-k-init
loop-k-init c = ahead-start c.args.file.now

pub returns : goal.returns
returns c =
    let file = c.args.file.now in
    let blocks = c.saturating_sub-blocks.result / 64 in
    let all : c.loop-k.k ≡ blocks = omega arith in
    search-end file (64 * blocks) (length file) c.first_line.result (c.loop-k.invariant ∙ ap (λ (k : ℕ). ahead file (64 * k)) all) c.first_line.ensures (omega arith)
