-- `in_block` meets its contract: a block that lacks one of the line's bytes is passed.
use native.Mathlib.Omega.{arith}
use Rattle.lists.specs.Bytes.{bytes}
use Rattle.script_lines.proofs.Scanning.{block-passed}
use Rattle.script_lines.proofs.in_block.Goals as goal
use Rattle.script_lines.proofs.in_block.Goals.{then-not-in_reach-via-then-not-in_reach, then-not-in_reach-via-else-not-in_reach+then-not-in_reach-2}

pub returns-then-not-in_reach : goal.returns-then-not-in_reach
unfolding bytes
returns-then-not-in_reach c =
    elim c.then-not-in_reach.branch [
      | then-not-in_reach-via-then-not-in_reach w ↦ block-passed c.args.file.now c.args.i 5 64 (omega arith) (omega (arith, c.requires)) (c.in_reach.ensures w.if-not-in_reach.true)
      | then-not-in_reach-via-else-not-in_reach+then-not-in_reach-2 w ↦ block-passed c.args.file.now c.args.i 6 64 (omega arith) (omega (arith, c.requires))
          (w.in_reach-else-not-in_reach.ensures w.if-not-in_reach-2.true)
    ]
