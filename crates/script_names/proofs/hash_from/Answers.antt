-- `hash_from` meets its contract: at each turn the hash so far goes on over the bytes that are left.
use Rattle.std.proofs.Common.{ℕ, ◌+◌, ◌*◌, ◌%◌, ap, sym, ◌∙◌, arith, drop}
use Rattle.script_names.specs.Entries.{hash_from}
use Rattle.script_names.specs.Laws.{hash-more, hash-end}
use Rattle.script_names.proofs.hash_from.Goals as goal

pub loop-c-preserved : goal.loop-c-preserved
loop-c-preserved c = (
  omega arith,
  c.loop-c.invariant.1 ∙ hash-more c.args.part.now c.loop-c.h c.loop-c.c-index c.loop-c-test.true
      ∙ ap (λ (x : ℕ). hash_from ((c.loop-c.h * 31 + x) % 4096) (drop (c.loop-c.c-index + 1) c.args.part.now)) (sym c.from.ensures),
)

pub returns : goal.returns
returns c = (sym (c.loop-c.invariant.1 ∙ hash-end c.args.part.now c.loop-c.h c.loop-c.c-index c.loop-c-test.false), c.loop-c.invariant.0)
