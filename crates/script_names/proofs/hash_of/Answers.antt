-- `hash_of` meets its contract: a short name whole, of a long one the first and the last sixteen bytes.
use Rattle.std.proofs.Common.{◌∙◌, arith, length, ◌-◌}
use Rattle.std.proofs.lemmas.Slice.{between_to_end}
use Rattle.script_names.specs.Laws.{hash-whole, hash-ends}
use Rattle.script_names.proofs.hash_of.Goals as goal

pub returns-then-name-gt-ENDS : goal.returns-then-name-gt-ENDS
returns-then-name-gt-ENDS c =
    let n = c.args.name.now in (
      c.hash_from.ensures.0 ∙ rw (between_to_end n (length n - 16) (length n) (omega arith), c.hash_from-h.ensures.0) (hash-ends n c.if-name-gt-ENDS.true),
      c.hash_from.ensures.1,
    )

pub returns : goal.returns
returns c = (c.hash_from-2.ensures.0 ∙ hash-whole c.args.name.now c.if-name-gt-ENDS.false, c.hash_from-2.ensures.1)
