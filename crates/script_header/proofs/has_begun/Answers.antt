-- `has_begun` meets its contract: one word, the other, or neither.
use Rattle.std.proofs.Common.{sym, ◌∙◌, drop}
use Rattle.lists.specs.Bytes.{bytes}
use Rattle.script_header.specs.Steps.{begun_first, begun-second}
use Rattle.script_header.proofs.has_begun.Goals as goal

pub returns-then-is_some : goal.returns-then-is_some
unfolding bytes
returns-then-is_some c = c.if-is_some.true ∙ begun_first c.args.s.now (drop c.args.at c.args.s.now) c.literal.result c.literal.ensures (sym c.is_some.ensures ∙ c.if-is_some.true)

pub returns-else-is_some : goal.returns-else-is_some
unfolding bytes
returns-else-is_some c =
    c.is_some-else-is_some.ensures
    ∙ begun-second c.args.s.now (drop c.args.at c.args.s.now) c.literal.result c.literal-else-is_some.result c.literal.ensures (sym c.is_some.ensures ∙ c.if-is_some.false) c.literal-else-is_some.ensures
