-- `enter` meets its contract: the line stands last in its chain, with its numbers.
use Rattle.std.proofs.Common.{arith}
use Rattle.std.proofs.Math.Path.{refl}
use Rattle.script_names.specs.Chains.{entered_noted}
use Rattle.script_names.specs.Laws.{tabled-more, tabled-past}
use Rattle.script_names.proofs.enter.Goals as goal

pub returns-then-lines-lt-LINES-clause-tabled : goal.returns-then-lines-lt-LINES-clause-tabled
returns-then-lines-lt-LINES-clause-tabled c = tabled-more c.args.s.now c.args.lines.first c.args.t.now c.args.lines.count c.args.a c.args.f _ _ c.requires.1 c.requires.0 c.requires.2 c.if-lines-lt-LINES.true c.hash_of-h.ensures.0

pub returns-else-lines-lt-LINES-clause-tabled : goal.returns-else-lines-lt-LINES-clause-tabled
returns-else-lines-lt-LINES-clause-tabled c = tabled-past c.args.s.now c.args.lines.first c.args.t.now c.args.lines.count c.args.a c.args.f c.requires.1 c.requires.0 c.requires.2 c.if-lines-lt-LINES.false

pub returns-then-lines-lt-LINES-clause-noted : goal.returns-then-lines-lt-LINES-clause-noted
returns-then-lines-lt-LINES-clause-noted c = entered_noted c.args.t.now c.args.lines.count c.args.a _ c.args.measure c.if-lines-lt-LINES.true c.requires.1.long c.hash_of-h.ensures.1

pub returns-else-lines-lt-LINES-clause-noted : goal.returns-else-lines-lt-LINES-clause-noted
returns-else-lines-lt-LINES-clause-noted c = record { own = λ l. absurd (omega (arith, c.if-lines-lt-LINES.false)); others = λ j f. refl }
