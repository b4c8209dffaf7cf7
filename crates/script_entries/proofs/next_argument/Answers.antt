-- `next_argument` meets its contract: a bracket ends the sorts, and a blank comes before each but the first.
use native.Mathlib.Omega.{arith}
use Rattle.script_entries.specs.Widths.{next-end, next-close, next-blank, next-first}
use Rattle.script_entries.proofs.next_argument.Goals as goal
use Rattle.script_entries.proofs.next_argument.Goals.{then-p-s-via-then-p-s, then-p-s-via-else-p-s+then-s-p-eq41}

pub returns-then-p-s : goal.returns-then-p-s
returns-then-p-s c = λ ws x.
    elim c.then-p-s.branch [
      | then-p-s-via-then-p-s w ↦ next-end c.args.s.now c.args.p ws x w.if-p-s.true
      | then-p-s-via-else-p-s+then-s-p-eq41 w ↦ next-close c.args.s.now c.args.p ws x (omega (arith, w.if-p-s.false)) w.if-s-p-eq41.true
    ]

pub returns-then-s-p-eq32 : goal.returns-then-s-p-eq32
returns-then-s-p-eq32 c = λ ws x. next-blank c.args.s.now c.args.p ws x (omega (arith, c.if-p-s.false)) c.if-s-p-eq32.true _ c.sort_in.ensures

pub returns : goal.returns
returns c = λ ws x. next-first c.args.s.now c.args.p ws x (omega (arith, c.if-p-s.false)) c.if-s-p-eq41.false c.if-s-p-eq32.false _ c.sort_in-2.ensures
