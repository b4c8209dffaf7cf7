-- `scanned` meets its contract: at each turn the place is that of the next name, and no line before it has the name.
use Rattle.std.proofs.Common.{◌≡◌, ◌-◌, false, sym, ◌∙◌, arith, drop}
use Rattle.lists.specs.Tests.{same}
use Rattle.script_tokens.specs.Reached.{between}
use Rattle.script_names.specs.Entries.{entry_from, name_at}
use Rattle.script_names.specs.Laws.{name-stands, all_more, entry-start, entry_next}
use Rattle.script_names.proofs.scanned.Goals as goal

pub loop-k-init : goal.loop-k-init
loop-k-init c = (c.after_bar-p.ensures.0, entry-start _ _ c.after_bar-p.ensures.1, λ j l. absurd (omega arith))

pub returns-then-stands : goal.returns-then-stands
returns-then-stands c = (c.loop-k-test.true, c.loop-k.invariant.0, c.loop-k.invariant.1, sym (name-stands c.args.s.now c.args.a c.args.f c.loop-k.p (entry_from c.loop-k.k (drop c.args.lines.first c.args.s.now)) c.requires.1 c.loop-k.invariant.1 (c.requires.2 c.loop-k.k c.loop-k-test.true)) ∙ sym c.stands.ensures ∙ c.if-stands.true)

pub loop-k-preserved : goal.loop-k-preserved
loop-k-preserved c = (c.after_bar-p-in-loop-k.ensures.0, entry_next c.loop-k.k _ _ _ _ c.loop-k.invariant.1 c.after_bar.ensures.1 c.after_bar-p-in-loop-k.ensures.1, all_more (λ j. same (between c.args.s.now c.args.a (c.args.f - 1)) (name_at (drop c.args.lines.first c.args.s.now) j) ≡ false) c.loop-k.k c.loop-k.invariant.2 (sym (name-stands c.args.s.now c.args.a c.args.f c.loop-k.p (entry_from c.loop-k.k (drop c.args.lines.first c.args.s.now)) c.requires.1 c.loop-k.invariant.1 (c.requires.2 c.loop-k.k c.loop-k-test.true)) ∙ sym c.stands.ensures ∙ c.if-stands.false))
