-- `called_in` meets its contract: at each turn a function is flagged, or its name stands further on, exactly if it stands from the start on.
use Prim.Native.Nat.{◌-◌}
use native.Mathlib.Omega.{arith}
use lib.ListN.{drop}
use Rattle.readback.specs.Rebuild.{function_number}
use Rattle.script_tokens.specs.Reached.{between}
use Rattle.script_decls.specs.Going.{named-of}
use Rattle.script_calls.specs.Scan.{no-first, no_second, scan-start, scan-more, flagged, flagged-all, flags-more}
use Rattle.script_calls.proofs.called_in.Goals as goal

pub loop-done-init : goal.loop-done-init
loop-done-init c = (c.requires.1, λ D κ. scan-start c.args.script.now.text.now D c.args.from, omega arith, λ g l. absurd (omega arith))

pub returns-in_default : goal.returns-in_default
returns-in_default c = λ D ts κ x. flagged κ c.args.from c.loop-done.p c.loop-done.flags ts x (c.loop-done.invariant.1 D κ) (no-first (drop c.loop-done.p c.args.script.now.text.now) c.in_default.ensures)

pub returns-in_default-name_end : goal.returns-in_default-name_end
returns-in_default-name_end c = λ D ts κ x. flagged κ c.args.from c.loop-done.p c.loop-done.flags ts x (c.loop-done.invariant.1 D κ) (no_second (drop c.loop-done.p c.args.script.now.text.now) _ _ (named-of c.args.script.now.text.now c.loop-done.p c.in-Some.ensures).read c.in_default-name_end.ensures)

pub loop-done-preserved : goal.loop-done-preserved
loop-done-preserved c = (
  (named-of c.args.script.now.text.now c.in-Some.a c.in-Some-name_end.ensures).high,
  λ D κ. scan-more κ c.args.from c.loop-done.p c.in-Some.a c.in-Some-name_end.f c.loop-done.flags _ (named-of c.args.script.now.text.now c.loop-done.p c.in-Some.ensures) (named-of c.args.script.now.text.now c.in-Some.a c.in-Some-name_end.ensures) (c.loop-done.invariant.1 D κ) (c.flag_name.ensures D κ),
  c.unflagged_from-done.ensures.0,
  flags-more (function_number c.requires.0.0 (between c.args.script.now.text.now c.in-Some.a (c.in-Some-name_end.f - 1))) c.loop-done.flags c.loop-done.done (c.flag_name.ensures c.requires.0.0 c.requires.0.1)
      (omega (arith, c.loop-done.invariant.2, c.flag_count-n.ensures.0, (c.loop-done.invariant.1 c.requires.0.0 c.requires.0.1).long)) c.loop-done.invariant.3 c.unflagged_from-done.ensures.1,
)

pub returns : goal.returns
returns c = λ D ts κ x. flagged-all κ c.args.from c.loop-done.p c.loop-done.flags ts x (c.loop-done.invariant.1 D κ) (λ g m k. c.loop-done.invariant.3 g (omega (arith, c.flag_count-n.ensures.1 D c.args.script.now.text.now c.args.script.now.table.now κ g m k, c.loop-done-test.false)))
