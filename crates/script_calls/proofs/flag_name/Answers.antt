-- `flag_name` meets its contract: only a function's name has a flag set.
use Rattle.std.proofs.Common.{◌-◌, arith, rules}
use Rattle.script_tokens.specs.Reached.{between}
use Rattle.script_calls.specs.Scan.{marks-nothing, marks-function, marks-past, marks-other}
use Rattle.script_calls.proofs.flag_name.Goals as goal

pub returns-in_default : goal.returns-in_default
returns-in_default c = λ D κ. marks-other c.args.script.now.text.now D (between c.args.script.now.text.now c.args.a (c.args.f - 1)) c.args.flags.now _ (c.in_default.ensures D κ) (search rules)

pub returns-in_default-2 : goal.returns-in_default-2
returns-in_default-2 c = λ D κ. marks-nothing c.args.script.now.text.now D (between c.args.script.now.text.now c.args.a (c.args.f - 1)) c.args.flags.now (rw c.in_default.is at (c.entry_of.ensures D κ))

pub returns-then-g-lt-FLAGS : goal.returns-then-g-lt-FLAGS
returns-then-g-lt-FLAGS c = λ D κ. marks-function c.args.script.now.text.now D (between c.args.script.now.text.now c.args.a (c.args.f - 1)) c.args.flags.now (c.in-Some-Function.ensures D κ) c.in-Some-Function.field-0-is

pub returns-else-g-lt-FLAGS : goal.returns-else-g-lt-FLAGS
returns-else-g-lt-FLAGS c = λ D κ. marks-past c.args.script.now.text.now D (between c.args.script.now.text.now c.args.a (c.args.f - 1)) c.args.flags.now (c.in-Some-Function.ensures D κ) c.in-Some-Function.field-0-is (omega (arith, c.if-g-lt-FLAGS.false))
