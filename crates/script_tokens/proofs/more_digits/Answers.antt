-- `more_digits` meets its contract: at each turn the digits so far are the decimal of the number so far.
use Rattle.std.proofs.Common.{refl, sym, ◌∙◌, arith}
use Rattle.script_tokens.specs.Numerals.{digits_on, digits-end, digits-past, digits-all}
use Rattle.script_tokens.proofs.more_digits.Goals as goal

pub returns-then-not-is_ascii_digit : goal.returns-then-not-is_ascii_digit
returns-then-not-is_ascii_digit c = (omega arith, digits-end c.loop-e.invariant.1 c.loop-e.invariant.0 c.loop-e-test.true (sym c.is_ascii_digit.ensures.value ∙ c.if-not-is_ascii_digit.true))

pub returns-in_err-checked_mul : goal.returns-in_err-checked_mul
returns-in_err-checked_mul c = rw c.from_residual.ensures (digits-past c.loop-e.invariant.1 c.loop-e-test.true (sym c.is_ascii_digit.ensures.value ∙ c.if-not-is_ascii_digit.false) refl (omega (arith, c.in_err-checked_mul.ensures)))

pub returns-in_err-n : goal.returns-in_err-n
returns-in_err-n c = rw c.from_residual-in_err-n.ensures (digits-past c.loop-e.invariant.1 c.loop-e-test.true (sym c.is_ascii_digit.ensures.value ∙ c.if-not-is_ascii_digit.false) c.from.ensures (omega (arith, c.in_ok-checked_mul.ensures, c.in_err-n.ensures)))

pub loop-e-preserved : goal.loop-e-preserved
loop-e-preserved c = (
  omega (arith, c.in_ok-n.ensures),
  digits_on c.loop-e.invariant.1 c.loop-e-test.true (sym c.is_ascii_digit.ensures.value ∙ c.if-not-is_ascii_digit.false) c.from.ensures (omega (arith, c.in_ok-checked_mul.ensures, c.in_ok-n.ensures)),
)

pub returns : goal.returns
returns c = (omega arith, digits-all c.loop-e.invariant.1 c.loop-e.invariant.0 c.loop-e-test.false)
