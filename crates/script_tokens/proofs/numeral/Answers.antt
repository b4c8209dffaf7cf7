-- `numeral` meets its contract: no digit, a zero, or a digit that the others follow.
use Rattle.std.proofs.Common.{sym, ap, ◌∙◌, arith}
use Rattle.lists.specs.Tests.{true→T}
use Rattle.smtlib.specs.Lexicon.{digit}
use Rattle.script_tokens.specs.Numerals.{digits-begun, digit-inside, digits-none, zero-alone, zero-leads}
use Rattle.script_tokens.proofs.numeral.Goals as goal

pub returns-then-not-is_ascii_digit : goal.returns-then-not-is_ascii_digit
returns-then-not-is_ascii_digit c = digits-none c.args.s.now c.args.at c.requires (ap digit (sym c.byte_at-c.ensures) ∙ sym c.is_ascii_digit.ensures.value ∙ c.if-not-is_ascii_digit.true)

pub more_digits-requires : goal.more_digits-requires
more_digits-requires c =
    digits-begun (ap digit (sym c.byte_at-c.ensures) ∙ sym c.is_ascii_digit.ensures.value ∙ c.if-not-is_ascii_digit.false) (λ q. c.if-c-ne48.true (c.byte_at-c.ensures ∙ q)) (omega (arith, c.from.ensures, c.byte_at-c.ensures))

pub returns-then-is_ascii_digit : goal.returns-then-is_ascii_digit
returns-then-is_ascii_digit c =
    zero-leads c.args.s.now c.args.at (digit-inside c.args.s.now c.args.at (true→T (ap digit (sym c.byte_at-c.ensures) ∙ sym c.is_ascii_digit.ensures.value ∙ c.if-not-is_ascii_digit.false)))
    (sym c.byte_at-c.ensures ∙ c.if-c-ne48.false) (true→T (ap digit (sym c.byte_at.ensures) ∙ sym c.is_ascii_digit-2.ensures.value ∙ c.if-is_ascii_digit.true))

pub returns : goal.returns
returns c =
    let i = digit-inside c.args.s.now c.args.at (true→T (ap digit (sym c.byte_at-c.ensures) ∙ sym c.is_ascii_digit.ensures.value ∙ c.if-not-is_ascii_digit.false)) in
    (omega (arith, i), zero-alone c.args.s.now c.args.at i (sym c.byte_at-c.ensures ∙ c.if-c-ne48.false) (ap digit (sym c.byte_at.ensures) ∙ sym c.is_ascii_digit-2.ensures.value ∙ c.if-is_ascii_digit.false))
