-- `constant_head` meets its contract: two bytes and the digits.
use Rattle.std.specs.Bool.{then_some}
use Rattle.std.proofs.Common.{◌≡◌, ◌+◌, Bool, true, false, nat_lt, refl, sym, ◌∙◌, arith}
use Rattle.std.proofs.lemmas.Bool.{ltb-true, ltb-false}
use Rattle.reading.specs.Trees.{Declarations}
use Rattle.script_heads.specs.declared.Head.TheVariants.{Constant}
use Rattle.script_heads.specs.Heads.{HeadAt}
use Rattle.script_heads.specs.HeadLaws.{no-b, no-digits, constant-head}
use Rattle.script_heads.proofs.constant_head.Goals as goal

pub returns-then-byte_at-ne98 : goal.returns-then-byte_at-ne98
returns-then-byte_at-ne98 c = no-b c.args.s.now c.args.at c.requires (λ q. c.if-byte_at-ne98.true (c.byte_at.ensures ∙ q))

pub returns : goal.returns
returns c = rw c.then_some.ensures (by_test (nat_lt (c.args.at + 2) c.digits_end-e.result) refl)
  where
    by_test : (b : Bool) → nat_lt (c.args.at + 2) c.digits_end-e.result ≡ b → (D : Declarations) → HeadAt c.args.s.now D c.args.at (then_some b (Constant c.digits_end-e.result))
    by_test true t = constant-head c.args.s.now c.args.at c.digits_end-e.result c.requires (sym c.byte_at.ensures ∙ c.if-byte_at-ne98.false) c.digits_end-e.ensures (ltb-true (c.args.at + 2) c.digits_end-e.result t) (omega (arith, c.digits_end-e.ensures.high))
    by_test false f = no-digits c.args.s.now c.args.at c.digits_end-e.result c.requires (sym c.byte_at.ensures ∙ c.if-byte_at-ne98.false) c.digits_end-e.ensures (omega (arith, c.digits_end-e.ensures.low, ltb-false (c.args.at + 2) c.digits_end-e.result f))
