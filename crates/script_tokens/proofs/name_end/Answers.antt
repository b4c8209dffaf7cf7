-- `name_end` meets its contract: the stretch up to the bar, and the bar.
use Rattle.std.specs.Bool.{then_some}
use Rattle.std.proofs.Common.{◌≡◌, ◌+◌, Bool, true, false, nat_lt, refl, arith, length, drop}
use Rattle.std.proofs.lemmas.Bool.{ltb-true, ltb-false}
use Rattle.readback.specs.Reader.{name_read}
use Rattle.script_tokens.specs.Reached.{NameTo}
use Rattle.script_tokens.specs.Stretches.{name-found, name-open}
use Rattle.script_tokens.proofs.name_end.Goals as goal

pub returns : goal.returns
returns c = rw c.then_some.ensures (by_test (nat_lt c.bar_at-e.result (length c.args.s.now)) refl)
  where
    by_test : (b : Bool) → nat_lt c.bar_at-e.result (length c.args.s.now) ≡ b → NameTo c.args.s.now c.args.at (name_read (drop c.args.at c.args.s.now)) (then_some b (c.bar_at-e.result + 1))
    by_test true t = name-found _ _ _ c.bar_at-e.ensures (ltb-true c.bar_at-e.result (length c.args.s.now) t)
    by_test false f = name-open _ _ _ c.bar_at-e.ensures (omega (arith, c.bar_at-e.ensures.high, ltb-false c.bar_at-e.result (length c.args.s.now) f))
