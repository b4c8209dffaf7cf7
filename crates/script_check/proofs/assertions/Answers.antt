-- `assertions` meets its contract: at each turn n assertions are read, each a Bool, and the place is after them.
use Rattle.std.specs.Prelude.{ℕ, List, Bool, true, false}
use Rattle.std.specs.Bool.{then_some}
use Rattle.std.proofs.Common.{arith, sym, subst, drop}
use Rattle.reading.specs.Trees.{Declarations}
use Rattle.lists.specs.Bytes.{bytes}
use Rattle.script_check.specs.Check.{BodyTo, EndsTo}
use Rattle.script_check.specs.Steps.{no_word, going_start}
use Rattle.script_check.specs.Turns.{turn-none, turn-bits, turn-open, turn-less, turn_more}
use Rattle.script_check.proofs.assertions.Goals as goal

pub loop-a-init : goal.loop-a-init
loop-a-init c = λ D κ. going_start c.args.script.now.text.now D c.args.from c.requires.1

pub literal-requires : goal.literal-requires
literal-requires c = (c.loop-a.invariant c.requires.0.0 c.requires.0.1).place

pub returns-in_err-term : goal.returns-in_err-term
unfolding bytes
returns-in_err-term c = rw c.from_residual.ensures (λ D κ. turn-none (c.loop-a.invariant D κ) c.in-Some.a c.in-Some.ensures.1 (c.in_err-term.ensures D κ))

pub returns-then-term-ne0 : goal.returns-then-term-ne0
unfolding bytes
returns-then-term-ne0 c = λ D κ. turn-bits (c.loop-a.invariant D κ) c.in-Some.a c.in-Some.ensures.1 c.in_ok-term.term (c.in_ok-term.ensures D κ) c.if-term-ne0.true

pub literal-requires-in-Some : goal.literal-requires-in-Some
literal-requires-in-Some c = (c.in_ok-term.ensures c.requires.0.0 c.requires.0.1).1

pub returns-in_err-z : goal.returns-in_err-z
unfolding bytes
returns-in_err-z c = rw c.from_residual-in_err-z.ensures (λ D κ. turn-open (c.loop-a.invariant D κ) c.in-Some.a c.in-Some.ensures.1 c.in_ok-term.term (c.in_ok-term.ensures D κ) c.if-term-ne0.false c.in_err-z.ensures)

pub overflow_add-n : goal.overflow_add-n
unfolding bytes
overflow_add-n c = omega (arith, (c.loop-a.invariant c.requires.0.0 c.requires.0.1).few, (c.loop-a.invariant c.requires.0.0 c.requires.0.1).place, (turn-less (c.loop-a.invariant c.requires.0.0 c.requires.0.1) c.in-Some.a c.in-Some.ensures.1 c.in_ok-term.term (c.in_ok-term.ensures c.requires.0.0 c.requires.0.1) c.in-Some.ensures.0 c.in_ok-z.z c.in_ok-z.ensures.0 c.in_ok-z.ensures.1), c.in_ok-z.ensures.0)

pub loop-a-smaller : goal.loop-a-smaller
unfolding bytes
loop-a-smaller c = omega (arith, (turn-less (c.loop-a.invariant c.requires.0.0 c.requires.0.1) c.in-Some.a c.in-Some.ensures.1 c.in_ok-term.term (c.in_ok-term.ensures c.requires.0.0 c.requires.0.1) c.in-Some.ensures.0 c.in_ok-z.z c.in_ok-z.ensures.0 c.in_ok-z.ensures.1), c.in_ok-z.ensures.0)

pub loop-a-preserved : goal.loop-a-preserved
unfolding bytes
loop-a-preserved c = λ D κ. turn_more (c.loop-a.invariant D κ) c.in-Some.a c.in-Some.ensures.1 c.in_ok-term.term (c.in_ok-term.ensures D κ) c.if-term-ne0.false c.in-Some.ensures.0 c.in_ok-z.z c.in_ok-z.ensures.0 c.in_ok-z.ensures.1

pub last_line-requires : goal.last_line-requires
last_line-requires c = (c.loop-a.invariant c.requires.0.0 c.requires.0.1).place

told : (s : List ℕ) (D : Declarations) (from n : ℕ) (b : Bool) → EndsTo s D from n b → BodyTo s D from (then_some b n)
told s D from n true x = x
told s D from n false x = x

pub returns : goal.returns
unfolding bytes
returns c = λ D κ.
    subst (BodyTo c.args.script.now.text.now D c.args.from) (sym c.then_some.ensures)
    (told c.args.script.now.text.now D c.args.from c.loop-a.n c.last_line.result (c.last_line.ensures D c.args.from c.loop-a.n c.requires.1 (c.loop-a.invariant D κ) (no_word D (drop c.loop-a.p c.args.script.now.text.now) c.in_default.ensures)))
