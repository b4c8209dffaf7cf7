-- `step` meets its contract: a Bool, a bit-vector, or an argument of a call.
use Rattle.script_terms.specs.TurnLaws.{came-bool, call-past, call-other, call-on}
use Rattle.script_terms.proofs.step.Goals as goal

pub returns-then-n-eq0 : goal.returns-then-n-eq0
returns-then-n-eq0 c = λ q h. came-bool c.args.s.now c.args.w.now q h c.args.n c.after_bool.result c.if-n-eq0.true c.after_bool.ensures

pub next_argument-requires : goal.next_argument-requires
next_argument-requires c = (c.requires.1.call _ _ c.in-Arguments.is).begin

pub returns-in-None : goal.returns-in-None
returns-in-None c = λ q h. call-past c.args.s.now c.args.w.now q h c.in-Arguments.is c.args.n c.if-n-eq0.false (c.in-None.ensures h.sorts (h.call _ _ c.in-Arguments.is))

pub returns-else-a-n : goal.returns-else-a-n
returns-else-a-n c = λ q h. call-other c.args.s.now c.args.w.now q h c.in-Arguments.is c.args.n c.if-n-eq0.false c.in-Some.a (c.in-Some.ensures h.sorts (h.call _ _ c.in-Arguments.is)) c.if-a-n.false

pub returns-then-a-n : goal.returns-then-a-n
returns-then-a-n c = λ q h. call-on c.args.s.now c.args.w.now q h c.in-Arguments.is c.args.n c.if-n-eq0.false c.in-Some.a (c.in-Some.ensures h.sorts (h.call _ _ c.in-Arguments.is)) c.if-a-n.true
