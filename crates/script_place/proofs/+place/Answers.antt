-- `place` and `place_term` meet their contract, by the laws of `Going` and `Turning`. The measure is what is left of the script, and `place` stands above `place_term` there; at each turn of the loop the operands up to the place reached are placed.
use Rattle.std.proofs.Common.{◌≡◌, ℕ, refl, ap, [], subst, arith, Option, Some, None, Ok, Err}
use Rattle.std.specs.Option.{ok_or}
use Rattle.std.proofs.lemmas.Result.{err_from_is_err_and}
use Rattle.heap_laws.specs.Within.{within-parts}
use Rattle.script_terms.specs.TurnLaws.{held-usable, next-to}
use Rattle.script_place.specs.declared.Unread.TheVariants.{NoScript, Limit}
use Rattle.script_place.specs.Terms.{BegunTo}
use Rattle.script_place.specs.Going.{open-opens, done_at, nothing-at, deep-at}
use Rattle.script_place.specs.Loop.{alone-ending}
use Rattle.script_place.specs.Turning.{ready-pushable, alone_at, turning-start, asking, turn-not, turn-over, turn-next, end_none, end-low, end-closes, end-placed}
use Rattle.reading.specs.Trees.{Declarations}
use Rattle.script_entries.specs.declared.Script.{Script}
use Rattle.script_entries.specs.Entries.{Declares}
use Rattle.script_heads.specs.declared.Head.{Head}
use Rattle.script_heads.specs.Heads.{HeadAt}
use Rattle.script_place.specs.declared.Unread.{Unread}
use Rattle.script_place.proofs.+place.Goals as goal

refused : (o : Option Head) (e : Unread) → Err e ≡ ok_or o NoScript → (o ≡ None) × (e ≡ NoScript)
refused None e q = (refl, cc)
refused (Some k) e q = absurd (let z : ⊥ = cc in z)

told : (script : Script) (at : ℕ) {r : Option Head} {x : Head} → r ≡ Some x → ((D : Declarations) → Declares script D → HeadAt script.text.now D at r)
    → (D : Declarations) → Declares script D → HeadAt script.text.now D at (Some x)
told script at e h = subst (λ (o : Option Head). (D : Declarations) → Declares script D → HeadAt script.text.now D at o) e h

pub place_term-head_at-requires : goal.place_term-head_at-requires
place_term-head_at-requires t c = (c.requires.0, c.requires.1)

pub place_term-begin-requires : goal.place_term-begin-requires
place_term-begin-requires t c = (c.args.script.now.text.now, c.requires.0, (told c.args.script.now c.args.at c.in_ok-x.ensures.ok_part c.head_at.ensures) c.requires.0 c.requires.1)

pub place_term-returns-in_err-x : goal.place_term-returns-in_err-x
place_term-returns-in_err-x t c =
    let p = err_from_is_err_and c.from_residual.result c.from_residual.ensures.1 in
    let q = refused c.head_at.result _ c.in_err-x.ensures.value in
    rw (p.1, p.2, q.1)
    (nothing-at (subst (λ (o : Option Head). (D : Declarations) → Declares c.args.script.now D → HeadAt c.args.script.now.text.now D c.args.at o) q.0 c.head_at.ensures))

pub place_term-end_call-requires : goal.place_term-end_call-requires
place_term-end_call-requires t c = (c.requires.2.items, c.requires.2.refs, [], alone-ending c.requires.2)

pub place_term-overflow_add-heap : goal.place_term-overflow_add-heap
place_term-overflow_add-heap t c =
    let b = (within-parts c.requires.2.items c.requires.2.held.inside).nodes in
    let d = c.requires.2.held.count in
    let f = c.requires.2.few in
    omega arith

pub place_term-returns-then-heap-levels-ge-MAX_NODES : goal.place_term-returns-then-heap-levels-ge-MAX_NODES
place_term-returns-then-heap-levels-ge-MAX_NODES t c = deep-at c.in_ok-x.x (told c.args.script.now c.args.at c.in_ok-x.ensures.ok_part c.head_at.ensures) (open-opens c.args.at c.in_ok-x.x (subst (BegunTo c.in_ok-x.x c.args.at) c.in-Open.is c.begin.ensures)) c.if-heap-levels-ge-MAX_NODES.true

pub place_term-head_state-o-requires : goal.place_term-head_state-o-requires
place_term-head_state-o-requires t c = (c.args.script.now.text.now, c.requires.0, (told c.args.script.now c.args.at c.in_ok-x.ensures.ok_part c.head_at.ensures) c.requires.0 c.requires.1)

pub place_term-loop-heap-init : goal.place_term-loop-heap-init
place_term-loop-heap-init t c =
    let h = c.default-v.ensures in
    let e : c.default-v.result ≡ record { first = None; second = None } = λ i. record { first = h.0 i; second = h.1 i } in
    rw e
    (turning-start c.requires.1 c.requires.2 c.in_ok-x.x (told c.args.script.now c.args.at c.in_ok-x.ensures.ok_part c.head_at.ensures) (open-opens c.args.at c.in_ok-x.x (subst (BegunTo c.in_ok-x.x c.args.at) c.in-Open.is c.begin.ensures)) c.head_state-o.result
    c.if-heap-levels-ge-MAX_NODES.false c.head_state-o.ensures.1 c.head_state-o.ensures.0)

pub place_term-more-requires : goal.place_term-more-requires
place_term-more-requires t c = ((c.loop-heap.invariant.reads c.requires.0 c.requires.1).high, held-usable (c.loop-heap.invariant.reads c.requires.0 c.requires.1).held)

pub place_term-place-requires : goal.place_term-place-requires
place_term-place-requires t c = (
  (let b = (asking c.loop-heap.invariant (next-to c.more.ensures) c.loop-heap-test.true c.requires.0 c.requires.1).low in let d = (asking c.loop-heap.invariant (next-to c.more.ensures) c.loop-heap-test.true c.requires.0 c.requires.1).high in omega arith),
  (c.loop-heap.invariant.ready.declarations, c.loop-heap.invariant.ready.known, c.loop-heap.invariant.ready.state),
)

pub place_term-returns-in_err-z-in-Open : goal.place_term-returns-in_err-z-in-Open
place_term-returns-in_err-z-in-Open t c =
    let p = err_from_is_err_and c.from_residual-in_err-z-in-Open.result c.from_residual-in_err-z-in-Open.ensures.1 in
    rw (p.1, p.2) (turn-not c.loop-heap.invariant (next-to c.more.ensures) c.loop-heap-test.true _ c.in_err-z-in-Open.ensures)

pub place_term-pushed-requires : goal.place_term-pushed-requires
place_term-pushed-requires t c = ready-pushable c.loop-heap.invariant.ready c.in_ok-z-in-Open.z c.in_ok-z-in-Open.ensures

pub place_term-returns-in_err-pushed-in-Open : goal.place_term-returns-in_err-pushed-in-Open
place_term-returns-in_err-pushed-in-Open t c =
    let p = err_from_is_err_and c.from_residual-in_err-pushed-in-Open.result c.from_residual-in_err-pushed-in-Open.ensures.1 in
    rw (p.1, p.2) (turn-over c.loop-heap.invariant (next-to c.more.ensures) c.loop-heap-test.true c.in_ok-z-in-Open.ensures c.pushed.new.heap _ c.in_err-pushed-in-Open.ensures)

pub place_term-step-requires : goal.place_term-step-requires
place_term-step-requires t c = ((asking c.loop-heap.invariant (next-to c.more.ensures) c.loop-heap-test.true c.requires.0 c.requires.1).state, (asking c.loop-heap.invariant (next-to c.more.ensures) c.loop-heap-test.true c.requires.0 c.requires.1).held)

pub place_term-loop-heap-smaller : goal.place_term-loop-heap-smaller
place_term-loop-heap-smaller t c = let a = (turn-next c.loop-heap.invariant (next-to c.more.ensures) c.loop-heap-test.true c.in_ok-z-in-Open.ensures c.pushed.new.heap tt c.in_ok-pushed-in-Open.ensures c.one_more-v.ensures c.step.ensures) in omega (arith, a.1, a.2)

pub place_term-loop-heap-preserved : goal.place_term-loop-heap-preserved
place_term-loop-heap-preserved t c = (turn-next c.loop-heap.invariant (next-to c.more.ensures) c.loop-heap-test.true c.in_ok-z-in-Open.ensures c.pushed.new.heap tt c.in_ok-pushed-in-Open.ensures c.one_more-v.ensures c.step.ensures).0

pub place_term-returns-in-Done : goal.place_term-returns-in-Done
place_term-returns-in-Done t c = done_at c.in_ok-x.x (told c.args.script.now c.args.at c.in_ok-x.ensures.ok_part c.head_at.ensures) c.in-Done.p (subst (BegunTo c.in_ok-x.x c.args.at) c.in-Done.is c.begin.ensures)

pub place_term-returns-in_err-node-in-Nullary : goal.place_term-returns-in_err-node-in-Nullary
place_term-returns-in_err-node-in-Nullary t c =
    let p = err_from_is_err_and c.from_residual-in_err-node-in-Nullary.result c.from_residual-in_err-node-in-Nullary.ensures.1 in
    rw (p.1, p.2)
    (alone_at c.in_ok-x.x c.in-Nullary.c (told c.args.script.now c.args.at c.in_ok-x.ensures.ok_part c.head_at.ensures) (subst (BegunTo c.in_ok-x.x c.args.at) c.in-Nullary.is c.begin.ensures)
    (Err c.in_err-node-in-Nullary.field-0.0) (Err Limit) c.in_err-node-in-Nullary.ensures refl)

pub place_term-returns-in_ok-node-in-Nullary : goal.place_term-returns-in_ok-node-in-Nullary
place_term-returns-in_ok-node-in-Nullary t c =
    alone_at c.in_ok-x.x c.in-Nullary.c (told c.args.script.now c.args.at c.in_ok-x.ensures.ok_part c.head_at.ensures) (subst (BegunTo c.in_ok-x.x c.args.at) c.in-Nullary.is c.begin.ensures)
    (Ok c.in_ok-node-in-Nullary.node) (Ok c.placed_at.result) c.in_ok-node-in-Nullary.ensures (ap Ok c.placed_at.ensures)

pub place_term-returns-in_default : goal.place_term-returns-in_default
place_term-returns-in_default t c = end_none c.loop-heap.invariant (next-to c.more.ensures) c.loop-heap-test.false c.in_default.not-Done

pub place_term-overflow_sub-e : goal.place_term-overflow_sub-e
place_term-overflow_sub-e t c = end-low c.loop-heap.invariant (next-to c.more.ensures) c.loop-heap-test.false c.in-Done-w.field-0 c.in-Done-w.is c.requires.0 c.requires.1

pub place_term-closed-requires : goal.place_term-closed-requires
place_term-closed-requires t c = end-closes c.loop-heap.invariant (next-to c.more.ensures) c.loop-heap-test.false c.in-Done-w.field-0 c.in-Done-w.is c.requires.1 c.requires.2

pub place_term-returns-in-Done-w : goal.place_term-returns-in-Done-w
place_term-returns-in-Done-w t c = end-placed c.loop-heap.invariant (next-to c.more.ensures) c.loop-heap-test.false c.in-Done-w.field-0 c.in-Done-w.is c.requires.1 c.requires.2 _ c.closed.result c.closed.ensures

pub place-returns : goal.place-returns
place-returns t c = c.place_term.ensures
