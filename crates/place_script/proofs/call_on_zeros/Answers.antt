-- `call_on_zeros` meets its contract: at each turn the arguments before the place reached have their nodes and wait.
use Rattle.std.proofs.Common.{length, map, refl, arith, Ok, Err}
use Rattle.std.proofs.lemmas.Result.{err_from_is_err_and}
use Rattle.readback.specs.Rebuild.{here}
use Rattle.script_heap.specs.Laws.{told-own, held-own}
use Rattle.place_script.specs.Zeros.{zeroing-start, now, place-low, top-low, argument-on, zero-over, zero-small, zero-next, zero-full, zero-nodes, zero-stack, zeros-called}
use Rattle.place_script.proofs.call_on_zeros.Goals as goal

pub loop-x-init : goal.loop-x-init
loop-x-init c = λ ws first x h k. zeroing-start x h k

pub next_argument-requires : goal.next_argument-requires
next_argument-requires c = place-low (c.loop-x.invariant c.requires.0 c.requires.1.0 c.requires.1.1 c.requires.1.2 c.requires.1.3)

pub settle_number-requires : goal.settle_number-requires
settle_number-requires c = (now (c.loop-x.invariant c.requires.0 c.requires.1.0 c.requires.1.1 c.requires.1.2 c.requires.1.3), (c.loop-x.invariant c.requires.0 c.requires.1.0 c.requires.1.1 c.requires.1.2 c.requires.1.3).held)

pub returns-in_err-m : goal.returns-in_err-m
returns-in_err-m c =
    λ ws first x h k. rw (err_from_is_err_and c.from_residual.result c.from_residual.ensures.1).1 (zero-over (c.loop-x.invariant ws first x h k) c.next_argument.result (c.next_argument.ensures (c.loop-x.invariant ws first x h k).left (c.loop-x.invariant ws first x h k).sorts) c.in-Some.x.value c.in-Some.x.end c.in-Some.is c.settle_number.new.heap c.settle_number.result (c.settle_number.ensures (now (c.loop-x.invariant ws first x h k)) (c.loop-x.invariant ws first x h k).held) c.args.g c.args.width _ c.in_err-m.was)

pub push_node-requires : goal.push_node-requires
push_node-requires c = let l = zero-small (c.loop-x.invariant c.requires.0 c.requires.1.0 c.requires.1.1 c.requires.1.2 c.requires.1.3) c.next_argument.result (c.next_argument.ensures (c.loop-x.invariant c.requires.0 c.requires.1.0 c.requires.1.1 c.requires.1.2 c.requires.1.3).left (c.loop-x.invariant c.requires.0 c.requires.1.0 c.requires.1.1 c.requires.1.2 c.requires.1.3).sorts) c.in-Some.x.value c.in-Some.x.end c.in-Some.is c.settle_number.new.heap c.settle_number.result (c.settle_number.ensures (now (c.loop-x.invariant c.requires.0 c.requires.1.0 c.requires.1.1 c.requires.1.2 c.requires.1.3)) (c.loop-x.invariant c.requires.0 c.requires.1.0 c.requires.1.1 c.requires.1.2 c.requires.1.3).held) c.in_ok-m.m c.in_ok-m.was in omega arith

pub returns-in_err-push_node : goal.returns-in_err-push_node
returns-in_err-push_node c =
    λ ws first x h k. rw (err_from_is_err_and c.from_residual-in_err-push_node.result c.from_residual-in_err-push_node.ensures.1).1 (zero-full (c.loop-x.invariant ws first x h k) c.next_argument.result (c.next_argument.ensures (c.loop-x.invariant ws first x h k).left (c.loop-x.invariant ws first x h k).sorts) c.in-Some.x.value c.in-Some.x.end c.in-Some.is c.settle_number.new.heap c.settle_number.result (c.settle_number.ensures (now (c.loop-x.invariant ws first x h k)) (c.loop-x.invariant ws first x h k).held) c.in_ok-m.m c.in_ok-m.was
    c.push_node.new.heap (λ t l. held-own c.settle_number.new.heap c.push_node.new.heap t c.push_node.ensures.same.0 c.push_node.ensures.same.1 (c.push_node.ensures.held _ _ t l)) c.push_node.result (λ t script. c.push_node.ensures.pushed script c.settle_number.new.heap.records c.settle_number.new.heap.bits t) c.args.g c.args.width _ c.in_err-push_node.was)

pub loop-x-smaller : goal.loop-x-smaller
loop-x-smaller c = let l = argument-on (c.loop-x.invariant c.requires.0 c.requires.1.0 c.requires.1.1 c.requires.1.2 c.requires.1.3) c.next_argument.result (c.next_argument.ensures (c.loop-x.invariant c.requires.0 c.requires.1.0 c.requires.1.1 c.requires.1.2 c.requires.1.3).left (c.loop-x.invariant c.requires.0 c.requires.1.0 c.requires.1.1 c.requires.1.2 c.requires.1.3).sorts) c.in-Some.x.value c.in-Some.x.end c.in-Some.is in omega (arith, l.0, l.1)

pub loop-x-preserved : goal.loop-x-preserved
loop-x-preserved c =
    λ ws first x h k. zero-next (c.loop-x.invariant ws first x h k) c.next_argument.result (c.next_argument.ensures (c.loop-x.invariant ws first x h k).left (c.loop-x.invariant ws first x h k).sorts) c.in-Some.x.value c.in-Some.x.end c.in-Some.is c.settle_number.new.heap c.settle_number.result (c.settle_number.ensures (now (c.loop-x.invariant ws first x h k)) (c.loop-x.invariant ws first x h k).held) c.in_ok-m.m c.in_ok-m.was
    c.push_node.new.heap (λ t l. held-own c.settle_number.new.heap c.push_node.new.heap t c.push_node.ensures.same.0 c.push_node.ensures.same.1 (c.push_node.ensures.held _ _ t l)) c.push_node.result (λ t script. c.push_node.ensures.pushed script c.settle_number.new.heap.records c.settle_number.new.heap.bits t) _ c.in_ok-push_node.was

pub add_call-requires : goal.add_call-requires
add_call-requires c = record { holds = (c.loop-x.heap.bits, (now (c.loop-x.invariant c.requires.0 c.requires.1.0 c.requires.1.1 c.requires.1.2 c.requires.1.3), (c.loop-x.invariant c.requires.0 c.requires.1.0 c.requires.1.1 c.requires.1.2 c.requires.1.3).held)); low = omega arith; room = top-low (c.loop-x.invariant c.requires.0 c.requires.1.0 c.requires.1.1 c.requires.1.2 c.requires.1.3) }

pub returns-in_err-add_call : goal.returns-in_err-add_call
returns-in_err-add_call c =
    λ ws first x h k. rw (err_from_is_err_and c.from_residual-in_err-add_call.result c.from_residual-in_err-add_call.ensures.1).1 (zeros-called (c.loop-x.invariant ws first x h k) c.next_argument.result (c.next_argument.ensures (c.loop-x.invariant ws first x h k).left (c.loop-x.invariant ws first x h k).sorts) c.in_default.is c.args.g c.args.width c.add_call.new.heap (Err c.in_err-add_call.field-0.0) (told-own c.loop-x.heap c.add_call.new.heap 0 _ (length (now (c.loop-x.invariant ws first x h k))) (Err c.in_err-add_call.field-0.0) c.add_call.ensures.bits (c.in_err-add_call.ensures.told c.loop-x.heap.bits (now (c.loop-x.invariant ws first x h k)) c.args.s.now (map here (zero-nodes (c.loop-x.invariant ws first x h k) c.next_argument.result (c.next_argument.ensures (c.loop-x.invariant ws first x h k).left (c.loop-x.invariant ws first x h k).sorts) c.in_default.is)) (zero-nodes (c.loop-x.invariant ws first x h k) c.next_argument.result (c.next_argument.ensures (c.loop-x.invariant ws first x h k).left (c.loop-x.invariant ws first x h k).sorts) c.in_default.is) (c.loop-x.invariant ws first x h k).held (zero-stack (c.loop-x.invariant ws first x h k) c.next_argument.result (c.next_argument.ensures (c.loop-x.invariant ws first x h k).left (c.loop-x.invariant ws first x h k).sorts) c.in_default.is) refl)))

pub returns : goal.returns
returns c = λ ws first x h k. zeros-called (c.loop-x.invariant ws first x h k) c.next_argument.result (c.next_argument.ensures (c.loop-x.invariant ws first x h k).left (c.loop-x.invariant ws first x h k).sorts) c.in_default.is c.args.g c.args.width c.add_call.new.heap (Ok _) (told-own c.loop-x.heap c.add_call.new.heap 0 _ _ (Ok _) c.add_call.ensures.bits (c.in_ok-add_call.ensures.told c.loop-x.heap.bits (now (c.loop-x.invariant ws first x h k)) c.args.s.now (map here (zero-nodes (c.loop-x.invariant ws first x h k) c.next_argument.result (c.next_argument.ensures (c.loop-x.invariant ws first x h k).left (c.loop-x.invariant ws first x h k).sorts) c.in_default.is)) (zero-nodes (c.loop-x.invariant ws first x h k) c.next_argument.result (c.next_argument.ensures (c.loop-x.invariant ws first x h k).left (c.loop-x.invariant ws first x h k).sorts) c.in_default.is) (c.loop-x.invariant ws first x h k).held (zero-stack (c.loop-x.invariant ws first x h k) c.next_argument.result (c.next_argument.ensures (c.loop-x.invariant ws first x h k).left (c.loop-x.invariant ws first x h k).sorts) c.in_default.is) refl))
