use Prim.Native.Nat.{◌+◌, ◌-◌}
use Rattle.echo_bytes.specs.Page.{page}
use Rattle.echo_walk.specs.Texts.{levels_text, args_text}
use Rattle.echo_walk.specs.Walks.{problem_in, text_at}
use Rattle.echo_walk.proofs.Laws.{μ, Begun}
use Rattle.echo_walk.proofs.Walk.+walk.Given as goal

abbrev pub decreases-echo_operand : goal.decreases-echo_operand
decreases-echo_operand l = μ l.x 4

abbrev pub decreases-echo_levels : goal.decreases-echo_levels
decreases-echo_levels l = μ l.lim 2

abbrev pub decreases-echo_args : goal.decreases-echo_args
decreases-echo_args l = μ l.lim 0

abbrev pub decreases-echo_node : goal.decreases-echo_node
decreases-echo_node l = μ l.i 3

abbrev pub decreases-echo_one : goal.decreases-echo_one
decreases-echo_one l = μ l.lim 0

abbrev pub decreases-echo_two : goal.decreases-echo_two
decreases-echo_two l = μ l.lim 1

abbrev pub invariant-echo_levels-loop-left : goal.invariant-echo_levels-loop-left
invariant-echo_levels-loop-left l = Begun (levels_text (text_at l.self) (problem_in l.self).side l.s l.n) (levels_text (text_at l.self) (problem_in l.self).side l.s l.left) (page l.initial.q l.initial.out) (page l.q l.out)

abbrev pub invariant-echo_args-loop-x : goal.invariant-echo_args-loop-x
invariant-echo_args-loop-x l = Begun (args_text (text_at l.self) (problem_in l.self).side l.s l.n) (args_text (text_at l.self) (problem_in l.self).side (l.s + l.x-index) (l.n - l.x-index)) (page l.initial.q l.initial.out) (page l.q l.out)
