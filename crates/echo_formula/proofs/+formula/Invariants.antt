use lib.ListN.{drop}
use Rattle.echo_bytes.specs.Page.{page}
use Rattle.echo_walk.specs.Walks.{problem_in}
use Rattle.echo_walk.proofs.Laws.{μ, Begun}
use Rattle.echo_pieces.specs.Signs.{level_of}
use Rattle.echo_pieces.specs.Pieces.{chain_pieces, arg_pieces, pieces_of}
use Rattle.echo_formula.specs.Texts.{form_at, list_text, operands_text}
use Rattle.echo_formula.proofs.+formula.Given as goal

abbrev pub decreases-formula_infix : goal.decreases-formula_infix
decreases-formula_infix l = μ l.i 0

abbrev pub decreases-formula_last : goal.decreases-formula_last
decreases-formula_last l = μ l.lim 0

abbrev pub decreases-formula_chain : goal.decreases-formula_chain
decreases-formula_chain l = μ l.lim 0

abbrev pub decreases-formula_args : goal.decreases-formula_args
decreases-formula_args l = μ l.lim 0

abbrev pub decreases-formula_operands : goal.decreases-formula_operands
decreases-formula_operands l = μ l.i 0

abbrev pub decreases-formula_other : goal.decreases-formula_other
decreases-formula_other l = μ l.i 1

abbrev pub decreases-formula_prefix : goal.decreases-formula_prefix
decreases-formula_prefix l = μ l.i 1

abbrev pub decreases-formula_named : goal.decreases-formula_named
decreases-formula_named l = μ l.i 3

abbrev pub decreases-formula_term : goal.decreases-formula_term
decreases-formula_term l = μ l.i 3

abbrev pub decreases-formula_node : goal.decreases-formula_node
decreases-formula_node l = μ l.i 4

abbrev pub invariant-formula_chain-loop-left : goal.invariant-formula_chain-loop-left
invariant-formula_chain-loop-left l = Begun (list_text l.walk (chain_pieces (problem_in l.walk).side l.j l.s l.n)) (list_text l.walk (chain_pieces (problem_in l.walk).side l.j l.s l.left)) (page l.initial.q l.initial.out) (page l.q l.out)

abbrev pub invariant-formula_args-loop-k : goal.invariant-formula_args-loop-k
invariant-formula_args-loop-k l = Begun (list_text l.walk (arg_pieces (problem_in l.walk).side l.s l.n)) (list_text l.walk (drop l.k (arg_pieces (problem_in l.walk).side l.s l.n))) (page l.initial.q l.initial.out) (page l.q l.out)

abbrev pub invariant-formula_operands-loop-k : goal.invariant-formula_operands-loop-k
invariant-formula_operands-loop-k l = Begun (operands_text l.walk l.kind (pieces_of (level_of l.kind) (problem_in l.walk).side (form_at l.walk l.i))) (operands_text l.walk l.kind (drop l.k (pieces_of (level_of l.kind) (problem_in l.walk).side (form_at l.walk l.i)))) (page l.initial.q l.initial.out) (page l.q l.out)
