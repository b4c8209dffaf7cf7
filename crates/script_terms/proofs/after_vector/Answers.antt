-- `after_vector` meets its contract: one law for each state.
use Rattle.script_terms.specs.declared.TermState.TheVariants.{Binary, Concat, Extension, Comparison, Unary, Same, Joins, Chosen, Index, Value}
use Rattle.script_terms.specs.OperandLaws.{at-state, same-other, same-is, index-other, index-last, index-more, value-other, value-is, vector-binary, vector-concat, vector-extension, vector-comparison, vector-unary, vector-joins, vector-chosen, vector_else}
use Rattle.script_terms.proofs.after_vector.Goals as goal

pub returns-in-Binary : goal.returns-in-Binary
returns-in-Binary c = at-state Binary c.in-Binary.is (vector-binary c.args.m c.requires.0)

pub returns-in-Concat : goal.returns-in-Concat
returns-in-Concat c = at-state Concat c.in-Concat.is (vector-concat c.args.m)

pub returns-in-Extension : goal.returns-in-Extension
returns-in-Extension c = at-state (Extension c.in-Extension.n) c.in-Extension.is (vector-extension c.args.m c.in-Extension.n c.joined.ensures)

pub returns-in-Comparison : goal.returns-in-Comparison
returns-in-Comparison c = at-state Comparison c.in-Comparison.is (vector-comparison c.args.m)

pub returns-in-Unary : goal.returns-in-Unary
returns-in-Unary c = at-state Unary c.in-Unary.is (vector-unary c.args.m c.requires.0)

pub returns-then-width-m : goal.returns-then-width-m
returns-then-width-m c = at-state (Same c.in-Same.width c.in-Same.sort) c.in-Same.is (same-is c.args.m c.in-Same.width c.in-Same.sort c.if-width-m.true)

pub returns-else-width-m : goal.returns-else-width-m
returns-else-width-m c = at-state (Same c.in-Same.width c.in-Same.sort) c.in-Same.is (same-other c.args.m c.in-Same.width c.in-Same.sort c.if-width-m.false)

pub returns-in-Joins : goal.returns-in-Joins
returns-in-Joins c = at-state (Joins c.in-Joins.n) c.in-Joins.is (vector-joins c.args.m c.in-Joins.n c.joined-in-Joins.ensures)

pub returns-in-Chosen : goal.returns-in-Chosen
returns-in-Chosen c = at-state Chosen c.in-Chosen.is (vector-chosen c.args.m c.requires.0)

pub returns-then-x-m : goal.returns-then-x-m
returns-then-x-m c = at-state (Index c.in-Index.x) c.in-Index.is (index-other c.args.m c.in-Index.x c.if-x-m.true)

pub returns-then-x-eq0 : goal.returns-then-x-eq0
returns-then-x-eq0 c = at-state (Index c.in-Index.x) c.in-Index.is (index-last c.args.m c.in-Index.x c.if-x-m.false c.if-x-eq0.true)

pub returns-else-x-eq0 : goal.returns-else-x-eq0
returns-else-x-eq0 c = at-state (Index c.in-Index.x) c.in-Index.is (index-more c.args.m c.in-Index.x c.if-x-m.false c.if-x-eq0.false)

pub returns-then-x-m-2 : goal.returns-then-x-m-2
returns-then-x-m-2 c = at-state (Value c.in-Value.x) c.in-Value.is (value-is c.args.m c.in-Value.x c.if-x-m-2.true)

pub returns-else-x-m-2 : goal.returns-else-x-m-2
returns-else-x-m-2 c = at-state (Value c.in-Value.x) c.in-Value.is (value-other c.args.m c.in-Value.x c.if-x-m-2.false)

pub returns-in_default : goal.returns-in_default
returns-in_default c =
    let n = c.in_default in
    vector_else c.args.w n.not-Binary n.not-Rotation n.not-Extraction n.not-Concat n.not-Extension n.not-Comparison n.not-Unary n.not-Same n.not-Joins n.not-Chosen c.requires.1 n.not-Index n.not-Value c.args.m
