-- `echo_tables::args_match` meets its contract: the tests in the order of the definition. Assumes nothing.
use Rattle.lent.specs.Records.{node_of}
use Rattle.echo_tables.specs.Steps.{match-count, match-own, match-first, match-long, match-widths}
use Rattle.echo_tables.proofs.args_match.Goals as goal

pub returns-then-f-n : goal.returns-then-f-n
returns-then-f-n c = match-count _ _ (node_of c.args.n) (node_of c.args.f) c.if-f-n.true

pub returns-in_default : goal.returns-in_default
returns-in_default c = match-own _ _ (node_of c.args.n) (node_of c.args.f) c.if-f-n.false c.in_default.ensures

pub returns-in_default-arguments : goal.returns-in_default-arguments
returns-in_default-arguments c =
    match-first _ _ (node_of c.args.n) (node_of c.args.f) c.if-f-n.false c.in-Some.ensures c.in_default-arguments.ensures

pub same_widths-requires : goal.same_widths-requires
same_widths-requires c =
    match-long c.args.ws.now _ (node_of c.args.n) (node_of c.args.f) c.if-f-n.false c.in-Some.ensures c.in-Some-arguments.ensures

pub returns : goal.returns
returns c =
    match-widths _ _ (node_of c.args.n) (node_of c.args.f) c.if-f-n.false c.in-Some.ensures c.in-Some-arguments.ensures c.same_widths.ensures
