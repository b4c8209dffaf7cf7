-- `echo_tables::operands_told` meets its contract, arm by arm. Assumes nothing.
use Rattle.std.proofs.Common.{arith, refl, subst}
use Rattle.std.proofs.lemmas.Result.{err_from_is_err_and}
use Rattle.echo_tables.specs.declared.Form.TheVariants.{Leaf}
use Rattle.echo_tables.specs.Marks.{use_of}
use Rattle.echo_tables.specs.Uses.{FormInside, else_stops, else_goes, form-arm, form-arguments}
use Rattle.echo_tables.proofs.operands_told.Goals as goal

pub returns-in-Leaf : goal.returns-in-Leaf
returns-in-Leaf c = form-arm (use_of c.args.marks.now) c.args.side.now Leaf c.in-Leaf.is refl

pub returns-in-One : goal.returns-in-One
returns-in-One c = form-arm (use_of c.args.marks.now) c.args.side.now _ c.in-One.is c.use_of.ensures

pub returns-in_err-use_of-in-Two : goal.returns-in_err-use_of-in-Two
returns-in_err-use_of-in-Two c =
    let p = err_from_is_err_and c.from_residual.result c.from_residual.ensures.1 in
    rw (p.1, p.2) (form-arm (use_of c.args.marks.now) c.args.side.now _ c.in-Two.is (else_stops _ _ _ c.in_err-use_of-in-Two.ensures))

pub returns-in_ok-use_of-in-Two : goal.returns-in_ok-use_of-in-Two
returns-in_ok-use_of-in-Two c =
    form-arm (use_of c.args.marks.now) c.args.side.now _ c.in-Two.is (else_goes _ _ c.in_ok-use_of-in-Two.ensures c.use_of-in-Two-2.ensures)

pub returns-in_err-use_of-in-Choice : goal.returns-in_err-use_of-in-Choice
returns-in_err-use_of-in-Choice c =
    let p = err_from_is_err_and c.from_residual-in_err-use_of-in-Choice.result c.from_residual-in_err-use_of-in-Choice.ensures.1 in
    rw (p.1, p.2) (form-arm (use_of c.args.marks.now) c.args.side.now _ c.in-Choice.is (else_stops _ _ _ c.in_err-use_of-in-Choice.ensures))

pub returns-in_err-use_of-in-Choice-2 : goal.returns-in_err-use_of-in-Choice-2
returns-in_err-use_of-in-Choice-2 c =
    let p = err_from_is_err_and c.from_residual-in_err-use_of-in-Choice-2.result c.from_residual-in_err-use_of-in-Choice-2.ensures.1 in
    rw (p.1, p.2)
    (form-arm (use_of c.args.marks.now) c.args.side.now _ c.in-Choice.is
    (else_goes _ _ c.in_ok-use_of-in-Choice.ensures (else_stops _ _ _ c.in_err-use_of-in-Choice-2.ensures)))

pub returns-in_ok-use_of-in-Choice-2 : goal.returns-in_ok-use_of-in-Choice-2
returns-in_ok-use_of-in-Choice-2 c =
    form-arm (use_of c.args.marks.now) c.args.side.now _ c.in-Choice.is
    (else_goes _ _ c.in_ok-use_of-in-Choice.ensures (else_goes _ _ c.in_ok-use_of-in-Choice-2.ensures c.use_of-in-Choice-3.ensures))

pub pairs_told-requires : goal.pairs_told-requires
pairs_told-requires c = subst (FormInside c.args.side.now) c.in-Chain.is c.requires

pub returns-in_err-pairs_told-in-Chain : goal.returns-in_err-pairs_told-in-Chain
returns-in_err-pairs_told-in-Chain c =
    let p = err_from_is_err_and c.from_residual-in_err-pairs_told-in-Chain.result c.from_residual-in_err-pairs_told-in-Chain.ensures.1 in
    rw (p.1, p.2) (form-arm (use_of c.args.marks.now) c.args.side.now _ c.in-Chain.is (else_stops _ _ _ c.in_err-pairs_told-in-Chain.ensures))

pub returns-in_ok-pairs_told-in-Chain : goal.returns-in_ok-pairs_told-in-Chain
returns-in_ok-pairs_told-in-Chain c =
    form-arm (use_of c.args.marks.now) c.args.side.now _ c.in-Chain.is (else_goes _ _ c.in_ok-pairs_told-in-Chain.ensures c.use_of-in-Chain.ensures)

pub overflow_add-to : goal.overflow_add-to
overflow_add-to c = omega (arith, subst (FormInside c.args.side.now) c.in-Arguments.is c.requires)

pub offset_bounds-side-from : goal.offset_bounds-side-from
offset_bounds-side-from c = omega (arith, subst (FormInside c.args.side.now) c.in-Arguments.is c.requires)

pub slice_bounds-arguments_told-end : goal.slice_bounds-arguments_told-end
slice_bounds-arguments_told-end c = omega (arith, subst (FormInside c.args.side.now) c.in-Arguments.is c.requires)

pub returns-in-Arguments : goal.returns-in-Arguments
returns-in-Arguments c =
    form-arguments (use_of c.args.marks.now) c.args.side.now _ _ c.in-Arguments.is c.arguments_told.ensures
