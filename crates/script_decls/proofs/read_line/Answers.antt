-- `read_line` meets its contract, a step at a time.
use Rattle.script_decls.specs.Lines.{stage_number}
use Rattle.script_decls.specs.Going.{named-of, line-no-head, line-no-name, line-no-tail, line-whole}
use Rattle.script_decls.proofs.read_line.Goals as goal

pub returns-in_err-name-clause-line : goal.returns-in_err-name-clause-line
returns-in_err-name-clause-line c = rw c.from_residual.ensures (line-no-head (stage_number c.args.stage) c.args.s.now c.args.at c.in_err-name.ensures)

pub returns-in_err-name_end-clause-line : goal.returns-in_err-name_end-clause-line
returns-in_err-name_end-clause-line c = rw c.from_residual-in_err-name_end.ensures (line-no-name (stage_number c.args.stage) c.args.s.now c.args.at c.in_ok-name.name c.in_ok-name.ensures.1 c.in_err-name_end.ensures)

pub returns-in_err-rest-clause-line : goal.returns-in_err-rest-clause-line
returns-in_err-rest-clause-line c = rw c.from_residual-in_err-rest.ensures (line-no-tail (stage_number c.args.stage) c.args.s.now c.args.at c.in_ok-name.name c.in_ok-name.ensures.1 c.in_ok-name_end.name_end (named-of c.args.s.now c.in_ok-name.name c.in_ok-name_end.ensures) c.in_err-rest.ensures)

pub returns-clause-line : goal.returns-clause-line
returns-clause-line c = line-whole (stage_number c.args.stage) c.args.s.now c.args.at c.in_ok-name.name c.in_ok-name.ensures.1 c.in_ok-name_end.name_end (named-of c.args.s.now c.in_ok-name.name c.in_ok-name_end.ensures) c.in_ok-rest.rest.end c.requires c.in_ok-rest.ensures.0

pub returns-in_err-name-clause-told : goal.returns-in_err-name-clause-told
returns-in_err-name-clause-told c = rw c.from_residual.ensures tt

pub returns-in_err-name_end-clause-told : goal.returns-in_err-name_end-clause-told
returns-in_err-name_end-clause-told c = rw c.from_residual-in_err-name_end.ensures tt

pub returns-in_err-rest-clause-told : goal.returns-in_err-rest-clause-told
returns-in_err-rest-clause-told c = rw c.from_residual-in_err-rest.ensures tt

pub returns-clause-told : goal.returns-clause-told
returns-clause-told c = c.in_ok-rest.ensures.1
