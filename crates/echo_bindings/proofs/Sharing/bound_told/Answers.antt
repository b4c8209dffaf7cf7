-- `bound_told` meets its contract. Assumes nothing.
use Rattle.std.proofs.Common.{arith, refl, ◌∙◌, length}
use Rattle.std.proofs.lemmas.List.{length-take-le}
use Rattle.lets.specs.Lets.{binds}
use Rattle.lent.specs.Lent.{dag_at}
use Rattle.echo_bindings.specs.Checking.{uses_at, few-widths, flags-front, by-marks, past-nodes}
use Rattle.echo_bindings.proofs.Sharing.bound_told.Goals as goal

pub returns-then-root-n : goal.returns-then-root-n
returns-then-root-n c = past-nodes c.args.self.now.known c.args.root (omega (arith, c.if-root-n.true))

pub shared_ref_as_front-first : goal.shared_ref_as_front-first
shared_ref_as_front-first c = few-widths c.args.self.now.known

pub returns : goal.returns
returns c =
    let s = c.args.self.now in
    let b = binds (dag_at s.problem.now) (uses_at s.problem.now) c.args.root in
    c.first_told.ensures ∙ by-marks s.known c.requires b (flags-front s.known c.args.root (length s.widths.now) refl c.bound_nodes.ensures refl) (length-take-le _ _ (omega (arith, few-widths s.known, c.bound_nodes.array_long)))
