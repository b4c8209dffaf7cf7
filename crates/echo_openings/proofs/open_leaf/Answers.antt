use mathlib.Core.Path.{refl}
use Rattle.echo_walk.proofs.Heads.{shape-of, passed-as, constant-as, const-found}
use Rattle.echo_openings.proofs.Opening.{of-var, of-const}
use Rattle.echo_openings.proofs.open_leaf.Goals as goal

pub open_variable-requires : goal.open_variable-requires
open_variable-requires c = passed-as c.args.walk.now c.args.i c.requires.here c.requires.taken (shape-of c.args.walk.now c.args.i c.requires.here c.requires.taken c.mark.ensures c.in-Var.is)

pub open_constant-requires : goal.open_constant-requires
open_constant-requires c = constant-as c.args.walk.now c.args.i c.requires.here c.requires.taken (const-found c.args.walk.now c.args.i c.requires.here c.requires.taken c.requires.leaf c.mark.ensures c.in_default.not-Var)

pub returns-in-Var : goal.returns-in-Var
returns-in-Var c = of-var c.args.walk.now c.args.i (shape-of c.args.walk.now c.args.i c.requires.here c.requires.taken c.mark.ensures c.in-Var.is) refl _ c.open_variable.ensures

pub returns-in_default : goal.returns-in_default
returns-in_default c = of-const c.args.walk.now c.args.i (const-found c.args.walk.now c.args.i c.requires.here c.requires.taken c.requires.leaf c.mark.ensures c.in_default.not-Var) refl _ c.open_constant.ensures
