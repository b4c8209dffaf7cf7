use mathlib.Core.Path.{refl}
use Rattle.echo_walk.proofs.Heads.{shape-of, passed-as, constant-as, const-found, head_in, const-head}
use Rattle.echo_walk.proofs.Walk.echo_leaf.Goals as goal

pub head_var-requires : goal.head_var-requires
head_var-requires c = passed-as c.args.self.now c.args.i c.requires.here c.requires.taken (shape-of c.args.self.now c.args.i c.requires.here c.requires.taken c.mark.ensures c.in-Var.is)

pub head_const-requires : goal.head_const-requires
head_const-requires c = constant-as c.args.self.now c.args.i c.requires.here c.requires.taken (const-found c.args.self.now c.args.i c.requires.here c.requires.taken c.requires.leaf c.mark.ensures c.in_default.not-Var)

pub returns-in-Var : goal.returns-in-Var
returns-in-Var c = head_in c.args.self.now c.args.i c.requires.here c.requires.taken (shape-of c.args.self.now c.args.i c.requires.here c.requires.taken c.mark.ensures c.in-Var.is) _ refl c.head_var.ensures

pub returns-in_default : goal.returns-in_default
returns-in_default c = const-head c.args.self.now c.args.i c.requires.here c.requires.taken (const-found c.args.self.now c.args.i c.requires.here c.requires.taken c.requires.leaf c.mark.ensures c.in_default.not-Var) _ c.head_const.ensures
