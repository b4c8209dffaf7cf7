-- `enter_script` meets its contract: at each turn the lines up to the place are entered.
use mathlib.Core.List.{◌++◌}
use mathlib.Core.Path.{refl}
use native.Mathlib.Omega.{arith}
use Rattle.std.specs.Prelude.{Some}
use Rattle.release_names.specs.Held.{going_start, gone-end, gone-next, next-few, next-clash, next-gone, told-clash}
use Rattle.release_names.proofs.Names.enter_script.Goals as goal

pub loop-line-init : goal.loop-line-init
loop-line-init c = going_start c.args.s.now _ _ _ _ c.args.q

pub next_line-requires : goal.next_line-requires
next_line-requires c = (c.loop-line.invariant c.requires.0 c.requires.1 c.requires.2 c.requires.3).lines.inside

pub enter_line-requires : goal.enter_line-requires
enter_line-requires c =
    let g = (c.loop-line.invariant c.requires.0 c.requires.1 c.requires.2 c.requires.3) in
    let x = gone-next c.args.s.now c.requires.0 c.requires.1 c.loop-line.self.places c.loop-line.self.links c.loop-line.self.heads c.loop-line.self.count c.loop-line.at g (Some c.in-Some.line) c.in-Some.ensures refl in
    ((_, g.holds), (_, x.line), next-few c.args.s.now c.requires.0 c.requires.1 c.loop-line.self.places c.loop-line.self.links c.loop-line.self.heads c.loop-line.self.count c.loop-line.at g (Some c.in-Some.line) c.in-Some.ensures x c.requires.4)

pub returns-in_err-enter_line : goal.returns-in_err-enter_line
returns-in_err-enter_line c =
    λ seen ys hold at.
    let g = c.loop-line.invariant seen ys hold at in
    let x = gone-next c.args.s.now seen ys c.loop-line.self.places c.loop-line.self.links c.loop-line.self.heads c.loop-line.self.count c.loop-line.at g (Some c.in-Some.line) c.in-Some.ensures refl in
    told-clash c.args.s.now seen ys _ _ c.from_residual.ensures.0
    (next-clash c.args.s.now seen ys c.loop-line.self.places c.loop-line.self.links c.loop-line.self.heads c.loop-line.self.count c.loop-line.at g (Some c.in-Some.line) c.in-Some.ensures x (c.in_err-enter_line.ensures (seen ++ g.done) x.this g.holds x.line))

pub loop-line-smaller : goal.loop-line-smaller
loop-line-smaller c =
    let g = (c.loop-line.invariant c.requires.0 c.requires.1 c.requires.2 c.requires.3) in
    let x = gone-next c.args.s.now c.requires.0 c.requires.1 c.loop-line.self.places c.loop-line.self.links c.loop-line.self.heads c.loop-line.self.count c.loop-line.at g (Some c.in-Some.line) c.in-Some.ensures refl in
    omega (arith, x.low, x.lines.inside)

pub loop-line-preserved : goal.loop-line-preserved
loop-line-preserved c =
    λ seen ys hold at.
    let g = c.loop-line.invariant seen ys hold at in
    let x = gone-next c.args.s.now seen ys c.loop-line.self.places c.loop-line.self.links c.loop-line.self.heads c.loop-line.self.count c.loop-line.at g (Some c.in-Some.line) c.in-Some.ensures refl in
    next-gone c.args.s.now seen ys c.loop-line.self.places c.loop-line.self.links c.loop-line.self.heads c.loop-line.self.count c.loop-line.at g (Some c.in-Some.line) c.in-Some.ensures x (c.in_ok-enter_line.ensures (seen ++ g.done) x.this g.holds x.line)

pub returns : goal.returns
returns c =
    λ seen ys hold at. gone-end c.args.s.now seen ys c.loop-line.self.places c.loop-line.self.links c.loop-line.self.heads c.loop-line.self.count c.loop-line.at (c.loop-line.invariant seen ys hold at) c.next_line.result c.next_line.ensures c.in_default.is
