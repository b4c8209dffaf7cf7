-- `entry_ok` meets its contract: its tests are those of the definition, in their order.
use native.Mathlib.Omega.{arith}
use Rattle.echo_names.specs.NameTables.{tests}
use Rattle.echo_names.proofs.NameTable.entry_ok.Goals as goal

pub returns-then-not-has-2 : goal.returns-then-not-has-2
returns-then-not-has-2 c =
    let s = c.args.self.now in
    let f = c.args.first.now in
    let o = c.args.second.now in
    let e = tests s.arena.now s.starts.now s.lens.now f.arena.now f.starts.now f.lens.now o.arena.now o.starts.now o.lens.now c.args.k c.name-name.result.now c.requires c.name-name.ensures in
    grind arith

pub returns-else-not-has-2 : goal.returns-else-not-has-2
returns-else-not-has-2 c =
    let s = c.args.self.now in
    let f = c.args.first.now in
    let o = c.args.second.now in
    let e = tests s.arena.now s.starts.now s.lens.now f.arena.now f.starts.now f.lens.now o.arena.now o.starts.now o.lens.now c.args.k c.name-name.result.now c.requires c.name-name.ensures in
    grind arith
