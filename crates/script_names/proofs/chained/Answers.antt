-- `chained` meets its contract: at each turn no line from the linked one on has the name.
use Prim.Native.Nat.{◌-◌}
use mathlib.Core.Path.{sym, ◌∙◌}
use native.Mathlib.Omega.{arith}
use lib.ListN.{drop}
use Rattle.std.proofs.Common.{ap}
use Rattle.script_tokens.specs.Reached.{between}
use Rattle.script_names.specs.Entries.{link_of}
use Rattle.script_names.specs.Laws.{walk_start, walk-at, walk_inside, walk_step, walk-less, walk_end, line-same, line-found}
use Rattle.script_names.proofs.chained.Goals as goal

pub loop-link-init : goal.loop-link-init
loop-link-init c = walk_start c.args.s.now (drop c.args.lines.first c.args.s.now) c.args.t.now c.args.lines.count (between c.args.s.now c.args.a (c.args.f - 1)) _ (c.requires.2.chains c.requires.0) c.hash_of.ensures.0 c.hash_of.ensures.1

pub bounds-t-line : goal.bounds-t-line
bounds-t-line c =
    let i = walk_inside c.args.s.now (drop c.args.lines.first c.args.s.now) c.args.t.now c.args.lines.count (between c.args.s.now c.args.a (c.args.f - 1)) c.from-line.result (c.requires.2.chains c.requires.0) (walk-at c.loop-link.invariant c.in-Some.is c.from-line.ensures) in
    omega (arith, i, c.requires.0)

pub stands-requires : goal.stands-requires
stands-requires c =
    let i = walk_inside c.args.s.now (drop c.args.lines.first c.args.s.now) c.args.t.now c.args.lines.count (between c.args.s.now c.args.a (c.args.f - 1)) c.from-line.result (c.requires.2.chains c.requires.0) (walk-at c.loop-link.invariant c.in-Some.is c.from-line.ensures) in
    (c.requires.2.chains c.requires.0).place c.from-line.result i

pub returns-then-stands : goal.returns-then-stands
returns-then-stands c =
    let i = walk_inside c.args.s.now (drop c.args.lines.first c.args.s.now) c.args.t.now c.args.lines.count (between c.args.s.now c.args.a (c.args.f - 1)) c.from-line.result (c.requires.2.chains c.requires.0) (walk-at c.loop-link.invariant c.in-Some.is c.from-line.ensures) in
    line-found c.requires.1 c.requires.2 c.requires.0 c.from-line.result i (sym c.stands.ensures ∙ c.if-stands.true)

pub bounds-t-line-in-Some : goal.bounds-t-line-in-Some
bounds-t-line-in-Some c =
    let i = walk_inside c.args.s.now (drop c.args.lines.first c.args.s.now) c.args.t.now c.args.lines.count (between c.args.s.now c.args.a (c.args.f - 1)) c.from-line.result (c.requires.2.chains c.requires.0) (walk-at c.loop-link.invariant c.in-Some.is c.from-line.ensures) in
    omega (arith, i, c.requires.0)

pub loop-link-smaller : goal.loop-link-smaller
loop-link-smaller c =
    let l = walk-less c.args.s.now (drop c.args.lines.first c.args.s.now) c.args.t.now c.args.lines.count (between c.args.s.now c.args.a (c.args.f - 1)) c.from-line.result (c.requires.2.chains c.requires.0) (walk-at c.loop-link.invariant c.in-Some.is c.from-line.ensures) in
    omega (arith, l, c.from-line.ensures, ap link_of c.in-Some.is)

pub loop-link-preserved : goal.loop-link-preserved
loop-link-preserved c =
    let w = walk-at c.loop-link.invariant c.in-Some.is c.from-line.ensures in
    let i = walk_inside c.args.s.now (drop c.args.lines.first c.args.s.now) c.args.t.now c.args.lines.count (between c.args.s.now c.args.a (c.args.f - 1)) c.from-line.result (c.requires.2.chains c.requires.0) w in
    walk_step c.args.s.now (drop c.args.lines.first c.args.s.now) c.args.t.now c.args.lines.count (between c.args.s.now c.args.a (c.args.f - 1)) c.from-line.result (c.requires.2.chains c.requires.0) w
    (sym (line-same c.requires.1 c.requires.2 c.requires.0 c.from-line.result i) ∙ sym c.stands.ensures ∙ c.if-stands.false)

pub returns : goal.returns
returns c = λ j m. walk_end c.loop-link.invariant (omega (arith, ap link_of c.in_default.is)) j m
