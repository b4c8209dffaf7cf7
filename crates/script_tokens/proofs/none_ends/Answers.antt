-- `none_ends` meets its contract: at each turn nothing so far ends the stretch, or it is told.
use Rattle.std.proofs.Common.{◌+◌, ◌-◌, sym, ap, ◌∙◌, true≢false, arith, drop, length-take-le, length-drop}
use Rattle.std.proofs.lemmas.List.{get_or-take, get_or-drop}
use Rattle.script_tokens.specs.Stretches.{runs_on, runs-at}
use Rattle.script_tokens.proofs.none_ends.Goals as goal
use Rattle.script_tokens.proofs.none_ends.Goals.{then-ends, else-ends}

pub loop-c-preserved : goal.loop-c-preserved
loop-c-preserved g c = λ q.
    let e = c.args.e in
    let part = drop e c.args.s.now in
    let n = length-take-le (e + g.row.N - e) part (omega (arith, c.requires, length-drop e c.args.s.now)) in
    let z = get_or-take (e + g.row.N - e) part c.loop-c.c-index 0 (omega (arith, n, c.loop-c-test.true)) ∙ get_or-drop e c.args.s.now c.loop-c.c-index 0 in
    runs-at {e = e + c.loop-c.c-index + 1}
    (elim c.if-ends.branch [
      | then-ends w ↦ absurd (true≢false (sym q ∙ w.ok-is))
      | else-ends w ↦ runs_on (c.loop-c.invariant (sym w.ok-is ∙ q)) (omega (arith, c.requires, n, c.loop-c-test.true)) (ap g.E.Ending.ends (sym z) ∙ sym c.ends.ensures ∙ w.if-ends.false)
    ])
    (omega arith)

pub returns : goal.returns
returns g c = λ q.
    let e = c.args.e in
    let n = length-take-le (e + g.row.N - e) (drop e c.args.s.now) (omega (arith, c.requires, length-drop e c.args.s.now)) in
    runs-at (c.loop-c.invariant q) (omega (arith, n, c.loop-c.auto.c-index-end, c.loop-c-test.false))
