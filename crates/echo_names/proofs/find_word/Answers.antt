-- `find_word` meets its contract: the words of the groups from g on decide the answer, and inside a group those from word k on with the other groups'.
use mathlib.Core.Path.{sym, ◌∙◌}
use native.Mathlib.Omega.{arith}
use Rattle.echo_names.specs.Groups.{groups-all, inside-all, group-inside, inside-next, group-enter, group-pass, groups-end, word-at, word-found, words-end, turn-first, turn_next}
use Rattle.echo_names.proofs.find_word.Goals as goal
use Rattle.echo_names.proofs.find_word.Goals.{then-g-n+else-loop-k-test, else-g-n}

pub loop-g-init : goal.loop-g-init
loop-g-init c =
    (inside-all c.args.words.now c.args.counts.now c.requires, groups-all c.args.words.now c.args.counts.now c.args.name.now)

pub loop-k-init : goal.loop-k-init
loop-k-init c =
    turn-first _ _ _ _ _ _ (group-enter c.args.words.now c.args.counts.now c.loop-g.g c.loop-g.start (omega arith) c.args.name.now c.loop-g.invariant.1 _ c.if-g-n.true)

pub overflow_mul-at : goal.overflow_mul-at
overflow_mul-at c =
    let i = rw c.if-g-n.true at (group-inside c.args.words.now c.args.counts.now c.loop-g.g c.loop-g.start (omega arith) c.loop-g.invariant.0) in
    omega (arith, word-at _ c.loop-k.k _ _ _ (omega arith) i)

pub overflow_add-at : goal.overflow_add-at
overflow_add-at c =
    let i = rw c.if-g-n.true at (group-inside c.args.words.now c.args.counts.now c.loop-g.g c.loop-g.start (omega arith) c.loop-g.invariant.0) in
    omega (arith, word-at _ c.loop-k.k _ _ _ (omega arith) i)

pub overflow_add-at-in-loop-k : goal.overflow_add-at-in-loop-k
overflow_add-at-in-loop-k c =
    let i = rw c.if-g-n.true at (group-inside c.args.words.now c.args.counts.now c.loop-g.g c.loop-g.start (omega arith) c.loop-g.invariant.0) in
    omega (arith, word-at _ c.loop-k.k _ _ _ (omega arith) i)

pub slice_bounds-same_bytes-end : goal.slice_bounds-same_bytes-end
slice_bounds-same_bytes-end c =
    let i = rw c.if-g-n.true at (group-inside c.args.words.now c.args.counts.now c.loop-g.g c.loop-g.start (omega arith) c.loop-g.invariant.0) in
    word-at _ c.loop-k.k _ _ _ (omega arith) i

pub loop-k-preserved : goal.loop-k-preserved
loop-k-preserved c =
    turn_next c.args.words.now c.args.name.now _ _ _ _ c.loop-k.k (omega arith) (sym c.same_bytes.ensures ∙ c.if-same_bytes.false) c.loop-k.invariant

pub overflow_mul-start : goal.overflow_mul-start
overflow_mul-start c =
    omega (arith, group-inside c.args.words.now c.args.counts.now c.loop-g.g c.loop-g.start (omega arith) c.loop-g.invariant.0)

pub overflow_add-start-in-loop-g : goal.overflow_add-start-in-loop-g
overflow_add-start-in-loop-g c =
    omega (arith, group-inside c.args.words.now c.args.counts.now c.loop-g.g c.loop-g.start (omega arith) c.loop-g.invariant.0)

pub returns-then-same_bytes : goal.returns-then-same_bytes
returns-then-same_bytes c =
    word-found c.args.words.now c.args.name.now _ _ _ _ (omega arith) (sym c.same_bytes.ensures ∙ c.if-same_bytes.true) c.loop-k.invariant

pub loop-g-preserved : goal.loop-g-preserved
loop-g-preserved c =
    let words = c.args.words.now in
    let counts = c.args.counts.now in
    let inside = c.loop-g.invariant.0 in (
      inside-next words counts c.loop-g.g c.loop-g.start (omega arith) inside,
      elim c.if-g-n.branch [
        | then-g-n+else-loop-k-test w ↦ words-end words c.args.name.now _ _ _ _ (omega arith) w.loop-k.invariant
        | else-g-n w ↦ group-pass words counts c.loop-g.g c.loop-g.start (omega arith) c.args.name.now c.loop-g.invariant.1 inside w.if-g-n.false
      ],
    )

pub returns-after-loop-g : goal.returns-after-loop-g
returns-after-loop-g c =
    groups-end c.args.words.now c.args.counts.now c.args.name.now c.loop-g.g c.loop-g.start (omega arith) c.loop-g.invariant.1
