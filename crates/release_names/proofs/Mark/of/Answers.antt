-- `Mark::of` meets its contract: at each turn the mark so far goes on over the bytes that are left.
use Prim.Native.Nat.{ℕ, ◌+◌, ◌*◌, ◌/◌, ◌%◌}
use mathlib.Core.Path.{◌≡◌, ap, sym, ◌∙◌}
use native.Mathlib.Omega.{arith}
use lib.ListN.{drop}
use Rattle.release_names.specs.Marks.{mark_from, mark_of, mark-drop, mark-drop-end}
use Rattle.release_names.proofs.Mark.of.Goals as goal

pub loop-b-preserved : goal.loop-b-preserved
loop-b-preserved c = (
  omega arith,
  c.loop-b.invariant.1 ∙ mark-drop c.args.name.now c.loop-b.h c.loop-b.b-index (omega arith)
      ∙ ap (λ (x : ℕ). mark_from ((c.loop-b.h * 16777619 + x) % 134217728) (drop (c.loop-b.b-index + 1) c.args.name.now)) (sym c.from.ensures),
)

pub returns : goal.returns
returns c =
    let e : c.loop-b.h ≡ mark_of c.args.name.now = sym (c.loop-b.invariant.1 ∙ mark-drop-end c.args.name.now c.loop-b.h c.loop-b.b-index (omega arith)) in
    (ap (λ (x : ℕ). x % 4096) e, ap (λ (x : ℕ). x / 4096) e, omega arith, omega (arith, c.loop-b.invariant.0))
