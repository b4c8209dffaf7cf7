-- `same_bytes` meets its contract: the blocks so far agree at each turn.
use Prim.Native.Nat.{◌*◌, ◌/◌}
use mathlib.Core.Path.{◌≡◌, sym, ap, subst}
use native.Mathlib.Omega.{arith}
use lib.ListN.{length}
use Rattle.echo_names.specs.Steps.{same_not}
use Rattle.echo_names.specs.Compared.{Agree, compared-end}
use Rattle.echo_names.proofs.same_bytes.Goals as goal

pub returns-then-n-b : goal.returns-then-n-b
returns-then-n-b c = sym (same_not c.args.a.now c.args.b.now (λ e. c.if-n-b.true (ap length e)))

pub loop-k-init : goal.loop-k-init
loop-k-init c = λ j l h. absurd (omega arith)

pub returns-then-not-same_block : goal.returns-then-not-same_block
returns-then-not-same_block c = sym (same_not c.args.a.now c.args.b.now (c.same_block.ensures.apart c.if-not-same_block.true))

pub returns : goal.returns
returns c =
    let e : 16 * c.loop-k.k ≡ 16 * (length c.args.a.now / 16) = omega arith in
    compared-end (omega (arith, c.if-n-b.false)) (subst (Agree c.args.a.now c.args.b.now 0) e c.loop-k.invariant) c.same_rest.ensures
