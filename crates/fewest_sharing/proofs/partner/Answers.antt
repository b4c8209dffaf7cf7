-- `fewest_sharing::partner` meets its contract. Assumes nothing.
use Rattle.std.proofs.Common.{arith, sym, ◌∙◌, ◌<◌, ◌≡◌, get_or, below_more}
use Rattle.fewest_sharing.proofs.partner.Goals as goal

pub loop-k-init : goal.loop-k-init
loop-k-init c = λ b l m. absurd (omega arith)

pub returns-then-roots-k : goal.returns-then-roots-k
returns-then-roots-k c = record {
  rises = omega arith;
  inside = omega arith;
  flag = sym c.flagged.ensures ∙ c.if-not-flagged.false;
  same = sym c.if-roots-k.true;
  between = λ b x y. c.loop-k.invariant b y x;
}

pub loop-k-preserved : goal.loop-k-preserved
loop-k-preserved c =
    below_more (λ b. c.args.j < b → get_or c.args.roots.now c.args.j 0 ≡ get_or c.args.roots.now b 0 → ⊥) _ c.loop-k.invariant
    (λ l e. c.if-roots-k.false (sym e))

pub returns : goal.returns
returns c = λ b x y f e. c.loop-k.invariant b (omega arith) x e
