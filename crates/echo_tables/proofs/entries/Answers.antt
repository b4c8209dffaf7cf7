-- `echo_tables::entries` meets its contract. The loop keeps: the table has what a search from entry k on finds. Assumes nothing.
use Rattle.std.proofs.Common.{◌-◌, ◌∙◌, get_or, arith, ne_eqb, length-set, refl}
use Rattle.echo_tables.specs.Found.{has, filled-end, filled_put, filled-skip, entries-whole, cleared}
use Rattle.echo_tables.proofs.entries.Goals as goal

pub loop-k-init : goal.loop-k-init
loop-k-init c = (omega arith, filled-end has 2048 0 c.args.var_node.now (cleared _ c.clear.ensures))

pub loop-k-preserved-then-x-lt-MAX_NODES : goal.loop-k-preserved-then-x-lt-MAX_NODES
loop-k-preserved-then-x-lt-MAX_NODES c = (
  length-set c.loop-k.entry _ _ ∙ c.loop-k.invariant.0,
  filled_put has 2048 0 c.args.var_node.now (omega arith) (omega arith) c.loop-k.invariant.1 (omega arith) (λ i. refl),
)

pub loop-k-preserved : goal.loop-k-preserved
loop-k-preserved c = (
  c.loop-k.invariant.0,
  filled-skip has 2048 0 c.args.var_node.now (omega arith) (omega arith) c.loop-k.invariant.1
      (λ i h. ne_eqb (get_or c.args.var_node.now (c.loop-k.k - 1) 0) i (λ e. omega (arith, c.if-x-lt-MAX_NODES.false))),
)

pub returns : goal.returns
returns c = entries-whole _ (omega arith) c.loop-k.invariant.1
