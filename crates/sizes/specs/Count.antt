-- The terms of a node's tree from the records alone, in node order: a table that code fills. Its laws are in proofs/Count.antt.
use Prim.Native.Nat.{ℕ, ◌+◌}
use Rattle.std.specs.Prelude.{List}
use Rattle.std.proofs.Math.ListN.{get_or}
use Rattle.lists.specs.Build.{upto}
use Rattle.echo_spec.specs.Input.{Node, shape, no_node}
use Rattle.echo_spec.specs.Walk.{Operand, operands_as}
use Rattle.sizes.specs.Sums.{sum_over}

-- node i, and what the walk enters below it, by the counts of the nodes below
unfoldable pub count_step : List ℕ → List Node → (ℕ → ℕ) → ℕ → ℕ
count_step side ns below i = 1 + sum_over (λ (o : Operand). below o.node) (operands_as side (get_or ns i no_node) (shape (get_or ns i no_node)))

-- the counts of the nodes below n; 1 from n on
abbrev pub counts_below : List ℕ → List Node → ℕ → ℕ → ℕ
counts_below side ns n = upto (count_step side ns) 1 n
