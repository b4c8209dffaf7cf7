-- `echo_tables::entries` meets its contract. The loop keeps: the table has what a search from entry k on finds. Assumes nothing.
use Rattle.std.proofs.Common.{◌≡◌, length}
use Rattle.echo_tables.specs.Found.{Filled, has}
use Rattle.echo_tables.proofs.entries.Given as goal

abbrev pub invariant-loop-k : goal.invariant-loop-k
invariant-loop-k l = (length l.entry ≡ 2048) × Filled has 2048 l.var_node l.k l.entry
