-- `echo_tables::first_calls` meets its contract. The loop keeps: the table has what a search from node i on finds. Assumes nothing.
use Rattle.std.proofs.Common.{◌≡◌, length}
use Rattle.echo_spec.specs.Input.{nodes_of}
use Rattle.echo_spec.specs.Tables.{call_of}
use Rattle.echo_tables.specs.Found.{Filled}
use Rattle.echo_tables.proofs.first_calls.Given as goal

abbrev pub invariant-loop-i : goal.invariant-loop-i
invariant-loop-i l = (length l.first ≡ 512) × Filled call_of 512 (nodes_of l.nodes) l.i l.first
