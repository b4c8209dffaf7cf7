-- `echo_bytes::Place::piece` meets its contract: at the loop's test, the first j digits are stored, and `left` has the others. Assumes nothing.
use Rattle.echo_bytes.specs.Numerals.{padded}
use Rattle.echo_bytes.proofs.Copying.{Copied}
use Rattle.echo_bytes.proofs.Numerals.{Behind}
use Rattle.echo_bytes.proofs.Place.piece.Given as goal

abbrev pub invariant-loop-j : goal.invariant-loop-j
invariant-loop-j l = Copied l.initial.out l.self.at (padded l.len l.n) l.k l.j l.out × Behind (padded l.len l.n) l.len l.j l.left
