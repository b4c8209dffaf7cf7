-- `bindings` meets its contract: the bindings of the first nodes are written, and these nodes are named. Assumes nothing.
use Rattle.std.proofs.Common.{◌≡◌, length, map}
use Rattle.echo_bytes.specs.Page.{page}
use Rattle.echo_bindings.specs.Checking.{flagged}
use Rattle.echo_bindings.specs.LetLines.{SoFar, opening}
use Rattle.echo_bindings.specs.Naming.{unnamed, NamedTo, own_text}
use Rattle.echo_bindings.proofs.Assertions.bindings.Given as goal

abbrev pub invariant-loop-i : goal.invariant-loop-i
invariant-loop-i l =
    (map unnamed l.marks ≡ map unnamed l.initial.marks) × NamedTo (flagged l.bound) l.i l.marks
    × SoFar (opening (own_text l.self.sharing.problem.now l.self.sharing.widths.now (flagged l.bound)) (flagged l.bound)) (length l.bound) (page l.initial.q l.initial.out) l.i (page l.q l.out)
