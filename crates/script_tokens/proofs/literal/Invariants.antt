-- At each turn what is left of the word is expected at the place reached.
use Rattle.std.proofs.Common.{◌≡◌, ◌+◌, drop}
use Rattle.readback.specs.Reader.{expect}
use Rattle.script_tokens.proofs.literal.Given as goal

abbrev pub invariant-loop-k : goal.invariant-loop-k
invariant-loop-k l = expect l.w (drop l.at l.s) ≡ expect (drop l.k l.w) (drop (l.at + l.k) l.s)
