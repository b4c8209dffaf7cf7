-- At each turn the last bytes are packed, as many as the loop has passed.
use Rattle.std.proofs.Common.{length}
use Rattle.script_symbols.specs.Packed.{Behind}
use Rattle.script_symbols.proofs.pack.Given as goal

abbrev pub invariant-loop-c : goal.invariant-loop-c
invariant-loop-c l = Behind l.w (length l.yielded) l.v
