-- At each turn the hash so far goes on over the bytes that are left.
use Rattle.std.proofs.Common.{◌≡◌, ◌<◌, drop}
use Rattle.script_names.specs.Entries.{hash_from}
use Rattle.script_names.proofs.hash_from.Given as goal

abbrev pub invariant-loop-c : goal.invariant-loop-c
invariant-loop-c l = (l.h < 4096) × (hash_from l.fn.start l.part ≡ hash_from l.h (drop l.c-index l.part))
