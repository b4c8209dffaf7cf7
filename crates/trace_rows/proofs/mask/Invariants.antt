-- `trace_rows::mask` meets its contract. The loop keeps: m is the mask of the roots behind those that are left. Assumes nothing.
use Rattle.std.proofs.Common.{◌-◌, length, drop}
use Rattle.trace_rows.specs.Masks.{MaskOf}
use Rattle.trace_rows.proofs.mask.Given as goal

abbrev pub invariant-loop-i : goal.invariant-loop-i
invariant-loop-i l = MaskOf l.evaluation l.row (drop (length l.roots - length l.yielded) l.roots) l.m
