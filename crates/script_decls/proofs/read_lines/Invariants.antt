-- `read_lines` meets its contract: at each turn, what is read from the place reached tells what is read from the start.
use Prim.Native.Nat.{◌-◌}
use lib.ListN.{length}
use Rattle.script_decls.specs.declared.Lines.{Lines}
use Rattle.script_names.specs.declared.Table.{Table}
use Rattle.std.specs.Prelude.{◌≡◌, Option}
use Rattle.script_decls.specs.Lines.{stage_number, Ready, StageTo}
use Rattle.script_decls.specs.Told.{NotedFrom}
use Rattle.script_decls.proofs.read_lines.Given as goal

abbrev pub invariant-loop-d : goal.invariant-loop-d
invariant-loop-d l = Ready l.s l.so_far.first l.t l.so_far.count l.p × (l.so_far.first ≡ l.fn.lines.first) × NotedFrom (stage_number l.stage) l.s l.so_far.first l.fn.lines.count l.initial.t l.t l.so_far.count × ((u : Table) (r : Option Lines) → StageTo (stage_number l.stage) l.s l.so_far.first l.so_far.count l.p u r → StageTo (stage_number l.stage) l.s l.fn.lines.first l.fn.lines.count l.at u r)

abbrev pub decreases-loop-d : goal.decreases-loop-d
decreases-loop-d l = length l.s - l.p
