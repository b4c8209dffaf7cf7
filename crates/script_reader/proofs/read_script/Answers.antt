-- `read_script` meets its contract: what is decided, and then each group of outputs.
use Rattle.std.proofs.Common.{refl, ap, sym}
use lib.ListN.{length}
use Rattle.script_rebuild.specs.Fresh.{fresh-roots}
use Rattle.script_fill.specs.Outputs.{problem_in}
use Rattle.script_reader.specs.Outputs.{ready-few, ready-nodes, ready-variables, ready-arrays, ready-functions, ready-filled, ready-answer, refused-answer}
use Rattle.script_reader.proofs.read_script.Goals as goal

pub decide-requires : goal.decide-requires
decide-requires c = (c.new-t.ensures, c.new-heap.ensures.held, c.new-heap.ensures.stacked _, fresh-roots, ap length c.room-room.ensures)

pub fill_nodes-requires : goal.fill_nodes-requires
fill_nodes-requires c = ready-nodes c.in-Ok.ensures (problem_in c.args.outputs.now) c.room-room.ensures

pub fill_variables-requires : goal.fill_variables-requires
fill_variables-requires c = (_, ready-few c.in-Ok.ensures, ready-variables c.in-Ok.ensures (problem_in c.args.outputs.now) c.room-room.ensures)

pub fill_arrays-requires : goal.fill_arrays-requires
fill_arrays-requires c = (_, ready-few c.in-Ok.ensures, ready-arrays c.in-Ok.ensures (problem_in c.args.outputs.now) c.room-room.ensures)

pub fill_functions-requires : goal.fill_functions-requires
fill_functions-requires c = (_, ready-few c.in-Ok.ensures, ready-functions c.in-Ok.ensures (problem_in c.args.outputs.now) c.room-room.ensures)

pub returns-in-Err-clause-answer : goal.returns-in-Err-clause-answer
returns-in-Err-clause-answer c = refused-answer c.args.script.now _ _ c.in-Err.e (c.in-Err.ensures (problem_in c.args.outputs.now) (sym c.room-room.ensures)) c.clear.ensures.zeros

pub returns-in-Ok-clause-answer : goal.returns-in-Ok-clause-answer
returns-in-Ok-clause-answer c =
    let few = ready-few c.in-Ok.ensures in
    ready-answer c.in-Ok.ensures (problem_in c.args.outputs.now) c.room-room.ensures c.in-Ok.x.sizes _ refl
    (ready-filled c.in-Ok.ensures (problem_in c.args.outputs.now) c.room-room.ensures c.fill_nodes.ensures (c.fill_variables.ensures _ few) (c.fill_arrays.ensures _ few) (c.fill_functions.ensures _ few))
