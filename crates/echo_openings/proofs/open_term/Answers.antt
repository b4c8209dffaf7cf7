use mathlib.Core.Path.{refl, ap}
use Rattle.echo_spec.specs.Input.{Node}
use Rattle.echo_walk.proofs.Heads.{shape-of, passed-as, node-here, array-inside, function-inside}
use Rattle.echo_openings.proofs.Opening.{of-rotation, of-extraction, of-extension, of-select, of-call, of_plain}
use Rattle.echo_openings.proofs.open_term.Goals as goal

pub node-n-requires : goal.node-n-requires
node-n-requires c = node-here c.args.walk.now c.args.i c.requires.here c.requires.taken

pub amount-requires : goal.amount-requires
amount-requires c = passed-as c.args.walk.now c.args.i c.requires.here c.requires.taken (shape-of c.args.walk.now c.args.i c.requires.here c.requires.taken c.mark.ensures c.in-Rotation.is)

pub array_name-requires : goal.array_name-requires
array_name-requires c = array-inside c.args.walk.now c.args.i (passed-as c.args.walk.now c.args.i c.requires.here c.requires.taken (shape-of c.args.walk.now c.args.i c.requires.here c.requires.taken c.mark.ensures c.in-Select.is)) c.node-n.ensures

pub function_name-requires : goal.function_name-requires
function_name-requires c = function-inside c.args.walk.now c.args.i (passed-as c.args.walk.now c.args.i c.requires.here c.requires.taken (shape-of c.args.walk.now c.args.i c.requires.here c.requires.taken c.mark.ensures c.in-Call.is)) c.node-n.ensures

pub returns-in-Rotation : goal.returns-in-Rotation
returns-in-Rotation c = of-rotation c.args.walk.now c.args.i c.node-n.ensures _ (ap (λ (z : Node). z.kind) c.node-n.ensures) (shape-of c.args.walk.now c.args.i c.requires.here c.requires.taken c.mark.ensures c.in-Rotation.is) c.amount.ensures c.open_numbered.ensures

pub returns-in-Extraction : goal.returns-in-Extraction
returns-in-Extraction c = of-extraction c.args.walk.now c.args.i c.node-n.ensures _ (ap (λ (z : Node). z.kind) c.node-n.ensures) (shape-of c.args.walk.now c.args.i c.requires.here c.requires.taken c.mark.ensures c.in-Extraction.is) c.open_numbered-in-Extraction.ensures

pub returns-in-Extension : goal.returns-in-Extension
returns-in-Extension c = of-extension c.args.walk.now c.args.i c.node-n.ensures _ (ap (λ (z : Node). z.kind) c.node-n.ensures) (shape-of c.args.walk.now c.args.i c.requires.here c.requires.taken c.mark.ensures c.in-Extension.is) c.open_numbered-in-Extension.ensures

pub returns-in-Select : goal.returns-in-Select
returns-in-Select c = of-select c.args.walk.now c.args.i c.node-n.ensures _ (shape-of c.args.walk.now c.args.i c.requires.here c.requires.taken c.mark.ensures c.in-Select.is) c.array_name.ensures c.open_select.ensures

pub returns-in-Call : goal.returns-in-Call
returns-in-Call c = of-call c.args.walk.now c.args.i c.node-n.ensures _ (shape-of c.args.walk.now c.args.i c.requires.here c.requires.taken c.mark.ensures c.in-Call.is) c.function_name.ensures c.open_call.ensures

pub returns-in_default : goal.returns-in_default
returns-in_default c =
    let e = shape-of c.args.walk.now c.args.i c.requires.here c.requires.taken c.mark.ensures refl in
    of_plain c.args.walk.now c.args.i e (passed-as c.args.walk.now c.args.i c.requires.here c.requires.taken e) c.requires.inner c.in_default.not-Rotation c.in_default.not-Extraction c.in_default.not-Extension c.in_default.not-Select c.in_default.not-Call (ap (λ (z : Node). z.kind) c.node-n.ensures) _ c.open_plain.ensures
