use mathlib.Core.Path.{refl, ap}
use Rattle.echo_tables.specs.declared.Mark.{Mark}
use Rattle.echo_walk.proofs.Heads.{shape-of, passed-as, node-here, head-after, plain-head}
use Rattle.echo_walk.proofs.Walk.own_head.Goals as goal

pub head_rotation-requires : goal.head_rotation-requires
head_rotation-requires c = passed-as c.args.self.now c.args.i c.requires.here c.requires.taken (shape-of c.args.self.now c.args.i c.requires.here c.requires.taken c.mark.ensures c.in-Rotation.is)

pub head_extraction-requires : goal.head_extraction-requires
head_extraction-requires c = node-here c.args.self.now c.args.i c.requires.here c.requires.taken

pub head_extension-requires : goal.head_extension-requires
head_extension-requires c = node-here c.args.self.now c.args.i c.requires.here c.requires.taken

pub head_select-requires : goal.head_select-requires
head_select-requires c = passed-as c.args.self.now c.args.i c.requires.here c.requires.taken (shape-of c.args.self.now c.args.i c.requires.here c.requires.taken c.mark.ensures c.in-Select.is)

pub head_call-requires : goal.head_call-requires
head_call-requires c = passed-as c.args.self.now c.args.i c.requires.here c.requires.taken (shape-of c.args.self.now c.args.i c.requires.here c.requires.taken c.mark.ensures c.in-Call.is)

pub head_plain-requires : goal.head_plain-requires
head_plain-requires c = node-here c.args.self.now c.args.i c.requires.here c.requires.taken

pub returns-in-Rotation : goal.returns-in-Rotation
returns-in-Rotation c = head-after c.args.self.now c.args.i c.requires.here c.requires.taken (shape-of c.args.self.now c.args.i c.requires.here c.requires.taken c.mark.ensures c.in-Rotation.is) _ refl c.byte.ensures c.head_rotation.ensures

pub returns-in-Extraction : goal.returns-in-Extraction
returns-in-Extraction c = head-after c.args.self.now c.args.i c.requires.here c.requires.taken (shape-of c.args.self.now c.args.i c.requires.here c.requires.taken c.mark.ensures c.in-Extraction.is) _ refl c.byte-in-Extraction.ensures c.head_extraction.ensures

pub returns-in-Extension : goal.returns-in-Extension
returns-in-Extension c = head-after c.args.self.now c.args.i c.requires.here c.requires.taken (shape-of c.args.self.now c.args.i c.requires.here c.requires.taken c.mark.ensures c.in-Extension.is) _ refl c.byte-in-Extension.ensures c.head_extension.ensures

pub returns-in-Select : goal.returns-in-Select
returns-in-Select c = head-after c.args.self.now c.args.i c.requires.here c.requires.taken (shape-of c.args.self.now c.args.i c.requires.here c.requires.taken c.mark.ensures c.in-Select.is) _ refl c.byte-in-Select.ensures c.head_select.ensures

pub returns-in-Call : goal.returns-in-Call
returns-in-Call c = head-after c.args.self.now c.args.i c.requires.here c.requires.taken (shape-of c.args.self.now c.args.i c.requires.here c.requires.taken c.mark.ensures c.in-Call.is) _ refl c.byte-in-Call.ensures c.head_call.ensures

pub returns-in_default : goal.returns-in_default
returns-in_default c = plain-head c.args.self.now c.args.i c.requires.here c.requires.taken c.requires.inner c.mark.result.shape (ap (λ (m : Mark). m.shape) c.mark.ensures) c.in_default.not-Rotation c.in_default.not-Extraction c.in_default.not-Extension c.in_default.not-Select c.in_default.not-Call _ c.head_plain.ensures
