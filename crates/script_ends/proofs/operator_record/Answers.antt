-- `operator_record` meets its contract, shape by shape.
use mathlib.Core.Path.{refl}
use Rattle.script_ends.specs.Parts.{shape-at, rotation-record, extraction-record, extension-record, plain-record}
use Rattle.script_ends.proofs.operator_record.Goals as goal

pub returns-in-Rotation : goal.returns-in-Rotation
returns-in-Rotation c = (refl, λ ks xs ms m. rotation-record c.args.o.kind c.args.o.first c.args.o.second c.args.x c.args.y c.args.z c.args.amount ks xs ms m (shape-at c.args.o.kind c.from.ensures.shape c.in-Rotation.is))

pub returns-in-Extraction : goal.returns-in-Extraction
returns-in-Extraction c = (refl, λ ks xs ms m. extraction-record c.args.o.kind c.args.o.first c.args.o.second c.args.x c.args.y c.args.z c.args.amount ks xs ms m (shape-at c.args.o.kind c.from.ensures.shape c.in-Extraction.is))

pub returns-in-Extension : goal.returns-in-Extension
returns-in-Extension c = (refl, λ ks xs ms m. extension-record c.args.o.kind c.args.o.first c.args.o.second c.args.x c.args.y c.args.z c.args.amount ks xs ms m (shape-at c.args.o.kind c.from.ensures.shape c.in-Extension.is))

pub returns-in_default : goal.returns-in_default
returns-in_default c = (refl, λ ks xs ms m. plain-record c.args.o.kind c.args.o.first c.args.o.second c.args.x c.args.y c.args.z c.args.amount ks xs ms m c.from.result c.from.ensures.shape c.in_default.not-Rotation c.in_default.not-Extraction c.in_default.not-Extension)
