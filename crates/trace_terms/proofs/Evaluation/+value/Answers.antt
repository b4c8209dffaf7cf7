-- `trace_terms::Evaluation::value` meets its contract, by the laws of `Arms`, a few for each shape. The measure is the node's number. Assumes nothing.
use Rattle.std.proofs.Common.{not, sym, ap, ◌∙◌, true≢false, eqb→eq, eq-eqb}
use Rattle.lists.specs.Tests.{true→T}
use Rattle.lent.specs.Records.{node_of}
use Rattle.operators.specs.Operators.{binary_of, comparison_of, unary_of, rotation_of, extension_of, connective_of, meaning_in, kind-meaning}
use Rattle.blast_kernel.specs.Kinds.{shape_in}
use Rattle.trace_tables.specs.Fixed.{bit-small}
use Rattle.trace_terms.specs.Places.{record-inside, known}
use Rattle.trace_terms.specs.Arms.{var-width, var-number, var-below, var-arm, const-width, const-number, const-below, const-arm, same-widths, binary-pair, binary-arm}
use Rattle.trace_terms.specs.Arms.{comparison-pair, comparison-arm, unary-lower, unary-arm, rotation-lower, rotation-amount, rotation-turned, rotation-arm}
use Rattle.trace_terms.specs.Arms.{extraction-lower, extraction-places, extraction-arm, concat-lower, concat-room, concat-arm, extension-lower, extension-room, extension-arm}
use Rattle.trace_terms.specs.Arms.{ite-lower, ite-then, ite-else, negation-lower, negation-arm, connective-lower, connective-arm, no-shape, falls-to}
use Rattle.trace_terms.proofs.Evaluation.+value.Goals as goal

pub node_at-n-requires : goal.node_at-n-requires
node_at-n-requires t c = record-inside c.args.self.now c.args.row.now c.args.i c.requires

pub value-x-requires : goal.value-x-requires
value-x-requires t c = let k = known c.args.self.now c.args.row.now c.args.i c.requires (node_of c.node_at-n.result) c.node_at-n.ensures in let o = (binary-pair k (sym c.from.ensures.shape ∙ ap shape_in c.in-Binary.is)).first in (falls-to o.less c.decreases, o.good)

pub value-y-requires : goal.value-y-requires
value-y-requires t c = let k = known c.args.self.now c.args.row.now c.args.i c.requires (node_of c.node_at-n.result) c.node_at-n.ensures in let o = (binary-pair k (sym c.from.ensures.shape ∙ ap shape_in c.in-Binary.is)).second in (falls-to o.less c.decreases, o.good)

pub binary-requires : goal.binary-requires
binary-requires t c = let k = known c.args.self.now c.args.row.now c.args.i c.requires (node_of c.node_at-n.result) c.node_at-n.ensures in same-widths k (binary-pair k (sym c.from.ensures.shape ∙ ap shape_in c.in-Binary.is)).same c.value-x.ensures c.value-y.ensures

pub value-x-requires-in-Rotation : goal.value-x-requires-in-Rotation
value-x-requires-in-Rotation t c = let k = known c.args.self.now c.args.row.now c.args.i c.requires (node_of c.node_at-n.result) c.node_at-n.ensures in let o = (rotation-lower k (sym c.from.ensures.shape ∙ ap shape_in c.in-Rotation.is)).0 in (falls-to o.less c.decreases, o.good)

pub rotation-requires : goal.rotation-requires
rotation-requires t c = let k = known c.args.self.now c.args.row.now c.args.i c.requires (node_of c.node_at-n.result) c.node_at-n.ensures in rotation-turned k (sym c.from.ensures.shape ∙ ap shape_in c.in-Rotation.is) c.value-x-in-Rotation.ensures (rotation-amount k c.args.self.now.filled (sym c.from.ensures.shape ∙ ap shape_in c.in-Rotation.is) c.get-in-Rotation.ensures)

pub value-x-requires-in-Extraction : goal.value-x-requires-in-Extraction
value-x-requires-in-Extraction t c = let k = known c.args.self.now c.args.row.now c.args.i c.requires (node_of c.node_at-n.result) c.node_at-n.ensures in let o = (extraction-lower k (sym c.from.ensures.shape ∙ ap shape_in c.in-Extraction.is)).0 in (falls-to o.less c.decreases, o.good)

pub extract-requires : goal.extract-requires
extract-requires t c = let k = known c.args.self.now c.args.row.now c.args.i c.requires (node_of c.node_at-n.result) c.node_at-n.ensures in extraction-places k (sym c.from.ensures.shape ∙ ap shape_in c.in-Extraction.is) c.value-x-in-Extraction.ensures

pub value-x-requires-in-Concat : goal.value-x-requires-in-Concat
value-x-requires-in-Concat t c = let k = known c.args.self.now c.args.row.now c.args.i c.requires (node_of c.node_at-n.result) c.node_at-n.ensures in let o = (concat-lower k (sym c.from.ensures.shape ∙ ap shape_in c.in-Concat.is)).0 in (falls-to o.less c.decreases, o.good)

pub value-y-requires-in-Concat : goal.value-y-requires-in-Concat
value-y-requires-in-Concat t c = let k = known c.args.self.now c.args.row.now c.args.i c.requires (node_of c.node_at-n.result) c.node_at-n.ensures in let o = (concat-lower k (sym c.from.ensures.shape ∙ ap shape_in c.in-Concat.is)).1 in (falls-to o.less c.decreases, o.good)

pub concat-requires : goal.concat-requires
concat-requires t c = let k = known c.args.self.now c.args.row.now c.args.i c.requires (node_of c.node_at-n.result) c.node_at-n.ensures in concat-room k (sym c.from.ensures.shape ∙ ap shape_in c.in-Concat.is) c.value-x-in-Concat.ensures c.value-y-in-Concat.ensures

pub value-x-requires-in-Extension : goal.value-x-requires-in-Extension
value-x-requires-in-Extension t c = let k = known c.args.self.now c.args.row.now c.args.i c.requires (node_of c.node_at-n.result) c.node_at-n.ensures in let o = (extension-lower k (sym c.from.ensures.shape ∙ ap shape_in c.in-Extension.is)).0 in (falls-to o.less c.decreases, o.good)

pub extension-requires : goal.extension-requires
extension-requires t c = let k = known c.args.self.now c.args.row.now c.args.i c.requires (node_of c.node_at-n.result) c.node_at-n.ensures in extension-room k (sym c.from.ensures.shape ∙ ap shape_in c.in-Extension.is) c.value-x-in-Extension.ensures

pub value-x-requires-in-Ite : goal.value-x-requires-in-Ite
value-x-requires-in-Ite t c = let k = known c.args.self.now c.args.row.now c.args.i c.requires (node_of c.node_at-n.result) c.node_at-n.ensures in let o = (ite-lower k (sym c.from.ensures.shape ∙ ap shape_in c.in-Ite.is)).0 in (falls-to o.less c.decreases, o.good)

pub value-requires : goal.value-requires
value-requires t c = let k = known c.args.self.now c.args.row.now c.args.i c.requires (node_of c.node_at-n.result) c.node_at-n.ensures in let o = (ite-lower k (sym c.from.ensures.shape ∙ ap shape_in c.in-Ite.is)).1 in (falls-to o.less c.decreases, o.good)

pub value-requires-else-holds : goal.value-requires-else-holds
value-requires-else-holds t c = let k = known c.args.self.now c.args.row.now c.args.i c.requires (node_of c.node_at-n.result) c.node_at-n.ensures in let o = (ite-lower k (sym c.from.ensures.shape ∙ ap shape_in c.in-Ite.is)).2 in (falls-to o.less c.decreases, o.good)

pub value-x-requires-in-Comparison : goal.value-x-requires-in-Comparison
value-x-requires-in-Comparison t c = let k = known c.args.self.now c.args.row.now c.args.i c.requires (node_of c.node_at-n.result) c.node_at-n.ensures in let o = (comparison-pair k (sym c.from.ensures.shape ∙ ap shape_in c.in-Comparison.is)).first in (falls-to o.less c.decreases, o.good)

pub value-y-requires-in-Comparison : goal.value-y-requires-in-Comparison
value-y-requires-in-Comparison t c = let k = known c.args.self.now c.args.row.now c.args.i c.requires (node_of c.node_at-n.result) c.node_at-n.ensures in let o = (comparison-pair k (sym c.from.ensures.shape ∙ ap shape_in c.in-Comparison.is)).second in (falls-to o.less c.decreases, o.good)

pub comparison-requires : goal.comparison-requires
comparison-requires t c = let k = known c.args.self.now c.args.row.now c.args.i c.requires (node_of c.node_at-n.result) c.node_at-n.ensures in same-widths k (comparison-pair k (sym c.from.ensures.shape ∙ ap shape_in c.in-Comparison.is)).same c.value-x-in-Comparison.ensures c.value-y-in-Comparison.ensures

pub value-x-requires-in-Negation : goal.value-x-requires-in-Negation
value-x-requires-in-Negation t c = let k = known c.args.self.now c.args.row.now c.args.i c.requires (node_of c.node_at-n.result) c.node_at-n.ensures in let o = (negation-lower k (sym c.from.ensures.shape ∙ ap shape_in c.in-Negation.is)).0 in (falls-to o.less c.decreases, o.good)

pub value-x-requires-in-Connective : goal.value-x-requires-in-Connective
value-x-requires-in-Connective t c = let k = known c.args.self.now c.args.row.now c.args.i c.requires (node_of c.node_at-n.result) c.node_at-n.ensures in let o = (connective-lower k (sym c.from.ensures.shape ∙ ap shape_in c.in-Connective.is)).0 in (falls-to o.less c.decreases, o.good)

pub value-y-requires-in-Connective : goal.value-y-requires-in-Connective
value-y-requires-in-Connective t c = let k = known c.args.self.now c.args.row.now c.args.i c.requires (node_of c.node_at-n.result) c.node_at-n.ensures in let o = (connective-lower k (sym c.from.ensures.shape ∙ ap shape_in c.in-Connective.is)).1 in (falls-to o.less c.decreases, o.good)

pub value-x-requires-in-Unary : goal.value-x-requires-in-Unary
value-x-requires-in-Unary t c = let k = known c.args.self.now c.args.row.now c.args.i c.requires (node_of c.node_at-n.result) c.node_at-n.ensures in let o = (unary-lower k (sym c.from.ensures.shape ∙ ap shape_in c.in-Unary.is)).0 in (falls-to o.less c.decreases, o.good)

pub new-requires : goal.new-requires
new-requires t c = let k = known c.args.self.now c.args.row.now c.args.i c.requires (node_of c.node_at-n.result) c.node_at-n.ensures in record {
  some = rw c.get.ensures (var-width k (sym c.from.ensures.shape ∙ ap shape_in c.in-Var.is));
  word = rw c.get.ensures k.narrow;
  below = rw c.get.ensures (var-below k (sym c.from.ensures.shape ∙ ap shape_in c.in-Var.is) (var-number k c.args.self.now.filled (sym c.from.ensures.shape ∙ ap shape_in c.in-Var.is) c.get-in-Var.ensures c.get-in-Var-2.ensures));
}

pub new-requires-in-Const : goal.new-requires-in-Const
new-requires-in-Const t c = let k = known c.args.self.now c.args.row.now c.args.i c.requires (node_of c.node_at-n.result) c.node_at-n.ensures in record {
  some = rw c.get-in-Const.ensures (const-width k (sym c.from.ensures.shape ∙ ap shape_in c.in-Const.is)).0;
  word = rw c.get-in-Const.ensures k.narrow;
  below = rw c.get-in-Const.ensures (const-below k (sym c.from.ensures.shape ∙ ap shape_in c.in-Const.is) (bit-small c.args.self.now.terms.usable) (const-number k c.args.self.now.filled (sym c.from.ensures.shape ∙ ap shape_in c.in-Const.is) c.get-in-Const-2.ensures));
}

pub returns-in-Var : goal.returns-in-Var
returns-in-Var t c = let k = known c.args.self.now c.args.row.now c.args.i c.requires (node_of c.node_at-n.result) c.node_at-n.ensures in var-arm k (sym c.from.ensures.shape ∙ ap shape_in c.in-Var.is) c.requires c.new.result (c.new.ensures.width ∙ c.get.ensures) (c.new.ensures.number ∙ (var-number k c.args.self.now.filled (sym c.from.ensures.shape ∙ ap shape_in c.in-Var.is) c.get-in-Var.ensures c.get-in-Var-2.ensures))

pub returns-in-Const : goal.returns-in-Const
returns-in-Const t c = let k = known c.args.self.now c.args.row.now c.args.i c.requires (node_of c.node_at-n.result) c.node_at-n.ensures in const-arm k (sym c.from.ensures.shape ∙ ap shape_in c.in-Const.is) c.new-in-Const.result (c.new-in-Const.ensures.width ∙ c.get-in-Const.ensures) (c.new-in-Const.ensures.number ∙ (const-number k c.args.self.now.filled (sym c.from.ensures.shape ∙ ap shape_in c.in-Const.is) c.get-in-Const-2.ensures))

pub returns-in-Binary : goal.returns-in-Binary
returns-in-Binary t c = let k = known c.args.self.now c.args.row.now c.args.i c.requires (node_of c.node_at-n.result) c.node_at-n.ensures in binary-arm k (sym c.from.ensures.shape ∙ ap shape_in c.in-Binary.is) (binary_of c.in-Binary.o) (kind-meaning _ _ c.from.ensures.kind ∙ ap meaning_in c.in-Binary.is) c.value-x.ensures c.value-y.ensures c.binary.ensures.width c.binary.ensures.number

pub returns-in-Rotation : goal.returns-in-Rotation
returns-in-Rotation t c = let k = known c.args.self.now c.args.row.now c.args.i c.requires (node_of c.node_at-n.result) c.node_at-n.ensures in rotation-arm k (sym c.from.ensures.shape ∙ ap shape_in c.in-Rotation.is) (rotation_of c.in-Rotation.o) (kind-meaning _ _ c.from.ensures.kind ∙ ap meaning_in c.in-Rotation.is) c.value-x-in-Rotation.ensures (rotation-amount k c.args.self.now.filled (sym c.from.ensures.shape ∙ ap shape_in c.in-Rotation.is) c.get-in-Rotation.ensures) c.rotation.ensures.width c.rotation.ensures.number

pub returns-in-Extraction : goal.returns-in-Extraction
returns-in-Extraction t c = let k = known c.args.self.now c.args.row.now c.args.i c.requires (node_of c.node_at-n.result) c.node_at-n.ensures in extraction-arm k (sym c.from.ensures.shape ∙ ap shape_in c.in-Extraction.is) c.value-x-in-Extraction.ensures c.extract.ensures.width c.extract.ensures.number

pub returns-in-Concat : goal.returns-in-Concat
returns-in-Concat t c = let k = known c.args.self.now c.args.row.now c.args.i c.requires (node_of c.node_at-n.result) c.node_at-n.ensures in concat-arm k (sym c.from.ensures.shape ∙ ap shape_in c.in-Concat.is) c.value-x-in-Concat.ensures c.value-y-in-Concat.ensures c.concat.ensures.width c.concat.ensures.number

pub returns-in-Extension : goal.returns-in-Extension
returns-in-Extension t c = let k = known c.args.self.now c.args.row.now c.args.i c.requires (node_of c.node_at-n.result) c.node_at-n.ensures in extension-arm k (sym c.from.ensures.shape ∙ ap shape_in c.in-Extension.is) (extension_of c.in-Extension.o) (kind-meaning _ _ c.from.ensures.kind ∙ ap meaning_in c.in-Extension.is) c.value-x-in-Extension.ensures c.extension.ensures.width c.extension.ensures.number

pub returns-then-holds : goal.returns-then-holds
returns-then-holds t c = let k = known c.args.self.now c.args.row.now c.args.i c.requires (node_of c.node_at-n.result) c.node_at-n.ensures in ite-then k (sym c.from.ensures.shape ∙ ap shape_in c.in-Ite.is) c.value-x-in-Ite.ensures (eqb→eq _ _ (true→T (sym c.holds.ensures ∙ c.if-holds.true))) c.value.ensures

pub returns-else-holds : goal.returns-else-holds
returns-else-holds t c = let k = known c.args.self.now c.args.row.now c.args.i c.requires (node_of c.node_at-n.result) c.node_at-n.ensures in ite-else k (sym c.from.ensures.shape ∙ ap shape_in c.in-Ite.is) c.value-x-in-Ite.ensures (λ q. true≢false (sym (eq-eqb _ _ q) ∙ sym c.holds.ensures ∙ c.if-holds.false)) c.value-else-holds.ensures

pub returns-in-Comparison : goal.returns-in-Comparison
returns-in-Comparison t c = let k = known c.args.self.now c.args.row.now c.args.i c.requires (node_of c.node_at-n.result) c.node_at-n.ensures in comparison-arm k (sym c.from.ensures.shape ∙ ap shape_in c.in-Comparison.is) (comparison_of c.in-Comparison.o) (kind-meaning _ _ c.from.ensures.kind ∙ ap meaning_in c.in-Comparison.is) c.value-x-in-Comparison.ensures c.value-y-in-Comparison.ensures c.comparison.ensures c.bit.ensures.width c.bit.ensures.number

pub returns-in-Negation : goal.returns-in-Negation
returns-in-Negation t c = let k = known c.args.self.now c.args.row.now c.args.i c.requires (node_of c.node_at-n.result) c.node_at-n.ensures in negation-arm k (sym c.from.ensures.shape ∙ ap shape_in c.in-Negation.is) c.value-x-in-Negation.ensures c.bit-in-Negation.ensures.width (c.bit-in-Negation.ensures.number ∙ ap not c.holds-in-Negation.ensures)

pub returns-in-Connective : goal.returns-in-Connective
returns-in-Connective t c = let k = known c.args.self.now c.args.row.now c.args.i c.requires (node_of c.node_at-n.result) c.node_at-n.ensures in connective-arm k (sym c.from.ensures.shape ∙ ap shape_in c.in-Connective.is) (connective_of c.in-Connective.o) (kind-meaning _ _ c.from.ensures.kind ∙ ap meaning_in c.in-Connective.is) c.value-x-in-Connective.ensures c.value-y-in-Connective.ensures c.bit-in-Connective.ensures.width (c.bit-in-Connective.ensures.number ∙ c.connective.ensures ∙ (λ i. connective_of c.in-Connective.o (c.holds-in-Connective.ensures i) (c.holds-in-Connective-2.ensures i)))

pub returns-in-Unary : goal.returns-in-Unary
returns-in-Unary t c = let k = known c.args.self.now c.args.row.now c.args.i c.requires (node_of c.node_at-n.result) c.node_at-n.ensures in unary-arm k (sym c.from.ensures.shape ∙ ap shape_in c.in-Unary.is) (unary_of c.in-Unary.o) (kind-meaning _ _ c.from.ensures.kind ∙ ap meaning_in c.in-Unary.is) c.value-x-in-Unary.ensures c.unary.ensures.width c.unary.ensures.number

pub returns-in-Select : goal.returns-in-Select
returns-in-Select t c = let k = known c.args.self.now c.args.row.now c.args.i c.requires (node_of c.node_at-n.result) c.node_at-n.ensures in absurd (no-shape k c.from.result (sym c.from.ensures.shape) c.in-Select.is)
