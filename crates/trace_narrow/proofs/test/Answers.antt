use Rattle.std.proofs.Common.{sym, ◌∙◌, arith}
use Rattle.lent.specs.Records.{node_of}
use Rattle.blast_kernel.specs.Kinds.{shape_in}
use Rattle.trace_narrow.specs.Marks.{narrow-open, narrow_wide, leaf-passed, two-passed, one-passed, extraction-passed, ite-passed, none-passed}
use Rattle.trace_narrow.proofs.test.Goals as goal

pub returns-then-get-gt64 : goal.returns-then-get-gt64
returns-then-get-gt64 c = narrow_wide (omega (arith, c.get.ensures))

pub returns-in-Var : goal.returns-in-Var
returns-in-Var c = narrow-open (node_of c.node_of-n.result) c.node_of-n.ensures (shape_in c.from.result) (sym c.from.ensures.shape) (omega (arith, c.get.ensures)) (λ d. leaf-passed d c.args.marks.now (node_of c.node_of-n.result) c.from.result c.in-Var.is)

pub returns-in-Binary : goal.returns-in-Binary
returns-in-Binary c = narrow-open (node_of c.node_of-n.result) c.node_of-n.ensures (shape_in c.from.result) (sym c.from.ensures.shape) (omega (arith, c.get.ensures)) (λ d. c.all_marked.ensures ∙ two-passed d c.args.marks.now (node_of c.node_of-n.result) c.from.result c.in-Binary.is)

pub returns-in-Rotation : goal.returns-in-Rotation
returns-in-Rotation c = narrow-open (node_of c.node_of-n.result) c.node_of-n.ensures (shape_in c.from.result) (sym c.from.ensures.shape) (omega (arith, c.get.ensures)) (λ d. c.all_marked-in-Rotation.ensures ∙ one-passed d c.args.marks.now (node_of c.node_of-n.result) c.from.result c.in-Rotation.is)

pub returns-in-Extraction : goal.returns-in-Extraction
returns-in-Extraction c = narrow-open (node_of c.node_of-n.result) c.node_of-n.ensures (shape_in c.from.result) (sym c.from.ensures.shape) (omega (arith, c.get.ensures)) (λ d. c.all_marked-in-Extraction.ensures ∙ extraction-passed d c.args.marks.now (node_of c.node_of-n.result) c.from.result c.in-Extraction.is)

pub returns-in-Ite : goal.returns-in-Ite
returns-in-Ite c = narrow-open (node_of c.node_of-n.result) c.node_of-n.ensures (shape_in c.from.result) (sym c.from.ensures.shape) (omega (arith, c.get.ensures)) (λ d. c.all_marked-in-Ite.ensures ∙ ite-passed d c.args.marks.now (node_of c.node_of-n.result) c.from.result c.in-Ite.is)

pub returns-in-Select : goal.returns-in-Select
returns-in-Select c = narrow-open (node_of c.node_of-n.result) c.node_of-n.ensures (shape_in c.from.result) (sym c.from.ensures.shape) (omega (arith, c.get.ensures)) (λ d. none-passed d c.args.marks.now (node_of c.node_of-n.result) c.from.result c.in-Select.is)
