-- `result_width` meets its contract, shape by shape.
use native.Mathlib.Omega.{arith}
use Rattle.script_ends.specs.Parts.{shape-at, same-width, extraction-width, concat-width, extension-width, ite-width, other_width, extraction-fits, concat-fits, extension-fits}
use Rattle.script_ends.proofs.result_width.Goals as goal

pub overflow_sub-result : goal.overflow_sub-result
overflow_sub-result c = omega (arith, (extraction-fits c.args.o.kind c.args.o.first c.args.o.second c.args.m c.args.n (shape-at c.args.o.kind c.from.ensures.shape c.in-Extraction.is) c.requires.1).0)

pub overflow_add-result : goal.overflow_add-result
overflow_add-result c = omega (arith, (extraction-fits c.args.o.kind c.args.o.first c.args.o.second c.args.m c.args.n (shape-at c.args.o.kind c.from.ensures.shape c.in-Extraction.is) c.requires.1).1)

pub overflow_add-result-in-Concat : goal.overflow_add-result-in-Concat
overflow_add-result-in-Concat c = omega (arith, concat-fits c.args.o.kind c.args.o.first c.args.o.second c.args.m c.args.n (shape-at c.args.o.kind c.from.ensures.shape c.in-Concat.is) c.requires.0)

pub overflow_add-result-in-Extension : goal.overflow_add-result-in-Extension
overflow_add-result-in-Extension c = omega (arith, extension-fits c.args.o.kind c.args.o.first c.args.o.second c.args.m c.args.n (shape-at c.args.o.kind c.from.ensures.shape c.in-Extension.is) c.requires.0)

pub returns-in-Binary : goal.returns-in-Binary
returns-in-Binary c = same-width c.args.o.kind c.args.o.first c.args.o.second c.args.m c.args.n c.from.result c.from.ensures.shape c.in-Binary.is

pub returns-in-Extraction : goal.returns-in-Extraction
returns-in-Extraction c = extraction-width c.args.o.kind c.args.o.first c.args.o.second c.args.m c.args.n (shape-at c.args.o.kind c.from.ensures.shape c.in-Extraction.is)

pub returns-in-Concat : goal.returns-in-Concat
returns-in-Concat c = concat-width c.args.o.kind c.args.o.first c.args.o.second c.args.m c.args.n (shape-at c.args.o.kind c.from.ensures.shape c.in-Concat.is)

pub returns-in-Extension : goal.returns-in-Extension
returns-in-Extension c = extension-width c.args.o.kind c.args.o.first c.args.o.second c.args.m c.args.n (shape-at c.args.o.kind c.from.ensures.shape c.in-Extension.is)

pub returns-in-Ite : goal.returns-in-Ite
returns-in-Ite c = ite-width c.args.o.kind c.args.o.first c.args.o.second c.args.m c.args.n (shape-at c.args.o.kind c.from.ensures.shape c.in-Ite.is)

pub returns-in_default : goal.returns-in_default
returns-in_default c = other_width c.args.o.kind c.args.o.first c.args.o.second c.args.m c.args.n c.from.result c.from.ensures.shape c.in_default.not-Binary c.in_default.not-Rotation c.in_default.not-Extraction c.in_default.not-Concat c.in_default.not-Extension c.in_default.not-Ite c.in_default.not-Unary
