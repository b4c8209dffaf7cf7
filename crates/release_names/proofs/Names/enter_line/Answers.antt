-- `enter_line` meets its contract: an entry has the name and the same line, or another, or none has it.
use mathlib.Core.Path.{refl, sym, ◌∙◌}
use native.Mathlib.Omega.{arith}
use Rattle.std.specs.Prelude.{Some}
use Rattle.release_names.specs.Held.{found_inside, found-same, found-other, link-small, found-new}
use Rattle.release_names.proofs.Names.enter_line.Goals as goal

pub stands-requires : goal.stands-requires
stands-requires c = (found_inside c.args.s.now c.args.self.now.places c.args.self.now.links c.args.self.now.heads c.args.self.now.count c.args.line.name c.args.line.name_end c.args.line.end (Some c.in-Some.q) c.in-Some.ensures c.requires.0.0 c.requires.1.0 c.requires.0.1 c.requires.1.1 refl).2

pub returns-then-stands : goal.returns-then-stands
returns-then-stands c =
    λ seen x hold line. found-same c.args.s.now c.args.self.now.places c.args.self.now.links c.args.self.now.heads c.args.self.now.count c.args.line.name c.args.line.name_end c.args.line.end (Some c.in-Some.q) c.in-Some.ensures seen x hold line refl (sym c.stands.ensures ∙ c.if-stands.true)

pub returns-in-Some : goal.returns-in-Some
returns-in-Some c =
    λ seen x hold line. found-other c.args.s.now c.args.self.now.places c.args.self.now.links c.args.self.now.heads c.args.self.now.count c.args.line.name c.args.line.name_end c.args.line.end (Some c.in-Some.q) c.in-Some.ensures seen x hold line refl (sym c.stands.ensures ∙ c.if-stands.false)

pub overflow_cast-self-2 : goal.overflow_cast-self-2
overflow_cast-self-2 c = omega (arith, link-small c.args.s.now c.args.self.now.places c.args.self.now.links c.args.self.now.heads c.args.self.now.count c.args.line.name c.args.line.name_end c.args.line.end c.find.result c.find.ensures c.requires.0.0 c.requires.1.0 c.requires.0.1 c.requires.1.1 c.of-own.result.chain c.of-own.result.tag c.of-own.ensures.2 c.of-own.ensures.3)

pub returns : goal.returns
returns c =
    λ seen x hold line. found-new c.args.s.now c.args.self.now.places c.args.self.now.links c.args.self.now.heads c.args.self.now.count c.args.line.name c.args.line.name_end c.args.line.end c.find.result c.find.ensures seen x hold line c.in_default.is c.requires.2 c.of-own.result.chain c.of-own.result.tag _ c.of-own.ensures.0 c.of-own.ensures.1 refl
