-- `find` meets its contract: at each turn no entry from the number on has the name.
use Prim.Native.Nat.{◌-◌}
use mathlib.Core.Path.{refl}
use native.Mathlib.Omega.{arith}
use Rattle.script_tokens.specs.Reached.{between}
use Rattle.release_names.specs.Chains.{walks-start, walks-inside, walks-place, walks-found, walks-on, walks_less, walks-end, told_at}
use Rattle.release_names.proofs.Names.find.Goals as goal

pub loop-c-init : goal.loop-c-init
loop-c-init c = walks-start c.args.s.now c.args.self.now.places c.args.self.now.links c.args.self.now.heads c.args.a c.args.f c.of-own.result.chain _ c.of-own.ensures.0 c.of-own.ensures.2 refl

pub offset_bounds-self-k : goal.offset_bounds-self-k
offset_bounds-self-k c = omega (arith, walks-inside c.args.s.now c.args.self.now.places c.args.self.now.links c.args.self.now.heads c.args.a c.args.f c.requires.1 c.loop-c.c c.loop-c.invariant c.loop-c-test.true c.requires.0)

pub bounds-self-k : goal.bounds-self-k
bounds-self-k c = omega (arith, walks-inside c.args.s.now c.args.self.now.places c.args.self.now.links c.args.self.now.heads c.args.a c.args.f c.requires.1 c.loop-c.c c.loop-c.invariant c.loop-c-test.true c.requires.0)

pub has_name-requires : goal.has_name-requires
has_name-requires c = (walks-inside c.args.s.now c.args.self.now.places c.args.self.now.links c.args.self.now.heads c.args.a c.args.f c.requires.1 c.loop-c.c c.loop-c.invariant c.loop-c-test.true c.requires.0, walks-place c.args.s.now c.args.self.now.places c.args.self.now.links c.args.self.now.heads c.args.a c.args.f c.requires.1 c.loop-c.c c.loop-c.invariant c.loop-c-test.true c.requires.0)

pub returns-then-has_name : goal.returns-then-has_name
returns-then-has_name c = λ xs t. walks-found c.args.s.now c.args.self.now.places c.args.self.now.links c.args.self.now.heads c.args.a c.args.f c.requires.1 c.loop-c.c c.loop-c.invariant c.loop-c-test.true c.has_name.result (told_at c.args.self.now.links (c.loop-c.c - 1) _ c.of-own.result.tag (between c.args.s.now c.args.a (c.args.f - 1)) _ c.has_name.ensures refl c.of-own.ensures.1) xs t c.if-has_name.true

pub loop-c-smaller : goal.loop-c-smaller
loop-c-smaller c = walks_less c.args.s.now c.args.self.now.places c.args.self.now.links c.args.self.now.heads c.args.a c.args.f c.requires.1 c.loop-c.c c.loop-c.invariant c.loop-c-test.true c.requires.0 _ refl

pub loop-c-preserved : goal.loop-c-preserved
loop-c-preserved c = λ xs t. walks-on c.args.s.now c.args.self.now.places c.args.self.now.links c.args.self.now.heads c.args.a c.args.f c.requires.1 c.loop-c.c c.loop-c.invariant c.loop-c-test.true c.has_name.result (told_at c.args.self.now.links (c.loop-c.c - 1) _ c.of-own.result.tag (between c.args.s.now c.args.a (c.args.f - 1)) _ c.has_name.ensures refl c.of-own.ensures.1) xs t _ refl c.if-has_name.false

pub returns : goal.returns
returns c = walks-end c.args.s.now c.args.self.now.places c.args.self.now.links c.args.self.now.heads c.args.a c.args.f c.loop-c.c c.loop-c.invariant c.loop-c-test.false
