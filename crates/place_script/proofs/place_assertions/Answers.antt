-- `place_assertions` meets its contract: at each turn the assertions before the place reached are read and placed, and their nodes are the first roots.
use Rattle.std.proofs.Common.{ℕ, ◌≡◌, Option, Some, None, Err, refl, subst, drop, arith}
use Rattle.std.specs.Option.{ok_or}
use Rattle.std.proofs.lemmas.Result.{err_from_is_err_and}
use Rattle.lists.specs.Bytes.{bytes}
use Rattle.place_script.specs.Placing.{placing-start, last-roots, last_none, not-roots, constant-roots, node-high, bits-roots, open-roots, many-roots, roots-further, roots-next}
use Rattle.readback.specs.Reader.{expect}
use Rattle.script_tokens.specs.Reached.{Reached}
use Rattle.script_place.specs.declared.Unread.{Unread}
use Rattle.script_place.specs.declared.Unread.TheVariants.{NoScript}
use Rattle.place_script.proofs.place_assertions.Goals as goal

refused : (o : Option ℕ) (e : Unread) → Err e ≡ ok_or o NoScript → (o ≡ None) × (e ≡ NoScript)
refused None e q = (refl, cc)
refused (Some k) e q = absurd (let z : ⊥ = cc in z)

pub loop-a-init : goal.loop-a-init
loop-a-init c = placing-start _ c.requires.2 c.requires.3 c.requires.4 c.requires.5 c.requires.6 (omega arith)

pub literal-requires : goal.literal-requires
literal-requires c = (c.loop-a.invariant.reads c.loop-a.invariant.declarations c.loop-a.invariant.known).place

pub returns-in_err-z : goal.returns-in_err-z
unfolding bytes
returns-in_err-z c =
    let p = err_from_is_err_and c.from_residual.result c.from_residual.ensures.1 in
    rw (p.1, p.2) (not-roots c.loop-a.invariant c.in-Some.a c.in-Some.ensures.1 _ c.in_err-z.ensures)

pub returns-in_default-operand : goal.returns-in_default-operand
unfolding bytes
returns-in_default-operand c = constant-roots c.loop-a.invariant c.in-Some.a c.in-Some.ensures.1 c.in_ok-z.z c.in_ok-z.ensures c.in_default-operand.field-0 c.in_default-operand.is

pub returns-then-z-ne0 : goal.returns-then-z-ne0
unfolding bytes
returns-then-z-ne0 c = bits-roots c.loop-a.invariant c.in-Some.a c.in-Some.ensures.1 c.in_ok-z.z c.in_ok-z.ensures c.if-z-ne0.true

pub literal-requires-in-Some : goal.literal-requires-in-Some
unfolding bytes
literal-requires-in-Some c = node-high c.loop-a.invariant c.in-Some.a c.in-Some.ensures.1 c.in_ok-z.z c.in_ok-z.ensures

pub returns-in_err-q : goal.returns-in_err-q
unfolding bytes
returns-in_err-q c =
    let p = err_from_is_err_and c.from_residual-in_err-q.result c.from_residual-in_err-q.ensures.1 in
    let q = refused c.literal-in-Some.result _ c.in_err-q.ensures.value in
    rw (p.1, p.2, q.1)
    (open-roots c.loop-a.invariant c.in-Some.a c.in-Some.ensures.1 c.in_ok-z.z c.in_ok-z.ensures c.if-z-ne0.false
    (subst (Reached c.args.script.now.text.now (expect (bytes ")\n") (drop c.in_ok-z.z.end c.args.script.now.text.now))) q.0 c.literal-in-Some.ensures))

pub returns-then-k-eq-MAX_ROOTS : goal.returns-then-k-eq-MAX_ROOTS
unfolding bytes
returns-then-k-eq-MAX_ROOTS c = many-roots c.loop-a.invariant c.in-Some.a c.in-Some.ensures.1 c.in_ok-z.z c.in_ok-z.ensures c.if-k-eq-MAX_ROOTS.true

pub loop-a-smaller : goal.loop-a-smaller
unfolding bytes
loop-a-smaller c = omega (arith, roots-further c.loop-a.invariant c.in-Some.a c.in-Some.ensures.1 c.in_ok-z.z c.in_ok-z.ensures c.if-z-ne0.false c.in-Some.ensures.0 c.in_ok-q.q (subst (Reached c.args.script.now.text.now (expect (bytes ")\n") (drop c.in_ok-z.z.end c.args.script.now.text.now))) c.in_ok-q.ensures.ok_part c.literal-in-Some.ensures).0 (subst (Reached c.args.script.now.text.now (expect (bytes ")\n") (drop c.in_ok-z.z.end c.args.script.now.text.now))) c.in_ok-q.ensures.ok_part c.literal-in-Some.ensures).1, (subst (Reached c.args.script.now.text.now (expect (bytes ")\n") (drop c.in_ok-z.z.end c.args.script.now.text.now))) c.in_ok-q.ensures.ok_part c.literal-in-Some.ensures).0)

pub loop-a-preserved : goal.loop-a-preserved
unfolding bytes
loop-a-preserved c = roots-next c.loop-a.invariant c.in-Some.a c.in-Some.ensures.1 c.in_ok-z.z c.in_ok-z.ensures c.if-z-ne0.false c.in-Some.ensures.0 c.in_ok-q.q (subst (Reached c.args.script.now.text.now (expect (bytes ")\n") (drop c.in_ok-z.z.end c.args.script.now.text.now))) c.in_ok-q.ensures.ok_part c.literal-in-Some.ensures).0 (subst (Reached c.args.script.now.text.now (expect (bytes ")\n") (drop c.in_ok-z.z.end c.args.script.now.text.now))) c.in_ok-q.ensures.ok_part c.literal-in-Some.ensures).1 c.in-Node.i c.in-Node.is c.if-k-eq-MAX_ROOTS.false

pub last_line-requires : goal.last_line-requires
last_line-requires c = (c.loop-a.invariant.reads c.loop-a.invariant.declarations c.loop-a.invariant.known).place

pub returns-then-last_line : goal.returns-then-last_line
unfolding bytes
returns-then-last_line c = last-roots c.loop-a.invariant c.in_default.ensures c.requires.6 c.last_line.ensures c.if-last_line.true

pub returns-else-last_line : goal.returns-else-last_line
unfolding bytes
returns-else-last_line c = last_none c.loop-a.invariant c.in_default.ensures c.requires.6 c.last_line.ensures c.if-last_line.false
