-- `declare` meets its contract: each return by the test that led there.
use Prim.Native.Nat.{◌-◌}
use mathlib.Core.Bool.{true, false}
use lib.ListN.{drop}
use Rattle.script_tokens.specs.Reached.{between}
use Rattle.script_decls.specs.Lines.{names_to}
use Rattle.script_decls.specs.Going.{no_way, name-bytes, name-first, name-reserved, name-before, found_before, not-before}
use Rattle.script_decls.proofs.declare.Goals as goal
use Rattle.script_decls.proofs.declare.Goals.{then-not-bytes_ok-via-then-not-bytes_ok, then-not-bytes_ok-via-else-not-bytes_ok+then-not-first_ok, then-not-bytes_ok-via-else-not-bytes_ok+else-not-first_ok+then-is_reserved}

pub returns-then-not-bytes_ok : goal.returns-then-not-bytes_ok
returns-then-not-bytes_ok c =
    elim c.then-not-bytes_ok.branch [
      | then-not-bytes_ok-via-then-not-bytes_ok w ↦ (name-bytes (names_to (drop c.args.lines.first c.args.s.now) c.args.lines.count) (between c.args.s.now c.args.a (c.args.f - 1)) c.bytes_ok.ensures w.if-not-bytes_ok.true, no_way)
      | then-not-bytes_ok-via-else-not-bytes_ok+then-not-first_ok w ↦ (name-first (names_to (drop c.args.lines.first c.args.s.now) c.args.lines.count) (between c.args.s.now c.args.a (c.args.f - 1)) c.bytes_ok.ensures w.if-not-bytes_ok.false w.first_ok.ensures w.if-not-first_ok.true, no_way)
      | then-not-bytes_ok-via-else-not-bytes_ok+else-not-first_ok+then-is_reserved w ↦ (name-reserved (names_to (drop c.args.lines.first c.args.s.now) c.args.lines.count) (between c.args.s.now c.args.a (c.args.f - 1)) c.bytes_ok.ensures w.if-not-bytes_ok.false w.first_ok.ensures w.if-not-first_ok.false w.is_reserved.ensures w.if-is_reserved.true, no_way)
    ]

pub returns-in-Some : goal.returns-in-Some
returns-in-Some c = (name-before (names_to (drop c.args.lines.first c.args.s.now) c.args.lines.count) (between c.args.s.now c.args.a (c.args.f - 1)) c.bytes_ok.ensures c.if-not-bytes_ok.false c.first_ok.ensures c.if-not-first_ok.false c.is_reserved.ensures c.if-is_reserved.false true (found_before c.args.s.now c.args.lines.first c.args.lines.count (between c.args.s.now c.args.a (c.args.f - 1)) c.in-Some.ensures), no_way)

pub returns-in-None : goal.returns-in-None
returns-in-None c = (name-before (names_to (drop c.args.lines.first c.args.s.now) c.args.lines.count) (between c.args.s.now c.args.a (c.args.f - 1)) c.bytes_ok.ensures c.if-not-bytes_ok.false c.first_ok.ensures c.if-not-first_ok.false c.is_reserved.ensures c.if-is_reserved.false false (not-before c.args.s.now c.args.lines.first c.args.lines.count (between c.args.s.now c.args.a (c.args.f - 1)) c.in-None.ensures), λ e. (c.enter.ensures.tabled, c.enter.ensures.noted))
