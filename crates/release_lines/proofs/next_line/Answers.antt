-- `next_line` meets its contract: what is missing where there is no line, and the places of a line that there is.
use mathlib.Core.Path.{refl, sym, ◌∙◌}
use Rattle.std.specs.Prelude.{Some, None}
use Rattle.release_lines.specs.Walk.{second-byte, has-bar, has-name, has-feed, line-is, no_line, some-line}
use Rattle.release_lines.proofs.next_line.Goals as goal

pub returns-then-byte_at-ne100 : goal.returns-then-byte_at-ne100
returns-then-byte_at-ne100 c =
    no_line c.args.s.now c.args.q (λ x xs h. c.if-byte_at-ne100.true (c.byte_at.ensures ∙ second-byte c.args.s.now c.args.q x xs h))

pub returns-then-b-s : goal.returns-then-b-s
returns-then-b-s c =
    no_line c.args.s.now c.args.q (λ x xs h. has-bar c.args.s.now c.args.q x xs h c.bar_at-b.result c.bar_at-b.ensures c.if-b-s.true)

pub returns-in_err-f : goal.returns-in_err-f
returns-in_err-f c =
    rw c.from_residual.ensures
    (no_line c.args.s.now c.args.q (λ x xs h. has-name c.args.s.now c.args.q x xs h c.bar_at-b.result c.bar_at-b.ensures None c.in_err-f.ensures refl))

pub returns-then-d-s : goal.returns-then-d-s
returns-then-d-s c =
    no_line c.args.s.now c.args.q (λ x xs h. has-feed c.args.s.now c.args.q x xs h c.bar_at-b.result c.bar_at-b.ensures (Some c.in_ok-f.f) _ c.in_ok-f.ensures refl
    c.line_feed-d.result c.line_feed-d.ensures c.if-d-s.true)

pub returns : goal.returns
returns c =
    some-line c.args.s.now c.args.q _ (sym c.byte_at.ensures ∙ c.if-byte_at-ne100.false) (λ x xs h. line-is c.args.s.now c.args.q x xs h c.bar_at-b.result
    c.bar_at-b.ensures (Some c.in_ok-f.f) _ c.in_ok-f.ensures refl c.line_feed-d.result c.line_feed-d.ensures)
