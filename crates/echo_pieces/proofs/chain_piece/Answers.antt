use mathlib.Core.Path.{sym, ap, ◌∙◌}
use native.Mathlib.Omega.{arith}
use Prim.Native.Nat.{ℕ}
use Rattle.std.proofs.Common.{length-drop}
use Rattle.echo_pieces.specs.declared.Behind.TheVariants.{Comma, CloseComma}
use Rattle.echo_pieces.specs.Pieces.{piece}
use Rattle.echo_pieces.specs.PieceLaws.{store-index, store-value, chain-last}
use Rattle.echo_pieces.proofs.chain_piece.Goals as goal

pub overflow_add-m : goal.overflow_add-m
overflow_add-m c = omega (arith, c.requires.1, length-drop c.args.s c.args.side.now)

pub returns-then-k-m : goal.returns-then-k-m
returns-then-k-m c = c.new.ensures ∙ sym (chain-last _ _ _ _ _ c.if-k-m.true)

pub returns-then-k-eq0 : goal.returns-then-k-eq0
returns-then-k-eq0 c =
    c.new-then-k-eq0.ensures
    ∙ ap (λ (x : ℕ). piece x 0 Comma) c.get.ensures ∙ sym (store-index _ _ _ _ _ (omega (arith, c.if-k-m.false, c.requires.0)) c.if-k-eq0.true)

pub returns : goal.returns
returns c =
    c.new-2.ensures
    ∙ ap (λ (x : ℕ). piece x 0 CloseComma) c.get-2.ensures ∙ sym (store-value _ _ _ _ _ (omega (arith, c.if-k-m.false, c.requires.0)) c.if-k-eq0.false)
