use mathlib.Core.Path.{sym, ap, ◌∙◌}
use native.Mathlib.Omega.{arith}
use Prim.Native.Nat.{ℕ}
use Rattle.echo_pieces.specs.declared.Behind.TheVariants.{Comma, Close}
use Rattle.echo_pieces.specs.Pieces.{piece}
use Rattle.echo_pieces.specs.PieceLaws.{arg-more, arg-last}
use Rattle.echo_pieces.proofs.arg_piece.Goals as goal

pub returns-then-k-n : goal.returns-then-k-n
returns-then-k-n c = c.new.ensures ∙ ap (λ (x : ℕ). piece x 0 Close) c.get-node.ensures ∙ sym (arg-last _ _ _ _ c.if-k-n.true)

pub returns : goal.returns
returns c = c.new-2.ensures ∙ ap (λ (x : ℕ). piece x 0 Comma) c.get-node.ensures ∙ sym (arg-more _ _ _ _ (omega (arith, c.if-k-n.false, c.requires.0)))
