-- `echo_pieces::push_enclosed` meets its contract: three words, stored whole or one after the other. Assumes nothing.
use mathlib.Core.Path.{refl}
use native.Mathlib.Omega.{arith}
use Rattle.echo_pieces.proofs.Enclosing.{written-enclosed}
use Rattle.echo_pieces.proofs.push_enclosed.Goals as goal

pub returns-then-w-le-WORD : goal.returns-then-w-le-WORD
returns-then-w-le-WORD c =
    written-enclosed _ _ _ _ _ _ _ _ _ _ _ refl refl refl (omega arith) c.copy_word.ensures c.copy_word-then-w-le-WORD.ensures c.copy_word-then-w-le-WORD-2.ensures c.moved.ensures
