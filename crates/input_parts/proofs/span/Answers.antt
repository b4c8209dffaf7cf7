-- `span` meets its contract: the table's sizes are the definition's. Assumes nothing.
use Rattle.std.proofs.Common.{ap, ◌*◌, ℕ, arith}
use Rattle.input_parts.proofs.Laws.{elements-in, size-is}
use Rattle.input_parts.proofs.span.Goals as goal

pub returns-in-Bytes : goal.returns-in-Bytes
returns-in-Bytes c = omega (arith, ap (λ (z : ℕ). z * c.args.n) (size-is c.args.k c.requires.0 (rw elements-in at c.in-Bytes.is)))

pub returns-in-Numbers : goal.returns-in-Numbers
returns-in-Numbers c = omega (arith, ap (λ (z : ℕ). z * c.args.n) (size-is c.args.k c.requires.0 (rw elements-in at c.in-Numbers.is)))
