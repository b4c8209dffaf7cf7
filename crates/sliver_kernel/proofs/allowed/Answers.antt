-- `allowed` meets its contract: a range from 1 on. Assumes nothing.
use Rattle.std.specs.Prelude.{ℕ, ◌≡◌, ltb, leb}
use Rattle.std.proofs.Common.{arith}
use Rattle.std.specs.Ordering.{nat_cmp, is_le}
use Rattle.std.proofs.lemmas.Bool.Decides.{nat_tests}
use Rattle.sliver_kernel.proofs.allowed.Goals as goal

le-cmp : (a b : ℕ) → is_le (nat_cmp a b) ≡ leb a b
le-cmp a b = grind (arith, nat_tests)

from-one : (w : ℕ) → leb 1 w ≡ ltb 0 w
from-one w = grind (arith, nat_tests)

pub returns : goal.returns
returns c = rw (c.new.ensures.start, c.new.ensures.end, c.new.ensures.exhausted, le-cmp, le-cmp, from-one) at c.contains.ensures.value
