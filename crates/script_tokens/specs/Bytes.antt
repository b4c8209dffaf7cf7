-- Laws of decimal digits.
use Rattle.std.specs.Prelude.{ℕ, ◌≤◌, T, leb}
use Rattle.std.proofs.Common.{leb→le}
use Rattle.lists.specs.Tests.{and_0, and-1}
use Rattle.smtlib.specs.Lexicon.{digit}

pub digit-bounds : (c : ℕ) → T (digit c) → (48 ≤ c) × (c ≤ 57)
digit-bounds c h = (leb→le 48 c (and_0 (leb 48 c) (leb c 57) h), leb→le c 57 (and-1 (leb 48 c) (leb c 57) h))
