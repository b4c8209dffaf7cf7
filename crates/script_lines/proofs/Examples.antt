-- A text that is no script's.
use Rattle.std.specs.Prelude.{ℕ, ◌≡◌, []}
use Rattle.std.proofs.Math.Option.{Option, some}
use Rattle.std.proofs.Common.{arith}
use Rattle.lists.specs.Bytes.{bytes}
use Rattle.script_lines.specs.Lines.{IsScript, begins, until_check, following_script}
use Rattle.script_lines.proofs.Laws.{next-of-script}

-- ---------------------------------------------------------------- a script by the law of lines

-- the last line twice is no script's text, since it is the last line alone
twice : IsScript (bytes "(check-sat)\n(check-sat)\n") → ⊥
unfolding following_script until_check begins bytes
twice h = absurd (no_both (next-of-script (bytes "(check-sat)\n(check-sat)\n") h []))
  where
    no_both : ◌≡◌ {A = Option ℕ} (some 12) (some 24) → ⊥
    no_both e = let z : ◌≡◌ {A = ℕ} 12 24 = cc in omega arith
