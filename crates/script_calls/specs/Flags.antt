-- A flag for each function: whether an assertion calls it.
use Rattle.std.specs.Prelude.{ℕ, ◌<◌, ◌≡◌, List, Bool, false, length, get_or}
use Rattle.reading.specs.Trees.{Trees, Declarations}
use Rattle.readback.specs.Rebuild.{calls_any}
use Rattle.rebuilt.specs.Built.{function_at}

-- the first 512 functions are flagged by the trees that call them
pub record Flagged (D : Declarations) (ts : Trees) (l : List Bool) : Type 0 where
  pub long : length l ≡ 512
  pub flags : (g : ℕ) → g < 512 → g < length D.functions → get_or l g false ≡ calls_any (function_at D g).name ts
