-- No roots yet.
use Rattle.std.specs.Prelude.{ℕ, ◌≡◌, length, replicate}
use Rattle.std.proofs.lemmas.List.{length-replicate}

pub fresh-roots : length {A = ℕ} (replicate 256 0) ≡ 256
fresh-roots = length-replicate {A = ℕ} 256 0
