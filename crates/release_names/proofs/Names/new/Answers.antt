-- `new` meets its contract: zeros.
use Prim.Native.Nat.{ℕ}
use mathlib.Core.Path.{refl}
use lib.ListN.{length-replicate, get_or-replicate}
use Rattle.release_names.proofs.Names.new.Goals as goal

pub returns : goal.returns
returns c = record {
  places = length-replicate {A = ℕ} 98304 0;
  links = length-replicate {A = ℕ} 98304 0;
  heads = length-replicate {A = ℕ} 4096 0;
  zeros = λ i l. get_or-replicate {A = ℕ} 4096 i 0 0 l;
  none = refl;
}
