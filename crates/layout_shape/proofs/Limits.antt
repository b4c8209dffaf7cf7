-- The code's table is the definition's, no limit is over 131,072, and there is room for as many elements as a limit allows. Assumes nothing.
use Rattle.std.proofs.Common.{◌≡◌, ℕ, ◌≤◌, ◌<◌, Bool, ◌&&◌, T, leb, leb→le, List, map, get_or, sym, arith}
use Rattle.std.proofs.Math.ListN.{get_or-map}
use Rattle.lists.specs.Tests.{every-at, and_0, and-1}
use Rattle.input_parts.specs.Parts.{rooms, room_of}
use Rattle.input_parts.specs.declared.Input as code
use Rattle.layout_shape.specs.Layout.{inputs, input_at}

pub name-in : (table : List code.Input) (k : ℕ) (past : code.Input) → (get_or table k past).0.now ≡ get_or (map (λ i. i.0.now) table) k past.0.now
name-in table k past = sym (get_or-map (λ i. i.0.now) table k past)

pub limit-in : (table : List code.Input) (k : ℕ) (past : code.Input) → (get_or table k past).1 ≡ get_or (map (λ i. i.1) table) k past.1
limit-in table k past = sym (get_or-map (λ i. i.1) table k past)

-- one computed test for each input
abbrev small : ℕ → Bool
small k = leb (input_at k).limit 131072

abbrev roomy : ℕ → Bool
roomy k = leb (input_at k).limit (room_of k)

module _ (k : ℕ) (h : k < 18) where
  tested : T (small k && roomy k)
  unfolding inputs input_at rooms room_of
  tested = every-at (λ j. small j && roomy j) 0 18 tt k (omega arith) h

  pub limit-bound : (input_at k).limit ≤ 131072
  limit-bound = leb→le (input_at k).limit 131072 (and_0 (small k) (roomy k) tested)

  pub limit-room : (input_at k).limit ≤ room_of k
  limit-room = leb→le (input_at k).limit (room_of k) (and-1 (small k) (roomy k) tested)
