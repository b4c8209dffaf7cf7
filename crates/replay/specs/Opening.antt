-- An unpacked problem: a header of 32-bit numbers, the inputs one after the other, and the result. The header has the
-- count of each input, the length of what is lent, the number and the count of the answer.
use Rattle.std.specs.Prelude.{ℕ, zero, suc, ◌+◌, ◌-◌, ◌*◌, Bool, true, ◌&&◌, List, [], Option, Some, None, length, take, drop, min, ◌==◌, nat_le, nat_lt}
use Rattle.echo_spec.specs.Input.{word32}
use Rattle.input_parts.specs.Parts.{size_of, room_of}
use Rattle.replay.specs.declared.Recorded.{Recorded}
use Rattle.replay.specs.declared.Recorded.TheVariants.{Widths, Printed, Sizes, Fewest}
use Rattle.replay.specs.declared.records.Answer.{Answer}
use Rattle.replay.specs.Unpacking.{pick}

-- n elements from a place on, or none if they are not all there
abbrev pub part_of : {A : Type 0} → List A → ℕ → ℕ → List A
part_of s at n = pick (nat_le (at + n) (length s)) (take n (drop at s)) []

-- number k of a header of n numbers, or 0 where the header is not all there
abbrev pub header_of : ℕ → List ℕ → ℕ → ℕ
header_of n s k = pick (nat_lt k n && nat_le (4 * n) (length s)) (min (word32 s (4 * k)) 1000000) 0

-- the first fourteen inputs, or all
abbrev pub inputs_of : Recorded → ℕ
inputs_of Widths = 14
inputs_of (Printed x) = 18
inputs_of Sizes = 18
inputs_of Fewest = 18

-- the bytes of an acceptance's result: a number for each node, the script, or the terms as one number
abbrev pub accepted_bytes : Recorded → ℕ → ℕ
accepted_bytes Widths count = 8 * count
accepted_bytes (Printed x) count = count
accepted_bytes Sizes count = 8
accepted_bytes Fewest count = 0

-- of a refusal's: the positions of roots, or nothing
abbrev pub refused_bytes : Recorded → ℕ → ℕ
refused_bytes Widths count = 0
refused_bytes (Printed x) count = 0
refused_bytes Sizes count = 0
refused_bytes Fewest count = 8 * count

abbrev pub result_bytes : Recorded → ℕ → ℕ → ℕ
result_bytes list number count = pick (number == 0) (accepted_bytes list count) (refused_bytes list count)

-- where input k begins, of n, and behind the last the result
unfoldable pub place_at : List ℕ → ℕ → ℕ → ℕ
place_at s n zero = 4 * (n + 3)
place_at s n (suc k) = place_at s n k + size_of k * word32 s (4 * k)

-- m inputs from k on: there is room for each, and it is there
unfoldable pub inputs_ok : List ℕ → ℕ → ℕ → ℕ → Bool
inputs_ok s n k zero = true
inputs_ok s n k (suc m) = nat_le (word32 s (4 * k)) (room_of k) && (nat_le (place_at s n (suc k)) (length s) && inputs_ok s n (suc k) m)

-- what the header has behind the counts, and the result
pub record Head : Type 0 where
  pub room : ℕ
  pub recorded : Answer
  pub result : List ℕ

abbrev pub head_of : List ℕ → ℕ → Head
head_of s n = record {
  room = word32 s (4 * n);
  recorded = record { number = word32 s (4 * n + 4); count = word32 s (4 * n + 8) };
  result = drop (place_at s n n) s;
}

unfoldable pub whole_of : Recorded → List ℕ → ℕ → Bool
whole_of list s n =
    nat_le (4 * (n + 3)) (length s)
    && (inputs_ok s n 0 n && length s - place_at s n n == result_bytes list (head_of s n).recorded.number (head_of s n).recorded.count)

abbrev pub opened_of : Recorded → List ℕ → Option Head
opened_of list s = pick (whole_of list s (inputs_of list)) (Some (head_of s (inputs_of list))) None
