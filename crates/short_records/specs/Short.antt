-- Shorter node records: the new form of old bytes, the old form of new bytes, and what the two conversions answer to every input.
--
-- A record of the new form is the kind byte and the operands that its kind has, 32 bits each, least significant byte first. In a record of
-- 17 bytes the operands that a kind has come first and each stands in that same way, so that the new record is the front of the old one.
use Rattle.std.specs.Prelude.{ℕ, zero, suc, ◌*◌, ◌-◌, ◌/◌, List, [], ◌∷◌, ◌++◌, Bool, true, false, ◌&&◌, leb, ltb, length, take, drop, get_or, replicate}
use Rattle.echo_spec.specs.Refusals.{unless, ◌or_else◌}
use Rattle.echo_spec.specs.Shapes.{shape_of, operand_count}
use Rattle.echo_spec.specs.Input.{record_bytes, node_limit, node_bytes_limit, encoded}
use Rattle.echo_spec.specs.Answers.{Answer, text_answer}

-- the bytes of the operands that a kind has
abbrev pub operand_bytes : ℕ → ℕ
operand_bytes k = 4 * operand_count (shape_of k)

-- the bytes of its record in the new form
abbrev pub short_size : ℕ → ℕ
short_size k = suc (operand_bytes k)

-- ---------------------------------------------------------------- old to new

-- the record at the front without the operands that its kind does not have
abbrev pub short_record : List ℕ → List ℕ
short_record s = take (short_size (get_or s 0 0)) s

-- of the first n records
unfoldable pub short_form : ℕ → List ℕ → List ℕ
short_form zero s = []
short_form (suc n) s = short_record s ++ short_form n (drop record_bytes s)

-- the new form of old bytes
abbrev pub shortened : List ℕ → List ℕ
shortened old = short_form (length old / record_bytes) old

-- with endless room: 9, then 8 for what records alone can be wrong in (there are no bits here)
unfoldable pub old_refusal : List ℕ → ℕ
old_refusal old = unless (leb (length old) node_bytes_limit) 9 or_else unless (encoded old []) 8

unfoldable pub shorten_answer : List ℕ → List ℕ → Answer
shorten_answer old lent = text_answer (old_refusal old) (shortened old) lent

-- ---------------------------------------------------------------- new to old

-- is a record of this kind whole, with these bytes behind its kind byte
abbrev pub whole : ℕ → List ℕ → Bool
whole k s = ltb k 39 && leb (operand_bytes k) (length s)

-- of bytes of which at most n records are taken: 9 if they go on after n whole records, whatever follows; 16 if before that they end
-- inside a record or a kind is unknown
unfoldable pub short_refusal : ℕ → List ℕ → ℕ
short_refusal zero [] = 0
short_refusal zero (k ∷ s) = 9
short_refusal (suc n) [] = 0
short_refusal (suc n) (k ∷ s) = elim (whole k s) [ true ↦ short_refusal n (drop (operand_bytes k) s) | false ↦ 16 ]

-- a record with 0 for each operand that its kind does not have
abbrev pub filled : List ℕ → List ℕ
filled r = r ++ replicate (record_bytes - length r) 0

-- the old form of at most n records, which are whole
unfoldable pub long_form : ℕ → List ℕ → List ℕ
long_form zero s = []
long_form (suc n) [] = []
long_form (suc n) (k ∷ s) = filled (k ∷ take (operand_bytes k) s) ++ long_form n (drop (operand_bytes k) s)

-- the old form of new bytes, and what they are refused with, with endless room
abbrev pub lengthened : List ℕ → List ℕ
lengthened new = long_form node_limit new

abbrev pub new_refusal : List ℕ → ℕ
new_refusal new = short_refusal node_limit new

unfoldable pub lengthen_answer : List ℕ → List ℕ → Answer
lengthen_answer new lent = text_answer (new_refusal new) (lengthened new) lent
