-- The number of a refusal, and the refusal with a number.
use Rattle.std.specs.Prelude.{ℕ, suc, ◌-◌, ◌≤◌, ◌<◌, ◌≡◌, refl, [], ◌∷◌, get_or, Result, Ok, Err, ⊤}
use Rattle.std.proofs.Common.{arith}
use Rattle.refusals.specs.declared.Unlisted.{Unlisted}
use Rattle.refusals.specs.declared.EchoError.{EchoError}
use Rattle.refusals.specs.declared.EchoError.TheVariants.{Malformed, Name, Sort, Var, Rotate, Shared, Signature, Encoding, Limit, Room, Clash, ArrayWidth, ShortRecord}

abbrev pub error_number : EchoError → ℕ
error_number Malformed = 1
error_number Name = 2
error_number Sort = 3
error_number Var = 4
error_number Rotate = 5
error_number Shared = 6
error_number Signature = 7
error_number Encoding = 8
error_number Limit = 9
error_number Room = 10
error_number Clash = 11
error_number ArrayWidth = 12
error_number ShortRecord = 16

-- what a check answers as a number: 0 where it passes
abbrev pub refused : {A : Type 0} → Result A EchoError → ℕ
refused (Ok x) = 0
refused (Err e) = error_number e

-- what a number is decoded as
abbrev pub Decodes : ℕ → Result EchoError Unlisted → Type 0
Decodes n (Ok e) = error_number e ≡ n
Decodes n (Err u) = (u.0 ≡ n) × ((e : EchoError) → error_number e ≡ n → ⊥)

-- the refusal with this number, from 1 to 12 or 16; the three before 16 are none's here: 14 and 15 are those of the replay of a trace, whose
-- answer has them
abbrev pub error_of : ℕ → EchoError
error_of n = get_or (Malformed ∷ Name ∷ Sort ∷ Var ∷ Rotate ∷ Shared ∷ Signature ∷ Encoding ∷ Limit ∷ Room ∷ Clash ∷ ArrayWidth ∷ ArrayWidth ∷ ArrayWidth ∷ ArrayWidth ∷ ShortRecord ∷ []) (n - 1) ArrayWidth

-- the numbers that a problem is refused with
abbrev pub Numbered : ℕ → Type 0
Numbered n = (0 < n) × (n ≤ 12)

-- ---------------------------------------------------------------- laws

-- no refusal has the number of an acceptance
pub error-number : (e : EchoError) → error_number e ≡ suc (error_number e - 1)
error-number Malformed = refl
error-number Name = refl
error-number Sort = refl
error-number Var = refl
error-number Rotate = refl
error-number Shared = refl
error-number Signature = refl
error-number Encoding = refl
error-number Limit = refl
error-number Room = refl
error-number Clash = refl
error-number ArrayWidth = refl
error-number ShortRecord = refl

pub error-small : (e : EchoError) → error_number e ≤ 16
error-small Malformed = omega arith
error-small Name = omega arith
error-small Sort = omega arith
error-small Var = omega arith
error-small Rotate = omega arith
error-small Shared = omega arith
error-small Signature = omega arith
error-small Encoding = omega arith
error-small Limit = omega arith
error-small Room = omega arith
error-small Clash = omega arith
error-small ArrayWidth = omega arith
error-small ShortRecord = omega arith

-- each refusal is the one with its number
pub error-at : (e : EchoError) → error_of (error_number e) ≡ e
error-at Malformed = refl
error-at Name = refl
error-at Sort = refl
error-at Var = refl
error-at Rotate = refl
error-at Shared = refl
error-at Signature = refl
error-at Encoding = refl
error-at Limit = refl
error-at Room = refl
error-at Clash = refl
error-at ArrayWidth = refl
error-at ShortRecord = refl
