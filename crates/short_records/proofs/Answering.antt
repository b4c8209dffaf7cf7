-- What each way out of a conversion answers. Assumes nothing.
use Prim.Native.Nat.{ℕ, suc, ◌-◌, ◌≤◌, ◌<◌}
use mathlib.Core.Path.{◌≡◌, refl}
use mathlib.Core.List.{List, []}
use mathlib.Core.Bool.{true, false}
use borrow.Author.Tests.{le-leb, lt-leb}
use lib.ListN.{length}
use Rattle.echo_spec.specs.Input.{encoded}
use Rattle.echo_spec.specs.Answers.{at_front, zeroed, text_refusal, echo_answer, text_answer}
use Rattle.refusals.specs.declared.EchoError.{EchoError}
use Rattle.refusals.specs.declared.EchoError.TheVariants.{Room}
use Rattle.refusals.specs.Numbers.{error_number, error-number}
use Rattle.std.specs.Prelude.{Ok, Err}
use Rattle.short_records.specs.Short.{old_refusal}
use Rattle.short_records.specs.Outcomes.{answered}

-- of any result, with its number with endless room
module _ (number : ℕ) (text lent : List ℕ) {out : List ℕ} where
  pub refused : (e : EchoError) → number ≡ error_number e → out ≡ zeroed lent → answered (Err e) out ≡ text_answer number text lent
  unfolding text_answer text_refusal echo_answer
  refused e n z =
      let s : error_number e ≡ suc (error_number e - 1) = error-number e in
      rw (z, n, s) refl

  module _ (n : number ≡ 0) where
    pub no_room : length lent < length text → out ≡ zeroed lent → answered (Err Room) out ≡ text_answer number text lent
    unfolding text_answer text_refusal echo_answer
    no_room l z = rw (z, n, lt-leb (length text) (length lent) l) refl

    pub done : {k : ℕ} → k ≡ length text → k ≤ length lent → out ≡ at_front text lent → answered (Ok k) out ≡ text_answer number text lent
    unfolding text_answer text_refusal echo_answer
    done {k} e l z =
        let m : length text ≤ length lent = rw e at l in
        rw (z, n, e, le-leb (length text) (length lent) m) refl

-- ---------------------------------------------------------------- the checks of old bytes

module _ (old : List ℕ) where
  pub over-limit : 34816 < length old → old_refusal old ≡ 9
  unfolding old_refusal
  over-limit l = rw (lt-leb (length old) 34816 l) refl

  pub ill-encoded : length old ≤ 34816 → encoded old [] ≡ false → old_refusal old ≡ 8
  unfolding old_refusal
  ill-encoded l e = rw (le-leb (length old) 34816 l, e) refl

  pub passed : length old ≤ 34816 → encoded old [] ≡ true → old_refusal old ≡ 0
  unfolding old_refusal
  passed l e = rw (le-leb (length old) 34816 l, e) refl
