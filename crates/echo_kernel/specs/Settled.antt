-- What an entry point answers of any text with its number with endless room: by `settle`, the answer of that text. Assumes nothing.
use Rattle.std.specs.Prelude.{ℕ, ◌^◌, ◌≤◌, ◌<◌, ◌≡◌, refl, List, ◌++◌, Bool, true, false, cond, leb, length, drop, Result, Ok, Err}
use Rattle.std.proofs.Common.{ap, ◌∙◌, arith, leb-true, le-leb}
use Rattle.std.proofs.lemmas.Bool.{leb-false, lt-leb}
use Rattle.std.proofs.Math.Nat.{lt_of_not-le}
use Rattle.echo_spec.specs.Answers.{zeroed, text_refusal, echo_answer, text_answer}
use Rattle.refusals.specs.declared.EchoError.{EchoError}
use Rattle.refusals.specs.declared.EchoError.TheVariants.{Room}
use Rattle.refusals.specs.Numbers.{error_number, error-number}
use Rattle.lent.specs.Clearing.{left}
use Rattle.echo_bytes.specs.declared.Place.{Place}
use Rattle.echo_bytes.specs.Page.{Page, page, start, written}
use Rattle.echo_bytes.specs.Laws.{need-exact, written-fits}
use Rattle.echo_script.specs.Outcomes.{Wrote}
use Rattle.echo_kernel.specs.Answered.{answered}

-- the length of a text that is told of, in so much room
abbrev pub settled_as : Result Place EchoError → ℕ → Result ℕ EchoError
settled_as (Ok p) room = cond (leb p.need room) (Ok p.need) (Err Room)
settled_as (Err e) room = Err e

-- ---------------------------------------------------------------- laws

-- a text that is written, by its number and its page
pub outcome-done : {n : ℕ} {t : List ℕ} {pg : Page} {q : Place} {l : List ℕ} → Wrote n t pg (Ok q) l → (n ≡ 0) × (page q l ≡ written pg t)
outcome-done w = (w.told.0, λ i. page (w.told.1 i) (w.told.2 i))

module _ (text lent l : List ℕ) (kept : length l ≡ length lent) where
  refused : (number : ℕ) (e : EchoError) → error_number e ≡ number → answered (Err e) (zeroed l) ≡ text_answer number text lent
  unfolding text_answer text_refusal echo_answer
  refused number e k = rw (← k, kept, error-number e) refl

  no_room : (number : ℕ) → number ≡ 0 → leb (length text) (length lent) ≡ false → answered (Err Room) (zeroed l) ≡ text_answer number text lent
  unfolding text_answer text_refusal echo_answer
  no_room number z f = rw (z, f, kept) refl

  whole : (number : ℕ) → number ≡ 0 → leb (length text) (length lent) ≡ true → {q : Place} → page q l ≡ page (record { at = length text; need = length text }) (text ++ drop (length text) lent)
      → answered (Ok q.need) l ≡ text_answer number text lent
  unfolding text_answer text_refusal echo_answer
  whole number z f e = rw (z, f) (λ i. record { number = 0; count = (e i).place.need; output = (e i).bytes })

  module _ (small : length lent < 2 ^ 63) where
    by_room : (number : ℕ) {q : Place} → Wrote number text (page start lent) (Ok q) l → (b : Bool) → leb q.need (length l) ≡ b
        → answered (cond b (Ok q.need) (Err Room)) (left 0 (cond b (Ok q.need) (Err Room)) l) ≡ text_answer number text lent
    by_room number {q} w true e =
        let d : page q l ≡ written (page start lent) text = (outcome-done w).1 in
        let n : q.need ≡ (written (page start lent) text).place.need = ap (λ (z : Page). z.place.need) d in
        let h : length text ≤ length lent = (need-exact lent text small).0 (omega (arith, leb-true q.need (length l) e)) in
        whole number w.told.0 (le-leb (length text) (length lent) h) (d ∙ written-fits lent text small h)
    by_room number {q} w false e =
        let n : q.need ≡ (written (page start lent) text).place.need = ap (λ (z : Page). z.place.need) (outcome-done w).1 in
        let h : length text ≤ length lent → ⊥ = λ h. let k = (need-exact lent text small).1 h in omega (arith, leb-false q.need (length l) e) in
        no_room number w.told.0 (lt-leb (length text) (length lent) (lt_of_not-le h))

    settles : (number : ℕ) (told : Result Place EchoError) → Wrote number text (page start lent) told l
        → answered (settled_as told (length l)) (left 0 (settled_as told (length l)) l) ≡ text_answer number text lent
    settles number (Ok q) w = by_room number w (leb q.need (length l)) refl
    settles number (Err e) w = refused number e w.told

-- what `settle` answers of a text that was written from the start of the buffer, or refused, is that text's answer
pub settled : (number : ℕ) (text lent : List ℕ) → length lent < 2 ^ 63 → {told : Result Place EchoError} {l : List ℕ}
    → Wrote number text (page start lent) told l → length l ≡ length lent
    → {r : Result ℕ EchoError} {end : List ℕ} → r ≡ settled_as told (length l) → end ≡ left 0 r l → answered r end ≡ text_answer number text lent
settled number text lent small {told} {l} w kept a b = rw (b, a) (settles text lent l kept small number told w)
