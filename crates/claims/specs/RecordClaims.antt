-- Shorter records and back: what is promised of `shorten` and `lengthen`. A reader who believes the definitions
-- (`short_records/specs/Short.antt`: the new form and what is refused) can stop at this page.
use Rattle.std.specs.Prelude.{ℕ, suc, ◌+◌, ◌*◌, ◌≤◌, ◌≡◌, refl, List, [], ◌∷◌, ◌++◌, ◌↔◌, T, length, take, drop, replicate}
use Rattle.std.proofs.Common.{sym, ap, ◌∙◌}
use Rattle.std.proofs.Math.Seq.{take-append_seam}
use Rattle.lists.specs.Tests.{among}
use Rattle.echo_spec.specs.Input.{nodes_of}
use Rattle.echo_spec.specs.Answers.{Answer}
use Rattle.theorems.specs.Answered.{text-acceptance, text-refused, text-accepted, text-listed}
use Rattle.std.specs.Prelude.{Result, Ok}
use Rattle.refusals.specs.declared.EchoError.{EchoError}
use Rattle.short_records.specs.Short.{shortened, old_refusal, shorten_answer, lengthened, new_refusal, lengthen_answer}
use Rattle.short_records.specs.Outcomes.{answered}
use Rattle.short_records.specs.RoundTrips.{operands_of, old-back, new-back, shortened-length, shortened-bound, old-listed, new-listed}
use Rattle.short_records.specs.Words.{Bytes, form_of, shortened-words}
use Rattle.short_records.proofs.shorten.Reads as shorten-code
use Rattle.short_records.proofs.lengthen.Reads as lengthen-code

-- Old bytes that 9 and 8 pass, and new bytes that 9 and 16 pass.
abbrev pub OldForm : List ℕ → Type 0
OldForm old = old_refusal old ≡ 0

abbrev pub NewForm : List ℕ → Type 0
NewForm new = new_refusal new ≡ 0

-- The result at the front of the buffer, its length beside it, and the rest of the buffer as it was.
abbrev pub result_over : List ℕ → List ℕ → Answer
result_over result lent = record { number = 0; count = length result; output = result ++ drop (length result) lent }

-- ---------------------------------------------------------------- what is answered

-- `shorten` answers acceptance, 8, 9 or 10, and `lengthen` acceptance, 9, 10 or 16.
pub shorten-listed : (old lent : List ℕ) → T (among (0 ∷ 8 ∷ 9 ∷ 10 ∷ []) (shorten_answer old lent).number)
unfolding shorten_answer
shorten-listed old lent = text-listed (among (0 ∷ 8 ∷ 9 ∷ 10 ∷ [])) (old_refusal old) (shortened old) lent tt tt (old-listed old)

pub lengthen-listed : (new lent : List ℕ) → T (among (0 ∷ 9 ∷ 10 ∷ 16 ∷ []) (lengthen_answer new lent).number)
unfolding lengthen_answer
lengthen-listed new lent = text-listed (among (0 ∷ 9 ∷ 10 ∷ 16 ∷ [])) (new_refusal new) (lengthened new) lent tt tt (new-listed 2048 new)

-- Given room, every form that passes is converted: an acceptance is that and nothing else.
pub shortens : (old lent : List ℕ) → OldForm old → length (shortened old) ≤ length lent → shorten_answer old lent ≡ result_over (shortened old) lent
unfolding shorten_answer
shortens old lent h l = text-acceptance (old_refusal old) (shortened old) lent ((text-accepted (old_refusal old) (shortened old) lent).1 (h, l))

pub lengthens : (new lent : List ℕ) → NewForm new → length (lengthened new) ≤ length lent → lengthen_answer new lent ≡ result_over (lengthened new) lent
unfolding lengthen_answer
lengthens new lent h l = text-acceptance (new_refusal new) (lengthened new) lent ((text-accepted (new_refusal new) (lengthened new) lent).1 (h, l))

pub shorten-accepts : (old lent : List ℕ) → ((shorten_answer old lent).number ≡ 0) ↔ (OldForm old × (length (shortened old) ≤ length lent))
unfolding shorten_answer
shorten-accepts old lent = text-accepted (old_refusal old) (shortened old) lent

pub lengthen-accepts : (new lent : List ℕ) → ((lengthen_answer new lent).number ≡ 0) ↔ (NewForm new × (length (lengthened new) ≤ length lent))
unfolding lengthen_answer
lengthen-accepts new lent = text-accepted (new_refusal new) (lengthened new) lent

-- A refusal has length 0 and a zeroed output.
pub shorten-refuses : (old lent : List ℕ) (n : ℕ) → (shorten_answer old lent).number ≡ suc n
    → shorten_answer old lent ≡ record { number = suc n; count = 0; output = replicate (length lent) 0 }
unfolding shorten_answer
shorten-refuses old lent = text-refused (old_refusal old) (shortened old) lent

pub lengthen-refuses : (new lent : List ℕ) (n : ℕ) → (lengthen_answer new lent).number ≡ suc n
    → lengthen_answer new lent ≡ record { number = suc n; count = 0; output = replicate (length lent) 0 }
unfolding lengthen_answer
lengthen-refuses new lent = text-refused (new_refusal new) (lengthened new) lent

-- ---------------------------------------------------------------- either way round

-- What was shortened is lengthened to the bytes begun with, given room.
pub old-new-old : (old lent lent' : List ℕ) → OldForm old → length (shortened old) ≤ length lent → length old ≤ length lent'
    → (shorten_answer old lent ≡ result_over (shortened old) lent) × (lengthen_answer (shortened old) lent' ≡ result_over old lent')
old-new-old old lent lent' h l m =
    let b = old-back old h in
    (shortens old lent h l, lengthens (shortened old) lent' b.0 (rw b.1 m) ∙ rw b.1 refl)

-- And what was lengthened is shortened to the bytes begun with.
pub new-old-new : (new lent lent' : List ℕ) → NewForm new → length (lengthened new) ≤ length lent → length new ≤ length lent'
    → (lengthen_answer new lent ≡ result_over (lengthened new) lent) × (shorten_answer (lengthened new) lent' ≡ result_over new lent')
new-old-new new lent lent' h l m =
    let b = new-back new h in
    (lengthens new lent h l, shortens (lengthened new) lent' b.0 (rw b.1 m) ∙ rw b.1 refl)

-- No two lists of records share a new form, and no two new forms an old one.
pub one-new-form : (old old' : List ℕ) → OldForm old → OldForm old' → shortened old ≡ shortened old' → old ≡ old'
one-new-form old old' h h' e = sym (old-back old h).1 ∙ ap lengthened e ∙ (old-back old' h').1

pub one-old-form : (new new' : List ℕ) → NewForm new → NewForm new' → lengthened new ≡ lengthened new' → new ≡ new'
one-old-form new new' h h' e = sym (new-back new h).1 ∙ ap shortened e ∙ (new-back new' h').1

-- ---------------------------------------------------------------- the new form

-- Its length is 1 a node and 4 an operand.
pub new-length : (old : List ℕ) → length (shortened old) ≡ length (nodes_of old) + 4 * operands_of (nodes_of old)
new-length = shortened-length

-- It is never longer than the old form.
pub never-longer : (old : List ℕ) → length (shortened old) ≤ length old
never-longer = shortened-bound

-- Of bytes, it is the kind byte of each node and then the operands that its kind has, 32 bits each, the lowest byte first.
pub new-words : (old : List ℕ) → Bytes old → shortened old ≡ form_of (nodes_of old)
new-words = shortened-words

-- ---------------------------------------------------------------- the code

-- The contracts of the two functions: the answer and the buffer afterwards, by the bytes and the buffer that were lent. They ask nothing
-- of the caller.
abbrev pub ShortenContract : Result ℕ EchoError → List ℕ → List ℕ → List ℕ → Type 0
ShortenContract r old lent out = answered r out ≡ shorten_answer old lent

abbrev pub LengthenContract : Result ℕ EchoError → List ℕ → List ℕ → List ℕ → Type 0
LengthenContract r new lent out = answered r out ≡ lengthen_answer new lent

-- They are what the functions are proved to ensure: x are the arguments as they are passed, y as they are when the function returns.
pub shorten-contract : (κs : _) (x : _) (r : _) (y : _) → shorten-code.Post κs x r y → ShortenContract r x.0.now x.1.0.now y.1.0.now
shorten-contract κs x r y h = h

pub lengthen-contract : (κs : _) (x : _) (r : _) (y : _) → lengthen-code.Post κs x r y → LengthenContract r x.0.now x.1.0.now y.1.0.now
lengthen-contract κs x r y h = h

-- What was done is the form of the bytes that were lent, at the front of the buffer.
pub shorten-done : (old lent out : List ℕ) (n : ℕ) → ShortenContract (Ok n) old lent out
    → OldForm old × (n ≡ length (shortened old)) × (take n out ≡ shortened old) × (out ≡ shortened old ++ drop (length (shortened old)) lent)
shorten-done old lent out n c =
    let a = (shorten-accepts old lent).0 (sym (ap (λ (x : Answer). x.number) c)) in
    let e = c ∙ shortens old lent a.0 a.1 in
    let k : n ≡ length (shortened old) = ap (λ (x : Answer). x.count) e in
    let o : out ≡ shortened old ++ drop (length (shortened old)) lent = ap (λ (x : Answer). x.output) e in
    (a.0, k, rw (k, o) (take-append_seam (shortened old) (drop (length (shortened old)) lent)), o)

pub lengthen-done : (new lent out : List ℕ) (n : ℕ) → LengthenContract (Ok n) new lent out
    → NewForm new × (n ≡ length (lengthened new)) × (take n out ≡ lengthened new) × (out ≡ lengthened new ++ drop (length (lengthened new)) lent)
lengthen-done new lent out n c =
    let a = (lengthen-accepts new lent).0 (sym (ap (λ (x : Answer). x.number) c)) in
    let e = c ∙ lengthens new lent a.0 a.1 in
    let k : n ≡ length (lengthened new) = ap (λ (x : Answer). x.count) e in
    let o : out ≡ lengthened new ++ drop (length (lengthened new)) lent = ap (λ (x : Answer). x.output) e in
    (a.0, k, rw (k, o) (take-append_seam (lengthened new) (drop (length (lengthened new)) lent)), o)

-- What a call of `shorten` wrote, a call of `lengthen` with room for the old bytes turns into these; and the other way about.
pub back-to-old : (old lent out : List ℕ) (n : ℕ) (r : Result ℕ EchoError) (lent' out' : List ℕ) → ShortenContract (Ok n) old lent out
    → length old ≤ length lent' → LengthenContract r (take n out) lent' out' → answered r out' ≡ result_over old lent'
back-to-old old lent out n r lent' out' c l d =
    let h = shorten-done old lent out n c in
    let b = old-back old h.0 in
    d ∙ rw h.2 (lengthens (shortened old) lent' b.0 (rw b.1 l) ∙ rw b.1 refl)

pub back-to-new : (new lent out : List ℕ) (n : ℕ) (r : Result ℕ EchoError) (lent' out' : List ℕ) → LengthenContract (Ok n) new lent out
    → length new ≤ length lent' → ShortenContract r (take n out) lent' out' → answered r out' ≡ result_over new lent'
back-to-new new lent out n r lent' out' c l d =
    let h = lengthen-done new lent out n c in
    let b = new-back new h.0 in
    d ∙ rw h.2 (shortens (lengthened new) lent' b.0 (rw b.1 l) ∙ rw b.1 refl)

-- The length that `shorten` answers, and the same bytes of two calls.
pub shorten-length : (old lent out : List ℕ) (n : ℕ) → ShortenContract (Ok n) old lent out → n ≡ length (nodes_of old) + 4 * operands_of (nodes_of old)
shorten-length old lent out n c = (shorten-done old lent out n c).1 ∙ new-length old

pub same_bytes : (old lent out old' lent' out' : List ℕ) (n n' : ℕ) → ShortenContract (Ok n) old lent out → ShortenContract (Ok n') old' lent' out'
    → take n out ≡ take n' out' → old ≡ old'
same_bytes old lent out old' lent' out' n n' c c' e =
    let h = shorten-done old lent out n c in
    let h' = shorten-done old' lent' out' n' c' in
    one-new-form old old' h.0 h'.0 (sym h.2 ∙ e ∙ h'.2)
