-- Computed examples of both conversions: each clause of the definitions has one that fails without it.
use Rattle.std.specs.Prelude.{ℕ, zero, suc, ◌-◌, ◌≡◌, refl, List, [], ◌∷◌, ◌++◌, map, true, leb, length, replicate}
use Prim.Native.String.{String}
use Rattle.std.proofs.Common.{ap, arith, le-leb}
use Rattle.std.proofs.lemmas.List.{length-replicate}
use Rattle.lists.specs.Build.{tabulate}
use Rattle.echo_spec.specs.Refusals.{unless, ◌or_else◌}
use Rattle.echo_spec.specs.Shapes.{shapes, operand_count}
use Rattle.echo_spec.specs.Input.{word32, node_at, nodes_of, node_encoded, encoded}
use Rattle.echo_spec.specs.Answers.{Answer, text_refusal, echo_answer, text_answer}
use Rattle.echo_spec.specs.Examples.{Example, given, wanted, lent, refused, joined, node}
use Rattle.short_records.specs.Short.{short_size, short_form, old_refusal, shorten_answer, short_refusal, new_refusal, long_form, lengthen_answer}

-- these bytes, and the rest of what was lent as it was
abbrev into : List ℕ → ℕ → Answer
into bytes room = record { number = 0; count = length bytes; output = bytes ++ lent (room - length bytes) }

abbrev shortens : String → List (List ℕ) → ℕ → Answer → Example Answer
shortens label old room wanted = record { label = label; given = shorten_answer (joined old) (lent room); wanted = wanted }

abbrev lengthens : String → List (List ℕ) → ℕ → Answer → Example Answer
lengthens label new room wanted = record { label = label; given = lengthen_answer (joined new) (lent room); wanted = wanted }

-- ---------------------------------------------------------------- sizes

-- the size of each kind's record, 0 to 38
sizes : map short_size (tabulate 39 (λ k. k))
    ≡ 5 ∷ 9 ∷ (replicate 12 9 ++ (13 ∷ 9 ∷ 9 ∷ 9 ∷ 13 ∷ (replicate 10 9 ++ (5 ∷ 9 ∷ 9 ∷ 5 ∷ 5 ∷ 9 ∷ 9 ∷ 9 ∷ 17 ∷ 17 ∷ []))))
unfolding shapes operand_count
sizes = refl

-- ---------------------------------------------------------------- records with one, two, three and four operands

-- Not, Add, Extract and Select, with operands of which each byte counts
abbrev pub old1 : List ℕ
old1 = node 29 67305985 0 0 0

abbrev pub new1 : List ℕ
new1 = 29 ∷ 1 ∷ 2 ∷ 3 ∷ 4 ∷ []

abbrev pub old2 : List ℕ
old2 = node 2 67305985 134678021 0 0

abbrev pub new2 : List ℕ
new2 = 2 ∷ 1 ∷ 2 ∷ 3 ∷ 4 ∷ 5 ∷ 6 ∷ 7 ∷ 8 ∷ []

abbrev pub old3 : List ℕ
old3 = node 14 67305985 134678021 202050057 0

abbrev pub new3 : List ℕ
new3 = 14 ∷ 1 ∷ 2 ∷ 3 ∷ 4 ∷ 5 ∷ 6 ∷ 7 ∷ 8 ∷ 9 ∷ 10 ∷ 11 ∷ 12 ∷ []

abbrev pub old4 : List ℕ
old4 = node 37 67305985 134678021 202050057 269422093

abbrev pub new4 : List ℕ
new4 = 37 ∷ 1 ∷ 2 ∷ 3 ∷ 4 ∷ 5 ∷ 6 ∷ 7 ∷ 8 ∷ 9 ∷ 10 ∷ 11 ∷ 12 ∷ 13 ∷ 14 ∷ 15 ∷ 16 ∷ []

shorten_cases : List (Example Answer)
shorten_cases =
    shortens "nothing" [] 0 (into [] 0)
    ∷ shortens "nothing, a buffer" [] 2 (into [] 2)
    ∷ shortens "one operand" (old1 ∷ []) 7 (into new1 7)
    ∷ shortens "two operands" (old2 ∷ []) 9 (into new2 9)
    ∷ shortens "three operands" (old3 ∷ []) 14 (into new3 14)
    ∷ shortens "four operands" (old4 ∷ []) 18 (into new4 18)
    ∷ shortens "in order" (old1 ∷ old4 ∷ old2 ∷ []) 31 (into (new1 ++ (new4 ++ new2)) 31)
    ∷ shortens "operands that are 0 stay" (node 37 0 0 0 0 ∷ []) 17 (into (37 ∷ replicate 16 0) 17)
    -- 8
    ∷ shortens "no whole records" (old1 ∷ replicate 16 0 ∷ []) 9 (refused 8 9)
    ∷ shortens "the last kind" (node 38 0 0 0 0 ∷ []) 17 (into (38 ∷ replicate 16 0) 17)
    ∷ shortens "an unknown kind" (node 39 0 0 0 0 ∷ []) 9 (refused 8 9)
    ∷ shortens "an unused operand" (node 29 0 0 0 1 ∷ []) 9 (refused 8 9)
    ∷ shortens "an unused operand, behind another record" (old1 ∷ node 14 0 0 0 16777216 ∷ []) 9 (refused 8 9)
    -- 10, and last
    ∷ shortens "one byte short" (old1 ∷ []) 4 (refused 10 4)
    ∷ shortens "exact" (old1 ∷ []) 5 (into new1 5)
    ∷ shortens "8 before 10" (node 39 0 0 0 0 ∷ []) 0 (refused 8 0)
    ∷ []

lengthen_cases : List (Example Answer)
lengthen_cases =
    lengthens "nothing" [] 0 (into [] 0)
    ∷ lengthens "nothing, a buffer" [] 2 (into [] 2)
    ∷ lengthens "one operand" (new1 ∷ []) 18 (into old1 18)
    ∷ lengthens "two operands" (new2 ∷ []) 18 (into old2 18)
    ∷ lengthens "three operands" (new3 ∷ []) 18 (into old3 18)
    ∷ lengthens "four operands" (new4 ∷ []) 18 (into old4 18)
    ∷ lengthens "in order" (new1 ∷ new4 ∷ new2 ∷ []) 52 (into (old1 ++ (old4 ++ old2)) 52)
    -- 16
    ∷ lengthens "a kind alone" ((29 ∷ []) ∷ []) 18 (refused 16 18)
    ∷ lengthens "a byte is missing" ((29 ∷ 1 ∷ 2 ∷ 3 ∷ []) ∷ []) 18 (refused 16 18)
    ∷ lengthens "a byte is missing, behind another record" (new2 ∷ (29 ∷ 1 ∷ 2 ∷ 3 ∷ []) ∷ []) 35 (refused 16 35)
    ∷ lengthens "a byte too many" ((29 ∷ 1 ∷ 2 ∷ 3 ∷ 4 ∷ 37 ∷ []) ∷ []) 35 (refused 16 35)
    ∷ lengthens "the last kind" ((38 ∷ replicate 16 0) ∷ []) 17 (into (38 ∷ replicate 16 0) 17)
    ∷ lengthens "an unknown kind" ((39 ∷ []) ∷ []) 18 (refused 16 18)
    ∷ lengthens "an unknown kind, with bytes behind it" ((255 ∷ replicate 16 0) ∷ []) 18 (refused 16 18)
    -- 10, and last
    ∷ lengthens "one byte short" (new1 ∷ new2 ∷ []) 33 (refused 10 33)
    ∷ lengthens "exact" (new1 ∷ new2 ∷ []) 34 (into (old1 ++ old2) 34)
    ∷ lengthens "16 before 10" ((29 ∷ 1 ∷ 2 ∷ 3 ∷ []) ∷ []) 0 (refused 16 0)
    ∷ []

-- (whoever unfolds this unfolds the definitions named under it)
unfoldable pub computed : Answer → Answer
unfolding
    shorten_answer lengthen_answer old_refusal short_form short_refusal long_form encoded nodes_of node_at word32 node_encoded shapes operand_count text_answer
    text_refusal echo_answer
computed a = a

shorten-cases : given shorten_cases ≡ wanted shorten_cases
unfolding computed shorten_cases
shorten-cases = refl

lengthen-cases : given lengthen_cases ≡ wanted lengthen_cases
unfolding computed lengthen_cases
lengthen-cases = refl

-- ---------------------------------------------------------------- 9

-- old bytes at the limit and one past it (the list is not written out: the limit is about a length alone)
at-the-limit : old_refusal (replicate 34816 0) ≡ unless (encoded (replicate 34816 0) []) 8
unfolding old_refusal
at-the-limit = ap (λ (n : ℕ). unless (leb n 34816) 9 or_else unless (encoded (replicate 34816 0) []) 8) (length-replicate {A = ℕ} 34816 0)

past-the-limit : old_refusal (replicate 34817 0) ≡ 9
unfolding old_refusal
past-the-limit = ap (λ (n : ℕ). unless (leb n 34816) 9 or_else unless (encoded (replicate 34817 0) []) 8) (length-replicate {A = ℕ} 34817 0)

-- new bytes, with a limit of two records: what follows these is not looked at, and what is wrong before is told
limits : map (λ new. short_refusal 2 (joined new)) (
    (new1 ∷ new2 ∷ [])
    ∷ (new1 ∷ new2 ∷ new3 ∷ [])
    ∷ (new1 ∷ new2 ∷ (255 ∷ []) ∷ [])
    ∷ (new1 ∷ new2 ∷ (29 ∷ []) ∷ [])
    ∷ (new1 ∷ (255 ∷ []) ∷ new2 ∷ new3 ∷ [])
    ∷ (new1 ∷ (29 ∷ []) ∷ [])
    ∷ [])
    ≡ 0 ∷ 9 ∷ 9 ∷ 9 ∷ 16 ∷ 16 ∷ []
unfolding short_refusal shapes operand_count
limits = refl

-- n records, and bytes behind them
times : ℕ → List ℕ → List ℕ
times zero rest = rest
times (suc n) rest = 29 ∷ 1 ∷ 2 ∷ 3 ∷ 4 ∷ times n rest

times-limit : (n : ℕ) (b : ℕ) → (short_refusal n (times n []) ≡ 0) × (short_refusal n (times n (b ∷ [])) ≡ 9)
unfolding times short_refusal shapes operand_count
times-limit zero b = (refl, refl)
times-limit (suc n) b =
    let l : (t : List ℕ) → leb 4 (length (1 ∷ 2 ∷ 3 ∷ 4 ∷ t)) ≡ true = λ t. le-leb 4 (length (1 ∷ 2 ∷ 3 ∷ 4 ∷ t)) (omega arith) in
    let h = times-limit n b in
    (rw (l (times n []), short_refusal) h.0, rw (l (times n (b ∷ [])), short_refusal) h.1)

-- and with the limit itself: 2,048 records pass, and one byte behind them does not, whatever it is
limit-of-records : (b : ℕ) → (new_refusal (times 2048 []) ≡ 0) × (new_refusal (times 2048 (b ∷ [])) ≡ 9)
limit-of-records b = times-limit 2048 b
