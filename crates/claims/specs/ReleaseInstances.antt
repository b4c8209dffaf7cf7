-- The claims on releases, at files: the rule that used `idx` at 16 and at 17 bits, one that agrees, scripts that cannot be read, and an empty file.
use Rattle.std.specs.Prelude.{ℕ, zero, suc, ◌<◌, ◌≡◌, refl, List, [], ◌∷◌, ◌++◌, length, replicate}
use Rattle.std.proofs.Common.{ap, sym, ◌∙◌, subst, arith}
use Rattle.std.proofs.Math.Option.{some}
use Rattle.std.proofs.Math.ListN.{get_elem?}
use Rattle.lists.specs.Bytes.{bytes}
use Rattle.reading.specs.Trees.{none, Reading}
use Rattle.script_lines.specs.Lines.{joined, begins, until_check, following_script, cut_up_to, scripts_of}
use Rattle.echo_spec.specs.Input.{nodes_within, column_within, arena_within, within_limits}
use Rattle.readback.specs.Records.{record_bytes, records_bytes, inputs}
use Rattle.readback.specs.ReadAnswers.{limits_passed}
use Rattle.readback.specs.ScriptReader.{reading_in}
use Rattle.readback.specs.Examples.{all_read}
use Rattle.releases.specs.Release.{
  a_variable,
  same_meaning,
  Declared,
  all_declared,
  differ,
  disagree,
  earliest,
  to_read,
  read_refusal,
  declarations_in,
  told,
  meaning_answer,
  read_in_order,
  scripts_answer,
  release_answer,
}
use Rattle.releases.specs.ReleaseLaws.{Declares}
use Rattle.releases.proofs.ReleaseScripts.{accepted-exactly, seventeen}
use Rattle.release.specs.Told.{told_by}
use Rattle.releases.specs.Release.{ReleaseAnswer}
use Rattle.releases.specs.ReleaseScripts.{ScriptAt, AllRead, FirstUnread, OneMeaning as OneForEach, TwoMeanings}
use Rattle.std.specs.Prelude.{⊤, Result, Ok}
use Rattle.release.specs.declared.ReleaseError.{ReleaseError}
use Rattle.claims.specs.ReleaseClaims.{
  ReleaseContract,
  Refused,
  RefusedFor,
  other_meaning,
  release-accepted,
  one-meaning,
  release-refused,
  earliest-told,
  many-told,
  unread-told,
  after-last-told,
  refusal-numbers,
}

abbrev narrow : List ℕ
narrow = bytes "(set-logic QF_BV)\n(declare-const |idx| (_ BitVec 16))\n(check-sat)\n"

abbrev wide : List ℕ
wide = bytes "(set-logic QF_BV)\n(declare-const |idx| (_ BitVec 17))\n(check-sat)\n"

-- a blank too many: no script
abbrev blank : List ℕ
blank = bytes "(set-logic QF_BV)\n(check-sat) \n(check-sat)\n"

-- `idx` has two meanings; it has one; a script that cannot be read after two that disagree; bytes after the last check-sat line; nothing
abbrev apart : List ℕ
apart = joined (narrow ∷ wide ∷ [])

abbrev alike : List ℕ
alike = joined (wide ∷ wide ∷ [])

abbrev unread : List ℕ
unread = joined (narrow ∷ wide ∷ blank ∷ [])

abbrev goes_on : List ℕ
goes_on = wide ++ bytes "x"

answers : release_answer apart ∷ release_answer alike ∷ release_answer [] ∷ [] ≡ told 17 1 ∷ told 0 0 ∷ told 0 0 ∷ []
unfolding
    joined begins until_check following_script cut_up_to scripts_of nodes_within column_within arena_within within_limits record_bytes records_bytes inputs limits_passed
    all_read same_meaning all_declared differ disagree earliest to_read read_refusal declarations_in meaning_answer read_in_order scripts_answer release_answer
answers = refl

two : release_answer apart ≡ told 17 1
two = cc answers

same : release_answer alike ≡ told 0 0
same = cc answers

nothing : release_answer [] ≡ told 0 0
nothing = cc answers

-- ---------------------------------------------------------------- accepted

-- the one script twice is accepted, and the name means the same in both
told-accepted : (r : Result ⊤ ReleaseError) → ReleaseContract r alike → (r ≡ Ok tt) × OneForEach alike
told-accepted r c = let e : r ≡ Ok tt = (release-accepted alike r c).1 one in (e, one)
  where
    one : OneForEach alike
    one = (accepted-exactly alike).0 (ap (λ (a : ReleaseAnswer). a.number) same)

-- where it means two things, it does not mean one
told-apart : (r : Result ⊤ ReleaseError) → ReleaseContract r apart → OneForEach apart → ⊥
told-apart r c o =
    let z : ◌≡◌ {A = ℕ} 17 0 = sym (ap (λ (a : ReleaseAnswer). a.number) two) ∙ (accepted-exactly apart).1 o in
    omega (arith, z)

-- an empty file is accepted
told-nothing : (r : Result ⊤ ReleaseError) → ReleaseContract r [] → r ≡ Ok tt
told-nothing r c = (release-accepted [] r c).1 ((accepted-exactly []).0 (ap (λ (a : ReleaseAnswer). a.number) nothing))

-- `idx`, with this width
abbrev idx : ℕ → Declared
idx w = record { name = bytes "idx"; meaning = a_variable w }

scripts-of : (scripts_of alike).scripts ≡ wide ∷ wide ∷ []
unfolding
    joined begins until_check following_script cut_up_to scripts_of nodes_within column_within arena_within within_limits record_bytes records_bytes inputs limits_passed
    all_read same_meaning all_declared differ disagree earliest to_read read_refusal declarations_in meaning_answer read_in_order scripts_answer release_answer
scripts-of = refl

-- what the first script says of `idx` the second says too
idx-means : (r : Result ⊤ ReleaseError) → ReleaseContract r alike → (p q : Reading) → reading_in wide ≡ some p → reading_in wide ≡ some q → (w v : ℕ)
    → Declares p.declarations (idx w) → Declares q.declarations (idx v) → a_variable w ≡ a_variable v
idx-means r c p q e f w v d g =
    one-meaning alike r c (told-accepted r c).0 0 1 wide wide (ap (λ (ss : List (List ℕ)). get_elem? ss 0) scripts-of) (ap (λ (ss : List (List ℕ)). get_elem? ss 1) scripts-of) p q e f (idx w) (idx v) d g refl

-- it says something of it
idx-declared : (p : Reading) × (reading_in wide ≡ some p) × Declares p.declarations (idx 17)
unfolding
    joined begins until_check following_script cut_up_to scripts_of nodes_within column_within arena_within within_limits record_bytes records_bytes inputs limits_passed
    all_read same_meaning all_declared differ disagree earliest to_read read_refusal declarations_in meaning_answer read_in_order scripts_answer release_answer
idx-declared = (record { declarations = record { variables = record { name = bytes "idx"; width = 17 } ∷ []; arrays = []; functions = [] }; assertions = none }, refl, (0, refl))

-- ---------------------------------------------------------------- refused

-- the second of the two scripts is told, and disagrees with the first
told-second : (r : Result ⊤ ReleaseError) → ReleaseContract r apart → Refused r 17 1 × TwoMeanings apart 1
told-second r c = let e : Refused r 17 1 = (release-refused apart r c 17 1).1 (other_meaning 1 second) in (e, earliest-told apart r c 1 e)
  where
    second : TwoMeanings apart 1
    second = subst (TwoMeanings apart) (ap (λ (a : ReleaseAnswer). a.script) two) (seventeen apart (ap (λ (a : ReleaseAnswer). a.number) two))

-- the first of the two is not
not_first : (r : Result ⊤ ReleaseError) → ReleaseContract r apart → RefusedFor apart 17 0 → ⊥
not_first r c h =
    let x = (release-refused apart r c 17 0).1 h in
    let q = sym x.script ∙ ap (λ (a : ReleaseAnswer). a.script) (sym (ap told_by x.is) ∙ c ∙ two) in
    let z : ◌≡◌ {A = ℕ} 0 1 = q in
    omega (arith, z)

read-or-not : read_refusal (reading_in narrow) ∷ read_refusal (reading_in wide) ∷ read_refusal (reading_in blank) ∷ [] ≡ 0 ∷ 0 ∷ 13 ∷ []
unfolding
    joined begins until_check following_script cut_up_to scripts_of nodes_within column_within arena_within within_limits record_bytes records_bytes inputs limits_passed
    all_read same_meaning all_declared differ disagree earliest to_read read_refusal declarations_in meaning_answer read_in_order scripts_answer release_answer
read-or-not = refl

narrow-read : read_refusal (reading_in narrow) ≡ 0
narrow-read = cc read-or-not

wide_read : read_refusal (reading_in wide) ≡ 0
wide_read = cc read-or-not

blank-refused : read_refusal (reading_in blank) ≡ 13
blank-refused = cc read-or-not

unread-cut : (to_read (scripts_of unread) ≡ narrow ∷ wide ∷ blank ∷ []) × (length (scripts_of unread).scripts ≡ 3)
unfolding
    joined begins until_check following_script cut_up_to scripts_of nodes_within column_within arena_within within_limits record_bytes records_bytes inputs limits_passed
    all_read same_meaning all_declared differ disagree earliest to_read read_refusal declarations_in meaning_answer read_in_order scripts_answer release_answer
unread-cut = (refl, refl)

-- a script that cannot be read is told, though two before it disagree
told-unread : (r : Result ⊤ ReleaseError) → ReleaseContract r unread → Refused r 13 2
told-unread r c =
    unread-told unread r c 12 2 (let z = unread-cut.1 in omega (arith, z))
    (subst (λ (ss : List (List ℕ)). FirstUnread ss 13 2) (sym unread-cut.0)
    (record { script = blank; at = refl; number = blank-refused; refused = omega arith; before = before }))
  where
    before : (i : ℕ) (s : List ℕ) → i < 2 → ScriptAt (narrow ∷ wide ∷ blank ∷ []) i s → read_refusal (reading_in s) ≡ 0
    before zero s l g = let q : narrow ≡ s = cc in subst (λ (t : List ℕ). read_refusal (reading_in t) ≡ 0) q narrow-read
    before (suc zero) s l g = let q : wide ≡ s = cc in subst (λ (t : List ℕ). read_refusal (reading_in t) ≡ 0) q wide_read
    before (suc (suc i)) s l g = absurd (omega arith)

goes-on-cut : ((scripts_of goes_on).scripts ≡ wide ∷ []) × (length (scripts_of goes_on).rest ≡ 1)
unfolding
    joined begins until_check following_script cut_up_to scripts_of nodes_within column_within arena_within within_limits record_bytes records_bytes inputs limits_passed
    all_read same_meaning all_declared differ disagree earliest to_read read_refusal declarations_in meaning_answer read_in_order scripts_answer release_answer
goes-on-cut = (refl, refl)

-- a byte after the last check-sat line is one more script
told-rest : (r : Result ⊤ ReleaseError) → ReleaseContract r goes_on → Refused r 13 1
told-rest r c =
    let n : length (scripts_of goes_on).scripts ≡ 1 = ap length goes-on-cut.0 in
    let m = goes-on-cut.1 in
    subst (λ (k : ℕ). Refused r 13 k) n (after-last-told goes_on r c (omega (arith, n)) (subst AllRead (sym goes-on-cut.0) read) (omega (arith, m)))
  where
    read : AllRead (wide ∷ [])
    read zero s g = let q : wide ≡ s = cc in subst (λ (t : List ℕ). read_refusal (reading_in t) ≡ 0) q wide_read
    read (suc i) s g = absurd (let z : ◌≡◌ {A = ℕ} 0 1 = cc in omega arith)

-- 65 check-sat lines
abbrev lines : List ℕ
lines = joined (replicate 65 (bytes "(check-sat)\n"))

lines_cut : length (scripts_of lines).scripts ≡ 65
unfolding
    joined begins until_check following_script cut_up_to scripts_of nodes_within column_within arena_within within_limits record_bytes records_bytes inputs limits_passed
    all_read same_meaning all_declared differ disagree earliest to_read read_refusal declarations_in meaning_answer read_in_order scripts_answer release_answer
lines_cut = refl

-- they are too many, before any of them is read
told-many : (r : Result ⊤ ReleaseError) → ReleaseContract r lines → Refused r 9 64
told-many r c = many-told lines r c (let z = lines_cut in omega (arith, z))

-- no release is refused for want of room
never-ten : (file : List ℕ) (r : Result ⊤ ReleaseError) → ReleaseContract r file → (k : ℕ) → Refused r 10 k → ⊥
never-ten file r c k e = refusal-numbers file r c 10 k e
