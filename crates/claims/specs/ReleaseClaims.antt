-- One meaning for a name in a release: what is promised of `check_release`. A file is cut into scripts as in `JoinedScripts`, a
-- script is read as in `ReadClaims`; what a name means and which scripts disagree is defined in the crate `releases`.
use Rattle.std.specs.Prelude.{⊤, Result, Ok, Err, ℕ, zero, suc, ◌≤◌, ◌<◌, ◌≡◌, refl, List, [], ◌∷◌, ◌↔◌, T, eqb, length}
use Rattle.std.proofs.Common.{ap, sym, ◌∙◌, subst, arith, eqb→eq}
use Rattle.std.proofs.Math.Option.{some}
use Rattle.std.proofs.Math.Dec.{not_T}
use Rattle.lists.specs.Tests.{among, or-not}
use Rattle.reading.specs.Trees.{Reading}
use Rattle.script_lines.specs.Lines.{scripts_of}
use Rattle.readback.specs.ScriptReader.{reading_in}
use Rattle.releases.specs.Release.{Declared, to_read, ReleaseAnswer, told, release_answer}
use Rattle.releases.specs.ReleaseLaws.{Declares}
use Rattle.releases.specs.ReleaseScripts.{ScriptAt, AllRead, FirstUnread, OneMeaning as OneForEach, TwoMeanings, Unread, Says, too_many_given, unread, two_meanings, one_meaning}
use Rattle.releases.proofs.ReleaseScripts.{says, number-listed, accepted-exactly, seventeen}
use Rattle.releases.proofs.ReleaseOrder.{first-unread, rest-told, too_many, two-told, accepted-none, one-in-all}
use Rattle.release.specs.declared.ReleaseError.{ReleaseError}
use Rattle.release.specs.Told.{reason_number, reason-number, told_by}
use Rattle.release.proofs.check_release.Reads as release-code

-- ---------------------------------------------------------------- the code

-- The contract of `check_release`: its outcome in two numbers. It asks nothing of the file.
abbrev pub ReleaseContract : Result ⊤ ReleaseError → List ℕ → Type 0
ReleaseContract r file = told_by r ≡ release_answer file

-- It is what the function is proved to ensure.
pub release-contract : (κs : _) (x : _) (r : _) (y : _) → release-code.Post κs x r y → ReleaseContract r x.0.now
release-contract κs x r y h = h

-- The outcome is a refusal with number n, told of script k.
pub record Refused (r : Result ⊤ ReleaseError) (n k : ℕ) : Type 0 where
  pub error : ReleaseError
  pub is : r ≡ Err error
  pub number : reason_number error.reason ≡ n
  pub script : error.script ≡ k

-- An outcome by its two numbers: of an acceptance, and of a refusal.
by_zeros : (r : Result ⊤ ReleaseError) → told_by r ≡ told 0 0 → r ≡ Ok tt
by_zeros (Ok u) e = refl
by_zeros (Err x) e = let z : reason_number x.reason ≡ 0 = ap (λ (a : ReleaseAnswer). a.number) e in absurd (omega (arith, reason-number x.reason))

by_numbers : (r : Result ⊤ ReleaseError) (n k : ℕ) → 0 < n → told_by r ≡ told n k → Refused r n k
by_numbers (Ok u) n k l e = let z : 0 ≡ n = ap (λ (a : ReleaseAnswer). a.number) e in absurd (omega arith)
by_numbers (Err x) n k l e = record { error = x; is = refl; number = ap (λ (a : ReleaseAnswer). a.number) e; script = ap (λ (a : ReleaseAnswer). a.script) e }

-- Why a release is refused with this number, and this script told.
pub data RefusedFor (file : List ℕ) : ℕ → ℕ → Type 0 where
  -- there are more than 64 check-sat lines
  many_lines : 64 < length (scripts_of file).scripts → RefusedFor file 9 64
  -- reading refuses script k with this number, 9 or 13, and none before it; bytes after the last check-sat line are one more script
  first_unread : (n k : ℕ) → Unread file n k → RefusedFor file n k
  -- every script is read, and script k is the earliest that disagrees with one before it
  other_meaning : (k : ℕ) → TwoMeanings file k → RefusedFor file 17 k

module _ (file : List ℕ) (r : Result ⊤ ReleaseError) (c : ReleaseContract r file) where
  is-accepted : r ≡ Ok tt → (release_answer file).number ≡ 0
  is-accepted e = ap (λ (a : ReleaseAnswer). a.number) (sym c ∙ ap told_by e)

  is-refused : (n k : ℕ) → Refused r n k → ((release_answer file).number ≡ n) × ((release_answer file).script ≡ k)
  is-refused n k x =
      let q : release_answer file ≡ told (reason_number x.error.reason) x.error.script = sym c ∙ ap told_by x.is in
      (ap (λ (a : ReleaseAnswer). a.number) q ∙ x.number, ap (λ (a : ReleaseAnswer). a.script) q ∙ x.script)

  -- a refusal's number is none of an acceptance
  positive : (n k : ℕ) → Refused r n k → 0 < n
  positive n k x = let z = x.number in omega (arith, reason-number x.error.reason)

  by_answer : (n k : ℕ) → 0 < n → release_answer file ≡ told n k → Refused r n k
  by_answer n k l e = by_numbers r n k l (c ∙ e)

  -- ---------------------------------------------------------------- accepted

  -- A release is accepted exactly when it has at most 64 scripts and nothing after the last, every script is read, and any two declarations
  -- of one name, in whichever scripts, are equal.
  pub release-accepted : (r ≡ Ok tt) ↔ OneForEach file
  release-accepted = (λ e. (accepted-exactly file).0 (is-accepted e), λ o. by_zeros r (c ∙ accepted-none file ((accepted-exactly file).1 o)))

  -- So a name has one meaning in the whole file: wherever two scripts, or one, declare it, kind, widths and arguments are the same.
  pub one-meaning : r ≡ Ok tt → (i j : ℕ) (s t : List ℕ) → ScriptAt (scripts_of file).scripts i s → ScriptAt (scripts_of file).scripts j t
      → (p q : Reading) → reading_in s ≡ some p → reading_in t ≡ some q → (x y : Declared) → Declares p.declarations x → Declares q.declarations y
      → x.name ≡ y.name → x.meaning ≡ y.meaning
  one-meaning e = one-in-all file (release-accepted.0 e)

  -- ---------------------------------------------------------------- refused

  -- A number is told of a script exactly where there is that reason.
  pub release-refused : (n k : ℕ) → Refused r n k ↔ RefusedFor file n k
  release-refused n k = (λ x. so (positive n k x) (release_answer file) (says file) (is-refused n k x), λ h. back n k h)
    where
      moved : {m j : ℕ} → (m ≡ n) × (j ≡ k) → RefusedFor file m j → RefusedFor file n k
      moved {m} {j} e h = subst (λ (x : ℕ). RefusedFor file x k) e.0 (subst (λ (y : ℕ). RefusedFor file m y) e.1 h)

      so : 0 < n → (a : ReleaseAnswer) → Says file a → (a.number ≡ n) × (a.script ≡ k) → RefusedFor file n k
      so p _ (too_many_given l) e = moved e (many_lines l)
      so p _ (unread m j u) e = moved e (first_unread m j u)
      so p _ (two_meanings j t) e = moved e (other_meaning j t)
      so p _ (one_meaning o) e = absurd (let z : 0 ≡ n = e.0 in omega arith)

      by_first : (n k : ℕ) → Unread file n k → Refused r n k
      by_first zero k u = absurd (omega (arith, u.first.refused))
      by_first (suc n) k u = by_answer (suc n) k (omega arith) (first-unread file (suc n) k u.few u.first)

      back : (n k : ℕ) → RefusedFor file n k → Refused r n k
      back _ _ (many_lines l) = by_answer 9 64 (omega arith) (too_many file l)
      back _ _ (first_unread n k u) = by_first n k u
      back _ _ (other_meaning k t) = by_answer 17 k (omega arith) (two-told file k t)

  -- 17 names the earliest script that disagrees with one before it, where every script is read.
  pub earliest-told : (k : ℕ) → Refused r 17 k → TwoMeanings file k
  earliest-told k e = subst (TwoMeanings file) (is-refused 17 k e).1 (seventeen file (is-refused 17 k e).0)

  -- More than 64 check-sat lines are 9 naming 64, whatever the scripts are.
  pub many-told : 64 < length (scripts_of file).scripts → Refused r 9 64
  many-told l = by_answer 9 64 (omega arith) (too_many file l)

  -- The first script that reading refuses decides, whatever the names of the others mean.
  pub unread-told : (n k : ℕ) → length (scripts_of file).scripts ≤ 64 → FirstUnread (to_read (scripts_of file)) (suc n) k → Refused r (suc n) k
  unread-told n k l u = by_answer (suc n) k (omega arith) (first-unread file (suc n) k l u)

  -- Bytes after the last check-sat line are one more script, which cannot be read.
  pub after-last-told : length (scripts_of file).scripts ≤ 64 → AllRead (scripts_of file).scripts → 0 < length (scripts_of file).rest
      → Refused r 13 (length (scripts_of file).scripts)
  after-last-told l h m = by_answer 13 (length (scripts_of file).scripts) (omega arith) (rest-told file l h m)

  -- A refusal is 9, 13 or 17.
  pub refusal-numbers : (n k : ℕ) → Refused r n k → T (among (9 ∷ 13 ∷ 17 ∷ []) n)
  refusal-numbers n k e =
      let listed : T (among (0 ∷ 9 ∷ 13 ∷ 17 ∷ []) n) = subst (λ (m : ℕ). T (among (0 ∷ 9 ∷ 13 ∷ 17 ∷ []) m)) (is-refused n k e).0 (number-listed file) in
      or-not (eqb n 0) (among (9 ∷ 13 ∷ 17 ∷ []) n) listed (not_T (eqb n 0) (λ q. not_none (eqb→eq n 0 q)))
    where
      not_none : n ≡ 0 → ⊥
      not_none q = let p = positive n k e in omega arith
