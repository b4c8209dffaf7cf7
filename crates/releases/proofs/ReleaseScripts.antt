-- What each answer on a release says of the file's bytes: the proof.
use Rattle.std.specs.Prelude.{ℕ, zero, suc, ◌+◌, ◌≤◌, ◌<◌, ◌≡◌, refl, List, [], ◌∷◌, ◌++◌, map, Bool, true, false, cond, ◌↔◌, T, leb, length}
use Rattle.std.proofs.Math.Path.{ap, subst}
use Rattle.std.proofs.Common.{sym, ◌∙◌, append-nil, arith, leb→le, le→leb}
use Rattle.std.proofs.Math.Option.{Option, none, some}
use Rattle.std.proofs.Math.ListN.{get_elem?}
use Rattle.lists.specs.Tests.{among, among-left, true→T}
use Rattle.lists.specs.Places.{at_less, at-seam}
use Rattle.reading.specs.Trees.{Declarations, Reading}
use Rattle.echo_spec.specs.Refusals.{unless}
use Rattle.script_lines.specs.Lines.{following_script, scripts_of}
use Rattle.script_lines.specs.Cuts.{CutOf}
use Rattle.script_lines.proofs.Cuts.{cut-exactly}
use Rattle.readback.specs.Rebuild.{rebuild}
use Rattle.readback.specs.ScriptReader.{reading_in}
use Rattle.readback.specs.ReadAnswers.{limits_passed}
use Rattle.readback_theorems.specs.Decided.{reading-in}
use Rattle.releases.specs.Release.{earliest, script_limit, rest_script, to_read, read_refusal, declarations_in, ReleaseAnswer, told, meaning_answer, read_in_order, scripts_answer, release_answer}
use Rattle.releases.specs.ReleaseLaws.{Agree, agree-turned, At, AgreeTo}
use Rattle.releases.proofs.ReleaseLaws.{earliest-none, earliest-some}
use Rattle.releases.specs.ReleaseScripts.{rest-unread, agree-self, ScriptAt, AllRead, FirstUnread, all_read, declarations_of_all, OneMeaning, TwoMeanings, Says, too_many_given, two_meanings, one_meaning, has-reading}

-- ---------------------------------------------------------------- scripts in order

data InOrder (ss : List (List ℕ)) (k : ℕ) (after : ReleaseAnswer) : ReleaseAnswer → Type 0 where
  read : AllRead ss → InOrder ss k after after
  unread : (n i : ℕ) → FirstUnread ss n i → InOrder ss k after (told n (k + i))

first_read : (s : List ℕ) (ss : List (List ℕ)) → read_refusal (reading_in s) ≡ 0 → (n : ℕ) → ((i : ℕ) (t : List ℕ) → i < n → ScriptAt ss i t → read_refusal (reading_in t) ≡ 0)
    → (i : ℕ) (t : List ℕ) → i < suc n → ScriptAt (s ∷ ss) i t → read_refusal (reading_in t) ≡ 0
first_read s ss e n h zero t l g = let q : s ≡ t = cc in subst (λ (u : List ℕ). read_refusal (reading_in u) ≡ 0) q e
first_read s ss e n h (suc i) t l g = h i t (omega arith) g

in_order : (k : ℕ) (ss : List (List ℕ)) (after : ReleaseAnswer) → InOrder ss k after (read_in_order k ss after)
unfolding read_in_order
in_order k [] after = read (λ i s g. absurd (let z : ◌≡◌ {A = ℕ} 0 1 = cc in omega arith))
in_order k (s ∷ ss) after = by_first (read_refusal (reading_in s)) refl (in_order (suc k) ss after)
  where
    later : read_refusal (reading_in s) ≡ 0 → (a : ReleaseAnswer) → InOrder ss (suc k) after a → InOrder (s ∷ ss) k after a
    later e _ (read h) = read (all_read s ss e h)
    later e _ (unread n i h) =
        subst (λ (j : ℕ). InOrder (s ∷ ss) k after (told n j)) (let q : k + suc i ≡ suc k + i = omega arith in q)
        (unread n (suc i) (record { script = h.script; at = h.at; number = h.number; refused = h.refused; before = first_read s ss e i h.before }))

    by_first : (n : ℕ) → read_refusal (reading_in s) ≡ n → InOrder ss (suc k) after (read_in_order (suc k) ss after)
        → InOrder (s ∷ ss) k after (elim n as (λ _. ReleaseAnswer) [ zero ↦ read_in_order (suc k) ss after | suc m ↦ told (suc m) k ])
    by_first zero e rest = later e _ rest
    by_first (suc m) e rest =
        subst (λ (j : ℕ). InOrder (s ∷ ss) k after (told (suc m) j)) (let q : k + 0 ≡ k = omega arith in q)
        (unread (suc m) 0 (record { script = s; at = refl; number = e; refused = omega arith; before = λ i t l g. absurd (omega arith) }))

-- ---------------------------------------------------------------- the proof

at_map : {A B : Type 0} (f : A → B) (xs : List A) (i : ℕ) (y : B) → get_elem? (map f xs) i ≡ some y → (x : A) × (get_elem? xs i ≡ some x) × (f x ≡ y)
at_map f [] i y e = absurd (let z : ◌≡◌ {A = ℕ} 0 1 = cc in omega arith)
at_map f (x ∷ xs) zero y e = (x, refl, cc)
at_map f (x ∷ xs) (suc i) y e = at_map f xs i y e

module _ (ss : List (List ℕ)) (h : AllRead ss) where
  self-agrees : (i : ℕ) (D : Declarations) → At (declarations_of_all ss) i D → Agree D D
  unfolding declarations_in
  self-agrees i D a =
      let (s, g, e) = at_map (λ s. declarations_in (reading_in s)) ss i D a in
      let (r, q, l) = has-reading s (h i s g) in
      let w : r.declarations ≡ D = ap declarations_in (sym q) ∙ e in
      subst (λ (E : Declarations). Agree E E) w (agree-self r ((reading-in s r).0 q).0)

  all-agree : AgreeTo (declarations_of_all ss) (length (declarations_of_all ss)) → (i j : ℕ) (D E : Declarations) → At (declarations_of_all ss) i D → At (declarations_of_all ss) j E → Agree D E
  all-agree k i j D E a b = by_order (leb (suc j) i) refl (leb (suc i) j) refl
    where
      by_order : (p : Bool) → leb (suc j) i ≡ p → (q : Bool) → leb (suc i) j ≡ q → Agree D E
      by_order true e q f = k i j D E (at_less (declarations_of_all ss) i D a) (leb→le (suc j) i (true→T e)) a b
      by_order false e true f = agree-turned E D (k j i E D (at_less (declarations_of_all ss) j E b) (leb→le (suc i) j (true→T f)) b a)
      by_order false e false f =
          let n : i ≡ j = tied e f in
          let w : D ≡ E = some_one D E (sym a ∙ ap (get_elem? (declarations_of_all ss)) n ∙ b) in
          subst (Agree D) w (self-agrees i D a)
        where
          some_one : (D E : Declarations) → some D ≡ some E → D ≡ E
          some_one D E e = cc

          above : (x y : ℕ) → leb (suc y) x ≡ false → x ≤ y
          above x y e = let f : suc y ≤ x → ⊥ = λ l. absurd (subst T e (le→leb (suc y) x l)) in omega arith

          tied : leb (suc j) i ≡ false → leb (suc i) j ≡ false → i ≡ j
          tied e f = let a = above i j e in let b = above j i f in omega arith

pub says : (file : List ℕ) → Says file (release_answer file)
unfolding release_answer read_refusal meaning_answer to_read scripts_answer
says file = by_count (leb (length (scripts_of file).scripts) script_limit) refl
  where
    cut : CutOf file (scripts_of file)
    cut = (cut-exactly file (scripts_of file)).0 refl

    nothing_left : (b : List ℕ) → following_script b ≡ none → (ss : List (List ℕ)) → AllRead (ss ++ rest_script b) → b ≡ []
    nothing_left [] e ss h = refl
    nothing_left (c ∷ b) e ss h =
        let q : read_refusal (reading_in (c ∷ b)) ≡ 0 = h (length ss) (c ∷ b) (at-seam ss (c ∷ b) []) in
        let z : ◌≡◌ {A = ℕ} 13 0 = ap read_refusal (sym (rest-unread (c ∷ b) e)) ∙ q in
        absurd (omega (arith, z))

    by-earliest : length (scripts_of file).scripts ≤ script_limit → (scripts_of file).rest ≡ [] → AllRead (scripts_of file).scripts
        → (o : Option ℕ) → earliest 0 [] (declarations_of_all (scripts_of file).scripts) ≡ o → Says file (meaning_answer o)
    by-earliest l w h none e = one_meaning (record { few = l; whole = w; read = h; agree = all-agree (scripts_of file).scripts h (earliest-none (declarations_of_all (scripts_of file).scripts) e) })
    by-earliest l w h (some k) e = two_meanings k (record { few = l; whole = w; read = h; earliest = earliest-some (declarations_of_all (scripts_of file).scripts) k e })

    by_read : length (scripts_of file).scripts ≤ script_limit → (a : ReleaseAnswer)
        → InOrder (to_read (scripts_of file)) 0 (meaning_answer (earliest 0 [] (declarations_of_all (to_read (scripts_of file))))) a → Says file a
    by_read l _ (unread n i h) = subst (λ (j : ℕ). Says file (told n j)) (let e : i ≡ 0 + i = omega arith in e) (Says.unread n i (record { few = l; first = h }))
    by_read l _ (read h) =
        let w : (scripts_of file).rest ≡ [] = nothing_left (scripts_of file).rest cut.rest (scripts_of file).scripts h in
        let q : to_read (scripts_of file) ≡ (scripts_of file).scripts = ap (λ (b : List ℕ). (scripts_of file).scripts ++ rest_script b) w ∙ append-nil (scripts_of file).scripts in
        subst (λ (ss : List (List ℕ)). Says file (meaning_answer (earliest 0 [] (declarations_of_all ss)))) (sym q)
        (by-earliest l w (subst AllRead q h) (earliest 0 [] (declarations_of_all (scripts_of file).scripts)) refl)

    by_count : (b : Bool) → leb (length (scripts_of file).scripts) script_limit ≡ b → Says file (cond b (scripts_answer (to_read (scripts_of file))) (told 9 script_limit))
    by_count true e = by_read (leb→le (length (scripts_of file).scripts) script_limit (true→T e)) _ (in_order 0 (to_read (scripts_of file)) _)
    by_count false e = too_many_given (over (length (scripts_of file).scripts) script_limit e)
      where
        over : (x y : ℕ) → leb x y ≡ false → y < x
        over x y e = let f : x ≤ y → ⊥ = λ l. absurd (subst T e (le→leb x y l)) in omega arith

-- ---------------------------------------------------------------- each number

refusal-listed : (o : Option Reading) → T (among (0 ∷ 9 ∷ 13 ∷ []) (read_refusal o))
unfolding read_refusal
refusal-listed none = tt
refusal-listed (some r) = by-limits (limits_passed (rebuild r))
  where
    by-limits : (b : Bool) → T (among (0 ∷ 9 ∷ 13 ∷ []) (unless b 9))
    by-limits true = tt
    by-limits false = tt

-- The number is 0, 9, 13 or 17.
pub number-listed : (file : List ℕ) → T (among (0 ∷ 9 ∷ 13 ∷ 17 ∷ []) (release_answer file).number)
number-listed file = by_answer (release_answer file) (says file)
  where
    wider : (n : ℕ) → T (among (0 ∷ 9 ∷ 13 ∷ []) n) → T (among (0 ∷ 9 ∷ 13 ∷ 17 ∷ []) n)
    wider n h = among-left (0 ∷ 9 ∷ 13 ∷ []) (17 ∷ []) n h

    by_answer : (a : ReleaseAnswer) → Says file a → T (among (0 ∷ 9 ∷ 13 ∷ 17 ∷ []) a.number)
    by_answer _ (too_many_given l) = tt
    by_answer _ (Says.unread n k u) = wider n (subst (λ (m : ℕ). T (among (0 ∷ 9 ∷ 13 ∷ []) m)) u.first.number (refusal-listed (reading_in u.first.script)))
    by_answer _ (two_meanings k t) = tt
    by_answer _ (one_meaning o) = tt

-- A release is accepted exactly if each script is read and each name has one meaning.
pub accepted-exactly : (file : List ℕ) → ((release_answer file).number ≡ 0) ↔ OneMeaning file
unfolding to_read
accepted-exactly file = (λ e. so (release_answer file) (says file) e, λ o. back (release_answer file) (says file) o)
  where
    so : (a : ReleaseAnswer) → Says file a → a.number ≡ 0 → OneMeaning file
    so _ (too_many_given l) e = absurd (omega (arith, e))
    so _ (Says.unread n k u) e = absurd (omega (arith, e, u.first.refused))
    so _ (two_meanings k t) e = absurd (omega (arith, e))
    so _ (one_meaning o) e = o

    back : (a : ReleaseAnswer) → Says file a → OneMeaning file → a.number ≡ 0
    back _ (too_many_given l) o = absurd (omega (arith, l, o.few))
    back _ (Says.unread n k u) o =
        let q : to_read (scripts_of file) ≡ (scripts_of file).scripts = ap (λ (b : List ℕ). (scripts_of file).scripts ++ rest_script b) o.whole ∙ append-nil (scripts_of file).scripts in
        let g : ScriptAt (scripts_of file).scripts k u.first.script = subst (λ (ss : List (List ℕ)). ScriptAt ss k u.first.script) q u.first.at in
        let z : n ≡ 0 = sym u.first.number ∙ o.read k u.first.script g in
        absurd (omega (arith, z, u.first.refused))
    back _ (two_meanings k t) o =
        let e = t.earliest in
        let d = e.differing in
        absurd (d.apart (o.agree k e.other e.this e.that e.this_at e.that_at d.here d.there d.in_this d.in_that d.name))
    back _ (one_meaning o') o = refl

-- 17 names the earliest script that disagrees with one before it.
pub seventeen : (file : List ℕ) → (release_answer file).number ≡ 17 → TwoMeanings file (release_answer file).script
seventeen file e = by_answer (release_answer file) (says file) e
  where
    other : (n : ℕ) → T (among (0 ∷ 9 ∷ 13 ∷ []) n) → n ≡ 17 → ⊥
    other n h e = subst (λ (m : ℕ). T (among (0 ∷ 9 ∷ 13 ∷ []) m)) e h

    by_answer : (a : ReleaseAnswer) → Says file a → a.number ≡ 17 → TwoMeanings file a.script
    by_answer _ (too_many_given l) e = absurd (omega (arith, e))
    by_answer _ (Says.unread n k u) e = absurd (other n (subst (λ (m : ℕ). T (among (0 ∷ 9 ∷ 13 ∷ []) m)) u.first.number (refusal-listed (reading_in u.first.script))) e)
    by_answer _ (two_meanings k t) e = t
    by_answer _ (one_meaning o) e = absurd (omega (arith, e))
