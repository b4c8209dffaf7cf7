-- The order of what is told of a release: too many scripts, then the first that is not read, then meanings.
use Rattle.std.specs.Prelude.{ℕ, ◌≤◌, ◌<◌, ◌≡◌, refl, List, [], ◌∷◌, ◌++◌, Bool, true, false, ltb, length}
use Rattle.std.proofs.Common.{ap, sym, ◌∙◌, subst, append-nil, arith, ltb→lt, nltb→le}
use Rattle.std.proofs.Math.Option.{Option, some}
use Rattle.std.proofs.Math.ListN.{get_elem?}
use Rattle.lists.specs.Tests.{true→T}
use Rattle.lists.specs.Places.{at-seam}
use Rattle.reading.specs.Trees.{Declarations, Reading}
use Rattle.script_lines.specs.Lines.{following_script, scripts_of}
use Rattle.script_lines.specs.Cuts.{CutOf}
use Rattle.script_lines.proofs.Cuts.{cut-exactly}
use Rattle.readback.specs.ScriptReader.{reading_in}
use Rattle.rebuilt.specs.Start.{map_at}
use Rattle.releases.specs.Release.{Declared, script_limit, rest_script, to_read, read_refusal, declarations_in, ReleaseAnswer, told, release_answer}
use Rattle.releases.specs.ReleaseLaws.{Declares, At, at_left, Earliest}
use Rattle.releases.specs.ReleaseScripts.{rest-unread, ScriptAt, AllRead, FirstUnread, declarations_of_all, OneMeaning, TwoMeanings, Says, too_many_given, unread, two_meanings, one_meaning}
use Rattle.releases.proofs.ReleaseScripts.{says}

-- ---------------------------------------------------------------- the first that is not read

-- where all are read and nothing follows the last, reading refuses none
none-unread : (file : List ℕ) {n k : ℕ} → (scripts_of file).rest ≡ [] → AllRead (scripts_of file).scripts → FirstUnread (to_read (scripts_of file)) n k → ⊥
unfolding to_read
none-unread file {n} {k} w h u =
    let q : to_read (scripts_of file) ≡ (scripts_of file).scripts = ap (λ (b : List ℕ). (scripts_of file).scripts ++ rest_script b) w ∙ append-nil (scripts_of file).scripts in
    let z : n ≡ 0 = sym u.number ∙ h k u.script (subst (λ (ss : List (List ℕ)). ScriptAt ss k u.script) q u.at) in
    omega (arith, z, u.refused)

by-neither : (k j : ℕ) → ltb k j ≡ false → ltb j k ≡ false → k ≡ j
by-neither k j e f =
    let a : j ≤ k = nltb→le k j (rw e tt) in
    let b : k ≤ j = nltb→le j k (rw f tt) in
    omega arith

-- there is one first
same_place : (ss : List (List ℕ)) (n k m j : ℕ) → FirstUnread ss n k → FirstUnread ss m j → k ≡ j
same_place ss n k m j u v = by_order (ltb k j) refl (ltb j k) refl
  where
    earlier : (n k m j : ℕ) → FirstUnread ss n k → FirstUnread ss m j → k < j → ⊥
    earlier n k m j u v l =
        let z : n ≡ 0 = sym u.number ∙ v.before k u.script l u.at in
        omega (arith, z, u.refused)

    by_order : (a : Bool) → ltb k j ≡ a → (b : Bool) → ltb j k ≡ b → k ≡ j
    by_order true e b f = absurd (earlier n k m j u v (ltb→lt k j (true→T e)))
    by_order false e true f = absurd (earlier m j n k v u (ltb→lt j k (true→T f)))
    by_order false e false f = by-neither k j e f

same-unread : (ss : List (List ℕ)) (n k m j : ℕ) → FirstUnread ss n k → FirstUnread ss m j → told n k ≡ told m j
same-unread ss n k m j u v =
    let p : k ≡ j = same_place ss n k m j u v in
    let q : some u.script ≡ some v.script = sym u.at ∙ ap (get_elem? ss) p ∙ v.at in
    let w : u.script ≡ v.script = cc in
    let z : n ≡ m = sym u.number ∙ ap (λ (s : List ℕ). read_refusal (reading_in s)) w ∙ v.number in
    λ i. told (z i) (p i)

-- The first script that reading refuses decides, whatever the names of the others mean.
pub first-unread : (file : List ℕ) (n k : ℕ) → length (scripts_of file).scripts ≤ script_limit → FirstUnread (to_read (scripts_of file)) n k → release_answer file ≡ told n k
first-unread file n k l u = by_answer (release_answer file) (says file)
  where
    by_answer : (a : ReleaseAnswer) → Says file a → a ≡ told n k
    by_answer _ (too_many_given m) = absurd (omega (arith, l, m))
    by_answer _ (unread m j v) = same-unread (to_read (scripts_of file)) m j n k v.first u
    by_answer _ (two_meanings j t) = absurd (none-unread file t.whole t.read u)
    by_answer _ (one_meaning o) = absurd (none-unread file o.whole o.read u)

-- Bytes after the last check-sat line are one more script, which is not read.
pub rest-told : (file : List ℕ) → length (scripts_of file).scripts ≤ script_limit → AllRead (scripts_of file).scripts → 0 < length (scripts_of file).rest
    → release_answer file ≡ told 13 (length (scripts_of file).scripts)
unfolding to_read read_refusal
rest-told file l h m = by-rest (scripts_of file).rest refl
  where
    cut : CutOf file (scripts_of file)
    cut = (cut-exactly file (scripts_of file)).0 refl

    by-rest : (b : List ℕ) → (scripts_of file).rest ≡ b → release_answer file ≡ told 13 (length (scripts_of file).scripts)
    by-rest [] e = absurd (omega (arith, m, ap length e))
    by-rest (c ∷ b) e =
        let q : to_read (scripts_of file) ≡ (scripts_of file).scripts ++ ((c ∷ b) ∷ []) = ap (λ (x : List ℕ). (scripts_of file).scripts ++ rest_script x) e in
        first-unread file 13 (length (scripts_of file).scripts) l
        (subst (λ (ss : List (List ℕ)). FirstUnread ss 13 (length (scripts_of file).scripts)) (sym q)
        (record {
          script = c ∷ b;
          at = at-seam (scripts_of file).scripts (c ∷ b) [];
          number = ap read_refusal (rest-unread (c ∷ b) (ap following_script (sym e) ∙ cut.rest));
          refused = omega arith;
          before = λ i s k g. h i s (at_left (scripts_of file).scripts ((c ∷ b) ∷ []) i s k g);
        }))

-- ---------------------------------------------------------------- too many, and an empty file

pub too_many : (file : List ℕ) → script_limit < length (scripts_of file).scripts → release_answer file ≡ told 9 script_limit
too_many file l = by_answer (release_answer file) (says file)
  where
    by_answer : (a : ReleaseAnswer) → Says file a → a ≡ told 9 script_limit
    by_answer _ (too_many_given m) = refl
    by_answer _ (unread n k u) = absurd (omega (arith, l, u.few))
    by_answer _ (two_meanings k t) = absurd (omega (arith, l, t.few))
    by_answer _ (one_meaning o) = absurd (omega (arith, l, o.few))

-- there is one earliest
same-earliest : (Ds : List Declarations) (k j : ℕ) → Earliest Ds k → Earliest Ds j → k ≡ j
same-earliest Ds k j u v = by_order (ltb k j) refl (ltb j k) refl
  where
    earlier : (k j : ℕ) → Earliest Ds k → Earliest Ds j → k < j → ⊥
    earlier k j u v l =
        let d = u.differing in
        d.apart (v.others k u.other u.this u.that l u.before u.this_at u.that_at d.here d.there d.in_this d.in_that d.name)

    by_order : (a : Bool) → ltb k j ≡ a → (b : Bool) → ltb j k ≡ b → k ≡ j
    by_order true e b f = absurd (earlier k j u v (ltb→lt k j (true→T e)))
    by_order false e true f = absurd (earlier j k v u (ltb→lt j k (true→T f)))
    by_order false e false f = by-neither k j e f

-- Where every script is read, the earliest that disagrees with one before it is told.
pub two-told : (file : List ℕ) (k : ℕ) → TwoMeanings file k → release_answer file ≡ told 17 k
two-told file k t = by_answer (release_answer file) (says file)
  where
    by_answer : (a : ReleaseAnswer) → Says file a → a ≡ told 17 k
    by_answer _ (too_many_given m) = absurd (omega (arith, t.few, m))
    by_answer _ (unread n j u) = absurd (none-unread file t.whole t.read u.first)
    by_answer _ (two_meanings j v) = ap (told 17) (same-earliest (declarations_of_all (scripts_of file).scripts) j k v.earliest t.earliest)
    by_answer _ (one_meaning o) =
        let e = t.earliest in
        let d = e.differing in
        absurd (d.apart (o.agree k e.other e.this e.that e.this_at e.that_at d.here d.there d.in_this d.in_that d.name))

-- an acceptance tells no script
pub accepted-none : (file : List ℕ) → (release_answer file).number ≡ 0 → release_answer file ≡ told 0 0
accepted-none file e = by_answer (release_answer file) (says file) e
  where
    by_answer : (a : ReleaseAnswer) → Says file a → a.number ≡ 0 → a ≡ told 0 0
    by_answer _ (too_many_given m) e = absurd (omega (arith, e))
    by_answer _ (unread n k u) e = absurd (omega (arith, e, u.first.refused))
    by_answer _ (two_meanings k t) e = absurd (omega (arith, e))
    by_answer _ (one_meaning o) e = refl

-- ---------------------------------------------------------------- what acceptance says of any two scripts

at-mapped : (ss : List (List ℕ)) (i : ℕ) (s : List ℕ) (r : Reading) → ScriptAt ss i s → reading_in s ≡ some r → At (declarations_of_all ss) i r.declarations
unfolding declarations_in
at-mapped ss i s r a e = map_at (λ (t : List ℕ). declarations_in (reading_in t)) ss i s a ∙ ap (λ (o : Option Reading). some (declarations_in o)) e

-- A name means the same wherever it is declared, in one script or in two.
pub one-in-all : (file : List ℕ) → OneMeaning file → (i j : ℕ) (s t : List ℕ) → ScriptAt (scripts_of file).scripts i s → ScriptAt (scripts_of file).scripts j t
    → (r q : Reading) → reading_in s ≡ some r → reading_in t ≡ some q → (x y : Declared) → Declares r.declarations x → Declares q.declarations y → x.name ≡ y.name → x.meaning ≡ y.meaning
one-in-all file o i j s t a b r q e f =
    o.agree i j r.declarations q.declarations (at-mapped (scripts_of file).scripts i s r a e) (at-mapped (scripts_of file).scripts j t q b f)
