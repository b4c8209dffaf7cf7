-- The scripts of a file are read in order: what is left of the file tells the rest of the answer.
use Prim.Native.Nat.{ℕ, zero, suc, ◌+◌, ◌-◌, ◌≤◌, ◌<◌}
use Rattle.std.specs.Prelude.{◌≡◌, false, leb, take}
use Rattle.std.proofs.Math.Path.{refl, ap, sym}
use Rattle.std.proofs.Common.{◌∙◌, subst, le→leb}
use mathlib.Core.List.{List, [], ◌∷◌, ◌++◌, append-nil}
use Rattle.std.proofs.Math.Option.{none}
use native.Mathlib.Omega.{arith}
use Rattle.std.proofs.Math.ListN.{length, drop, length-drop}
use Rattle.std.proofs.Math.Seq.{drop-length}
use Rattle.lists.specs.Tests.{T→true}
use Rattle.script_lines.specs.Lines.{following_script, Cut, uncut, scripts_of}
use Rattle.script_lines.proofs.Cuts.{cut-rest}
use Rattle.readback.specs.ScriptReader.{reading_in}
use Rattle.releases.specs.Release.{rest_script, to_read, read_refusal, earliest, ReleaseAnswer, told, meaning_answer, read_in_order, scripts_answer, release_answer}
use Rattle.releases.specs.ReleaseScripts.{AllRead, all_read as all_more, rest-unread, declarations_of_all}
use Rattle.std.specs.Prelude.{Option, Some, None}
use Rattle.release_meanings.specs.Told.{MeaningsTo}
use Rattle.release_meanings.specs.Cutting.{Step}

-- ---------------------------------------------------------------- reading them

pub next-part : (file : List ℕ) (at n : ℕ) → take (at + n - at) (drop at file) ≡ take n (drop at file)
next-part file at n = let z : at + n - at ≡ n = omega arith in rw z refl

all-read-in-order : (k : ℕ) (ss : List (List ℕ)) (z : ReleaseAnswer) → AllRead ss → read_in_order k ss z ≡ z
unfolding read_in_order
all-read-in-order k [] z h = refl
all-read-in-order k (s ∷ ss) z h = rw (h 0 s refl, read_in_order) (all-read-in-order (suc k) ss z (λ i t g. h (suc i) t g))

first-refused : (k : ℕ) (s : List ℕ) (ss : List (List ℕ)) (z : ReleaseAnswer) (v : ℕ) → 0 < v → v ≡ read_refusal (reading_in s) → read_in_order k (s ∷ ss) z ≡ told v k
unfolding read_in_order
first-refused k s ss z zero l e = absurd (omega arith)
first-refused k s ss z (suc v) l e = rw (sym e, read_in_order) refl

first-passed : (k : ℕ) (s : List ℕ) (ss : List (List ℕ)) (z : ReleaseAnswer) → read_refusal (reading_in s) ≡ 0 → read_in_order k (s ∷ ss) z ≡ read_in_order (suc k) ss z
unfolding read_in_order
first-passed k s ss z e = rw (e, read_in_order) refl

-- reading refuses script k with this number, and none before it, whatever follows
abbrev Unread : List ℕ → ℕ → ℕ → Type 0
Unread file n k = (0 < n) × ((z : ReleaseAnswer) → read_in_order 0 (to_read (scripts_of file)) z ≡ told n k)

-- every script is read, and nothing follows the last
abbrev pub Whole : List ℕ → Type 0
Whole file = AllRead (scripts_of file).scripts × ((scripts_of file).rest ≡ [])

-- what is left tells the whole
pub record ReadTo (file : List ℕ) (at k : ℕ) : Type 0 where
  pub inside : at ≤ length file
  pub few : k ≤ at
  pub order : (z : ReleaseAnswer) → read_in_order 0 (to_read (scripts_of file)) z ≡ read_in_order k (to_read (scripts_of (drop at file))) z
  pub read : AllRead (scripts_of (drop at file)).scripts → AllRead (scripts_of file).scripts
  pub rest : (scripts_of (drop at file)).rest ≡ (scripts_of file).rest

pub read-start : (file : List ℕ) → ReadTo file 0 0
read-start file = record { inside = omega arith; few = omega arith; order = λ z. refl; read = λ h. h; rest = refl }

module _ (file : List ℕ) (at k : ℕ) (c : ReadTo file at k) where
  pub unread-rest : following_script (drop at file) ≡ none → at < length file → Unread file 13 k
  unfolding to_read read_refusal
  unread-rest e l = (omega arith, λ z. c.order z ∙ ap (λ (x : Cut). read_in_order k (to_read x) z) (cut-rest (drop at file) e) ∙ by-rest z (drop at file) refl)
    where
      by-rest : (z : ReleaseAnswer) (b : List ℕ) → drop at file ≡ b → read_in_order k (rest_script (drop at file)) z ≡ told 13 k
      by-rest z [] q = absurd (let m = length-drop at file in let w = ap length q in omega (arith, m, w, l))
      by-rest z (x ∷ b) q =
          ap (λ (y : List ℕ). read_in_order k (rest_script y) z) q
          ∙ first-refused k (x ∷ b) [] z 13 (omega arith) (ap read_refusal (sym (rest-unread (x ∷ b) (ap following_script (sym q) ∙ e))))

  pub read-end : following_script (drop at file) ≡ none → length file ≤ at → Whole file
  read-end e l =
      let b : drop at file ≡ [] = ap (λ (i : ℕ). drop i file) (let z : at ≡ length file = omega (arith, l, c.inside) in z) ∙ drop-length file in
      let u : scripts_of (drop at file) ≡ uncut (drop at file) = cut-rest (drop at file) e in (
        c.read (subst (λ (x : Cut). AllRead x.scripts) (sym u) (λ i s g. absurd (let z : ◌≡◌ {A = ℕ} 0 1 = cc in omega arith))),
        sym c.rest ∙ ap (λ (x : Cut). x.rest) u ∙ b,
      )

  module _ (n v : ℕ) (s : Step file at n) (e : v ≡ read_refusal (reading_in (take (at + n - at) (drop at file)))) where
    refusal : v ≡ read_refusal (reading_in (take n (drop at file)))
    refusal = e ∙ ap (λ (x : List ℕ). read_refusal (reading_in x)) (next-part file at n)

    pub unread-here : 0 < v → Unread file v k
    unfolding to_read
    unread-here l = (l, λ z. c.order z ∙ ap (λ (x : Cut). read_in_order k (to_read x) z) s.cut ∙ first-refused k (take n (drop at file)) _ z v l refusal)

    pub read_more : v ≤ 0 → ReadTo file (at + n) (k + 1)
    unfolding to_read
    read_more l =
        let p : read_refusal (reading_in (take n (drop at file))) ≡ 0 = sym refusal ∙ (let z : v ≡ 0 = omega arith in z) in
        record {
          inside = s.inside;
          few = omega (arith, c.few, s.long);
          order = λ z. c.order z ∙ ap (λ (x : Cut). read_in_order k (to_read x) z) s.cut ∙ first-passed k (take n (drop at file)) _ z p
              ∙ ap (λ (i : ℕ). read_in_order i (to_read (scripts_of (drop (at + n) file))) z) (let w : suc k ≡ k + 1 = omega arith in w);
          read = λ h. c.read (subst (λ (x : Cut). AllRead x.scripts) (sym s.cut) (all_more (take n (drop at file)) (scripts_of (drop (at + n) file)).scripts p h));
          rest = sym (ap (λ (x : Cut). x.rest) s.cut) ∙ c.rest;
        }

-- ---------------------------------------------------------------- the answer

module _ (file : List ℕ) where
  pub told-many : leb (length (scripts_of file).scripts) 64 ≡ false → told 9 64 ≡ release_answer file
  unfolding release_answer
  told-many e = rw e refl

  module _ (few : length (scripts_of file).scripts ≤ 64) where
    in_order : release_answer file ≡ scripts_answer (to_read (scripts_of file))
    unfolding release_answer
    in_order = rw (T→true (leb (length (scripts_of file).scripts) 64) (le→leb (length (scripts_of file).scripts) 64 few)) refl

    pub told-unread : {n k : ℕ} → Unread file n k → told n k ≡ release_answer file
    unfolding scripts_answer
    told-unread {n} {k} u = sym (in_order ∙ u.1 _)

    module _ (h : Whole file) where
      read-scripts : release_answer file ≡ meaning_answer (earliest 0 [] (declarations_of_all (scripts_of file).scripts))
      unfolding scripts_answer to_read
      read-scripts =
          let w : (scripts_of file).scripts ++ rest_script (scripts_of file).rest ≡ (scripts_of file).scripts =
          ap (λ (b : List ℕ). (scripts_of file).scripts ++ rest_script b) h.1 ∙ append-nil (scripts_of file).scripts in
          in_order ∙ rw w (all-read-in-order 0 (scripts_of file).scripts _ h.0)

      pub told-one : (m : Option ℕ) → MeaningsTo file m → m ≡ None → told 0 0 ≡ release_answer file
      unfolding meaning_answer
      told-one m k e = sym (read-scripts ∙ ap meaning_answer (subst (MeaningsTo file) e k))

      pub told-two : (m : Option ℕ) {i : ℕ} → MeaningsTo file m → m ≡ Some i → told 17 i ≡ release_answer file
      unfolding meaning_answer
      told-two m k e = sym (read-scripts ∙ ap meaning_answer (subst (MeaningsTo file) e k))
