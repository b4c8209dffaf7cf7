-- The scripts of a file one after the other: the first of what is left, and how many there are.
use Rattle.std.specs.Prelude.{ℕ, suc, ◌+◌, ◌-◌, ◌≤◌, ◌<◌, ◌≡◌, List, true, false, leb, length, take, drop}
use Rattle.std.proofs.Common.{ap, sym, ◌∙◌, arith, le-leb, length-drop, take-append-drop, take_all, drop-drop}
use Rattle.std.proofs.Math.Option.{none, some}
use Rattle.std.proofs.lemmas.Bool.{lt-leb}
use Rattle.std.specs.Prelude.{Option as Found, Some, None}
use Rattle.script_lines.specs.Lines.{following_script, Cut, with_first, scripts_of}
use Rattle.script_lines.proofs.Laws.{next-is-script}
use Rattle.script_lines.proofs.Cuts.{cut-rest, cut-first}
use Rattle.script_lines.specs.Scanning.{found_of}

-- ---------------------------------------------------------------- parts of the file

pub rest_part : (file : List ℕ) (at : ℕ) → take (length file - at) (drop at file) ≡ drop at file
rest_part file at = take_all (length file - at) (drop at file) (omega (arith, length-drop at file))

-- the first script of what is left, and what is left after it
pub record Step (file : List ℕ) (at n : ℕ) : Type 0 where
  pub next : following_script (drop at file) ≡ some n
  pub long : 12 ≤ n
  pub inside : at + n ≤ length file
  pub cut : scripts_of (drop at file) ≡ with_first (take n (drop at file)) (scripts_of (drop (at + n) file))

pub stepped : (file : List ℕ) (at : ℕ) (r : Found ℕ) {n : ℕ} → at ≤ length file → found_of r ≡ following_script (take (length file - at) (drop at file)) → r ≡ Some n → Step file at n
stepped file at r {n} l e q =
    let b : List ℕ = drop at file in
    let f : following_script b ≡ some n = ap following_script (sym (rest_part file at)) ∙ sym e ∙ ap found_of q in
    let (s, m, k) = next-is-script b n f in
    record {
      next = f;
      long = m;
      inside = omega (arith, l, k, length-drop at file);
      cut = ap scripts_of (sym (take-append-drop n b)) ∙ cut-first (take n b) s (drop n b) ∙ ap (λ (x : List ℕ). with_first (take n b) (scripts_of x)) (drop-drop n at file);
    }

pub none_left : (file : List ℕ) (at : ℕ) (r : Found ℕ) → found_of r ≡ following_script (take (length file - at) (drop at file)) → r ≡ None → following_script (drop at file) ≡ none
none_left file at r e q = ap following_script (sym (rest_part file at)) ∙ sym e ∙ ap found_of q

-- ---------------------------------------------------------------- how many there are

pub record Counted (file : List ℕ) (at k : ℕ) : Type 0 where
  pub inside : at ≤ length file
  pub few : k ≤ 64
  pub whole : k + length (scripts_of (drop at file)).scripts ≡ length (scripts_of file).scripts

pub counted_start : (file : List ℕ) → Counted file 0 0
counted_start file = record { inside = omega arith; few = omega arith; whole = omega arith }

module _ (file : List ℕ) (at k : ℕ) (c : Counted file at k) where
  pub counted-end : following_script (drop at file) ≡ none → true ≡ leb (length (scripts_of file).scripts) 64
  counted-end e =
      let z : length (scripts_of (drop at file)).scripts ≡ 0 = ap (λ (x : Cut). length x.scripts) (cut-rest (drop at file) e) in
      sym (le-leb (length (scripts_of file).scripts) 64 (omega (arith, z, c.whole, c.few)))

  module _ (n : ℕ) (s : Step file at n) where
    one_more : length (scripts_of (drop at file)).scripts ≡ suc (length (scripts_of (drop (at + n) file)).scripts)
    one_more = ap (λ (x : Cut). length x.scripts) s.cut

    pub counted-over : 64 ≤ k → false ≡ leb (length (scripts_of file).scripts) 64
    counted-over l = sym (lt-leb (length (scripts_of file).scripts) 64 (omega (arith, one_more, c.whole, l)))

    pub counted-more : k < 64 → Counted file (at + n) (k + 1)
    counted-more l = record { inside = s.inside; few = omega (arith, l); whole = omega (arith, one_more, c.whole) }
