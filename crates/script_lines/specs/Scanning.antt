-- The search for the first check-sat line as code goes about it: place by place, and by blocks in which none can start.
use Rattle.std.specs.Prelude.{ℕ, zero, suc, ◌+◌, ◌-◌, ◌≤◌, ◌<◌, ◌≡◌, List, [], ◌∷◌, Bool, true, false, ◌&&◌, T, eqb, ltb, length, get_or, take, drop}
use Rattle.std.proofs.Math.Path.{refl}
use Rattle.std.proofs.Common.{ap, sym, ◌∙◌, arith, length-drop, drop_of_length-le, eq-eqb, ne_eqb, ltb-true, ltb-false}
use Rattle.std.proofs.Math.Option.{Option, none, some}
use Rattle.std.proofs.Math.Numerals.{add-one}
use Rattle.std.proofs.Math.Seq.{drop-cons}
use Rattle.std.proofs.lemmas.Slice.{between_to_end}
use Rattle.lists.specs.Bytes.{bytes}
use Rattle.lists.specs.Tests.{and-1, no→false, true→T}
use Rattle.std.specs.Prelude.{Option as Found, Some, None}
use Rattle.std.specs.Cmp.Lexicographic.{pointwise}
use Rattle.script_lines.specs.Lines.{check_sat_line, begins, until_check, following_script}
use Rattle.script_lines.specs.Laws.{back, back_none, begins-long}

-- the answer as the definitions have it
abbrev pub found_of : Found ℕ → Option ℕ
found_of (Some n) = some n
found_of None = none

-- does a line start at this place
abbrev pub fresh_at : List ℕ → ℕ → Bool
fresh_at f zero = true
fresh_at f (suc k) = eqb 10 (get_or f k 0)

-- does a check-sat line start at this place
abbrev pub starts_at : List ℕ → ℕ → Bool
starts_at f k = fresh_at f k && begins check_sat_line (drop k f)

-- how far the first check-sat line reaches that starts at this place or later
unfoldable pub ahead : List ℕ → ℕ → Option ℕ
ahead f k = back k (until_check (fresh_at f k) (drop k f))

-- what is left of a search, once it came to place e or found a line
abbrev pub scanned : List ℕ → ℕ → Found ℕ → Option ℕ
scanned f e (Some n) = some n
scanned f e None = ahead f e

-- ---------------------------------------------------------------- one place further

pub ahead-start : (f : List ℕ) → following_script f ≡ ahead f 0
unfolding ahead following_script
ahead-start f = refl

module _ (f : List ℕ) (k : ℕ) where
  pub ahead-end : length f ≤ k → ahead f k ≡ none
  unfolding ahead until_check
  ahead-end l = rw (drop_of_length-le f l) (back_none k)

-- ---------------------------------------------------------------- byte by byte

-- no byte of the n from place i on is b
pub record Without (f : List ℕ) (i n b : ℕ) : Type 0 where
  pub none_is : (j : ℕ) → j < n → get_or f (i + j) 0 ≡ b → ⊥

-- past the last twelve bytes none starts
pub too_short : (f : List ℕ) (k : ℕ) → length f < k + 12 → begins check_sat_line (drop k f) ≡ false
unfolding bytes
too_short f k l = no→false (begins check_sat_line (drop k f)) λ t. omega (arith, begins-long check_sat_line (drop k f) t, length-drop k f)

-- the comparison with the line, j bytes on
module _ (p f : List ℕ) (k j : ℕ) (a : j < length p) (b : k + j < length f) where
  begins-step : begins (drop j p) (drop (k + j) f) ≡ (eqb (get_or p j 0) (get_or f (k + j) 0) && begins (drop (suc j) p) (drop (suc (k + j)) f))
  unfolding begins
  begins-step = rw (drop-cons p j 0 a, drop-cons f (k + j) 0 b) refl

  pub begins-same : get_or f (k + j) 0 ≡ get_or p j 0 → begins (drop j p) (drop (k + j) f) ≡ begins (drop (j + 1) p) (drop (k + (j + 1)) f)
  begins-same e =
      let s : k + (j + 1) ≡ suc (k + j) = omega arith in
      begins-step ∙ rw (eq-eqb (get_or p j 0) (get_or f (k + j) 0) (sym e), s, add-one j) refl

  pub begins-other : (get_or f (k + j) 0 ≡ get_or p j 0 → ⊥) → begins (drop j p) (drop (k + j) f) ≡ false
  begins-other n = begins-step ∙ rw (ne_eqb (get_or p j 0) (get_or f (k + j) 0) (λ e. n (sym e))) refl

pub begins-all : (p s : List ℕ) (j : ℕ) → length p ≤ j → begins (drop j p) s ≡ true
unfolding begins
begins-all p s j l = rw (drop_of_length-le p l) refl

-- ---------------------------------------------------------------- as the code has it

-- what `starts_with` of a slice gives
pub starts-begins : (p s : List ℕ) → pointwise eqb p (take (length p) s) ≡ begins p s
unfolding begins
starts-begins [] s = refl
starts-begins (x ∷ xs) [] = refl
starts-begins (x ∷ xs) (y ∷ ys) = ap (λ (b : Bool). eqb x y && b) (starts-begins xs ys)

-- the same of what a file has from a place on
pub starts-begins-at : (p f : List ℕ) (k : ℕ) → pointwise eqb p (take (length p) (take (length f - k) (drop k f))) ≡ begins p (drop k f)
starts-begins-at p f k = rw (between_to_end f k (length f) (omega arith)) (starts-begins p (drop k f))

pub fresh-after : (f : List ℕ) (k : ℕ) → (k ≡ 0 → ⊥) → eqb 10 (get_or f (k - 1) 0) ≡ fresh_at f k
fresh-after f zero n = absurd (n refl)
fresh-after f (suc k) n = let e : suc k - 1 ≡ k = omega arith in rw e refl

pub without-none : (f : List ℕ) (i b : ℕ) → Without f i 0 b
without-none f i b = record { none_is = λ j l. absurd (omega arith) }

pub without_more : {f : List ℕ} {i n b : ℕ} → Without f i n b → (get_or f (i + n) 0 ≡ b → ⊥) → Without f i (n + 1) b
without_more {f} {i} {n} {b} h m = record { none_is = λ j l. by_place j l (ltb j n) refl }
  where
    by_place : (j : ℕ) → j < n + 1 → (t : Bool) → ltb j n ≡ t → get_or f (i + j) 0 ≡ b → ⊥
    by_place j l true q e = h.none_is j (ltb-true j n q) e
    by_place j l false q e =
        let s : n ≡ j = omega (arith, ltb-false j n q) in
        m (ap (λ (x : ℕ). get_or f (i + x) 0) s ∙ e)

pub starts-not-fresh : (f : List ℕ) (k : ℕ) {r : Bool} → r ≡ fresh_at f k → r ≡ false → false ≡ starts_at f k
starts-not-fresh f k e n = let q : fresh_at f k ≡ false = sym e ∙ n in rw q refl

pub starts-by-line : (f : List ℕ) (k : ℕ) {r b : Bool} → r ≡ fresh_at f k → r ≡ true → b ≡ begins check_sat_line (drop k f) → b ≡ starts_at f k
starts-by-line f k e n h = let q : fresh_at f k ≡ true = sym e ∙ n in rw q h

-- a check-sat line lies inside the file
pub starts-inside : (f : List ℕ) (k : ℕ) → k ≤ length f → starts_at f k ≡ true → k + 12 ≤ length f
unfolding bytes
starts-inside f k l e =
    let t : T (begins check_sat_line (drop k f)) = and-1 (fresh_at f k) (begins check_sat_line (drop k f)) (true→T e) in
    omega (arith, begins-long check_sat_line (drop k f) t, length-drop k f)

-- ---------------------------------------------------------------- from one search to the next

module _ (f : List ℕ) (i e : ℕ) (r : Found ℕ) (before : following_script f ≡ ahead f i) (found : ahead f i ≡ scanned f e r) where
  pub search-found : {n : ℕ} → r ≡ Some n → some n ≡ following_script f
  search-found q = sym (before ∙ found ∙ ap (scanned f e) q)

  pub search-on : r ≡ None → following_script f ≡ ahead f e
  search-on q = before ∙ found ∙ ap (scanned f e) q

-- at the end of the file
pub search-end : (f : List ℕ) (i e : ℕ) (r : Found ℕ) → following_script f ≡ ahead f i → ahead f i ≡ scanned f e r → length f ≤ e → found_of r ≡ following_script f
search-end f i e (Some n) before found l = sym (before ∙ found)
search-end f i e None before found l = sym (before ∙ found ∙ ahead-end f e l)
