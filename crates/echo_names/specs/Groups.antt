-- A table of words grouped by length: the words that it holds, and the search over groups and words.
use Prim.Native.Nat.{ℕ, zero, suc, ◌+◌, ◌-◌, ◌*◌, ◌≤◌, ◌<◌}
use Rattle.std.specs.Prelude.{◌≡◌, List, [], ◌∷◌, ◌++◌, Bool, true, false, ◌&&◌, ◌||◌, T, length, get_or, take}
use Rattle.std.proofs.Math.Path.{refl}
use Rattle.std.proofs.Common.{ap, sym, ◌∙◌, subst, suc-mul, length-drop, drop_of_length-le, length-take-le}
use native.Mathlib.Omega.{arith}
use native.Mathlib.Nat.{mul-le-mul_right}
use Rattle.std.proofs.Math.ListN.{drop}
use Rattle.std.proofs.Math.Seq.{drop-drop}
use Rattle.lists.specs.Tests.{same, in_list, every, and_0, and-1, T→true, true→T, same→eq}
use Rattle.echo_names.specs.Steps.{drop-step, same_not, in_list-append}

-- ---------------------------------------------------------------- definitions

-- count words of size bytes each, from the front of a list
unfoldable pub chunks : ℕ → ℕ → List ℕ → List (List ℕ)
chunks size zero s = []
chunks size (suc count) s = take size s ∷ chunks size count (drop size s)

-- the words of groups that lie one after the other, the first with words of `size` bytes, the next of one byte more
unfoldable pub groups : ℕ → List ℕ → List ℕ → List (List ℕ)
groups size s [] = []
groups size s (count ∷ counts) = chunks size count s ++ groups (size + 1) (drop (count * size) s) counts

-- how many bytes they take
unfoldable pub total : ℕ → List ℕ → ℕ
total size [] = 0
total size (count ∷ counts) = count * size + total (size + 1) counts

-- is the name one of the words of a table with counts[0] words of 1 byte, counts[1] words of 2 bytes, and so on
unfoldable pub in_table : List ℕ → List ℕ → List ℕ → Bool
in_table name words counts = in_list name (groups 1 words counts)

-- ---------------------------------------------------------------- two lists with the same words

-- each word of the one is a word of the other
abbrev pub holds : List (List ℕ) → List (List ℕ) → Bool
holds xs ys = every (λ w. in_list w xs) ys

in_held : (x : List ℕ) (xs ys : List (List ℕ)) → T (holds xs ys) → T (in_list x ys) → T (in_list x xs)
in_held x xs [] h k = absurd k
in_held x xs (y ∷ ys) h k =
    go (same x y) refl k (λ k'. in_held x xs ys (and-1 (in_list y xs) (holds xs ys) h) k')
  where
    go : (b : Bool) → same x y ≡ b → T (b || in_list x ys) → (T (in_list x ys) → T (in_list x xs)) → T (in_list x xs)
    go true e t rest =
        subst (λ (w : List ℕ). T (in_list w xs)) (sym (same→eq x y (true→T e))) (and_0 (in_list y xs) (holds xs ys) h)
    go false e t rest = rest t

both_ways : (a b : Bool) → (T a → T b) → (T b → T a) → a ≡ b
both_ways true b f g = sym (T→true b (f tt))
both_ways false true f g = absurd (g tt)
both_ways false false f g = refl

same-words : (xs ys : List (List ℕ)) → T (holds xs ys && holds ys xs) → (x : List ℕ) → in_list x xs ≡ in_list x ys
same-words xs ys h x =
    both_ways (in_list x xs) (in_list x ys)
    (in_held x ys xs (and-1 (holds xs ys) (holds ys xs) h))
    (in_held x xs ys (and_0 (holds xs ys) (holds ys xs) h))

-- does a table hold exactly the words ys
unfoldable pub holds_exactly : List ℕ → List ℕ → List (List ℕ) → Bool
holds_exactly words counts ys = holds (groups 1 words counts) ys && holds ys (groups 1 words counts)

-- for a table that is written out: `table-holds words counts x ys e tt`
pub table-holds : (words counts x : List ℕ) (ys : List (List ℕ)) {r : Bool} → r ≡ in_table x words counts → T (holds_exactly words counts ys)
    → r ≡ in_list x ys
unfolding in_table holds_exactly
table-holds words counts x ys e h = e ∙ same-words (groups 1 words counts) ys h x

-- ---------------------------------------------------------------- the search over groups

-- none of the words of another length is the name
skip : (x : List ℕ) (size count : ℕ) (s : List ℕ) → (size ≡ length x → ⊥) → count * size ≤ length s → in_list x (chunks size count s) ≡ false
unfolding chunks
skip x size zero s f h = refl
skip x size (suc count) s f h =
    let m : suc count * size ≡ count * size + size = suc-mul count size in
    let l : length (take size s) ≡ size = length-take-le size s (omega arith) in
    rw (same_not x (take size s) (λ e. f (sym l ∙ ap length (sym e))))
    (skip x size count (drop size s) f (rw length-drop (omega arith)))

-- where group g ends, if it starts at `start`
abbrev pub group_end : List ℕ → ℕ → ℕ → ℕ
group_end counts g start = start + get_or counts g 0 * (g + 1)

-- the words of the groups from g on, the first of which starts at `start`
unfoldable pub groups_left : List ℕ → List ℕ → ℕ → ℕ → List (List ℕ)
groups_left words counts g start = groups (g + 1) (drop start words) (drop g counts)

-- the groups from g on lie inside the table
unfoldable pub GroupsInside : List ℕ → List ℕ → ℕ → ℕ → Type 0
GroupsInside words counts g start = start + total (g + 1) (drop g counts) ≤ length words

module _ (words counts : List ℕ) where
  pub groups-all : (x : List ℕ) → in_list x (groups_left words counts 0 0) ≡ in_table x words counts
  unfolding groups_left in_table
  groups-all x = refl

  pub inside-all : total 1 counts ≤ length words → GroupsInside words counts 0 0
  unfolding GroupsInside
  inside-all h = omega arith

  module _ (g start : ℕ) (h : g < length counts) where
    inside-step : GroupsInside words counts g start
        → start + (get_or counts g 0 * (g + 1) + total (g + 1 + 1) (drop (g + 1) counts)) ≤ length words
    unfolding GroupsInside total
    inside-step e = rw (drop-step 0 counts g h) at e

    -- group g lies inside, and so do those after it
    pub group-inside : GroupsInside words counts g start → group_end counts g start ≤ length words
    group-inside e = let k = inside-step e in omega arith

    pub inside-next : GroupsInside words counts g start → GroupsInside words counts (g + 1) (group_end counts g start)
    unfolding GroupsInside
    inside-next e = let k = inside-step e in omega arith

    module _ (x : List ℕ) {whole : Bool} (e : in_list x (groups_left words counts g start) ≡ whole) where
      group-first : in_list x (chunks (g + 1) (get_or counts g 0) (drop start words) ++ groups_left words counts (g + 1) (group_end counts g start))
          ≡ whole
      unfolding groups_left groups
      group-first =
          rw (← drop-drop (get_or counts g 0 * (g + 1)) start words) (rw (drop-step 0 counts g h) at e)

      -- a group of the name's length is searched
      pub group-enter : (n : ℕ) → g + 1 ≡ n
          → in_list x (chunks n (get_or counts g 0) (drop start words) ++ groups_left words counts (g + 1) (group_end counts g start)) ≡ whole
      group-enter n q =
          let after : List (List ℕ) = groups_left words counts (g + 1) (group_end counts g start) in
          subst (λ (m : ℕ). in_list x (chunks m (get_or counts g 0) (drop start words) ++ after) ≡ whole) q group-first

      -- any other is passed over
      pub group-pass : GroupsInside words counts g start → (g + 1 ≡ length x → ⊥)
          → in_list x (groups_left words counts (g + 1) (group_end counts g start)) ≡ whole
      group-pass i f =
          let t : group_end counts g start ≤ length words = group-inside i in
          let s : in_list x (chunks (g + 1) (get_or counts g 0) (drop start words)) ≡ false =
          skip x (g + 1) (get_or counts g 0) (drop start words) f (rw length-drop (omega arith)) in
          rw (in_list-append, s) at group-first

pub groups-end : (words counts x : List ℕ) (g start : ℕ) {whole : Bool} → length counts ≤ g
    → in_list x (groups_left words counts g start) ≡ whole → false ≡ whole
unfolding groups_left groups
groups-end words counts x g start h e = rw (drop_of_length-le counts h) at e

-- ---------------------------------------------------------------- the search over the words of a group

-- the words of one group: `left` of them from `at` on, and then the other groups' words
module _ (words x : List ℕ) (rest : List (List ℕ)) (n at : ℕ) {whole : Bool} where
  pub word_next : (left : ℕ) → 0 < left → same x (take (at + n - at) (drop at words)) ≡ false
      → in_list x (chunks n left (drop at words) ++ rest) ≡ whole → in_list x (chunks n (left - 1) (drop (at + n) words) ++ rest) ≡ whole
  unfolding chunks
  word_next zero h f e = absurd (omega arith)
  word_next (suc c) h f e =
      let a : at + n - at ≡ n = omega arith in
      let b : suc c - 1 ≡ c = omega arith in
      let d : drop n (drop at words) ≡ drop (at + n) words = drop-drop n at words in
      rw (b, ← d) (rw (rw a at f) at e)

  pub word-found : (left : ℕ) → 0 < left → same x (take (at + n - at) (drop at words)) ≡ true
      → in_list x (chunks n left (drop at words) ++ rest) ≡ whole → true ≡ whole
  unfolding chunks
  word-found zero h f e = absurd (omega arith)
  word-found (suc c) h f e =
      let a : at + n - at ≡ n = omega arith in
      rw (rw a at f) at e

  pub words-end : (left : ℕ) → left ≤ 0 → in_list x (chunks n left (drop at words) ++ rest) ≡ whole → in_list x rest ≡ whole
  unfolding chunks
  words-end zero h e = e
  words-end (suc c) h e = absurd (omega arith)

-- room for one word more
pub word-inside : (m n at left : ℕ) → 0 < left → at + left * n ≤ m → (at + n ≤ m) × (at + n + (left - 1) * n ≤ m)
word-inside m n at zero h e = absurd (omega arith)
word-inside m n at (suc c) h e =
    let k : suc c * n ≡ c * n + n = suc-mul c n in
    let b : suc c - 1 ≡ c = omega arith in
    rw b (omega arith)

-- ---------------------------------------------------------------- the same, by the number of the word in its group

-- word k of a group lies inside it
pub word-at : (n k count start m : ℕ) → k < count → start + count * n ≤ m → start + k * n + n ≤ m
word-at n k count start m h e =
    let l : (k + 1) * n ≤ count * n = mul-le-mul_right n (omega arith) in
    omega arith

-- the words of one group from word k on, and then the other groups' words
module _ (words x : List ℕ) (rest : List (List ℕ)) (n start count : ℕ) {whole : Bool} where
  pub turn-first : in_list x (chunks n count (drop start words) ++ rest) ≡ whole
      → in_list x (chunks n (count - 0) (drop (start + 0 * n) words) ++ rest) ≡ whole
  turn-first e =
      let a : count ≡ count - 0 = omega arith in
      let b : start ≡ start + 0 * n = omega arith in
      rw (← a, ← b) e

  pub turn_next : (k : ℕ) → k < count → same x (take (start + k * n + n - (start + k * n)) (drop (start + k * n) words)) ≡ false
      → in_list x (chunks n (count - k) (drop (start + k * n) words) ++ rest) ≡ whole
      → in_list x (chunks n (count - (k + 1)) (drop (start + (k + 1) * n) words) ++ rest) ≡ whole
  turn_next k h f e =
      let a : count - k - 1 ≡ count - (k + 1) = omega arith in
      let b : start + k * n + n ≡ start + (k + 1) * n = omega arith in
      rw (← a, ← b) (word_next words x rest n (start + k * n) (count - k) (omega arith) f e)
