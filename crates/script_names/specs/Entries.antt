-- The names that a script declares, by the bars in it: each line of a declaration has a bar before the name and a bar after it, and no other.
-- What is found of a name, and the table by which it is found.
use Rattle.std.specs.Prelude.{ℕ, zero, suc, ◌+◌, ◌*◌, ◌-◌, ◌%◌, ◌≤◌, ◌<◌, ◌≡◌, List, [], ◌∷◌, true, false, leb, length, take, drop, get_or, Option, Some, None}
use Rattle.lists.specs.Tests.{same}
use Rattle.reading.specs.Trees.{Name}
use Rattle.readback.specs.Reader.{took, up_to, name_read}
use Rattle.script_tokens.specs.Reached.{between, ends_name}
use Rattle.script_names.specs.declared.Line.{Line}
use Rattle.script_names.specs.declared.Measure.{Measure}
use Rattle.script_names.specs.declared.Table.{Table}
use Rattle.script_names.specs.declared.Found.{Found}

-- the bytes after the first bar
unfoldable pub after_bar : List ℕ → List ℕ
after_bar b = drop 1 (up_to ends_name b).rest

-- the bytes from name k on, of lines that stand one after the other
unfoldable pub entry_from : ℕ → List ℕ → List ℕ
entry_from zero b = after_bar b
entry_from (suc k) b = after_bar (after_bar (entry_from k b))

-- the name that begins the bytes
unfoldable pub name_here : List ℕ → Name
name_here b = (up_to ends_name b).value

abbrev pub name_at : List ℕ → ℕ → Name
name_at b k = name_here (entry_from k b)

-- a name stands from place a on, up to and with its bar before place f
pub record Named (s : List ℕ) (a f : ℕ) : Type 0 where
  pub low : a < f
  pub high : f ≤ length s
  pub read : name_read (drop a s) ≡ took (between s a (f - 1)) (drop f s)

-- the name has its second bar
pub record Closed (b : List ℕ) : Type 0 where
  pub rest : List ℕ
  pub read : name_read b ≡ took (name_here b) rest

abbrev pub AllClosed : List ℕ → ℕ → Type 0
AllClosed b count = (k : ℕ) → k < count → Closed (entry_from k b)

-- ---------------------------------------------------------------- what is found

-- Of the first `count` lines of the bytes from place `first` on: none has the name; or one has it, and at the place its name begins.
abbrev pub Sought : List ℕ → ℕ → ℕ → Name → Option Found → Type 0
Sought s first count n None = (j : ℕ) → j < count → same n (name_at (drop first s) j) ≡ false
Sought s first count n (Some x) =
    (x.line < count) × (x.place ≤ length s) × (drop x.place s ≡ entry_from x.line (drop first s)) × (same n (name_at (drop first s) x.line) ≡ true)

-- ---------------------------------------------------------------- the table

-- a number below 4,096, from the first and the last sixteen bytes of a name. Nothing rests on which it is.
unfoldable pub hash_from : ℕ → List ℕ → ℕ
hash_from h [] = h
hash_from h (c ∷ w) = hash_from ((h * 31 + c) % 4096) w

unfoldable pub hash_of : Name → ℕ
hash_of n = elim (leb (length n) 16) [ true ↦ hash_from 0 n | false ↦ hash_from (hash_from 0 (take 16 n)) (drop (length n - 16) n) ]

abbrev pub hash_at : List ℕ → ℕ → ℕ
hash_at b k = hash_of (name_at b k)

-- 1 and the number of the line, or 0
abbrev pub link_of : Option ℕ → ℕ
link_of None = 0
link_of (Some k) = suc k

abbrev pub no_measure : Measure
no_measure = record { first = 0; second = 0 }

abbrev pub no_line : Line
no_line = record { place = 0; before = None; measure = no_measure }

-- where the name of line k begins; 1 and the number of the last line before it with the same hash, or 0
abbrev pub place_of : Table → ℕ → ℕ
place_of t k = (get_or t.lines k no_line).place

abbrev pub before_of : Table → ℕ → ℕ
before_of t k = link_of (get_or t.lines k no_line).before

-- 1 and the number of the last line with the hash h, or 0
abbrev pub last_of : Table → ℕ → ℕ
last_of t h = link_of (get_or t.last h None)

-- the numbers of line k
abbrev pub measure_of : Table → ℕ → Measure
measure_of t k = (get_or t.lines k no_line).measure

-- Of the numbers of lines nothing is asked here.
pub record Chains (s b : List ℕ) (t : Table) (count : ℕ) : Type 0 where
  pub place : (k : ℕ) → k < count → place_of t k ≤ length s
  pub entry : (k : ℕ) → k < count → drop (place_of t k) s ≡ entry_from k b
  pub head_all : (k : ℕ) → k < count → k < last_of t (hash_at b k)
  pub head-own : (h : ℕ) → h < 4096 → (k : ℕ) → last_of t h ≡ suc k → (k < count) × (hash_at b k ≡ h)
  pub next_all : (k : ℕ) → k < count → (j : ℕ) → j < k → hash_at b j ≡ hash_at b k → j < before_of t k
  pub next_own : (k : ℕ) → k < count → (j : ℕ) → before_of t k ≡ suc j → (j < k) × (hash_at b j ≡ hash_at b k)

-- the arrays' lengths
pub record Long (t : Table) : Type 0 where
  pub lines : length t.lines ≡ 1536
  pub last : length t.last ≡ 4096

-- no line is in the table
pub record Empty (t : Table) : Type 0 where
  pub long : Long t
  pub zeros : (h : ℕ) → h < 4096 → last_of t h ≡ 0

-- The numbers of line k are noted in the table t', where it has room for them; those of other lines are as they were in t.
pub record Noted (t t' : Table) (k : ℕ) (m : Measure) : Type 0 where
  pub own : k < 1536 → measure_of t' k ≡ m
  pub others : (j : ℕ) → (j ≡ k → ⊥) → measure_of t' j ≡ measure_of t j

-- The table of the first `count` lines from place `first` on. Past 1,536 lines nothing is asked of it: the lines themselves are looked at.
pub record Tabled (s : List ℕ) (first : ℕ) (t : Table) (count : ℕ) : Type 0 where
  pub long : Long t
  pub closed : AllClosed (drop first s) count
  pub chains : count ≤ 1536 → Chains s (drop first s) t count
