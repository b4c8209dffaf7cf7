-- The table of the names that a release declares: what it holds, and what is told of a declaration by it.
use Rattle.std.specs.Prelude.{⊤, Option, Some, None, Result, Ok, Err, ℕ, suc, ◌/◌, ◌%◌, ◌≤◌, ◌<◌, ◌≡◌, List, [], ◌∷◌, ◌++◌, true, false, length, get_or}
use Rattle.lists.specs.Tests.{same}
use Rattle.reading.specs.Trees.{Name}
use Rattle.releases.specs.Release.{a_variable, Declared}
use Rattle.release_lines.specs.Lines.{LineAt}
use Rattle.release_names.specs.Marks.{chain_of, tag_of}
use Rattle.release_names.specs.declared.Clash.{Clash}
use Rattle.release_names.specs.declared.Names.{Names}

-- ---------------------------------------------------------------- entries

-- declaration k of a list; the default is never looked at
abbrev pub entry : List Declared → ℕ → Declared
entry xs k = get_or xs k (record { name = []; meaning = a_variable 0 })

abbrev pub name_in : List Declared → ℕ → Name
name_in xs k = (entry xs k).name

abbrev pub In : List Declared → Declared → Type 0
In xs x = (k : ℕ) × (k < length xs) × (entry xs k ≡ x)

-- The table of the entries xs: for each, the place p where its name begins in the file s and, in n, the tag of its name times 2¹⁷ and 1 and
-- the number of the last entry before it in the same chain, or 0; in h, for each chain, 1 and the number of the last entry in it, or 0.
pub record Table (s p n h : List ℕ) (xs : List Declared) : Type 0 where
  pub places : length p ≡ 98304
  pub nexts : length n ≡ 98304
  pub heads : length h ≡ 4096
  pub few : length xs ≤ 98304
  pub line : (k : ℕ) → k < length xs → LineAt s (get_or p k 0) (entry xs k)
  pub head_all : (k : ℕ) → k < length xs → k < get_or h (chain_of (name_in xs k)) 0
  pub head-own : (i : ℕ) → i < 4096 → (k : ℕ) → get_or h i 0 ≡ suc k → (k < length xs) × (chain_of (name_in xs k) ≡ i)
  pub tag : (k : ℕ) → k < length xs → get_or n k 0 / 131072 ≡ tag_of (name_in xs k)
  pub next_all : (k : ℕ) → k < length xs → (j : ℕ) → j < k → chain_of (name_in xs j) ≡ chain_of (name_in xs k) → j < get_or n k 0 % 131072
  pub next_own : (k : ℕ) → k < length xs → (j : ℕ) → get_or n k 0 % 131072 ≡ suc j → (j < k) × (chain_of (name_in xs j) ≡ chain_of (name_in xs k))

-- no entry has the name; or place q is where the name of an entry begins that has it
abbrev pub Sought : List ℕ → List Declared → Name → Option ℕ → Type 0
Sought p xs m None = (k : ℕ) → k < length xs → same m (name_in xs k) ≡ false
Sought p xs m (Some q) = (k : ℕ) × (k < length xs) × (q ≡ get_or p k 0) × (same m (name_in xs k) ≡ true)

-- ---------------------------------------------------------------- declarations met so far

-- Of the declarations `seen`, each name has one meaning, and the table has an entry for each name.
pub record Holds (s : List ℕ) (seen : List Declared) (p n h : List ℕ) (count : ℕ) : Type 0 where
  pub entries : List Declared
  pub table : Table s p n h entries
  pub counted : count ≡ length entries
  pub few : length entries ≤ length seen
  pub all : (x : Declared) → In seen x → In entries x
  pub own : (x : Declared) → In entries x → In seen x
  pub one : (x y : Declared) → In entries x → In entries y → x.name ≡ y.name → x.meaning ≡ y.meaning

-- the same of the table as the code has it
abbrev pub HeldBy : List ℕ → List Declared → Names → Type 0
HeldBy s seen t = Holds s seen t.places t.links t.heads t.count

-- the table before any declaration
pub record Fresh (t : Names) : Type 0 where
  pub places : length t.places ≡ 98304
  pub links : length t.links ≡ 98304
  pub heads : length t.heads ≡ 4096
  pub zeros : (i : ℕ) → i < 4096 → get_or t.heads i 0 ≡ 0
  pub none : t.count ≡ 0

-- a declaration of the name of x that differs from x
pub record Differs (seen : List Declared) (x : Declared) : Type 0 where
  pub other : Declared
  pub met : In seen other
  pub name : other.name ≡ x.name
  pub apart : other.meaning ≡ x.meaning → ⊥

-- what is told of one declaration more
abbrev pub LineTo : List ℕ → List Declared → Declared → Names → Result ⊤ Clash → Type 0
LineTo s seen x t (Err e) = Differs seen x
LineTo s seen x t (Ok u) = HeldBy s (seen ++ (x ∷ [])) t

-- one of the declarations ys differs from another of them or of those before
pub record Disagrees (seen ys : List Declared) : Type 0 where
  pub this : Declared
  pub among : In ys this
  pub differs : Differs (seen ++ ys) this

-- what is told of a script's declarations
abbrev pub ScriptTo : List ℕ → List Declared → List Declared → Names → Result ⊤ Clash → Type 0
ScriptTo s seen ys t (Err e) = Disagrees seen ys
ScriptTo s seen ys t (Ok u) = HeldBy s (seen ++ ys) t
