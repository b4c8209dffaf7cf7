-- What is found among the roots: a root that an operand uses too, a root that is there twice; and what that says of sharing.
use Rattle.std.specs.Prelude.{ℕ, ◌≤◌, ◌<◌, ◌≡◌, refl, List, [], map, Bool, true, false, ◌&&◌, not, ltb, length, get_or, Option, Some, None}
use Rattle.echo_spec.specs.Input.{Node, nodes_of}
use Rattle.echo_spec.specs.Sharing.{unshared}
use Rattle.echo_sharing.specs.Flags.{Flags, shared_of}
use Rattle.fewest.specs.Least.{LeastOne, LeastTwo}
use Rattle.fewest_sharing.specs.declared.FewestRoots.{FewestRoots}
use Rattle.fewest_sharing.specs.declared.FewestRoots.TheVariants.{Empty, One, Two}

-- ---------------------------------------------------------------- what is found

-- node x is shared
abbrev pub flagged : List Bool → ℕ → Bool
flagged shared x = get_or shared x false

abbrev pub used_too : List Bool → List ℕ → ℕ → Bool
used_too shared uses x = flagged shared x && ltb 0 (get_or uses x 0)

-- the first position whose root passes the test
pub record FirstAt (t : ℕ → Bool) (roots : List ℕ) (r : ℕ) : Type 0 where
  pub inside : r < length roots
  pub before : (j : ℕ) → j < r → t (get_or roots j 0) ≡ false
  pub here : t (get_or roots r 0) ≡ true

abbrev pub First : (ℕ → Bool) → List ℕ → Option ℕ → Type 0
First t roots None = (j : ℕ) → j < length roots → t (get_or roots j 0) ≡ false
First t roots (Some r) = FirstAt t roots r

-- no later position has the same root, if that is shared
abbrev pub Single : List Bool → List ℕ → ℕ → Type 0
Single shared roots j = (b : ℕ) → j < b → b < length roots → flagged shared (get_or roots j 0) ≡ true → get_or roots j 0 ≡ get_or roots b 0 → ⊥

-- the next position k of the shared root at position j
pub record PairAt (shared : List Bool) (roots : List ℕ) (j k : ℕ) : Type 0 where
  pub rises : j < k
  pub inside : k < length roots
  pub flag : flagged shared (get_or roots j 0) ≡ true
  pub same : get_or roots j 0 ≡ get_or roots k 0
  pub between : (b : ℕ) → j < b → b < k → get_or roots j 0 ≡ get_or roots b 0 → ⊥

abbrev pub Partner : List Bool → List ℕ → ℕ → Option ℕ → Type 0
Partner shared roots j None = Single shared roots j
Partner shared roots j (Some k) = PairAt shared roots j k

pub record FirstPair (shared : List Bool) (roots : List ℕ) (j k : ℕ) : Type 0 where
  pub at : PairAt shared roots j k
  pub before : (a : ℕ) → a < j → Single shared roots a

abbrev pub PairOf : List Bool → List ℕ → Option (ℕ × ℕ) → Type 0
PairOf shared roots None = (a : ℕ) → a < length roots → Single shared roots a
PairOf shared roots (Some p) = FirstPair shared roots p.0 p.1

-- ---------------------------------------------------------------- what it says

-- the roots at these positions share an operator
abbrev pub shared_by : List Node → List ℕ → List ℕ → List ℕ → Bool
shared_by ns side roots ks = not (unshared ns side (map (λ k. get_or roots k 0) ks))

-- the roots at these positions are the fewest
abbrev pub Fewest : List Node → List ℕ → List ℕ → FewestRoots → Type 0
Fewest ns side roots Empty = unshared ns side [] ≡ false
Fewest ns side roots (One k) = LeastOne (shared_by ns side roots) (length roots) k
Fewest ns side roots (Two j k) = LeastTwo (shared_by ns side roots) (length roots) j k

-- no operator is shared, with all roots; or one is, and these are the fewest
abbrev pub Shares : List Node → List ℕ → List ℕ → Option FewestRoots → Type 0
Shares ns side roots None = unshared ns side roots ≡ true
Shares ns side roots (Some r) = (unshared ns side roots ≡ false) × Fewest ns side roots r

-- operands share an operator
pub operands-share : (ns : List Node) (side roots : List ℕ) → unshared ns side roots ≡ false → unshared ns side [] ≡ false → Shares ns side roots (Some Empty)
operands-share ns side roots a b = (a, b)

-- the roots share an operator, and those that are shared are flagged
pub record Flagged (nodes side roots : List ℕ) (flags : List Bool) : Type 0 where
  pub small : length nodes ≤ 34816
  pub shared : unshared (nodes_of nodes) side roots ≡ false
  pub set : Flags (shared_of (nodes_of nodes) side roots) flags

-- ---------------------------------------------------------------- laws of what is found

-- the first element that passes
pub first-told : (t : ℕ → Bool) (roots : List ℕ) (r : Option ℕ)
    → (r ≡ None → (k : ℕ) → k < length roots → (d : ℕ) → t (get_or roots k d) ≡ false)
    → ((i : ℕ) → r ≡ Some i → (i < length roots) × ((d : ℕ) → t (get_or roots i d) ≡ true))
    → ((i : ℕ) → r ≡ Some i → (k : ℕ) → k < i → (d : ℕ) → t (get_or roots k d) ≡ false)
    → First t roots r
first-told t roots None none here before = λ j l. none refl j l 0
first-told t roots (Some i) none here before =
    let p = here i refl in record { inside = p.0; before = λ k l. before i refl k l 0; here = p.1 0 }
