-- A tree with the bound names replaced by what they are bound to. Definitions, and laws of them.
use Rattle.std.specs.Prelude.{◌≡◌, refl, List, [], ◌∷◌, map, Bool, true, false, cond}
use Rattle.std.proofs.Common.{ap}
use Rattle.std.proofs.Math.Option.{none as nothing, some}
use Rattle.lists.specs.Tests.{same}
use Rattle.reading.specs.Trees.{Name, Tree, variable, constant, apply, select, call, Trees, none, more, Stores, base, store}
use Rattle.smtlib.specs.Scopes.{Scope, bound_to, bound_names}
use Rattle.smtlib.specs.Readings.{Meaning, a_tree}

-- a name as the tree that it is bound to
abbrev pub unfolded_name : Scope Tree → Name → Tree
unfolded_name e n = elim (bound_to e n) [ nothing ↦ variable n | some t ↦ t ]

unfoldable mutual
  pub unfolded : Scope Tree → Tree → Tree
  unfolded e (variable n) = unfolded_name e n
  unfolded e (constant bs) = constant bs
  unfolded e (apply k ks ts) = apply k ks (unfolded_all e ts)
  unfolded e (select a j ss) = select a (unfolded e j) (unfolded_stores e ss)
  unfolded e (call n ts) = call n (unfolded_all e ts)

  pub unfolded_all : Scope Tree → Trees → Trees
  unfolded_all e none = none
  unfolded_all e (more t ts) = more (unfolded e t) (unfolded_all e ts)

  pub unfolded_stores : Scope Tree → Stores → Stores
  unfolded_stores e base = base
  unfolded_stores e (store x y ss) = store (unfolded e x) (unfolded e y) (unfolded_stores e ss)

-- the trees as the standard's meanings
abbrev pub meanings : Scope Tree → Scope Meaning
meanings e = map (λ b. record { name = b.name; value = a_tree b.value }) e

pub meanings-names : (e : Scope Tree) → bound_names (meanings e) ≡ bound_names e
meanings-names [] = refl
meanings-names (b ∷ e) = ap (λ (ns : List Name). b.name ∷ ns) (meanings-names e)

pub meanings-bound : (e : Scope Tree) (n : Name) → bound_to (meanings e) n ≡ elim (bound_to e n) [ nothing ↦ nothing | some t ↦ some (a_tree t) ]
meanings-bound [] n = refl
meanings-bound (b ∷ e) n = by_first (same n b.name) (meanings-bound e n)
  where
    by_first : (t : Bool) → bound_to (meanings e) n ≡ elim (bound_to e n) [ nothing ↦ nothing | some t ↦ some (a_tree t) ]
        → cond t (some (a_tree b.value)) (bound_to (meanings e) n)
        ≡ elim (cond t (some b.value) (bound_to e n)) [ nothing ↦ nothing | some t ↦ some (a_tree t) ]
    by_first true rest = refl
    by_first false rest = rest

-- where no name is bound, nothing changes
mutual
  unfolding unfolded

  pub unfolded-none : (t : Tree) → unfolded [] t ≡ t
  unfolded-none (variable n) = refl
  unfolded-none (constant bs) = refl
  unfolded-none (apply k ks ts) = ap (apply k ks) (unfolded-all-none ts)
  unfolded-none (select a j ss) = λ i. select a (unfolded-none j i) (unfolded-stores-none ss i)
  unfolded-none (call n ts) = ap (call n) (unfolded-all-none ts)

  pub unfolded-all-none : (ts : Trees) → unfolded_all [] ts ≡ ts
  unfolded-all-none none = refl
  unfolded-all-none (more t ts) = λ i. more (unfolded-none t i) (unfolded-all-none ts i)

  pub unfolded-stores-none : (ss : Stores) → unfolded_stores [] ss ≡ ss
  unfolded-stores-none base = refl
  unfolded-stores-none (store x y ss) = λ i. store (unfolded-none x i) (unfolded-none y i) (unfolded-stores-none ss i)
