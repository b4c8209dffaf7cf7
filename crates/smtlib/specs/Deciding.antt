-- Cases that a Boolean test decides.
use Rattle.std.specs.Prelude.{List, [], ◌∷◌, Bool, true, false, not, T}
use Rattle.lists.specs.Tests.{All, every, and_T}

-- what is claimed of a type: that it holds, or that it does not
abbrev pub Decided : Bool → Type 0 → Type 0
Decided true A = A
Decided false A = A → ⊥

abbrev pub agree : Bool → Bool → Bool
agree true b = b
agree false b = not b

pub decided : {A : Type 0} (b c : Bool) → (T b → A) → (A → T b) → T (agree b c) → Decided c A
decided true true f g h = f tt
decided true false f g h = absurd h
decided false true f g h = absurd h
decided false false f g h = g

pub all→every : {A : Type 0} (p : A → Bool) (xs : List A) → All p xs → T (every p xs)
all→every p [] h = tt
all→every p (x ∷ xs) h = and_T (p x) (every p xs) h.0 (all→every p xs h.1)
