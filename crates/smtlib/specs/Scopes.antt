-- The names that `let` binds around a term, each with what is known of it (its meaning, or its sort). SMT-LIB 2.6, section
-- 3.6: the innermost binding of a name decides, and a bound name hides what is declared. Definitions only.
use Rattle.std.specs.Prelude.{ℕ, List, [], ◌∷◌, map, Bool, true, false, ◌&&◌, cond}
use Rattle.std.proofs.Math.Option.{Option, none, some}
use Rattle.lists.specs.Tests.{same, in_list}
use Rattle.smtlib.specs.Grammar.{Operator, plain, indexed}

pub record Bound (A : Type 0) : Type 0 where
  pub name : List ℕ
  pub value : A

-- the innermost first
abbrev pub Scope : Type 0 → Type 0
Scope A = List (Bound A)

abbrev pub bind : {A : Type 0} → List ℕ → A → Scope A → Scope A
bind n x e = record { name = n; value = x } ∷ e

-- what a name is bound to
abbrev pub bound_to : {A : Type 0} → Scope A → List ℕ → Option A
bound_to [] n = none
bound_to (b ∷ e) n = cond (same n b.name) (some b.value) (bound_to e n)

abbrev pub bound_names : {A : Type 0} → Scope A → List (List ℕ)
bound_names e = map (λ b. b.name) e

abbrev pub symbol_of : Operator → List ℕ
symbol_of (plain n) = n
symbol_of (indexed n k ks) = n

abbrev pub is_plain : Operator → Bool
is_plain (plain n) = true
is_plain (indexed n k ks) = false

-- a bound name is no operator: it hides the symbol that stands bare
abbrev pub hides : {A : Type 0} → Scope A → Operator → Bool
hides e o = in_list (symbol_of o) (bound_names e) && is_plain o
