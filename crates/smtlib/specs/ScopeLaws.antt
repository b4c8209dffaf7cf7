-- Laws of bound names.
use Rattle.std.specs.Prelude.{ℕ, ◌≡◌, refl, List, [], ◌∷◌, Bool, true, false, ◌||◌, cond, T}
use Rattle.std.proofs.Common.{subst}
use Rattle.std.proofs.Math.Option.{Option, none, some}
use Rattle.lists.specs.Tests.{same, in_list, or_l, or_r, no→false, true→T}
use Rattle.smtlib.specs.Grammar.{Operator}
use Rattle.smtlib.specs.Scopes.{Scope, bound_to, bound_names, symbol_of, hides}

-- a name that is not bound
pub bound-none : {A : Type 0} (e : Scope A) (n : List ℕ) → (T (in_list n (bound_names e)) → ⊥) → bound_to e n ≡ none
bound-none [] n h = refl
bound-none (b ∷ e) n h =
    rw (no→false (same n b.name) (λ q. h (or_l (same n b.name) (in_list n (bound_names e)) q)))
    (bound-none e n (λ q. h (or_r (same n b.name) (in_list n (bound_names e)) q)))

pub bound_some : {A : Type 0} (e : Scope A) (n : List ℕ) (x : A) → bound_to e n ≡ some x → T (in_list n (bound_names e))
bound_some {A} [] n x h = subst (λ (o : Option A). elim o as (λ _. Type 0) [ none ↦ Unit | some y ↦ ⊥ ]) h tt
bound_some {A} (b ∷ e) n x h = by_first (same n b.name) refl h (λ q. bound_some e n x q)
  where
    by_first : (t : Bool) → same n b.name ≡ t → cond t (some b.value) (bound_to e n) ≡ some x → (bound_to e n ≡ some x → T (in_list n (bound_names e)))
        → T (in_list n (bound_names (b ∷ e)))
    by_first true q h rest = or_l (same n b.name) (in_list n (bound_names e)) (true→T q)
    by_first false q h rest = or_r (same n b.name) (in_list n (bound_names e)) (rest h)

-- an operator whose symbol is not bound
pub not_hidden : {A : Type 0} (e : Scope A) (o : Operator) → (T (in_list (symbol_of o) (bound_names e)) → ⊥) → hides e o ≡ false
not_hidden e o h = rw (no→false (in_list (symbol_of o) (bound_names e)) h)

pub none-bound : {A : Type 0} (e : Scope A) (n : List ℕ) → bound_to e n ≡ none → T (in_list n (bound_names e)) → ⊥
none-bound [] n h q = q
none-bound {A} (b ∷ e) n h q = by_first (same n b.name) refl h q (λ k r. none-bound e n k r)
  where
    by_first : (t : Bool) → same n b.name ≡ t → cond t (some b.value) (bound_to e n) ≡ none → T (t || in_list n (bound_names e))
        → (bound_to e n ≡ none → T (in_list n (bound_names e)) → ⊥) → ⊥
    by_first true p h q rest = subst (λ (o : Option A). elim o as (λ _. Type 0) [ none ↦ ⊥ | some y ↦ Unit ]) h tt
    by_first false p h q rest = rest h q
