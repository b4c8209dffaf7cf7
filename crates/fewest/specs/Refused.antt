-- What the checks of a problem say of it with other roots. The fewest roots by the check that refuses are in proofs/Refused.antt.
use Prim.Native.Nat.{ℕ, zero, suc, ◌≤◌, ◌<◌}
use Rattle.std.specs.Prelude.{◌≡◌, Bool, ◌&&◌, T, length, get_or}
use Rattle.std.proofs.Math.Path.{refl}
use Rattle.std.proofs.Common.{arith, leb→le}
use mathlib.Core.List.{List, [], ◌∷◌, map}
use Rattle.std.proofs.Math.Bool.{true, false}
use Rattle.std.proofs.Math.Dec.{leb}
use borrow.Author.Tests.{le-leb}
use Rattle.lists.specs.Tests.{and_0, and-1}
use Rattle.echo_spec.specs.Refusals.{unless, ◌or_else◌}
use Rattle.echo_spec.specs.Input.{Problem, Dag, nodes_within, within_limits, nodes_of, dag_of}
use Rattle.echo_spec.specs.Sharing.{unshared}
use Rattle.echo_spec.specs.Tables.{decl_vars_ok, decl_funcs_ok}
use Rattle.echo_spec.specs.Walk.{formula, walk_all, walk, walk_roots, table_checks}
use Rattle.echo_spec.specs.Answers.{endless_with, endless_refusal}
use Rattle.fewest.specs.Fewest.{with_roots, FewestAnswer}

-- ---------------------------------------------------------------- the answer by its list

abbrev pub told : ℕ → List ℕ → FewestAnswer
told number positions = record { number = number; positions = positions }

-- ---------------------------------------------------------------- other roots

pub roots_few : (p : Problem) → T (within_limits p) → length p.roots ≤ 256
unfolding within_limits
roots_few p t = leb→le _ _ (and_0 (leb (length p.roots) 256) _ (and-1 (nodes_within p.nodes p.bits p.side) _ t))

middle : (a b b' c : Bool) → (a && (b && c)) ≡ true → b' ≡ true → (a && (b' && c)) ≡ true
middle true true b' c h e = rw e h
middle true false b' c h e = let z : ◌≡◌ {A = ℕ} 0 1 = cc in absurd (omega arith)
middle false b b' c h e = let z : ◌≡◌ {A = ℕ} 0 1 = cc in absurd (omega arith)

module _ (p : Problem) (rs : List ℕ) (few : length rs ≤ 256) where
  pub within-with : within_limits p ≡ true → within_limits (with_roots p rs) ≡ true
  unfolding within_limits
  within-with h = middle (nodes_within p.nodes p.bits p.side) (leb (length p.roots) 256) (leb (length rs) 256) _ h (le-leb (length rs) 256 few)

  -- a number from 1 to 7 that the checks before the roots tell
  pub checked-with : (n : ℕ) {r : ℕ} → endless_with p n ≡ r → r ≤ 7 → endless_with (with_roots p rs) n ≡ r
  unfolding endless_with
  checked-with n {r} e h = go (within_limits p) refl
    where
      go : (b : Bool) → within_limits p ≡ b → endless_with (with_roots p rs) n ≡ r
      go true w = rw (within-with w) (rw w at e)
      go false w = let z : 9 ≡ r = rw w at e in absurd (omega arith)

-- ---------------------------------------------------------------- the walk of the roots

module _ (d : Dag) (ws : List ℕ) where
  pub walk_first : (x : ℕ) (xs : List ℕ) → walk_roots d ws (x ∷ xs) ≡ (walk_roots d ws (x ∷ []) or_else walk_roots d ws xs)
  unfolding walk_roots walk_all
  walk_first x xs = go (walk d ws x true)
    where
      go : (n : ℕ) → (n or_else walk_all (walk d ws) (map formula xs)) ≡ ((n or_else 0) or_else walk_all (walk d ws) (map formula xs))
      go zero = refl
      go (suc n) = refl

  pub walk_none : walk_roots d ws [] ≡ 0
  unfolding walk_roots walk_all
  walk_none = refl

  -- the first root that is refused
  pub record FirstRefused (roots : List ℕ) (r k : ℕ) : Type 0 where
    pub refused : 0 < r
    pub inside : k < length roots
    pub before : (j : ℕ) → j < k → walk_roots d ws (get_or roots j 0 ∷ []) ≡ 0
    pub here : walk_roots d ws (get_or roots k 0 ∷ []) ≡ r

  pub walk_refused : (roots : List ℕ) {r k : ℕ} → FirstRefused roots r k → walk_roots d ws roots ≡ r
  walk_refused roots {r} {k} h = go roots r k h
    where
      go : (roots : List ℕ) (r k : ℕ) → FirstRefused roots r k → walk_roots d ws roots ≡ r
      go [] r k h = let l = h.inside in absurd (omega arith)
      go (x ∷ xs) zero k h = let l = h.refused in absurd (omega arith)
      go (x ∷ xs) (suc r) zero h = rw (walk_first, h.here) refl
      go (x ∷ xs) (suc r) (suc k) h =
          let z = h.before 0 (omega arith) in
          let l = h.inside in
          rw (walk_first, z) (go xs (suc r) k (record { refused = h.refused; inside = omega arith; before = λ j u. h.before (suc j) (omega arith); here = h.here }))

  pub walk-passes : (roots : List ℕ) → ((j : ℕ) → j < length roots → walk_roots d ws (get_or roots j 0 ∷ []) ≡ 0) → walk_roots d ws roots ≡ 0
  walk-passes [] h = walk_none
  walk-passes (x ∷ xs) h = let z = h 0 (omega arith) in rw (walk_first, z) (walk-passes xs (λ j l. h (suc j) (omega arith)))

-- ---------------------------------------------------------------- from the names on

-- the checks after that of sharing
abbrev pub declared : Dag → List ℕ → ℕ → ℕ
declared d ws walked = unless (decl_vars_ok d) 4 or_else unless (decl_funcs_ok d ws) 7 or_else walked

-- the nodes are well formed and of the widths ws: what is left are the checks of the tables, of any roots
pub record Numbered (p : Problem) (ws : List ℕ) : Type 0 where
  pub few : length p.roots ≤ 256
  pub with : (rs : List ℕ) → length rs ≤ 256 → endless_refusal (with_roots p rs) ≡ table_checks (dag_of p) ws (unless (unshared (nodes_of p.nodes) p.side rs) 6) (walk_roots (dag_of p) ws rs)
