-- A table that has for each node whether a test holds, and the table of the operators that are used twice or more.
use Rattle.std.specs.Prelude.{ℕ, ◌+◌, ◌≤◌, ◌<◌, ◌≡◌, refl, List, ◌++◌, Bool, true, false, ◌&&◌, not, ◌≢◌, ltb, eqb, length, get_or, set, replicate, Option, Some, None}
use Rattle.std.specs.Option.{unwrap_or}
use Rattle.std.proofs.Common.{sym, ap, ◌∙◌, arith, zero-le, eqb-true, le-ltb, lt-ltb, get_or-set_same, get_or-set_other}
use Rattle.std.proofs.Math.Bool.{and-false}
use Rattle.std.proofs.Math.Decide.{dec_lt}
use Rattle.std.proofs.Math.ListN.{get_or-eq_default}
use Rattle.std.proofs.lemmas.Bool.{eqb-false}
use Rattle.std.proofs.lemmas.List.{length-replicate, get_or-replicate}
use Rattle.lists.specs.Tests.{every-at, true→T, T→true}
use Rattle.echo_spec.specs.Input.{Node, nodes_of}
use Rattle.echo_spec.specs.Sharing.{uses_of_all, used_once, unshared}
use Rattle.echo_sharing.specs.Counts.{counted, once_in, once_is}

-- for which the test holds
pub record Flags (p : ℕ → Bool) (t : List Bool) : Type 0 where
  pub at : (j : ℕ) → get_or t j false ≡ p j

-- the operators that are used twice or more
abbrev pub shared_of : List Node → List ℕ → List ℕ → ℕ → Bool
shared_of ns side roots j = ltb j (length ns) && not (used_once ns (uses_of_all side ns ++ roots) j)

-- the table of them, where there are some
abbrev pub SharedIn : List Node → List ℕ → List ℕ → Option (List Bool) → Type 0
SharedIn ns side roots None = unshared ns side roots ≡ true
SharedIn ns side roots (Some t) = (unshared ns side roots ≡ false) × Flags (shared_of ns side roots) t

-- ---------------------------------------------------------------- laws

-- one test more, of a table of which the first i were made
module _ (p : ℕ → Bool) where
  pub flags-none : (n : ℕ) → Flags (λ j. ltb j 0 && p j) (replicate n false)
  flags-none n = record { at = λ j. by_place j (dec_lt j n) ∙ rw (le-ltb j 0 zero-le) refl }
    where
      by_place : (j : ℕ) → Dec (j < n) → get_or (replicate n false) j false ≡ false
      by_place j (yes l) = get_or-replicate n j false false l
      by_place j (no l) = get_or-eq_default (replicate n false) false (rw length-replicate (omega arith))

  pub flags-more : {t : List Bool} {i : ℕ} {v : Bool} → i < length t → v ≡ p i → Flags (λ j. ltb j i && p j) t → Flags (λ j. ltb j (i + 1) && p j) (set t i v)
  flags-more {t} {i} {v} l e h = record { at = λ j. by_place j (eqb j i) refl }
    where
      one : (j : ℕ) → (j ≡ i → ⊥) → Dec (j < i) → ltb j i ≡ ltb j (i + 1)
      one j z (yes m) = let n : j < i + 1 = omega arith in rw (lt-ltb j i m, lt-ltb j (i + 1) n) refl
      one j z (no m) = let k : i ≤ j = omega arith in let n : i + 1 ≤ j = omega arith in rw (le-ltb j i k, le-ltb j (i + 1) n) refl

      by_place : (j : ℕ) (b : Bool) → eqb j i ≡ b → get_or (set t i v) j false ≡ (ltb j (i + 1) && p j)
      by_place j true q =
          let z : j ≡ i = eqb-true j i q in
          let m : i < i + 1 = omega arith in
          rw (z, get_or-set_same t i v false l, lt-ltb i (i + 1) m) e
      by_place j false q =
          let z : j ≢ i = eqb-false j i q in
          get_or-set_other t i j v false z ∙ h.at j ∙ ap (λ (b : Bool). b && p j) (one j z (dec_lt j i))

-- what `shared_nodes` puts together
module _ (s side roots : List ℕ) (small : length s ≤ 34816) {all : List ℕ}
    (e : all ≡ counted (replicate 2048 0) (uses_of_all side (nodes_of s) ++ roots)) where
  pub shared-flags : {t : List Bool} → Flags (λ j. ltb j (length (nodes_of s)) && not (once_in all (nodes_of s) j)) t → Flags (shared_of (nodes_of s) side roots) t
  shared-flags h = record { at = λ j. h.at j ∙ by_place j (dec_lt j (length (nodes_of s))) }
    where
      by_place : (j : ℕ) → Dec (j < length (nodes_of s)) → (ltb j (length (nodes_of s)) && not (once_in all (nodes_of s) j)) ≡ shared_of (nodes_of s) side roots j
      by_place j (yes l) = ap (λ (b : Bool). ltb j (length (nodes_of s)) && not b) (once_is s side roots small e j l)
      by_place j (no l) = let k : length (nodes_of s) ≤ j = omega arith in rw (le-ltb j (length (nodes_of s)) k) refl

-- where no operator is shared, the table without one is that of them
pub shared-or_none : (ns : List Node) (side roots : List ℕ) (o : Option (List Bool)) → SharedIn ns side roots o → Flags (shared_of ns side roots) (unwrap_or o (replicate 2048 false))
unfolding unshared
shared-or_none ns side roots (Some t) h = h.1
shared-or_none ns side roots None h = record { at = λ j. (flags-none (λ k. true) 2048).at j ∙ rw (le-ltb j 0 zero-le) (sym (none j (dec_lt j (length ns)))) }
  where
    none : (j : ℕ) → Dec (j < length ns) → shared_of ns side roots j ≡ false
    none j (yes l) = rw (T→true (used_once ns (uses_of_all side ns ++ roots) j) (every-at (used_once ns (uses_of_all side ns ++ roots)) 0 (length ns) (true→T h) j zero-le (omega arith)), and-false (ltb j (length ns))) refl
    none j (no l) = let k : length ns ≤ j = omega arith in rw (le-ltb j (length ns) k) refl
