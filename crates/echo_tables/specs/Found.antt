-- Searches: a table of what a search finds for each number, and one element further along.
use Rattle.std.specs.Prelude.{ℕ, zero, suc, ◌+◌, ◌-◌, ◌≤◌, ◌<◌, ◌≡◌, List, Bool, true, false, eqb, length, set, drop, replicate, Option, Some, None}
use Rattle.std.proofs.Math.Path.{refl}
use Rattle.std.proofs.Common.{ap, sym, ◌∙◌, arith, add-one, get_or, drop_of_length-le, drop-cons, get_or-set_same, get_or-set_other, eqb-true, eq-eqb, ne_eqb}
use Rattle.std.proofs.Math.Option as math
use Rattle.std.proofs.Math.Option.{none, some}
use Rattle.std.proofs.lemmas.Bool.{eqb-false}
use Rattle.lists.specs.Build.{find_from}
use Rattle.reading.specs.Kinds.{Call}
use Rattle.echo_spec.specs.Input.{Node}
use Rattle.echo_spec.specs.Tables.{find_node, find_call, call_of}

-- what a search found, as the code has it
abbrev pub found_of : math.Option ℕ → Option ℕ
found_of none = None
found_of (some k) = Some k

-- is the entry x that of node i
abbrev pub has : ℕ → ℕ → Bool
has i x = eqb x i

-- for each number below `bound`: what the search for it finds from place k on
pub record Filled {A : Type 0} (p : ℕ → A → Bool) (bound : ℕ) (xs : List A) (k : ℕ) (t : List (Option ℕ)) : Type 0 where
  pub at : (i : ℕ) → i < bound → get_or t i None ≡ found_of (find_from (p i) k (drop k xs))

-- for each node the entry that has it
pub record Entries (var_node : List ℕ) (t : List (Option ℕ)) : Type 0 where
  pub at : (i : ℕ) → i < 2048 → get_or t i None ≡ found_of (find_node var_node i)

-- for each function its first call
pub record Calls (ns : List Node) (t : List (Option ℕ)) : Type 0 where
  pub at : (g : ℕ) → g < 512 → get_or t g None ≡ found_of (find_call ns g)

-- a table of nothing has nothing, past its end too
pub cleared : {t : List (Option ℕ)} (n : ℕ) → t ≡ replicate n None → (i : ℕ) → get_or t i None ≡ None
cleared n e i = rw e (nothing n i)
  where
    nothing : (n i : ℕ) → get_or {A = Option ℕ} (replicate n None) i None ≡ None
    nothing zero i = refl
    nothing (suc n) zero = refl
    nothing (suc n) (suc i) = nothing n i

-- ---------------------------------------------------------------- what was found

pub found_none : (o : math.Option ℕ) → None ≡ found_of o → o ≡ none
found_none none h = refl
found_none (some k) h = cc

pub found_some : (o : math.Option ℕ) {k : ℕ} → Some k ≡ found_of o → o ≡ some k
found_some none h = cc
found_some (some j) h = cc

-- ---------------------------------------------------------------- a search, from place k on

module _ {A : Type 0} (p : A → Bool) (d : A) (xs : List A) (k : ℕ) where
  find-open : k < length xs → find_from p k (drop k xs) ≡ elim (p (get_or xs k d)) [ true ↦ some k | false ↦ find_from p (suc k) (drop (suc k) xs) ]
  unfolding find_from
  find-open l = rw (drop-cons xs k d l) refl

  pub find-here : k < length xs → p (get_or xs k d) ≡ true → find_from p k (drop k xs) ≡ some k
  find-here l q = find-open l ∙ rw q refl

  pub find-on : k < length xs → p (get_or xs k d) ≡ false → find_from p k (drop k xs) ≡ find_from p (k + 1) (drop (k + 1) xs)
  find-on l q = find-open l ∙ rw (q, add-one) refl

  pub find-end : length xs ≤ k → find_from p k (drop k xs) ≡ none
  unfolding find_from
  find-end l = rw (drop_of_length-le xs l) refl

-- ---------------------------------------------------------------- a table, from its last place to its first

module _ {A : Type 0} (p : ℕ → A → Bool) (bound : ℕ) (d : A) (xs : List A) where
  pub filled-end : {t : List (Option ℕ)} → ((i : ℕ) → get_or t i None ≡ None) → Filled p bound xs (length xs) t
  filled-end z = record { at = λ i h. z i ∙ sym (ap found_of (find-end (p i) d xs (length xs) (omega arith))) }

  module _ {left : ℕ} {t : List (Option ℕ)} (some_left : 0 < left) (l : left ≤ length xs) (f : Filled p bound xs left t) where
    back : left - 1 + 1 ≡ left
    back = omega arith

    -- the last of those that are left is of number x
    pub filled_put : {x : ℕ} → x < length t → ((i : ℕ) → p i (get_or xs (left - 1) d) ≡ eqb x i)
        → Filled p bound xs (left - 1) (set t x (Some (left - 1)))
    filled_put {x} m own = record { at = λ i h. by-test i h (eqb x i) refl }
      where
        by-test : (i : ℕ) → i < bound → (b : Bool) → eqb x i ≡ b → get_or (set t x (Some (left - 1))) i None
            ≡ found_of (find_from (p i) (left - 1) (drop (left - 1) xs))
        by-test i h true e =
            let q : x ≡ i = eqb-true x i e in
            rw (find-here (p i) d xs (left - 1) (omega arith) (own i ∙ e), ← q) (get_or-set_same t x (Some (left - 1)) None m)
        by-test i h false e =
            rw (find-on (p i) d xs (left - 1) (omega arith) (own i ∙ e), back)
            (get_or-set_other t x i _ None (λ q. eqb-false x i e (sym q)) ∙ f.at i h)

    -- it is of none below the bound
    pub filled-skip : ((i : ℕ) → i < bound → p i (get_or xs (left - 1) d) ≡ false) → Filled p bound xs (left - 1) t
    filled-skip other = record { at = λ i h. rw (find-on (p i) d xs (left - 1) (omega arith) (other i h), back) (f.at i h) }

-- the element n of the nodes is m, as it was taken apart
module _ {n m : Node} (is : n ≡ m) where
  pub calls-own : m.kind ≡ Call → (g : ℕ) → call_of g n ≡ eqb m.a g
  calls-own k g = rw (is, eq-eqb m.kind Call k) refl

  pub calls-none : (m.kind ≡ Call → ⊥) → (g : ℕ) → call_of g n ≡ false
  calls-none k g = rw (is, ne_eqb m.kind Call k) refl

  pub calls-past : m.kind ≡ Call → {bound : ℕ} → bound ≤ m.a → (g : ℕ) → g < bound → call_of g n ≡ false
  calls-past k l g h = calls-own k g ∙ ne_eqb m.a g (λ e. omega arith)

pub entries-whole : {var_node : List ℕ} {t : List (Option ℕ)} (k : ℕ) → k ≤ 0 → Filled has 2048 var_node k t → Entries var_node t
unfolding find_node
entries-whole zero h f = record { at = f.at }
entries-whole (suc k) h f = absurd (omega arith)

pub calls-whole : {ns : List Node} {t : List (Option ℕ)} (k : ℕ) → k ≤ 0 → Filled call_of 512 ns k t → Calls ns t
unfolding find_call
calls-whole zero h f = record { at = f.at }
calls-whole (suc k) h f = absurd (omega arith)
