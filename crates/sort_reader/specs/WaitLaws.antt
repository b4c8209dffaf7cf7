-- Operand by operand an operator and a call get the sort that the rules give them.
use Rattle.std.specs.Prelude.{ℕ, zero, suc, ◌+◌, ◌-◌, ◌≡◌, refl, List, [], ◌∷◌, map, Bool, true, false, ◌&&◌, cond, T, leb, ltb, eqb, get_or}
use Rattle.std.proofs.Common.{ap, sym, ◌∙◌, subst, arith, eqb→eq}
use Rattle.std.proofs.Math.Option.{Option, none, some}
use Rattle.std.proofs.Math.Dec.{eqb_refl}
use Rattle.lists.specs.Tests.{T→true}
use Rattle.reading.specs.Trees.{Function}
use Rattle.echo_spec.specs.Shapes.{
  Shape,
  var,
  const,
  binary,
  rotation,
  extraction,
  concat,
  extension,
  ite,
  comparison,
  negation,
  connective,
  unary,
  unknown,
}
use Rattle.echo_spec.specs.TreeSorts.{TreeSort, bool, bits, same_sort, proper, if_proper, has_sort, have_sorts, width_of, rule_of, rule_for, operator_sort, call_sort}
use Rattle.echo_spec.specs.TreeSortLaws.{if-proper, proper-if, operator-sort, operator-met}
use Rattle.rebuilt.specs.Known.{have-eq}
use Rattle.sort_reader.specs.Waits.{Wait, first, equal, joins, chosen, truth, ends, arguments, stuck, ends_with, after_vector, after_bool, step, close, finish}

impossible : {A : Type 0} {x : A} → none ≡ some x → ⊥
impossible e = let z : ◌≡◌ {A = ℕ} 0 1 = cc in omega arith

-- two answers that are there for the same values
pub same-answers : {A : Type 0} (a b : Option A) → ((x : A) → a ≡ some x → b ≡ some x) → ((x : A) → b ≡ some x → a ≡ some x) → a ≡ b
same-answers none none f g = refl
same-answers none (some y) f g = absurd (impossible (g y refl))
same-answers (some x) b f g = sym (f x refl)

eqb-self : (m : ℕ) → eqb m m ≡ true
eqb-self m = T→true (eqb m m) (eqb_refl m)

-- ---------------------------------------------------------------- what is left is read

-- the sorts that operands have are proper
abbrev pub Proper : List (Option TreeSort) → Type 0
Proper [] = Unit
Proper (none ∷ os) = Proper os
Proper (some σ ∷ os) = T (proper σ) × Proper os

pub stuck-finish : (os : List (Option TreeSort)) → finish stuck os ≡ none
unfolding finish step close
stuck-finish [] = refl
stuck-finish (none ∷ os) = refl
stuck-finish (some σ ∷ os) = stuck-finish os

no-stuck : (os : List (Option TreeSort)) (σ : TreeSort) → finish stuck os ≡ some σ → ⊥
no-stuck os σ e = impossible (sym (stuck-finish os) ∙ e)

ends-only : (τ : TreeSort) (os : List (Option TreeSort)) (σ : TreeSort) → finish (ends τ) os ≡ some σ → (os ≡ []) × (τ ≡ σ)
unfolding finish step close
ends-only τ [] σ e = (refl, cc)
ends-only τ (none ∷ os) σ e = absurd (impossible e)
ends-only τ (some ρ ∷ os) σ e = absurd (no-stuck os σ e)

-- the end with a sort, if the test passes
cond-ends : (b : Bool) (τ : TreeSort) (os : List (Option TreeSort)) (σ : TreeSort) → finish (cond b (ends τ) stuck) os ≡ some σ → T b × (os ≡ []) × (τ ≡ σ)
cond-ends true τ os σ e = let (p, q) = ends-only τ os σ e in (tt, p, q)
cond-ends false τ os σ e = absurd (no-stuck os σ e)

ends-with : (o : Option TreeSort) (os : List (Option TreeSort)) (σ : TreeSort) → finish (ends_with o) os ≡ some σ → (os ≡ []) × (o ≡ some σ)
unfolding ends_with
ends-with none os σ e = absurd (no-stuck os σ e)
ends-with (some τ) os σ e = let (p, q) = ends-only τ os σ e in (p, ap some q)

cond-ends-with : (b : Bool) (o : Option TreeSort) (os : List (Option TreeSort)) (σ : TreeSort) → finish (cond b (ends_with o) stuck) os ≡ some σ → T b × (os ≡ []) × (o ≡ some σ)
cond-ends-with true o os σ e = let (p, q) = ends-with o os σ e in (tt, p, q)
cond-ends-with false o os σ e = absurd (no-stuck os σ e)

equal-only : (m : ℕ) (τ : TreeSort) (os : List (Option TreeSort)) (σ : TreeSort) → finish (equal m τ) os ≡ some σ → (os ≡ some (bits m) ∷ []) × (τ ≡ σ)
unfolding finish step close
equal-only m τ [] σ e = absurd (impossible e)
equal-only m τ (none ∷ os) σ e = absurd (impossible e)
equal-only m τ (some bool ∷ os) σ e = absurd (no-stuck os σ e)
equal-only m τ (some (bits n) ∷ os) σ e =
    let (t, p, q) = cond-ends (eqb n m) τ os σ e in
    let r : n ≡ m = eqb→eq n m t in
    ((λ i. some (bits (r i)) ∷ p i), q)

joins-only : (m : ℕ) (os : List (Option TreeSort)) (σ : TreeSort) → finish (joins m) os ≡ some σ → (n : ℕ) × (os ≡ some (bits n) ∷ []) × (if_proper (bits (m + n)) ≡ some σ)
unfolding finish step close
joins-only m [] σ e = absurd (impossible e)
joins-only m (none ∷ os) σ e = absurd (impossible e)
joins-only m (some bool ∷ os) σ e = absurd (no-stuck os σ e)
joins-only m (some (bits n) ∷ os) σ e =
    let (p, q) = ends-with (if_proper (bits (m + n))) os σ e in
    (n, ap (λ (l : List (Option TreeSort)). some (bits n) ∷ l) p, q)

chosen-only : (os : List (Option TreeSort)) (σ : TreeSort) → finish chosen os ≡ some σ → (n : ℕ) × (os ≡ some (bits n) ∷ some (bits n) ∷ []) × (bits n ≡ σ)
unfolding finish step close
chosen-only [] σ e = absurd (impossible e)
chosen-only (none ∷ os) σ e = absurd (impossible e)
chosen-only (some bool ∷ os) σ e = absurd (no-stuck os σ e)
chosen-only (some (bits n) ∷ os) σ e =
    let (p, q) = equal-only n (bits n) os σ e in
    (n, ap (λ (l : List (Option TreeSort)). some (bits n) ∷ l) p, q)

truth-only : (os : List (Option TreeSort)) (σ : TreeSort) → finish truth os ≡ some σ → (os ≡ some bool ∷ []) × (bool ≡ σ)
unfolding finish step close
truth-only [] σ e = absurd (impossible e)
truth-only (none ∷ os) σ e = absurd (impossible e)
truth-only (some (bits n) ∷ os) σ e = absurd (no-stuck os σ e)
truth-only (some bool ∷ os) σ e =
    let (p, q) = ends-only bool os σ e in
    (ap (λ (l : List (Option TreeSort)). some bool ∷ l) p, q)

-- ---------------------------------------------------------------- operators

-- an operator over these operands, by its rule
ruled : (h : Shape) (ks : List ℕ) (os : List (Option TreeSort)) (ss : List TreeSort) (σ : TreeSort) → os ≡ map some ss → (rule_for h ks (map some ss)).numerals ≡ ks
    → (rule_for h ks (map some ss)).operands ≡ ss → T (rule_for h ks (map some ss)).condition → (rule_for h ks (map some ss)).result ≡ σ → T (proper σ) → operator_sort h ks os ≡ some σ
ruled h ks os ss σ e a b c d p = subst (λ (l : List (Option TreeSort)). operator_sort h ks l ≡ some σ) (sym e) (operator-sort h ks ss σ a b c d p)

after : (τ : TreeSort) (os : List (Option TreeSort)) (l : List (Option TreeSort)) → os ≡ l → some τ ∷ os ≡ some τ ∷ l
after τ os l e = ap (λ (x : List (Option TreeSort)). some τ ∷ x) e

vector-sound : (h : Shape) (ks : List ℕ) (m : ℕ) (os : List (Option TreeSort)) (σ : TreeSort) → T (proper (bits m)) → finish (after_vector h ks m) os ≡ some σ → operator_sort h ks (some (bits m) ∷ os) ≡ some σ
unfolding after_vector rule_of
vector-sound var ks m os σ p e = absurd (no-stuck os σ e)
vector-sound const ks m os σ p e = absurd (no-stuck os σ e)
vector-sound binary [] m os σ p e =
    let (q, r) = equal-only m (bits m) os σ e in
    ruled binary [] _ (bits m ∷ bits m ∷ []) σ (after (bits m) os _ q) refl refl tt r (subst (λ (τ : TreeSort). T (proper τ)) r p)
vector-sound binary (i ∷ ks) m os σ p e = absurd (no-stuck os σ e)
vector-sound rotation [] m os σ p e = absurd (no-stuck os σ e)
vector-sound rotation (i ∷ []) m os σ p e =
    let (t, q, r) = cond-ends (ltb i m && leb m 65536) (bits m) os σ e in
    ruled rotation (i ∷ []) _ (bits m ∷ []) σ (after (bits m) os _ q) refl refl t r (subst (λ (τ : TreeSort). T (proper τ)) r p)
vector-sound rotation (i ∷ j ∷ ks) m os σ p e = absurd (no-stuck os σ e)
vector-sound extraction [] m os σ p e = absurd (no-stuck os σ e)
vector-sound extraction (i ∷ []) m os σ p e = absurd (no-stuck os σ e)
vector-sound extraction (i ∷ j ∷ []) m os σ p e =
    let (t, q, r) = cond-ends-with (leb j i && ltb i m) (if_proper (bits (i - j + 1))) os σ e in
    let (s, w) = proper-if (bits (i - j + 1)) σ r in
    ruled extraction (i ∷ j ∷ []) _ (bits m ∷ []) σ (after (bits m) os _ q) refl refl t s w
vector-sound extraction (i ∷ j ∷ k ∷ ks) m os σ p e = absurd (no-stuck os σ e)
vector-sound concat [] m os σ p e =
    let (n, q, r) = joins-only m os σ e in
    let (s, w) = proper-if (bits (m + n)) σ r in
    ruled concat [] _ (bits m ∷ bits n ∷ []) σ (after (bits m) os _ q) refl refl tt s w
vector-sound concat (i ∷ ks) m os σ p e = absurd (no-stuck os σ e)
vector-sound extension [] m os σ p e = absurd (no-stuck os σ e)
vector-sound extension (i ∷ []) m os σ p e =
    let (q, r) = ends-with (if_proper (bits (m + i))) os σ e in
    let (s, w) = proper-if (bits (m + i)) σ r in
    ruled extension (i ∷ []) _ (bits m ∷ []) σ (after (bits m) os _ q) refl refl tt s w
vector-sound extension (i ∷ j ∷ ks) m os σ p e = absurd (no-stuck os σ e)
vector-sound ite ks m os σ p e = absurd (no-stuck os σ e)
vector-sound comparison [] m os σ p e =
    let (q, r) = equal-only m bool os σ e in
    ruled comparison [] _ (bits m ∷ bits m ∷ []) σ (after (bits m) os _ q) refl refl tt r (subst (λ (τ : TreeSort). T (proper τ)) r tt)
vector-sound comparison (i ∷ ks) m os σ p e = absurd (no-stuck os σ e)
vector-sound negation ks m os σ p e = absurd (no-stuck os σ e)
vector-sound connective ks m os σ p e = absurd (no-stuck os σ e)
vector-sound unary [] m os σ p e =
    let (q, r) = ends-only (bits m) os σ e in
    ruled unary [] _ (bits m ∷ []) σ (after (bits m) os _ q) refl refl tt r (subst (λ (τ : TreeSort). T (proper τ)) r p)
vector-sound unary (i ∷ ks) m os σ p e = absurd (no-stuck os σ e)
vector-sound Shape.select ks m os σ p e = absurd (no-stuck os σ e)
vector-sound Shape.call ks m os σ p e = absurd (no-stuck os σ e)
vector-sound unknown ks m os σ p e = absurd (no-stuck os σ e)

bool-sound : (h : Shape) (ks : List ℕ) (os : List (Option TreeSort)) (σ : TreeSort) → Proper os → finish (after_bool h ks) os ≡ some σ → operator_sort h ks (some bool ∷ os) ≡ some σ
unfolding after_bool rule_of
bool-sound var ks os σ p e = absurd (no-stuck os σ e)
bool-sound const ks os σ p e = absurd (no-stuck os σ e)
bool-sound binary ks os σ p e = absurd (no-stuck os σ e)
bool-sound rotation ks os σ p e = absurd (no-stuck os σ e)
bool-sound extraction ks os σ p e = absurd (no-stuck os σ e)
bool-sound concat ks os σ p e = absurd (no-stuck os σ e)
bool-sound extension ks os σ p e = absurd (no-stuck os σ e)
bool-sound ite [] os σ p e =
    let (n, q, r) = chosen-only os σ e in
    let w : Proper (some (bits n) ∷ some (bits n) ∷ []) = subst Proper q p in
    ruled ite [] _ (bool ∷ bits n ∷ bits n ∷ []) σ (after bool os _ q) refl refl tt r (subst (λ (τ : TreeSort). T (proper τ)) r w.0)
bool-sound ite (i ∷ ks) os σ p e = absurd (no-stuck os σ e)
bool-sound comparison ks os σ p e = absurd (no-stuck os σ e)
bool-sound negation [] os σ p e =
    let (q, r) = ends-only bool os σ e in
    ruled negation [] _ (bool ∷ []) σ (after bool os _ q) refl refl tt r (subst (λ (τ : TreeSort). T (proper τ)) r tt)
bool-sound negation (i ∷ ks) os σ p e = absurd (no-stuck os σ e)
bool-sound connective [] os σ p e =
    let (q, r) = truth-only os σ e in
    ruled connective [] _ (bool ∷ bool ∷ []) σ (after bool os _ q) refl refl tt r (subst (λ (τ : TreeSort). T (proper τ)) r tt)
bool-sound connective (i ∷ ks) os σ p e = absurd (no-stuck os σ e)
bool-sound unary ks os σ p e = absurd (no-stuck os σ e)
bool-sound Shape.select ks os σ p e = absurd (no-stuck os σ e)
bool-sound Shape.call ks os σ p e = absurd (no-stuck os σ e)
bool-sound unknown ks os σ p e = absurd (no-stuck os σ e)

sound : (h : Shape) (ks : List ℕ) (os : List (Option TreeSort)) (σ : TreeSort) → Proper os → finish (first h ks) os ≡ some σ → operator_sort h ks os ≡ some σ
unfolding finish step close
sound h ks [] σ p e = absurd (impossible e)
sound h ks (none ∷ os) σ p e = absurd (impossible e)
sound h ks (some bool ∷ os) σ p e = bool-sound h ks os σ p.1 e
sound h ks (some (bits m) ∷ os) σ p e = vector-sound h ks m os σ p.0 e

-- what meets a rule is taken operand by operand
by-rule : (h : Shape) (i j m n : ℕ) (σ : TreeSort) → T (rule_of h i j m n).condition → (rule_of h i j m n).result ≡ σ → T (proper σ)
    → finish (first h (rule_of h i j m n).numerals) (map some (rule_of h i j m n).operands) ≡ some σ
unfolding rule_of finish step close after_vector after_bool ends_with
by-rule var i j m n σ c r p = absurd c
by-rule const i j m n σ c r p = absurd c
by-rule binary i j m n σ c r p = rw (eqb-self m) (ap some r)
by-rule rotation i j m n σ c r p = rw (T→true (ltb i m && leb m 65536) c) (ap some r)
by-rule extraction i j m n σ c r p =
    let f : if_proper (bits (i - j + 1)) ≡ some (bits (i - j + 1)) = if-proper (bits (i - j + 1)) (subst (λ (τ : TreeSort). T (proper τ)) (sym r) p) in
    rw (T→true (leb j i && ltb i m) c, f) (ap some r)
by-rule concat i j m n σ c r p =
    let f : if_proper (bits (m + n)) ≡ some (bits (m + n)) = if-proper (bits (m + n)) (subst (λ (τ : TreeSort). T (proper τ)) (sym r) p) in
    rw f (ap some r)
by-rule extension i j m n σ c r p =
    let f : if_proper (bits (m + i)) ≡ some (bits (m + i)) = if-proper (bits (m + i)) (subst (λ (τ : TreeSort). T (proper τ)) (sym r) p) in
    rw f (ap some r)
by-rule ite i j m n σ c r p = rw (eqb-self n) (ap some r)
by-rule comparison i j m n σ c r p = rw (eqb-self m) (ap some r)
by-rule negation i j m n σ c r p = ap some r
by-rule connective i j m n σ c r p = ap some r
by-rule unary i j m n σ c r p = ap some r
by-rule Shape.select i j m n σ c r p = absurd c
by-rule Shape.call i j m n σ c r p = absurd c
by-rule unknown i j m n σ c r p = absurd c

complete : (h : Shape) (ks : List ℕ) (os : List (Option TreeSort)) (σ : TreeSort) → operator_sort h ks os ≡ some σ → finish (first h ks) os ≡ some σ
complete h ks os σ e =
    let m = operator-met h ks os σ e in
    let us : List TreeSort = (rule_for h ks os).operands in
    let f = by-rule h (get_or ks 0 0) (get_or ks 1 0) (width_of (get_or os 0 none)) (width_of (get_or os 1 none)) σ m.condition m.result m.proper in
    let g : finish (first h ks) (map some us) ≡ some σ = subst (λ (l : List ℕ). finish (first h l) (map some us) ≡ some σ) m.numerals f in
    subst (λ (l : List (Option TreeSort)). finish (first h ks) l ≡ some σ) (sym (have-eq os us m.operands)) g

-- THE SORT of an operator, operand by operand.
pub operator-finish : (h : Shape) (ks : List ℕ) (os : List (Option TreeSort)) → Proper os → operator_sort h ks os ≡ finish (first h ks) os
operator-finish h ks os p = same-answers (operator_sort h ks os) (finish (first h ks) os) (λ σ e. complete h ks os σ e) (λ σ e. sound h ks os σ p e)

-- ---------------------------------------------------------------- calls

arguments-finish : (ws : List ℕ) (w : ℕ) (os : List (Option TreeSort)) → cond (have_sorts os (map bits ws)) (if_proper (bits w)) none ≡ finish (arguments ws w) os
unfolding finish step close have_sorts has_sort same_sort
arguments-finish [] w [] = refl
arguments-finish (v ∷ ws) w [] = refl
arguments-finish [] w (none ∷ os) = refl
arguments-finish [] w (some τ ∷ os) = sym (stuck-finish os)
arguments-finish (v ∷ ws) w (none ∷ os) = refl
arguments-finish (v ∷ ws) w (some bool ∷ os) = sym (stuck-finish os)
arguments-finish (v ∷ ws) w (some (bits n) ∷ os) = by_width (eqb n v) (arguments-finish ws w os)
  where
    by_width : (t : Bool) → cond (have_sorts os (map bits ws)) (if_proper (bits w)) none ≡ finish (arguments ws w) os
        → cond (t && have_sorts os (map bits ws)) (if_proper (bits w)) none ≡ finish (cond t (arguments ws w) stuck) os
    by_width true e = e
    by_width false e = sym (stuck-finish os)

pub call-finish : (f : Function) (os : List (Option TreeSort)) → call_sort (some f) os ≡ finish (arguments f.arguments f.width) os
unfolding call_sort
call-finish f os = arguments-finish f.arguments f.width os
