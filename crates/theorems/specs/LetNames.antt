-- The names that the printer binds: no two nodes have the same, each may stand between bars, and none is the theories'. Scopes
-- in which nodes are bound under these names.
use Rattle.std.specs.Prelude.{ℕ, ◌≤◌, ◌<◌, ◌≡◌, refl, List, [], ◌∷◌, map, Bool, true, false, ◌&&◌, ◌||◌, not, cond, ◌↔◌, T, leb, ltb, eqb, length, drop}
use Rattle.std.proofs.Common.{ap, sym, ◌∙◌, subst, arith, leb→le, le→leb, ltb→lt, eqb→eq, T_not}
use Rattle.std.proofs.Math.Option.{none as nothing, some}
use Rattle.std.proofs.Math.Dec.{not_T}
use Rattle.lists.specs.Bytes.{bytes}
use Rattle.lists.specs.Tests.{
  same,
  among,
  in_list,
  every,
  All,
  and_T,
  and_0,
  and-1,
  or_l,
  or_elim,
  all-weaken,
  every-at,
  every_in,
  not-every,
  not-not,
  same→eq,
  same_refl,
  true→T,
}
use Rattle.reading.specs.Trees.{Name, Declarations}
use Rattle.smtlib.specs.Lexicon.{blank, digit, quotable, value_from}
use Rattle.smtlib.specs.Scopes.{Scope, bound_to, bound_names}
use Rattle.smtlib.specs.Readings.{operators, built_in}
use Rattle.echo_spec.specs.Input.{Dag}
use Rattle.echo_spec.specs.Render.{decimal}
use Rattle.echo_spec.specs.NameLaws.{all_names}
use Rattle.lets.specs.Lets.{shared, let_name, names_clear}
use Rattle.theorems.specs.Terms.{Fresh, fresh-none}
use Rattle.theorems.specs.Texts.{decimal-numeral}
use Rattle.theorems.specs.LetTerms.{FreshName, fresh-more}

-- ---------------------------------------------------------------- one name

pub let-name-injective : (i j : ℕ) → let_name i ≡ let_name j → i ≡ j
unfolding let_name bytes
let-name-injective i j e =
    let q : decimal i ≡ decimal j = ap (drop 1) e in
    sym (decimal-numeral i).value ∙ ap (value_from 0) q ∙ (decimal-numeral j).value

digit-quotable : (c : ℕ) → T (digit c) → T (quotable c)
digit-quotable c t =
    let low : 48 ≤ c = leb→le 48 c (and_0 (leb 48 c) (leb c 57) t) in
    let high : c ≤ 57 = leb→le c 57 (and-1 (leb 48 c) (leb c 57) t) in
    and_T ((leb 32 c && leb c 126) || ((leb 128 c && leb c 255) || blank c)) (not (among (124 ∷ 92 ∷ []) c))
    (or_l (leb 32 c && leb c 126) _ (and_T (leb 32 c) (leb c 126) (le→leb 32 c (omega arith)) (le→leb c 126 (omega arith))))
    (not_T (among (124 ∷ 92 ∷ []) c) λ q.
    or_elim (eqb c 124) (among (92 ∷ []) c) q (λ e. let z : c ≡ 124 = eqb→eq c 124 e in omega arith)
    (λ q. or_elim (eqb c 92) false q (λ e. let z : c ≡ 92 = eqb→eq c 92 e in omega arith) (λ z. z)))

pub let-name-quotable : (i : ℕ) → All quotable (let_name i)
unfolding let_name bytes
let-name-quotable i = (tt, all-weaken digit quotable digit-quotable (decimal i) (decimal-numeral i).digits)

-- `d`, then a digit or nothing
let_like : Name → Bool
let_like [] = false
let_like (c ∷ []) = eqb c 100
let_like (c ∷ x ∷ s) = eqb c 100 && digit x

none-let-like : T (every (λ n. not (let_like n)) built_in)
unfolding let_like built_in operators bytes
none-let-like = tt

let-name-like : (i : ℕ) → T (let_like (let_name i))
unfolding let_like let_name bytes
let-name-like i = by_digits (decimal i) (decimal-numeral i).digits
  where
    by_digits : (s : List ℕ) → All digit s → T (let_like (100 ∷ s))
    by_digits [] h = tt
    by_digits (c ∷ s) h = h.0

pub let-name-foreign : (i : ℕ) → T (in_list (let_name i) built_in) → ⊥
let-name-foreign i h = T_not (let_like (let_name i)) (every_in (λ n. not (let_like n)) built_in (let_name i) none-let-like h) (let-name-like i)

pub shared-below : (d : Dag) (us : List ℕ) (i : ℕ) → T (shared d us i) → i < length d.nodes
unfolding shared
shared-below d us i t = ltb→lt i (length d.nodes) (and_0 (ltb i (length d.nodes)) _ t)

-- where 11 is not told, a shared node's name is declared nowhere
pub names-clear : (d : Dag) (us : List ℕ) → T (names_clear d us) → (i : ℕ) → T (shared d us i) → T (in_list (let_name i) (all_names d)) → ⊥
unfolding names_clear
names-clear d us t i s h =
    let l = shared-below d us i s in
    T_not (shared d us i && in_list (let_name i) (all_names d))
    (every-at (λ i. not (shared d us i && in_list (let_name i) (all_names d))) 0 (length d.nodes) t i (omega arith) (omega arith))
    (and_T (shared d us i) (in_list (let_name i) (all_names d)) s h)

-- ---------------------------------------------------------------- scopes of nodes

-- each node under its name
abbrev pub entries : {A : Type 0} → (ℕ → A) → List ℕ → Scope A
entries f js = map (λ j. record { name = let_name j; value = f j }) js

pub entry_found : {A : Type 0} (f : ℕ → A) (js : List ℕ) (j : ℕ) → T (among js j) → bound_to (entries f js) (let_name j) ≡ some (f j)
entry_found f [] j h = absurd h
entry_found {A} f (x ∷ js) j h = by_first (same (let_name j) (let_name x)) refl (λ q. entry_found f js j q)
  where
    by_first : (t : Bool) → same (let_name j) (let_name x) ≡ t → (T (among js j) → bound_to (entries f js) (let_name j) ≡ some (f j))
        → cond t (some (f x)) (bound_to (entries f js) (let_name j)) ≡ some (f j)
    by_first true e rest =
        let q : x ≡ j = sym (let-name-injective j x (same→eq (let_name j) (let_name x) (true→T e))) in
        ap (λ (k : ℕ). some (f k)) q
    by_first false e rest =
        rest (or_elim (eqb j x) (among js j) h
        (λ q. absurd (subst T e (subst (λ (k : ℕ). T (same (let_name j) (let_name k))) (eqb→eq j x q) (same_refl (let_name j))))) (λ q. q))

pub entries-map : {A B : Type 0} (g : A → B) (f : ℕ → A) (js : List ℕ) (n : Name)
    → bound_to (entries (λ j. g (f j)) js) n ≡ elim (bound_to (entries f js) n) [ nothing ↦ nothing | some x ↦ some (g x) ]
entries-map g f [] n = refl
entries-map {A} {B} g f (j ∷ js) n = by_first (same n (let_name j)) (entries-map g f js n)
  where
    by_first : (t : Bool) → bound_to (entries (λ j. g (f j)) js) n ≡ elim (bound_to (entries f js) n) [ nothing ↦ nothing | some x ↦ some (g x) ]
        → cond t (some (g (f j))) (bound_to (entries (λ j. g (f j)) js) n)
        ≡ elim (cond t (some (f j)) (bound_to (entries f js) n)) [ nothing ↦ nothing | some x ↦ some (g x) ]
    by_first true rest = refl
    by_first false rest = rest

pub entries-fresh : {A : Type 0} (D : Declarations) (bound : ℕ → Bool) → ((j : ℕ) → T (bound j) → FreshName D (let_name j)) → (f : ℕ → A) (js : List ℕ)
    → All bound js → Fresh D (bound_names (entries f js))
entries-fresh D bound h f [] a = fresh-none D
entries-fresh D bound h f (j ∷ js) a = fresh-more D (let_name j) (bound_names (entries f js)) (h j a.0) (entries-fresh D bound h f js a.1)

-- ---------------------------------------------------------------- 11 in the request's words

-- a declared name is `d` and the number of a shared node, reached or not
pub clash-is : (d : Dag) (us : List ℕ) → T (not (names_clear d us)) ↔ ((i : ℕ) × T (shared d us i) × T (in_list (let_name i) (all_names d)))
clash-is d us = (there, λ h. not_T (names_clear d us) λ t. names-clear d us t h.0 h.1 h.2)
  where
    there : T (not (names_clear d us)) → (i : ℕ) × T (shared d us i) × T (in_list (let_name i) (all_names d))
    there h =
        let (k, t) = not-every (λ i. not (shared d us i && in_list (let_name i) (all_names d))) 0 (length d.nodes) (unfold names_clear in h) in
        let s = not-not (shared d us k && in_list (let_name k) (all_names d)) t in
        (k, and_0 (shared d us k) (in_list (let_name k) (all_names d)) s, and-1 (shared d us k) (in_list (let_name k) (all_names d)) s)
