-- What the sort of a tree says of the things that it names.
use Rattle.std.specs.Prelude.{ℕ, zero, suc, ◌+◌, ◌≤◌, ◌<◌, ◌≡◌, refl, Bool, true, false, ◌&&◌, length, get_or}
use Rattle.std.proofs.Math.Path.{ap, subst}
use Rattle.std.proofs.Common.{sym, ◌∙◌, arith}
use mathlib.Core.List.{List, [], ◌∷◌, ◌++◌, map}
use Rattle.std.proofs.Math.Option.{Option, none, some}
use Rattle.std.proofs.Math.Dec.{T}
use Rattle.lists.specs.Tests.{same, every, and_0, and-1, and_T, every-place}
use Rattle.lists.specs.Build.{find_from, find, find-bound}
use Rattle.lists.specs.Places.{find-place}
use Rattle.reading.specs.Trees.{Name, Tree, variable, select, call, Trees, Stores, Variable, Array, Function, Declarations}
use Rattle.echo_spec.specs.Shapes.{Shape}
use Rattle.echo_spec.specs.TreeSorts.{
  TreeSort,
  bits,
  has_sort,
  have_sorts,
  rule_for,
  operator_sort,
  sort_under,
  none_bound,
  tree_sort,
  tree_sorts,
  stores_have,
}
use Rattle.echo_spec.specs.TreeSortLaws.{has-eq, Met, operator-met, variable-declared, select-fits, call_fits}
use Rattle.readback.specs.Printable.{width_ok, variable_ok, array_ok, function_ok}
use Rattle.readback.specs.Rebuild.{variable_number, array_number, function_number, number_or0}
use Rattle.rebuilt.specs.Built.{no-variable, no-array, no-function, variable_at, array_at, function_at}

-- ---------------------------------------------------------------- what is declared

pub record Declared (D : Declarations) : Type 0 where
  pub variables : (k : ℕ) → k < length D.variables → T (variable_ok (variable_at D k))
  pub arrays : (k : ℕ) → k < length D.arrays → T (array_ok (array_at D k))
  pub functions : (g : ℕ) → g < length D.functions → T (function_ok (function_at D g))

pub declared : (D : Declarations) → T (every variable_ok D.variables) → T (every array_ok D.arrays) → T (every function_ok D.functions) → Declared D
declared D v a f = record {
  variables = every-place variable_ok no-variable D.variables v;
  arrays = every-place array_ok no-array D.arrays a;
  functions = every-place function_ok no-function D.functions f;
}

-- ---------------------------------------------------------------- operands

pub have-eq : (os : List (Option TreeSort)) (ss : List TreeSort) → T (have_sorts os ss) → os ≡ map some ss
unfolding have_sorts
have-eq [] [] h = refl
have-eq [] (s ∷ ss) h = absurd h
have-eq (o ∷ os) [] h = absurd h
have-eq (o ∷ os) (s ∷ ss) h =
    let a = has-eq o s (and_0 (has_sort o s) (have_sorts os ss) h) in
    let b = have-eq os ss (and-1 (has_sort o s) (have_sorts os ss) h) in
    λ i. a i ∷ b i

-- the operands of an operator that has a sort have those of its rule
pub operands-are : (h : Shape) (ks : List ℕ) (os : List (Option TreeSort)) (σ : TreeSort) → operator_sort h ks os ≡ some σ → os ≡ map some (rule_for h ks os).operands
operands-are h ks os σ e = have-eq os (rule_for h ks os).operands (operator-met h ks os σ e).operands

-- ---------------------------------------------------------------- names

-- what is found has a place
number-found : {A : Type 0} (p : A → Bool) (k : ℕ) (xs : List A) (x : A) → find p xs ≡ some x → (i : ℕ) × (find_from p k xs ≡ some (k + i))
unfolding find find_from
number-found p k [] x e = absurd (let z : ◌≡◌ {A = ℕ} 0 1 = cc in omega arith)
number-found {A} p k (y ∷ xs) x e = by_first (p y) refl e (λ q. number-found p (suc k) xs x q)
  where
    by_first : (b : Bool) → p y ≡ b → find p (y ∷ xs) ≡ some x → (find p xs ≡ some x → (i : ℕ) × (find_from p (suc k) xs ≡ some (suc k + i)))
        → (i : ℕ) × (find_from p k (y ∷ xs) ≡ some (k + i))
    by_first true q e rest = let z : k + 0 ≡ k = omega arith in (0, rw (q, find_from, z))
    by_first false q e rest =
        let (i, f) = rest (rw (q, find) at e) in
        let z : k + suc i ≡ suc k + i = omega arith in
        (suc i, rw (q, find_from, z) f)

abbrev numbered : {A : Type 0} → (A → Bool) → A → List A → A → ℕ → Type 0
numbered p d xs x k = (find_from p 0 xs ≡ some k) × (k < length xs) × (get_or xs k d ≡ x)

number-of-found : {A : Type 0} (p : A → Bool) (d : A) (xs : List A) (x : A) → find p xs ≡ some x → numbered p d xs x (number_or0 (find_from p 0 xs))
number-of-found {A} p d xs x e =
    let (i, f) = number-found p 0 xs x e in
    let z : 0 + i ≡ i = omega arith in
    let g : find_from p 0 xs ≡ some i = f ∙ ap (λ (n : ℕ). some n) z in
    let l = (find-bound p 0 xs i g).1 in
    let h : some (get_or xs i d) ≡ some x = sym (find-place p d 0 xs i f) ∙ e in
    let q : get_or xs i d ≡ x = cc in
    let m : i < length xs = omega arith in
    let n : number_or0 (find_from p 0 xs) ≡ i = ap number_or0 g in
    subst (λ (k : ℕ). numbered p d xs x k) (sym n) (g, m, q)

module _ (D : Declarations) where
  pub variable-known : (n : Name) (σ : TreeSort) → tree_sort D (variable n) ≡ some σ
      → let k : ℕ = number_or0 (variable_number D n) in (variable_number D n ≡ some k) × (k < length D.variables) × (bits (variable_at D k).width ≡ σ)
  unfolding sort_under
  variable-known n σ e =
      let p : (Variable → Bool) = λ (v : Variable). same n v.name in
      let (x, f, q) = variable-declared (find p D.variables) σ e in
      let (a, b, c) = number-of-found p no-variable D.variables x f in
      (a, b, ap (λ (v : Variable). bits v.width) c ∙ q)

  pub select-known : (a : Name) (j : Tree) (qs : Stores) (σ : TreeSort) → tree_sort D (select a j qs) ≡ some σ
      → let m : ℕ = number_or0 (array_number D a) in
      (array_number D a ≡ some m) × (m < length D.arrays) × (tree_sort D j ≡ some (bits (array_at D m).index))
      × T (stores_have D none_bound (array_at D m).index (array_at D m).value qs) × (bits (array_at D m).value ≡ σ)
  unfolding sort_under
  select-known a j qs σ e =
      let p : (Array → Bool) = λ (x : Array). same a x.name in
      let fits : (Array → Bool) = λ x. has_sort (tree_sort D j) (bits x.index) && stores_have D none_bound x.index x.value qs in
      let (x, f, t, q) = select-fits (find p D.arrays) fits σ e in
      let (b, c, g) = number-of-found p no-array D.arrays x f in
      let t' : T (fits (array_at D (number_or0 (array_number D a)))) = subst (λ (y : Array). T (fits y)) (sym g) t in
      let y : Array = array_at D (number_or0 (array_number D a)) in (
        b,
        c,
        has-eq (tree_sort D j) (bits y.index) (and_0 (has_sort (tree_sort D j) (bits y.index)) _ t'),
        and-1 (has_sort (tree_sort D j) (bits y.index)) _ t',
        ap (λ (x : Array). bits x.value) g ∙ q,
      )

  pub call_known : (n : Name) (ts : Trees) (σ : TreeSort) → tree_sort D (call n ts) ≡ some σ
      → let g : ℕ = number_or0 (function_number D n) in
      (function_number D n ≡ some g) × (g < length D.functions) × (tree_sorts D ts ≡ map some (map bits (function_at D g).arguments)) × (bits (function_at D g).width ≡ σ)
  unfolding sort_under
  call_known n ts σ e =
      let p : (Function → Bool) = λ (f : Function). same n f.name in
      let (x, f, t, q) = call_fits (find p D.functions) (tree_sorts D ts) σ e in
      let (b, c, g) = number-of-found p no-function D.functions x f in (
        b,
        c,
        have-eq (tree_sorts D ts) (map bits x.arguments) t ∙ ap (λ (f : Function). map some (map bits f.arguments)) (sym g),
        ap (λ (f : Function). bits f.width) g ∙ q,
      )
