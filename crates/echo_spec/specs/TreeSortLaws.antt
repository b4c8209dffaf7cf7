-- Laws of the sorts of trees: what has a sort by its rule, and what a tree that has one has passed.
use Rattle.std.specs.Prelude.{ℕ, ◌≡◌, refl, List, [], ◌∷◌, map, Bool, true, false, cond, T, leb, length}
use Rattle.std.proofs.Common.{ap, sym, arith, eqb→eq}
use Rattle.std.proofs.Math.Option.{Option, none, some}
use Rattle.std.proofs.Math.Dec.{eqb_refl}
use Rattle.lists.specs.Tests.{same, every, and_0, and-1, and_T, same→eq, same_refl, T→true}
use Rattle.lists.specs.Build.{find}
use Rattle.reading.specs.Trees.{Tree, variable, constant, apply, select, call, Trees, none as noTrees, more, Variable, Array, Function, Declarations}
use Rattle.echo_spec.specs.Shapes.{Shape, shape_of}
use Rattle.echo_spec.specs.TreeSorts.{
  TreeSort,
  bool,
  bits,
  same_sort,
  proper,
  if_proper,
  has_sort,
  have_sorts,
  Rule,
  rule_for,
  rule_met,
  operator_sort,
  variable_sort,
  select_sort,
  call_sort,
  BoundSorts,
  sort_under,
  sorts_under,
}

-- ---------------------------------------------------------------- what has a sort

pub same-sort : (s : TreeSort) → T (same_sort s s)
unfolding same_sort
same-sort bool = tt
same-sort (bits n) = eqb_refl n

pub have-own : (ss : List TreeSort) → T (have_sorts (map some ss) ss)
unfolding have_sorts has_sort
have-own [] = tt
have-own (s ∷ ss) = and_T (same_sort s s) (have_sorts (map some ss) ss) (same-sort s) (have-own ss)

pub has-own : (o : Option TreeSort) (s : TreeSort) → o ≡ some s → T (has_sort o s)
unfolding has_sort
has-own o s e = rw e (same-sort s)

pub if-proper : (s : TreeSort) → T (proper s) → if_proper s ≡ some s
unfolding if_proper
if-proper s h = rw (T→true (proper s) h)

-- numerals and operands that are those of their rule
pub operator-sort : (h : Shape) (ks : List ℕ) (ss : List TreeSort) (s : TreeSort) → (rule_for h ks (map some ss)).numerals ≡ ks → (rule_for h ks (map some ss)).operands ≡ ss
    → T (rule_for h ks (map some ss)).condition → (rule_for h ks (map some ss)).result ≡ s → T (proper s) → operator_sort h ks (map some ss) ≡ some s
unfolding operator_sort
operator-sort h ks ss s e f c r p =
    let x : Rule = rule_for h ks (map some ss) in
    let a : T (same ks x.numerals) = rw e (same_refl ks) in
    let b : T (have_sorts (map some ss) x.operands) = rw f (have-own ss) in
    let m : T (rule_met x ks (map some ss)) = and_T (same ks x.numerals) _ a (and_T (have_sorts (map some ss) x.operands) x.condition b c) in
    rw (T→true (rule_met x ks (map some ss)) m, r) (if-proper s p)

-- ---------------------------------------------------------------- what a tree that has a sort has passed

none-not : {A : Type 0} {C : Type 0} (x : A) → none ≡ some x → C
none-not x e = absurd (let z : ◌≡◌ {A = ℕ} 0 1 = cc in omega arith)

pub cond-some : (b : Bool) (o : Option TreeSort) (s : TreeSort) → cond b o none ≡ some s → T b × (o ≡ some s)
cond-some true o s e = (tt, e)
cond-some false o s e = none-not s e

pub proper-if : (s t : TreeSort) → if_proper s ≡ some t → (s ≡ t) × T (proper t)
unfolding if_proper
proper-if s t e =
    let (p, f) = cond-some (proper s) (some s) t e in
    let g : s ≡ t = cc in
    (g, rw g at p)

pub same-eq : (s t : TreeSort) → T (same_sort s t) → s ≡ t
unfolding same_sort
same-eq bool bool h = refl
same-eq bool (bits n) h = absurd h
same-eq (bits m) bool h = absurd h
same-eq (bits m) (bits n) h = ap bits (eqb→eq m n h)

pub has-eq : (o : Option TreeSort) (s : TreeSort) → T (has_sort o s) → o ≡ some s
unfolding has_sort
has-eq none s h = absurd h
has-eq (some t) s h = ap some (same-eq t s h)

-- an operator that has a sort meets its shape's rule
pub record Met (h : Shape) (ks : List ℕ) (os : List (Option TreeSort)) (s : TreeSort) : Type 0 where
  pub numerals : (rule_for h ks os).numerals ≡ ks
  pub operands : T (have_sorts os (rule_for h ks os).operands)
  pub condition : T (rule_for h ks os).condition
  pub result : (rule_for h ks os).result ≡ s
  pub proper : T (proper s)

pub operator-met : (h : Shape) (ks : List ℕ) (os : List (Option TreeSort)) (s : TreeSort) → operator_sort h ks os ≡ some s → Met h ks os s
unfolding operator_sort
operator-met h ks os s e =
    let x : Rule = rule_for h ks os in
    let (m, f) = cond-some (rule_met x ks os) (if_proper x.result) s e in
    let (r, p) = proper-if x.result s f in
    let m₁ = and-1 (same ks x.numerals) _ m in
    record {
      numerals = sym (same→eq ks x.numerals (and_0 (same ks x.numerals) _ m));
      operands = and_0 (have_sorts os x.operands) x.condition m₁;
      condition = and-1 (have_sorts os x.operands) x.condition m₁;
      result = r;
      proper = p;
    }

-- a name that is not bound is declared
pub variable-declared : (v : Option Variable) (s : TreeSort) → variable_sort none v ≡ some s → (x : Variable) × (v ≡ some x) × (bits x.width ≡ s)
unfolding variable_sort
variable-declared none s e = none-not s e
variable-declared (some v) s e = (v, refl, (proper-if (bits v.width) s e).0)

pub select-fits : (r : Option Array) (fits : Array → Bool) (s : TreeSort) → select_sort r fits ≡ some s → (a : Array) × (r ≡ some a) × T (fits a) × (bits a.value ≡ s)
unfolding select_sort
select-fits none fits s e = none-not s e
select-fits (some a) fits s e =
    let (t, f) = cond-some (fits a) (if_proper (bits a.value)) s e in
    (a, refl, t, (proper-if (bits a.value) s f).0)

pub call_fits : (g : Option Function) (os : List (Option TreeSort)) (s : TreeSort) → call_sort g os ≡ some s
    → (f : Function) × (g ≡ some f) × T (have_sorts os (map bits f.arguments)) × (bits f.width ≡ s)
unfolding call_sort
call_fits none os s e = none-not s e
call_fits (some f) os s e =
    let (t, p) = cond-some (have_sorts os (map bits f.arguments)) (if_proper (bits f.width)) s e in
    (f, refl, t, (proper-if (bits f.width) s p).0)

-- every sort that a tree has is proper
pub sorted-proper : (D : Declarations) (bound : BoundSorts) (t : Tree) (s : TreeSort) → sort_under D bound t ≡ some s → T (proper s)
unfolding sort_under variable_sort select_sort call_sort
sorted-proper D bound (variable n) s e = by-bound (bound n) (find (λ (v : Variable). same n v.name) D.variables) e
  where
    by-bound : (o : Option TreeSort) (v : Option Variable) → variable_sort o v ≡ some s → T (proper s)
    by-bound (some u) v e = (proper-if u s e).1
    by-bound none none e = none-not s e
    by-bound none (some v) e = (proper-if (bits v.width) s e).1
sorted-proper D bound (constant bs) s e = (proper-if (bits (length bs)) s (cond-some (every (λ b. leb b 1) bs) _ s e).1).1
sorted-proper D bound (apply k ks ts) s e = (operator-met (shape_of k) ks (sorts_under D bound ts) s e).proper
sorted-proper D bound (select a j ss) s e = by-array (find (λ (x : Array). same a x.name) D.arrays) _ e
  where
    by-array : (r : Option Array) (fits : Array → Bool) → select_sort r fits ≡ some s → T (proper s)
    by-array none fits e = none-not s e
    by-array (some r) fits e = (proper-if (bits r.value) s (cond-some (fits r) _ s e).1).1
sorted-proper D bound (call n ts) s e = by-function (find (λ (f : Function). same n f.name) D.functions) (sorts_under D bound ts) e
  where
    by-function : (g : Option Function) (os : List (Option TreeSort)) → call_sort g os ≡ some s → T (proper s)
    by-function none os e = none-not s e
    by-function (some f) os e = (proper-if (bits f.width) s (cond-some (have_sorts os (map bits f.arguments)) _ s e).1).1

-- and so is every sort that operands have
pub operands-proper : (D : Declarations) (bound : BoundSorts) (ts : Trees) (ss : List TreeSort) → T (have_sorts (sorts_under D bound ts) ss) → T (every proper ss)
unfolding sort_under have_sorts
operands-proper D bound noTrees [] h = tt
operands-proper D bound noTrees (s ∷ ss) h = absurd h
operands-proper D bound (more t ts) [] h = absurd h
operands-proper D bound (more t ts) (s ∷ ss) h =
    and_T (proper s) (every proper ss) (sorted-proper D bound t s (has-eq (sort_under D bound t) s (and_0 (has_sort (sort_under D bound t) s) _ h)))
    (operands-proper D bound ts ss (and-1 (has_sort (sort_under D bound t) s) _ h))
