-- The sort of a tree under declarations, from its operands' sorts: SMT-LIB's ranks, by the shape of each kind, within what the
-- printer can print. A tree that has none is not well sorted, or no accepted query has it.
use Rattle.std.specs.Prelude.{ℕ, ◌+◌, ◌-◌, List, [], ◌∷◌, map, Bool, true, false, ◌&&◌, cond, leb, ltb, eqb, length, get_or}
use Rattle.std.proofs.Math.Option.{Option, none, some}
use Rattle.lists.specs.Tests.{same, every}
use Rattle.lists.specs.Build.{find}
use Rattle.reading.specs.Trees.{
  Name,
  Tree,
  variable,
  constant,
  apply,
  select,
  call,
  Trees,
  none as noTrees,
  more,
  Stores,
  base,
  store,
  Variable,
  Array,
  Function,
  Declarations,
}
use Rattle.echo_spec.specs.Shapes.{
  Shape,
  var,
  const,
  binary,
  rotation,
  extraction,
  concat,
  extension,
  ite,
  comparison,
  negation,
  connective,
  unary,
  unknown,
  shape_of,
}
use Rattle.echo_spec.specs.Input.{fits64}

-- ---------------------------------------------------------------- sorts

-- Bool, or a bit-vector of a width
pub data TreeSort : Type 0 where
  bool : TreeSort
  bits : ℕ → TreeSort

unfoldable pub same_sort : TreeSort → TreeSort → Bool
same_sort bool bool = true
same_sort bool (bits n) = false
same_sort (bits m) bool = false
same_sort (bits m) (bits n) = eqb m n

-- a width is above 0 and has 64 bits
abbrev pub proper : TreeSort → Bool
proper bool = true
proper (bits w) = ltb 0 w && fits64 w

unfoldable pub if_proper : TreeSort → Option TreeSort
if_proper s = cond (proper s) (some s) none

-- has an operand this sort
unfoldable pub has_sort : Option TreeSort → TreeSort → Bool
has_sort none s = false
has_sort (some t) s = same_sort t s

-- have the operands these sorts, one each
unfoldable pub have_sorts : List (Option TreeSort) → List TreeSort → Bool
have_sorts [] [] = true
have_sorts [] (s ∷ ss) = false
have_sorts (o ∷ os) [] = false
have_sorts (o ∷ os) (s ∷ ss) = has_sort o s && have_sorts os ss

-- ---------------------------------------------------------------- operators

-- the numerals and the operands' sorts that an operator takes, the sort that it gives, and what is asked besides
pub record Rule : Type 0 where
  pub numerals : List ℕ
  pub operands : List TreeSort
  pub result : TreeSort
  pub condition : Bool

abbrev pub rule : List ℕ → List TreeSort → TreeSort → Bool → Rule
rule ks ss s c = record { numerals = ks; operands = ss; result = s; condition = c }

-- no operator has the shape
abbrev pub no_rule : Rule
no_rule = rule [] [] bool false

-- The rule of a shape, filled in: i and j are the first two numerals, m and n the widths of the first two operands. A rotation is
-- as refusal 5 and the reduction of its amount leave it.
unfoldable pub rule_of : Shape → ℕ → ℕ → ℕ → ℕ → Rule
rule_of var i j m n = no_rule
rule_of const i j m n = no_rule
rule_of binary i j m n = rule [] (bits m ∷ bits m ∷ []) (bits m) true
rule_of rotation i j m n = rule (i ∷ []) (bits m ∷ []) (bits m) (ltb i m && leb m 65536)
rule_of extraction i j m n = rule (i ∷ j ∷ []) (bits m ∷ []) (bits (i - j + 1)) (leb j i && ltb i m)
rule_of concat i j m n = rule [] (bits m ∷ bits n ∷ []) (bits (m + n)) true
rule_of extension i j m n = rule (i ∷ []) (bits m ∷ []) (bits (m + i)) true
rule_of ite i j m n = rule [] (bool ∷ bits n ∷ bits n ∷ []) (bits n) true
rule_of comparison i j m n = rule [] (bits m ∷ bits m ∷ []) bool true
rule_of negation i j m n = rule [] (bool ∷ []) bool true
rule_of connective i j m n = rule [] (bool ∷ bool ∷ []) bool true
rule_of unary i j m n = rule [] (bits m ∷ []) (bits m) true
rule_of Shape.select i j m n = no_rule
rule_of Shape.call i j m n = no_rule
rule_of unknown i j m n = no_rule

-- an operand's width, if it is a bit-vector
abbrev pub width_of : Option TreeSort → ℕ
width_of none = 0
width_of (some bool) = 0
width_of (some (bits m)) = m

abbrev pub rule_for : Shape → List ℕ → List (Option TreeSort) → Rule
rule_for h ks os = rule_of h (get_or ks 0 0) (get_or ks 1 0) (width_of (get_or os 0 none)) (width_of (get_or os 1 none))

abbrev pub rule_met : Rule → List ℕ → List (Option TreeSort) → Bool
rule_met x ks os = same ks x.numerals && (have_sorts os x.operands && x.condition)

-- the sort that an operator of this shape gives
unfoldable pub operator_sort : Shape → List ℕ → List (Option TreeSort) → Option TreeSort
operator_sort h ks os = cond (rule_met (rule_for h ks os) ks os) (if_proper (rule_for h ks os).result) none

-- ---------------------------------------------------------------- what is declared

abbrev pub variable_named : Declarations → Name → Option Variable
variable_named D n = find (λ (v : Variable). same n v.name) D.variables

abbrev pub array_named : Declarations → Name → Option Array
array_named D n = find (λ (a : Array). same n a.name) D.arrays

abbrev pub function_named : Declarations → Name → Option Function
function_named D n = find (λ (f : Function). same n f.name) D.functions

-- a name that is bound has the sort of what it is bound to
unfoldable pub variable_sort : Option TreeSort → Option Variable → Option TreeSort
variable_sort (some s) v = if_proper s
variable_sort none none = none
variable_sort none (some v) = if_proper (bits v.width)

-- `fits` says of an array whether index and stores are of its widths
unfoldable pub select_sort : Option Array → (Array → Bool) → Option TreeSort
select_sort none fits = none
select_sort (some a) fits = cond (fits a) (if_proper (bits a.value)) none

unfoldable pub call_sort : Option Function → List (Option TreeSort) → Option TreeSort
call_sort none os = none
call_sort (some f) os = cond (have_sorts os (map bits f.arguments)) (if_proper (bits f.width)) none

-- ---------------------------------------------------------------- trees

-- which sort a name is bound to
abbrev pub BoundSorts : Type 0
BoundSorts = Name → Option TreeSort

unfoldable mutual
  pub sort_under : Declarations → BoundSorts → Tree → Option TreeSort
  sort_under D bound (variable n) = variable_sort (bound n) (variable_named D n)
  sort_under D bound (constant bs) = cond (every (λ b. leb b 1) bs) (if_proper (bits (length bs))) none
  sort_under D bound (apply k ks ts) = operator_sort (shape_of k) ks (sorts_under D bound ts)
  sort_under D bound (select a j ss) =
      select_sort (array_named D a) (λ x. has_sort (sort_under D bound j) (bits x.index) && stores_have D bound x.index x.value ss)
  sort_under D bound (call n ts) = call_sort (function_named D n) (sorts_under D bound ts)

  pub sorts_under : Declarations → BoundSorts → Trees → List (Option TreeSort)
  sorts_under D bound noTrees = []
  sorts_under D bound (more t ts) = sort_under D bound t ∷ sorts_under D bound ts

  -- each index and each value has its width
  pub stores_have : Declarations → BoundSorts → ℕ → ℕ → Stores → Bool
  stores_have D bound i v base = true
  stores_have D bound i v (store x y ss) = has_sort (sort_under D bound x) (bits i) && (has_sort (sort_under D bound y) (bits v) && stores_have D bound i v ss)

-- where no name is bound
abbrev pub none_bound : BoundSorts
none_bound n = none

abbrev pub tree_sort : Declarations → Tree → Option TreeSort
tree_sort D t = sort_under D none_bound t

abbrev pub tree_sorts : Declarations → Trees → List (Option TreeSort)
tree_sorts D ts = sorts_under D none_bound ts

-- is every tree a Bool
abbrev pub all_bool : Declarations → Trees → Bool
all_bool D ts = every (λ o. has_sort o bool) (tree_sorts D ts)
