-- The sorts of trees, computed: of each shape one that has its sort and one that has none, and the edges of what has one.
use Rattle.std.specs.Prelude.{ℕ, List, [], ◌∷◌, Bool, true, false, ◌&&◌, T}
use Prim.Native.String.{String}
use Rattle.std.proofs.Math.Option.{Option, none, some}
use Rattle.lists.specs.Bytes.{bytes}
use Rattle.lists.specs.Tests.{same, every}
use Rattle.lists.specs.Build.{find}
use Rattle.reading.specs.Kinds.{Var, Add, Rotr, Extract, Concat, ZeroExt, SignExt, Ite, Eq, Ult, Not, BoolAnd, BvNot, Rotl}
use Rattle.reading.specs.Trees.{Tree, variable, constant, apply, select, call, Trees, none as noTrees, more, base, store, Variable, Declarations}
use Rattle.echo_spec.specs.Shapes.{shapes}
use Rattle.echo_spec.specs.TreeSorts.{
  TreeSort,
  bool,
  bits,
  same_sort,
  if_proper,
  has_sort,
  have_sorts,
  rule_of,
  operator_sort,
  variable_sort,
  select_sort,
  call_sort,
  sort_under,
  tree_sort,
}

-- ---------------------------------------------------------------- what the trees are over

-- x and y have 8 bits, z has 4, and the others the widths in their names; m has 32 bits for an index and 8 for a value; f takes 8 and
-- 4 bits to 16, and g is a function without arguments
D : Declarations
D =
    let width : (String → ℕ → Variable) = λ n w. record { name = bytes n; width = w } in
    record {
      variables =
          width "x" 8 ∷ width "y" 8 ∷ width "z" 4 ∷ width "i" 32 ∷ width "w0" 0 ∷ width "w65536" 65536 ∷ width "w65537" 65537
          ∷ width "w64" 18446744073709551615 ∷ width "w65" 18446744073709551616 ∷ [];
      arrays = record { name = bytes "m"; index = 32; value = 8 } ∷ record { name = bytes "m0"; index = 32; value = 0 } ∷ [];
      functions = record { name = bytes "f"; arguments = 8 ∷ 4 ∷ []; width = 16 } ∷ record { name = bytes "g"; arguments = []; width = 8 } ∷ [];
    }

v : String → Tree
v n = variable (bytes n)

one : Tree → Trees
one a = more a noTrees

two : Tree → Tree → Trees
two a b = more a (one b)

three : Tree → Tree → Tree → Trees
three a b c = more a (two b c)

equal : Tree
equal = apply Eq [] (two (v "x") (v "y"))

-- ---------------------------------------------------------------- of each shape, one with its sort and one without

pub record Case : Type 0 where
  pub sorted : Tree
  pub sort : TreeSort
  pub refused : Tree

case : Tree → TreeSort → Tree → Case
case t s u = record { sorted = t; sort = s; refused = u }

has_none : Option TreeSort → Bool
has_none none = true
has_none (some s) = false

pub meets : Case → Bool
meets c = has_sort (tree_sort D c.sorted) c.sort && has_none (tree_sort D c.refused)

pub cases : List Case
cases =
    -- declared, or not
    case (v "x") (bits 8) (v "t")
    -- of bits, or not
    ∷ case (constant (1 ∷ 0 ∷ 1 ∷ [])) (bits 3) (constant (1 ∷ 2 ∷ 1 ∷ []))
    -- of one width, or of two
    ∷ case (apply Add [] (two (v "x") (v "y"))) (bits 8) (apply Add [] (two (v "x") (v "z")))
    -- by less than the width, or by the width
    ∷ case (apply Rotl (7 ∷ []) (one (v "x"))) (bits 8) (apply Rotl (8 ∷ []) (one (v "x")))
    -- the highest bit inside, or not
    ∷ case (apply Extract (7 ∷ 2 ∷ []) (one (v "x"))) (bits 6) (apply Extract (8 ∷ 2 ∷ []) (one (v "x")))
    -- of bit-vectors, or of a Bool
    ∷ case (apply Concat [] (two (v "x") (v "z"))) (bits 12) (apply Concat [] (two (v "x") equal))
    -- one numeral, or two
    ∷ case (apply SignExt (24 ∷ []) (one (v "x"))) (bits 32) (apply SignExt (24 ∷ 1 ∷ []) (one (v "x")))
    -- over a Bool, or over a bit-vector
    ∷ case (apply Ite [] (three equal (v "x") (v "y"))) (bits 8) (apply Ite [] (three (v "x") (v "x") (v "y")))
    -- of bit-vectors, or of Bools
    ∷ case (apply Ult [] (two (v "x") (v "y"))) bool (apply Eq [] (two equal equal))
    -- a Bool, or a bit-vector
    ∷ case (apply Not [] (one equal)) bool (apply Not [] (one (v "x")))
    -- two Bools, or three
    ∷ case (apply BoolAnd [] (two equal equal)) bool (apply BoolAnd [] (three equal equal equal))
    -- a bit-vector, or a Bool
    ∷ case (apply BvNot [] (one (v "x"))) (bits 8) (apply BvNot [] (one equal))
    -- an index and stores of the array's widths, or a value of another
    ∷ case (select (bytes "m") (v "i") (store (v "i") (v "x") base)) (bits 8) (select (bytes "m") (v "i") (store (v "i") (v "z") base))
    -- arguments of the declared widths, or exchanged
    ∷ case (call (bytes "f") (two (v "x") (v "z"))) (bits 16) (call (bytes "f") (two (v "z") (v "x")))
    -- no operator has the kind of a variable, nor one past the last
    ∷ case (call (bytes "g") noTrees) (bits 8) (apply Var [] noTrees)
    ∷ case equal bool (apply 39 [] (two (v "x") (v "y")))
    -- ---------------------------------------------------------------- edges
    -- a width is from 1 to the largest of 64 bits
    ∷ case (v "w64") (bits 18446744073709551615) (v "w65")
    ∷ case (apply Rotr (65535 ∷ []) (one (v "w65536"))) (bits 65536) (apply Rotr (0 ∷ []) (one (v "w65537")))
    ∷ case (apply Extract (0 ∷ 0 ∷ []) (one (v "x"))) (bits 1) (apply Extract (0 ∷ 1 ∷ []) (one (v "x")))
    ∷ case (apply ZeroExt (0 ∷ []) (one (v "w64"))) (bits 18446744073709551615) (apply ZeroExt (1 ∷ []) (one (v "w64")))
    ∷ case (constant (0 ∷ [])) (bits 1) (constant [])
    ∷ case (select (bytes "m") (v "i") base) (bits 8) (select (bytes "m0") (v "i") base)
    ∷ case (v "z") (bits 4) (v "w0")
    ∷ []

cases_meet : T (every meets cases)
unfolding cases case meets has_none D v one two three equal bytes sort_under variable_sort operator_sort select_sort call_sort rule_of if_proper has_sort have_sorts same_sort shapes same find
cases_meet = tt
