-- What a term whose operands are being read still waits for, and the sort that it ends with: SMT-LIB's ranks operand by operand.
use Rattle.std.specs.Prelude.{ℕ, zero, suc, ◌+◌, ◌-◌, List, [], ◌∷◌, Bool, true, false, ◌&&◌, cond, leb, ltb, eqb, get_or}
use Rattle.std.proofs.Math.Option.{Option, none, some}
use Rattle.echo_spec.specs.Shapes.{
  Shape,
  var,
  const,
  binary,
  rotation,
  extraction,
  concat,
  extension,
  ite,
  comparison,
  negation,
  connective,
  unary,
  unknown,
}
use Rattle.echo_spec.specs.TreeSorts.{TreeSort, bool, bits, if_proper}

pub data Wait : Type 0 where
  -- an operator of this shape with these numerals, before its first operand
  first : Shape → List ℕ → Wait
  -- a bit-vector of this width, and then the end with this sort
  equal : ℕ → TreeSort → Wait
  -- a concatenation's second operand, after one of this width
  joins : ℕ → Wait
  -- a choice's second operand
  chosen : Wait
  -- a Bool, and then the end with a Bool
  truth : Wait
  -- the end, with this sort
  ends : TreeSort → Wait
  -- arguments of these widths, and then the end with a bit-vector of this width
  arguments : List ℕ → ℕ → Wait
  -- nothing is right any more
  stuck : Wait

-- the end, if the sort is one
unfoldable pub ends_with : Option TreeSort → Wait
ends_with none = stuck
ends_with (some σ) = ends σ

-- the first operand is a bit-vector of width m
unfoldable pub after_vector : Shape → List ℕ → ℕ → Wait
after_vector var ks m = stuck
after_vector const ks m = stuck
after_vector binary [] m = equal m (bits m)
after_vector binary (i ∷ ks) m = stuck
after_vector rotation (i ∷ []) m = cond (ltb i m && leb m 65536) (ends (bits m)) stuck
after_vector rotation [] m = stuck
after_vector rotation (i ∷ j ∷ ks) m = stuck
after_vector extraction (i ∷ j ∷ []) m = cond (leb j i && ltb i m) (ends_with (if_proper (bits (i - j + 1)))) stuck
after_vector extraction [] m = stuck
after_vector extraction (i ∷ []) m = stuck
after_vector extraction (i ∷ j ∷ k ∷ ks) m = stuck
after_vector concat [] m = joins m
after_vector concat (i ∷ ks) m = stuck
after_vector extension (i ∷ []) m = ends_with (if_proper (bits (m + i)))
after_vector extension [] m = stuck
after_vector extension (i ∷ j ∷ ks) m = stuck
after_vector ite ks m = stuck
after_vector comparison [] m = equal m bool
after_vector comparison (i ∷ ks) m = stuck
after_vector negation ks m = stuck
after_vector connective ks m = stuck
after_vector unary [] m = ends (bits m)
after_vector unary (i ∷ ks) m = stuck
after_vector Shape.select ks m = stuck
after_vector Shape.call ks m = stuck
after_vector unknown ks m = stuck

-- it is a Bool
unfoldable pub after_bool : Shape → List ℕ → Wait
after_bool var ks = stuck
after_bool const ks = stuck
after_bool binary ks = stuck
after_bool rotation ks = stuck
after_bool extraction ks = stuck
after_bool concat ks = stuck
after_bool extension ks = stuck
after_bool ite [] = chosen
after_bool ite (i ∷ ks) = stuck
after_bool comparison ks = stuck
after_bool negation [] = ends bool
after_bool negation (i ∷ ks) = stuck
after_bool connective [] = truth
after_bool connective (i ∷ ks) = stuck
after_bool unary ks = stuck
after_bool Shape.select ks = stuck
after_bool Shape.call ks = stuck
after_bool unknown ks = stuck

-- one operand more, of this sort
unfoldable pub step : Wait → TreeSort → Wait
step (first h ks) bool = after_bool h ks
step (first h ks) (bits m) = after_vector h ks m
step (equal m σ) bool = stuck
step (equal m σ) (bits n) = cond (eqb n m) (ends σ) stuck
step (joins m) bool = stuck
step (joins m) (bits n) = ends_with (if_proper (bits (m + n)))
step chosen bool = stuck
step chosen (bits n) = equal n (bits n)
step truth bool = ends bool
step truth (bits n) = stuck
step (ends σ) τ = stuck
step (arguments [] w) τ = stuck
step (arguments (v ∷ ws) w) bool = stuck
step (arguments (v ∷ ws) w) (bits n) = cond (eqb n v) (arguments ws w) stuck
step stuck τ = stuck

-- the closing bracket
unfoldable pub close : Wait → Option TreeSort
close (first h ks) = none
close (equal m σ) = none
close (joins m) = none
close chosen = none
close truth = none
close (ends σ) = some σ
close (arguments [] w) = if_proper (bits w)
close (arguments (v ∷ ws) w) = none
close stuck = none

-- all operands, and the closing bracket
unfoldable pub finish : Wait → List (Option TreeSort) → Option TreeSort
finish w [] = close w
finish w (none ∷ os) = none
finish w (some σ ∷ os) = finish (step w σ) os
