-- The 39 kinds of node by shape: which operands a kind has and what they are.
use Rattle.std.specs.Prelude.{ℕ, List, [], ◌∷◌, Bool, true, false, get_or}

-- operands in the Rust's order; one that a shape does not have is 0 in the record
pub data Shape : Type 0 where
  -- width
  var : Shape
  -- start in the bits, width
  const : Shape
  -- two bit-vectors of one width
  binary : Shape
  -- a bit-vector and its amount
  rotation : Shape
  -- highest bit, lowest bit, bit-vector
  extraction : Shape
  -- two bit-vectors
  concat : Shape
  -- a bit-vector and by how much
  extension : Shape
  -- a Bool and two bit-vectors
  ite : Shape
  -- two bit-vectors, into a Bool
  comparison : Shape
  -- a Bool
  negation : Shape
  -- two Bools
  connective : Shape
  -- a bit-vector
  unary : Shape
  -- array number, index, side start, number of stores
  select : Shape
  -- function number, width, side start, number of arguments
  call : Shape
  -- no kind has this shape
  unknown : Shape

-- the shape of each kind, 0 to 38
unfoldable pub shapes : List Shape
shapes =
    -- Var, Const
    var ∷ const
    -- Add, Sub, Mul, Udiv, Urem, And, Or, Xor, Shl, Lshr, Ashr
    ∷ binary ∷ binary ∷ binary ∷ binary ∷ binary ∷ binary ∷ binary ∷ binary ∷ binary ∷ binary ∷ binary
    -- Rotr, Extract, Concat, ZeroExt, SignExt, Ite
    ∷ rotation ∷ extraction ∷ concat ∷ extension ∷ extension ∷ ite
    -- Eq, Ne, Ult, Ule, Ugt, Uge, Slt, Sle, Sgt, Sge
    ∷ comparison ∷ comparison ∷ comparison ∷ comparison ∷ comparison ∷ comparison ∷ comparison ∷ comparison ∷ comparison ∷ comparison
    -- Not, BoolAnd, BoolOr, BvNot, Neg
    ∷ negation ∷ connective ∷ connective ∷ unary ∷ unary
    -- Rotl, Sdiv, Srem, Select, Call
    ∷ rotation ∷ binary ∷ binary ∷ select ∷ call ∷ []

abbrev pub shape_of : ℕ → Shape
shape_of k = get_or shapes k unknown

-- how many of the four operands a shape has
unfoldable pub operand_count : Shape → ℕ
operand_count var = 1
operand_count const = 2
operand_count binary = 2
operand_count rotation = 2
operand_count extraction = 3
operand_count concat = 2
operand_count extension = 2
operand_count ite = 3
operand_count comparison = 2
operand_count negation = 1
operand_count connective = 2
operand_count unary = 1
operand_count select = 4
operand_count call = 4
operand_count unknown = 0

-- is a term of this shape a Bool, and not a bit-vector
unfoldable pub is_bool : Shape → Bool
is_bool var = false
is_bool const = false
is_bool binary = false
is_bool rotation = false
is_bool extraction = false
is_bool concat = false
is_bool extension = false
is_bool ite = false
is_bool comparison = true
is_bool negation = true
is_bool connective = true
is_bool unary = false
is_bool select = false
is_bool call = false
is_bool unknown = false

-- `is_leaf`: a variable or a constant
unfoldable pub is_leaf : Shape → Bool
is_leaf var = true
is_leaf const = true
is_leaf binary = false
is_leaf rotation = false
is_leaf extraction = false
is_leaf concat = false
is_leaf extension = false
is_leaf ite = false
is_leaf comparison = false
is_leaf negation = false
is_leaf connective = false
is_leaf unary = false
is_leaf select = false
is_leaf call = false
is_leaf unknown = false
