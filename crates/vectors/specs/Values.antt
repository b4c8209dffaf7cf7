-- The value of a tree where its variables have values: SMT-LIB's interpretation of terms without arrays and free functions. Definitions only.
use Rattle.std.specs.Prelude.{ℕ, ◌+◌, ◌-◌, ◌*◌, List, [], ◌∷◌, Bool, false, ◌&&◌, ◌||◌, not, cond, leb, ltb, eqb, length, get_or}
use Rattle.lists.specs.Tests.{same}
use Rattle.reading.specs.Trees.{Name, Tree, variable, constant, apply, select, call, Trees, none, more, Variable}
use Rattle.vectors.specs.Vectors as smt

-- a Bool, or a bit-vector: its width and its number; `undefined` is the value of what is not well sorted, and of a select or call
pub data Value : Type 0 where
  truth : Bool → Value
  vector : ℕ → ℕ → Value
  undefined : Value

-- ---------------------------------------------------------------- operators

-- what an operator does to its operands; a width stands first, and before it what the operator's numerals say
pub data Meaning : Type 0 where
  binary : (ℕ → ℕ → ℕ → ℕ) → Meaning
  unary : (ℕ → ℕ → ℕ) → Meaning
  comparison : (ℕ → ℕ → ℕ → Bool) → Meaning
  connective : (Bool → Bool → Bool) → Meaning
  negation : Meaning
  choice : Meaning
  concatenation : Meaning
  extraction : Meaning
  -- an extension or a rotation, by so many places
  moved : (ℕ → ℕ → ℕ → ℕ) → (ℕ → ℕ → ℕ) → Meaning
  unknown : Meaning

-- the width of an extended vector, and of a rotated one
abbrev pub longer : ℕ → ℕ → ℕ
longer i m = m + i

abbrev pub unchanged : ℕ → ℕ → ℕ
unchanged i m = m

-- the meaning of each kind, 0 to 36
unfoldable pub meanings : List Meaning
meanings =
    -- Var, Const
    unknown ∷ unknown
    -- Add, Sub, Mul, Udiv, Urem
    ∷ binary smt.bvadd ∷ binary smt.bvsub ∷ binary smt.bvmul ∷ binary smt.bvudiv ∷ binary smt.bvurem
    -- And, Or, Xor, Shl, Lshr, Ashr
    ∷ binary smt.bvand ∷ binary smt.bvor ∷ binary smt.bvxor ∷ binary smt.bvshl ∷ binary smt.bvlshr ∷ binary smt.bvashr
    -- Rotr, Extract, Concat, ZeroExt, SignExt, Ite
    ∷ moved smt.rotate_right unchanged ∷ extraction ∷ concatenation ∷ moved smt.zero_extend longer ∷ moved smt.sign_extend longer ∷ choice
    -- Eq, Ne
    ∷ comparison (λ m s t. eqb s t) ∷ comparison (λ m s t. not (eqb s t))
    -- Ult, Ule, Ugt, Uge
    ∷ comparison (λ m s t. smt.bvult s t) ∷ comparison (λ m s t. smt.bvule s t) ∷ comparison (λ m s t. smt.bvugt s t) ∷ comparison (λ m s t. smt.bvuge s t)
    -- Slt, Sle, Sgt, Sge
    ∷ comparison smt.bvslt ∷ comparison smt.bvsle ∷ comparison smt.bvsgt ∷ comparison smt.bvsge
    -- Not, BoolAnd, BoolOr, BvNot, Neg
    ∷ negation ∷ connective ◌&&◌ ∷ connective ◌||◌ ∷ unary smt.bvnot ∷ unary smt.bvneg
    -- Rotl, Sdiv, Srem
    ∷ moved smt.rotate_left unchanged ∷ binary smt.bvsdiv ∷ binary smt.bvsrem ∷ []

abbrev pub meaning : ℕ → Meaning
meaning k = get_or meanings k unknown

-- of one operand
abbrev pub on_one : Meaning → List ℕ → Value → Value
on_one (binary f) ks v = undefined
on_one (unary f) [] (vector m s) = vector m (f m s)
on_one (unary f) [] (truth b) = undefined
on_one (unary f) [] undefined = undefined
on_one (unary f) (k ∷ ks) v = undefined
on_one (comparison f) ks v = undefined
on_one (connective f) ks v = undefined
on_one negation [] (truth b) = truth (not b)
on_one negation [] (vector m s) = undefined
on_one negation [] undefined = undefined
on_one negation (k ∷ ks) v = undefined
on_one choice ks v = undefined
on_one concatenation ks v = undefined
on_one extraction [] v = undefined
on_one extraction (i ∷ []) v = undefined
on_one extraction (i ∷ j ∷ []) (vector m s) = cond (leb j i && ltb i m) (vector (i - j + 1) (smt.extract i j s)) undefined
on_one extraction (i ∷ j ∷ []) (truth b) = undefined
on_one extraction (i ∷ j ∷ []) undefined = undefined
on_one extraction (i ∷ j ∷ k ∷ ks) v = undefined
on_one (moved f g) [] v = undefined
on_one (moved f g) (k ∷ []) (vector m s) = vector (g k m) (f k m s)
on_one (moved f g) (k ∷ []) (truth b) = undefined
on_one (moved f g) (k ∷ []) undefined = undefined
on_one (moved f g) (k ∷ l ∷ ks) v = undefined
on_one unknown ks v = undefined

-- of two vectors
abbrev pub on_vectors : Meaning → ℕ → ℕ → ℕ → ℕ → Value
on_vectors (binary f) m s n t = cond (eqb m n) (vector m (f m s t)) undefined
on_vectors (unary f) m s n t = undefined
on_vectors (comparison f) m s n t = cond (eqb m n) (truth (f m s t)) undefined
on_vectors (connective f) m s n t = undefined
on_vectors negation m s n t = undefined
on_vectors choice m s n t = undefined
on_vectors concatenation m s n t = vector (m + n) (smt.concat m n s t)
on_vectors extraction m s n t = undefined
on_vectors (moved f g) m s n t = undefined
on_vectors unknown m s n t = undefined

-- of two Bools
abbrev pub on_truths : Meaning → Bool → Bool → Value
on_truths (binary f) a b = undefined
on_truths (unary f) a b = undefined
on_truths (comparison f) a b = undefined
on_truths (connective f) a b = truth (f a b)
on_truths negation a b = undefined
on_truths choice a b = undefined
on_truths concatenation a b = undefined
on_truths extraction a b = undefined
on_truths (moved f g) a b = undefined
on_truths unknown a b = undefined

abbrev pub on_two : Meaning → Value → Value → Value
on_two o (vector m s) (vector n t) = on_vectors o m s n t
on_two o (vector m s) (truth b) = undefined
on_two o (vector m s) undefined = undefined
on_two o (truth a) (truth b) = on_truths o a b
on_two o (truth a) (vector n t) = undefined
on_two o (truth a) undefined = undefined
on_two o undefined v = undefined

-- ite
abbrev pub chosen : Value → Value → Value → Value
chosen (truth c) u v = cond c u v
chosen (vector m s) u v = undefined
chosen undefined u v = undefined

abbrev pub on_three : Meaning → Value → Value → Value → Value
on_three (binary f) u v w = undefined
on_three (unary f) u v w = undefined
on_three (comparison f) u v w = undefined
on_three (connective f) u v w = undefined
on_three negation u v w = undefined
on_three choice u v w = chosen u v w
on_three concatenation u v w = undefined
on_three extraction u v w = undefined
on_three (moved f g) u v w = undefined
on_three unknown u v w = undefined

-- an operator with its numerals on its operands
unfoldable pub applied : Meaning → List ℕ → List Value → Value
applied o ks [] = undefined
applied o ks (u ∷ []) = on_one o ks u
applied o [] (u ∷ v ∷ []) = on_two o u v
applied o (k ∷ ks) (u ∷ v ∷ []) = undefined
applied o [] (u ∷ v ∷ w ∷ []) = on_three o u v w
applied o (k ∷ ks) (u ∷ v ∷ w ∷ []) = undefined
applied o ks (u ∷ v ∷ w ∷ x ∷ xs) = undefined

-- ---------------------------------------------------------------- trees

-- the number of a constant's bits, the lowest first
unfoldable pub number : List ℕ → ℕ
number [] = 0
number (b ∷ bs) = b + 2 * number bs

unfoldable mutual
  pub value_of : (Name → Value) → Tree → Value
  value_of env (variable n) = env n
  value_of env (constant bs) = vector (length bs) (number bs)
  value_of env (apply k ks ts) = applied (meaning k) ks (values_of env ts)
  value_of env (select a i ss) = undefined
  value_of env (call f ts) = undefined

  pub values_of : (Name → Value) → Trees → List Value
  values_of env none = []
  values_of env (more t ts) = value_of env t ∷ values_of env ts

-- a row gives each declared variable, in order, its value
unfoldable pub environment : List Variable → List ℕ → Name → Value
environment [] row n = undefined
environment (v ∷ vs) [] n = undefined
environment (v ∷ vs) (x ∷ row) n = cond (same n v.name) (vector v.width x) (environment vs row n)

-- an assertion holds
unfoldable pub holds : Value → Bool
holds (truth b) = b
holds (vector m s) = false
holds undefined = false

-- ---------------------------------------------------------------- masks

-- bit k for assertion k, the others 0
unfoldable pub mask : List Bool → ℕ
mask [] = 0
mask (b ∷ bs) = cond b 1 0 + 2 * mask bs

-- how many hold
unfoldable pub count : List Bool → ℕ
count [] = 0
count (b ∷ bs) = cond b 1 0 + count bs
