-- Computed examples of formulas: one of every form, and every pair of operators on either side.
use Rattle.std.specs.Prelude.{ℕ, suc, ◌≡◌, refl, List, [], ◌∷◌, ◌++◌, Bool, true, false, ◌&&◌, T, ltb}
use Prim.Native.String.{String}
use Rattle.lists.specs.Bytes.{bytes}
use Rattle.lists.specs.Tests.{same, every}
use Rattle.reading.specs.Kinds.{Add, Sub, Mul, Udiv, Urem, And, Or, Xor, Shl, Lshr, Ashr, Rotr, Extract, Concat, ZeroExt, SignExt, Ite, Eq, Ne, Ult}
use Rattle.reading.specs.Kinds.{Ule, Ugt, Uge, Slt, Sle, Sgt, Sge, Not, BoolAnd, BoolOr, BvNot, Neg, Rotl, Sdiv, Srem}
use Rattle.reading.specs.Trees.{Tree, variable, constant, apply, select, call, Trees, none, more, base, store}
use Rattle.echo_spec.specs.Render.{symbols, symbol_of, decimal_digits, decimal, binary_digits, quoted}
use Rattle.formula_text.specs.Notation.{notations, level, placed, later, parted, application, call_text, operand_texts, applied, formula, formulas}

pub record Example : Type 0 where
  pub tree : Tree
  pub text : String

abbrev ex : Tree → String → Example
ex t s = record { tree = t; text = s }

abbrev var : String → Tree
var s = variable (bytes s)

abbrev x : Tree
x = var "x"

abbrev y : Tree
y = var "y"

abbrev z : Tree
z = var "z"

-- four bits, the number 5
abbrev c : Tree
c = constant (1 ∷ 0 ∷ 1 ∷ 0 ∷ [])

abbrev one : ℕ → Tree → Tree
one k t = apply k [] (more t none)

abbrev two : ℕ → Tree → Tree → Tree
two k t u = apply k [] (more t (more u none))

unfoldable pub holds : Example → Bool
holds e = same (formula e.tree) (bytes e.text)

unfoldable pub forms : List Example
forms =
    ex (two Eq (two Add x c) x) "|x| + #b0101 == |x|"
    ∷ ex (two Sub (two Sub x y) z) "|x| - |y| - |z|"
    ∷ ex (two Sub x (two Sub y z)) "|x| - (|y| - |z|)"
    ∷ ex (two Add x (two Sub y z)) "|x| + (|y| - |z|)"
    ∷ ex (two BoolOr (two Eq x y) (two BoolOr (two Ne x z) (two Ult y z))) "|x| == |y| or (|x| != |z| or |y| < |z|)"
    ∷ ex (two Eq (two And x y) z) "(|x| band |y|) == |z|"
    ∷ ex (two Eq (two Shl x y) (two Lshr x y)) "|x| << |y| == |x| >> |y|"
    ∷ ex (two Ult (two Udiv x (two Urem y z)) (two Mul (two Add x y) z)) "|x| / (|y| % |z|) < (|x| + |y|) * |z|"
    ∷ ex (one Not (two Eq x y)) "!(|x| == |y|)"
    ∷ ex (one Not (one Not (two Eq x y))) "!!(|x| == |y|)"
    ∷ ex (one BvNot (one Neg x)) "~-|x|"
    ∷ ex (one Neg (one Neg x)) "--|x|"
    ∷ ex (two Sub x (one Neg y)) "|x| - -|y|"
    ∷ ex (two Sub (one Neg x) y) "-|x| - |y|"
    ∷ ex (one Neg (two Mul x y)) "-(|x| * |y|)"
    ∷ ex (two Mul (one Neg x) (one BvNot y)) "-|x| * ~|y|"
    ∷ ex (one Neg c) "-#b0101"
    ∷ ex (one Neg (two Concat x y)) "-concat(|x|, |y|)"
    ∷ ex (one Not (two Slt (two Add x y) z)) "!bvslt(|x| + |y|, |z|)"
    ∷ ex (two Ult (two Ult x y) z) "|x| < |y| < |z|"
    ∷ ex (two Ult x (two Ult y z)) "|x| < (|y| < |z|)"
    ∷ ex (two Eq (two Ult x y) (two Ult y z)) "|x| < |y| == |y| < |z|"
    ∷ ex (apply Ite [] (more (two Ult x y) (more (two Add x y) (more z none)))) "ite(|x| < |y|, |x| + |y|, |z|)"
    ∷ ex (apply Extract (7 ∷ 0 ∷ []) (more (two Add x y) none)) "extract(7, 0, |x| + |y|)"
    ∷ ex (apply ZeroExt (24 ∷ []) (more x none)) "zero_extend(24, |x|)"
    ∷ ex (apply SignExt (0 ∷ []) (more x none)) "sign_extend(0, |x|)"
    ∷ ex (apply Rotl (3 ∷ []) (more x none)) "rotate_left(3, |x|)"
    ∷ ex (apply Rotr (10 ∷ []) (more x none)) "rotate_right(10, |x|)"
    ∷ ex (two Ashr x y) "bvashr(|x|, |y|)"
    ∷ ex (two Sdiv x y) "bvsdiv(|x|, |y|)"
    ∷ ex (two Srem x y) "bvsrem(|x|, |y|)"
    ∷ ex (two Sle x y) "bvsle(|x|, |y|)"
    ∷ ex (two Sgt x y) "bvsgt(|x|, |y|)"
    ∷ ex (two Sge x y) "bvsge(|x|, |y|)"
    ∷ ex (select (bytes "m") x base) "select(|m|, |x|)"
    ∷ ex (select (bytes "m") (two Add x c) (store x y (store y (one Neg z) base))) "select(store(store(|m|, |y|, -|z|), |x|, |y|), |x| + #b0101)"
    ∷ ex (call (bytes "f") none) "|f|"
    ∷ ex (call (bytes "f g") (more (two Mul x y) (more (call (bytes "f") none) none))) "|f g|(|x| * |y|, |f|)"
    ∷ ex (one BvNot (call (bytes "f") (more x none))) "~|f|(|x|)"
    ∷ []

pub forms-hold : T (every holds forms)
unfolding forms holds formula level notations placed later parted application call_text operand_texts applied quoted decimal decimal_digits binary_digits symbol_of symbols bytes same
forms-hold = tt

-- an operator between operands, with its level as the request counts it
record Op : Type 0 where
  kind : ℕ
  symbol : String
  rank : ℕ

abbrev op : ℕ → String → ℕ → Op
op k s l = record { kind = k; symbol = s; rank = l }

unfoldable ops : List Op
ops =
    op BoolOr "or" 0
    ∷ op BoolAnd "and" 1
    ∷ op Or "bor" 2
    ∷ op Xor "bxor" 3
    ∷ op And "band" 4
    ∷ op Eq "==" 5
    ∷ op Ne "!=" 5
    ∷ op Ult "<" 6
    ∷ op Ule "<=" 6
    ∷ op Ugt ">" 6
    ∷ op Uge ">=" 6
    ∷ op Shl "<<" 7
    ∷ op Lshr ">>" 7
    ∷ op Add "+" 8
    ∷ op Sub "-" 8
    ∷ op Mul "*" 9
    ∷ op Udiv "/" 9
    ∷ op Urem "%" 9
    ∷ []

spaced : String → List ℕ
spaced s = bytes " " ++ (bytes s ++ bytes " ")

-- with or without brackets
around : Bool → List ℕ → List ℕ
around b s = elim b [ true ↦ bytes "(" ++ (s ++ bytes ")") | false ↦ s ]

-- i below o on the left: brackets where i is looser; on the right: brackets where i is looser or of the same level
left : Op → Op → Bool
unfolding around spaced
left o i = same (formula (two o.kind (two i.kind x y) z)) (around (ltb i.rank o.rank) (bytes "|x|" ++ (spaced i.symbol ++ bytes "|y|")) ++ (spaced o.symbol ++ bytes "|z|"))

right : Op → Op → Bool
unfolding around spaced
right o i =
    same (formula (two o.kind x (two i.kind y z))) (bytes "|x|" ++ (spaced o.symbol ++ around (ltb i.rank (suc o.rank)) (bytes "|y|" ++ (spaced i.symbol ++ bytes "|z|"))))

-- every pair of the eighteen operators, on either side
pairs : T (every (λ o. every (λ i. left o i && right o i) ops) ops)
unfolding ops left right around spaced formula level notations placed applied quoted symbol_of symbols bytes same
pairs = tt

-- no roots, no lines; one line for each root
lines : formulas none ≡ []
unfolding formulas
lines = refl

two-lines : formulas (more (two Eq x y) (more (one Not (two Ult x y)) none)) ≡ bytes "|x| == |y|\n!(|x| < |y|)\n"
unfolding formulas formula level notations placed applied quoted symbol_of symbols bytes
two-lines = refl
