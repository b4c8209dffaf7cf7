-- The numbers of the kinds of a node: the cases of `DagNode` in the Rust's order, then `Select` and `Call`.
use Rattle.std.specs.Prelude.{ℕ}

abbrev pub Var : ℕ
Var = 0

abbrev pub Const : ℕ
Const = 1

abbrev pub Add : ℕ
Add = 2

abbrev pub Sub : ℕ
Sub = 3

abbrev pub Mul : ℕ
Mul = 4

abbrev pub Udiv : ℕ
Udiv = 5

abbrev pub Urem : ℕ
Urem = 6

abbrev pub And : ℕ
And = 7

abbrev pub Or : ℕ
Or = 8

abbrev pub Xor : ℕ
Xor = 9

abbrev pub Shl : ℕ
Shl = 10

abbrev pub Lshr : ℕ
Lshr = 11

abbrev pub Ashr : ℕ
Ashr = 12

abbrev pub Rotr : ℕ
Rotr = 13

abbrev pub Extract : ℕ
Extract = 14

abbrev pub Concat : ℕ
Concat = 15

abbrev pub ZeroExt : ℕ
ZeroExt = 16

abbrev pub SignExt : ℕ
SignExt = 17

abbrev pub Ite : ℕ
Ite = 18

abbrev pub Eq : ℕ
Eq = 19

abbrev pub Ne : ℕ
Ne = 20

abbrev pub Ult : ℕ
Ult = 21

abbrev pub Ule : ℕ
Ule = 22

abbrev pub Ugt : ℕ
Ugt = 23

abbrev pub Uge : ℕ
Uge = 24

abbrev pub Slt : ℕ
Slt = 25

abbrev pub Sle : ℕ
Sle = 26

abbrev pub Sgt : ℕ
Sgt = 27

abbrev pub Sge : ℕ
Sge = 28

abbrev pub Not : ℕ
Not = 29

abbrev pub BoolAnd : ℕ
BoolAnd = 30

abbrev pub BoolOr : ℕ
BoolOr = 31

abbrev pub BvNot : ℕ
BvNot = 32

abbrev pub Neg : ℕ
Neg = 33

abbrev pub Rotl : ℕ
Rotl = 34

abbrev pub Sdiv : ℕ
Sdiv = 35

abbrev pub Srem : ℕ
Srem = 36

abbrev pub Select : ℕ
Select = 37

abbrev pub Call : ℕ
Call = 38
