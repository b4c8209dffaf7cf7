-- What operands follow the head of a term, as the code has it: the form of a node by its shape, and its operands in printing order.
use Rattle.std.specs.Prelude.{ℕ, zero, suc, ◌≡◌, refl, true, false, List, [], ◌∷◌, ◌++◌, map, take, drop}
use Rattle.echo_spec.specs.Shapes.{
  Shape,
  var,
  const,
  binary,
  rotation,
  extraction,
  concat,
  extension,
  ite,
  comparison,
  negation,
  connective,
  unary,
  select,
  call,
  unknown,
}
use Rattle.echo_spec.specs.Input.{Node}
use Rattle.echo_spec.specs.Walk.{Operand, vector, formula, levels, operands_as}
use Rattle.echo_tables.specs.declared.Form.{Form}
use Rattle.echo_tables.specs.declared.Form.TheVariants.{Leaf, One, Two, Choice, Chain, Arguments}

unfoldable pub call_form : ℕ → ℕ → Form
call_form s zero = Leaf
call_form s (suc n) = Arguments s (suc n)

unfoldable pub form_as : Node → Shape → Form
form_as n var = Leaf
form_as n const = Leaf
form_as n binary = Two n.a n.b false
form_as n rotation = One n.a false
form_as n extraction = One n.c false
form_as n concat = Two n.a n.b false
form_as n extension = One n.a false
form_as n ite = Choice n.a n.b n.c
form_as n comparison = Two n.a n.b false
form_as n negation = One n.a true
form_as n connective = Two n.a n.b true
form_as n unary = One n.a false
form_as n select = Chain n.b n.c n.d
form_as n call = call_form n.c n.d
form_as n unknown = Leaf

-- the operands of a form, in printing order
abbrev pub form_operands : List ℕ → Form → List Operand
form_operands side Leaf = []
form_operands side (One a w) = record { node = a; bool = w } ∷ []
form_operands side (Two a b w) = record { node = a; bool = w } ∷ record { node = b; bool = w } ∷ []
form_operands side (Choice a b c) = formula a ∷ vector b ∷ vector c ∷ []
form_operands side (Chain j s n) = levels n (drop s side) ++ (vector j ∷ [])
form_operands side (Arguments s n) = map vector (take n (drop s side))

-- ---------------------------------------------------------------- laws

pub call-leaf : (s : ℕ) {n : ℕ} → n ≡ 0 → Leaf ≡ call_form s n
unfolding call_form
call-leaf s e = rw e refl

pub call-some : (s n : ℕ) → (n ≡ 0 → ⊥) → Arguments s n ≡ call_form s n
unfolding call_form
call-some s zero f = absurd (f refl)
call-some s (suc n) f = refl

call-operands : (side : List ℕ) (s n : ℕ) → form_operands side (call_form s n) ≡ map vector (take n (drop s side))
unfolding call_form
call-operands side s zero = refl
call-operands side s (suc n) = refl

-- the operands of a node's form are the node's
pub form-operands : (side : List ℕ) (n : Node) (s : Shape) → form_operands side (form_as n s) ≡ operands_as side n s
unfolding form_as operands_as
form-operands side n var = refl
form-operands side n const = refl
form-operands side n binary = refl
form-operands side n rotation = refl
form-operands side n extraction = refl
form-operands side n concat = refl
form-operands side n extension = refl
form-operands side n ite = refl
form-operands side n comparison = refl
form-operands side n negation = refl
form-operands side n connective = refl
form-operands side n unary = refl
form-operands side n select = refl
form-operands side n call = call-operands side n.c n.d
form-operands side n unknown = refl
