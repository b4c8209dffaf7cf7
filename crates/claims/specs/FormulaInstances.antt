-- The claims on `echo_formulas` at problems: each speaks of something.
use Rattle.std.specs.Prelude.{ℕ, ◌≤◌, ◌≡◌, refl, List, [], ◌∷◌, ◌≢◌, false, take, replicate, Err}
use Rattle.std.proofs.Common.{◌∙◌, ap, sym, inl, inr, arith}
use Rattle.lists.specs.Bytes.{bytes}
use Rattle.reading.specs.Kinds.{Const, Add, Mul, Eq, Not}
use Rattle.reading.specs.Trees.{Tree, variable, constant, apply, none, more}
use Rattle.echo_spec.specs.Input.{Problem}
use Rattle.echo_spec.specs.Answers.{reading}
use Rattle.echo_spec.specs.Examples.{node, lent, sum}
use Rattle.lets.specs.LetExamples.{over}
use Rattle.refusals.specs.declared.EchoError.TheVariants.{Room}
use Rattle.echo_kernel.specs.Answered.{answered}
use Rattle.formulas.specs.Phrases.{Reads, ReadsLines}
use Rattle.formula_text.specs.Notation.{formula}
use Rattle.formula_answers.specs.Answers.{echo_formulas_answer}
use Rattle.formula_answers.specs.AnswerExamples.{formulas_meet}
use Rattle.formula_theorems.specs.LeftOut.{parentheses, ends_inside}
use Rattle.formula_theorems.specs.MapLines.{declarations_in, map_lines}
use Rattle.claims.specs.FormulaClaims.{
  FormulasAccepts,
  formulas-accepts-exactly,
  formulas-room-only,
  formulas-one-reading,
  formula-one-reading,
  bracket-pair-needed,
  fewest-brackets,
  equal-line-equal-tree,
  equal-lines-equal-trees,
  formulas-print,
  formulas-bytes-read,
  formulas-refuse,
}

abbrev x : Tree
x = variable (bytes "x")

abbrev c : Tree
c = constant (1 ∷ 0 ∷ 1 ∷ 0 ∷ 0 ∷ 0 ∷ 0 ∷ 0 ∷ [])

abbrev two : ℕ → Tree → Tree → Tree
two k t u = apply k [] (more t (more u none))

-- ---------------------------------------------------------------- a pair of brackets

-- x times a sum, and a product plus 5
product : Problem
product = over (sum ∷ node Mul 0 2 0 0 ∷ node Eq 3 0 0 0 ∷ []) (4 ∷ []) "x"

plus : Problem
plus = over (node Mul 0 0 0 0 ∷ node Add 2 1 0 0 ∷ node Eq 3 0 0 0 ∷ []) (4 ∷ []) "x"

abbrev product_tree : Tree
product_tree = two Eq (two Mul x (two Add x c)) x

abbrev plus_tree : Tree
plus_tree = two Eq (two Add (two Mul x x) c) x

product-accepted : FormulasAccepts product (lent 60)
unfolding formulas_meet product
product-accepted = refl

plus-accepted : FormulasAccepts plus (lent 60)
unfolding formulas_meet plus
plus-accepted = refl

product-line : map_lines product ≡ bytes "|x| * (|x| + #b00000101) == |x|\n"
unfolding formulas_meet product
product-line = refl

plus-line : map_lines plus ≡ bytes "|x| * |x| + #b00000101 == |x|\n"
unfolding formulas_meet plus
plus-line = refl

product-reads : Reads (declarations_in product) (bytes "|x| * (|x| + #b00000101) == |x|") product_tree
unfolding formulas_meet product
product-reads = (formula-one-reading product (lent 60) product-accepted product_tree (inl refl) product_tree).1 refl

-- without its pair the line does not say the same
product-pair : (u : Tree) → Reads (declarations_in product) (bytes "|x| * |x| + #b00000101 == |x|") u → u ≢ product_tree
unfolding formulas_meet product ends_inside
product-pair u r =
    bracket-pair-needed product (lent 60) product-accepted product_tree (inl refl) (bytes "|x| * ") (bytes "|x| + #b00000101") (bytes " == |x|") refl refl u r

-- it says the other problem's assertion
product-without : Reads (declarations_in product) (bytes "|x| * |x| + #b00000101 == |x|") plus_tree
unfolding formulas_meet product plus
product-without = (formula-one-reading plus (lent 60) plus-accepted plus_tree (inl refl) plus_tree).1 refl

-- no text that says it has fewer
product-fewest : (b : List ℕ) → Reads (declarations_in product) b product_tree → 1 ≤ parentheses false b
unfolding formulas_meet product parentheses
product-fewest b r = fewest-brackets product (lent 60) product-accepted product_tree (inl refl) b r

-- ---------------------------------------------------------------- calls

-- a call with room for the line prints it, one with a byte less is refused with 10 and clears what was lent
product-printed : take 32 (echo_formulas_answer product (lent 60)).output ≡ bytes "|x| * (|x| + #b00000101) == |x|\n"
unfolding formulas_meet product
product-printed = (formulas-print product (lent 60) (echo_formulas_answer product (lent 60)).output 32 refl).1 ∙ product-line

product-room : (echo_formulas_answer product (lent 31)).number ≡ 10
unfolding formulas_meet product
product-room = (formulas-room-only product (lent 31)).1 (((formulas-accepts-exactly product (lent 60)).0 product-accepted).0, omega arith)

product-refused : (out : List ℕ) → answered (Err Room) out ≡ echo_formulas_answer product (lent 31) → out ≡ replicate 31 0
unfolding formulas_meet product
product-refused out c = (formulas-refuse product (lent 31) out Room c).1

-- ---------------------------------------------------------------- lines

-- the product among other nodes
later : Problem
later = over (node Const 0 8 0 0 ∷ sum ∷ node Mul 0 3 0 0 ∷ node Eq 4 0 0 0 ∷ []) (5 ∷ []) "x"

later-accepted : FormulasAccepts later (lent 60)
unfolding formulas_meet later
later-accepted = refl

equal-lines-here : (reading product).assertions ≡ (reading later).assertions
unfolding formulas_meet product later
equal-lines-here = equal-lines-equal-trees product later (lent 60) (lent 60) product-accepted later-accepted refl refl

-- the second line of one problem and the only line of another
one : Problem
one = over (sum ∷ node Eq 2 0 0 0 ∷ []) (3 ∷ []) "x"

one-accepted : FormulasAccepts one (lent 60)
unfolding formulas_meet one
one-accepted = refl

-- two roots, two lines
pair : Problem
pair = over (sum ∷ node Eq 2 0 0 0 ∷ node Eq 0 1 0 0 ∷ node Not 4 0 0 0 ∷ []) (5 ∷ 3 ∷ []) "x"

pair-accepted : FormulasAccepts pair (lent 60)
unfolding formulas_meet pair
pair-accepted = refl

pair_reads : ReadsLines (declarations_in pair) (bytes "!(|x| == #b00000101)\n|x| + #b00000101 == |x|\n")
    (more (apply Not [] (more (two Eq x c) none)) (more (two Eq (two Add x c) x) none))
unfolding formulas_meet pair
pair_reads = (formulas-one-reading pair (lent 60) pair-accepted _).1 refl

equal-line-here : (t u : Tree) → t ≡ two Eq (two Add x c) x → u ≡ two Eq (two Add x c) x → t ≡ u
unfolding formulas_meet pair one
equal-line-here t u e f =
    equal-line-equal-tree pair one (lent 60) (lent 60) pair-accepted one-accepted refl t u (inr (inl e)) (inl f) (ap formula e ∙ sym (ap formula f))

-- what a call leaves in the buffer reads as the assertion
product-bytes-read : ReadsLines (declarations_in product) (take 32 (echo_formulas_answer product (lent 60)).output) (more product_tree none)
unfolding formulas_meet product
product-bytes-read = (formulas-bytes-read product (lent 60) (echo_formulas_answer product (lent 60)).output 32 refl (more product_tree none)).1 refl
