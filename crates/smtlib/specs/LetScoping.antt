-- Examples of `let`: what is read outside and what inside, which name hides which, and sorts.
use Rattle.std.specs.Prelude.{◌≡◌, refl, List, [], ◌∷◌}
use Prim.Native.String.{String}
use Rattle.std.proofs.Math.Option.{none, some}
use Rattle.lists.specs.Bytes.{bytes}
use Rattle.lists.specs.Tests.{same}
use Rattle.reading.specs.Kinds.{BvNot}
use Rattle.reading.specs.Trees.{Tree, variable, apply, none as noTrees, more as moreTrees, Declarations}
use Rattle.smtlib.specs.Lexicon.{open⁽, close⁾, reserved, symbol}
use Rattle.smtlib.specs.Grammar.{bit_vec, plain, Term, identifier, application, binding, none as no_terms, more as moreTerms, term_tokens, Declaration, declare_const, declare_fun}
use Rattle.smtlib.specs.Readings.{Meaning, a_tree, is_variable, is_operator, operators, MeansIn, Means}
use Rattle.smtlib.specs.Sorts.{bool, same_sort, same_sorts, ranks, result_of, rank, sort_applied, both_sorts, sort_over, sort_in, sort_of}

-- a variable x of width 8 and a function f from one bit-vector of that width to another
abbrev declared : Declarations
declared = record {
  variables = record { name = bytes "x"; width = 8 } ∷ [];
  arrays = [];
  functions = record { name = bytes "f"; arguments = 8 ∷ []; width = 8 } ∷ [];
}

abbrev commands : List Declaration
commands = declare_const (bytes "x") (bit_vec 8) ∷ declare_fun (bytes "f") (bit_vec 8 ∷ []) (bit_vec 8) ∷ []

abbrev name : String → Term
name n = identifier (bytes n)

abbrev flipped : Term → Term
flipped t = application (plain (bytes "bvnot")) t no_terms

abbrev flipped_tree : Tree → Tree
flipped_tree t = apply BvNot [] (moreTrees t noTrees)

x : Tree
x = variable (bytes "x")

-- (let ((y x)) y)
tokens : term_tokens (binding (bytes "y") (name "x") (name "y"))
    ≡ open⁽ ∷ reserved (bytes "let") ∷ open⁽ ∷ open⁽ ∷ symbol (bytes "y") ∷ symbol (bytes "x") ∷ close⁾ ∷ close⁾ ∷ symbol (bytes "y") ∷ close⁾ ∷ []
unfolding term_tokens
tokens = refl

-- (let ((x (bvnot x))) x): the bound x is read outside, where it is the declared one; the body's x is the bound one
bound-outside : Means declared (binding (bytes "x") (flipped (name "x")) (name "x")) (a_tree (flipped_tree (variable (bytes "x"))))
unfolding MeansIn bytes same operators
bound-outside = (
  a_tree (flipped_tree (variable (bytes "x"))),
  (a_tree (variable (bytes "x")), [], is_variable tt refl, tt, is_operator BvNot (moreTrees (variable (bytes "x")) noTrees) tt refl refl),
  refl,
)

-- (let ((y x)) (let ((y (bvnot y))) y)): the inner y hides the outer, and its term has the outer
inner-hides : Means declared (binding (bytes "y") (name "x") (binding (bytes "y") (flipped (name "y")) (name "y"))) (a_tree (flipped_tree (variable (bytes "x"))))
unfolding MeansIn bytes same operators
inner-hides = (
  a_tree (variable (bytes "x")),
  is_variable tt refl,
  (
    a_tree (flipped_tree (variable (bytes "x"))),
    (a_tree (variable (bytes "x")), [], refl, tt, is_operator BvNot (moreTrees (variable (bytes "x")) noTrees) tt refl refl),
    refl,
  ),
)

-- (let ((f x)) (f x)) means nothing: the bound f is no function
no-function-inside : (m : Meaning) → Means declared (binding (bytes "f") (name "x") (application (plain (bytes "f")) (name "x") no_terms)) m → ⊥
unfolding MeansIn bytes same
no-function-inside m (u, h, (v, vs, k, l, a)) = a

-- sorts: (let ((y x)) (= y x)) is a Bool; (let ((x (= x x))) x) is a Bool; (let ((f x)) (f x)) has no sort
sorts : (sort_of commands (binding (bytes "y") (name "x") (application (plain (bytes "=")) (name "y") (moreTerms (name "x") no_terms))) ≡ some bool)
    × (sort_of commands (binding (bytes "x") (application (plain (bytes "=")) (name "x") (moreTerms (name "x") no_terms)) (name "x")) ≡ some bool)
    × (sort_of commands (binding (bytes "f") (name "x") (application (plain (bytes "f")) (name "x") no_terms)) ≡ none)
unfolding sort_in both_sorts sort_over sort_applied rank ranks result_of same_sorts same_sort bytes same
sorts = (refl, refl, refl)
