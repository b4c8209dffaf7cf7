-- What `echo_size` answers (document 02, L1): the number that printing gives with endless room, the length of the script, and how many
-- terms the walk enters.
use Rattle.std.specs.Prelude.{ℕ, zero, suc, ◌+◌, length}
use Rattle.reading.specs.Trees.{Tree, variable, constant, apply, select, call, Trees, none, more, Stores, base, store}
use Rattle.echo_spec.specs.Input.{Problem, Query, query_of}
use Rattle.echo_spec.specs.Trees.{reading_of}
use Rattle.echo_spec.specs.Answers.{script, endless_refusal}

-- ---------------------------------------------------------------- the terms of a tree

-- Variables, constants and operators are terms, each as often as it stands in the tree. `leaf` is added for each variable and constant,
-- and `operator` for each other term: a call without arguments is one of these. The numerals of an operator, and so a rotation's amount,
-- are no terms. A select is one, with its index and the index and value of each store; the array's name and the stores are none.
unfoldable mutual
  pub weigh : ℕ → ℕ → Tree → ℕ
  weigh leaf operator (variable name) = leaf
  weigh leaf operator (constant bits) = leaf
  weigh leaf operator (apply kind numerals ts) = operator + weigh_all leaf operator ts
  weigh leaf operator (select array index ss) = operator + (weigh_stores leaf operator ss + weigh leaf operator index)
  weigh leaf operator (call name ts) = operator + weigh_all leaf operator ts

  pub weigh_all : ℕ → ℕ → Trees → ℕ
  weigh_all leaf operator none = 0
  weigh_all leaf operator (more t ts) = weigh leaf operator t + weigh_all leaf operator ts

  pub weigh_stores : ℕ → ℕ → Stores → ℕ
  weigh_stores leaf operator base = 0
  weigh_stores leaf operator (store index value ss) = weigh_stores leaf operator ss + (weigh leaf operator index + weigh leaf operator value)

-- ---------------------------------------------------------------- of a query

-- the terms of the roots' trees
unfoldable pub terms_entered : Query → ℕ
terms_entered q = weigh_all 1 1 (reading_of q).assertions

-- those that are neither variables nor constants
unfoldable pub operators_entered : Query → ℕ
operators_entered q = weigh_all 0 1 (reading_of q).assertions

-- ---------------------------------------------------------------- the answer

-- number 0 is an acceptance
pub record SizeAnswer : Type 0 where
  pub number : ℕ
  pub length : ℕ
  pub terms : ℕ

-- by the number with endless room: a refusal has length and count 0
unfoldable pub size_with : ℕ → Query → SizeAnswer
size_with zero q = record { number = 0; length = length (script q); terms = terms_entered q }
size_with (suc n) q = record { number = suc n; length = 0; terms = 0 }

unfoldable pub echo_size_answer : Problem → SizeAnswer
echo_size_answer p = size_with (endless_refusal p) (query_of p)
