-- The claims on `echo_let` at problems: each speaks of something.
use Rattle.std.specs.Prelude.{ℕ, ◌≡◌, refl, List, [], ◌∷◌, not, T}
use Rattle.std.proofs.Common.{sym, subst}
use Rattle.lists.specs.Tests.{same}
use Rattle.reading.specs.Kinds.{Const, Eq}
use Rattle.smtlib.specs.Grammar.{Script}
use Rattle.smtlib.specs.Readings.{Reads}
use Rattle.smtlib.specs.Sorts.{WellSorted}
use Rattle.echo_spec.specs.Input.{Problem}
use Rattle.echo_spec.specs.Answers.{reading, echo_ext_answer}
use Rattle.lets.specs.Lets.{echo_let_answer}
use Rattle.echo_spec.specs.Examples.{node, lent, sum}
use Rattle.lets.specs.LetExamples.{over, lets_meet}
use Rattle.theorems.specs.LetPrinted.{let_printed}
use Rattle.claims.specs.LetClaims.{LetAccepts, let-well-sorted, let-one-reading, prints-as-before}

-- two sums used once each, and one sum used twice
once : Problem
once = over (sum ∷ sum ∷ node Eq 2 3 0 0 ∷ []) (4 ∷ []) "x"

twice : Problem
twice = over (sum ∷ node Eq 2 2 0 0 ∷ []) (3 ∷ []) "x"

once-accepted : LetAccepts once (lent 300)
unfolding lets_meet once
once-accepted = refl

twice-accepted : LetAccepts twice (lent 300)
unfolding lets_meet twice
twice-accepted = refl

-- their trees are equal, and their bytes are not
equal-trees-other-bytes : (reading once ≡ reading twice) × (let_printed once ≡ let_printed twice → ⊥)
unfolding lets_meet once twice
equal-trees-other-bytes = (refl, λ e. subst (λ (b : List ℕ). T (not (same (let_printed once) b))) (sym e) tt)

-- the same sum with another number: the name that it is bound under is another
later : Problem
later = over (node Const 0 8 0 0 ∷ sum ∷ node Eq 3 3 0 0 ∷ []) (4 ∷ []) "x"

later-accepted : LetAccepts later (lent 300)
unfolding lets_meet later
later-accepted = refl

equal-trees-other-names : (reading later ≡ reading twice) × (let_printed later ≡ let_printed twice → ⊥)
unfolding lets_meet later twice
equal-trees-other-names = (refl, λ e. subst (λ (b : List ℕ). T (not (same (let_printed later) b))) (sym e) tt)

-- the plain printer refuses the second with 6
refused-before : (echo_ext_answer twice (lent 300)).number ≡ 6
unfolding lets_meet twice
refused-before = refl

read_twice : Reads (let_printed twice) (reading twice)
read_twice = (let-one-reading twice (lent 300) twice-accepted (reading twice)).1 refl

sorted-twice : (s : Script) × WellSorted s
sorted-twice = let w = let-well-sorted twice (lent 300) twice-accepted in (w.0, w.2)

-- the first prints as before
same_once : echo_let_answer once (lent 300) ≡ echo_ext_answer once (lent 300)
unfolding lets_meet once
same_once = prints-as-before once tt (lent 300)

-- a declared name that is a shared node's is 11
clash-11 : (echo_let_answer (over (sum ∷ node Eq 2 2 0 0 ∷ []) (3 ∷ []) "d2") (lent 300)).number ≡ 11
unfolding lets_meet
clash-11 = refl
