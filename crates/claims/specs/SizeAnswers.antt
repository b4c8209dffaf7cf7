-- The answer of `echo_size` taken apart.
use Rattle.std.specs.Prelude.{ℕ, zero, suc, ◌≡◌, refl, List, [], ◌∷◌, T, leb, length}
use Rattle.std.proofs.Common.{sym, ◌∙◌}
use Rattle.std.proofs.Math.Path.{ap}
use Rattle.lists.specs.Tests.{among}
use Rattle.echo_spec.specs.Refusals.{unless, ◌or_else◌}
use Rattle.echo_spec.specs.Input.{Problem, Query, query_of}
use Rattle.echo_spec.specs.Answers.{script, endless_refusal, text_refusal, echo_ext_answer}
use Rattle.sizes.specs.Size.{terms_entered, size_with, echo_size_answer}
use Rattle.echo_spec.specs.Accepted.{endless_number}
use Rattle.echo_spec.proofs.Accepted.{endless-number}
use Rattle.theorems.specs.Answered.{text-number}

with_number : (n : ℕ) (q : Query) → (size_with n q).number ≡ n
unfolding size_with
with_number zero q = refl
with_number (suc n) q = refl

module _ (p : Problem) where
  pub size_number : (echo_size_answer p).number ≡ endless_refusal p
  unfolding echo_size_answer
  size_number = with_number (endless_refusal p) (query_of p)

  pub endless-listed : T (among (0 ∷ 1 ∷ 2 ∷ 3 ∷ 4 ∷ 5 ∷ 6 ∷ 7 ∷ 8 ∷ 9 ∷ 12 ∷ []) (echo_size_answer p).number)
  unfolding endless_number
  endless-listed = rw size_number (endless-number p)

  by_number : {n : ℕ} → (echo_size_answer p).number ≡ n → echo_size_answer p ≡ size_with n (query_of p)
  unfolding echo_size_answer
  by_number e = ap (λ (n : ℕ). size_with n (query_of p)) (sym size_number ∙ e)

  pub size-accepted : (echo_size_answer p).number ≡ 0
      → echo_size_answer p ≡ record { number = 0; length = length (script (query_of p)); terms = terms_entered (query_of p) }
  unfolding size_with
  size-accepted e = by_number e

  pub size_none : (n : ℕ) → (echo_size_answer p).number ≡ suc n → echo_size_answer p ≡ record { number = suc n; length = 0; terms = 0 }
  unfolding size_with
  size_none n e = by_number e

  -- a refusal with endless room is the printer's
  pub endless-refuses : (lent : List ℕ) (n : ℕ) → endless_refusal p ≡ suc n → (echo_ext_answer p lent).number ≡ suc n
  unfolding echo_ext_answer text_refusal
  endless-refuses lent n e =
      text-number (endless_refusal p) (script (query_of p)) lent ∙ ap (λ (k : ℕ). k or_else unless (leb (length (script (query_of p))) (length lent)) 10) e
