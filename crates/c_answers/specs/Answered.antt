-- What the exports answer, with the lent slice as it is then.
use Rattle.std.specs.Prelude.{ℕ, ◌≡◌, List, length, get_or}
use Rattle.echo_spec.specs.Answers.{Answer}
use Rattle.sizes.specs.Size as sizes
use Rattle.fewest.specs.Fewest as fewest
use Rattle.c_answers.specs.declared.EchoAnswer.{EchoAnswer}
use Rattle.c_answers.specs.declared.WidthAnswer.{WidthAnswer}
use Rattle.c_answers.specs.declared.SizeAnswer.{SizeAnswer}
use Rattle.c_answers.specs.declared.FewestAnswer.{FewestAnswer}

abbrev pub printed : EchoAnswer → List ℕ → Answer
printed r out = record { number = r.number; count = r.length; output = out }

abbrev pub told : SizeAnswer → sizes.SizeAnswer
told r = record { number = r.number; length = r.length; terms = r.terms }

abbrev pub passed : WidthAnswer → List ℕ → Answer
passed r out = record { number = r.number; count = r.count; output = out }

-- the number, how many positions there are, and the first two of them, or 0
pub record Chosen (number count first second : ℕ) (a : fewest.FewestAnswer) : Type 0 where
  pub told : number ≡ a.number
  pub counted : count ≡ length a.positions
  pub at_first : first ≡ get_or a.positions 0 0
  pub at_second : second ≡ get_or a.positions 1 0

abbrev pub chosen : FewestAnswer → fewest.FewestAnswer → Type 0
chosen r a = Chosen r.number r.count r.first r.second a
