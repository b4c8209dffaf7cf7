-- What is told of a release, as the code has it.
use Rattle.std.specs.Prelude.{⊤, Result, Ok, Err, ℕ, ◌<◌}
use Rattle.std.proofs.Common.{arith}
use Rattle.releases.specs.Release.{ReleaseAnswer, told}
use Rattle.script_place.specs.declared.Unread.{Unread}
use Rattle.script_place.specs.declared.Unread.TheVariants.{NoScript as NoneRebuilt, Limit as Over}
use Rattle.release.specs.declared.Reason.{Reason}
use Rattle.release.specs.declared.Reason.TheVariants.{Limit, NoScript, TwoMeanings}
use Rattle.release.specs.declared.ReleaseError.{ReleaseError}

abbrev pub reason_number : Reason → ℕ
reason_number Limit = 9
reason_number NoScript = 13
reason_number TwoMeanings = 17

-- no refusal has the number of an acceptance
pub reason-number : (r : Reason) → 0 < reason_number r
reason-number Limit = omega arith
reason-number NoScript = omega arith
reason-number TwoMeanings = omega arith

-- the refusal of a script that is not read
abbrev pub reason_of : Unread → Reason
reason_of NoneRebuilt = NoScript
reason_of Over = Limit

-- what reading a script is refused with, or 0
abbrev pub refused : Result ⊤ Reason → ℕ
refused (Ok u) = 0
refused (Err r) = reason_number r

-- the answer: 0 and 0, or the number of the refusal and its script
abbrev pub told_by : Result ⊤ ReleaseError → ReleaseAnswer
told_by (Ok u) = told 0 0
told_by (Err e) = told (reason_number e.reason) e.script
