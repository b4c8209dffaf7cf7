-- `over_limit` meets its contract: what the assertions tell.
use Rattle.script_rebuild.proofs.over_limit.Goals as goal

pub returns-in-None : goal.returns-in-None
returns-in-None c = λ D κ. c.in-None.ensures D κ

pub returns-in-Some : goal.returns-in-Some
returns-in-Some c = λ D κ. (_, c.in-Some.ensures D κ)
