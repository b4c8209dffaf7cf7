-- `begin` meets its contract: nothing that has a sort, or the state after the head.
use Rattle.script_terms.specs.OpenLaws.{failed-going}
use Rattle.script_terms.proofs.begin.Goals as goal

pub returns-in-None : goal.returns-in-None
returns-in-None c = λ D κ. failed-going (c.in-None.ensures D κ) c.requires.1
