-- What is told of a release in two numbers: they are those of the answer.
use Rattle.releases.specs.Release as releases
use Rattle.releases.specs.Release.{told}
use Rattle.release.specs.declared.numbers.ReleaseAnswer.{ReleaseAnswer}

abbrev pub numbers_of : ReleaseAnswer → releases.ReleaseAnswer
numbers_of r = told r.number r.script
