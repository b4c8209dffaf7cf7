-- What is promised, by subject: the printer and the width pass (`Claims`), array widths (`ArrayClaims`), sizes (`SizeClaims`), the hidden form
-- (`HiddenClaims`), shared terms with `let` (`LetClaims`), files of scripts (`JoinedScripts`), shorter records (`RecordClaims`), the replay
-- of traces (`TraceClaims`), the fewest roots (`FewestClaims`), formulas (`FormulaClaims`), scripts read back (`ReadClaims`), the names of a release
-- (`ReleaseClaims`). The files of instances show that each claim speaks of something.
pub mod WidthAnswers
pub mod SizeAnswers
pub mod HiddenAnswers
pub mod Claims
pub mod ArrayClaims
pub mod ArrayInstances
pub mod SizeClaims
pub mod HiddenClaims
pub mod Instances
pub mod SizeInstances
pub mod HiddenInstances
pub mod LetClaims
pub mod LetInstances
pub mod JoinedScripts
pub mod JoinedInstances
pub mod RecordClaims
pub mod RecordInstances
pub mod FewestClaims
pub mod TraceClaims
pub mod TraceInstances
pub mod FormulaClaims
pub mod FormulaInstances
pub mod ReadClaims
pub mod ReadInstances
pub mod ReleaseClaims
pub mod ReleaseInstances
