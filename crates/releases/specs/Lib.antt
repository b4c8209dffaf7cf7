-- One meaning for a name in a release (document 02, L12): what `check_release` answers, computed examples, and laws.
pub mod Release
pub mod ReleaseExamples
pub mod ReleaseLaws
pub mod ReleaseScripts
