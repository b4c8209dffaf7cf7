pub mod TermsRead
pub mod ScriptsRead
pub mod TermsStrict
pub mod ScriptsStrict
