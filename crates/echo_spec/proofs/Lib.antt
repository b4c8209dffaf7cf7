pub mod Accepted
pub mod NodeLaws
pub mod NameLaws
pub mod SortedTrees
pub mod EncodingLaws
pub mod LimitExamples
