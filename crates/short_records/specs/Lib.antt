pub mod Short
pub mod Outcomes
pub mod Examples
pub mod RecordLaws
pub mod RoundTrips
pub mod Words
pub mod Numbers
