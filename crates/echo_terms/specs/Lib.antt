pub mod TermTable
