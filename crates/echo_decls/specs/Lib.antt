pub mod NumberedLines
pub mod DeclaredLines
pub mod Declarable
