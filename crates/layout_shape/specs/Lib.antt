pub mod Layout
pub mod Reading
pub mod LayoutLaws
pub mod Examples
