pub mod Signs
pub mod Notated
pub mod Pieces
pub mod PieceLaws
