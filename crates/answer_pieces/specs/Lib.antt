pub mod Pieces
pub mod Texts
pub mod Lines
