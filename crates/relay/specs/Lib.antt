pub mod States
pub mod Seen
pub mod Abouts
pub mod Moves
