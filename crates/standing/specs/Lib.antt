pub mod Standings
pub mod Frees
