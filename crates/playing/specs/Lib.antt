pub mod Logs
pub mod Plays
