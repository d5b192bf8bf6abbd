pub mod Answers
pub mod Keys
pub mod Repeats
pub mod Ways
