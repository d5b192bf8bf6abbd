pub mod Told
pub mod Ranges
