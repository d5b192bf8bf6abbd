pub mod Celled
pub mod Stretches
pub mod Places
pub mod Wiped
