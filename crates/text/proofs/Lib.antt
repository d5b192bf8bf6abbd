pub mod Named
pub mod Joins
pub mod Padded
pub mod Chains
pub mod Tries
