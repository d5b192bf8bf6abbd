pub mod Refusals
pub mod Rewrites
